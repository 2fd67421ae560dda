-- Parts of blocks of the supplied program. Cited by private contracts alone.
use Rattle.std.specs.Prelude.{ℕ, List, [], ◌∷◌}
use Rattle.lb_syntax.specs.Tree.{Term, Number, Variable, Operation}
use Rattle.lb_syntax.specs.Tree.{Command, Sets, Chooses, Repeats, Ends}
use Rattle.lb_syntax.specs.declared.tree.Op.TheVariants.{And, Eq}
use Rattle.lb_bulb.specs.Supplied.{a_, bad_, e_, i_, len_, n_, s_, v_, x_}
use Rattle.lb_builders.specs.Registers.{writes}
use Rattle.lb_bulb.specs.Supplied.{shifted, low_byte, is_zero, stands_still, until}
use Rattle.lb_bulb.specs.Supplied.{exchange_in, with_byte_at, read_in, receive_test, receive_body}
use Rattle.lb_bulb.specs.Supplied.{byte_of, bad_where, too_short, too_long, checking}

-- another byte of a transaction is exchanged
abbrev pub next_in : List ℕ → Term → Command
next_in x b = exchange_in x b (Variable e_)

-- a transaction begins, and sends the address
abbrev pub opening : ℕ → List Command
opening first =
    writes 0x1002_4018 (Number 2) ∷ exchange_in x_ (Number first) (Number 0)
    ∷ next_in x_ (shifted a_ 8) ∷ next_in x_ (low_byte (Variable a_)) ∷ []

-- it ends, and nothing more happens where an exchange was in vain
abbrev pub closing : List Command
closing = writes 0x1002_4018 (Number 0) ∷ stands_still e_ ∷ []

-- the bytes of the value are read
abbrev pub value_read : List Command
value_read =
    next_in v_ (Number 0) ∷ next_in x_ (Number 0) ∷ with_byte_at 8 ∷ next_in x_ (Number 0)
    ∷ with_byte_at 16 ∷ next_in x_ (Number 0) ∷ with_byte_at 24 ∷ []

-- the bytes of the value are sent
abbrev pub value_sent : List Command
value_sent =
    next_in x_ (low_byte (Variable v_)) ∷ next_in x_ (low_byte (shifted v_ 8))
    ∷ next_in x_ (low_byte (shifted v_ 16)) ∷ next_in x_ (shifted v_ 24) ∷ []

-- a register is waited for
abbrev pub waiting : ℕ → Term → List Command
waiting a flag =
    Sets n_ (Number 1000) ∷ Sets bad_ (Number 1) ∷ until a flag ∷ stands_still bad_ ∷ []

-- some bits of a packet's status
abbrev pub status_bits : ℕ → ℕ → Term
status_bits k mask = Operation And (shifted s_ k) (Number mask)

-- a byte of the packet is this one
abbrev pub byte_is : ℕ → ℕ → Term
byte_is k b = Operation Eq (byte_of k) (Number b)

-- a packet's status and its words are read
abbrev pub receiving_commands : List Command
receiving_commands =
    read_in s_ 0x40 ∷ Sets len_ (status_bits 16 0x3FFF) ∷ Sets i_ (Number 0)
    ∷ Repeats receive_test receive_body ∷ []

-- whether it counts, and what it does then
abbrev pub judging_commands : List Command
judging_commands =
    Sets bad_ (status_bits 15 1) ∷ bad_where too_short ∷ bad_where too_long
    ∷ Chooses (is_zero bad_) checking Ends ∷ []
