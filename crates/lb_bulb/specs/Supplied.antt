-- The supplied program, as a tree.
use Rattle.std.specs.Prelude.{ℕ, List, [], ◌∷◌, codes}
use Rattle.lb_syntax.specs.Names.{Text}
use Rattle.lb_syntax.specs.Tree.{Term, Number, Variable, Loaded, Operation, Procedure, chain}
use Rattle.lb_syntax.specs.Tree.{Command, Skips, Sets, Stores, Allocates, Chooses, Repeats}
use Rattle.lb_syntax.specs.Tree.{Calls, Ends, Then}
use Rattle.lb_syntax.specs.declared.tree.Op.TheVariants.{Add, Sub, And, Or, Sru, Slu, Ltu, Eq}
use Rattle.lb_syntax.specs.declared.tree.Width.TheVariants.{One, Four}
use Rattle.lb_builders.specs.Registers.{reads, writes}

-- ---- names

abbrev pub a_ : Text
a_ = codes "a"

abbrev pub b_ : Text
b_ = codes "b"

abbrev pub c_ : Text
c_ = codes "c"

abbrev pub e_ : Text
e_ = codes "e"

abbrev pub i_ : Text
i_ = codes "i"

abbrev pub n_ : Text
n_ = codes "n"

abbrev pub r_ : Text
r_ = codes "r"

abbrev pub s_ : Text
s_ = codes "s"

abbrev pub v_ : Text
v_ = codes "v"

abbrev pub x_ : Text
x_ = codes "x"

abbrev pub bad_ : Text
bad_ = codes "bad"

abbrev pub buf_ : Text
buf_ = codes "buf"

abbrev pub len_ : Text
len_ = codes "len"

abbrev pub ok_ : Text
ok_ = codes "ok"

abbrev pub spi_xchg : Text
spi_xchg = codes "spi_xchg"

abbrev pub lan_read : Text
lan_read = codes "lan_read"

abbrev pub lan_write : Text
lan_write = codes "lan_write"

-- ---- commands

abbrev pub shifted : Text → ℕ → Term
shifted x k = Operation Sru (Variable x) (Number k)

abbrev pub low_byte : Term → Term
low_byte e = Operation And e (Number 255)

abbrev pub is_zero : Text → Term
is_zero x = Operation Eq (Variable x) (Number 0)

-- the flag is set and polls are left
abbrev pub goes_on : Term → Term
goes_on flag = Operation And flag (Operation Ltu (Number 0) (Variable n_))

abbrev pub count_down : Command
count_down = Sets n_ (Operation Sub (Variable n_) (Number 1))

abbrev pub stands_still : Text → Command
stands_still x = Repeats (Variable x) (chain (Skips ∷ []))

-- ---- spi_xchg

abbrev pub poll_turn : ℕ → Command
poll_turn a = chain (reads r_ a ∷ count_down ∷ [])

abbrev pub poll : ℕ → Command
poll a = Repeats (goes_on (shifted r_ 31)) (poll_turn a)

abbrev pub after_sending : Command
after_sending =
    chain (
    writes 0x1002_4048 (Variable b_) ∷ Sets n_ (Number 1000) ∷ Sets r_ (Number 0x8000_0000)
    ∷ poll 0x1002_404C ∷ Sets e_ (shifted r_ 31) ∷ Sets r_ (low_byte (Variable r_)) ∷ []
    )

abbrev pub exchanging : Command
exchanging =
    chain (
    Sets n_ (Number 1000) ∷ Sets r_ (Number 0x8000_0000) ∷ poll 0x1002_4048
    ∷ Sets e_ (shifted r_ 31) ∷ Chooses (is_zero e_) after_sending Ends ∷ []
    )

abbrev pub xchg_body : Command
xchg_body = chain (Sets r_ (Number 0) ∷ Chooses (is_zero e_) exchanging Ends ∷ [])

-- ---- lan_read, lan_write

abbrev pub exchange_in : Text → Term → Term → Command
exchange_in x b e = Calls (x ∷ e_ ∷ []) spi_xchg (b ∷ e ∷ [])

abbrev pub with_byte_at : ℕ → Command
with_byte_at k = Sets v_ (Operation Or (Variable v_) (Operation Slu (Variable x_) (Number k)))

abbrev pub read_body : Command
read_body =
    chain (
    writes 0x1002_4018 (Number 2)
    ∷ exchange_in x_ (Number 11) (Number 0)
    ∷ exchange_in x_ (shifted a_ 8) (Variable e_)
    ∷ exchange_in x_ (low_byte (Variable a_)) (Variable e_)
    ∷ exchange_in x_ (Number 0) (Variable e_)
    ∷ exchange_in v_ (Number 0) (Variable e_)
    ∷ exchange_in x_ (Number 0) (Variable e_) ∷ with_byte_at 8
    ∷ exchange_in x_ (Number 0) (Variable e_) ∷ with_byte_at 16
    ∷ exchange_in x_ (Number 0) (Variable e_) ∷ with_byte_at 24
    ∷ writes 0x1002_4018 (Number 0) ∷ stands_still e_ ∷ []
    )

abbrev pub write_body : Command
write_body =
    chain (
    writes 0x1002_4018 (Number 2)
    ∷ exchange_in x_ (Number 2) (Number 0)
    ∷ exchange_in x_ (shifted a_ 8) (Variable e_)
    ∷ exchange_in x_ (low_byte (Variable a_)) (Variable e_)
    ∷ exchange_in x_ (low_byte (Variable v_)) (Variable e_)
    ∷ exchange_in x_ (low_byte (shifted v_ 8)) (Variable e_)
    ∷ exchange_in x_ (low_byte (shifted v_ 16)) (Variable e_)
    ∷ exchange_in x_ (shifted v_ 24) (Variable e_)
    ∷ writes 0x1002_4018 (Number 0) ∷ stands_still e_ ∷ []
    )

-- ---- init

abbrev pub read_in : Text → ℕ → Command
read_in x a = Calls (x ∷ []) lan_read (Number a ∷ [])

abbrev pub write_out : ℕ → ℕ → Command
write_out a v = Calls [] lan_write (Number a ∷ Number v ∷ [])

abbrev pub until_turn : ℕ → Term → Command
until_turn a flag = chain (read_in v_ a ∷ Sets bad_ flag ∷ count_down ∷ [])

-- a register is read until a test of it is 0, at most 1,000 times
abbrev pub until : ℕ → Term → Command
until a flag = Repeats (goes_on (Variable bad_)) (until_turn a flag)

abbrev pub is_vain : Term
is_vain = Operation Eq (Operation Eq (Variable v_) (Number 0x8765_4321)) (Number 0)

-- the chip was found
abbrev pub setting_up : Command
setting_up =
    chain (
    write_out 0x74 0x10_0000 ∷ write_out 0xA8 12 ∷ write_out 0xA4 0x8000_0001
    ∷ Sets n_ (Number 1000) ∷ Sets bad_ (Number 1) ∷ until 0xA4 (shifted v_ 31)
    ∷ stands_still bad_ ∷ []
    )

abbrev pub init_body : Command
init_body =
    Then (writes 0x1001_2038 (Number 0x3C)) (Then (writes 0x1001_2008 (Number 0x80_0000))
    (Then (Sets n_ (Number 1000)) (Then (Sets bad_ (Number 1))
    (Then (until 0x64 is_vain) (Then (stands_still bad_) setting_up)))))

-- ---- loop

abbrev pub byte_of : ℕ → Term
byte_of k = Loaded One (Operation Add (Variable buf_) (Number k))

abbrev pub receive_test : Term
receive_test = Operation Ltu (Variable i_) (Variable len_)

abbrev pub store_word : Command
store_word = Stores Four (Operation Add (Variable buf_) (Variable i_)) (Variable v_)

abbrev pub keep : Command
keep = Chooses (Operation Ltu (Variable i_) (Number 1520)) (chain (store_word ∷ [])) Ends

abbrev pub next_word : Command
next_word = Sets i_ (Operation Add (Variable i_) (Number 4))

abbrev pub receive_body : Command
receive_body = chain (read_in v_ 0 ∷ keep ∷ next_word ∷ [])

abbrev pub and_byte : ℕ → ℕ → Command
and_byte k b = Sets ok_ (Operation And (Variable ok_) (Operation Eq (byte_of k) (Number b)))

-- the word of the pins with bit 23 set to the command
abbrev pub switched : Term
switched =
    Operation Or (Operation And (Variable v_) (Number 0xFF7F_FFFF))
    (Operation Slu (Variable c_) (Number 23))

abbrev pub switching : Command
switching =
    chain (
    Sets c_ (Operation And (byte_of 42) (Number 1)) ∷ reads v_ 0x1001_200C
    ∷ Sets v_ switched
    ∷ writes 0x1001_200C (Variable v_) ∷ []
    )

abbrev pub checking : Command
checking =
    chain (
    Sets ok_ (Operation Eq (byte_of 12) (Number 8)) ∷ and_byte 13 0 ∷ and_byte 14 0x45
    ∷ and_byte 23 0x11 ∷ Chooses (Variable ok_) switching Ends ∷ []
    )

abbrev pub too_short : Term
too_short = Operation Ltu (Variable len_) (Number 43)

abbrev pub too_long : Term
too_long = Operation Ltu (Number 1520) (Variable len_)

-- the packet doesn't count where this holds
abbrev pub bad_where : Term → Command
bad_where test = Chooses test (chain (Sets bad_ (Number 1) ∷ [])) Ends

-- the flag was set from the status
abbrev pub deciding : Command
deciding =
    chain (bad_where too_short ∷ bad_where too_long ∷ Chooses (is_zero bad_) checking Ends ∷ [])

-- the words were read
abbrev pub judging : Command
judging = Then (Sets bad_ (Operation And (shifted s_ 15) (Number 1))) deciding

-- the length is known
abbrev pub receiving : Command
receiving = Then (Sets i_ (Number 0)) (Then (Repeats receive_test receive_body) judging)

-- the status was read
abbrev pub packet_body : Command
packet_body = Then (Sets len_ (Operation And (shifted s_ 16) (Number 0x3FFF))) receiving

abbrev pub filled_body : Command
filled_body = Then (read_in s_ 0x40) packet_body

-- bits 23 to 16 of the register: how many packets wait
abbrev pub packet_waits : Term
packet_waits = low_byte (shifted v_ 16)

abbrev pub round_body : Command
round_body = chain (read_in v_ 0x7C ∷ Chooses packet_waits filled_body Ends ∷ [])

abbrev pub loop_body : Command
loop_body = chain (Allocates 1520 buf_ round_body ∷ [])

-- ---- the whole

abbrev pub function : Text → List Text → List Text → Command → Procedure
function f params results body =
    record { name = f; params = params; results = results; body = body }

abbrev pub xchg_procedure : Procedure
xchg_procedure = function spi_xchg (b_ ∷ e_ ∷ []) (r_ ∷ e_ ∷ []) xchg_body

abbrev pub read_procedure : Procedure
read_procedure = function lan_read (a_ ∷ []) (v_ ∷ []) read_body

abbrev pub write_procedure : Procedure
write_procedure = function lan_write (a_ ∷ v_ ∷ []) [] write_body

abbrev pub init_procedure : Procedure
init_procedure = function (codes "init") [] [] init_body

abbrev pub loop_procedure : Procedure
loop_procedure = function (codes "loop") [] [] loop_body

abbrev pub supplied : List Procedure
supplied =
    xchg_procedure ∷ read_procedure ∷ write_procedure ∷ init_procedure ∷ loop_procedure ∷ []
