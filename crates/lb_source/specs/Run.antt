-- What the commands of the language do.
use Rattle.std.specs.Prelude.{ℕ, zero, suc, ◌+◌, ◌-◌, ◌/◌, ◌%◌, ◌^◌, ◌==◌, if◌then◌else◌, List, [], ◌∷◌, ◌++◌, drop, length, map, Option, Some, None, Result, Ok, Err}
use Rattle.std.specs.Str.{bytes_eq}
use Rattle.lb_syntax.specs.Names.{Text}
use Rattle.lb_syntax.specs.Tree.{Term, Variable}
use Rattle.lb_syntax.specs.Tree.{Command, Skips, Sets, Unsets, Stores, Allocates, Chooses, Repeats, Calls, Interacts, Ends, Then}
use Rattle.lb_syntax.specs.Needs.{sites}
use Rattle.lb_syntax.specs.declared.tree.Action.{Action}
use Rattle.lb_syntax.specs.declared.tree.Action.TheVariants.{Read, Write}
use Rattle.lb_memory.specs.Map.{is_device}
use Rattle.lb_trace.specs.declared.Event.{Event}
use Rattle.lb_trace.specs.declared.Event.TheVariants.{Ld, St}
use Rattle.lb_source.specs.Maps.{Variables, Memory, put, no_variables, with_range}
use Rattle.lb_source.specs.Value.{value, values, byte_count}
use Rattle.lb_source.specs.declared.ends.Reason.{Reason}
use Rattle.lb_source.specs.declared.ends.Reason.TheVariants.{NotOwned, Unaligned, OutOfRange}
use Rattle.lb_source.specs.declared.ends.SourceEnd.{SourceEnd}
use Rattle.lb_source.specs.declared.ends.SourceEnd.TheVariants.{Spent, Starved, Undefined}

-- a running program: its variables, the bytes that it owns, the stack pointer, the replies that devices
-- have left, the accesses so far, and the fuel left
pub record State : Type 0 where
  pub variables : Variables
  pub memory : Memory
  pub stack : ℕ
  pub replies : List ℕ
  pub trace : List Event
  pub fuel : ℕ

-- a run goes on from a state, or has ended
pub data Outcome : Type 0 where
  Goes : State → Outcome
  Stops : (trace : List Event) → (end : SourceEnd) → Outcome

-- ---- ways to go on

-- one after the other
abbrev pub then_do : Outcome → (State → Outcome) → Outcome
then_do (Goes s) go = go s
then_do (Stops trace end) go = Stops trace end

-- what fails is undefined with its reason
abbrev pub with_value : {A : Type 0} → Result A Reason → State → (A → Outcome) → Outcome
with_value (Ok v) s go = go v
with_value (Err reason) s go = Stops s.trace (Undefined reason)

-- the first at 0, else the second
abbrev pub at_zero : ℕ → Outcome → Outcome → Outcome
at_zero zero a b = a
at_zero (suc v) a b = b

-- one fuel less, of this much
abbrev pub spend : ℕ → State → (State → Outcome) → Outcome
spend zero s go = Stops s.trace Spent
spend (suc f) s go = go (record s { fuel = f })

-- the next of these replies, which an access at the address gets
abbrev pub ask : List ℕ → ℕ → State → (ℕ → State → Outcome) → Outcome
ask [] a s go = Stops s.trace Starved
ask (v ∷ vs) a s go = go v (record s { replies = vs; trace = s.trace ++ Ld a v ∷ [] })

-- undefined where there is a reason
abbrev pub unless : Option Reason → State → Outcome → Outcome
unless None s go = go
unless (Some reason) s go = Stops s.trace (Undefined reason)

-- ---- variables and memory

abbrev pub value_in : State → Term → Result ℕ Reason
value_in s e = value s.variables s.memory e

abbrev pub values_in : State → List Term → Result (List ℕ) Reason
values_in s es = values s.variables s.memory es

-- a variable set
abbrev pub set : Text → ℕ → State → State
set x v s = record s { variables = put x (Some v) s.variables }

-- variables set in turn, as far as there are values
abbrev pub set_all : List Text → List ℕ → Variables → Variables
set_all [] vs variables = variables
set_all (x ∷ xs) [] variables = variables
set_all (x ∷ xs) (v ∷ vs) variables = set_all xs vs (put x (Some v) variables)

-- only where the byte is owned
abbrev pub if_owned : Option (Option ℕ) → Result Memory Reason → Result Memory Reason
if_owned None go = Err NotOwned
if_owned (Some byte) go = go

-- the low n bytes of a value written from an address on, modulo 2^32, the least significant first
abbrev pub store : ℕ → ℕ → ℕ → Memory → Result Memory Reason
store zero a v memory = Ok memory
store (suc n) a v memory =
    if_owned (memory (a % 2 ^ 32)) (store n (a + 1) (v / 256) (with_range (a % 2 ^ 32) 1 (Some (Some (v % 256))) memory))

-- where the block of the next site stands: its offset above the stack pointer
abbrev pub block_at : ℕ → List ℕ → ℕ
block_at stack [] = stack
block_at stack (offset ∷ offsets) = stack + offset

-- the block's bytes owned, all unset, and its address in the target
abbrev pub allocated : ℕ → ℕ → Text → State → State
allocated base n x s = record s { variables = put x (Some base) s.variables; memory = with_range base n (Some None) s.memory }

-- the block's bytes no longer owned
abbrev pub released : ℕ → ℕ → State → Outcome
released base n s = Goes (record s { memory = with_range base n None s.memory })

-- ---- devices

-- why the address of an access is refused
abbrev pub address_fault : ℕ → Option Reason
address_fault a = if a % 4 == 0 then (if is_device a then None else Some OutOfRange) else Some Unaligned

-- an access of a device, its arguments evaluated: the address is checked before a reply is asked for.
-- No program that keeps the rules has another number of targets or arguments: such an access does nothing
abbrev pub access : Action → List Text → List ℕ → State → Outcome
access Read (x ∷ []) (a ∷ []) s = unless (address_fault a) s (ask s.replies a s (λ v t. Goes (set x v t)))
access Write [] (a ∷ v ∷ []) s = unless (address_fault a) s (Goes (record s { trace = s.trace ++ St a v ∷ [] }))
access action xs vs s = Goes s

-- ---- commands

-- a loop that may still make n turns: the condition at 0 ends it, another value spends one fuel and runs the body
abbrev pub turns : ℕ → Term → (State → Outcome) → State → Outcome
turns zero e body s = with_value (value_in s e) s (λ v. at_zero v (Goes s) (Stops s.trace Spent))
turns (suc n) e body s = with_value (value_in s e) s (λ v. at_zero v (Goes s) (spend s.fuel s (λ t. then_do (body t) (turns n e body))))

-- what a call does: of this function, with these arguments, for these targets
abbrev pub Caller : Type 0
Caller = Text → List ℕ → List Text → State → Outcome

-- a command or a block, where `call` says what calls do, a loop makes at most n turns, and `offsets` are
-- those of the stackalloc sites from here on, in text order
abbrev pub run_with : Caller → ℕ → List ℕ → Command → State → Outcome
run_with call n offsets Skips s = Goes s
run_with call n offsets (Sets x e) s = with_value (value_in s e) s (λ v. Goes (set x v s))
run_with call n offsets (Unsets x) s = Goes (record s { variables = put x None s.variables })
run_with call n offsets (Stores w a e) s =
    with_value (value_in s a) s (λ p. with_value (value_in s e) s (λ v.
    with_value (store (byte_count w) p v s.memory) s (λ memory. Goes (record s { memory = memory }))))
run_with call n offsets (Allocates k x b) s =
    then_do (run_with call n (drop 1 offsets) b (allocated (block_at s.stack offsets) k x s)) (released (block_at s.stack offsets) k)
run_with call n offsets (Chooses e b d) s =
    with_value (value_in s e) s (λ v. at_zero v (run_with call n (drop (length (sites b)) offsets) d s) (run_with call n offsets b s))
run_with call n offsets (Repeats e b) s = turns n e (run_with call n offsets b) s
run_with call n offsets (Calls xs f es) s = with_value (values_in s es) s (λ vs. call f vs xs s)
run_with call n offsets (Interacts xs k es) s = with_value (values_in s es) s (λ vs. access k xs vs s)
run_with call n offsets Ends s = Goes s
run_with call n offsets (Then c b) s = then_do (run_with call n offsets c s) (run_with call n (drop (length (sites c)) offsets) b)

-- ---- functions

-- a function and its frame: how many bytes, and the offsets of its blocks in text order
pub record Callable : Type 0 where
  pub name : Text
  pub params : List Text
  pub results : List Text
  pub body : Command
  pub frame : ℕ
  pub offsets : List ℕ

-- the first function of this name
abbrev pub callee : List Callable → Text → Option Callable
callee [] f = None
callee (g ∷ gs) f = if bytes_eq g.name f then Some g else callee gs f

-- at the start of a function's body: the parameters alone are set, and the stack pointer is smaller by the frame
-- (it never falls below 0 where the layout is valid and the program keeps the rules)
abbrev pub entered : Callable → List ℕ → State → State
entered g vs s = record s { variables = set_all g.params vs no_variables; stack = s.stack - g.frame }

-- back in the caller, whose variables and stack pointer are as before, but for the targets
abbrev pub returned : List Text → List ℕ → State → State → State
returned xs vs caller s = record s { variables = set_all xs vs caller.variables; stack = caller.stack }

-- a call of this function, its arguments evaluated: it spends one fuel, runs the body, reads the results and
-- sets the targets. Every call in a program that keeps the rules has its function: another one ends the run
abbrev pub enter : Option Callable → (List ℕ → Command → State → Outcome) → List ℕ → List Text → State → Outcome
enter None body vs xs s = Stops s.trace Spent
enter (Some g) body vs xs s =
    spend s.fuel s (λ t. then_do (body g.offsets g.body (entered g vs t)) (λ u.
    with_value (values_in u (map Variable g.results)) u (λ rs. Goes (returned xs rs s u))))

-- calls of a program's functions, which nest at most n deep
abbrev pub calls : List Callable → ℕ → Caller
calls p zero f vs xs s = Stops s.trace Spent
calls p (suc n) f vs xs s = enter (callee p f) (run_with (calls p n) n) vs xs s

-- a command or a block of a program: calls nest at most n deep and a loop makes at most n turns, which no run
-- passes that has at most n fuel
abbrev pub run : List Callable → ℕ → List ℕ → Command → State → Outcome
run p n = run_with (calls p n) n
