-- What the interpreter's parts stand for. Only contracts of private functions cite it.
use Rattle.std.specs.Prelude.{◌≡◌, ℕ, ◌+◌, ◌-◌, ◌≤◌, max, List, [], ◌∷◌, ◌++◌, filter, map, not, drop, length, slice_get, codes, Option, Some, None, Result, Ok, Err, if◌then◌else◌}
use Rattle.std.specs.Str.{bytes_eq}
use Rattle.lb_memory.specs.declared.TheConstants.{STACK_TOP}
use Rattle.lb_syntax.specs.Names.{Text}
use Rattle.lb_syntax.specs.Tree.{Term, Variable, Procedure, procedure_of, program_of, block_of}
use Rattle.lb_syntax.specs.Tree.{Command, Allocates, Chooses, Repeats, Then}
use Rattle.lb_syntax.specs.Needs.{sites}
use Rattle.lb_syntax.specs.declared.tree.Action.{Action}
use Rattle.lb_syntax.specs.declared.tree.Width.{Width}
use Rattle.lb_syntax.specs.declared.tree.Function.{Function}
use Rattle.lb_syntax.specs.declared.tree.Program.{Program}
use Rattle.lb_syntax.specs.declared.tree.Block.{size-Block}
use Rattle.lb_syntax.specs.declared.layout.FrameLayout.{FrameLayout}
use Rattle.lb_syntax.specs.declared.layout.Layout.{Layout}
use Rattle.lb_trace.specs.declared.Event.TheVariants.{St}
use Rattle.lb_source.specs.Maps.{Variables, Memory, put, with_range}
use Rattle.lb_source.specs.Value.{byte_count, values}
use Rattle.lb_source.specs.Run.{State, Outcome, Goes, Stops, Callable, access, address_fault, ask, callee, calls, entered, run, set, set_all, store, turns, unless, value_in, values_in, with_value}
use Rattle.lb_source.specs.Source.{callable, callables, call_of, for_ever, whole}
use Rattle.lb_source.specs.declared.ends.SourceEnd.{SourceEnd}
use Rattle.lb_source.specs.declared.machine.Machine.{Machine}
use Rattle.lb_source.specs.declared.machine.Flow.{Flow}
use Rattle.lb_source.specs.declared.machine.Flow.TheVariants.{On, End}
use Rattle.lb_source.specs.declared.variables.Entry.{Entry}
use Rattle.lb_source.specs.declared.memory.Cell.{Cell}
use Rattle.lb_source.specs.declared.memory.Cell.TheVariants.{Absent, Unset, Holds}
use Rattle.lb_source.specs.declared.ends.Reason.{Reason}

-- ---- variables

-- the value of the first entry of each name
abbrev pub variables_of : List Entry → Variables
variables_of [] = λ x. None
variables_of (e ∷ es) = λ x. if bytes_eq e.name x then Some e.value else variables_of es x

-- the entries of other names
abbrev pub without : Text → List Entry → List Entry
without x = filter (λ e. not (bytes_eq e.name x))

-- these are the entries before, but that a name has this value, or none
abbrev pub Puts : Text → Option ℕ → List Entry → List Entry → Type 0
Puts x v before after = variables_of after ≡ put x v (variables_of before)

-- the same of several names in turn, as far as there are values
abbrev pub PutsAll : List Text → List ℕ → List Entry → List Entry → Type 0
PutsAll xs vs before after = variables_of after ≡ set_all xs vs (variables_of before)

-- ---- memory

abbrev pub cell_of : Option Cell → Option (Option ℕ)
cell_of None = None
cell_of (Some Absent) = None
cell_of (Some Unset) = Some None
cell_of (Some (Holds byte)) = Some (Some byte)

-- a cell for each address from 0 on
abbrev pub memory_of : List Cell → Memory
memory_of cells = λ a. cell_of (slice_get cells a)

-- the memory after a store, or why there is none
abbrev pub stored : Result Unit Reason → List Cell → Result Memory Reason
stored (Ok done) cells = Ok (memory_of cells)
stored (Err reason) cells = Err reason

-- a store of the low n bytes of a value at an address, which has this result and leaves these cells
abbrev pub Writes : ℕ → ℕ → ℕ → List Cell → Result Unit Reason → List Cell → Type 0
Writes n a v before result after = stored result after ≡ store n a v (memory_of before)

-- the cells before, but that n addresses from `base` on are this
abbrev pub Fills : ℕ → ℕ → Cell → List Cell → List Cell → Type 0
Fills base n cell before after = memory_of after ≡ with_range base n (cell_of (Some cell)) (memory_of before)

-- the values of these terms, among these entries and cells, from left to right, or why there are none
abbrev pub AreValues : List Entry → List Cell → List Term → Result (List ℕ) Reason → Type 0
AreValues entries cells es vs = vs ≡ values (variables_of entries) (memory_of cells) es

-- ---- the machine

abbrev pub state_of : Machine → State
state_of m = record {
  variables = variables_of m.variables.items;
  memory = memory_of m.bytes;
  stack = m.stack;
  replies = drop m.next m.replies.items;
  trace = m.trace.items;
  fuel = m.fuel;
}

abbrev pub outcome_of : Flow → Machine → Outcome
outcome_of On m = Goes (state_of m)
outcome_of (End end) m = Stops m.trace.items end

-- these entries are the machine's variables
abbrev pub HasVariables : Machine → List Entry → Type 0
HasVariables m entries = variables_of entries ≡ variables_of m.variables.items

-- a variable set to the value of a term leads from a machine to this flow and the other
abbrev pub FollowsSet : Text → Term → Machine → Flow → Machine → Type 0
FollowsSet x e m flow m' = outcome_of flow m' ≡ with_value (value_in (state_of m) e) (state_of m) (λ v. Goes (set x v (state_of m)))

-- the same of a variable removed
abbrev pub FollowsUnset : Text → Machine → Flow → Machine → Type 0
FollowsUnset x m flow m' = outcome_of flow m' ≡ Goes (record (state_of m) { variables = put x None (state_of m).variables })

-- the same of a store of this value
abbrev pub FollowsStoreValue : Width → ℕ → ℕ → Machine → Flow → Machine → Type 0
FollowsStoreValue w a v m flow m' =
    outcome_of flow m' ≡ with_value (store (byte_count w) a v (memory_of m.bytes)) (state_of m) (λ memory. Goes (record (state_of m) { memory = memory }))

-- the same of a store, whose address and value are still to be evaluated, in this order
abbrev pub FollowsStore : Width → Term → Term → Machine → Flow → Machine → Type 0
FollowsStore w a e m flow m' =
    outcome_of flow m' ≡ with_value (value_in (state_of m) a) (state_of m) (λ p. with_value (value_in (state_of m) e) (state_of m) (λ v.
    with_value (store (byte_count w) p v (memory_of m.bytes)) (state_of m) (λ memory. Goes (record (state_of m) { memory = memory }))))

-- the same of a device that is read: the address is checked before a reply is asked for
abbrev pub FollowsRead : Text → ℕ → Machine → Flow → Machine → Type 0
FollowsRead x a m flow m' =
    outcome_of flow m' ≡ unless (address_fault a) (state_of m) (ask (state_of m).replies a (state_of m) (λ v t. Goes (set x v t)))

-- the same of a device that is written
abbrev pub FollowsWrite : ℕ → ℕ → Machine → Flow → Machine → Type 0
FollowsWrite a v m flow m' =
    outcome_of flow m' ≡ unless (address_fault a) (state_of m) (Goes (record (state_of m) { trace = m.trace.items ++ St a v ∷ [] }))

-- the same of an access of a device, with these arguments
abbrev pub FollowsAccess : Action → List Text → List ℕ → Machine → Flow → Machine → Type 0
FollowsAccess action xs vs m flow m' = outcome_of flow m' ≡ access action xs vs (state_of m)

-- the same of an access, whose arguments are still to be evaluated
abbrev pub FollowsInteract : Action → List Text → List Term → Machine → Flow → Machine → Type 0
FollowsInteract action xs es m flow m' =
    outcome_of flow m' ≡ with_value (values_in (state_of m) es) (state_of m) (λ vs. access action xs vs (state_of m))

-- the same of a return: the results are read, and the targets set among the caller's variables
abbrev pub FollowsReturn : List Text → List Text → List Entry → Machine → Flow → Machine → Type 0
FollowsReturn results xs caller m flow m' =
    outcome_of flow m' ≡ with_value (values_in (state_of m) (map Variable results)) (state_of m) (λ rs.
    Goes (record (state_of m) { variables = set_all xs rs (variables_of caller) }))

-- a function entered, with these arguments, at one fuel less
abbrev pub Enters : Function → FrameLayout → List ℕ → Machine → Machine → Type 0
Enters f frame vs m m' =
    state_of m' ≡ entered (callable (procedure_of f) frame) vs (record (state_of m) { fuel = m.fuel - 1 })

-- whatever the bound, if it is as great as the fuel: a command leads from a machine to this flow and the other
abbrev pub Follows : List Callable → List ℕ → Command → Machine → Flow → Machine → Type 0
Follows p offsets c m flow m' = (n : ℕ) → m.fuel ≤ n → run p n offsets c (state_of m) ≡ outcome_of flow m'

-- the same of a loop that may make k more turns
abbrev pub FollowsTurns : List Callable → List ℕ → Term → Command → Machine → Flow → Machine → Type 0
FollowsTurns p offsets e b m flow m' = (n k : ℕ) → m.fuel ≤ k → k ≤ n → turns k e (run p n offsets b) (state_of m) ≡ outcome_of flow m'

-- the same of a call with these arguments
abbrev pub FollowsEntry : List Callable → Text → List ℕ → List Text → Machine → Flow → Machine → Type 0
FollowsEntry p f vs xs m flow m' = (n : ℕ) → m.fuel ≤ n → calls p n f vs xs (state_of m) ≡ outcome_of flow m'

-- the same of a call, whose arguments are still to be evaluated
abbrev pub FollowsCall : List Callable → Text → List Term → List Text → Machine → Flow → Machine → Type 0
FollowsCall p f es xs m flow m' =
    (n : ℕ) → m.fuel ≤ n → with_value (values_in (state_of m) es) (state_of m) (λ vs. calls p n f vs xs (state_of m)) ≡ outcome_of flow m'

-- the same of `loop`, called again and again
abbrev pub FollowsEver : List Callable → Machine → SourceEnd → Machine → Type 0
FollowsEver p m end m' =
    (n k : ℕ) → m.fuel ≤ k → k ≤ n → for_ever k (call_of p n (codes "loop")) (state_of m) ≡ record { trace = m'.trace.items; end = end }

-- the same of a whole program
abbrev pub FollowsWhole : List Callable → Machine → SourceEnd → Machine → Type 0
FollowsWhole p m end m' = (n : ℕ) → m.fuel ≤ n → whole p n (state_of m) ≡ record { trace = m'.trace.items; end = end }

-- ---- frames

-- the first of these offsets is that of a block which ends by this place
abbrev pub BlockFits : ℕ → List ℕ → ℕ → Type 0
BlockFits room [] size = ⊥
BlockFits room (offset ∷ offsets) size = offset + size ≤ room

-- the blocks of a command, at these offsets, do
abbrev pub BlocksFit : ℕ → List ℕ → Command → Type 0
BlocksFit room offsets (Allocates n x b) = BlockFits room offsets n × BlocksFit room (drop 1 offsets) b
BlocksFit room offsets (Chooses e b d) = BlocksFit room offsets b × BlocksFit room (drop (length (sites b)) offsets) d
BlocksFit room offsets (Repeats e b) = BlocksFit room offsets b
BlocksFit room offsets (Then c b) = BlocksFit room offsets c × BlocksFit room (drop (length (sites c)) offsets) b
BlocksFit room offsets _ = Unit {0}

-- a frame that is no greater than the addresses below the stack's beginning, with its blocks inside
pub record FrameFits (frame : FrameLayout) (body : Command) : Type 0 where
  pub small : frame.size ≤ STACK_TOP
  pub inside : BlocksFit frame.size frame.sites body

-- each function's frame does
abbrev pub FramesFit : List Procedure → List FrameLayout → Type 0
FramesFit [] frames = Unit {0}
FramesFit (f ∷ fs) [] = Unit {0}
FramesFit (f ∷ fs) (frame ∷ frames) = FrameFits frame f.body × FramesFit fs frames

-- the blocks of a function's body end by the stack's beginning
abbrev pub BodyFits : Machine → Function → FrameLayout → Type 0
BodyFits m f frame = BlocksFit (STACK_TOP - m.stack) frame.sites (block_of f.body)

-- ---- the interpreter

-- the depth of the deepest body
abbrev pub deepest : List Function → ℕ
deepest [] = 0
deepest (f ∷ fs) = max (size-Block f.body) (deepest fs)

-- what contracts see of an interpreter
pub record InterpreterContent : Type 0 where
  pub program : Program
  pub layout : Layout

-- its functions with their frames
abbrev pub functions_of : InterpreterContent → List Callable
functions_of i = callables (program_of i.program) i.layout.frames

-- the depth of its deepest body
abbrev pub depth_of : InterpreterContent → ℕ
depth_of i = deepest i.program.functions

-- a function of an interpreter and its frame, found by its name
pub record Found (i : InterpreterContent) (name : Text) (f : Function) (frame : FrameLayout) : Type 0 where
  pub is : callee (functions_of i) name ≡ Some (callable (procedure_of f) frame)
  pub deep : size-Block f.body ≤ depth_of i
  pub fits : FrameFits frame (block_of f.body)
