-- What flat, located and placed code does. One meaning serves the three: a function `cell` says in which cell a variable is kept.
-- What is unset can't be read, so nothing has to be said of what it holds.
use Rattle.std.specs.Prelude.{ℕ, zero, suc, ◌-◌, List, [], ◌∷◌, ◌++◌, drop, length, Option, Some, None, Result, Ok, Err, slice_get}
use Rattle.lb_syntax.specs.declared.tree.Action.TheVariants.{Read, Write}
use Rattle.lb_trace.specs.declared.Event.{Event}
use Rattle.lb_trace.specs.declared.Event.TheVariants.{Ld, St}
use Rattle.lb_source.specs.Maps.{Memory, with_range}
use Rattle.lb_source.specs.Value.{operate, load, or_unset, byte_count, before}
use Rattle.lb_source.specs.Run.{store, block_at, address_fault}
use Rattle.lb_source.specs.declared.ends.Reason.{Reason}
use Rattle.lb_source.specs.declared.ends.Reason.TheVariants.{UnsetVariable}
use Rattle.lb_source.specs.declared.ends.SourceEnd.{SourceEnd}
use Rattle.lb_source.specs.declared.ends.SourceEnd.TheVariants.{Spent, Starved, Undefined}
use Rattle.lb_flat.specs.declared.places.Place.{Place}
use Rattle.lb_flat.specs.Code.{Operation, Constant, Copy, Compute, Load, Store, Forget, Call, Access}
use Rattle.lb_flat.specs.Code.{Code, Plain, Reserve, Branch, Loop, Nothing, Sequence, sites}
use Rattle.lb_flat.specs.Cells.{Cells, no_cells, put, set_all}

-- all of a running program but the cells: the bytes that it owns, the stack pointer, the replies that devices have left, the accesses
-- so far, and the fuel left
pub record World : Type 0 where
  pub memory : Memory
  pub stack : ℕ
  pub replies : List ℕ
  pub trace : List Event
  pub fuel : ℕ

-- a run goes on, with something at hand, or has ended
pub data Outcome (V : Type 0) : Type 0 where
  Goes : V → World → Outcome V
  Stops : (trace : List Event) → (end : SourceEnd) → Outcome V

-- ---- ways to go on

-- one after the other
abbrev pub then_do : {V U : Type 0} → Outcome V → (V → World → Outcome U) → Outcome U
then_do (Goes v w) go = go v w
then_do (Stops trace end) go = Stops trace end

-- what fails is undefined with its reason
abbrev pub with_value : {A V : Type 0} → Result A Reason → World → (A → Outcome V) → Outcome V
with_value (Ok a) w go = go a
with_value (Err reason) w go = Stops w.trace (Undefined reason)

-- the first at 0, else the second
abbrev pub at_zero : {V : Type 0} → ℕ → Outcome V → Outcome V → Outcome V
at_zero zero o q = o
at_zero (suc v) o q = q

-- one fuel less, of this much
abbrev pub spend : {V : Type 0} → ℕ → World → (World → Outcome V) → Outcome V
spend zero w go = Stops w.trace Spent
spend (suc f) w go = go (record w { fuel = f })

-- the next of these replies, which an access at the address gets
abbrev pub ask : {V : Type 0} → List ℕ → ℕ → World → (ℕ → World → Outcome V) → Outcome V
ask [] a w go = Stops w.trace Starved
ask (v ∷ vs) a w go = go v (record w { replies = vs; trace = w.trace ++ Ld a v ∷ [] })

-- undefined where there is a reason
abbrev pub unless : {V : Type 0} → Option Reason → World → Outcome V → Outcome V
unless None w go = go
unless (Some reason) w go = Stops w.trace (Undefined reason)

-- ---- plain commands

-- what a call does: of the function of this number, with these arguments; it gives the results
abbrev pub Caller : Type 0
Caller = ℕ → List ℕ → World → Outcome (List ℕ)

-- what an operation, calls aside, gives for these arguments. In a program that is in order none has another number of them: that
-- would be undefined
abbrev pub gives : Operation → List ℕ → World → Outcome (List ℕ)
gives (Constant v) [] w = Goes (v ∷ []) w
gives Copy (v ∷ []) w = Goes (v ∷ []) w
gives (Compute op) (l ∷ r ∷ []) w = Goes (operate op l r ∷ []) w
gives (Load k) (a ∷ []) w = with_value (load w.memory (byte_count k) a) w (λ v. Goes (v ∷ []) w)
gives (Store k) (a ∷ v ∷ []) w = with_value (store (byte_count k) a v w.memory) w (λ memory. Goes [] (record w { memory = memory }))
gives Forget [] w = Goes [] w
gives (Access Read) (a ∷ []) w = unless (address_fault a) w (ask w.replies a w (λ v u. Goes (v ∷ []) u))
gives (Access Write) (a ∷ v ∷ []) w = unless (address_fault a) w (Goes [] (record w { trace = w.trace ++ St a v ∷ [] }))
gives o vs w = Stops w.trace (Undefined UnsetVariable)

-- what a plain command gives, for its targets
abbrev pub effect : Caller → Operation → List ℕ → World → Outcome (List ℕ)
effect call (Call f) vs w = call f vs w
effect call o vs w = gives o vs w

-- the values of variables from left to right, each of which must be set
abbrev pub values : {X : Type 0} → (X → Place) → List X → Cells → Result (List ℕ) Reason
values cell [] cells = Ok []
values cell (x ∷ xs) cells = before (or_unset (cells (cell x))) (values cell xs cells)

-- ---- commands

-- a loop that may still make n turns: the head, then the test: 0 ends it, another value spends one fuel and runs the body
abbrev pub turns : ℕ → (Cells → Option ℕ) → (Cells → World → Outcome Cells) → (Cells → World → Outcome Cells) → Cells → World → Outcome Cells
turns zero test head body cells w =
    then_do (head cells w) (λ c u. with_value (or_unset (test c)) u (λ v. at_zero v (Goes c u) (Stops u.trace Spent)))
turns (suc n) test head body cells w =
    then_do (head cells w) (λ c u. with_value (or_unset (test c)) u (λ v. at_zero v (Goes c u) (spend u.fuel u (λ t. then_do (body c t) (turns n test head body)))))

-- the bytes of a block owned, all unset
abbrev pub owned : ℕ → ℕ → World → World
owned base n w = record w { memory = with_range base n (Some None) w.memory }

-- and no longer owned
abbrev pub disowned : ℕ → ℕ → World → World
disowned base n w = record w { memory = with_range base n None w.memory }

-- a command or a block, where `call` says what calls do, a loop makes at most n turns, and `offsets` are those of the stackalloc
-- sites from here on, in text order
abbrev pub run_with : {X : Type 0} → (X → Place) → Caller → ℕ → List ℕ → Code X → Cells → World → Outcome Cells
run_with cell call n offsets (Plain o xs ys) cells w =
    with_value (values cell xs cells) w (λ vs. then_do (effect call o vs w) (λ rs u. Goes (set_all cell ys rs cells) u))
run_with cell call n offsets (Reserve k y b) cells w =
    then_do (run_with cell call n (drop 1 offsets) b (put (cell y) (Some (block_at w.stack offsets)) cells) (owned (block_at w.stack offsets) k w))
    (λ c u. Goes c (disowned (block_at w.stack offsets) k u))
run_with cell call n offsets (Branch x b d) cells w =
    with_value (or_unset (cells (cell x))) w (λ v. at_zero v (run_with cell call n (drop (length (sites b)) offsets) d cells w) (run_with cell call n offsets b cells w))
run_with cell call n offsets (Loop b x d) cells w =
    turns n (λ c. c (cell x)) (run_with cell call n offsets b) (run_with cell call n (drop (length (sites b)) offsets) d) cells w
run_with cell call n offsets Nothing cells w = Goes cells w
run_with cell call n offsets (Sequence c d) cells w =
    then_do (run_with cell call n offsets c cells w) (run_with cell call n (drop (length (sites c)) offsets) d)

-- ---- functions

-- a function, in which cells its variables are kept, and its frame: how many bytes, and the offsets of its blocks in text order
pub record Callable (X : Type 0) : Type 0 where
  pub cell : X → Place
  pub params : List X
  pub results : List X
  pub body : Code X
  pub frame : ℕ
  pub offsets : List ℕ

-- a call: it spends one fuel, runs the body with the parameters alone set and the stack pointer smaller by the frame, and gives the
-- results. The caller's cells are its own. Every call in a program that is in order has its function: another one ends the run
abbrev pub enter : {X : Type 0} → Option (Callable X) → (Callable X → Cells → World → Outcome Cells) → List ℕ → World → Outcome (List ℕ)
enter None body vs w = Stops w.trace Spent
enter (Some g) body vs w =
    spend w.fuel w (λ u. then_do (body g (set_all g.cell g.params vs no_cells) (record u { stack = w.stack - g.frame }))
    (λ cells t. with_value (values g.cell g.results cells) t (λ rs. Goes rs (record t { stack = w.stack }))))

-- calls of a program's functions, which nest at most n deep
abbrev pub calls : {X : Type 0} → List (Callable X) → ℕ → Caller
calls p zero f vs w = Stops w.trace Spent
calls p (suc n) f vs w = enter (slice_get p f) (λ g. run_with g.cell (calls p n) n g.offsets g.body) vs w
