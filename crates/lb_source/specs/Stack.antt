-- Runs whose calls do anything at all where a frame would reach below a floor, to say that none does.
use Rattle.std.specs.Prelude.{◌≡◌, ℕ, zero, suc, ◌+◌, ◌-◌, nat_le, if◌then◌else◌, List, [], Option, Some, None, codes}
use Rattle.lb_memory.specs.declared.TheConstants.{STACK_TOP, MOST_STACK}
use Rattle.lb_syntax.specs.Names.{Text}
use Rattle.lb_syntax.specs.Tree.{Procedure, Command}
use Rattle.lb_syntax.specs.Rules.{KeepsRules}
use Rattle.lb_syntax.specs.Layouts.{IsValidLayout}
use Rattle.lb_syntax.specs.declared.layout.Layout.{Layout}
use Rattle.lb_source.specs.Run.{State, Outcome, Callable, Caller, callee, enter, run_with, calls}
use Rattle.lb_source.specs.Source.{callables, start, to_end, for_ever, src}
use Rattle.lb_source.specs.declared.ends.SourceRun.{SourceRun}

-- a call, which does as `below` says where the frame would reach below the floor
abbrev pub enter_above : ℕ → (State → Outcome) → Option Callable → (List ℕ → Command → State → Outcome) → List ℕ → List Text → State → Outcome
enter_above floor below None body vs xs s = enter None body vs xs s
enter_above floor below (Some g) body vs xs s = if nat_le (floor + g.frame) s.stack then enter (Some g) body vs xs s else below s

-- calls of a program's functions, which nest at most n deep
abbrev pub calls_above : ℕ → (State → Outcome) → List Callable → ℕ → Caller
calls_above floor below p zero f vs xs s = calls p zero f vs xs s
calls_above floor below p (suc n) f vs xs s = enter_above floor below (callee p f) (run_with (calls_above floor below p n) n) vs xs s

-- a call from outside
abbrev pub call_of_above : ℕ → (State → Outcome) → List Callable → ℕ → Text → State → Outcome
call_of_above floor below p n f = enter_above floor below (callee p f) (run_with (calls_above floor below p n) n) [] []

-- `init` once, then `loop` for ever
abbrev pub whole_above : ℕ → (State → Outcome) → List Callable → ℕ → State → SourceRun
whole_above floor below p n s =
    to_end (call_of_above floor below p n (codes "init") s) (for_ever n (call_of_above floor below p n (codes "loop")))

-- the lowest address that the stack may use
abbrev pub stack_floor : ℕ
stack_floor = STACK_TOP - MOST_STACK

-- whatever calls would do whose frame reaches below the floor, the run is the same, since there is no such call: so the stack pointer
-- never falls below the floor, and the difference by which it falls is never cut off at 0
abbrev pub StackStaysAbove : Type 0
StackStaysAbove =
    (p : List Procedure) (layout : Layout) (fuel : ℕ) (replies : List ℕ) (below : State → Outcome)
    → KeepsRules p → IsValidLayout layout p
    → whole_above stack_floor below (callables p layout.frames) fuel (start fuel replies) ≡ src p layout fuel replies
