-- What a whole program does.
use Rattle.std.specs.Prelude.{ℕ, zero, suc, List, [], ◌∷◌, codes}
use Rattle.lb_memory.specs.declared.TheConstants.{STACK_TOP}
use Rattle.lb_syntax.specs.Names.{Text}
use Rattle.lb_syntax.specs.Tree.{Procedure}
use Rattle.lb_syntax.specs.declared.layout.FrameLayout.{FrameLayout}
use Rattle.lb_syntax.specs.declared.layout.Layout.{Layout}
use Rattle.lb_source.specs.Maps.{no_variables, nothing_owned}
use Rattle.lb_source.specs.Run.{State, Outcome, Goes, Stops, Callable, callee, enter, run}
use Rattle.lb_source.specs.declared.ends.SourceRun.{SourceRun}
use Rattle.lb_source.specs.declared.ends.SourceEnd.TheVariants.{Spent}

-- a function with its frame
abbrev pub callable : Procedure → FrameLayout → Callable
callable f frame = record { name = f.name; params = f.params; results = f.results; body = f.body; frame = frame.size; offsets = frame.sites }

-- the functions with their frames, as far as there are both
abbrev pub callables : List Procedure → List FrameLayout → List Callable
callables [] frames = []
callables (f ∷ fs) [] = []
callables (f ∷ fs) (frame ∷ frames) = callable f frame ∷ callables fs frames

-- at the start: nothing is set or owned, and the stack is empty
abbrev pub start : ℕ → List ℕ → State
start fuel replies =
    record { variables = no_variables; memory = nothing_owned; stack = STACK_TOP; replies = replies; trace = []; fuel = fuel }

-- a call from outside
abbrev pub call_of : List Callable → ℕ → Text → State → Outcome
call_of p n f = enter (callee p f) (run p n) [] []

-- a run that has ended, or goes on
abbrev pub to_end : Outcome → (State → SourceRun) → SourceRun
to_end (Goes s) go = go s
to_end (Stops trace end) go = record { trace = trace; end = end }

-- again and again, at most n times: each time spends fuel, so no run with at most n fuel comes to the last
abbrev pub for_ever : ℕ → (State → Outcome) → State → SourceRun
for_ever zero again s = record { trace = s.trace; end = Spent }
for_ever (suc n) again s = to_end (again s) (for_ever n again)

-- `init` once, then `loop` for ever, by calls that nest at most n deep and loops that make at most n turns
abbrev pub whole : List Callable → ℕ → State → SourceRun
whole p n s = to_end (call_of p n (codes "init") s) (for_ever n (call_of p n (codes "loop")))

-- a program's run under a layout, with so much fuel in all and these replies
abbrev pub src : List Procedure → Layout → ℕ → List ℕ → SourceRun
src p layout fuel replies = whole (callables p layout.frames) fuel (start fuel replies)
