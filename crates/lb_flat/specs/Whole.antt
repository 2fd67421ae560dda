-- What a whole flat, located or placed program does.
use Rattle.std.specs.Prelude.{ℕ, zero, suc, List, [], ◌∷◌}
use Rattle.lb_memory.specs.declared.TheConstants.{STACK_TOP}
use Rattle.lb_syntax.specs.declared.layout.FrameLayout.{FrameLayout}
use Rattle.lb_syntax.specs.declared.layout.Layout.{Layout}
use Rattle.lb_source.specs.Maps.{nothing_owned}
use Rattle.lb_source.specs.declared.ends.SourceRun.{SourceRun}
use Rattle.lb_source.specs.declared.ends.SourceEnd.TheVariants.{Spent}
use Rattle.lb_flat.specs.declared.places.Place.{Place}
use Rattle.lb_flat.specs.declared.places.Place.TheVariants.{Slot}
use Rattle.lb_flat.specs.Code.{Routine, Executable}
use Rattle.lb_flat.specs.Run.{World, Outcome, Goes, Stops, Callable, calls}
use Rattle.lb_flat.specs.Located.{located_at}

-- a function with the cells of its variables and its frame
abbrev pub callable : {X : Type 0} → Routine X → (X → Place) → FrameLayout → Callable X
callable f cell frame = record { cell = cell; params = f.params; results = f.results; body = f.body; frame = frame.size; offsets = frame.sites }

-- the functions with their frames, as far as there are both; `cells` says for each function, by its number, where its variables are kept
abbrev pub callables : {X : Type 0} → List (Routine X) → (ℕ → X → Place) → List FrameLayout → List (Callable X)
callables [] cells frames = []
callables (f ∷ fs) cells [] = []
callables (f ∷ fs) cells (frame ∷ frames) = callable f (cells 0) frame ∷ callables fs (λ k. cells (suc k)) frames

-- at the start: nothing is owned, and the stack is empty
abbrev pub start : ℕ → List ℕ → World
start fuel replies = record { memory = nothing_owned; stack = STACK_TOP; replies = replies; trace = []; fuel = fuel }

-- a run that has ended, or goes on
abbrev pub to_end : {V : Type 0} → Outcome V → (World → SourceRun) → SourceRun
to_end (Goes v w) go = go w
to_end (Stops trace end) go = record { trace = trace; end = end }

-- again and again, at most n times: each time spends fuel, so no run with at most n fuel comes to the last
abbrev pub for_ever : {V : Type 0} → ℕ → (World → Outcome V) → World → SourceRun
for_ever zero again w = record { trace = w.trace; end = Spent }
for_ever (suc n) again w = to_end (again w) (for_ever n again)

-- the function of one number once, then that of the other for ever, by calls that nest at most n + 1 deep, these among them, and loops
-- that make at most n turns
abbrev pub whole : {X : Type 0} → List (Callable X) → ℕ → ℕ → ℕ → World → SourceRun
whole p init again n w = to_end (calls p (suc n) init [] w) (for_ever n (calls p (suc n) again []))

-- a program's run with its variables kept in these cells, under a layout, with so much fuel in all and these replies
abbrev pub runs : {X : Type 0} → (ℕ → X → Place) → Executable X → Layout → ℕ → List ℕ → SourceRun
runs cells p layout fuel replies = whole (callables p.routines cells layout.frames) p.init p.again fuel (start fuel replies)

-- ---- the three meanings

-- the flat one: each variable has the slot of its own number
abbrev pub own_slot : ℕ → ℕ → Place
own_slot f x = Slot x

abbrev pub flat_run : Executable ℕ → Layout → ℕ → List ℕ → SourceRun
flat_run = runs own_slot

-- the located one: the flat program with its variables in their places
abbrev pub located_run : List (List Place) → Executable ℕ → Layout → ℕ → List ℕ → SourceRun
located_run places = runs (located_at places)

-- the placed one: what the code names are places
abbrev pub itself : ℕ → Place → Place
itself f p = p

abbrev pub placed_run : Executable Place → Layout → ℕ → List ℕ → SourceRun
placed_run = runs itself
