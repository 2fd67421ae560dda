-- The paths of calls of a flat or placed program, whose functions are numbered, and the stack that they ask for.
use Rattle.std.specs.Prelude.{ℕ, ◌<◌, List, [], ◌∷◌, ◌++◌, length, map, sum, slice_get, Option, Some, None, Contains}
use Rattle.lb_flat.specs.Code.{Operation, Call}
use Rattle.lb_flat.specs.Code.{Code, Plain, Reserve, Branch, Loop, Nothing, Sequence, Routine}
use Rattle.lb_flat.specs.Needs.{frame_need}

-- the function that an operation calls
abbrev pub called : Operation → List ℕ
called (Call f) = f ∷ []
called o = []

-- the functions that a command or a block calls, in text order
abbrev pub callees : {X : Type 0} → Code X → List ℕ
callees (Plain o xs ys) = called o
callees (Reserve n y b) = callees b
callees (Branch x b d) = callees b ++ callees d
callees (Loop b x d) = callees b ++ callees d
callees Nothing = []
callees (Sequence c d) = callees c ++ callees d

-- those of a function; one that isn't there calls none
abbrev pub callees_of : {X : Type 0} → Option (Routine X) → List ℕ
callees_of None = []
callees_of (Some f) = callees f.body

-- functions of the program, each of which calls the next
abbrev pub IsCallPath : {X : Type 0} → List (Routine X) → List ℕ → Type 0
IsCallPath fs [] = Unit {0}
IsCallPath fs (g ∷ []) = g < length fs
IsCallPath fs (g ∷ h ∷ path) = (g < length fs) × Contains (callees_of (slice_get fs g)) h × IsCallPath fs (h ∷ path)

-- a path of calls leads from the function back to it
abbrev pub IsRecursive : {X : Type 0} → List (Routine X) → ℕ → Type 0
IsRecursive fs g = (path : List ℕ) × IsCallPath fs (g ∷ path ++ g ∷ [])

-- the bytes of a function's frame; one that isn't there has none
abbrev pub frame_of : {X : Type 0} → Option (Routine X) → ℕ
frame_of None = 0
frame_of (Some f) = frame_need f

-- the bytes of stack that the frames of a path take
abbrev pub path_need : {X : Type 0} → List (Routine X) → List ℕ → ℕ
path_need fs path = sum (map (λ g. frame_of (slice_get fs g)) path)
