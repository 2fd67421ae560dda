-- Queues, as lists whose oldest item is the first.
use Rattle.std.specs.Prelude.{List, [], ◌∷◌}

-- the oldest item, or another one where there is none
abbrev pub front_or : {X : Type 0} → X → List X → X
front_or default [] = default
front_or default (x ∷ xs) = x
