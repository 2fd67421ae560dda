-- Flat commands that were added one after another.
use Rattle.std.proofs.Common.{◌≡◌, ℕ, List, [], ◌∷◌, ◌++◌, map, refl, ap}
use Rattle.lb_flat.specs.declared.flat.FlatCmd.{FlatCmd}
use Rattle.lb_flat.specs.Code.{Code, Nothing, Sequence, chain}
use Rattle.lb_flat.specs.Flat.{flat_command}
use Rattle.lb_flat.specs.InternalFlatten.{emitted}

pub emitted_more : (cs : List FlatCmd) (c : FlatCmd) (rest : Code ℕ) → emitted (cs ++ c ∷ []) rest ≡ emitted cs (Sequence (flat_command c) rest)
emitted_more [] c rest = refl
emitted_more (d ∷ cs) c rest = ap (λ r. Sequence (flat_command d) r) (emitted_more cs c rest)

pub emitted_chain : (cs : List FlatCmd) → chain (map flat_command cs) ≡ emitted cs Nothing
emitted_chain [] = refl
emitted_chain (c ∷ cs) = ap (λ r. Sequence (flat_command c) r) (emitted_chain cs)
