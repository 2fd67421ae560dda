-- Placed commands that were added one after another.
use Rattle.std.proofs.Common.{◌≡◌, List, [], ◌∷◌, ◌++◌, map, Result, Ok, Err, OnOk, refl, ap, ◌∙◌}
use Rattle.lb_flat.specs.declared.places.Place.{Place}
use Rattle.lb_flat.specs.declared.placed.PlacedCmd.{PlacedCmd}
use Rattle.lb_flat.specs.Code.{Code, Nothing, Sequence, chain}
use Rattle.lb_flat.specs.Placed.{placed_command}
use Rattle.lb_spill.specs.InternalSpill.{emitted, Writes, IsPlaced}

pub emitted_more : (cs : List PlacedCmd) (c : PlacedCmd) (rest : Code Place) → emitted (cs ++ c ∷ []) rest ≡ emitted cs (Sequence (placed_command c) rest)
emitted_more [] c rest = refl
emitted_more (d ∷ cs) c rest = ap (λ r. Sequence (placed_command d) r) (emitted_more cs c rest)

pub emitted_chain : (cs : List PlacedCmd) → chain (map placed_command cs) ≡ emitted cs Nothing
emitted_chain [] = refl
emitted_chain (c ∷ cs) = ap (λ r. Sequence (placed_command c) r) (emitted_chain cs)

-- one command that is this code was added
pub emitted_placed : {E : Type 0} (r : Result (Unit {0}) E) (old new : List PlacedCmd) (c : PlacedCmd) (code : Code Place → Code Place)
    → IsPlaced c code → OnOk r (Writes old new (Sequence (placed_command c))) → OnOk r (Writes old new code)
emitted_placed (Ok done) old new c code h k = λ rest. k rest ∙ ap (λ (r : Code Place). emitted old r) (h rest)
emitted_placed (Err e) old new c code h k = tt
