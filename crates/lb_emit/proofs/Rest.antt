-- The commands of a block that are left from a place on.
use Rattle.std.proofs.Common.{◌≡◌, ℕ, ◌+◌, ◌++◌, ◌<◌, ◌≤◌, List, length-append, map, drop, get_or, length, sym, ap, ◌∙◌}
use Rattle.std.proofs.lemmas.List.{at_drop_more, at_drop_all}
use Rattle.lb_flat.specs.declared.places.Place.{Place}
use Rattle.lb_flat.specs.declared.placed.PlacedCmd.{PlacedCmd}
use Rattle.lb_flat.specs.Code.{Code, Nothing, Sequence, chain}
use Rattle.lb_flat.specs.Placed.{placed_command}

-- the commands from place i on
abbrev pub rest : List PlacedCmd → ℕ → Code Place
rest cs i = chain (map placed_command (drop i cs))

pub rest_at : (cs : List PlacedCmd) (i : ℕ) (c : PlacedCmd) → i < length cs → c ≡ get_or cs i c → rest cs i ≡ Sequence (placed_command c) (rest cs (i + 1))
rest_at cs i c lt is =
    at_drop_more (λ (xs : List PlacedCmd). chain (map placed_command xs)) cs i c lt
    ∙ ap (λ (x : PlacedCmd). Sequence (placed_command x) (rest cs (i + 1))) (sym is)

pub rest_end : (cs : List PlacedCmd) (i : ℕ) → length cs ≤ i → rest cs i ≡ Nothing
rest_end cs i le = at_drop_all (λ (xs : List PlacedCmd). chain (map placed_command xs)) cs i le

pub length_both : (a b : List ℕ) → length (a ++ b) ≡ length a + length b
length_both a b = length-append a b
