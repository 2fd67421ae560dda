-- Tests on bytes.
use Rattle.std.proofs.Common.{◌≡◌, ℕ, Bool, ◌&&◌, List, [], ◌∷◌, refl, ap, eqb}
use Rattle.std.specs.Prelude.{nat_eq}
use Rattle.std.specs.List.{starts_with}
use Rattle.lb_spelling.specs.Tokens.{begins_with}

pub starts_begins : (u w : List ℕ) → starts_with nat_eq w u ≡ begins_with u w
unfolding begins_with
starts_begins [] w = refl
starts_begins (a ∷ u) [] = refl
starts_begins (a ∷ u) (b ∷ w) = ap (λ (t : Bool). eqb a b && t) (starts_begins u w)
