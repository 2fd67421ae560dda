-- Whether there are calls.
use Rattle.std.proofs.Common.{◌≡◌, ℕ, ◌||◌, List, [], ◌∷◌, ◌++◌, refl}
use Rattle.lb_emit_laws.specs.Frames.{link_register}
use Rattle.lb_emit.specs.InternalFrame.{is_any, one_if}

pub any_both : (a b : List ℕ) → is_any (a ++ b) ≡ (is_any a || is_any b)
any_both [] b = refl
any_both (x ∷ a) b = refl

pub link_if : (gs : List ℕ) → one_if (is_any gs) 1 ≡ link_register gs
link_if [] = refl
link_if (g ∷ gs) = refl
