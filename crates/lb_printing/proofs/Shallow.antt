-- Where no comment begins, the brackets of a text are those that are counted in accepted texts.
use Rattle.std.proofs.Common.{◌≡◌, ℕ, ◌≤◌, true, [], ◌∷◌, refl, arith}
use Rattle.std.specs.Prelude.{nat_le}
use Rattle.std.proofs.lemmas.Bool.{and_from, le-leb}
use Rattle.lb_syntax.specs.Names.{Text}
use Rattle.lb_syntax.specs.Brackets.{open_after, most_open}
use Rattle.lb_syntax.proofs.OpenLemmas.{least_open}
use Rattle.lb_spelling.specs.Tokens.{Mode, Outside, Slash, Comment, mode_after}
use Rattle.lb_spelling.specs.Places.{within}
use Rattle.lb_printing.proofs.Spelled.{is_calm}

pub calm_within : (limit : ℕ) (text : Text) (m : Mode) (n : ℕ) → is_calm text m ≡ true → most_open n text ≤ limit → within limit text m n ≡ true
calm_within limit [] m n c h = refl
calm_within limit (b ∷ text) Outside n c h =
    let more = open_after n b in
    and_from (nat_le more limit) (within limit text (mode_after Outside b) more) (le-leb more limit (omega (arith, h, least_open more text)))
    (calm_within limit text (mode_after Outside b) more c (omega (arith, h)))
calm_within limit (b ∷ text) Slash n c h =
    let more = open_after n b in
    and_from (nat_le more limit) (within limit text (mode_after Slash b) more) (le-leb more limit (omega (arith, h, least_open more text)))
    (calm_within limit text (mode_after Slash b) more c (omega (arith, h)))
calm_within limit (b ∷ text) Comment n c h = absurd cc
