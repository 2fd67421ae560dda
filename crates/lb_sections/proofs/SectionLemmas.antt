-- How many sections an input has.
use Rattle.std.proofs.Common.{◌≡◌, ℕ, ◌+◌, ◌-◌, ◌≤◌, ◌<◌, List, [], ◌∷◌, length, Some, zero, suc, sym, ap, ◌∙◌, arith}
use Rattle.std.specs.Prelude.{slice_get}
use Rattle.std.proofs.lemmas.List.{length-map}
use Rattle.lb_sections.specs.Sections.{Text, IsFirstTooMany, lines, marks, sections}
use Rattle.lb_sections.proofs.CutLemmas.{first_lines}

-- one more than it has marks
pub count_sections : (input : Text) → length (sections input) ≡ length (marks input) + 1
count_sections input =
    sym (length-map (sections input) (λ s. s.line)) ∙ ap length (first_lines 1 (lines input))
    ∙ ap suc (length-map (marks input) (λ mark. mark + 1)) ∙ omega arith

inside : (xs : List ℕ) (i x : ℕ) → slice_get xs i ≡ Some x → i < length xs
inside [] i x e = cc
inside (y ∷ xs) zero x e = omega arith
inside (y ∷ xs) (suc i) x e = omega (arith, inside xs i x e)

-- where a mark is too many, so are the sections
pub too_many : (most : ℕ) (input : Text) (line : ℕ) → 1 ≤ most → IsFirstTooMany most input line → ¬ (length (sections input) ≤ most)
too_many most input line some e = λ few. omega (arith, inside (marks input) (most - 1) line e, count_sections input, few, some)

-- one mark is the first too many
pub one_line : (most : ℕ) (input : Text) (a b : ℕ) → IsFirstTooMany most input a → IsFirstTooMany most input b → a ≡ b
one_line most input a b x y = cc
