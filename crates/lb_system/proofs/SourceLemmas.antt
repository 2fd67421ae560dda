-- The source is a front of the input, and all of it where there is one section.
use Rattle.std.proofs.Common.{◌≡◌, ℕ, ◌+◌, ◌≤◌, Bool, true, false, List, [], ◌∷◌, ◌++◌, length, length-append, append_assoc, append-nil, refl, sym, ap, ◌∙◌, subst, arith, cond}
use Rattle.std.specs.Prelude.{◌==◌}
use Rattle.std.specs.List.{concat, onto_first}
use Rattle.lb_sections.specs.Sections.{Text, Part, is_mark, lines, part_at, sections, sections_from}
use Rattle.lb_sections.proofs.CutLemmas.{begin_with, line_joins, mark_first}
use Rattle.lb_system.specs.Questions.{source}

-- ---- the lines of a text are the text

onto_concat : (b : ℕ) (ls : List Text) → concat (onto_first b ls) ≡ b ∷ concat ls
onto_concat b [] = refl
onto_concat b (l ∷ ls) = refl

pub concat_lines : (bs : Text) → concat (lines bs) ≡ bs
concat_lines [] = refl
concat_lines (b ∷ bs) = go (b == 10) (concat_lines bs)
  where
    go : (end : Bool) → concat (lines bs) ≡ bs → concat (cond end ((b ∷ []) ∷ lines bs) (onto_first b (lines bs))) ≡ b ∷ bs
    go true same = ap (λ x. b ∷ x) same
    go false same = onto_concat b (lines bs) ∙ ap (λ x. b ∷ x) same

-- ---- the first section

abbrev pub first_text : List Part → Text
first_text parts = (part_at 0 parts).text

begin_text : (n : ℕ) (front : Text) (parts : List Part) → first_text (begin_with n front parts) ≡ front ++ first_text parts
begin_text n front [] = sym (append-nil front)
begin_text n front (s ∷ ss) = refl

-- what stands behind it
pub record Behind (front all : Text) : Type 0 where
  pub rest : Text
  pub whole : all ≡ front ++ rest

first_front : (n : ℕ) (ls : List Text) → Behind (first_text (sections_from n ls)) (concat ls)
first_front n [] = record { rest = []; whole = refl }
first_front n (l ∷ ls) = go (is_mark l) refl (first_front (n + 1) ls)
  where
    go : (b : Bool) → is_mark l ≡ b → Behind (first_text (sections_from (n + 1) ls)) (concat ls) → Behind (first_text (sections_from n (l ∷ ls))) (concat (l ∷ ls))
    go true e behind = subst (λ parts. Behind (first_text parts) (concat (l ∷ ls))) (sym (mark_first n l ls e)) (record { rest = concat (l ∷ ls); whole = refl })
    go false e behind =
        let text = ap first_text (line_joins n l ls e) ∙ begin_text n l (sections_from (n + 1) ls) in
        record {
          rest = behind.rest;
          whole = ap (λ x. l ++ x) behind.whole ∙ sym (append_assoc l (first_text (sections_from (n + 1) ls)) behind.rest) ∙ ap (λ x. x ++ behind.rest) (sym text);
        }

-- there is at least one section
some_section : (n : ℕ) (ls : List Text) → 1 ≤ length (sections_from n ls)
some_section n [] = omega arith
some_section n (l ∷ ls) = go (is_mark l) refl
  where
    some_begun : (parts : List Part) → 1 ≤ length (begin_with n l parts)
    some_begun [] = omega arith
    some_begun (s ∷ ss) = omega arith

    go : (b : Bool) → is_mark l ≡ b → 1 ≤ length (sections_from n (l ∷ ls))
    go true e = omega (arith, ap length (mark_first n l ls e))
    go false e = omega (arith, ap length (line_joins n l ls e), some_begun (sections_from (n + 1) ls))

begin_length : (n : ℕ) (front : Text) (parts : List Part) → length parts ≤ length (begin_with n front parts)
begin_length n front [] = omega arith
begin_length n front (s ∷ ss) = omega arith

first_whole : (n : ℕ) (ls : List Text) → length (sections_from n ls) ≤ 1 → first_text (sections_from n ls) ≡ concat ls
first_whole n [] few = refl
first_whole n (l ∷ ls) few = go (is_mark l) refl (λ fewer. first_whole (n + 1) ls fewer)
  where
    go : (b : Bool) → is_mark l ≡ b → (length (sections_from (n + 1) ls) ≤ 1 → first_text (sections_from (n + 1) ls) ≡ concat ls)
        → first_text (sections_from n (l ∷ ls)) ≡ concat (l ∷ ls)
    go true e again = absurd (omega (arith, few, some_section (n + 1) ls, ap length (mark_first n l ls e)))
    go false e again =
        let fewer : length (sections_from (n + 1) ls) ≤ 1 = omega (arith, few, begin_length n l (sections_from (n + 1) ls), ap length (line_joins n l ls e)) in
        ap first_text (line_joins n l ls e) ∙ begin_text n l (sections_from (n + 1) ls) ∙ ap (λ x. l ++ x) (again fewer)

-- ---- the source

-- it is no longer than the input
pub source_short : (input : Text) → length (source input) ≤ length input
source_short input =
    let behind = first_front 1 (lines input) in
    omega (arith, ap length (sym (concat_lines input) ∙ behind.whole), length-append (first_text (sections_from 1 (lines input))) behind.rest)

-- an input of one section is its source
pub source_whole : (input : Text) → length (sections input) ≤ 1 → source input ≡ input
source_whole input few = first_whole 1 (lines input) few ∙ concat_lines input
