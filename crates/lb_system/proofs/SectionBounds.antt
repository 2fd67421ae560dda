-- Lines and bytes of sections are within those of the input.
use Rattle.std.proofs.Common.{◌≡◌, ℕ, zero, suc, ◌+◌, ◌*◌, ◌≤◌, ◌<◌, ◌^◌, Bool, true, false, List, [], ◌∷◌, length, length-append, refl, sym, ap, subst, arith, cond}
use Rattle.std.specs.Prelude.{◌==◌}
use Rattle.std.specs.List.{concat, onto_first}
use Rattle.lb_sections.specs.Sections.{Text, Part, is_mark, lines, part_at, section, sections_from}
use Rattle.lb_sections.proofs.CutLemmas.{begin_with, line_joins, mark_first}
use Rattle.lb_system.specs.Answers.{most_input}
use Rattle.lb_system.proofs.SourceLemmas.{concat_lines}

-- the section begins at line n or behind it, and ends by b
pub record Within (n b : ℕ) (s : Part) : Type 0 where
  pub from : n ≤ s.line
  pub to : s.line + length s.text ≤ b

abbrev pub Each : ℕ → ℕ → List Part → Type 0
Each n b [] = Unit {0}
Each n b (s ∷ ss) = Within n b s × Each n b ss

within_more : (n m b c : ℕ) (parts : List Part) → n ≤ m → c ≤ b → Each m c parts → Each n b parts
within_more n m b c [] low high all = tt
within_more n m b c (s ∷ ss) low high all =
    (record { from = omega (arith, low, all.0.from); to = omega (arith, high, all.0.to) }, within_more n m b c ss low high all.1)

begin_within : (n b c : ℕ) (front : Text) (parts : List Part) → n + length front ≤ b → c + length front ≤ b + 1 → c ≤ b → Each (n + 1) c parts
    → Each n b (begin_with n front parts)
begin_within n b c front [] first more most all = (record { from = omega arith; to = first }, tt)
begin_within n b c front (s ∷ ss) first more most all = (
  record { from = omega arith; to = omega (arith, more, length-append front s.text, all.0.from, all.0.to) },
  within_more n (n + 1) b c ss (omega arith) most all.1,
)

sections_within : (n b : ℕ) (ls : List Text) → n + length ls + length (concat ls) ≤ b → Each n b (sections_from n ls)
sections_within n b [] h = (record { from = omega arith; to = omega (arith, h) }, tt)
sections_within n b (l ∷ ls) h = go (is_mark l) refl (λ c most. sections_within (n + 1) c ls most)
  where
    go : (m : Bool) → is_mark l ≡ m → ((c : ℕ) → n + 1 + length ls + length (concat ls) ≤ c → Each (n + 1) c (sections_from (n + 1) ls))
        → Each n b (sections_from n (l ∷ ls))
    go true e again =
        let c = n + 1 + length ls + length (concat ls) in
        let most : c ≤ b = omega (arith, h, length-append l (concat ls)) in
        let rest = within_more n (n + 1) b c (sections_from (n + 1) ls) (omega arith) most (again c (omega arith)) in
        subst (Each n b) (sym (mark_first n l ls e)) (record { from = omega arith; to = omega (arith, h) }, rest)
    go false e again =
        let c = n + 1 + length ls + length (concat ls) in
        let first : n + length l ≤ b = omega (arith, h, length-append l (concat ls)) in
        let more : c + length l ≤ b + 1 = omega (arith, h, length-append l (concat ls)) in
        let most : c ≤ b = omega (arith, h, length-append l (concat ls)) in
        subst (Each n b) (sym (line_joins n l ls e))
        (begin_within n b c l (sections_from (n + 1) ls) first more most (again c (omega arith)))

part_within : (n b place : ℕ) (parts : List Part) → 1 ≤ b → Each n b parts → (part_at place parts).line + length (part_at place parts).text ≤ b
part_within n b place [] some all = omega (arith, some)
part_within n b zero (s ∷ ss) some all = all.0.to
part_within n b (suc place) (s ∷ ss) some all = part_within n b place ss some all.1

onto_length : (b : ℕ) (ls : List Text) → length (onto_first b ls) ≤ length ls + 1
onto_length b [] = omega arith
onto_length b (l ∷ ls) = omega arith

few_lines : (bs : Text) → length (lines bs) ≤ length bs
few_lines [] = omega arith
few_lines (b ∷ bs) = go (b == 10) (few_lines bs)
  where
    go : (end : Bool) → length (lines bs) ≤ length bs → length (cond end ((b ∷ []) ∷ lines bs) (onto_first b (lines bs))) ≤ length (b ∷ bs)
    go true h = omega (arith, h)
    go false h = omega (arith, h, onto_length b (lines bs))

-- a section's last line has a number below 2^32
pub section_within : (place : ℕ) (input : Text) → length input ≤ most_input → (section place input).line + length (section place input).text < 2 ^ 32
section_within place input short =
    let b = 1 + length (lines input) + length (concat (lines input)) in
    let all = sections_within 1 b (lines input) (omega arith) in
    let within = part_within 1 b place (sections_from 1 (lines input)) (omega arith) all in
    omega (arith, within, short, few_lines input, ap length (concat_lines input))

-- a section has no more bytes than an input may have
pub section_short : (place : ℕ) (input : Text) → length input ≤ most_input → length (section place input).text ≤ 2 * most_input + 1
section_short place input short =
    let b = 1 + length (lines input) + length (concat (lines input)) in
    let all = sections_within 1 b (lines input) (omega arith) in
    let within = part_within 1 b place (sections_from 1 (lines input)) (omega arith) all in
    omega (arith, within, short, few_lines input, ap length (concat_lines input))
