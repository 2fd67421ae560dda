-- Lines of a text, and sections line by line.
use Rattle.std.proofs.Common.{◌≡◌, ◌≢◌, ℕ, zero, suc, ◌+◌, ◌-◌, ◌≤◌, ◌<◌, Bool, true, false, List, [], ◌∷◌, ◌++◌, length, map, take, drop, get_or, Some, refl, sym, ap, ◌∙◌, arith, length-append, append_assoc, append-nil}
use Rattle.std.specs.Prelude.{slice_get}
use Rattle.std.specs.List.{concat, onto_first, slice_split, zip}
use Rattle.std.proofs.lemmas.Bool.{ne_eqb, eq-eqb}
use Rattle.std.proofs.lemmas.List.{length-map, map-append}
use Rattle.lb_sections.specs.Sections.{Part, Text, IsFirstTooMany, is_mark, lines, marks, marks_from, part, sections, sections_from}

-- ---- lines

-- the first line ends at the first line feed
pub line_there : (bs : Text) (i : ℕ) → ((k : ℕ) → k < i → get_or bs k 0 ≢ 10) → i < length bs → get_or bs i 0 ≡ 10
    → lines bs ≡ take (suc i) bs ∷ lines (drop (suc i) bs)
line_there [] i before inside here = absurd (omega arith)
line_there (b ∷ bs) zero before inside here = rw (eq-eqb b 10 here, here) refl
line_there (b ∷ bs) (suc i) before inside here =
    let rest = line_there bs i (λ k less. before (suc k) (omega arith)) (omega arith) here in
    rw (ne_eqb b 10 (before 0 (omega arith)), rest) refl

-- without a line feed there is one line
pub line_last : (bs : Text) → ((k : ℕ) → k < length bs → get_or bs k 0 ≢ 10) → 1 ≤ length bs → lines bs ≡ bs ∷ []
line_last [] before some = absurd (omega arith)
line_last (b ∷ []) before some = rw (ne_eqb b 10 (before 0 (omega arith))) refl
line_last (b ∷ c ∷ bs) before some =
    let rest = line_last (c ∷ bs) (λ k less. before (suc k) (omega arith)) (omega arith) in
    rw (ne_eqb b 10 (before 0 (omega arith)), rest) refl

-- ---- sections, line by line

-- bytes before the first section, which then begins at this line
abbrev pub begin_with : ℕ → Text → List Part → List Part
begin_with line front [] = record { line = line; text = front } ∷ []
begin_with line front (s ∷ ss) = record { line = line; text = front ++ s.text } ∷ ss

-- a mark ends the section before it
pub mark_first : (n : ℕ) (line : Text) (ls : List Text) → is_mark line ≡ true
    → sections_from n (line ∷ ls) ≡ record { line = n; text = [] } ∷ sections_from (n + 1) ls
mark_first n line ls e = rw (e) refl

-- any other line stands before the first section of those behind it
pub line_joins : (n : ℕ) (line : Text) (ls : List Text) → is_mark line ≡ false
    → sections_from n (line ∷ ls) ≡ begin_with n line (sections_from (n + 1) ls)
line_joins n line ls e = rw (e) (go (marks_from (n + 1) ls) (slice_split is_mark ls))
  where
    go : (ms : List ℕ) (groups : List (List Text)) → map part (zip (n ∷ map (λ mark. mark + 1) ms) (map concat (onto_first line groups)))
        ≡ begin_with n line (map part (zip ((n + 1) ∷ map (λ mark. mark + 1) ms) (map concat groups)))
    go [] [] = rw (append-nil line) refl
    go (m ∷ ms) [] = rw (append-nil line) refl
    go ms (g ∷ gs) = refl

-- nothing before the first section changes nothing
pub begin_nothing : (n : ℕ) (ls : List Text) → begin_with n [] (sections_from n ls) ≡ sections_from n ls
begin_nothing n [] = refl
begin_nothing n (l ∷ ls) = go (is_mark l) refl
  where
    again : (ss : List Part) → begin_with n [] (begin_with n l ss) ≡ begin_with n l ss
    again [] = refl
    again (s ∷ ss) = refl

    go : (b : Bool) → is_mark l ≡ b → begin_with n [] (sections_from n (l ∷ ls)) ≡ sections_from n (l ∷ ls)
    go true e = ap (begin_with n []) (mark_first n l ls e) ∙ sym (mark_first n l ls e)
    go false e = ap (begin_with n []) (line_joins n l ls e) ∙ again (sections_from (n + 1) ls) ∙ sym (line_joins n l ls e)

-- bytes before bytes
begin_more : (b n : ℕ) (front line : Text) (ss : List Part) → begin_with b front (begin_with n line ss) ≡ begin_with b (front ++ line) ss
begin_more b n front line [] = refl
begin_more b n front line (s ∷ ss) = ap (λ text. record { line = b; text = text } ∷ ss) (sym (append_assoc front line s.text))

-- behind a mark the next section begins
pub next_begins : (all done : List Part) (x : Part) (b n : ℕ) (front line : Text) (ls : List Text)
    → all ≡ done ++ begin_with b front (sections_from n (line ∷ ls)) → is_mark line ≡ true → x ≡ record { line = b; text = front }
    → all ≡ (done ++ x ∷ []) ++ begin_with (n + 1) [] (sections_from (n + 1) ls)
next_begins all done x b n front line ls parts e is =
    let ended : begin_with b front (sections_from n (line ∷ ls)) ≡ x ∷ sections_from (n + 1) ls =
    ap (begin_with b front) (mark_first n line ls e) ∙ ap (λ text. record { line = b; text = text } ∷ sections_from (n + 1) ls) (append-nil front)
    ∙ ap (λ y. y ∷ sections_from (n + 1) ls) (sym is) in
    parts ∙ ap (λ ss. done ++ ss) ended
    ∙ sym (append_assoc done (x ∷ []) _ ∙ ap (λ ss. done ++ x ∷ ss) (begin_nothing (n + 1) ls))

-- any other line goes on with the section that has begun
pub same_goes_on : (all done : List Part) (b n : ℕ) (front line : Text) (ls : List Text)
    → all ≡ done ++ begin_with b front (sections_from n (line ∷ ls)) → is_mark line ≡ false
    → all ≡ done ++ begin_with b (front ++ line) (sections_from (n + 1) ls)
same_goes_on all done b n front line ls parts e =
    parts ∙ ap (λ ss. done ++ begin_with b front ss) (line_joins n line ls e) ∙ ap (λ ss. done ++ ss) (begin_more b n front line (sections_from (n + 1) ls))

-- ---- the first lines of the sections

-- each section but the first begins behind a mark
pub first_lines : (n : ℕ) (ls : List Text) → map (λ s. s.line) (sections_from n ls) ≡ n ∷ map (λ mark. mark + 1) (marks_from n ls)
first_lines n [] = refl
first_lines n (l ∷ ls) = go (is_mark l) refl (first_lines (n + 1) ls)
  where
    front : (ss : List Part) (k : ℕ) (ms : List ℕ) → map (λ s. s.line) ss ≡ k ∷ ms → map (λ s. s.line) (begin_with n l ss) ≡ n ∷ ms
    front [] k ms e = cc
    front (s ∷ ss) k ms e = ap (λ xs. n ∷ drop 1 xs) e

    go : (b : Bool) → is_mark l ≡ b
        → map (λ s. s.line) (sections_from (n + 1) ls) ≡ (n + 1) ∷ map (λ mark. mark + 1) (marks_from (n + 1) ls)
        → map (λ s. s.line) (sections_from n (l ∷ ls)) ≡ n ∷ map (λ mark. mark + 1) (marks_from n (l ∷ ls))
    go true e behind = ap (map (λ s. s.line)) (mark_first n l ls e) ∙ rw (e) (ap (λ xs. n ∷ xs) behind)
    go false e behind = ap (map (λ s. s.line)) (line_joins n l ls e)
        ∙ rw (e) (front (sections_from (n + 1) ls) (n + 1) (map (λ mark. mark + 1) (marks_from (n + 1) ls)) behind)

-- the mark before the line at this place
mark_before : (done : List ℕ) (x n : ℕ) (rest : List ℕ) (k : ℕ) (ms : List ℕ) → done ++ x ∷ (n + 1) ∷ rest ≡ k ∷ map (λ mark. mark + 1) ms
    → slice_get ms (length done) ≡ Some n
mark_before [] x n rest k [] e = cc
mark_before [] x n rest k (m ∷ ms) e =
    let same : n + 1 ≡ m + 1 = ap (λ xs. get_or xs 1 0) e in
    ap Some (omega (arith, same))
mark_before (d ∷ done) x n rest k [] e =
    let longer : length (done ++ x ∷ (n + 1) ∷ rest) ≡ 0 = ap (λ xs. length (drop 1 xs)) e in
    absurd (omega (arith, longer, length-append done (x ∷ (n + 1) ∷ rest)))
mark_before (d ∷ done) x n rest k (m ∷ ms) e = mark_before done x n rest (m + 1) ms (ap (drop 1) e)

-- a mark where the list has all the sections but one is the first too many
pub first_too_many : (most : ℕ) (input : Text) (done : List Part) (b n : ℕ) (front line : Text) (ls : List Text)
    → sections input ≡ done ++ begin_with b front (sections_from n (line ∷ ls)) → is_mark line ≡ true → length done ≡ most - 1
    → IsFirstTooMany most input n
first_too_many most input done b n front line ls parts e count =
    let number : Part → ℕ = λ s. s.line in
    let all : sections input ≡ done ++ record { line = b; text = front ++ [] } ∷ sections_from (n + 1) ls =
    parts ∙ ap (λ ss. done ++ begin_with b front ss) (mark_first n line ls e) in
    let numbers : map number done ++ b ∷ (n + 1) ∷ map (λ mark. mark + 1) (marks_from (n + 1) ls) ≡ 1 ∷ map (λ mark. mark + 1) (marks input) =
    sym (ap (map number) all ∙ map-append number done (record { line = b; text = front ++ [] } ∷ sections_from (n + 1) ls)
    ∙ ap (λ xs. map number done ++ b ∷ xs) (first_lines (n + 1) ls)) ∙ first_lines 1 (lines input) in
    ap (slice_get (marks input)) (sym (length-map done number ∙ count))
    ∙ mark_before (map number done) b n (map (λ mark. mark + 1) (marks_from (n + 1) ls)) 1 (marks input) numbers
