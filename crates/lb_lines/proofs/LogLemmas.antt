-- The lines of a log.
use Rattle.std.proofs.Common.{◌≡◌, ℕ, ◌+◌, ◌<◌, ◌≤◌, List, [], ◌∷◌, ◌++◌, length, take, drop, get_or, refl, sym, ap, ap₂, ◌∙◌, arith, append_assoc, append-nil, subst}
use Rattle.std.specs.List.{All, flat_map}
use Rattle.std.proofs.lemmas.List.{drop_at, take-append-drop, length-take-le}
use Rattle.std.proofs.lemmas.List.Concat.{flat_map-append}
use Rattle.std.proofs.lemmas.List.Elements.{All-push, All-drop}
use Rattle.lb_trace.specs.declared.Entry.{Entry}
use Rattle.lb_lines.specs.declared.fault.LineKind.TheVariants.{Malformed}
use Rattle.lb_lines.specs.declared.form.Refusal.TheVariants.{Outside}
use Rattle.lb_lines.specs.Log.{kind_letter, entry_text, HasDigit, log_line}
use Rattle.lb_lines.specs.Forms.{SpellsEntries, log_form}
use Rattle.lb_lines.specs.InternalReading.{Takes, Refuses, IsEntry}
use Rattle.lb_lines.proofs.PairLemmas.{pair_within, no_single, two_first, one_left}

-- the line before the rest says these entries, which are added to those before
pub record AreEntriesSoFar (line rest : List ℕ) (before values : List Entry) : Type 0 where
  pub said : List Entry
  pub whole : line ≡ flat_map entry_text said ++ rest
  pub joined : values ≡ before ++ said
  pub workers : All HasDigit said

pub entries_more : (line rest pair behind : List ℕ) (before values : List Entry) (e : Entry) → 2 ≤ length rest → pair ≡ take 2 rest → behind ≡ drop 2 rest
    → IsEntry (get_or pair 0 0) (get_or pair 1 0) e → AreEntriesSoFar line rest before values → AreEntriesSoFar line behind before (values ++ e ∷ [])
entries_more line rest pair behind before values e h p b is so =
    let text : get_or pair 0 0 ∷ get_or pair 1 0 ∷ [] ≡ flat_map entry_text (e ∷ []) = ap₂ (λ x y. x ∷ y ∷ []) is.of_kind is.of_worker in
    record {
      said = so.said ++ e ∷ [];
      whole =
          so.whole ∙ ap (λ l. flat_map entry_text so.said ++ l) (two_first rest pair behind h p b ∙ ap (λ l. l ++ behind) text)
          ∙ sym (append_assoc (flat_map entry_text so.said) (flat_map entry_text (e ∷ [])) behind)
          ∙ ap (λ l. l ++ behind) (sym (flat_map-append entry_text so.said (e ∷ [])));
      joined = ap (λ l. l ++ e ∷ []) so.joined ∙ append_assoc before so.said (e ∷ []);
      workers = All-push HasDigit so.said e so.workers is.has_digit;
    }

pub no_entry : (line rest pair behind : List ℕ) (before values : List Entry) → 2 ≤ length rest → pair ≡ take 2 rest → behind ≡ drop 2 rest
    → ((e : Entry) → IsEntry (get_or pair 0 0) (get_or pair 1 0) e → ⊥) → AreEntriesSoFar line rest before values
    → Refuses log_form line before (Outside Malformed)
no_entry line rest pair behind before values h p b none so = λ others s.
    let text : flat_map entry_text so.said ++ (get_or pair 0 0 ∷ get_or pair 1 0 ∷ behind) ≡ flat_map entry_text others =
    ap (λ l. flat_map entry_text so.said ++ l) (sym (two_first rest pair behind h p b)) ∙ sym so.whole ∙ s.text
    in
    let at = pair_within (λ e. kind_letter e.kind) (λ e. 48 + e.worker) HasDigit so.said others _ _ _ s.workers text in
    none at.0 (record { of_kind = at.2; of_worker = at.3; has_digit = at.1 })

-- a single character at the end
pub no_entry_end : (line rest : List ℕ) (before values : List Entry) → length rest ≤ 1 → (length rest ≡ 0 → ⊥) → AreEntriesSoFar line rest before values
    → Refuses log_form line before (Outside Malformed)
no_entry_end line rest before values short some so = λ others s.
    let one = one_left rest short some in
    no_single (λ e. kind_letter e.kind) (λ e. 48 + e.worker) so.said others one.0
    (ap (λ l. flat_map entry_text so.said ++ l) (sym one.1) ∙ sym so.whole ∙ s.text)

-- an empty line
pub no_entries : (line : List ℕ) (before : List Entry) → length line ≡ 0 → Refuses log_form line before (Outside Malformed)
no_entries line before empty = λ others s. absurd (nothing line others empty s)
  where
    nothing : (line : List ℕ) (others : List Entry) → length line ≡ 0 → SpellsEntries line others → ⊥
    nothing line [] empty s = omega (arith, s.some)
    nothing [] (e ∷ others) empty s = let text : [] ≡ flat_map entry_text (e ∷ others) = s.text in cc
    nothing (c ∷ line) (e ∷ others) empty s = omega (arith, empty)

some_entries : (line : List ℕ) (said : List Entry) → (length line ≡ 0 → ⊥) → line ≡ flat_map entry_text said → 0 < length said
some_entries line [] n e = absurd (n (ap length e))
some_entries line (x ∷ said) n e = omega arith

pub entries_whole : (line rest : List ℕ) (before values : List Entry) → length rest ≡ 0 → (length line ≡ 0 → ⊥) → AreEntriesSoFar line rest before values
    → Takes log_form line before values
entries_whole line [] before values empty n so =
    let text : line ≡ flat_map entry_text so.said = so.whole ∙ append-nil (flat_map entry_text so.said) in
    record {
      said = so.said;
      spelled = record { some = some_entries line so.said n text; workers = so.workers; text = text };
      joined = so.joined;
      short = λ k d h. tt;
      few = tt;
    }
entries_whole line (x ∷ rest) before values empty n so = absurd (omega (arith, empty))

-- the log before the rest is printed in full lines
pub record IsPrintedSoFar (log rest : List Entry) (text : List ℕ) : Type 0 where
  pub full : List (List Entry)
  pub whole : log ≡ flat_map (λ line. line) full ++ rest
  pub lengths : All (λ line. length line ≡ 32) full
  pub printed : text ≡ flat_map log_line full

-- what holds of a whole list holds of its end
pub All-right : {A : Type 0} (P : A → Type 0) (xs front rest : List A) → xs ≡ front ++ rest → All P xs → All P rest
All-right P xs front rest e all = subst (All P) (ap (drop (length front)) e ∙ drop_at front rest (length front) refl) (All-drop P (length front) xs all)

lines_flat : (full : List (List Entry)) (line : List Entry) → flat_map (λ l. l) (full ++ line ∷ []) ≡ flat_map (λ l. l) full ++ line
lines_flat full line = flat_map-append (λ l. l) full (line ∷ []) ∙ ap (λ l. flat_map (λ l. l) full ++ l) (append-nil line)

lines_text : (full : List (List Entry)) (line : List Entry) → flat_map log_line (full ++ line ∷ []) ≡ flat_map log_line full ++ log_line line
lines_text full line = flat_map-append log_line full (line ∷ []) ∙ ap (λ l. flat_map log_line full ++ l) (append-nil (log_line line))

pub line_printed : (log rest line behind : List Entry) (text : List ℕ) → 32 ≤ length rest → line ≡ take 32 rest → behind ≡ drop 32 rest
    → IsPrintedSoFar log rest text → IsPrintedSoFar log behind (text ++ log_line line)
line_printed log rest line behind text h l b so =
    let parts : rest ≡ line ++ behind = sym (ap₂ (λ x y. x ++ y) l b ∙ take-append-drop 32 rest) in
    record {
      full = so.full ++ line ∷ [];
      whole =
          so.whole ∙ ap (λ x. flat_map (λ x. x) so.full ++ x) parts ∙ sym (append_assoc (flat_map (λ x. x) so.full) line behind)
          ∙ ap (λ x. x ++ behind) (sym (lines_flat so.full line));
      lengths = All-push (λ x. length x ≡ 32) so.full line so.lengths (ap length l ∙ length-take-le 32 rest h);
      printed = ap (λ x. x ++ log_line line) so.printed ∙ sym (lines_text so.full line);
    }
