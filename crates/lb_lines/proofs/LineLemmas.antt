-- Lines that are read one after the other.
use Rattle.std.proofs.Common.{◌≡◌, ℕ, ◌+◌, ◌<◌, ◌≤◌, List, [], ◌∷◌, ◌++◌, length, filter, refl, sym, ap, ◌∙◌, subst, arith, append_assoc, append-nil}
use Rattle.std.specs.List.{All, enumerate_from}
use Rattle.std.proofs.lemmas.List.Elements.{filter-append, All-append, All-nil}
use Rattle.lb_lines.specs.Lines.{pieces_of, has_bytes, lines_of}
use Rattle.lb_lines.specs.Form.{Form, SpellAll, Say}
use Rattle.lb_lines.specs.InternalReading.{Adds}

-- the first piece and the lines behind it
lines_more : (number : ℕ) (rest piece : List ℕ) (behind : List (List ℕ)) → pieces_of rest ≡ piece ∷ behind
    → lines_of number rest ≡ filter has_bytes ((number, piece) ∷ []) ++ filter has_bytes (enumerate_from (number + 1) behind)
lines_more number rest piece behind e =
    ap (λ ps. filter has_bytes (enumerate_from number ps)) e
    ∙ filter-append has_bytes ((number, piece) ∷ []) (enumerate_from (number + 1) behind)

module _ {A : Type 0} (form : Form A) where
  -- the lists of lines say the joined values
  pub spell_append : (xs ys : List (ℕ × List ℕ)) (values said : List A) → SpellAll form xs values → SpellAll form ys said → SpellAll form (xs ++ ys) (values ++ said)
  spell_append [] ys values said first second = subst (λ l. SpellAll form ys (l ++ said)) (sym first) second
  spell_append (x ∷ xs) ys values said first second = (
    first.0,
    first.1 ++ said,
    ap (λ l. l ++ said) first.2 ∙ append_assoc first.0 first.1 said,
    first.3,
    spell_append xs ys first.1 said first.4 second,
  )

  -- the pieces before the rest say the values, and the rest's first piece has this number
  pub record IsReadUpTo (first : ℕ) (text : List ℕ) (number : ℕ) (rest : List ℕ) (values : List A) : Type 0 where
    pub front : List (ℕ × List ℕ)
    pub whole : lines_of first text ≡ front ++ lines_of number rest
    pub said : Say form front values
    pub bound : number + length rest ≤ first + length text

  pub nothing_read : (first : ℕ) (text : List ℕ) (values : List A) → values ≡ [] → form.IsFew 0 → IsReadUpTo first text first text values
  nothing_read first text values e few = subst (IsReadUpTo first text first text) (sym e) (record {
    front = [];
    whole = refl;
    said = record { spelled = refl; short = All-nil form.IsShort; few = few };
    bound = omega arith;
  })

  said_more : (front : List (ℕ × List ℕ)) (number : ℕ) (piece : List ℕ) (before after : List A) → Say form front before
      → Adds form number piece before after → Say form (front ++ filter has_bytes ((number, piece) ∷ [])) after
  said_more front number piece before after said adds = record {
    spelled = subst (SpellAll form (front ++ filter has_bytes ((number, piece) ∷ []))) (sym adds.joined)
        (spell_append front (filter has_bytes ((number, piece) ∷ [])) before adds.said said.spelled adds.spelled);
    short = subst (All form.IsShort) (sym adds.joined) (All-append form.IsShort before adds.said said.short adds.short);
    few = adds.few said.few;
  }

  -- one piece more
  pub piece_read : (first : ℕ) (text : List ℕ) (number : ℕ) (rest piece behind : List ℕ) (before after : List A)
      → pieces_of rest ≡ piece ∷ pieces_of behind → length behind < length rest → Adds form number piece before after
      → IsReadUpTo first text number rest before → IsReadUpTo first text (number + 1) behind after
  piece_read first text number rest piece behind before after cut shorter adds so = record {
    front = so.front ++ filter has_bytes ((number, piece) ∷ []);
    whole =
        so.whole ∙ ap (λ l. so.front ++ l) (lines_more number rest piece (pieces_of behind) cut)
        ∙ sym (append_assoc so.front (filter has_bytes ((number, piece) ∷ [])) (lines_of (number + 1) behind));
    said = said_more so.front number piece before after so.said adds;
    bound = omega (arith, so.bound, shorter);
  }

  -- the last piece
  pub all_read : (first : ℕ) (text : List ℕ) (number : ℕ) (rest piece : List ℕ) (before after : List A) → pieces_of rest ≡ piece ∷ []
      → Adds form number piece before after → IsReadUpTo first text number rest before → Say form (lines_of first text) after
  all_read first text number rest piece before after cut adds so =
      subst (λ lines. Say form lines after)
      (sym (so.whole ∙ ap (λ l. so.front ++ l) (lines_more number rest piece [] cut ∙ append-nil (filter has_bytes ((number, piece) ∷ [])))))
      (said_more so.front number piece before after so.said adds)
