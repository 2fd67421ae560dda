-- What is printed is read as what was printed.
use Rattle.std.proofs.Common.{◌≡◌, ℕ, ◌+◌, ◌-◌, ◌<◌, ◌==◌, ◌^◌, true, false, cond, List, [], ◌∷◌, ◌++◌, length, map, filter, take, get_or, codes, refl, sym, ap, ◌∙◌, subst, arith, append_assoc, append-nil, lit<}
use Rattle.std.specs.List.{All, flat_map, slice_split, enumerate_from}
use Rattle.std.specs.Char.{digit_char}
use Rattle.std.specs.Str.Lines.{strip_carriage_return}
use Rattle.std.proofs.lemmas.Bool.Decides.{nat_tests}
use Rattle.std.proofs.lemmas.List.{map-id, take_at}
use Rattle.std.proofs.lemmas.List.Concat.{flat_map-append, flat_map_single}
use Rattle.std.proofs.lemmas.List.Elements.{All-append, All-weaker, All-head, All-tail, All-cons, All-nil, All-from_recursion, All-map, All-take}
use Rattle.std.proofs.lemmas.List.Splits.{slice_split_at}
use Rattle.lb_trace.specs.declared.Event.{Event}
use Rattle.lb_trace.specs.declared.Event.TheVariants.{Ld, St}
use Rattle.lb_trace.specs.declared.Kind.{Kind}
use Rattle.lb_trace.specs.declared.Kind.TheVariants.{Fetch, Decode, Execute, Ram, Mmio, Writeback, Boot, Shift, Arrive}
use Rattle.lb_trace.specs.declared.Entry.{Entry}
use Rattle.lb_trace.specs.Hex.{hex_word}
use Rattle.lb_trace.specs.TraceText.{event_line, trace_text}
use Rattle.lb_lines.specs.Lines.{pieces_of, has_bytes, lines_of}
use Rattle.lb_lines.specs.Form.{Form, SpellAll}
use Rattle.lb_lines.specs.Forms.{trace_form, log_form, SpellsPair}
use Rattle.lb_lines.specs.Laws.{HasWords, TraceSaysItself, LogSaysItself}
use Rattle.lb_lines.specs.Log.{kind_letter, entry_text, HasDigit, log_line, last_lines}
use Rattle.lb_lines.proofs.LogLemmas.{All-right}
use Rattle.lb_lines.proofs.WordLemmas.{eight_of, hex_word_spells}

-- a line without line feeds and carriage returns
abbrev pub IsPlain : List ℕ → Type 0
IsPlain line = All (λ b. 13 < b) line

no_feed : (b : ℕ) → 13 < b → (b == 10) ≡ false
no_feed b h = grind (arith, nat_tests)

no_return : (b : ℕ) → 13 < b → (b == 13) ≡ false
no_return b h = grind (arith, nat_tests)

plain_is_bare : (line : List ℕ) → IsPlain line → strip_carriage_return line ≡ line
plain_is_bare [] h = refl
plain_is_bare (x ∷ xs) h =
    let last : ℕ = length (x ∷ xs) - 1 in
    ap (λ b. cond b (take last (x ∷ xs)) (x ∷ xs)) (no_return (get_or (x ∷ xs) last 0) (h last 0 (omega arith)))

some_bytes : (number : ℕ) (line : List ℕ) → 0 < length line → has_bytes (number, line) ≡ true
some_bytes number line h = grind (arith, nat_tests)

-- a value's line in a text
pub record IsPrintedLine {A : Type 0} (form : Form A) (text line : List ℕ) (said : List A) : Type 0 where
  pub ends : text ≡ line ++ 10 ∷ []
  pub plain : IsPlain line
  pub some : 0 < length line
  pub spells : form.Spells line said

module _ {A B : Type 0} (form : Form A) (text_of line_of : B → List ℕ) (said : B → List A) (P : B → Type 0)
    (each : (x : B) → P x → IsPrintedLine form (text_of x) (line_of x) (said x)) where
  first_printed : (number : ℕ) (x : B) (rest : List ℕ) → P x → lines_of number (text_of x ++ rest) ≡ (number, line_of x) ∷ lines_of (number + 1) rest
  first_printed number x rest h =
      let line : IsPrintedLine form (text_of x) (line_of x) (said x) = each x h in
      let cut : slice_split (λ b. b == 10) (text_of x ++ rest) ≡ line_of x ∷ slice_split (λ b. b == 10) rest =
      ap (λ l. slice_split (λ b. b == 10) (l ++ rest)) line.ends
      ∙ ap (slice_split (λ b. b == 10)) (append_assoc (line_of x) (10 ∷ []) rest)
      ∙ slice_split_at (λ b. b == 10) (line_of x) 10 rest (All-weaker (λ b. 13 < b) (λ b. (b == 10) ≡ false) no_feed (line_of x) line.plain) refl
      in
      ap (λ ps. filter has_bytes (enumerate_from number (map strip_carriage_return ps))) cut
      ∙ ap (λ l. filter has_bytes ((number, l) ∷ enumerate_from (number + 1) (pieces_of rest))) (plain_is_bare (line_of x) line.plain)
      ∙ ap (λ b. cond b ((number, line_of x) ∷ lines_of (number + 1) rest) (lines_of (number + 1) rest)) (some_bytes number (line_of x) line.some)

  pub printed_spells : (number : ℕ) (xs : List B) → All P xs → SpellAll form (lines_of number (flat_map text_of xs)) (flat_map said xs)
  printed_spells number [] h = refl
  printed_spells number (x ∷ xs) h =
      subst (λ lines. SpellAll form lines (flat_map said (x ∷ xs))) (sym (first_printed number x (flat_map text_of xs) (All-head P x xs h)))
      (said x, flat_map said xs, refl, (each x (All-head P x xs h)).spells, printed_spells (number + 1) xs (All-tail P x xs h))

plain_digit : (d : ℕ) → 13 < digit_char d
plain_digit d = grind (arith, nat_tests)

plain_word : (w : ℕ) → IsPlain (hex_word w)
plain_word w = All-map (λ b. 13 < b) digit_char (eight_of w) (λ k d h. plain_digit (get_or (eight_of w) k d))

-- an event's line without its line feed
bare_line : List ℕ → ℕ → ℕ → List ℕ
bare_line word addr value = word ++ hex_word addr ++ codes " " ++ hex_word value

line_of_event : Event → List ℕ
line_of_event (Ld addr value) = bare_line (codes "ld ") addr value
line_of_event (St addr value) = bare_line (codes "st ") addr value

plain_line : (word : List ℕ) (addr value : ℕ) → IsPlain word → IsPlain (bare_line word addr value)
unfolding bare_line
plain_line word addr value h =
    All-append (λ b. 13 < b) (word ++ hex_word addr ++ codes " ") (hex_word value)
    (All-append (λ b. 13 < b) (word ++ hex_word addr) (codes " ") (All-append (λ b. 13 < b) word (hex_word addr) h (plain_word addr))
    (All-from_recursion (λ b. 13 < b) (codes " ") (lit< tt, tt)))
    (plain_word value)

spells_pair : (addr value : ℕ) → addr < 2 ^ 32 → value < 2 ^ 32 → SpellsPair (hex_word addr ++ (codes " " ++ hex_word value)) addr value
spells_pair addr value h k = record {
  addr_text = hex_word addr;
  value_text = hex_word value;
  whole = refl;
  spells_addr = hex_word_spells addr h;
  spells_value = hex_word_spells value k;
}

printed_event : (e : Event) → HasWords e → IsPrintedLine trace_form (event_line e) (line_of_event e) (e ∷ [])
unfolding line_of_event bare_line
printed_event (Ld addr value) h = record {
  ends = refl;
  plain = plain_line (codes "ld ") addr value (All-from_recursion (λ b. 13 < b) (codes "ld ") (lit< tt, (lit< tt, (lit< tt, tt))));
  some = omega arith;
  spells = (Ld addr value, (hex_word addr ++ (codes " " ++ hex_word value), refl, spells_pair addr value h.0 h.1), refl);
}
printed_event (St addr value) h = record {
  ends = refl;
  plain = plain_line (codes "st ") addr value (All-from_recursion (λ b. 13 < b) (codes "st ") (lit< tt, (lit< tt, (lit< tt, tt))));
  some = omega arith;
  spells = (St addr value, (hex_word addr ++ (codes " " ++ hex_word value), refl, spells_pair addr value h.0 h.1), refl);
}

pub trace_says_itself : TraceSaysItself
trace_says_itself first events h = record {
  spelled =
      subst (SpellAll trace_form (lines_of first (trace_text events))) (flat_map_single (λ e. e) events ∙ map-id events)
      (printed_spells trace_form event_line line_of_event (λ e. e ∷ []) HasWords printed_event first events h);
  short = λ k d m. tt;
  few = tt;
}

plain_kind : (kind : Kind) → 13 < kind_letter kind
plain_kind Fetch = lit< tt
plain_kind Decode = lit< tt
plain_kind Execute = lit< tt
plain_kind Ram = lit< tt
plain_kind Mmio = lit< tt
plain_kind Writeback = lit< tt
plain_kind Boot = lit< tt
plain_kind Shift = lit< tt
plain_kind Arrive = lit< tt

plain_entries : (entries : List Entry) → IsPlain (flat_map entry_text entries)
plain_entries [] = All-nil (λ b. 13 < b)
plain_entries (e ∷ entries) =
    All-cons (λ b. 13 < b) (kind_letter e.kind) ((48 + e.worker) ∷ flat_map entry_text entries) (plain_kind e.kind)
    (All-cons (λ b. 13 < b) (48 + e.worker) (flat_map entry_text entries) (omega arith) (plain_entries entries))

-- a line of entries of a printed log
abbrev pub IsLogLine : List Entry → Type 0
IsLogLine line = (0 < length line) × All HasDigit line

printed_line : (line : List Entry) → IsLogLine line → IsPrintedLine log_form (log_line line) (flat_map entry_text line) line
printed_line line h = record {
  ends = refl;
  plain = plain_entries line;
  some = some_text line h.0;
  spells = record { some = h.0; workers = h.1; text = refl };
}
  where
    some_text : (line : List Entry) → 0 < length line → 0 < length (flat_map entry_text line)
    some_text [] m = m
    some_text (e ∷ line) m = omega arith

All-left : {A : Type 0} (P : A → Type 0) (xs ys : List A) → All P (xs ++ ys) → All P xs
All-left P xs ys all = subst (All P) (take_at xs ys (length xs) refl) (All-take P (length xs) (xs ++ ys) all)

full_lines : (full : List (List Entry)) → All (λ line. length line ≡ 32) full → All HasDigit (flat_map (λ line. line) full) → All IsLogLine full
full_lines [] lengths workers = All-nil IsLogLine
full_lines (line ∷ full) lengths workers =
    let len : length line ≡ 32 = All-head (λ l. length l ≡ 32) line full lengths in
    All-cons IsLogLine line full
    (omega (arith, len), All-left HasDigit line (flat_map (λ l. l) full) workers)
    (full_lines full (All-tail (λ l. length l ≡ 32) line full lengths)
    (All-right HasDigit (line ++ flat_map (λ l. l) full) line (flat_map (λ l. l) full) refl workers))

rest_lines : (rest : List Entry) → All HasDigit rest → All IsLogLine (last_lines rest)
rest_lines [] workers = All-nil IsLogLine
rest_lines (e ∷ rest) workers = All-cons IsLogLine (e ∷ rest) [] (omega arith, workers) (All-nil IsLogLine)

rest_joined : (rest : List Entry) → flat_map (λ line. line) (last_lines rest) ≡ rest
rest_joined [] = refl
rest_joined (e ∷ rest) = append-nil (e ∷ rest)

pub log_says_itself : LogSaysItself
log_says_itself first log text h is =
    let lines : List (List Entry) = is.full ++ last_lines is.rest in
    let all : All HasDigit (flat_map (λ line. line) is.full ++ is.rest) = subst (All HasDigit) is.whole h in
    let good : All IsLogLine lines =
    All-append IsLogLine is.full (last_lines is.rest)
    (full_lines is.full is.lengths (All-left HasDigit (flat_map (λ line. line) is.full) is.rest all))
    (rest_lines is.rest (All-right HasDigit log (flat_map (λ line. line) is.full) is.rest is.whole h))
    in
    let joined : flat_map (λ line. line) lines ≡ log =
    flat_map-append (λ line. line) is.full (last_lines is.rest)
    ∙ ap (λ l. flat_map (λ line. line) is.full ++ l) (rest_joined is.rest) ∙ sym is.whole
    in
    record {
      spelled =
          subst (λ t. SpellAll log_form (lines_of first t) log) (sym is.printed)
          (subst (SpellAll log_form (lines_of first (flat_map log_line lines))) joined
          (printed_spells log_form log_line (flat_map entry_text) (λ line. line) IsLogLine printed_line first lines good));
      short = λ k d m. tt;
      few = tt;
    }
