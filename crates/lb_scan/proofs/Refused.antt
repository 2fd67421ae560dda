-- Where no token that is expected stands.
use Rattle.std.proofs.Common.{◌≡◌, ℕ, ◌+◌, ◌<◌, ◌≤◌, true, false, ◌&&◌, List, [], ◌∷◌, ◌++◌, length, take, drop, get_or, Some, None, refl, sym, ap, subst, ◌∙◌, append_assoc, arith, inl, inr, length-append}
use Rattle.std.specs.Prelude.{is_some}
use Rattle.std.specs.Char.{is_digit}
use Rattle.std.specs.List.{list_all}
use Rattle.std.proofs.lemmas.Bool.{true≢false, false≢true, and_parts, or_left}
use Rattle.std.proofs.lemmas.List.Folds.{list_all-append}
use Rattle.lb_syntax.specs.Brackets.{most_brackets, open_after}
use Rattle.lb_spelling.specs.declared.symbol.Symbol.{Symbol}
use Rattle.lb_spelling.specs.InternalMachine.{next, next_of}
use Rattle.lb_spelling.specs.Tokens.{Token, Numeral, Stands, Outside, gap, lexeme, value, spelling, is_hex, is_number, is_word_byte, hex_mark, joins, begins_with, IsLongest}
use Rattle.lb_spelling.proofs.Words.{begins_itself, based_front, is_based, name_word, number_bytes, number_decimal, number_hex, one_more}
use Rattle.lb_spelling.proofs.Lexing.{Spelled, head, begins_front, empty_lexeme, joins_front, lexeme_is, lexeme_number}
use Rattle.lb_spelling.proofs.Running.{count_is}
use Rattle.lb_spelling.proofs.SameToken.{Fronts, fronts, gap_none, gap_same, gap_word, no_token, token_begins}
use Rattle.lb_scan.specs.declared.syntax_error.SyntaxError.{SyntaxError}
use Rattle.lb_scan.specs.InternalScanning.{Skips, BeginsToken, Digits, DigitsFault, NoDigitFault, HexadecimalFault, IsSpelled, ReadsNoNumber, ReadsWord, ReadsNoWord, begins_with_digit}
use Rattle.lb_scan.specs.Scanned.{TakesNone, IsMoreLeft}
use Rattle.lb_scan.proofs.Numbers.{none_fixed}
use Rattle.lb_scan.proofs.Marks.{based, based_fails, digit_head, no_word, not_hex_front, run_on}
use Rattle.lb_scan.proofs.Stuck.{length_take}
use Rattle.lb_scan.proofs.Fronts.{Begins, take_drop, taken_short}

-- ---- numbers

-- what begins with a digit, all of a run: no number is a part of it, it is none, and with more it is none
none_reads : (a : ℕ) (u r : List ℕ) → is_digit a 10 ≡ true → list_all is_word_byte (a ∷ u) ≡ true → (is_number (a ∷ u) ≡ true → IsLongest (a ∷ u) r → ⊥)
    → ((c : ℕ) (v r' : List ℕ) → r ≡ c ∷ v ++ r' → is_number (a ∷ u ++ c ∷ v) ≡ true → ⊥) → ReadsNoNumber (a ∷ u ++ r)
none_reads a u r d bytes whole longer n rest p = elim (fronts (a ∷ u) p.word r rest p.parts) [
  | Fronts.equal f g ↦ whole (ap is_number f ∙ number) (subst (λ (s : List ℕ). IsLongest (a ∷ u) s) (sym g) (subst (λ (w : List ℕ). IsLongest w rest) (sym f) p.longest))
  | Fronts.second c v f g ↦ longer c v rest g (ap is_number (sym f) ∙ number)
  | Fronts.first c v f g ↦ shorter p.word c v p.spelled f (subst (λ (s : List ℕ). IsLongest p.word s) g p.longest)
] where
  number : is_number p.word ≡ true
  number = (lexeme_number p.word n p.spelled).0

  shorter : (w : List ℕ) (c : ℕ) (v : List ℕ) → lexeme w ≡ Some (Numeral n) → a ∷ u ≡ w ++ c ∷ v → joins w c ≡ false → ⊥
  shorter [] c v e f longest = empty_lexeme (Numeral n) e
  shorter (a' ∷ w) c v e f longest =
      let same_byte : a' ≡ a = (let g : a' ∷ (w ++ c ∷ v) ≡ a ∷ u = sym f in cc) in
      let inner : (list_all is_word_byte (a' ∷ w) && list_all is_word_byte (c ∷ v)) ≡ true = sym (list_all-append is_word_byte (a' ∷ w) (c ∷ v)) ∙ (ap (λ (s : List ℕ). list_all is_word_byte s) (sym f) ∙ bytes) in
      let in_run = (and_parts (is_word_byte c) (list_all is_word_byte v) (and_parts (list_all is_word_byte (a' ∷ w)) (list_all is_word_byte (c ∷ v)) inner).1).0 in
      true≢false (sym (run_on a' w c (rw same_byte d) in_run) ∙ longest)

-- no digit more makes a number
no_based : (r : ℕ) (before : List ℕ) (b : ℕ) (v : List ℕ) → 0 < r → 0 < length before → is_based r (before ++ b ∷ []) ≡ false → is_based r (before ++ b ∷ v) ≡ true → ⊥
no_based r [] b v h some none e = omega arith
no_based r (a ∷ u) b v h some none e =
    true≢false (sym (based_front r a (u ++ b ∷ []) v h (ap (λ (s : List ℕ). is_based r s) (sym (one_more (a ∷ u) b v)) ∙ e)) ∙ none)

pub decimal_refused : (s : List ℕ) (error : SyntaxError) → is_hex s ≡ false → DigitsFault 10 s error → ReadsNoNumber s
decimal_refused s error h p =
    let head = digit_head s p.before (p.byte ∷ p.more) p.digits in
    go head.0 head.1 head.3 (subst (λ (w : List ℕ). Digits 10 s w (p.byte ∷ p.more)) head.2 p.digits) (subst (λ (w : List ℕ). is_based 10 (w ++ p.byte ∷ []) ≡ false) head.2 (based_fails 10 p.before p.byte p.kind)) where
      go : (a : ℕ) (u : List ℕ) → is_digit a 10 ≡ true → Digits 10 s (a ∷ u) (p.byte ∷ p.more) → is_based 10 (a ∷ u ++ p.byte ∷ []) ≡ false → ReadsNoNumber s
      go a u da d wide =
          let front : is_hex (a ∷ u) ≡ false = not_hex_front (a ∷ u) (p.byte ∷ p.more) (ap is_hex (sym d.parts) ∙ h) in
          let number : is_number (a ∷ u) ≡ true = number_decimal (a ∷ u) front ∙ based 10 s (a ∷ u) (p.byte ∷ p.more) d in
          subst (λ (w : List ℕ). ReadsNoNumber w) (sym d.parts) (none_reads a u (p.byte ∷ p.more) da (number_bytes (a ∷ u) number) (λ _ longest. true≢false (sym (run_on a u p.byte da p.in_run) ∙ longest)) longer) where
            longer : (c : ℕ) (v r : List ℕ) → p.byte ∷ p.more ≡ c ∷ v ++ r → is_number (a ∷ u ++ c ∷ v) ≡ true → ⊥
            longer c v r e n =
                let same_byte : p.byte ≡ c = (let f : p.byte ∷ p.more ≡ c ∷ (v ++ r) = e in cc) in
                let regroup : s ≡ (a ∷ u ++ c ∷ v) ++ r = d.parts ∙ (ap (λ (w : List ℕ). a ∷ u ++ w) e ∙ sym (append_assoc (a ∷ u) (c ∷ v) r)) in
                let plain : is_hex (a ∷ u ++ c ∷ v) ≡ false = not_hex_front (a ∷ u ++ c ∷ v) r (ap is_hex (sym regroup) ∙ h) in
                no_based 10 (a ∷ u) c v (omega arith) d.some (subst (λ (b : ℕ). is_based 10 (a ∷ u ++ b ∷ []) ≡ false) same_byte wide) (sym (number_decimal (a ∷ u ++ c ∷ v) plain) ∙ n)

hex_refused : (s : List ℕ) (error : SyntaxError) → DigitsFault 16 s error → ReadsNoNumber (48 ∷ 120 ∷ s)
hex_refused s error p =
    let d = p.digits in
    let number : is_number (48 ∷ 120 ∷ p.before) ≡ true = number_hex p.before ∙ based 16 s p.before (p.byte ∷ p.more) d in
    subst (λ (w : List ℕ). ReadsNoNumber (48 ∷ 120 ∷ w)) (sym d.parts) (none_reads 48 (120 ∷ p.before) (p.byte ∷ p.more) refl (number_bytes (48 ∷ 120 ∷ p.before) number) (λ _ longest. true≢false (sym (run_on 48 (120 ∷ p.before) p.byte refl p.in_run) ∙ longest)) longer) where
      longer : (c : ℕ) (v r : List ℕ) → p.byte ∷ p.more ≡ c ∷ v ++ r → is_number (48 ∷ 120 ∷ p.before ++ c ∷ v) ≡ true → ⊥
      longer c v r e n =
          let same_byte : p.byte ≡ c = (let f : p.byte ∷ p.more ≡ c ∷ (v ++ r) = e in cc) in
          no_based 16 p.before c v (omega arith) p.digits.some (subst (λ (b : ℕ). is_based 16 (p.before ++ b ∷ []) ≡ false) same_byte (based_fails 16 p.before p.byte p.kind)) (sym (number_hex (p.before ++ c ∷ v)) ∙ n)

mark_bytes : list_all is_word_byte hex_mark ≡ true
unfolding is_word_byte
mark_bytes = refl

marked_refused : (s : List ℕ) (error : SyntaxError) → NoDigitFault s error → ReadsNoNumber (48 ∷ 120 ∷ s)
marked_refused s error p = none_reads 48 (120 ∷ []) s refl mark_bytes (λ n _. false≢true (sym (number_hex []) ∙ n)) (longer s p) where
  longer : (s : List ℕ) → NoDigitFault s error → (c : ℕ) (v r : List ℕ) → s ≡ c ∷ v ++ r → is_number (48 ∷ 120 ∷ c ∷ v) ≡ true → ⊥
  longer [] q c v r e n = absurd (let f : [] ≡ c ∷ (v ++ r) = e in cc)
  longer (b ∷ s) q c v r e n =
      let same_byte : b ≡ c = (let f : b ∷ s ≡ c ∷ (v ++ r) = e in cc) in
      let one : is_based 16 (c ∷ []) ≡ true = based_front 16 c [] v (omega arith) (sym (number_hex (c ∷ v)) ∙ n) in
      let digit : is_digit c 16 ≡ true = (and_parts (is_digit c 16) true (and_parts (is_digit c 16 && true) _ one).0).0 in
      true≢false (sym digit ∙ subst (λ (b : ℕ). is_digit b 16 ≡ false) same_byte q.0)

pub hexadecimal_refused : (s : List ℕ) (error : SyntaxError) → HexadecimalFault s error → ReadsNoNumber (48 ∷ 120 ∷ s)
hexadecimal_refused s error (inl p) = marked_refused s error p
hexadecimal_refused s error (inr p) = hex_refused s error p

-- ---- words and signs

take_front : (u v : List ℕ) → take (length u) (u ++ v) ≡ u
take_front [] v = refl
take_front (b ∷ u) v = ap (λ (w : List ℕ). b ∷ w) (take_front u v)

get_front : (u : List ℕ) (c : ℕ) (v : List ℕ) → get_or (u ++ c ∷ v) (length u) 0 ≡ c
get_front [] c v = refl
get_front (b ∷ u) c v = get_front u c v

-- the spelling at the front is of no token that x takes
pub untaken_refused : (x : Symbol) (s : List ℕ) (len : ℕ) → IsSpelled s len → begins_with_digit 10 s ≡ false → next_of x (lexeme (take len s)) ≡ None → ReadsNoWord x s
untaken_refused x s len sp d none t rest p = elim (fronts (take len s) p.word (drop len s) rest (sym (take_drop len s) ∙ p.parts)) [
  | Fronts.equal f g ↦ equal f
  | Fronts.second c v f g ↦ longer c v f g
  | Fronts.first c v f g ↦ shorter c v f g
] where
  equal : take len s ≡ p.word → ⊥
  equal f =
      let e : lexeme (take len s) ≡ Some t = ap lexeme f ∙ p.spelled in
      let g : next x t ≡ None = rw e at none in
      true≢false (sym p.taken ∙ rw g refl)

  some : 0 < length p.word
  some = some_word p.word p.spelled where
    some_word : (w : List ℕ) → lexeme w ≡ Some t → 0 < length w
    some_word [] e = absurd (empty_lexeme t e)
    some_word (b ∷ w) e = omega arith

  no_digit : begins_with_digit 10 p.word ≡ false
  no_digit = front p.word some (ap (λ (w : List ℕ). begins_with_digit 10 w) (sym p.parts) ∙ d) where
    front : (w : List ℕ) → 0 < length w → begins_with_digit 10 (w ++ rest) ≡ false → begins_with_digit 10 w ≡ false
    front [] h e = absurd (omega arith)
    front (b ∷ w) h e = e

  len_is : length (take len s) ≡ len
  len_is = length_take len s sp.within

  joined : (w : List ℕ) (c : ℕ) (v : List ℕ) → 0 < length w → p.word ≡ w ++ c ∷ v → joins w c ≡ true
  joined [] c v h f = absurd (omega arith)
  joined (a ∷ u) c v h f = joins_front a u c v t (ap lexeme (sym f) ∙ p.spelled)

  longer : (c : ℕ) (v : List ℕ) → p.word ≡ take len s ++ c ∷ v → drop len s ≡ c ∷ v ++ rest → ⊥
  longer c v f g =
      let l : length p.word ≡ length (take len s) + length (c ∷ v) = ap (λ (w : List ℕ). length w) f ∙ length-append (take len s) (c ∷ v) in
      let short : length p.word ≤ 32 = taken_short x p.word t no_digit (record { spelled = p.spelled; taken = p.taken }) in
      let h : 0 < length (take len s) = (let m = sp.some in omega (arith, len_is)) in
      let e = len_is in
      let longest : joins (take len s) c ≡ false = subst (λ (r : List ℕ). IsLongest (take len s) r) g (sp.longest (omega arith)) in
      true≢false (sym (joined (take len s) c v h f) ∙ longest)

  shorter : (c : ℕ) (v : List ℕ) → take len s ≡ p.word ++ c ∷ v → rest ≡ c ∷ v ++ drop len s → ⊥
  shorter c v f g =
      let l : length (take len s) ≡ length p.word + length (c ∷ v) = ap (λ (w : List ℕ). length w) f ∙ length-append p.word (c ∷ v) in
      let e = len_is in
      let j : joins (take (length p.word) s) (get_or s (length p.word) 0) ≡ true = sp.joined (length p.word) some (omega arith) in
      let is : s ≡ p.word ++ c ∷ (v ++ drop len s) = p.parts ∙ ap (λ (r : List ℕ). p.word ++ r) g in
      let k : joins (take (length p.word) (p.word ++ c ∷ (v ++ drop len s))) (get_or (p.word ++ c ∷ (v ++ drop len s)) (length p.word) 0) ≡ true = subst (λ (u : List ℕ). joins (take (length p.word) u) (get_or u (length p.word) 0) ≡ true) is j in
      let longest : joins p.word c ≡ false = subst (λ (r : List ℕ). IsLongest p.word r) g p.longest in
      true≢false (sym (rw (take_front p.word (c ∷ (v ++ drop len s)), get_front p.word c (v ++ drop len s)) at k) ∙ longest)

-- ---- tokens

-- where no blank and no comment stands at the front, a token does
reads : (x : Symbol) (t : Token) (s rest : List ℕ) → BeginsToken s → Stands t s rest → is_some (next x t) ≡ true → ReadsWord x s t rest
reads x t s rest b p a = go p.before p.parts p.is_gap where
  go : (g : List ℕ) → s ≡ g ++ (p.word ++ rest) → gap false Outside g ≡ true → ReadsWord x s t rest
  go [] e h = record { word = p.word; parts = e; spelled = p.spelled; longest = p.longest; taken = a }
  go (c ∷ g) e h = absurd (gap_none c g (p.word ++ rest) h (subst (λ (u : List ℕ). BeginsToken u) e b))

-- the word of a token at the front, by its first byte
record FirstByte (b : ℕ) (t : Token) (w : List ℕ) : Type 0 where
  more : List ℕ
  is : w ≡ b ∷ more
  spelled : lexeme (b ∷ more) ≡ Some t

first_byte : (b : ℕ) (after s w rest : List ℕ) (t : Token) → s ≡ b ∷ after → s ≡ w ++ rest → lexeme w ≡ Some t → FirstByte b t w
first_byte b after s [] rest t is parts e = absurd (empty_lexeme t e)
first_byte b after s (c ∷ w) rest t is parts e =
    let same_byte : c ≡ b = (let h : c ∷ w ++ rest ≡ b ∷ after = sym parts ∙ is in cc) in
    record { more = w; is = rw same_byte refl; spelled = rw same_byte at e }

pub wrong_refused : (x : Symbol) (n : ℕ) (s : List ℕ) (b : ℕ) (after : List ℕ) → s ≡ b ∷ after → BeginsToken s → Begins x b false → TakesNone n x s
wrong_refused x n s b after is begun g t rest p =
    let r = reads x t s rest begun p.stands p.taken in
    let f = first_byte b after s r.word rest t is r.parts r.spelled in
    true≢false (sym (or_left _ _ (begins_front x b [] f.more t f.spelled p.taken)) ∙ g)

pub deep_refused : (x : Symbol) (n : ℕ) (s : List ℕ) (b : ℕ) (after : List ℕ) → s ≡ b ∷ after → BeginsToken s → (open_after n b ≤ most_brackets → ⊥) → TakesNone n x s
deep_refused x n s b after is begun deep t rest p =
    let r = reads x t s rest begun p.stands p.taken in
    let f = first_byte b after s r.word rest t is r.parts r.spelled in
    deep (subst (λ (m : ℕ). m ≤ most_brackets) (sym (count_is b n t (head b f.more t f.spelled))) p.room)

-- what begins with a digit is a number
pub number_refused : (x : Symbol) (n : ℕ) (s : List ℕ) (b : ℕ) (after : List ℕ) → s ≡ b ∷ after → BeginsToken s → is_digit b 10 ≡ true → ReadsNoNumber s → TakesNone n x s
number_refused x n s b after is begun d none t rest p =
    let r = reads x t s rest begun p.stands p.taken in
    let f = first_byte b after s r.word rest t is r.parts r.spelled in
    elim (lexeme_is (b ∷ f.more) t f.spelled) [
      | Spelled.number m e ↦ none (value (b ∷ f.more)) rest (record { word = r.word; parts = r.parts; spelled = r.spelled ∙ ap (λ (t : Token). Some t) e; longest = r.longest })
      | Spelled.word m e ↦ true≢false (sym (name_word (b ∷ f.more) m) ∙ no_word b f.more d)
      | Spelled.table e m ↦ true≢false (sym (m.among (λ s. true && begins_with (b ∷ f.more) (spelling s)) (rw (← e) (begins_itself (b ∷ f.more)))) ∙ none_fixed (λ t. true) b f.more d)
    ]

pub word_refused : (x : Symbol) (n : ℕ) (s : List ℕ) → BeginsToken s → ReadsNoWord x s → TakesNone n x s
word_refused x n s begun none t rest p = none t rest (reads x t s rest begun p.stands p.taken)

-- ---- behind blanks and comments

pub refused_behind : (x : Symbol) (n : ℕ) (bytes s : List ℕ) → Skips Outside bytes s → BeginsToken s → (length s ≡ 0 → ⊥) → TakesNone n x s → TakesNone n x bytes
refused_behind x n bytes s skips begun some none t rest p = elim skips.front [
  | inr empty ↦ some (ap (λ (u : List ℕ). length u) empty)
  | inl f ↦ (let q = p.stands in
      let is : s ≡ q.word ++ rest = gap_same f.0 q.before Outside s (q.word ++ rest) f.2 q.is_gap begun (token_begins q.word rest t q.spelled q.longest) (sym f.1 ∙ q.parts) in
      none t rest (record { stands = record { before = []; word = q.word; parts = is; is_gap = refl; spelled = q.spelled; longest = q.longest }; taken = p.taken; room = p.room }))
]

pub more_behind : (bytes s : List ℕ) → Skips Outside bytes s → BeginsToken s → (length s ≡ 0 → ⊥) → IsMoreLeft bytes
more_behind bytes s skips begun some e = gap_word s begun (some_more (length s) some) (sym skips.last ∙ e) where
  some_more : (m : ℕ) → (m ≡ 0 → ⊥) → 0 < m
  some_more m h = omega arith

pub ended_refused : (x : Symbol) (n : ℕ) (s : List ℕ) → gap true Outside s ≡ true → TakesNone n x s
ended_refused x n s e t rest p = no_token t s rest e p.stands
