-- A whole token at the front of a text.
use Rattle.std.proofs.Common.{◌≡◌, ℕ, zero, suc, ◌<◌, ◌≤◌, ◌^◌, Bool, true, false, ◌&&◌, ◌||◌, List, [], ◌∷◌, ◌++◌, length, take, drop, Some, refl, sym, ap, subst, ◌∙◌, append-nil, arith, inl, inr, eqb}
use Rattle.std.specs.Prelude.{is_some}
use Rattle.std.specs.Char.{is_digit, digit_value}
use Rattle.std.specs.Str.Parse.{digits_value}
use Rattle.std.proofs.lemmas.Bool.{and_parts, and_from, and_right, or_left, le-leb, lt-leb, lt-ltb, ltb-true, eqb-true}
use Rattle.lb_syntax.specs.Brackets.{most_brackets, open_after}
use Rattle.lb_spelling.specs.declared.symbol.Symbol.{Symbol}
use Rattle.lb_spelling.specs.declared.fault.TextKind.{TextKind}
use Rattle.lb_spelling.specs.declared.fault.TextKind.TheVariants as kinds
use Rattle.lb_spelling.specs.Tokens.{Token, Numeral, Named, Stands, Mode, Outside, Slash, Comment, gap, is_blank, is_hex, is_number, lexeme, begins_with, comment_start, IsLongest}
use Rattle.lb_spelling.specs.InternalMachine.{Stack, Between, InComment, Part, ended, Stuck, run, next, begins_one, begins_number, unexpected, ends}
use Rattle.lb_spelling.specs.InternalParsing.{Takes, Faults}
use Rattle.lb_spelling.proofs.Words.{chosen, false_from, number_decimal}
use Rattle.lb_spelling.proofs.Lexing.{Head, head, empty_lexeme, begins_front}
use Rattle.lb_spelling.proofs.Running.{run_step, run_fail, slash_step, comment_step, count_is}
use Rattle.lb_spelling.proofs.Back.{behind_gap}
use Rattle.lb_scan.specs.declared.syntax_error.SyntaxError.{SyntaxError}
use Rattle.lb_scan.specs.InternalScanning.{Skips, BeginsToken, lex_of, begins_with_digit, IsStuckIn, IsSpelled, IsTaken, ReadsNumber, ReadsWord}
use Rattle.lb_scan.proofs.Numbers.{none_fixed, begun_first}
use Rattle.lb_scan.proofs.Marks.{no_word, no_slash}
use Rattle.lb_scan.proofs.Stuck.{begun_short, digit_front, length_take}

-- ---- the first byte

one_hex : (b : ℕ) → is_hex (b ∷ []) ≡ false
unfolding is_hex begins_with
one_hex b = and_right (eqb 48 b) false refl

digit_number : (b : ℕ) → is_digit b 10 ≡ true → is_number (b ∷ []) ≡ true
digit_number b d = number_decimal (b ∷ []) (one_hex b) ∙ and_from _ _ (and_from _ _ d refl) (lt-ltb _ _ (let h : digit_value b < 10 = ltb-true _ _ d in small h)) where
  small : digit_value b < 10 → digits_value 10 (b ∷ []) < 2 ^ 32
  small h = let e : digits_value 10 (b ∷ []) ≡ digit_value b = omega arith in omega arith

-- a digit begins what takes numbers, and nothing else
pub digit_begins : (x : Symbol) (b : ℕ) → is_digit b 10 ≡ true → is_some (next x (Numeral 0)) ≡ (begins_one x (b ∷ []) || begins_with (b ∷ []) comment_start)
unfolding begins_one begins_number
digit_begins x b d =
    rw (digit_number b d, no_word b [] d, none_fixed (λ t. is_some (next x t)) b [] d, no_comment) (alone (is_some (next x (Numeral 0))) (is_some (next x (Named [])))) where
      no_comment : begins_with (b ∷ []) comment_start ≡ false
      no_comment = false_from _ (λ c. no_slash b d (begun_first b [] comment_start c))

      alone : (t q : Bool) → t ≡ ((((t && true) || (q && false)) || false) || false)
      alone true q = refl
      alone false true = refl
      alone false false = refl

not_blank : (b : ℕ) (after : List ℕ) → BeginsToken (b ∷ after) → is_blank b ≡ false
not_blank b [] t = t
not_blank b (c ∷ s) t = t.0

abbrev pub Begins : Symbol → ℕ → Bool → Type 0
Begins x b c = (begins_one x (b ∷ []) || begins_with (b ∷ []) comment_start) ≡ c

pub begins_wrong : (x : Symbol) (n : ℕ) (s : List ℕ) (b : ℕ) (after : List ℕ) → s ≡ b ∷ after → BeginsToken s → Begins x b false → Faults n x s (unexpected b) (length s)
begins_wrong x n s b after is t g k = subst (λ (u : List ℕ). run most_brackets u Between n (x ∷ k) ≡ Stuck (unexpected b) (length u)) (sym is)
    (run_fail most_brackets b after Between n (x ∷ k) (unexpected b) (rw (not_blank b after (subst (λ (u : List ℕ). BeginsToken u) is t)) (rw g refl)))

pub begins_deep : (x : Symbol) (n : ℕ) (s : List ℕ) (b : ℕ) (after : List ℕ) → s ≡ b ∷ after → BeginsToken s → Begins x b true → (open_after n b ≤ most_brackets → ⊥) → Faults n x s kinds.TooDeep (length s)
begins_deep x n s b after is t g deep k = subst (λ (u : List ℕ). run most_brackets u Between n (x ∷ k) ≡ Stuck kinds.TooDeep (length u)) (sym is)
    (run_fail most_brackets b after Between n (x ∷ k) kinds.TooDeep (rw (not_blank b after (subst (λ (u : List ℕ). BeginsToken u) is t)) (rw g (rw (lt-leb _ _ (over (open_after n b) most_brackets deep)) refl)))) where
      over : (m l : ℕ) → (m ≤ l → ⊥) → l < m
      over m l h = omega arith

begun_at : (x : Symbol) (n : ℕ) (s : List ℕ) (b : ℕ) (after : List ℕ) → s ≡ b ∷ after → BeginsToken s → Begins x b true → open_after n b ≤ most_brackets
    → (k : Stack) → run most_brackets s Between n (x ∷ k) ≡ run most_brackets (drop 1 s) (Part (take 1 s)) (open_after n b) (x ∷ k)
begun_at x n s b after is t g room k = subst (λ (u : List ℕ). run most_brackets u Between n (x ∷ k) ≡ run most_brackets (drop 1 u) (Part (take 1 u)) (open_after n b) (x ∷ k)) (sym is)
    (run_step most_brackets b after Between n (x ∷ k) (Part (b ∷ [])) (open_after n b) (x ∷ k) (rw (not_blank b after (subst (λ (u : List ℕ). BeginsToken u) is t)) (rw g (rw (le-leb _ _ room) refl))))

-- a fault behind the first byte is the fault of the whole
pub stuck_token : (x : Symbol) (n : ℕ) (s : List ℕ) (b : ℕ) (after : List ℕ) (error : SyntaxError) → s ≡ b ∷ after → BeginsToken s → Begins x b true → open_after n b ≤ most_brackets → IsStuckIn x s error → Faults n x s error.kind error.left
stuck_token x n s b after error is t g room p k = begun_at x n s b after is t g room k ∙ p (open_after n b) k

-- ---- the token

takes : (x : Symbol) (n : ℕ) (s : List ℕ) (b : ℕ) (after : List ℕ) (t : Token) (word rest : List ℕ) → s ≡ b ∷ after → open_after n b ≤ most_brackets
    → s ≡ word ++ rest → lexeme word ≡ Some t → IsLongest word rest → is_some (next x t) ≡ true → Takes n x t s rest
takes x n s b after t [] rest is room parts e longest a = absurd (empty_lexeme t e)
takes x n s b after t (c ∷ word) rest is room parts e longest a =
    let same_byte : c ≡ b = (let h : c ∷ word ++ rest ≡ b ∷ after = sym parts ∙ is in cc) in
    let h : Head b t = head b word t (rw same_byte at e) in
    record {
      stands = record { before = []; word = c ∷ word; parts = parts; is_gap = refl; spelled = e; longest = longest };
      taken = a;
      room = subst (λ (m : ℕ). m ≤ most_brackets) (count_is b n t h) room;
    }

pub takes_number : (x : Symbol) (n : ℕ) (s : List ℕ) (b : ℕ) (after : List ℕ) (v : ℕ) (rest : List ℕ) → s ≡ b ∷ after → open_after n b ≤ most_brackets → ReadsNumber s v rest → is_some (next x (Numeral v)) ≡ true → Takes n x (Numeral v) s rest
takes_number x n s b after v rest is room p a = takes x n s b after (Numeral v) p.word rest is room p.parts p.spelled p.longest a

pub takes_word : (x : Symbol) (n : ℕ) (s : List ℕ) (b : ℕ) (after : List ℕ) (t : Token) (rest : List ℕ) → s ≡ b ∷ after → open_after n b ≤ most_brackets → ReadsWord x s t rest → Takes n x t s rest
takes_word x n s b after t rest is room p = takes x n s b after t p.word rest is room p.parts p.spelled p.longest p.taken

pub take_drop : (len : ℕ) (s : List ℕ) → s ≡ take len s ++ drop len s
take_drop zero s = refl
take_drop (suc n) [] = refl
take_drop (suc n) (b ∷ s) = ap (λ (u : List ℕ). b ∷ u) (take_drop n s)

pub taken_short : (x : Symbol) (w : List ℕ) (t : Token) → begins_with_digit 10 w ≡ false → IsTaken x w t → length w ≤ 32
taken_short x [] t d p = omega arith
taken_short x (a ∷ u) t d p = begun_short x (a ∷ u) d (or_left _ _ (begins_front x a u [] t (ap lexeme (append-nil (a ∷ u)) ∙ p.spelled) p.taken))

pub reads_word : (x : Symbol) (s : List ℕ) (len : ℕ) (w rest : List ℕ) (t : Token) → IsSpelled s len → begins_with_digit 10 s ≡ false → w ≡ take len s → rest ≡ drop len s → IsTaken x w t → ReadsWord x s t rest
reads_word x s len w rest t sp d e f p =
    let short : len ≤ 32 = (let h = taken_short x w t (subst (λ (u : List ℕ). begins_with_digit 10 u ≡ false) (sym e) (digit_front s len sp.some d)) p in
    let g = length_take len s sp.within in let l : length w ≡ length (take len s) = ap (λ (u : List ℕ). length u) e in omega arith) in
    record {
      word = w;
      parts = take_drop len s ∙ (ap (λ (u : List ℕ). u ++ drop len s) (sym e) ∙ ap (λ (u : List ℕ). w ++ u) (sym f));
      spelled = p.spelled;
      longest = subst (λ (u : List ℕ). IsLongest w u) (sym f) (subst (λ (u : List ℕ). IsLongest u (drop len s)) (sym e) (sp.longest short));
      taken = p.taken;
    }

-- ---- behind blanks and comments

pub takes_behind : (x : Symbol) (n : ℕ) (t : Token) (bytes s rest : List ℕ) → Skips Outside bytes s → (length s ≡ 0 → ⊥) → Takes n x t s rest → Takes n x t bytes rest
takes_behind x n t bytes s rest skips some p = elim skips.front [
  | inr empty ↦ absurd (some (ap (λ (u : List ℕ). length u) empty))
  | inl f ↦ record { stands = subst (λ (u : List ℕ). Stands t u rest) (sym f.1) (behind_gap t f.0 s rest f.2 p.stands); taken = p.taken; room = p.room }
]

pub faults_behind : (x : Symbol) (n : ℕ) (bytes s : List ℕ) (kind : TextKind) (left : ℕ) → n ≤ most_brackets → Skips Outside bytes s → Faults n x s kind left → Faults n x bytes kind left
faults_behind x n bytes s kind left h skips p k = skips.runs n (x ∷ k) h ∙ p k

pub ends_here : (bytes s : List ℕ) → Skips Outside bytes s → length s ≡ 0 → gap true Outside bytes ≡ true
ends_here bytes [] skips e = skips.last
ends_here bytes (b ∷ s) skips e = absurd (omega arith)

gap_stops : (g : List ℕ) (m : Mode) (n : ℕ) (k : Stack) → ends k ≡ false → n ≤ most_brackets → gap true m g ≡ true → run most_brackets g (lex_of m) n k ≡ Stuck kinds.Ended 0
gap_stops [] Outside n k z h e = ap ended z
gap_stops [] Slash n k z h e = absurd cc
gap_stops [] Comment n k z h e = ap ended z
gap_stops (b ∷ g) Outside n k z h e = elim (chosen (is_blank b) (gap true Outside g) (eqb b 47 && gap true Slash g) true e) [
  | inl c ↦ run_step most_brackets b g Between n k Between n k (rw c.0 refl) ∙ gap_stops g Outside n k z h c.1
  | inr c ↦ (let p = and_parts (eqb b 47) (gap true Slash g) c.1 in
      let is : b ≡ 47 = eqb-true b 47 p.0 in
      run_step most_brackets b g Between n k (Part (47 ∷ [])) n k (rw is (slash_step most_brackets n k h)) ∙ gap_stops g Slash n k z h p.1)
]
gap_stops (b ∷ g) Slash n k z h e =
    let p = and_parts (eqb b 47) (gap true Comment g) e in
    let is : b ≡ 47 = eqb-true b 47 p.0 in
    run_step most_brackets b g (Part (47 ∷ [])) n k InComment n k (rw is (comment_step most_brackets n k)) ∙ gap_stops g Comment n k z h p.1
gap_stops (b ∷ g) Comment n k z h e = elim (chosen (eqb b 10) (gap true Outside g) (gap true Comment g) true e) [
  | inl c ↦ run_step most_brackets b g InComment n k Between n k (rw c.0 refl) ∙ gap_stops g Outside n k z h c.1
  | inr c ↦ run_step most_brackets b g InComment n k InComment n k (rw c.0 refl) ∙ gap_stops g Comment n k z h c.1
]

-- where something has to come, the text may not end
pub ended_fault : (x : Symbol) (n : ℕ) (s : List ℕ) → n ≤ most_brackets → gap true Outside s ≡ true → ((k : Stack) → ends (x ∷ k) ≡ false) → Faults n x s kinds.Ended 0
ended_fault x n s h e more k = gap_stops s Outside n (x ∷ k) (more k) h e
