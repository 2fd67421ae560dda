-- Numbers in the machine: where they end, and where it fails in one.
use Rattle.std.proofs.Common.{◌≡◌, ℕ, ◌+◌, ◌^◌, ◌<◌, ◌≤◌, true, false, not, ◌&&◌, List, [], ◌∷◌, ◌++◌, length, take, drop, Option, Some, None, refl, sym, ap, subst, ◌∙◌, append_assoc, arith, inl, inr, ◌⊎◌, eqb, length-append}
use Rattle.std.specs.Prelude.{is_some, nat_eq, MatchOption}
use Rattle.std.specs.Char.{is_digit}
use Rattle.std.specs.Cmp.Lexicographic.{pointwise}
use Rattle.std.specs.List.{list_all}
use Rattle.std.specs.Str.Parse.{digits_value}
use Rattle.std.proofs.lemmas.Bool.{true≢false, and_parts, and_from, and_left, and_right, or_left, or_right, or_from, cases_Bool, lt-ltb, le-ltb, eqb-true}
use Rattle.std.proofs.lemmas.Bool.Decides.{nat_tests}
use Rattle.std.proofs.lemmas.List.Folds.{list_all-append}
use Rattle.lb_syntax.specs.Brackets.{most_brackets}
use Rattle.lb_syntax.specs.Names.{is_name, is_name_start}
use Rattle.lb_spelling.specs.declared.symbol.Symbol.{Symbol}
use Rattle.lb_spelling.specs.declared.fault.TextKind.{TextKind}
use Rattle.lb_spelling.specs.declared.fault.TextKind.TheVariants as kinds
use Rattle.lb_spelling.specs.Tokens.{Numeral, Named, lexeme, same, is_empty, is_hex, is_number, is_digit_of, is_word, is_word_byte, hex_mark, joins, begins_with, comment_start, IsLongest}
use Rattle.lb_spelling.specs.InternalMachine.{Stack, Part, Go, Fail, ended, has_ended, Stuck, run, step, next, taken, begins, begins_one, begins_number, unexpected, kind_in}
use Rattle.lb_spelling.proofs.Words.{false_from, same_is, same_itself, hex_more, number_hex, number_decimal, word_parts, name_parts, digit_word, is_based}
use Rattle.lb_spelling.proofs.Lexing.{number_is, any_number}
use Rattle.lb_spelling.proofs.Wide.{value_hex, value_decimal}
use Rattle.lb_spelling.proofs.Running.{run_step, run_fail, word_runs}
use Rattle.lb_scan.specs.declared.syntax_error.SyntaxError.{SyntaxError}
use Rattle.lb_scan.specs.InternalScanning.{EndsRun, Digits, ReadsDigits, DigitsFault, NoDigitFault, ReadsNumber, NumberFault, IsStuckIn}
use Rattle.lb_scan.proofs.Numbers.{none_fixed, begun_first}

-- ---- the mark of a hexadecimal number

pub match_weaker : {X : Type 0} (o : Option X) (P P' : Type 0) (Q Q' : X → Type 0) → (P → P') → ((x : X) → Q x → Q' x) → MatchOption o P Q → MatchOption o P' Q'
match_weaker None P P' Q Q' f g h = f h
match_weaker (Some x) P P' Q Q' f g h = g x h

pub mark_none : (s : List ℕ) → pointwise nat_eq (take 2 s) hex_mark ≡ false → is_hex s ≡ false
unfolding is_hex begins_with
mark_none [] e = refl
mark_none (b ∷ []) e = and_right (eqb 48 b) false refl
mark_none (b ∷ c ∷ s) e = false_from _ (λ h.
    let p = and_parts (eqb 48 b) (eqb 120 c && true) h in
    let q = and_parts (eqb 120 c) true p.1 in
    let f : 48 ≡ b = eqb-true 48 b p.0 in
    let g : 120 ≡ c = eqb-true 120 c q.0 in
    true≢false (rw (← f, ← g) at e))

pub mark_some : (s : List ℕ) → pointwise nat_eq (take 2 s) hex_mark ≡ true → s ≡ 48 ∷ 120 ∷ drop 2 s
mark_some [] e = absurd cc
mark_some (b ∷ []) e = absurd (true≢false (sym e ∙ and_right (eqb b 48) false refl))
mark_some (b ∷ c ∷ s) e =
    let p = and_parts (eqb b 48) (eqb c 120 && true) e in
    let q = and_parts (eqb c 120) true p.1 in
    let f : b ≡ 48 = eqb-true b 48 p.0 in
    let g : c ≡ 120 = eqb-true c 120 q.0 in cc

-- ---- the token

pub based : (r : ℕ) (s before rest : List ℕ) → Digits r s before rest → is_based r before ≡ true
based r s before rest p = and_from _ _ (and_from _ _ (full before p.some) p.all) (lt-ltb _ _ p.small) where
  full : (w : List ℕ) → 0 < length w → not (is_empty w) ≡ true
  full [] h = absurd (omega arith)
  full (b ∷ w) h = refl

pub not_hex_front : (u v : List ℕ) → is_hex (u ++ v) ≡ false → is_hex u ≡ false
not_hex_front u v e = false_from _ (λ h. true≢false (sym (hex_more u v h) ∙ e))

decimal_lexeme : (w : List ℕ) → is_hex w ≡ false → is_based 10 w ≡ true → lexeme w ≡ Some (Numeral (digits_value 10 w))
decimal_lexeme w h e = number_is w (number_decimal w h ∙ e) ∙ ap (λ (n : ℕ). Some (Numeral n)) (value_decimal w h)

hex_lexeme : (ds : List ℕ) → is_based 16 ds ≡ true → lexeme (48 ∷ 120 ∷ ds) ≡ Some (Numeral (digits_value 16 ds))
hex_lexeme ds e = number_is (48 ∷ 120 ∷ ds) (number_hex ds ∙ e) ∙ ap (λ (n : ℕ). Some (Numeral n)) (value_hex ds)

pub no_slash : (a : ℕ) → is_digit a 10 ≡ true → (47 ≡ a) → ⊥
no_slash a d e = true≢false (sym d ∙ rw (← e) refl)

run_over : (a : ℕ) (u : List ℕ) (b : ℕ) → is_digit a 10 ≡ true → is_word_byte b ≡ false → joins (a ∷ u) b ≡ false
unfolding joins
run_over a u b d e = or_from _ _ (or_from _ _ (and_right (is_word_byte a) _ e) (none_fixed (λ t. true) a (u ++ b ∷ []) d)) (false_from _ (λ c. no_slash a d (begun_first a (u ++ b ∷ []) comment_start c)))

-- what begins with a digit ends with its run
run_ends : (a : ℕ) (u rest : List ℕ) → is_digit a 10 ≡ true → EndsRun rest → IsLongest (a ∷ u) rest
run_ends a u [] d e = tt {0}
run_ends a u (b ∷ rest) d e = run_over a u b d e

pub digit_head : (s before rest : List ℕ) → Digits 10 s before rest → (a : ℕ) × (u : List ℕ) × (before ≡ a ∷ u) × (is_digit a 10 ≡ true)
digit_head s [] rest p = absurd (let h : 0 < length {A = ℕ} [] = p.some in omega arith)
digit_head s (a ∷ u) rest p = (a, u, refl, (and_parts (is_digit a 10) (list_all (λ b. is_digit b 10) u) p.all).0)

pub reads_decimal : (s : List ℕ) (v : ℕ) (rest : List ℕ) → is_hex s ≡ false → ReadsDigits 10 s v rest → ReadsNumber s v rest
reads_decimal s v rest h p =
    let d = p.digits in
    let front : is_hex p.before ≡ false = not_hex_front p.before rest (ap is_hex (sym d.parts) ∙ h) in
    let head = digit_head s p.before rest d in
    record {
      word = p.before;
      parts = d.parts;
      spelled = decimal_lexeme p.before front (based 10 s p.before rest d) ∙ ap (λ (n : ℕ). Some (Numeral n)) p.value_is;
      longest = subst (λ (w : List ℕ). IsLongest w rest) (sym head.2) (run_ends head.0 head.1 rest head.3 p.ends);
    }

pub reads_hex : (s : List ℕ) (v : ℕ) (rest : List ℕ) → ReadsDigits 16 s v rest → ReadsNumber (48 ∷ 120 ∷ s) v rest
reads_hex s v rest p =
    let d = p.digits in
    record {
      word = 48 ∷ 120 ∷ p.before;
      parts = ap (λ (u : List ℕ). 48 ∷ 120 ∷ u) d.parts;
      spelled = hex_lexeme p.before (based 16 s p.before rest d) ∙ ap (λ (n : ℕ). Some (Numeral n)) p.value_is;
      longest = run_ends 48 (120 ∷ p.before) rest refl p.ends;
    }

-- ---- faults

start_no_digit : (b : ℕ) → is_name_start b ≡ true → is_digit b 10 ≡ false
start_no_digit b e = grind (arith, nat_tests)

pub no_word : (a : ℕ) (u : List ℕ) → is_digit a 10 ≡ true → is_word (a ∷ u) ≡ false
no_word a u d = false_from _ (λ w. true≢false (sym d ∙ start_no_digit a (word_parts (a ∷ u) w).start))

not_begun : (x : Symbol) (k : Stack) (a : ℕ) (u : List ℕ) → is_digit a 10 ≡ true → begins_number (a ∷ u) ≡ false → begins (x ∷ k) (a ∷ u) ≡ false
unfolding begins_one
not_begun x k a u d e = or_from _ _ (or_from _ _ (or_from _ _ (and_right (is_some (next x (Numeral 0))) _ e) (and_right (is_some (next x (Named []))) _ (no_word a u d))) (none_fixed (λ t. is_some (next x t)) a u d))
    (false_from _ (λ c. no_slash a d (begun_first a u comment_start c)))

pub run_on : (a : ℕ) (u : List ℕ) (b : ℕ) → is_digit a 10 ≡ true → is_word_byte b ≡ true → joins (a ∷ u) b ≡ true
unfolding joins
run_on a u b d w = or_left _ _ (or_left _ _ (and_from (is_word_byte a) (is_word_byte b) (digit_word a 10 (omega arith) d) w))

no_comment : (a : ℕ) (u : List ℕ) → is_digit a 10 ≡ true → same (a ∷ u) comment_start ≡ false
no_comment a u d = false_from _ (λ e. let is : a ∷ u ≡ 47 ∷ 47 ∷ [] = same_is (a ∷ u) comment_start e in no_slash a d (let h : a ≡ 47 = cc in sym h))

step_fails : (x : Symbol) (k : Stack) (n a : ℕ) (u : List ℕ) (b : ℕ) → is_digit a 10 ≡ true → is_word_byte b ≡ true → begins_number (a ∷ u ++ b ∷ []) ≡ false → step most_brackets (Part (a ∷ u)) n (x ∷ k) b ≡ Fail (kind_in (a ∷ u) b)
step_fails x k n a u b d w e = rw (run_on a u b d w) (rw (no_comment a (u ++ b ∷ []) d) (rw (not_begun x k a (u ++ b ∷ []) d e) refl))

-- a number, and a byte of its run that makes no number with it
stuck_number : (a : ℕ) (v : List ℕ) (m b : ℕ) (more : List ℕ) (x : Symbol) → is_some (next x (Numeral 0)) ≡ true → lexeme (a ∷ v) ≡ Some (Numeral m) → is_digit a 10 ≡ true → is_word_byte b ≡ true → begins_number (a ∷ v ++ b ∷ []) ≡ false
    → IsStuckIn x (a ∷ v ++ b ∷ more) (record { kind = kind_in (a ∷ v) b; left = length (b ∷ more) })
stuck_number a v m b more x t e d w g n k =
    word_runs v a [] (b ∷ more) most_brackets n x k (Numeral m) e (any_number x m ∙ t) ∙ run_fail most_brackets b more (Part (a ∷ v)) n (x ∷ k) (kind_in (a ∷ v) b) (step_fails x k n a v b d w g)

pub based_fails : (r : ℕ) (before : List ℕ) (b : ℕ) {C : Type 0} {D : Type 0} → ((is_digit b r ≡ false) × C) ⊎ ((is_digit b r ≡ true) × (2 ^ 32 ≤ digits_value r (before ++ b ∷ [])) × D) → is_based r (before ++ b ∷ []) ≡ false
based_fails r before b (inl p) = and_left _ _ (and_right (not (is_empty (before ++ b ∷ []))) _ (list_all-append (λ b. is_digit b r) before (b ∷ []) ∙ and_right _ _ (and_left _ true p.0)))
based_fails r before b (inr p) = and_right _ _ (le-ltb _ _ p.1)

no_number_more : (u : List ℕ) → is_number u ≡ false → (hex_mark ≡ u → ⊥) → begins_number u ≡ false
unfolding begins_number
no_number_more u e h = or_from _ _ e (false_from _ (λ s. h (same_is hex_mark u s)))

kind_number : (a : ℕ) (u : List ℕ) (b r : ℕ) {C : Type 0} (kind : TextKind) → is_digit a 10 ≡ true → is_number (a ∷ u) ≡ true → is_digit_of (a ∷ u) b ≡ is_digit b r
    → ((is_digit b r ≡ false) × (kind ≡ unexpected b)) ⊎ ((is_digit b r ≡ true) × C × (kind ≡ kinds.NumberTooWide)) → kind_in (a ∷ u) b ≡ kind
kind_number a u b r kind d e f (inl p) = rw (e, f, p.0) (rw (no_word a u d) (sym p.1))
kind_number a u b r kind d e f (inr p) = rw (e, f, p.0) (sym p.2)

digit_decimal : (w : List ℕ) (b : ℕ) → is_hex w ≡ false → is_digit_of w b ≡ is_digit b 10
unfolding is_digit_of
digit_decimal w b h = rw h refl

digit_hex : (ds : List ℕ) (b : ℕ) → is_digit_of (48 ∷ 120 ∷ ds) b ≡ is_digit b 16
unfolding is_digit_of is_hex begins_with
digit_hex ds b = refl

hex_mark_hex : is_hex hex_mark ≡ true
unfolding is_hex begins_with
hex_mark_hex = refl

told : (x : Symbol) (s : List ℕ) (kind kind' : TextKind) (left left' : ℕ) → kind ≡ kind' → left' ≡ left → IsStuckIn x s (record { kind = kind; left = left }) → (n : ℕ) (k : Stack) → run most_brackets (drop 1 s) (Part (take 1 s)) n (x ∷ k) ≡ Stuck kind' left'
told x s kind kind' left left' e f p n k = p n k ∙ (ap (λ (c : TextKind). Stuck c left) e ∙ ap (λ (l : ℕ). Stuck kind' l) (sym f))

pub decimal_fault : (s : List ℕ) (error : SyntaxError) → is_hex s ≡ false → DigitsFault 10 s error → NumberFault s error
decimal_fault s error h p x t =
    let d = p.digits in
    let head = digit_head s p.before (p.byte ∷ p.more) d in
    go head.0 head.1 head.3 (subst (λ (w : List ℕ). Digits 10 s w (p.byte ∷ p.more)) head.2 d) (subst (λ (w : List ℕ). is_based 10 (w ++ p.byte ∷ []) ≡ false) head.2 (based_fails 10 p.before p.byte p.kind)) where
      go : (a : ℕ) (u : List ℕ) → is_digit a 10 ≡ true → Digits 10 s (a ∷ u) (p.byte ∷ p.more) → is_based 10 (a ∷ u ++ p.byte ∷ []) ≡ false → IsStuckIn x s error
      go a u da d wide =
          let regroup : s ≡ (a ∷ u ++ p.byte ∷ []) ++ p.more = d.parts ∙ sym (append_assoc (a ∷ u) (p.byte ∷ []) p.more) in
          let longer : is_hex (a ∷ u ++ p.byte ∷ []) ≡ false = not_hex_front (a ∷ u ++ p.byte ∷ []) p.more (ap is_hex (sym regroup) ∙ h) in
          let front : is_hex (a ∷ u) ≡ false = not_hex_front (a ∷ u) (p.byte ∷ []) longer in
          let b : is_based 10 (a ∷ u) ≡ true = based 10 s (a ∷ u) (p.byte ∷ p.more) d in
          let none : begins_number (a ∷ u ++ p.byte ∷ []) ≡ false = no_number_more (a ∷ u ++ p.byte ∷ []) (number_decimal (a ∷ u ++ p.byte ∷ []) longer ∙ wide) (λ e. true≢false (sym hex_mark_hex ∙ (ap is_hex e ∙ longer))) in
          told x s (kind_in (a ∷ u) p.byte) error.kind (length (p.byte ∷ p.more)) error.left (kind_number a u p.byte 10 error.kind da (number_decimal (a ∷ u) front ∙ b) (digit_decimal (a ∷ u) p.byte front) p.kind) p.left
          (subst (λ (w : List ℕ). IsStuckIn x w (record { kind = kind_in (a ∷ u) p.byte; left = length (p.byte ∷ p.more) })) (sym d.parts) (stuck_number a u _ p.byte p.more x t (decimal_lexeme (a ∷ u) front b) da p.in_run none))

hex_fault : (s : List ℕ) (error : SyntaxError) → DigitsFault 16 s error → NumberFault (48 ∷ 120 ∷ s) error
hex_fault s error p x t =
    let d = p.digits in
    let b : is_based 16 p.before ≡ true = based 16 s p.before (p.byte ∷ p.more) d in
    let none : begins_number (48 ∷ 120 ∷ p.before ++ p.byte ∷ []) ≡ false = no_number_more (48 ∷ 120 ∷ p.before ++ p.byte ∷ []) (number_hex (p.before ++ p.byte ∷ []) ∙ based_fails 16 p.before p.byte p.kind) (λ e.
    let l : length {A = ℕ} hex_mark ≡ length (48 ∷ 120 ∷ p.before ++ p.byte ∷ []) = ap (λ (w : List ℕ). length w) e in
    let m : length (p.before ++ p.byte ∷ []) ≡ length p.before + 1 = length-append p.before (p.byte ∷ []) in omega arith) in
    told x (48 ∷ 120 ∷ s) (kind_in (48 ∷ 120 ∷ p.before) p.byte) error.kind (length (p.byte ∷ p.more)) error.left (kind_number 48 (120 ∷ p.before) p.byte 16 error.kind refl (number_hex p.before ∙ b) (digit_hex p.before p.byte) p.kind) p.left
    (subst (λ (w : List ℕ). IsStuckIn x (48 ∷ 120 ∷ w) (record { kind = kind_in (48 ∷ 120 ∷ p.before) p.byte; left = length (p.byte ∷ p.more) })) (sym d.parts) (stuck_number 48 (120 ∷ p.before) _ p.byte p.more x t (hex_lexeme p.before b) refl p.in_run none))

-- ---- a mark without digits

mark_begins : (x : Symbol) (k : Stack) → is_some (next x (Numeral 0)) ≡ true → begins (x ∷ k) hex_mark ≡ true
unfolding begins_one begins_number
mark_begins x k t = or_left _ _ (or_left _ _ (or_left _ _ (and_from _ _ t (or_right (is_number hex_mark) _ (same_itself hex_mark)))))

x_in_run : is_word_byte 120 ≡ true
unfolding is_word_byte
x_in_run = refl

mark_step : (x : Symbol) (k : Stack) (n : ℕ) → is_some (next x (Numeral 0)) ≡ true → step most_brackets (Part (48 ∷ [])) n (x ∷ k) 120 ≡ Go (Part hex_mark) n (x ∷ k)
mark_step x k n t = rw (run_on 48 [] 120 refl x_in_run) (rw (no_comment 48 (120 ∷ []) refl) (rw (mark_begins x k t) refl))

no_mark_word : is_word hex_mark ≡ false
no_mark_word = no_word 48 (120 ∷ []) refl

no_mark_name : is_name hex_mark ≡ false
no_mark_name = false_from _ (λ n. true≢false (sym (name_parts hex_mark n).word ∙ no_mark_word))

mark_lexeme : lexeme hex_mark ≡ None
unfolding lexeme same begins_with
mark_lexeme = rw (number_hex [], no_mark_name) refl

mark_taken : (x : Symbol) (k : Stack) → taken (x ∷ k) hex_mark ≡ None
unfolding taken
mark_taken x k = rw mark_lexeme refl

pub marked_fault : (s : List ℕ) (error : SyntaxError) → NoDigitFault s error → NumberFault (48 ∷ 120 ∷ s) error
marked_fault [] error p x t n k =
    run_step most_brackets 120 [] (Part (48 ∷ [])) n (x ∷ k) (Part hex_mark) n (x ∷ k) (mark_step x k n t) ∙ (ap (λ (o : Option Stack). ended (has_ended o)) (mark_taken x k) ∙ rw (p.0, p.1) refl)
marked_fault (b ∷ s) error p x t n k =
    run_step most_brackets 120 (b ∷ s) (Part (48 ∷ [])) n (x ∷ k) (Part hex_mark) n (x ∷ k) (mark_step x k n t) ∙ (run_fail most_brackets b s (Part hex_mark) n (x ∷ k) (unexpected b) fails ∙ rw (p.1, p.2) refl) where
      one : is_based 16 (b ∷ []) ≡ false
      one = and_left _ _ (and_left _ true p.0)

      fails : step most_brackets (Part hex_mark) n (x ∷ k) b ≡ Fail (unexpected b)
      fails = elim (cases_Bool (is_word_byte b)) [
        | inl w ↦ step_fails x k n 48 (120 ∷ []) b refl w (no_number_more (48 ∷ 120 ∷ b ∷ []) (number_hex (b ∷ []) ∙ one) (λ e. let h : 2 ≡ 3 = ap (λ (w : List ℕ). length w) e in omega arith)) ∙ rw (number_hex []) (rw no_mark_word refl)
        | inr w ↦ (let j : joins hex_mark b ≡ false = run_ends 48 (120 ∷ []) (b ∷ s) refl w in rw j (rw (mark_taken x k) refl))
      ]

pub hexadecimal_fault : (s : List ℕ) (error : SyntaxError) → NoDigitFault s error ⊎ DigitsFault 16 s error → NumberFault (48 ∷ 120 ∷ s) error
hexadecimal_fault s error (inl p) = marked_fault s error p
hexadecimal_fault s error (inr p) = hex_fault s error p
