-- Where the machine fails in a word or a sign.
use Rattle.std.proofs.Common.{◌≡◌, ℕ, zero, suc, ◌+◌, ◌-◌, ◌<◌, ◌≤◌, Bool, true, false, ◌&&◌, ◌||◌, List, [], ◌∷◌, ◌++◌, length, take, drop, get_or, Option, None, refl, sym, ap, subst, ◌∙◌, add-one, arith, eqb, leb, length-append, inl, inr}
use Rattle.std.specs.Prelude.{is_some}
use Rattle.std.specs.List.{list_any, list_all}
use Rattle.std.proofs.lemmas.Bool.{true≢false, and_parts, or_cases, leb-true}
use Rattle.std.proofs.lemmas.List.{length-take-le}
use Rattle.std.proofs.Math.Seq.{take-length}
use Rattle.lb_syntax.specs.Brackets.{most_brackets}
use Rattle.lb_spelling.specs.declared.symbol.Symbol.{Symbol}
use Rattle.lb_spelling.specs.declared.fault.TextKind.TheVariants as kinds
use Rattle.lb_spelling.specs.Tokens.{Token, Named, lexeme, spelling, fixed, same, is_word, joins, begins_with, comment_start, IsLongest}
use Rattle.lb_spelling.specs.InternalMachine.{Stack, Part, Go, Fail, ended, Stuck, run, step, next, next_of, taken, begins_one, unexpected, kind_in, has_ended}
use Rattle.lb_spelling.proofs.Words.{false_from, same_is, word_parts, begins_with_is}
use Rattle.lb_spelling.proofs.Lexing.{pick}
use Rattle.lb_spelling.proofs.Running.{run_step, run_fail}
use Rattle.lb_scan.specs.InternalScanning.{BeginsToken, begins_with_digit, IsSpelled, IsStuckIn}
use Rattle.lb_scan.proofs.Spellings.{take_more, drop_one, begins_is}

-- the machine goes over the first len bytes of a spelling, which begin what x takes
pub record Spells (x : Symbol) (s : List ℕ) (len : ℕ) : Type 0 where
  pub some : 0 < len
  pub within : len ≤ length s
  pub begun : (begins_one x (take len s) || begins_with (take len s) comment_start) ≡ true
  pub runs : (n : ℕ) (k : Stack) → run most_brackets (drop 1 s) (Part (take 1 s)) n (x ∷ k) ≡ run most_brackets (drop len s) (Part (take len s)) n (x ∷ k)

pub spells_one : (x : Symbol) (s : List ℕ) (len : ℕ) → IsSpelled s len → (begins_one x (take 1 s) || begins_with (take 1 s) comment_start) ≡ true → Spells x s 1
spells_one x s len p g = record { some = omega arith; within = (let a = p.some in let b = p.within in omega arith); begun = g; runs = λ n k. refl }

no_comment : (s : List ℕ) (i : ℕ) → 0 < i → i < length s → BeginsToken s → same (take (i + 1) s) comment_start ≡ false
no_comment [] i h l t = absurd (omega arith)
no_comment (b ∷ []) i h l t = absurd (omega arith)
no_comment (b ∷ c ∷ s) zero h l t = absurd (omega arith)
no_comment (b ∷ c ∷ s) (suc i) h l t = false_from _ (λ e. let is : b ∷ c ∷ take i s ≡ 47 ∷ 47 ∷ [] = rw (add-one (suc i)) at (same_is (take (suc i + 1) (b ∷ c ∷ s)) comment_start e) in
    let p : b ≡ 47 = cc in let q : c ≡ 47 = cc in
    let differ : (eqb b 47 && eqb c 47) ≡ false = t.1 in
    let differ' : true ≡ false = rw (p, q) at differ in true≢false differ')

abbrev GoesOn : Symbol → List ℕ → ℕ → Bool → Type 0
GoesOn x s i b = (begins_one x (take (i + 1) s) || begins_with (take (i + 1) s) comment_start) ≡ b

pub spells_more : (x : Symbol) (s : List ℕ) (len i : ℕ) → IsSpelled s len → BeginsToken s → i < len → Spells x s i → GoesOn x s i true → Spells x s (i + 1)
spells_more x s len i sp t l p g = record {
  some = omega arith;
  within = omega arith;
  begun = g;
  runs = λ n k. p.runs n k ∙ (ap (λ (u : List ℕ). run most_brackets u (Part (take i s)) n (x ∷ k)) (drop_one s i h) ∙ (run_step most_brackets (get_or s i 0) (drop (i + 1) s) (Part (take i s)) n (x ∷ k) (Part (take i s ++ get_or s i 0 ∷ [])) n (x ∷ k) (goes n k)
      ∙ ap (λ (u : List ℕ). run most_brackets (drop (i + 1) s) (Part u) n (x ∷ k)) (sym (take_more s i h))));
} where
  h : i < length s
  h = let w = sp.within in omega arith

  j : joins (take i s) (get_or s i 0) ≡ true
  j = sp.joined i p.some l

  g' : (begins_one x (take i s ++ get_or s i 0 ∷ []) || begins_with (take i s ++ get_or s i 0 ∷ []) comment_start) ≡ true
  g' = subst (λ (u : List ℕ). (begins_one x u || begins_with u comment_start) ≡ true) (take_more s i h) g

  c : same (take i s ++ get_or s i 0 ∷ []) comment_start ≡ false
  c = subst (λ (u : List ℕ). same u comment_start ≡ false) (take_more s i h) (no_comment s i p.some h t)

  goes : (n : ℕ) (k : Stack) → step most_brackets (Part (take i s)) n (x ∷ k) (get_or s i 0) ≡ Go (Part (take i s ++ get_or s i 0 ∷ [])) n (x ∷ k)
  goes n k = rw j (rw c (rw g' refl))

length_drop : (i : ℕ) (s : List ℕ) → length (drop i s) ≡ length s - i
length_drop zero s = omega arith
length_drop (suc i) [] = omega arith
length_drop (suc i) (b ∷ s) = let e = length_drop i s in omega arith

pub rest_is : (s : List ℕ) (i : ℕ) → take (length s - i) (drop i s) ≡ drop i s
rest_is s i = rw (← length_drop i s) (take-length (drop i s))

pub stuck_within : (x : Symbol) (s : List ℕ) (len i : ℕ) → IsSpelled s len → BeginsToken s → i < len → Spells x s i → GoesOn x s i false → IsStuckIn x s (record { kind = kind_in (take i s) (get_or s i 0); left = length s - i })
stuck_within x s len i sp t l p g n k =
    p.runs n k ∙ (ap (λ (u : List ℕ). run most_brackets u (Part (take i s)) n (x ∷ k)) (drop_one s i h) ∙ (run_fail most_brackets (get_or s i 0) (drop (i + 1) s) (Part (take i s)) n (x ∷ k) (kind_in (take i s) (get_or s i 0)) fails
    ∙ ap (λ (left : ℕ). Stuck (kind_in (take i s) (get_or s i 0)) left) left_is)) where
      h : i < length s
      h = let w = sp.within in omega arith

      j : joins (take i s) (get_or s i 0) ≡ true
      j = sp.joined i p.some l

      g' : (begins_one x (take i s ++ get_or s i 0 ∷ []) || begins_with (take i s ++ get_or s i 0 ∷ []) comment_start) ≡ false
      g' = subst (λ (u : List ℕ). (begins_one x u || begins_with u comment_start) ≡ false) (take_more s i h) g

      c : same (take i s ++ get_or s i 0 ∷ []) comment_start ≡ false
      c = subst (λ (u : List ℕ). same u comment_start ≡ false) (take_more s i h) (no_comment s i p.some h t)

      fails : step most_brackets (Part (take i s)) n (x ∷ k) (get_or s i 0) ≡ Fail (kind_in (take i s) (get_or s i 0))
      fails = rw j (rw c (rw g' refl))

      left_is : length (get_or s i 0 ∷ drop (i + 1) s) ≡ length s - i
      left_is = ap (λ (u : List ℕ). length u) (sym (drop_one s i h)) ∙ length_drop i s

-- ---- behind the spelling

taken_none : (x : Symbol) (k : Stack) (w : List ℕ) → next_of x (lexeme w) ≡ None → taken (x ∷ k) w ≡ None
unfolding taken
taken_none x k w e = rw e refl

-- nothing of 33 bytes begins what is no number
abbrev is_short : Token → Bool
is_short t = leb (length (spelling t)) 32

all_short : list_all is_short fixed ≡ true
all_short = refl

begins_shorter : (u w : List ℕ) → begins_with u w ≡ true → length u ≤ length w
begins_shorter u w e = let p = begins_with_is u w e in rw (p.1) (omega (arith, length-append u p.0))

pub begun_short : (x : Symbol) (u : List ℕ) → begins_with_digit 10 u ≡ false → (begins_one x u || begins_with u comment_start) ≡ true → length u ≤ 32
begun_short x u d e = elim (or_cases (begins_one x u) (begins_with u comment_start) e) [
  | inr c ↦ (let h = begins_shorter u comment_start c in omega arith)
  | inl o ↦ elim (or_cases (is_some (next x (Named [])) && is_word u) (list_any (λ t. is_some (next x t) && begins_with u (spelling t)) fixed) (sym (begins_is x u d) ∙ o)) [
    | inl w ↦ (word_parts u (and_parts (is_some (next x (Named []))) (is_word u) w).1).short
    | inr t ↦ (let p = pick is_short (λ t. is_some (next x t) && begins_with u (spelling t)) fixed all_short t in
        let h = begins_shorter u (spelling p.0) (and_parts (is_some (next x p.0)) (begins_with u (spelling p.0)) p.2).1 in
        let g : length (spelling p.0) ≤ 32 = leb-true _ _ p.1 in omega arith)
  ]
]

pub digit_front : (s : List ℕ) (i : ℕ) → 0 < i → begins_with_digit 10 s ≡ false → begins_with_digit 10 (take i s) ≡ false
digit_front [] zero h e = absurd (omega arith)
digit_front [] (suc i) h e = refl
digit_front (b ∷ s) zero h e = absurd (omega arith)
digit_front (b ∷ s) (suc i) h e = e

pub length_take : (i : ℕ) (s : List ℕ) → i ≤ length s → length (take i s) ≡ i
length_take i s h = omega (arith, length-take-le i s h)

longest_at : (x : Symbol) (s : List ℕ) (len : ℕ) → IsSpelled s len → begins_with_digit 10 s ≡ false → Spells x s len → IsLongest (take len s) (drop len s)
longest_at x s len sp d p = sp.longest (let h = begun_short x (take len s) (digit_front s len p.some d) p.begun in let g = length_take len s p.within in omega arith)

pub stuck_at_end : (x : Symbol) (s : List ℕ) (len : ℕ) → Spells x s len → drop len s ≡ [] → next_of x (lexeme (take len s)) ≡ None → IsStuckIn x s (record { kind = kinds.Ended; left = 0 })
stuck_at_end x s len p e u n k = p.runs n k ∙ (ap (λ (v : List ℕ). run most_brackets v (Part (take len s)) n (x ∷ k)) e ∙ ap (λ (o : Option Stack). ended (has_ended o)) (taken_none x k (take len s) u))

pub stuck_behind : (x : Symbol) (s : List ℕ) (len b : ℕ) (rest : List ℕ) → IsSpelled s len → begins_with_digit 10 s ≡ false → Spells x s len → drop len s ≡ b ∷ rest → next_of x (lexeme (take len s)) ≡ None → IsStuckIn x s (record { kind = unexpected b; left = length s - len })
stuck_behind x s len b rest sp d p e u n k =
    let longest : joins (take len s) b ≡ false = subst (λ (v : List ℕ). IsLongest (take len s) v) e (longest_at x s len sp d p) in
    p.runs n k ∙ (ap (λ (v : List ℕ). run most_brackets v (Part (take len s)) n (x ∷ k)) e ∙ (run_fail most_brackets b rest (Part (take len s)) n (x ∷ k) (unexpected b) (rw (longest, taken_none x k (take len s) u) refl)
    ∙ ap (λ (left : ℕ). Stuck (unexpected b) left) (ap (λ (v : List ℕ). length v) (sym e) ∙ length_drop len s)))
