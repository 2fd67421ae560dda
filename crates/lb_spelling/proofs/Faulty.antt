-- The kind at which the machine fails.
use Rattle.std.proofs.Common.{◌≡◌, ℕ, ◌-◌, ◌^◌, ◌<◌, ◌≤◌, Bool, true, false, not, ◌&&◌, ◌||◌, cond, List, [], ◌∷◌, ◌++◌, length, Option, Some, None, refl, sym, ap, ◌∙◌, arith, inl, inr, ◌⊎◌, leb, eqb}
use mathlib.Core.Bool.{beq}
use Rattle.std.specs.Prelude.{is_some}
use Rattle.std.specs.List.{list_all, list_any}
use Rattle.std.proofs.lemmas.Bool.{true≢false, and_parts, and_from, and_right, or_right, or_cases, or_parts, le-leb, leb-false, eqb-true, cases_Bool}
use Rattle.std.proofs.lemmas.List.Folds.{list_all-append}
use Rattle.lb_syntax.specs.Brackets.{open_after}
use Rattle.lb_spelling.specs.declared.symbol.Symbol.{Symbol}
use Rattle.lb_spelling.specs.declared.fault.TextKind.{TextKind}
use Rattle.lb_spelling.specs.declared.fault.TextKind.TheVariants.{BadByte, TooDeep, NumberTooWide, NameTooLong, Unexpected}
use Rattle.lb_spelling.specs.Tokens.{Token, Numeral, Named, is_blank, is_word_byte, is_digit_of, is_number, is_word, is_word_like, value, spelling, fixed, joins, begins_with, same, comment_start}
use Rattle.lb_spelling.specs.Places.{is_plain}
use Rattle.lb_spelling.specs.InternalMachine.{Stack, next, taken, begins, begins_one, begins_number, Lex, Between, InComment, Part, Go, Fail, step, start, between, longer, finished, kind_in, unexpected}
use Rattle.lb_spelling.proofs.Words.{chosen, false_from, begins_with_is, head_or, tail, word_byte_is, number_bytes, no_empty_number, word_parts}
use Rattle.lb_spelling.proofs.Lexing.{pick, beq-is}
use Rattle.lb_spelling.proofs.Ahead.{begins_with_has, Fine}
use Rattle.lb_spelling.proofs.Depth.{comment_front_is, tail_begins, blank_low, begun_bytes}
use Rattle.lb_spelling.proofs.Wide.{digit_of_word, wide_refused}

-- ---- the run at the end of the text

abbrev pub word_run : List ℕ → List ℕ
word_run w = cond (is_word_like w) w []

abbrev pub RunIs : Lex → List ℕ → Type 0
RunIs Between run = run ≡ []
RunIs InComment run = Unit {0}
RunIs (Part w) run = run ≡ word_run w

abbrev pub run_after : List ℕ → ℕ → List ℕ
run_after run b = cond (is_word_byte b) (run ++ b ∷ []) []

low_no_word : (b : ℕ) → b ≤ 47 → is_word_byte b ≡ false
low_no_word b h = false_from _ (λ e. let g = (word_byte_is b e).above in omega arith)

-- the bytes of a spelling are all of its first one's class
abbrev one_class : Token → Bool
one_class t = list_all (λ c. beq (is_word_byte c) (is_word_byte (head_or (spelling t)))) (tail (spelling t))

all_one_class : list_all one_class fixed ≡ true
unfolding is_word_byte
all_one_class = refl

class_among : (k : Bool) (b : ℕ) (xs : List ℕ) → list_any (λ c. eqb b c) xs ≡ true → list_all (λ c. beq (is_word_byte c) k) xs ≡ true → is_word_byte b ≡ k
class_among k b [] e h = absurd cc
class_among k b (x ∷ xs) e h = elim (or_cases (eqb b x) (list_any (λ c. eqb b c) xs) e) [
  | inl here ↦ (let is : b ≡ x = eqb-true b x here in rw is (beq-is _ _ (and_parts (beq (is_word_byte x) k) (list_all (λ c. beq (is_word_byte c) k) xs) h).0))
  | inr there ↦ class_among k b xs there (and_parts (beq (is_word_byte x) k) (list_all (λ c. beq (is_word_byte c) k) xs) h).1
]

all_words : (a : ℕ) (w : List ℕ) (b : ℕ) → list_all is_word_byte (a ∷ w ++ b ∷ []) ≡ true → is_word_byte b ≡ is_word_byte a
all_words a w b e =
    let p = and_parts (list_all is_word_byte (a ∷ w)) (is_word_byte b && true) (sym (list_all-append is_word_byte (a ∷ w) (b ∷ [])) ∙ e) in
    (and_parts (is_word_byte b) true p.1).0 ∙ sym (and_parts (is_word_byte a) (list_all is_word_byte w) p.0).0

head_is : (a : ℕ) (u s : List ℕ) → begins_with (a ∷ u) s ≡ true → head_or s ≡ a
head_is a u s e = let v = begins_with_is (a ∷ u) s e in ap head_or v.1

inner_class_one : (x : Symbol) (a : ℕ) (w : List ℕ) (b : ℕ) → begins_one x (a ∷ w ++ b ∷ []) ≡ true → is_word_byte b ≡ is_word_byte a
unfolding begins_one
inner_class_one x a w b e = elim (or_cases (number_part || word_part) table_part e) [
  | inr f ↦ (let p = pick one_class (λ t. is_some (next x t) && begins_with (a ∷ w ++ b ∷ []) (spelling t)) fixed all_one_class f in
      let q = and_parts (is_some (next x p.0)) (begins_with (a ∷ w ++ b ∷ []) (spelling p.0)) p.2 in
      class_among (is_word_byte (head_or (spelling p.0))) b (tail (spelling p.0)) (begins_with_has w b (tail (spelling p.0)) (tail_begins a (w ++ b ∷ []) (spelling p.0) q.1)) p.1
      ∙ ap is_word_byte (head_is a (w ++ b ∷ []) (spelling p.0) q.1))
  | inl d ↦ elim (or_cases number_part word_part d) [
    | inl n ↦ all_words a w b (begun_bytes (a ∷ w ++ b ∷ []) (and_parts (is_some (next x (Numeral 0))) (begins_number (a ∷ w ++ b ∷ [])) n).1)
    | inr n ↦ all_words a w b (word_parts (a ∷ w ++ b ∷ []) (and_parts (is_some (next x (Named []))) (is_word (a ∷ w ++ b ∷ [])) n).1).bytes
  ]
] where
  number_part : Bool
  number_part = is_some (next x (Numeral 0)) && begins_number (a ∷ w ++ b ∷ [])

  word_part : Bool
  word_part = is_some (next x (Named [])) && is_word (a ∷ w ++ b ∷ [])

  table_part : Bool
  table_part = list_any (λ t. is_some (next x t) && begins_with (a ∷ w ++ b ∷ []) (spelling t)) fixed

inner_class : (k : Stack) (a : ℕ) (w : List ℕ) (b : ℕ) → begins k (a ∷ w ++ b ∷ []) ≡ true → same (a ∷ w ++ b ∷ []) comment_start ≡ false → is_word_byte b ≡ is_word_byte a
inner_class [] a w b e s = absurd (true≢false (sym (comment_front_is a w b e) ∙ s))
inner_class (x ∷ k) a w b e s = elim (or_cases (begins_one x (a ∷ w ++ b ∷ [])) (begins_with (a ∷ w ++ b ∷ []) comment_start) e) [
  | inl o ↦ inner_class_one x a w b o
  | inr c ↦ absurd (true≢false (sym (comment_front_is a w b c) ∙ s))
]

run_longer : (a : ℕ) (w : List ℕ) (b : ℕ) → is_word_byte b ≡ is_word_byte a → run_after (word_run (a ∷ w)) b ≡ word_run (a ∷ w ++ b ∷ [])
run_longer a w b e = elim (cases_Bool (is_word_byte a)) [
  | inl h ↦ (let g : is_word_byte b ≡ true = e ∙ h in rw (g, h) refl)
  | inr h ↦ (let g : is_word_byte b ≡ false = e ∙ h in rw (g, h) refl)
]

-- ---- one step

run_at : (lx lx' : Lex) (n n' : ℕ) (k k' : Stack) (run : List ℕ) → Go lx n k ≡ Go lx' n' k' → RunIs lx run → RunIs lx' run
run_at lx lx' n n' k k' run e h = let l : lx ≡ lx' = cc in rw (← l) h

-- run may be a word's only if b is no byte of a word
between_run : (limit n : ℕ) (k : Stack) (b : ℕ) (lx' : Lex) (n' : ℕ) (k' : Stack) (run : List ℕ) → (is_word_byte b ≡ true → run ≡ []) → between limit n k b ≡ Go lx' n' k' → RunIs lx' (run_after run b)
between_run limit n k b lx' n' k' run h e = elim (chosen (is_blank b) (Go Between n k) (start limit n k b) (Go lx' n' k') e) [
  | inl c ↦ (let low : is_word_byte b ≡ false = low_no_word b (let l = blank_low b c.0 in omega arith) in run_at Between lx' n n' k k' _ c.1 (rw low refl))
  | inr c ↦ elim (chosen (begins k (b ∷ [])) (cond (leb (open_after n b) limit) (Go (Part (b ∷ [])) (open_after n b) k) (Fail TooDeep)) (Fail (unexpected b)) (Go lx' n' k') c.1) [
    | inr d ↦ absurd (let x = d.1 in cc)
    | inl d ↦ elim (chosen (leb (open_after n b) limit) (Go (Part (b ∷ [])) (open_after n b) k) (Fail TooDeep) (Go lx' n' k') d.1) [
      | inr f ↦ absurd (let x = f.1 in cc)
      | inl f ↦ run_at (Part (b ∷ [])) lx' (open_after n b) n' k k' _ f.1 alone
    ]
  ]
] where
  alone : run_after run b ≡ word_run (b ∷ [])
  alone = elim (cases_Bool (is_word_byte b)) [
    | inl g ↦ (let r : run ≡ [] = h g in rw (g, r) refl)
    | inr g ↦ rw g refl
  ]

-- behind a finished token
run_ended : (a : ℕ) (w : List ℕ) (b : ℕ) (run : List ℕ) → joins (a ∷ w) b ≡ false → run ≡ word_run (a ∷ w) → is_word_byte b ≡ true → run ≡ []
unfolding joins
run_ended a w b run j r h = r ∙ (let p = or_parts (is_word_byte a && is_word_byte b) _ (or_parts _ _ j).0 in
    let not_word : is_word_byte a ≡ false = false_from _ (λ g. true≢false (sym (and_from _ _ g h) ∙ p.0)) in rw not_word refl)

finished_run : (limit n : ℕ) (o : Option Stack) (b : ℕ) (lx' : Lex) (n' : ℕ) (k' : Stack) (run : List ℕ) → (is_word_byte b ≡ true → run ≡ []) → finished limit n o b ≡ Go lx' n' k' → RunIs lx' (run_after run b)
finished_run limit n None b lx' n' k' run h e = absurd cc
finished_run limit n (Some k) b lx' n' k' run h e = between_run limit n k b lx' n' k' run h e

pub step_run : (limit : ℕ) (lx : Lex) (n : ℕ) (k : Stack) (b : ℕ) (lx' : Lex) (n' : ℕ) (k' : Stack) (run : List ℕ) → Fine lx k → step limit lx n k b ≡ Go lx' n' k' → RunIs lx run → RunIs lx' (run_after run b)
step_run limit Between n k b lx' n' k' run fine e r = between_run limit n k b lx' n' k' run (λ h. r) e
step_run limit InComment n k b lx' n' k' run fine e r = elim (chosen (eqb b 10) (Go Between n k) (Go InComment n k) (Go lx' n' k') e) [
  | inl c ↦ (let is : b ≡ 10 = eqb-true b 10 c.0 in let low : is_word_byte b ≡ false = low_no_word b (omega arith) in run_at Between lx' n n' k k' _ c.1 (rw low refl))
  | inr c ↦ run_at InComment lx' n n' k k' _ c.1 tt
]
step_run limit (Part []) n k b lx' n' k' run fine e r = absurd fine
step_run limit (Part (a ∷ w)) n k b lx' n' k' run fine e r = elim (chosen (joins (a ∷ w) b) (longer (a ∷ w) n k b) (finished limit n (taken k (a ∷ w)) b) (Go lx' n' k') e) [
  | inr c ↦ finished_run limit n _ b lx' n' k' run (run_ended a w b run c.0 r) c.1
  | inl c ↦ elim (chosen (same (a ∷ w ++ b ∷ []) comment_start) (Go InComment n k) (cond (begins k (a ∷ w ++ b ∷ [])) (Go (Part (a ∷ w ++ b ∷ [])) n k) (Fail (kind_in (a ∷ w) b))) (Go lx' n' k') c.1) [
    | inl d ↦ run_at InComment lx' n n' k k' _ d.1 tt
    | inr d ↦ elim (chosen (begins k (a ∷ w ++ b ∷ [])) (Go (Part (a ∷ w ++ b ∷ [])) n k) (Fail (kind_in (a ∷ w) b)) (Go lx' n' k') d.1) [
      | inr f ↦ absurd (let x = f.1 in cc)
      | inl f ↦ run_at (Part (a ∷ w ++ b ∷ [])) lx' n n' k k' _ f.1 (ap (λ (u : List ℕ). run_after u b) r ∙ run_longer a w b (inner_class k a w b f.0 d.0))
    ]
  ]
]

-- ---- the kind

-- the first kind that fits, for a byte behind a run; deep: only the limit on brackets is passed
abbrev pub kind_at : List ℕ → ℕ → Bool → TextKind
kind_at run b deep =
    cond (not (is_plain b)) BadByte (
    cond deep TooDeep (
    cond (is_number run && is_digit_of run b) NumberTooWide (
    cond (is_word run && eqb (length run) 32 && is_word_byte b) NameTooLong Unexpected)))

-- a digit behind the number makes it too great
abbrev pub Wide : List ℕ → ℕ → Type 0
Wide run b = is_number run ≡ true → is_digit_of run b ≡ true → 2 ^ 32 ≤ value (run ++ b ∷ [])

plain_word : (b : ℕ) → is_word_byte b ≡ true → is_plain b ≡ true
unfolding is_plain
plain_word b e = let h = word_byte_is b e in or_right _ _ (and_from (leb 32 b) (leb b 126) (le-leb 32 b (let g = h.above in omega arith)) (le-leb b 126 (let g = h.below in omega arith)))

-- the kinds of runs go to plain bytes
shallow : (run : List ℕ) (b : ℕ) → kind_in run b ≡ kind_at run b false
shallow run b = elim (cases_Bool (is_number run && is_digit_of run b)) [
  | inl h ↦ (let p : is_plain b ≡ true = plain_word b (digit_of_word run b (and_parts (is_number run) (is_digit_of run b) h).1) in rw (h, p) refl)
  | inr h ↦ elim (cases_Bool (is_word run && eqb (length run) 32 && is_word_byte b)) [
    | inl g ↦ (let p : is_plain b ≡ true = plain_word b (and_parts (is_word run && eqb (length run) 32) (is_word_byte b) g).1 in rw (h, g, p) refl)
    | inr g ↦ elim (cases_Bool (is_plain b)) [
      | inl p ↦ rw (h, g, p) refl
      | inr p ↦ rw (h, g, p) refl
    ]
  ]
]

no_empty_word : is_word [] ≡ false
unfolding is_word
no_empty_word = refl

kind_nothing : (b : ℕ) → unexpected b ≡ kind_in [] b
kind_nothing b = rw (no_empty_number, no_empty_word) refl

no_digit : (run : List ℕ) (b : ℕ) → is_word_byte b ≡ false → is_digit_of run b ≡ false
no_digit run b h = false_from _ (λ e. true≢false (sym (digit_of_word run b e) ∙ h))

wide_nothing : (run : List ℕ) (b : ℕ) → run ≡ [] → Wide run b
wide_nothing run b is n d = absurd (true≢false (sym (rw is at n) ∙ no_empty_number))

-- behind a finished token, or none
kind_finished : (run : List ℕ) (b : ℕ) → (is_word_byte b ≡ true → run ≡ []) → unexpected b ≡ kind_at run b false
kind_finished run b h = elim (cases_Bool (is_word_byte b)) [
  | inl g ↦ (let r : run ≡ [] = h g in rw r (kind_nothing b ∙ shallow [] b))
  | inr g ↦ (let d = no_digit run b g in sym (rw (and_right (is_number run) (is_digit_of run b) d, and_right (is_word run && eqb (length run) 32) (is_word_byte b) g) refl) ∙ shallow run b)
]

wide_finished : (run : List ℕ) (b : ℕ) → (is_word_byte b ≡ true → run ≡ []) → Wide run b
wide_finished run b h n d = wide_nothing run b (h (digit_of_word run b d)) n d

no_number_run : (a : ℕ) (w : List ℕ) → is_word_byte a ≡ false → is_number (a ∷ w) ≡ false
no_number_run a w h = false_from _ (λ e. true≢false (sym (and_parts (is_word_byte a) (list_all is_word_byte w) (number_bytes (a ∷ w) e)).0 ∙ h))

no_word_run : (a : ℕ) (w : List ℕ) → is_word_byte a ≡ false → is_word (a ∷ w) ≡ false
no_word_run a w h = false_from _ (λ e. true≢false (sym (and_parts (is_word_byte a) (list_all is_word_byte w) (word_parts (a ∷ w) e).bytes).0 ∙ h))

kind_longer : (a : ℕ) (w : List ℕ) (b : ℕ) (run : List ℕ) → run ≡ word_run (a ∷ w) → kind_in (a ∷ w) b ≡ kind_at run b false
kind_longer a w b run r = elim (cases_Bool (is_word_byte a)) [
  | inl h ↦ (let is : run ≡ a ∷ w = r ∙ rw h refl in rw is (shallow (a ∷ w) b))
  | inr h ↦ (let is : run ≡ [] = r ∙ rw h refl in rw is (rw (no_number_run a w h, no_word_run a w h) (kind_nothing b) ∙ shallow [] b))
]

wide_longer : (k : Stack) (a : ℕ) (w : List ℕ) (b : ℕ) (run : List ℕ) → begins k (a ∷ w) ≡ true → begins k (a ∷ w ++ b ∷ []) ≡ false → run ≡ word_run (a ∷ w) → Wide run b
wide_longer k a w b run f g r n d = elim (cases_Bool (is_word_byte a)) [
  | inl h ↦ (let is : run ≡ a ∷ w = r ∙ rw h refl in rw is (wide_refused k a w b f g (rw is at n) (rw is at d)))
  | inr h ↦ (let is : run ≡ [] = r ∙ rw h refl in wide_nothing run b is n d)
]

-- a step fails at each limit, or at this one alone
pub data Fails (limit : ℕ) (lx : Lex) (n : ℕ) (k : Stack) (b : ℕ) (kind : TextKind) (run : List ℕ) : Type 0 where
  always : ((m : ℕ) → step m lx n k b ≡ Fail kind) → kind ≡ kind_at run b false → Wide run b → Fails limit lx n k b kind run
  here : (lx' : Lex) (n' : ℕ) (k' : Stack) → step n' lx n k b ≡ Go lx' n' k' → Fine lx' k' → kind ≡ kind_at run b true → Fails limit lx n k b kind run

fail_is : (a b : TextKind) → Fail a ≡ Fail b → b ≡ a
fail_is a b e = cc

over_open : (limit n b : ℕ) → n ≤ limit → leb (open_after n b) limit ≡ false → is_plain b ≡ true
unfolding is_plain
over_open limit n b h e = elim (cases_Bool (eqb b 40 || eqb b 123)) [
  | inl g ↦ elim (or_cases (eqb b 40) (eqb b 123) g) [
    | inl f ↦ (let is : b ≡ 40 = eqb-true b 40 f in rw is refl)
    | inr f ↦ (let is : b ≡ 123 = eqb-true b 123 f in rw is refl)
  ]
  | inr g ↦ absurd (let over : limit < open_after n b = leb-false _ _ e in elim (cases_Bool (eqb b 41 || eqb b 125)) [
    | inl f ↦ (let c : open_after n b ≡ n - 1 = rw (g, f) refl in omega arith)
    | inr f ↦ (let c : open_after n b ≡ n = rw (g, f) refl in omega arith)
  ])
]

between_kind : (limit n : ℕ) (k : Stack) (b : ℕ) (kind : TextKind) (run : List ℕ) → n ≤ limit → (is_word_byte b ≡ true → run ≡ []) → between limit n k b ≡ Fail kind
    → (((m : ℕ) → between m n k b ≡ Fail kind) × (kind ≡ kind_at run b false)) ⊎ ((between (open_after n b) n k b ≡ Go (Part (b ∷ [])) (open_after n b) k) × (begins k (b ∷ []) ≡ true) × (kind ≡ kind_at run b true))
between_kind limit n k b kind run low h e = elim (chosen (is_blank b) (Go Between n k) (start limit n k b) (Fail kind) e) [
  | inl c ↦ absurd (let x = c.1 in cc)
  | inr c ↦ elim (chosen (begins k (b ∷ [])) (cond (leb (open_after n b) limit) (Go (Part (b ∷ [])) (open_after n b) k) (Fail TooDeep)) (Fail (unexpected b)) (Fail kind) c.1) [
    | inr d ↦ inl ((λ m. rw (c.0, d.0) (d.1)), fail_is (unexpected b) kind d.1 ∙ kind_finished run b h)
    | inl d ↦ elim (chosen (leb (open_after n b) limit) (Go (Part (b ∷ [])) (open_after n b) k) (Fail TooDeep) (Fail kind) d.1) [
      | inl f ↦ absurd (let x = f.1 in cc)
      | inr f ↦ (let p = over_open limit n b low f.0 in inr (rw (c.0, d.0, le-leb (open_after n b) (open_after n b) (omega arith)) refl, d.0, fail_is TooDeep kind f.1 ∙ rw p refl))
    ]
  ]
]

finished_kind : (limit n : ℕ) (a : ℕ) (w : List ℕ) (k : Stack) (o : Option Stack) (b : ℕ) (kind : TextKind) (run : List ℕ) → n ≤ limit → (is_word_byte b ≡ true → run ≡ []) → taken k (a ∷ w) ≡ o → joins (a ∷ w) b ≡ false → finished limit n o b ≡ Fail kind → Fails limit (Part (a ∷ w)) n k b kind run
finished_kind limit n a w k None b kind run low h t j e = always (λ m. rw (j, t) e) (fail_is (unexpected b) kind e ∙ kind_finished run b h) (wide_finished run b h)
finished_kind limit n a w k (Some k1) b kind run low h t j e = elim (between_kind limit n k1 b kind run low h e) [
  | inl p ↦ always (λ m. rw (j, t) (p.0 m)) p.1 (wide_finished run b h)
  | inr p ↦ here (Part (b ∷ [])) (open_after n b) k1 (rw (j, t) (p.0)) p.1 p.2
]

pub step_kind : (limit : ℕ) (lx : Lex) (n : ℕ) (k : Stack) (b : ℕ) (kind : TextKind) (run : List ℕ) → Fine lx k → n ≤ limit → RunIs lx run → step limit lx n k b ≡ Fail kind → Fails limit lx n k b kind run
step_kind limit Between n k b kind run fine low r e = elim (between_kind limit n k b kind run low (λ h. r) e) [
  | inl p ↦ always p.0 p.1 (wide_nothing run b r)
  | inr p ↦ here (Part (b ∷ [])) (open_after n b) k p.0 p.1 p.2
]
step_kind limit InComment n k b kind run fine low r e = elim (chosen (eqb b 10) (Go Between n k) (Go InComment n k) (Fail kind) e) [
  | inl c ↦ absurd (let x = c.1 in cc)
  | inr c ↦ absurd (let x = c.1 in cc)
]
step_kind limit (Part []) n k b kind run fine low r e = absurd fine
step_kind limit (Part (a ∷ w)) n k b kind run fine low r e = elim (chosen (joins (a ∷ w) b) (longer (a ∷ w) n k b) (finished limit n (taken k (a ∷ w)) b) (Fail kind) e) [
  | inr c ↦ finished_kind limit n a w k _ b kind run low (run_ended a w b run c.0 r) refl c.0 c.1
  | inl c ↦ elim (chosen (same (a ∷ w ++ b ∷ []) comment_start) (Go InComment n k) (cond (begins k (a ∷ w ++ b ∷ [])) (Go (Part (a ∷ w ++ b ∷ [])) n k) (Fail (kind_in (a ∷ w) b))) (Fail kind) c.1) [
    | inl d ↦ absurd (let x = d.1 in cc)
    | inr d ↦ elim (chosen (begins k (a ∷ w ++ b ∷ [])) (Go (Part (a ∷ w ++ b ∷ [])) n k) (Fail (kind_in (a ∷ w) b)) (Fail kind) d.1) [
      | inl f ↦ absurd (let x = f.1 in cc)
      | inr f ↦ always (λ m. rw (c.0) (c.1)) (fail_is (kind_in (a ∷ w) b) kind f.1 ∙ kind_longer a w b run r) (wide_longer k a w b run fine f.0 r)
    ]
  ]
]
