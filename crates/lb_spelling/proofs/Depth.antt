-- The machine counts the brackets that are open outside comments, and its limit stops nothing else.
use Rattle.std.proofs.Common.{◌≡◌, ℕ, ◌<◌, ◌≤◌, Bool, true, false, not, ◌&&◌, ◌||◌, cond, List, [], ◌∷◌, ◌++◌, Option, Some, None, refl, sym, subst, ◌∙◌, arith, inl, inr, ◌⊎◌, leb, eqb}
use Rattle.std.specs.Prelude.{is_some}
use Rattle.std.specs.List.{list_all, list_any}
use Rattle.std.proofs.lemmas.Bool.{true≢false, false≢true, and_parts, and_from, or_cases, le-leb, leb-true, leb-false, eqb-true, cases_Bool, not-true}
use Rattle.std.proofs.lemmas.Bool.Decides.{nat_tests}
use Rattle.std.proofs.lemmas.List.Folds.{list_all-append}
use Rattle.lb_syntax.specs.Brackets.{open_after}
use Rattle.lb_spelling.specs.declared.symbol.Symbol.{Symbol}
use Rattle.lb_spelling.specs.declared.fault.TextKind.{TextKind}
use Rattle.lb_spelling.specs.declared.fault.TextKind.TheVariants.{TooDeep}
use Rattle.lb_spelling.specs.Tokens.{Token, Numeral, Named, Mode, Outside, Slash, Comment, mode_after, hex_mark, is_blank, is_word_byte, is_number, is_word, spelling, fixed, joins, begins_with, same, comment_start}
use Rattle.lb_spelling.specs.Places.{open_in}
use Rattle.lb_spelling.specs.InternalMachine.{Stack, next, taken, begins, begins_one, begins_number, Lex, Between, InComment, Part, Go, Fail, step, start, between, longer, finished, kind_in, unexpected}
use Rattle.lb_spelling.proofs.Words.{chosen, false_from, same_is, begins_with_is, tail, WordByte, word_byte_is, number_bytes, word_parts}
use Rattle.lb_spelling.proofs.Lexing.{pick, no_bracket}
use Rattle.lb_spelling.proofs.Ahead.{begins_with_has, Fine}

abbrev pub mode_of : Lex → Mode
mode_of Between = Outside
mode_of InComment = Comment
mode_of (Part []) = Outside
mode_of (Part (b ∷ [])) = cond (eqb b 47) Slash Outside
mode_of (Part (b ∷ c ∷ w)) = Outside

-- no bracket and no slash
pub record Plain (b : ℕ) : Type 0 where
  pub slash : eqb b 47 ≡ false
  pub opens : (eqb b 40 || eqb b 123) ≡ false
  pub closes : (eqb b 41 || eqb b 125) ≡ false

pub blank_low : (b : ℕ) → is_blank b ≡ true → b ≤ 32
unfolding is_blank
blank_low b e = elim (or_cases ((eqb b 32 || eqb b 9) || eqb b 10) (eqb b 13) e) [
  | inr h ↦ (let h' : b ≡ 13 = eqb-true b 13 h in omega arith)
  | inl r ↦ elim (or_cases (eqb b 32 || eqb b 9) (eqb b 10) r) [
    | inr h ↦ (let h' : b ≡ 10 = eqb-true b 10 h in omega arith)
    | inl s ↦ elim (or_cases (eqb b 32) (eqb b 9) s) [
      | inr h ↦ (let h' : b ≡ 9 = eqb-true b 9 h in omega arith)
      | inl h ↦ (let h' : b ≡ 32 = eqb-true b 32 h in omega arith)
    ]
  ]
]

low_bracket : (b c d : ℕ) → b ≤ 32 → 32 < c → 32 < d → (eqb b c || eqb b d) ≡ false
low_bracket b c d h hc hd = grind (arith, nat_tests)

plain_low : (b : ℕ) → b ≤ 32 → Plain b
plain_low b h = record { slash = grind (arith, nat_tests); opens = low_bracket b 40 123 h (omega arith) (omega arith); closes = low_bracket b 41 125 h (omega arith) (omega arith) }

plain_word : (b : ℕ) → WordByte b → Plain b
plain_word b h = record { slash = (let g = h.above in grind (arith, nat_tests)); opens = no_bracket b 40 123 h.above h.below (omega arith) (omega arith); closes = no_bracket b 41 125 h.above h.below (omega arith) (omega arith) }

abbrev is_plain_byte : ℕ → Bool
is_plain_byte b = not (eqb b 47) && (not (eqb b 40 || eqb b 123) && not (eqb b 41 || eqb b 125))

plain_from : (b : ℕ) → is_plain_byte b ≡ true → Plain b
plain_from b e = let p = and_parts (not (eqb b 47)) (not (eqb b 40 || eqb b 123) && not (eqb b 41 || eqb b 125)) e in let q = and_parts (not (eqb b 40 || eqb b 123)) (not (eqb b 41 || eqb b 125)) p.1 in
    record { slash = not-true _ p.0; opens = not-true _ q.0; closes = not-true _ q.1 }

among : (b : ℕ) (xs : List ℕ) → list_any (λ c. eqb b c) xs ≡ true → list_all is_plain_byte xs ≡ true → is_plain_byte b ≡ true
among b [] e h = absurd cc
among b (x ∷ xs) e h = elim (or_cases (eqb b x) (list_any (λ c. eqb b c) xs) e) [
  | inl here ↦ (let is : b ≡ x = eqb-true b x here in rw is (and_parts (is_plain_byte x) (list_all is_plain_byte xs) h).0)
  | inr there ↦ among b xs there (and_parts (is_plain_byte x) (list_all is_plain_byte xs) h).1
]

abbrev plain_inside : Token → Bool
plain_inside t = list_all is_plain_byte (tail (spelling t))

pub tail_begins : (a : ℕ) (u s : List ℕ) → begins_with (a ∷ u) s ≡ true → begins_with u (tail s) ≡ true
unfolding begins_with
tail_begins a u [] e = absurd cc
tail_begins a u (b ∷ s) e = (and_parts (eqb a b) (begins_with u s) e).1

-- the last byte of a run
pub last_word : (w : List ℕ) (b : ℕ) → list_all is_word_byte (w ++ b ∷ []) ≡ true → is_word_byte b ≡ true
last_word w b e = (and_parts (is_word_byte b) true (and_parts (list_all is_word_byte w) (is_word_byte b && true) (sym (list_all-append is_word_byte w (b ∷ [])) ∙ e)).1).0

mark_bytes : list_all is_word_byte hex_mark ≡ true
unfolding is_word_byte
mark_bytes = refl

pub begun_bytes : (w : List ℕ) → begins_number w ≡ true → list_all is_word_byte w ≡ true
unfolding begins_number
begun_bytes w e = elim (or_cases (is_number w) (same hex_mark w) e) [
  | inl n ↦ number_bytes w n
  | inr m ↦ rw (← same_is hex_mark w m) mark_bytes
]

-- a byte within a spelling
inner_plain : (x : Symbol) (a : ℕ) (w : List ℕ) (b : ℕ) → begins_one x (a ∷ w ++ b ∷ []) ≡ true → Plain b
unfolding begins_one
inner_plain x a w b e = elim (or_cases (number_part || word_part) table_part e) [
  | inr f ↦ (let p = pick plain_inside (λ t. is_some (next x t) && begins_with (a ∷ w ++ b ∷ []) (spelling t)) fixed refl f in
      let q = and_parts (is_some (next x p.0)) (begins_with (a ∷ w ++ b ∷ []) (spelling p.0)) p.2 in
      plain_from b (among b (tail (spelling p.0)) (begins_with_has w b (tail (spelling p.0)) (tail_begins a (w ++ b ∷ []) (spelling p.0) q.1)) p.1))
  | inl d ↦ elim (or_cases number_part word_part d) [
    | inl n ↦ plain_word b (word_byte_is b (last_word (a ∷ w) b (begun_bytes (a ∷ w ++ b ∷ []) (and_parts (is_some (next x (Numeral 0))) (begins_number (a ∷ w ++ b ∷ [])) n).1)))
    | inr n ↦ plain_word b (word_byte_is b (last_word (a ∷ w) b (word_parts (a ∷ w ++ b ∷ []) (and_parts (is_some (next x (Named []))) (is_word (a ∷ w ++ b ∷ [])) n).1).bytes))
  ]
] where
  number_part : Bool
  number_part = is_some (next x (Numeral 0)) && begins_number (a ∷ w ++ b ∷ [])

  word_part : Bool
  word_part = is_some (next x (Named [])) && is_word (a ∷ w ++ b ∷ [])

  table_part : Bool
  table_part = list_any (λ t. is_some (next x t) && begins_with (a ∷ w ++ b ∷ []) (spelling t)) fixed

pub comment_front_is : (a : ℕ) (w : List ℕ) (b : ℕ) → begins_with (a ∷ w ++ b ∷ []) comment_start ≡ true → same (a ∷ w ++ b ∷ []) comment_start ≡ true
unfolding begins_with same
comment_front_is a [] b e = and_from _ _ e (let v = begins_with_is (a ∷ b ∷ []) comment_start e in let is : comment_start ≡ a ∷ b ∷ v.0 = v.1 in let a-is : 47 ≡ a = cc in let b-is : 47 ≡ b = cc in rw (← a-is, ← b-is) refl)
comment_front_is a (c ∷ []) b e = absurd (let p = and_parts (eqb a 47) _ e in let q : (eqb c 47 && false) ≡ true = p.1 in false≢true (and_parts (eqb c 47) false q).1)
comment_front_is a (c ∷ d ∷ w) b e = absurd (let p = and_parts (eqb a 47) _ e in let q : (eqb c 47 && false) ≡ true = p.1 in false≢true (and_parts (eqb c 47) false q).1)

inner_byte : (k : Stack) (a : ℕ) (w : List ℕ) (b : ℕ) → begins k (a ∷ w ++ b ∷ []) ≡ true → same (a ∷ w ++ b ∷ []) comment_start ≡ false → Plain b
inner_byte [] a w b e s = absurd (true≢false (sym (comment_front_is a w b e) ∙ s))
inner_byte (x ∷ k) a w b e s = elim (or_cases (begins_one x (a ∷ w ++ b ∷ [])) (begins_with (a ∷ w ++ b ∷ []) comment_start) e) [
  | inl o ↦ inner_plain x a w b o
  | inr c ↦ absurd (true≢false (sym (comment_front_is a w b c) ∙ s))
]

-- ---- one step

pub record StepFacts (limit : ℕ) (m : Mode) (n : ℕ) (b : ℕ) (lx' : Lex) (n' : ℕ) (k' : Stack) : Type 0 where
  pub mode : mode_after m b ≡ mode_of lx'
  pub depth : open_in m n b ≡ n'
  pub bound : n' ≤ limit
  pub fine : Fine lx' k'

-- the same, of a state that the step goes to
facts_at : (limit : ℕ) (m : Mode) (n b : ℕ) (lx lx' : Lex) (n1 n' : ℕ) (k k' : Stack) → Go lx n1 k ≡ Go lx' n' k' → StepFacts limit m n b lx n1 k → StepFacts limit m n b lx' n' k'
facts_at limit m n b lx lx' n1 n' k k' e f = let l : lx ≡ lx' = cc in let c : n1 ≡ n' = cc in let s : k ≡ k' = cc in rw (← l, ← c, ← s) f

plain_depth : (m : Mode) (n b : ℕ) → Plain b → open_in m n b ≡ n
plain_depth Outside n b p = rw (p.opens, p.closes) refl
plain_depth Slash n b p = rw (p.opens, p.closes) refl
plain_depth Comment n b p = refl

between_facts : (limit n : ℕ) (k : Stack) (b : ℕ) (lx' : Lex) (n' : ℕ) (k' : Stack) → n ≤ limit → between limit n k b ≡ Go lx' n' k' → StepFacts limit Outside n b lx' n' k'
between_facts limit n k b lx' n' k' h e = elim (chosen (is_blank b) (Go Between n k) (start limit n k b) (Go lx' n' k') e) [
  | inl c ↦ (let p = plain_low b (blank_low b c.0) in facts_at limit Outside n b Between lx' n n' k k' c.1 (record { mode = rw (p.slash) refl; depth = plain_depth Outside n b p; bound = h; fine = tt }))
  | inr c ↦ elim (chosen (begins k (b ∷ [])) (cond (leb (open_after n b) limit) (Go (Part (b ∷ [])) (open_after n b) k) (Fail TooDeep)) (Fail (unexpected b)) (Go lx' n' k') c.1) [
    | inr d ↦ absurd (let x = d.1 in cc)
    | inl d ↦ elim (chosen (leb (open_after n b) limit) (Go (Part (b ∷ [])) (open_after n b) k) (Fail TooDeep) (Go lx' n' k') d.1) [
      | inr f ↦ absurd (let x = f.1 in cc)
      | inl f ↦ facts_at limit Outside n b (Part (b ∷ [])) lx' (open_after n b) n' k k' f.1 (record { mode = refl; depth = refl; bound = leb-true _ _ f.0; fine = d.0 })
    ]
  ]
]

slash_joins : (b : ℕ) → joins (47 ∷ []) b ≡ false → eqb b 47 ≡ false
unfolding joins begins_with is_word_byte
slash_joins b e = false_from _ (λ h. let is : b ≡ 47 = eqb-true b 47 h in let g : joins (47 ∷ []) 47 ≡ false = subst (λ (b : ℕ). joins (47 ∷ []) b ≡ false) is e in let g' : true ≡ false = g in true≢false g')

-- at the end of a token the mode is as good as outside
mode_at_end : (a : ℕ) (w : List ℕ) (b n : ℕ) → joins (a ∷ w) b ≡ false → (mode_after (mode_of (Part (a ∷ w))) b ≡ mode_after Outside b) × (open_in (mode_of (Part (a ∷ w))) n b ≡ open_in Outside n b)
mode_at_end a (c ∷ w) b n j = (refl, refl)
mode_at_end a [] b n j = elim (cases_Bool (eqb a 47)) [
  | inr h ↦ (rw h refl, rw h refl)
  | inl h ↦ (let is : a ≡ 47 = eqb-true a 47 h in let ns : eqb b 47 ≡ false = slash_joins b (subst (λ (a : ℕ). joins (a ∷ []) b ≡ false) is j) in (rw (h, ns) refl, rw h refl))
]

inner_mode : (a : ℕ) (w : List ℕ) (b : ℕ) → Plain b → mode_after (mode_of (Part (a ∷ w))) b ≡ mode_of (Part (a ∷ w ++ b ∷ []))
inner_mode a (c ∷ w) b p = rw (p.slash) refl
inner_mode a [] b p = elim (cases_Bool (eqb a 47)) [
  | inr h ↦ rw (h, p.slash) refl
  | inl h ↦ rw (h, p.slash) refl
]

comment_mode : (a : ℕ) (w : List ℕ) (b n : ℕ) → a ∷ w ++ b ∷ [] ≡ comment_start → (mode_after (mode_of (Part (a ∷ w))) b ≡ Comment) × (open_in (mode_of (Part (a ∷ w))) n b ≡ n)
comment_mode a [] b n e = let a-is : a ≡ 47 = cc in let b-is : b ≡ 47 = cc in (rw (a-is, b-is) refl, rw (a-is, b-is) refl)
comment_mode a (c ∷ []) b n e = absurd (let t : b ∷ [] ≡ [] = cc in cc)
comment_mode a (c ∷ d ∷ w) b n e = absurd (let t : d ∷ w ++ b ∷ [] ≡ [] = cc in cc)

finished_facts : (limit n : ℕ) (a : ℕ) (w : List ℕ) (o : Option Stack) (b : ℕ) (lx' : Lex) (n' : ℕ) (k' : Stack) → n ≤ limit → joins (a ∷ w) b ≡ false → finished limit n o b ≡ Go lx' n' k' → StepFacts limit (mode_of (Part (a ∷ w))) n b lx' n' k'
finished_facts limit n a w None b lx' n' k' h j e = absurd cc
finished_facts limit n a w (Some k) b lx' n' k' h j e =
    let f = between_facts limit n k b lx' n' k' h e in
    let m = mode_at_end a w b n j in
    record { mode = m.0 ∙ f.mode; depth = m.1 ∙ f.depth; bound = f.bound; fine = f.fine }

pub step_facts : (limit : ℕ) (lx : Lex) (n : ℕ) (k : Stack) (b : ℕ) (lx' : Lex) (n' : ℕ) (k' : Stack) → Fine lx k → n ≤ limit → step limit lx n k b ≡ Go lx' n' k' → StepFacts limit (mode_of lx) n b lx' n' k'
step_facts limit Between n k b lx' n' k' fine h e = between_facts limit n k b lx' n' k' h e
step_facts limit InComment n k b lx' n' k' fine h e = elim (chosen (eqb b 10) (Go Between n k) (Go InComment n k) (Go lx' n' k') e) [
  | inl c ↦ facts_at limit Comment n b Between lx' n n' k k' c.1 (record { mode = rw (c.0) refl; depth = refl; bound = h; fine = tt })
  | inr c ↦ facts_at limit Comment n b InComment lx' n n' k k' c.1 (record { mode = rw (c.0) refl; depth = refl; bound = h; fine = tt })
]
step_facts limit (Part []) n k b lx' n' k' fine h e = absurd fine
step_facts limit (Part (a ∷ w)) n k b lx' n' k' fine h e = elim (chosen (joins (a ∷ w) b) (longer (a ∷ w) n k b) (finished limit n (taken k (a ∷ w)) b) (Go lx' n' k') e) [
  | inr c ↦ finished_facts limit n a w _ b lx' n' k' h c.0 c.1
  | inl c ↦ elim (chosen (same (a ∷ w ++ b ∷ []) comment_start) (Go InComment n k) (cond (begins k (a ∷ w ++ b ∷ [])) (Go (Part (a ∷ w ++ b ∷ [])) n k) (Fail (kind_in (a ∷ w) b))) (Go lx' n' k') c.1) [
    | inl d ↦ (let m = comment_mode a w b n (same_is _ _ d.0) in facts_at limit _ n b InComment lx' n n' k k' d.1 (record { mode = m.0; depth = m.1; bound = h; fine = tt }))
    | inr d ↦ elim (chosen (begins k (a ∷ w ++ b ∷ [])) (Go (Part (a ∷ w ++ b ∷ [])) n k) (Fail (kind_in (a ∷ w) b)) (Go lx' n' k') d.1) [
      | inr f ↦ absurd (let x = f.1 in cc)
      | inl f ↦ (let p = inner_byte k a w b f.0 d.0 in
          facts_at limit _ n b (Part (a ∷ w ++ b ∷ [])) lx' n n' k k' f.1 (record { mode = inner_mode a w b p; depth = plain_depth _ n b p; bound = h; fine = f.0 }))
    ]
  ]
]

-- ---- a higher limit

between_up : (limit m n : ℕ) (k : Stack) (b : ℕ) (lx' : Lex) (n' : ℕ) (k' : Stack) → limit ≤ m → between limit n k b ≡ Go lx' n' k' → between m n k b ≡ Go lx' n' k'
between_up limit m n k b lx' n' k' h e = elim (chosen (is_blank b) (Go Between n k) (start limit n k b) (Go lx' n' k') e) [
  | inl c ↦ rw (c.0) (c.1)
  | inr c ↦ elim (chosen (begins k (b ∷ [])) (cond (leb (open_after n b) limit) (Go (Part (b ∷ [])) (open_after n b) k) (Fail TooDeep)) (Fail (unexpected b)) (Go lx' n' k') c.1) [
    | inr d ↦ absurd (let x = d.1 in cc)
    | inl d ↦ elim (chosen (leb (open_after n b) limit) (Go (Part (b ∷ [])) (open_after n b) k) (Fail TooDeep) (Go lx' n' k') d.1) [
      | inr f ↦ absurd (let x = f.1 in cc)
      | inl f ↦ (let low : open_after n b ≤ limit = leb-true _ _ f.0 in let up : leb (open_after n b) m ≡ true = le-leb _ _ (omega arith) in rw (c.0, d.0, up) (f.1))
    ]
  ]
]

finished_up : (limit m n : ℕ) (o : Option Stack) (b : ℕ) (lx' : Lex) (n' : ℕ) (k' : Stack) → limit ≤ m → finished limit n o b ≡ Go lx' n' k' → finished m n o b ≡ Go lx' n' k'
finished_up limit m n None b lx' n' k' h e = absurd cc
finished_up limit m n (Some k) b lx' n' k' h e = between_up limit m n k b lx' n' k' h e

pub step_up : (limit m : ℕ) (lx : Lex) (n : ℕ) (k : Stack) (b : ℕ) (lx' : Lex) (n' : ℕ) (k' : Stack) → limit ≤ m → step limit lx n k b ≡ Go lx' n' k' → step m lx n k b ≡ Go lx' n' k'
step_up limit m Between n k b lx' n' k' h e = between_up limit m n k b lx' n' k' h e
step_up limit m InComment n k b lx' n' k' h e = e
step_up limit m (Part w) n k b lx' n' k' h e = elim (chosen (joins w b) (longer w n k b) (finished limit n (taken k w) b) (Go lx' n' k') e) [
  | inl c ↦ rw (c.0) (c.1)
  | inr c ↦ rw (c.0) (finished_up limit m n _ b lx' n' k' h c.1)
]

-- a step fails at the limit, or at every limit
between_fails : (limit n : ℕ) (k : Stack) (b : ℕ) (kind : TextKind) → between limit n k b ≡ Fail kind → (limit < open_in Outside n b) ⊎ ((m : ℕ) → between m n k b ≡ Fail kind)
between_fails limit n k b kind e = elim (chosen (is_blank b) (Go Between n k) (start limit n k b) (Fail kind) e) [
  | inl c ↦ absurd (let x = c.1 in cc)
  | inr c ↦ elim (chosen (begins k (b ∷ [])) (cond (leb (open_after n b) limit) (Go (Part (b ∷ [])) (open_after n b) k) (Fail TooDeep)) (Fail (unexpected b)) (Fail kind) c.1) [
    | inr d ↦ inr (λ m. rw (c.0, d.0) (d.1))
    | inl d ↦ elim (chosen (leb (open_after n b) limit) (Go (Part (b ∷ [])) (open_after n b) k) (Fail TooDeep) (Fail kind) d.1) [
      | inl f ↦ absurd (let x = f.1 in cc)
      | inr f ↦ inl (leb-false _ _ f.0)
    ]
  ]
]

finished_fails : (limit n : ℕ) (o : Option Stack) (b : ℕ) (kind : TextKind) → finished limit n o b ≡ Fail kind → (limit < open_in Outside n b) ⊎ ((m : ℕ) → finished m n o b ≡ Fail kind)
finished_fails limit n None b kind e = inr (λ m. e)
finished_fails limit n (Some k) b kind e = between_fails limit n k b kind e

pub step_fails : (limit : ℕ) (lx : Lex) (n : ℕ) (k : Stack) (b : ℕ) (kind : TextKind) → Fine lx k → step limit lx n k b ≡ Fail kind → (limit < open_in (mode_of lx) n b) ⊎ ((m : ℕ) → step m lx n k b ≡ Fail kind)
step_fails limit Between n k b kind fine e = between_fails limit n k b kind e
step_fails limit InComment n k b kind fine e = inr (λ m. e)
step_fails limit (Part []) n k b kind fine e = absurd fine
step_fails limit (Part (a ∷ w)) n k b kind fine e = elim (chosen (joins (a ∷ w) b) (longer (a ∷ w) n k b) (finished limit n (taken k (a ∷ w)) b) (Fail kind) e) [
  | inl c ↦ inr (λ m. rw (c.0) (c.1))
  | inr c ↦ elim (finished_fails limit n _ b kind c.1) [
    | inl over ↦ inl (rw ((mode_at_end a w b n c.0).1) over)
    | inr never ↦ inr (λ m. rw (c.0) (never m))
  ]
]
