-- At the front of a text stands one token.
use Rattle.std.proofs.Common.{◌≡◌, ℕ, ◌<◌, true, false, ◌&&◌, List, [], ◌∷◌, ◌++◌, length, Some, refl, sym, ap, subst, ◌∙◌, arith, inl, inr, eqb}
use Rattle.std.proofs.lemmas.Bool.{true≢false, and_parts, and_from, eqb-true}
use Rattle.lb_syntax.specs.Names.{Text, IsName}
use Rattle.lb_spelling.specs.Tokens.{Token, Named, Stands, Mode, Outside, Slash, Comment, gap, IsLongest, is_blank, is_word_byte, lexeme, joins, begins_with, comment_start}
use Rattle.lb_spelling.proofs.Words.{chosen, false_from, not_blank_above, same_itself}
use Rattle.lb_spelling.proofs.Lexing.{head, empty_lexeme, joins_front, no_comment_front, lexeme_name}
use Rattle.lb_spelling.proofs.Back.{gap-append}

-- no blank and no comment stands at the front
abbrev pub BeginsToken : List ℕ → Type 0
BeginsToken [] = Unit {0}
BeginsToken (b ∷ []) = is_blank b ≡ false
BeginsToken (b ∷ c ∷ s) = (is_blank b ≡ false) × ((eqb b 47 && eqb c 47) ≡ false)

cons_same : (a b : ℕ) (s t : List ℕ) → a ∷ s ≡ b ∷ t → (a ≡ b) × (s ≡ t)
cons_same a b s t e = (cc, cc)

-- a gap that is no gap of the other
pub gap_none : (b : ℕ) (g x : List ℕ) → gap false Outside (b ∷ g) ≡ true → BeginsToken (b ∷ g ++ x) → ⊥
gap_none b g x h t = elim (chosen (is_blank b) (gap false Outside g) (eqb b 47 && gap false Slash g) true h) [
  | inl c ↦ true≢false (sym c.0 ∙ not_blank g t)
  | inr c ↦ (let p = and_parts (eqb b 47) (gap false Slash g) c.1 in slash g t p.0 p.1)
] where
  not_blank : (g : List ℕ) → BeginsToken (b ∷ g ++ x) → is_blank b ≡ false
  not_blank [] t = first x t where
    first : (x : List ℕ) → BeginsToken (b ∷ x) → is_blank b ≡ false
    first [] t = t
    first (c ∷ x) t = t.0
  not_blank (c ∷ g) t = t.0

  slash : (g : List ℕ) → BeginsToken (b ∷ g ++ x) → eqb b 47 ≡ true → gap false Slash g ≡ true → ⊥
  slash [] t p q = absurd (let e : false ≡ true = q in cc)
  slash (c ∷ g) t p q = let r = and_parts (eqb c 47) (gap false Comment g) q in true≢false (sym (and_from _ _ p r.0) ∙ t.1)

-- behind gaps in one text stands one thing
pub gap_same : (g g' : List ℕ) (m : Mode) (x x' : List ℕ) → gap false m g ≡ true → gap false m g' ≡ true → BeginsToken x → BeginsToken x' → g ++ x ≡ g' ++ x' → x ≡ x'
gap_same [] [] m x x' h h' t t' e = e
gap_same [] (b ∷ g') Outside x x' h h' t t' e = absurd (gap_none b g' x' h' (subst (λ (u : List ℕ). BeginsToken u) e t))
gap_same [] (b ∷ g') Slash x x' h h' t t' e = absurd cc
gap_same [] (b ∷ g') Comment x x' h h' t t' e = absurd cc
gap_same (b ∷ g) [] Outside x x' h h' t t' e = absurd (gap_none b g x h (subst (λ (u : List ℕ). BeginsToken u) (sym e) t'))
gap_same (b ∷ g) [] Slash x x' h h' t t' e = absurd cc
gap_same (b ∷ g) [] Comment x x' h h' t t' e = absurd cc
gap_same (b ∷ g) (b' ∷ g') Outside x x' h h' t t' e =
    let p = cons_same b b' (g ++ x) (g' ++ x') e in
    let h2 : gap false Outside (b ∷ g') ≡ true = subst (λ (c : ℕ). gap false Outside (c ∷ g') ≡ true) (sym p.0) h' in
    elim (chosen (is_blank b) (gap false Outside g) (eqb b 47 && gap false Slash g) true h) [
      | inl c ↦ elim (chosen (is_blank b) (gap false Outside g') (eqb b 47 && gap false Slash g') true h2) [
        | inl d ↦ gap_same g g' Outside x x' c.1 d.1 t t' p.1
        | inr d ↦ absurd (true≢false (sym c.0 ∙ d.0))
      ]
      | inr c ↦ elim (chosen (is_blank b) (gap false Outside g') (eqb b 47 && gap false Slash g') true h2) [
        | inl d ↦ absurd (true≢false (sym d.0 ∙ c.0))
        | inr d ↦ gap_same g g' Slash x x' (and_parts _ _ c.1).1 (and_parts _ _ d.1).1 t t' p.1
      ]
    ]
gap_same (b ∷ g) (b' ∷ g') Slash x x' h h' t t' e =
    let p = cons_same b b' (g ++ x) (g' ++ x') e in gap_same g g' Comment x x' (and_parts (eqb b 47) _ h).1 (and_parts (eqb b' 47) _ h').1 t t' p.1
gap_same (b ∷ g) (b' ∷ g') Comment x x' h h' t t' e =
    let p = cons_same b b' (g ++ x) (g' ++ x') e in
    let h2 : gap false Comment (b ∷ g') ≡ true = subst (λ (c : ℕ). gap false Comment (c ∷ g') ≡ true) (sym p.0) h' in
    elim (chosen (eqb b 10) (gap false Outside g) (gap false Comment g) true h) [
      | inl c ↦ elim (chosen (eqb b 10) (gap false Outside g') (gap false Comment g') true h2) [
        | inl d ↦ gap_same g g' Outside x x' c.1 d.1 t t' p.1
        | inr d ↦ absurd (true≢false (sym c.0 ∙ d.0))
      ]
      | inr c ↦ elim (chosen (eqb b 10) (gap false Outside g') (gap false Comment g') true h2) [
        | inl d ↦ absurd (true≢false (sym d.0 ∙ c.0))
        | inr d ↦ gap_same g g' Comment x x' c.1 d.1 t t' p.1
      ]
    ]

-- a token begins no gap
pub token_begins : (w r : List ℕ) (t : Token) → lexeme w ≡ Some t → IsLongest w r → BeginsToken (w ++ r)
unfolding joins begins_with is_word_byte
token_begins [] r t e longest = absurd (empty_lexeme t e)
token_begins (b ∷ []) [] t e longest = not_blank_above b (head b [] t e).above
token_begins (b ∷ []) (c ∷ r) t e longest = (
  not_blank_above b (head b [] t e).above,
  false_from _ (λ h. let p = and_parts (eqb b 47) (eqb c 47) h in
      let b-is : b ≡ 47 = eqb-true b 47 p.0 in let c-is : c ≡ 47 = eqb-true c 47 p.1 in true≢false (sym (slashes b c b-is c-is) ∙ longest)),
) where
  slashes : (b c : ℕ) → b ≡ 47 → c ≡ 47 → joins (b ∷ []) c ≡ true
  slashes b c p q = rw (p, q) refl
token_begins (b ∷ c ∷ v) r t e longest = (
  not_blank_above b (head b (c ∷ v) t e).above,
  false_from _ (λ h. let p = and_parts (eqb b 47) (eqb c 47) h in
      let b-is : b ≡ 47 = eqb-true b 47 p.0 in let c-is : c ≡ 47 = eqb-true c 47 p.1 in
      no_comment_front b [] c v t e (rw (b-is, c-is) (same_itself comment_start))),
)

-- one of two fronts is the longer
pub data Fronts (a b x y : List ℕ) : Type 0 where
  equal : a ≡ b → x ≡ y → Fronts a b x y
  second : (c : ℕ) (v : List ℕ) → b ≡ a ++ c ∷ v → x ≡ c ∷ v ++ y → Fronts a b x y
  first : (c : ℕ) (v : List ℕ) → a ≡ b ++ c ∷ v → y ≡ c ∷ v ++ x → Fronts a b x y

pub fronts : (a b x y : List ℕ) → a ++ x ≡ b ++ y → Fronts a b x y
fronts [] [] x y e = equal refl e
fronts [] (c ∷ b) x y e = second c b refl e
fronts (c ∷ a) [] x y e = first c a refl (sym e)
fronts (c ∷ a) (d ∷ b) x y e = let p = cons_same c d (a ++ x) (b ++ y) e in let heads : c ≡ d = p.0 in
    elim (fronts a b x y p.1) [
      | equal f g ↦ equal (cc) g
      | second z v f g ↦ second z v (cc) g
      | first z v f g ↦ first z v (cc) g
    ]

longer_no : (w : List ℕ) (t : Token) (c : ℕ) (v r : List ℕ) (t' : Token) → lexeme w ≡ Some t → IsLongest w (c ∷ r) → lexeme (w ++ c ∷ v) ≡ Some t' → ⊥
longer_no [] t c v r t' e longest e' = empty_lexeme t e
longer_no (a ∷ u) t c v r t' e longest e' = true≢false (sym (joins_front a u c v t' e') ∙ longest)

pub stands_same : (t t' : Token) (s r r' : List ℕ) → Stands t s r → Stands t' s r' → (t ≡ t') × (r ≡ r')
stands_same t t' s r r' p q =
    let inner : p.word ++ r ≡ q.word ++ r' = gap_same p.before q.before Outside (p.word ++ r) (q.word ++ r') p.is_gap q.is_gap (token_begins p.word r t p.spelled p.longest) (token_begins q.word r' t' q.spelled q.longest) (sym p.parts ∙ q.parts) in
    elim (fronts p.word q.word r r' inner) [
      | equal f g ↦ (let h : Some t ≡ Some t' = sym p.spelled ∙ (ap lexeme f ∙ q.spelled) in (cc, g))
      | second c v f g ↦ absurd (longer_no p.word t c v (v ++ r') t' p.spelled (subst (λ (u : List ℕ). IsLongest p.word u) g p.longest) (ap lexeme (sym f) ∙ q.spelled))
      | first c v f g ↦ absurd (longer_no q.word t' c v (v ++ r) t q.spelled (subst (λ (u : List ℕ). IsLongest q.word u) g q.longest) (ap lexeme (sym f) ∙ p.spelled))
    ]

pub other_token : (t t' : Token) (s r r' : List ℕ) → (t ≡ t' → ⊥) → Stands t s r → Stands t' s r' → ⊥
other_token t t' s r r' apart p q = apart (stands_same t t' s r r' p q).0

-- what begins a token is no gap that ends the text
pub gap_word : (s : List ℕ) → BeginsToken s → 0 < length s → gap true Outside s ≡ true → ⊥
gap_word [] t l e = omega arith
gap_word (b ∷ s) t l e = elim (chosen (is_blank b) (gap true Outside s) (eqb b 47 && gap true Slash s) true e) [
  | inl c ↦ true≢false (sym c.0 ∙ blank s t)
  | inr c ↦ (let p = and_parts (eqb b 47) (gap true Slash s) c.1 in slash s t p.0 p.1)
] where
  slash : (s : List ℕ) → BeginsToken (b ∷ s) → eqb b 47 ≡ true → gap true Slash s ≡ true → ⊥
  slash [] t h e = absurd (let f : false ≡ true = e in cc)
  slash (c ∷ s) t h e = true≢false (sym (and_from _ _ h (and_parts (eqb c 47) (gap true Comment s) e).0) ∙ t.1)

  blank : (s : List ℕ) → BeginsToken (b ∷ s) → is_blank b ≡ false
  blank [] t = t
  blank (c ∷ s) t = t.0

-- no token stands where the text ends
pub no_token : (t : Token) (s r : List ℕ) → gap true Outside s ≡ true → Stands t s r → ⊥
no_token t s r g p = gap_word (p.word ++ r) (token_begins p.word r t p.spelled p.longest) (some p.word p.spelled) (sym (gap-append p.before Outside true (p.word ++ r) p.is_gap) ∙ (ap (λ (u : List ℕ). gap true Outside u) (sym p.parts) ∙ g)) where
  some : (w : List ℕ) → lexeme w ≡ Some t → 0 < length (w ++ r)
  some [] e = absurd (empty_lexeme t e)
  some (b ∷ w) e = omega arith

-- a name that stands in a text is one
pub stands_name : (x : Text) (s r : List ℕ) → Stands (Named x) s r → IsName x
stands_name x s r p = (lexeme_name p.word x p.spelled).1
