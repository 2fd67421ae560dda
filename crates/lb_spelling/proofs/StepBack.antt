-- What completes the state behind a byte, with the byte before it completes the state before.
use Rattle.std.proofs.Common.{◌≡◌, ℕ, true, false, cond, List, [], ◌∷◌, ◌++◌, Option, Some, None, refl, sym, ap, subst, ◌∙◌, append_assoc, append-nil, inl, inr, ◌⊎◌, leb, eqb}
use Rattle.std.proofs.lemmas.Bool.{false≢true, and_parts}
use Rattle.lb_syntax.specs.Brackets.{open_after}
use Rattle.lb_spelling.specs.declared.symbol.Symbol.{Symbol}
use Rattle.lb_spelling.specs.declared.symbol.Symbol.TheVariants as symbols
use Rattle.lb_spelling.specs.declared.fault.TextKind.TheVariants.{TooDeep}
use Rattle.lb_spelling.specs.Tokens.{Token, Outside, Comment, gap, IsLongest, is_blank, lexeme, joins, same, comment_start}
use Rattle.lb_spelling.specs.InternalMachine.{Stack, next, next_of, push, taken, begins, Lex, Between, InComment, Part, Go, Fail, step, start, between, longer, finished, may_be_none, ends, has_ended, may_end, kind_in, unexpected}
use Rattle.lb_spelling.proofs.Words.{chosen, same_is}
use Rattle.lb_spelling.proofs.Back.{Spells, whole, Spells-gap}

-- ---- what completes a state

pub record ByToken (w : List ℕ) (k : Stack) (s : List ℕ) : Type 0 where
  pub x : Symbol
  pub below : Stack
  pub stack : k ≡ x ∷ below
  pub token : Token
  pub coming : Stack
  pub more : List ℕ
  pub rest : List ℕ
  pub parts : s ≡ more ++ rest
  pub spelled : lexeme (w ++ more) ≡ Some token
  pub longest : IsLongest (w ++ more) rest
  pub allowed : next x token ≡ Some coming
  pub others : Spells (coming ++ below) rest

-- a comment that ends, and what comes behind it
pub record CommentThen (k : Stack) (s : List ℕ) : Type 0 where
  pub comment : List ℕ
  pub rest : List ℕ
  pub parts : s ≡ comment ++ rest
  pub is_gap : gap false Comment comment ≡ true
  pub others : Spells k rest

-- a comment that the text may end with
pub record CommentLast (k : Stack) (s : List ℕ) : Type 0 where
  pub nothing : ends k ≡ true
  pub is_gap : gap true Comment s ≡ true

abbrev pub InsideComment : Stack → List ℕ → Type 0
InsideComment k s = CommentThen k s ⊎ CommentLast k s

pub record ByComment (w : List ℕ) (k : Stack) (s : List ℕ) : Type 0 where
  pub more : List ℕ
  pub rest : List ℕ
  pub parts : s ≡ more ++ rest
  pub slashes : w ++ more ≡ comment_start
  pub comment : InsideComment k rest

abbrev pub Completes : Lex → Stack → List ℕ → Type 0
Completes Between k s = Spells k s
Completes InComment k s = InsideComment k s
Completes (Part w) k s = ByToken w k s ⊎ ByComment w k s

-- where nothing has to come, blanks and comments may end the text
pub gap_spells : (k : Stack) (s : List ℕ) → ends k ≡ true → gap true Outside s ≡ true → Spells k s
gap_spells [] s z g = g
gap_spells (x ∷ k) s z g = let p = and_parts (may_be_none x) (ends k) z in nothing x p.0 (gap_spells k s p.1 g) where
  nothing : (x : Symbol) → may_be_none x ≡ true → Spells k s → Spells (x ∷ k) s
  nothing symbols.Functions e h = (s, ([], refl), h)
  nothing _ e h = absurd (false≢true e)

from_comment : (k : Stack) (s : List ℕ) → InsideComment k s → Spells k (47 ∷ 47 ∷ s)
unfolding is_blank
from_comment k s (inl p) = subst (λ (s : List ℕ). Spells k (47 ∷ 47 ∷ s)) (sym p.parts) (Spells-gap k (47 ∷ 47 ∷ p.comment) p.rest p.is_gap p.others)
from_comment k s (inr p) = gap_spells k (47 ∷ 47 ∷ s) p.nothing p.is_gap

go_is : (lx lx' : Lex) (n n' : ℕ) (k k' : Stack) (s : List ℕ) → Go lx n k ≡ Go lx' n' k' → Completes lx' k' s → Completes lx k s
go_is lx lx' n n' k k' s e h = let l : lx ≡ lx' = cc in let m : k ≡ k' = cc in rw (l, m) h

between_back : (limit n : ℕ) (k : Stack) (b : ℕ) (lx' : Lex) (n' : ℕ) (k' : Stack) (s : List ℕ) → between limit n k b ≡ Go lx' n' k' → Completes lx' k' s → Spells k (b ∷ s)
between_back limit n k b lx' n' k' s e h = elim (chosen (is_blank b) (Go Between n k) (start limit n k b) (Go lx' n' k') e) [
  | inl c ↦ Spells-gap k (b ∷ []) s (rw c.0 refl) (go_is Between lx' n n' k k' s c.1 h)
  | inr c ↦ elim (chosen (begins k (b ∷ [])) (cond (leb (open_after n b) limit) (Go (Part (b ∷ [])) (open_after n b) k) (Fail TooDeep)) (Fail (unexpected b)) (Go lx' n' k') c.1) [
    | inr d ↦ absurd (let x = d.1 in cc)
    | inl d ↦ elim (chosen (leb (open_after n b) limit) (Go (Part (b ∷ [])) (open_after n b) k) (Fail TooDeep) (Go lx' n' k') d.1) [
      | inr f ↦ absurd (let x = f.1 in cc)
      | inl f ↦ part (go_is (Part (b ∷ [])) lx' (open_after n b) n' k k' s f.1 h)
    ]
  ]
] where
  part : Completes (Part (b ∷ [])) k s → Spells k (b ∷ s)
  part (inl p) = subst (λ (k : Stack). Spells k (b ∷ s)) (sym p.stack)
      (whole p.x p.token p.coming p.below (b ∷ s) p.rest (record { before = []; word = b ∷ p.more; parts = ap (λ (u : List ℕ). b ∷ u) p.parts; is_gap = refl; spelled = p.spelled; longest = p.longest }) p.allowed p.others)
  part (inr p) = subst (λ (u : List ℕ). Spells k u) (sym (ap (λ (u : List ℕ). b ∷ u) p.parts ∙ ap (λ (u : List ℕ). u ++ p.rest) p.slashes)) (from_comment k p.rest p.comment)

pub record Taken (k : Stack) (w : List ℕ) (k' : Stack) : Type 0 where
  pub x : Symbol
  pub below : Stack
  pub stack : k ≡ x ∷ below
  pub token : Token
  pub coming : Stack
  pub spelled : lexeme w ≡ Some token
  pub allowed : next x token ≡ Some coming
  pub after : coming ++ below ≡ k'

pub taken_parts : (k : Stack) (w : List ℕ) (k' : Stack) → taken k w ≡ Some k' → Taken k w k'
unfolding taken
taken_parts [] w k' e = absurd cc
taken_parts (x ∷ k) w k' e = go (lexeme w) refl e where
  inner : (t : Token) (o : Option Stack) → lexeme w ≡ Some t → next x t ≡ o → push o k ≡ Some k' → Taken (x ∷ k) w k'
  inner t None l a e = absurd cc
  inner t (Some ys) l a e = record { x = x; below = k; stack = refl; token = t; coming = ys; spelled = l; allowed = a; after = (let f : ◌≡◌ {A = Option Stack} (Some (ys ++ k)) (Some k') = e in cc) }

  go : (o : Option Token) → lexeme w ≡ o → push (next_of x o) k ≡ Some k' → Taken (x ∷ k) w k'
  go None l e = absurd cc
  go (Some t) l e = inner t (next x t) l refl e

finished_back : (limit n : ℕ) (w : List ℕ) (k : Stack) (o : Option Stack) (b : ℕ) (lx' : Lex) (n' : ℕ) (k' : Stack) (s : List ℕ) → taken k w ≡ o → joins w b ≡ false → finished limit n o b ≡ Go lx' n' k' → Completes lx' k' s → Completes (Part w) k (b ∷ s)
finished_back limit n w k None b lx' n' k' s t j e h = absurd cc
finished_back limit n w k (Some m) b lx' n' k' s t j e h =
    let p = taken_parts k w m t in
    inl (record { x = p.x; below = p.below; stack = p.stack; token = p.token; coming = p.coming; more = []; rest = b ∷ s; parts = refl; spelled = rw append-nil p.spelled; longest = rw append-nil j; allowed = p.allowed; others = rw p.after (between_back limit n m b lx' n' k' s e h) })

one_less : (w : List ℕ) (b : ℕ) (v : List ℕ) → (w ++ b ∷ []) ++ v ≡ w ++ b ∷ v
one_less w b v = append_assoc w (b ∷ []) v

comment_back : (k : Stack) (b : ℕ) (s : List ℕ) → eqb b 10 ≡ false → InsideComment k s → InsideComment k (b ∷ s)
comment_back k b s e (inl p) = inl (record { comment = b ∷ p.comment; rest = p.rest; parts = ap (λ (u : List ℕ). b ∷ u) p.parts; is_gap = rw e p.is_gap; others = p.others })
comment_back k b s e (inr p) = inr (record { nothing = p.nothing; is_gap = rw e p.is_gap })

pub step_back : (limit : ℕ) (lx : Lex) (n : ℕ) (k : Stack) (b : ℕ) (lx' : Lex) (n' : ℕ) (k' : Stack) (s : List ℕ) → step limit lx n k b ≡ Go lx' n' k' → Completes lx' k' s → Completes lx k (b ∷ s)
step_back limit Between n k b lx' n' k' s e h = between_back limit n k b lx' n' k' s e h
step_back limit InComment n k b lx' n' k' s e h = elim (chosen (eqb b 10) (Go Between n k) (Go InComment n k) (Go lx' n' k') e) [
  | inl c ↦ inl (record { comment = b ∷ []; rest = s; parts = refl; is_gap = rw c.0 refl; others = go_is Between lx' n n' k k' s c.1 h })
  | inr c ↦ comment_back k b s c.0 (go_is InComment lx' n n' k k' s c.1 h)
]
step_back limit (Part w) n k b lx' n' k' s e h = elim (chosen (joins w b) (longer w n k b) (finished limit n (taken k w) b) (Go lx' n' k') e) [
  | inr c ↦ finished_back limit n w k _ b lx' n' k' s refl c.0 c.1 h
  | inl c ↦ elim (chosen (same (w ++ b ∷ []) comment_start) (Go InComment n k) (cond (begins k (w ++ b ∷ [])) (Go (Part (w ++ b ∷ [])) n k) (Fail (kind_in w b))) (Go lx' n' k') c.1) [
    | inl d ↦ inr (record { more = b ∷ []; rest = s; parts = refl; slashes = same_is _ _ d.0; comment = go_is InComment lx' n n' k k' s d.1 h })
    | inr d ↦ elim (chosen (begins k (w ++ b ∷ [])) (Go (Part (w ++ b ∷ [])) n k) (Fail (kind_in w b)) (Go lx' n' k') d.1) [
      | inr f ↦ absurd (let x = f.1 in cc)
      | inl f ↦ part (go_is (Part (w ++ b ∷ [])) lx' n n' k k' s f.1 h)
    ]
  ]
] where
  part : Completes (Part (w ++ b ∷ [])) k s → Completes (Part w) k (b ∷ s)
  part (inl p) = inl (record {
    x = p.x;
    below = p.below;
    stack = p.stack;
    token = p.token;
    coming = p.coming;
    more = b ∷ p.more;
    rest = p.rest;
    parts = ap (λ (u : List ℕ). b ∷ u) p.parts;
    spelled = ap lexeme (sym (one_less w b p.more)) ∙ p.spelled;
    longest = subst (λ (u : List ℕ). IsLongest u p.rest) (one_less w b p.more) p.longest;
    allowed = p.allowed;
    others = p.others;
  })
  part (inr p) = inr (record { more = b ∷ p.more; rest = p.rest; parts = ap (λ (u : List ℕ). b ∷ u) p.parts; slashes = sym (one_less w b p.more) ∙ p.slashes; comment = p.comment })

-- where the text may end, nothing completes the state
pub end_completes : (lx : Lex) (k : Stack) → may_end lx k ≡ true → Completes lx k []
end_completes Between k e = gap_spells k [] e refl
end_completes InComment k e = inr (record { nothing = e; is_gap = refl })
end_completes (Part w) k e = go (taken k w) refl e where
  go : (o : Option Stack) → taken k w ≡ o → has_ended o ≡ true → Completes (Part w) k []
  go None t e = absurd (false≢true e)
  go (Some m) t e =
      let p = taken_parts k w m t in
      inl (record { x = p.x; below = p.below; stack = p.stack; token = p.token; coming = p.coming; more = []; rest = []; parts = refl; spelled = rw append-nil p.spelled; longest = tt; allowed = p.allowed; others = rw p.after (gap_spells m [] e refl) })
