-- The byte machine goes over blanks, comments, and whole tokens.
use Rattle.std.proofs.Common.{◌≡◌, ℕ, ◌≤◌, true, false, ◌&&◌, List, [], ◌∷◌, ◌++◌, length, Option, Some, refl, sym, ap, ◌∙◌, append_assoc, append-nil, inl, inr, eqb}
use Rattle.std.specs.Prelude.{is_some}
use Rattle.std.proofs.lemmas.Bool.{and_parts, or_left, or_right, le-leb, eqb-true}
use Rattle.lb_syntax.specs.Brackets.{open_after}
use Rattle.lb_spelling.specs.declared.symbol.Symbol.{Symbol}
use Rattle.lb_spelling.specs.declared.fault.TextKind.{TextKind}
use Rattle.lb_spelling.specs.Tokens.{Token, Stands, Mode, Outside, Slash, Comment, gap, IsLongest, is_blank, is_word_byte, lexeme, joins, begins_with, same, comment_start}
use Rattle.lb_spelling.specs.InternalMachine.{Stack, next, taken, begins, begins_one, Lex, Between, InComment, Part, Step, Go, Fail, Whole, ended, Stuck, run, step, after, has_ended, opened, ends}
use Rattle.lb_spelling.proofs.Words.{chosen, not_blank_above}
use Rattle.lb_spelling.proofs.Lexing.{empty_lexeme, begins_front, joins_front, no_comment_front, Head, head}
pub use Rattle.lb_spelling.proofs.Words.{false_from}

pub run_step : (limit : ℕ) (b : ℕ) (s : List ℕ) (lx : Lex) (n : ℕ) (k : Stack) (lx' : Lex) (n' : ℕ) (k' : Stack) → step limit lx n k b ≡ Go lx' n' k' → run limit (b ∷ s) lx n k ≡ run limit s lx' n' k'
run_step limit b s lx n k lx' n' k' e = ap (λ (st : Step). after st (run limit s) (length (b ∷ s))) e

pub run_fail : (limit : ℕ) (b : ℕ) (s : List ℕ) (lx : Lex) (n : ℕ) (k : Stack) (kind : TextKind) → step limit lx n k b ≡ Fail kind → run limit (b ∷ s) lx n k ≡ Stuck kind (length (b ∷ s))
run_fail limit b s lx n k kind e = ap (λ (st : Step). after st (run limit s) (length (b ∷ s))) e

-- ---- blanks and comments

abbrev pub lex_of : Mode → Lex
lex_of Outside = Between
lex_of Slash = Part (47 ∷ [])
lex_of Comment = InComment

slash_begins : (k : Stack) → begins k (47 ∷ []) ≡ true
unfolding begins_with
slash_begins [] = refl
slash_begins (x ∷ k) = or_right (begins_one x (47 ∷ [])) _ refl

pub slash_step : (limit n : ℕ) (k : Stack) → n ≤ limit → step limit Between n k 47 ≡ Go (Part (47 ∷ [])) n k
unfolding is_blank
slash_step limit n k h = rw (slash_begins k) (rw (le-leb n limit h) refl)

pub comment_step : (limit n : ℕ) (k : Stack) → step limit (Part (47 ∷ [])) n k 47 ≡ Go InComment n k
unfolding joins same begins_with is_word_byte
comment_step limit n k = refl

pub gap_runs : (g : List ℕ) (m : Mode) (s : List ℕ) (limit n : ℕ) (k : Stack) → n ≤ limit → gap false m g ≡ true → run limit (g ++ s) (lex_of m) n k ≡ run limit s Between n k
gap_runs [] Outside s limit n k h e = refl
gap_runs [] Slash s limit n k h e = absurd cc
gap_runs [] Comment s limit n k h e = absurd cc
gap_runs (b ∷ g) Outside s limit n k h e = elim (chosen (is_blank b) (gap false Outside g) (eqb b 47 && gap false Slash g) true e) [
  | inl c ↦ run_step limit b (g ++ s) Between n k Between n k (rw c.0 refl) ∙ gap_runs g Outside s limit n k h c.1
  | inr c ↦ (let p = and_parts (eqb b 47) (gap false Slash g) c.1 in
      let is : b ≡ 47 = eqb-true b 47 p.0 in
      run_step limit b (g ++ s) Between n k (Part (47 ∷ [])) n k (rw is (slash_step limit n k h)) ∙ gap_runs g Slash s limit n k h p.1)
]
gap_runs (b ∷ g) Slash s limit n k h e =
    let p = and_parts (eqb b 47) (gap false Comment g) e in
    let is : b ≡ 47 = eqb-true b 47 p.0 in
    run_step limit b (g ++ s) (Part (47 ∷ [])) n k InComment n k (rw is (comment_step limit n k)) ∙ gap_runs g Comment s limit n k h p.1
gap_runs (b ∷ g) Comment s limit n k h e = elim (chosen (eqb b 10) (gap false Outside g) (gap false Comment g) true e) [
  | inl c ↦ run_step limit b (g ++ s) InComment n k Between n k (rw c.0 refl) ∙ gap_runs g Outside s limit n k h c.1
  | inr c ↦ run_step limit b (g ++ s) InComment n k InComment n k (rw c.0 refl) ∙ gap_runs g Comment s limit n k h c.1
]

-- blanks and comments to the end of the text
pub gap_ends : (g : List ℕ) (m : Mode) (limit n : ℕ) (k : Stack) → ends k ≡ true → n ≤ limit → gap true m g ≡ true → run limit g (lex_of m) n k ≡ Whole
gap_ends [] Outside limit n k z h e = ap ended z
gap_ends [] Slash limit n k z h e = absurd cc
gap_ends [] Comment limit n k z h e = ap ended z
gap_ends (b ∷ g) Outside limit n k z h e = elim (chosen (is_blank b) (gap true Outside g) (eqb b 47 && gap true Slash g) true e) [
  | inl c ↦ run_step limit b g Between n k Between n k (rw c.0 refl) ∙ gap_ends g Outside limit n k z h c.1
  | inr c ↦ (let p = and_parts (eqb b 47) (gap true Slash g) c.1 in
      let is : b ≡ 47 = eqb-true b 47 p.0 in
      run_step limit b g Between n k (Part (47 ∷ [])) n k (rw is (slash_step limit n k h)) ∙ gap_ends g Slash limit n k z h p.1)
]
gap_ends (b ∷ g) Slash limit n k z h e =
    let p = and_parts (eqb b 47) (gap true Comment g) e in
    let is : b ≡ 47 = eqb-true b 47 p.0 in
    run_step limit b g (Part (47 ∷ [])) n k InComment n k (rw is (comment_step limit n k)) ∙ gap_ends g Comment limit n k z h p.1
gap_ends (b ∷ g) Comment limit n k z h e = elim (chosen (eqb b 10) (gap true Outside g) (gap true Comment g) true e) [
  | inl c ↦ run_step limit b g InComment n k Between n k (rw c.0 refl) ∙ gap_ends g Outside limit n k z h c.1
  | inr c ↦ run_step limit b g InComment n k InComment n k (rw c.0 refl) ∙ gap_ends g Comment limit n k z h c.1
]

-- ---- a token

pub begins_at : (x : Symbol) (k : Stack) (a : ℕ) (u v : List ℕ) (t : Token) → lexeme (a ∷ u ++ v) ≡ Some t → is_some (next x t) ≡ true → begins (x ∷ k) (a ∷ u) ≡ true
begins_at x k a u v t e allowed = or_left (begins_one x (a ∷ u)) _ (begins_front x a u v t e allowed)

pub word_runs : (v : List ℕ) (a : ℕ) (u rest : List ℕ) (limit n : ℕ) (x : Symbol) (k : Stack) (t : Token) → lexeme (a ∷ u ++ v) ≡ Some t → is_some (next x t) ≡ true
    → run limit (v ++ rest) (Part (a ∷ u)) n (x ∷ k) ≡ run limit rest (Part (a ∷ u ++ v)) n (x ∷ k)
word_runs [] a u rest limit n x k t e allowed = rw append-nil refl
word_runs (b ∷ v) a u rest limit n x k t e allowed =
    let regroup : a ∷ u ++ b ∷ v ≡ (a ∷ u ++ b ∷ []) ++ v = sym (append_assoc (a ∷ u) (b ∷ []) v) in
    let e' : lexeme (a ∷ (u ++ b ∷ []) ++ v) ≡ Some t = ap lexeme (sym regroup) ∙ e in
    let j : joins (a ∷ u) b ≡ true = joins_front a u b v t e in
    let c : same (a ∷ u ++ b ∷ []) comment_start ≡ false = false_from _ (no_comment_front a u b v t e) in
    let g : begins (x ∷ k) (a ∷ (u ++ b ∷ [])) ≡ true = begins_at x k a (u ++ b ∷ []) v t e' allowed in
    let st : step limit (Part (a ∷ u)) n (x ∷ k) b ≡ Go (Part (a ∷ u ++ b ∷ [])) n (x ∷ k) = rw j (rw c (rw g refl)) in
    run_step limit b (v ++ rest) (Part (a ∷ u)) n (x ∷ k) _ _ _ st
    ∙ word_runs v a (u ++ b ∷ []) rest limit n x k t e' allowed
    ∙ ap (λ (w : List ℕ). run limit rest (Part w) n (x ∷ k)) (sym regroup)

pub end_runs : (w rest : List ℕ) (limit n : ℕ) (k k' : Stack) → IsLongest w rest → taken k w ≡ Some k' → run limit rest (Part w) n k ≡ run limit rest Between n k'
end_runs w [] limit n k k' longest e = ap (λ (o : Option Stack). ended (has_ended o)) e
end_runs w (b ∷ rest) limit n k k' longest e = rw longest (rw e refl)

pub taken_is : (x : Symbol) (k ys : Stack) (w : List ℕ) (t : Token) → lexeme w ≡ Some t → next x t ≡ Some ys → taken (x ∷ k) w ≡ Some (ys ++ k)
unfolding taken
taken_is x k ys w t e a = rw e (rw a refl)

pub count_is : (b n : ℕ) (t : Token) → Head b t → open_after n b ≡ opened t n
count_is b n t h = rw (h.opens, h.closes) refl

pub token_runs : (t : Token) (s rest : List ℕ) (limit n : ℕ) (x : Symbol) (ys k : Stack) → Stands t s rest → next x t ≡ Some ys → n ≤ limit → opened t n ≤ limit
    → run limit s Between n (x ∷ k) ≡ run limit rest Between (opened t n) (ys ++ k)
token_runs t s rest limit n x ys k st a h h' = ap (λ (s : List ℕ). run limit s Between n (x ∷ k)) st.parts ∙ (gap_runs st.before Outside (st.word ++ rest) limit n (x ∷ k) h st.is_gap ∙ go st.word st.spelled st.longest) where
  allowed : is_some (next x t) ≡ true
  allowed = rw a refl

  go : (w : List ℕ) → lexeme w ≡ Some t → IsLongest w rest → run limit (w ++ rest) Between n (x ∷ k) ≡ run limit rest Between (opened t n) (ys ++ k)
  go [] e longest = absurd (empty_lexeme t e)
  go (b ∷ v) e longest =
      let hd = head b v t e in
      let nb : is_blank b ≡ false = not_blank_above b hd.above in
      let g : begins (x ∷ k) (b ∷ []) ≡ true = begins_at x k b [] v t e allowed in
      let c : open_after n b ≡ opened t n = count_is b n t hd in
      let st : step limit Between n (x ∷ k) b ≡ Go (Part (b ∷ [])) (opened t n) (x ∷ k) = rw nb (rw g (rw c (rw (le-leb _ _ h') refl))) in
      run_step limit b (v ++ rest) Between n (x ∷ k) _ _ _ st
      ∙ word_runs v b [] rest limit (opened t n) x k t e allowed
      ∙ end_runs (b ∷ v) rest limit (opened t n) (x ∷ k) (ys ++ k) longest (taken_is x k ys (b ∷ v) t e a)
