-- The machine goes over a whole text to its end, where the limit is high enough.
use Rattle.std.proofs.Common.{◌≡◌, ℕ, zero, suc, ◌+◌, ◌<◌, ◌≤◌, Bool, true, false, not, ◌&&◌, cond, List, [], ◌∷◌, ◌++◌, length, Option, Some, None, refl, ap, ◌∙◌, arith, inl, inr}
use Rattle.std.proofs.lemmas.Bool.{true≢false, false≢true, and_parts, cases_Bool, not-true}
use Rattle.std.proofs.lemmas.List.{length-append}
use Rattle.lb_syntax.specs.Tree.{Procedure}
use Rattle.lb_spelling.specs.declared.symbol.Symbol.{Symbol}
use Rattle.lb_spelling.specs.declared.symbol.Symbol.TheVariants as symbols
use Rattle.lb_spelling.specs.Tokens.{Token, Numeral, Fn, Stands, Outside, lexeme}
use Rattle.lb_spelling.specs.Grammar.{IsText}
use Rattle.lb_spelling.specs.InternalMachine.{Stack, next, may_be_none, Between, Whole, run, is_open, is_close, opened}
use Rattle.lb_spelling.proofs.Lexing.{empty_lexeme}
use Rattle.lb_spelling.proofs.Running.{token_runs, gap_ends}
use Rattle.lb_spelling.proofs.Back.{Spells, first}

-- ---- each token is some bytes, and opens one bracket at most

word_some : (t : Token) (w : List ℕ) → lexeme w ≡ Some t → 0 < length w
word_some t [] e = absurd (empty_lexeme t e)
word_some t (b ∷ w) e = omega arith

pub token_less : (t : Token) (s r : List ℕ) → Stands t s r → length r < length s
token_less t s r p = let h = word_some t p.word p.spelled in omega (arith, ap (λ (u : List ℕ). length u) p.parts, length-append p.before (p.word ++ r), length-append p.word r)

pub opened_few : (t : Token) (n : ℕ) → opened t n ≤ n + 1
opened_few t n = elim (cases_Bool (is_open t)) [
  | inl h ↦ rw h (omega arith)
  | inr h ↦ elim (cases_Bool (is_close t)) [
    | inl g ↦ rw (h, g) (omega arith)
    | inr g ↦ rw (h, g) (omega arith)
  ]
]

-- ---- functions stand at the bottom of the stack alone

abbrev solid : Stack → Bool
solid [] = true
solid (x ∷ k) = not (may_be_none x) && solid k

abbrev solid_option : Option Stack → Bool
solid_option None = true
solid_option (Some ys) = solid ys

abbrev is_nothing : Stack → Bool
is_nothing [] = true
is_nothing (x ∷ k) = false

abbrev pub bottom : Stack → Bool
bottom [] = true
bottom (x ∷ k) = cond (may_be_none x) (is_nothing k) (bottom k)

solid_next : (x : Symbol) (t : Token) → may_be_none x ≡ false → solid_option (next x t) ≡ true
solid_next symbols.Functions t e = absurd (true≢false e)
solid_next symbols.Names (Numeral n) e = refl
solid_next symbols.Names _ e = refl
solid_next symbols.MoreNames (Numeral n) e = refl
solid_next symbols.MoreNames _ e = refl
solid_next symbols.Results (Numeral n) e = refl
solid_next symbols.Results _ e = refl
solid_next symbols.Block (Numeral n) e = refl
solid_next symbols.Block _ e = refl
solid_next symbols.Commands (Numeral n) e = refl
solid_next symbols.Commands _ e = refl
solid_next symbols.AfterIf (Numeral n) e = refl
solid_next symbols.AfterIf _ e = refl
solid_next symbols.AfterName (Numeral n) e = refl
solid_next symbols.AfterName _ e = refl
solid_next symbols.MoreTargets (Numeral n) e = refl
solid_next symbols.MoreTargets _ e = refl
solid_next symbols.Source (Numeral n) e = refl
solid_next symbols.Source _ e = refl
solid_next symbols.AfterSource (Numeral n) e = refl
solid_next symbols.AfterSource _ e = refl
solid_next symbols.Callee (Numeral n) e = refl
solid_next symbols.Callee _ e = refl
solid_next symbols.Arguments (Numeral n) e = refl
solid_next symbols.Arguments _ e = refl
solid_next symbols.MoreArguments (Numeral n) e = refl
solid_next symbols.MoreArguments _ e = refl
solid_next symbols.Expr (Numeral n) e = refl
solid_next symbols.Expr _ e = refl
solid_next symbols.Sign (Numeral n) e = refl
solid_next symbols.Sign _ e = refl
solid_next symbols.Name (Numeral n) e = refl
solid_next symbols.Name _ e = refl
solid_next symbols.Number (Numeral n) e = refl
solid_next symbols.Number _ e = refl
solid_next symbols.OpenParen (Numeral n) e = refl
solid_next symbols.OpenParen _ e = refl
solid_next symbols.CloseParen (Numeral n) e = refl
solid_next symbols.CloseParen _ e = refl
solid_next symbols.Comma (Numeral n) e = refl
solid_next symbols.Comma _ e = refl
solid_next symbols.Semicolon (Numeral n) e = refl
solid_next symbols.Semicolon _ e = refl
solid_next symbols.As (Numeral n) e = refl
solid_next symbols.As _ e = refl

solid_bottom : (ys k : Stack) → solid ys ≡ true → bottom (ys ++ k) ≡ bottom k
solid_bottom [] k e = refl
solid_bottom (y ∷ ys) k e = let p = and_parts (not (may_be_none y)) (solid ys) e in rw (not-true _ p.0) (solid_bottom ys k p.1)

functions_bottom : (t : Token) (ys k : Stack) → next symbols.Functions t ≡ Some ys → is_nothing k ≡ true → bottom (ys ++ k) ≡ true
functions_bottom Fn ys [] a e = let is : ys ≡ symbols.Name ∷ symbols.OpenParen ∷ symbols.Names ∷ symbols.Results ∷ symbols.Functions ∷ [] = cc in rw is refl
functions_bottom Fn ys (x ∷ k) a e = absurd (false≢true e)
functions_bottom _ ys k a e = absurd cc

bottom_next : (x : Symbol) (t : Token) (ys k : Stack) → next x t ≡ Some ys → bottom (x ∷ k) ≡ true → bottom (ys ++ k) ≡ true
bottom_next x t ys k a e = elim (cases_Bool (may_be_none x)) [
  | inr h ↦ (let s : solid ys ≡ true = (let g = solid_next x t h in rw a at g) in solid_bottom ys k s ∙ (rw h at e))
  | inl h ↦ only x a h e
] where
  only : (x : Symbol) → next x t ≡ Some ys → may_be_none x ≡ true → bottom (x ∷ k) ≡ true → bottom (ys ++ k) ≡ true
  only symbols.Functions a h e = functions_bottom t ys k a e
  only _ a h e = absurd (false≢true h)

-- ---- what is spelled is gone over

no_more : (x : Symbol) (k : Stack) (s : List ℕ) (n limit : ℕ) → n ≤ limit → bottom (x ∷ k) ≡ true → x ≡ symbols.Functions → Spells k s → run limit s Between n (x ∷ k) ≡ Whole
no_more x [] s n limit h b is p = gap_ends s Outside limit n (x ∷ []) (rw is refl) h p
no_more x (y ∷ k) s n limit h b is p = absurd (false≢true (rw is at b))

abbrev Again : List ℕ → ℕ → Type 0
Again s limit = (mid : List ℕ) (k : Stack) (n : ℕ) → length mid < length s → n + length mid ≤ limit → bottom k ≡ true → Spells k mid → run limit mid Between n k ≡ Whole

goes_on : (s : List ℕ) (limit : ℕ) → Again s limit → (k : Stack) (n : ℕ) → n + length s ≤ limit → bottom k ≡ true → Spells k s → run limit s Between n k ≡ Whole
goes_on s limit again [] n h b p = gap_ends s Outside limit n [] refl (omega arith) p
goes_on s limit again (x ∷ k) n h b p = elim (first x k s p) [
  | inr f ↦ no_more x k s n limit (omega arith) b f.0 f.1
  | inl f ↦ (let less = token_less f.token s f.mid f.stands in let few = opened_few f.token n in
      token_runs f.token s f.mid limit n x f.coming k f.stands f.allowed (omega arith) (omega arith)
      ∙ again f.mid (f.coming ++ k) (opened f.token n) less (omega arith) (bottom_next x f.token f.coming k f.allowed b) f.others)
]

pub spells_runs : (m : ℕ) (s : List ℕ) (limit : ℕ) → length s ≤ m → (k : Stack) (n : ℕ) → n + length s ≤ limit → bottom k ≡ true → Spells k s → run limit s Between n k ≡ Whole
spells_runs zero s limit l k n h b p = goes_on s limit (λ mid k n less. absurd (omega arith)) k n h b p
spells_runs (suc m) s limit l k n h b p = goes_on s limit (λ mid k n less h b p. spells_runs m mid limit (omega arith) k n h b p) k n h b p

abbrev pub whole_stack : Stack
whole_stack = symbols.Functions ∷ []

pub text_runs : (p : List Procedure) (s : List ℕ) (limit : ℕ) → length s ≤ limit → IsText p s → run limit s Between 0 whole_stack ≡ Whole
text_runs p s limit h (rest, fs, g) = spells_runs (length s) s limit (omega arith) whole_stack 0 (omega arith) refl (rest, (p, fs), g)
