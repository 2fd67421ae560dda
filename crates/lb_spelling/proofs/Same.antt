-- A text is the text of one program.
use Rattle.std.proofs.Common.{◌≡◌, ℕ, true, List, [], ◌∷◌, refl, sym, ap, subst, ◌∙◌, inl, inr}
use Rattle.lb_syntax.specs.Names.{Text}
use Rattle.lb_syntax.specs.Tree.{Term, Number, Variable, Loaded, Operation, Procedure}
use Rattle.lb_syntax.specs.Tree.{Command, Skips, Sets, Unsets, Stores, Allocates, Chooses, Repeats, Calls, Interacts, Ends, Then}
use Rattle.lb_spelling.specs.Tokens.{Token, Numeral, Named, Fn, If, Else, While, Skip, Unset, StackAlloc, As, Load, Store, Device, OpenParen, CloseParen, OpenBrace, CloseBrace, Comma, Semicolon, Becomes, Arrow, Sign, Stands, Outside, gap}
use Rattle.lb_spelling.specs.Grammar.{Standing, ◌then◌, TermAt, MoreAt, ListAt, NameAt, CommandsAt, BlockAt, ElseAt, ResultsAt, FunctionAt, FunctionsAt, IsText}
use Rattle.lb_spelling.proofs.Back.{Callee, Function, Access, callee_token, applied_to, AppliedAt}
use Rattle.lb_spelling.proofs.SameToken.{stands_same, other_token, no_token}

-- where P and P' stand at one place, E holds and they end at one place
abbrev Both : Standing → Standing → Type 0 → Type 0
Both P P' E = (s r r' : List ℕ) → P s r → P' s r' → E × (r ≡ r')

both_then : {P P' Q Q' : Standing} {E F : Type 0} → Both P P' E → Both Q Q' F → Both (P then Q) (P' then Q') (E × F)
both_then {Q' = Q'} f g s r r' (m, p, q) (m', p', q') =
    let h = f s m m' p p' in
    let k = g m r r' q (subst (λ (u : List ℕ). Q' u r') (sym h.1) q') in
    ((h.0, k.0), k.1)

abbrev Never : Standing → Standing → Type 0
Never P P' = (s r r' : List ℕ) → P s r → P' s r' → ⊥

tokens : (t t' : Token) → Both (Stands t) (Stands t') (t ≡ t')
tokens t t' s r r' p q = stands_same t t' s r r' p q

token : (t : Token) → Both (Stands t) (Stands t) (t ≡ t)
token t = tokens t t

names : (x x' : Text) → Both (NameAt x) (NameAt x') (x ≡ x')
names x x' s r r' p q = let h = stands_same (Named x) (Named x') s r r' p q in let i : Named x ≡ Named x' = h.0 in (cc, h.1)

-- ---- expressions

terms : (e e' : Term) → Both (TermAt e) (TermAt e') (e ≡ e')
terms (Number n) (Number n') s r r' p q = let h = stands_same (Numeral n) (Numeral n') s r r' p q in let i : Numeral n ≡ Numeral n' = h.0 in (cc, h.1)
terms (Number n) (Variable x) s r r' p q = absurd (other_token (Numeral n) (Named x) s r r' (λ e. cc) p q)
terms (Number n) (Loaded w a) s r r' p q = absurd (other_token (Numeral n) (Load w) s r q.0 (λ e. cc) p q.1)
terms (Number n) (Operation o a b) s r r' p q = absurd (other_token (Numeral n) OpenParen s r q.0 (λ e. cc) p q.1)
terms (Variable x) (Number n) s r r' p q = absurd (other_token (Named x) (Numeral n) s r r' (λ e. cc) p q)
terms (Variable x) (Variable x') s r r' p q = let h = names x x' s r r' p q in let i : x ≡ x' = h.0 in (cc, h.1)
terms (Variable x) (Loaded w a) s r r' p q = absurd (other_token (Named x) (Load w) s r q.0 (λ e. cc) p q.1)
terms (Variable x) (Operation o a b) s r r' p q = absurd (other_token (Named x) OpenParen s r q.0 (λ e. cc) p q.1)
terms (Loaded w a) (Number n) s r r' p q = absurd (other_token (Load w) (Numeral n) s p.0 r' (λ e. cc) p.1 q)
terms (Loaded w a) (Variable x) s r r' p q = absurd (other_token (Load w) (Named x) s p.0 r' (λ e. cc) p.1 q)
terms (Loaded w a) (Loaded w' a') s r r' p q =
    let h = both_then (tokens (Load w) (Load w')) (both_then (token OpenParen) (both_then (terms a a') (token CloseParen))) s r r' p q in
    let i : Load w ≡ Load w' = h.0.0 in let j : a ≡ a' = h.0.1.1.0 in (cc, h.1)
terms (Loaded w a) (Operation o b c) s r r' p q = absurd (other_token (Load w) OpenParen s p.0 q.0 (λ e. cc) p.1 q.1)
terms (Operation o a b) (Number n) s r r' p q = absurd (other_token OpenParen (Numeral n) s p.0 r' (λ e. cc) p.1 q)
terms (Operation o a b) (Variable x) s r r' p q = absurd (other_token OpenParen (Named x) s p.0 r' (λ e. cc) p.1 q)
terms (Operation o a b) (Loaded w c) s r r' p q = absurd (other_token OpenParen (Load w) s p.0 q.0 (λ e. cc) p.1 q.1)
terms (Operation o a b) (Operation o' a' b') s r r' p q =
    let h = both_then (token OpenParen) (both_then (terms a a') (both_then (tokens (Sign o) (Sign o')) (both_then (terms b b') (token CloseParen)))) s r r' p q in
    let i : a ≡ a' = h.0.1.0 in let j : Sign o ≡ Sign o' = h.0.1.1.0 in let k : b ≡ b' = h.0.1.1.1.0 in (cc, h.1)

-- ---- lists

module _ {A : Type 0} (P : A → Standing) (one : (x x' : A) → Both (P x) (P x') (x ≡ x')) where
  -- each behind a comma, up to a token that is none
  more_same : (end : Token) → (Comma ≡ end → ⊥) → (xs xs' : List A) → Both (MoreAt P xs then Stands end) (MoreAt P xs' then Stands end) (xs ≡ xs')
  more_same end apart [] [] s r r' (m, e, p) (m', e', p') = (refl, (stands_same end end s r r' (rw e p) (rw e' p')).1)
  more_same end apart [] (x ∷ xs) s r r' (m, e, p) (m', (m1, q, q'), p') = absurd (other_token Comma end s m1 r apart q (rw e p))
  more_same end apart (x ∷ xs) [] s r r' (m', (m1, q, q'), p') (m, e, p) = absurd (other_token Comma end s m1 r' apart q (rw e p))
  more_same end apart (x ∷ xs) (x' ∷ xs') s r r' (m, (m1, p1, (m2, p2, p3)), p4) (n, (n1, q1, (n2, q2, q3)), q4) =
      let h = both_then (token Comma) (both_then (one x x') (more_same end apart xs xs')) s r r' (m1, p1, (m2, p2, (m, p3, p4))) (n1, q1, (n2, q2, (n, q3, q4))) in
      let i : x ≡ x' = h.0.1.0 in let j : xs ≡ xs' = h.0.1.1 in (cc, h.1)

  -- a list up to a bracket that closes it
  list_same : ((x : A) → Never (P x) (Stands CloseParen)) → (xs xs' : List A) → Both (ListAt P xs then Stands CloseParen) (ListAt P xs' then Stands CloseParen) (xs ≡ xs')
  list_same apart [] [] s r r' (m, e, p) (m', e', p') = (refl, (stands_same CloseParen CloseParen s r r' (rw e p) (rw e' p')).1)
  list_same apart [] (x ∷ xs) s r r' (m, e, p) (m', (m1, q, q'), p') = absurd (apart x s m1 r q (rw e p))
  list_same apart (x ∷ xs) [] s r r' (m', (m1, q, q'), p') (m, e, p) = absurd (apart x s m1 r' q (rw e p))
  list_same apart (x ∷ xs) (x' ∷ xs') s r r' (m, (m1, p1, p2), p3) (n, (n1, q1, q2), q3) =
      let h = both_then (one x x') (more_same CloseParen (λ e. cc) xs xs') s r r' (m1, p1, (m, p2, p3)) (n1, q1, (n, q2, q3)) in
      let i : x ≡ x' = h.0.0 in let j : xs ≡ xs' = h.0.1 in (cc, h.1)

name_not_close : (x : Text) → Never (NameAt x) (Stands CloseParen)
name_not_close x s r r' p q = other_token (Named x) CloseParen s r r' (λ e. cc) p q

term_not_close : (e : Term) → Never (TermAt e) (Stands CloseParen)
term_not_close (Number n) s r r' p q = other_token (Numeral n) CloseParen s r r' (λ e. cc) p q
term_not_close (Variable x) s r r' p q = other_token (Named x) CloseParen s r r' (λ e. cc) p q
term_not_close (Loaded w a) s r r' p q = other_token (Load w) CloseParen s p.0 r' (λ e. cc) p.1 q
term_not_close (Operation o a b) s r r' p q = other_token OpenParen CloseParen s p.0 r' (λ e. cc) p.1 q

applied_same : (es es' : List Term) → Both (AppliedAt es) (AppliedAt es') (es ≡ es')
applied_same es es' s r r' (m1, p1, (m2, p2, (m3, p3, p4))) (n1, q1, (n2, q2, (n3, q3, q4))) =
    let h = both_then (token OpenParen) (both_then (list_same TermAt terms term_not_close es es') (token Semicolon)) s r r' (m1, p1, (m3, (m2, p2, p3), p4)) (n1, q1, (n3, (n2, q2, q3), q4)) in
    (h.0.1.0, h.1)

-- ---- commands that begin with a name, from behind it on

data Tail : Type 0 where
  Value : (e : Term) → Tail
  Result : (xs : List Text) (c : Callee) (es : List Term) → Tail
  Applied : (es : List Term) → Tail

abbrev attach : Text → Tail → Command
attach x (Value e) = Sets x e
attach x (Result xs c es) = applied_to (x ∷ xs) c es
attach x (Applied es) = Calls [] x es

abbrev TailAt : Tail → Standing
TailAt (Value e) = Stands Becomes then TermAt e then Stands Semicolon
TailAt (Result xs c es) = (MoreAt NameAt xs then Stands Becomes) then Stands (callee_token c) then AppliedAt es
TailAt (Applied es) = AppliedAt es

-- an expression that ends a command begins as no call does
no_call : (e : Term) (c : Callee) (es : List Term) → Never (TermAt e then Stands Semicolon) (Stands (callee_token c) then AppliedAt es)
no_call (Number n) (Function f) es s r r' (m, p, p') (m', q, q') = other_token (Numeral n) (Named f) s m m' (λ e. cc) p q
no_call (Number n) (Access k) es s r r' (m, p, p') (m', q, q') = other_token (Numeral n) (Device k) s m m' (λ e. cc) p q
no_call (Variable x) (Function f) es s r r' (m, p, p') (m', q, (m1, q1, q2)) =
    let h = stands_same (Named x) (Named f) s m m' p q in
    other_token Semicolon OpenParen m r m1 (λ e. cc) p' (rw h.1 q1)
no_call (Variable x) (Access k) es s r r' (m, p, p') (m', q, q') = other_token (Named x) (Device k) s m m' (λ e. cc) p q
no_call (Loaded w a) (Function f) es s r r' (m, p, p') (m', q, q') = other_token (Load w) (Named f) s p.0 m' (λ e. cc) p.1 q
no_call (Loaded w a) (Access k) es s r r' (m, p, p') (m', q, q') = other_token (Load w) (Device k) s p.0 m' (λ e. cc) p.1 q
no_call (Operation o a b) (Function f) es s r r' (m, p, p') (m', q, q') = other_token OpenParen (Named f) s p.0 m' (λ e. cc) p.1 q
no_call (Operation o a b) (Access k) es s r r' (m, p, p') (m', q, q') = other_token OpenParen (Device k) s p.0 m' (λ e. cc) p.1 q

callee_same : (c c' : Callee) → Both (Stands (callee_token c)) (Stands (callee_token c')) (c ≡ c')
callee_same (Function f) (Function f') s r r' p q = let h = names f f' s r r' p q in let i : f ≡ f' = h.0 in (cc, h.1)
callee_same (Function f) (Access k) s r r' p q = absurd (other_token (Named f) (Device k) s r r' (λ e. cc) p q)
callee_same (Access k) (Function f) s r r' p q = absurd (other_token (Device k) (Named f) s r r' (λ e. cc) p q)
callee_same (Access k) (Access k') s r r' p q = let h = stands_same (Device k) (Device k') s r r' p q in let i : Device k ≡ Device k' = h.0 in (cc, h.1)

-- what follows the name tells the tails apart
value_result : (e : Term) (xs : List Text) (c : Callee) (es : List Term) → Never (TailAt (Value e)) (TailAt (Result xs c es))
value_result e [] c es s r r' (m, p, p') (m', (m1, i, q), q') =
    let h = stands_same Becomes Becomes s m m' p (rw i q) in
    no_call e c es m r r' p' (subst (λ (u : List ℕ). (Stands (callee_token c) then AppliedAt es) u r') (sym h.1) q')
value_result e (x ∷ xs) c es s r r' (m, p, p') (m', (m1, (m2, q, _), _), q') = other_token Becomes Comma s m m2 (λ e. cc) p q

applied_result : (es : List Term) (xs : List Text) (c : Callee) (es' : List Term) → Never (TailAt (Applied es)) (TailAt (Result xs c es'))
applied_result es [] c es' s r r' (m, p, p') (m', (m1, i, q), q') = other_token OpenParen Becomes s m m' (λ e. cc) p (rw i q)
applied_result es (x ∷ xs) c es' s r r' (m, p, p') (m', (m1, (m2, q, _), _), q') = other_token OpenParen Comma s m m2 (λ e. cc) p q

tails : (u u' : Tail) → Both (TailAt u) (TailAt u') (u ≡ u')
tails (Value e) (Value e') s r r' p q =
    let h = both_then (token Becomes) (both_then (terms e e') (token Semicolon)) s r r' p q in let i : e ≡ e' = h.0.1.0 in (cc, h.1)
tails (Value e) (Result xs c es) s r r' p q = absurd (value_result e xs c es s r r' p q)
tails (Value e) (Applied es) s r r' p q = absurd (other_token Becomes OpenParen s p.0 q.0 (λ e. cc) p.1 q.1)
tails (Result xs c es) (Value e) s r r' p q = absurd (value_result e xs c es s r' r q p)
tails (Result xs c es) (Result xs' c' es') s r r' p q =
    let h = both_then (more_same NameAt names Becomes (λ e. cc) xs xs') (both_then (callee_same c c') (applied_same es es')) s r r' p q in
    let i : xs ≡ xs' = h.0.0 in let j : c ≡ c' = h.0.1.0 in let k : es ≡ es' = h.0.1.1 in (cc, h.1)
tails (Result xs c es) (Applied es') s r r' p q = absurd (applied_result es' xs c es s r' r q p)
tails (Applied es) (Value e) s r r' p q = absurd (other_token OpenParen Becomes s p.0 q.0 (λ e. cc) p.1 q.1)
tails (Applied es) (Result xs c es') s r r' p q = absurd (applied_result es xs c es' s r r' p q)
tails (Applied es) (Applied es') s r r' p q = let h = applied_same es es' s r r' p q in let i : es ≡ es' = h.0 in (cc, h.1)

-- ---- the commands of a block, by their first token

abbrev By : Token → Command → Standing
By CloseBrace c m r = (c ≡ Ends) × (m ≡ r)
By Skip c m r = (b : Command) × (c ≡ Then Skips b) × (Stands Semicolon then CommandsAt b) m r
By Unset c m r = (x : Text) × (b : Command) × (c ≡ Then (Unsets x) b) × (NameAt x then Stands Semicolon then CommandsAt b) m r
By (Store w) c m r = (a e : Term) × (b : Command) × (c ≡ Then (Stores w a e) b)
    × (Stands OpenParen then TermAt a then Stands Comma then TermAt e then Stands CloseParen then Stands Semicolon then CommandsAt b) m r
By StackAlloc c m r = (n : ℕ) × (x : Text) × (d b : Command) × (c ≡ Then (Allocates n x d) b) × (Stands (Numeral n) then Stands As then NameAt x then BlockAt d then CommandsAt b) m r
By If c m r = (e : Term) × (y d b : Command) × (c ≡ Then (Chooses e y d) b) × (TermAt e then BlockAt y then ElseAt d then CommandsAt b) m r
By While c m r = (e : Term) × (y b : Command) × (c ≡ Then (Repeats e y) b) × (TermAt e then BlockAt y then CommandsAt b) m r
By (Named x) c m r = (u : Tail) × (b : Command) × (c ≡ Then (attach x u) b) × (TailAt u then CommandsAt b) m r
By (Device k) c m r = (es : List Term) × (b : Command) × (c ≡ Then (Interacts [] k es) b) × (AppliedAt es then CommandsAt b) m r
By _ c m r = ⊥

-- it begins with a token
record Begun (c : Command) (s r : List ℕ) : Type 0 where
  first : Token
  mid : List ℕ
  stands : Stands first s mid
  rest : By first c mid r

begun : (c : Command) (s r : List ℕ) → CommandsAt c s r → Begun c s r
begun Ends s r p = record { first = CloseBrace; mid = r; stands = p; rest = (refl, refl) }
begun (Then Skips b) s r (m, (m1, p1, p2), q) = record { first = Skip; mid = m1; stands = p1; rest = (b, refl, (m, p2, q)) }
begun (Then (Sets x e) b) s r (m, (m1, p1, p2), q) = record { first = Named x; mid = m1; stands = p1; rest = (Value e, b, refl, (m, p2, q)) }
begun (Then (Unsets x) b) s r (m, (m1, p1, (m2, p2, p3)), q) = record { first = Unset; mid = m1; stands = p1; rest = (x, b, refl, (m2, p2, (m, p3, q))) }
begun (Then (Stores w a e) b) s r (m, (m1, p1, (m2, p2, (m3, p3, (m4, p4, (m5, p5, (m6, p6, p7)))))), q) =
    record { first = Store w; mid = m1; stands = p1; rest = (a, e, b, refl, (m2, p2, (m3, p3, (m4, p4, (m5, p5, (m6, p6, (m, p7, q))))))) }
begun (Then (Allocates n x d) b) s r (m, (m1, p1, (m2, p2, (m3, p3, (m4, p4, p5)))), q) =
    record { first = StackAlloc; mid = m1; stands = p1; rest = (n, x, d, b, refl, (m2, p2, (m3, p3, (m4, p4, (m, p5, q))))) }
begun (Then (Chooses e y d) b) s r (m, (m1, p1, (m2, p2, (m3, p3, p4))), q) = record { first = If; mid = m1; stands = p1; rest = (e, y, d, b, refl, (m2, p2, (m3, p3, (m, p4, q)))) }
begun (Then (Repeats e y) b) s r (m, (m1, p1, (m2, p2, p3)), q) = record { first = While; mid = m1; stands = p1; rest = (e, y, b, refl, (m2, p2, (m, p3, q))) }
begun (Then (Calls [] f es) b) s r (m, (m1, i, (m2, p1, p2)), q) = record { first = Named f; mid = m2; stands = rw i p1; rest = (Applied es, b, refl, (m, p2, q)) }
begun (Then (Calls (x ∷ xs) f es) b) s r (m, (m3, (m2, (m1, p1, p2), p3), p4), q) = record { first = Named x; mid = m1; stands = p1; rest = (Result xs (Function f) es, b, refl, (m, (m3, (m2, p2, p3), p4), q)) }
begun (Then (Interacts [] k es) b) s r (m, (m1, i, (m2, p1, p2)), q) = record { first = Device k; mid = m2; stands = rw i p1; rest = (es, b, refl, (m, p2, q)) }
begun (Then (Interacts (x ∷ xs) k es) b) s r (m, (m3, (m2, (m1, p1, p2), p3), p4), q) = record { first = Named x; mid = m1; stands = p1; rest = (Result xs (Access k) es, b, refl, (m, (m3, (m2, p2, p3), p4), q)) }
begun (Then Ends b) s r (m, p, q) = absurd p
begun (Then (Then c d) b) s r (m, p, q) = absurd p
begun Skips s r p = absurd p
begun (Sets x e) s r p = absurd p
begun (Unsets x) s r p = absurd p
begun (Stores w a e) s r p = absurd p
begun (Allocates n x d) s r p = absurd p
begun (Chooses e c d) s r p = absurd p
begun (Repeats e c) s r p = absurd p
begun (Calls xs f es) s r p = absurd p
begun (Interacts xs k es) s r p = absurd p

-- commands are the same as all that stand at their place
abbrev Alone : Command → Type 0
Alone c = (c' : Command) → Both (CommandsAt c) (CommandsAt c') (c ≡ c')

-- what stands at the place of commands that begin with the token t
begun_alike : (t : Token) (c' : Command) (s m r' : List ℕ) → Stands t s m → CommandsAt c' s r' → By t c' m r'
begun_alike t c' s m r' p q =
    let g = begun c' s r' q in
    let h = stands_same t g.first s m g.mid p g.stands in
    subst (λ (u : List ℕ). By t c' u r') (sym h.1) (subst (λ (u : Token). By u c' g.mid r') (sym h.0) g.rest)

blocks : (d d' : Command) → Alone d → Both (BlockAt d) (BlockAt d') (d ≡ d')
blocks d d' alone s r r' p q = let h = both_then (token OpenBrace) (alone d') s r r' p q in (h.0.1, h.1)

no_else : (b : Command) → Never (Stands Else) (CommandsAt b)
no_else b s r r' p q = begun_alike Else b s r r' p q

else_same : (d b d' b' : Command) → Alone d → Alone b → Both (ElseAt d then CommandsAt b) (ElseAt d' then CommandsAt b') ((d ≡ d') × (b ≡ b'))
else_same d b d' b' alone_d alone_b s r r' (m, inl (m1, p1, p2), q) (n, inl (n1, p1', p2'), q') =
    let h = both_then (both_then (token Else) (blocks d d' alone_d)) (alone_b b') s r r' (m, (m1, p1, p2), q) (n, (n1, p1', p2'), q') in
    ((h.0.0.1, h.0.1), h.1)
else_same d b d' b' alone_d alone_b s r r' (m, inl (m1, p1, p2), q) (n, inr (i', e'), q') = absurd (no_else b' s m1 r' p1 (rw e' q'))
else_same d b d' b' alone_d alone_b s r r' (m, inr (i, e), q) (n, inl (n1, p1', p2'), q') = absurd (no_else b s n1 r p1' (rw e q))
else_same d b d' b' alone_d alone_b s r r' (m, inr (i, e), q) (n, inr (i', e'), q') = let h = alone_b b' s r r' (rw e q) (rw e' q') in ((i ∙ sym i', h.0), h.1)

ends_alone : Alone Ends
ends_alone c' s r r' p q = let g = begun_alike CloseBrace c' s r r' p q in (sym g.0, g.1)

skips_alone : (b : Command) → Alone b → Alone (Then Skips b)
skips_alone b alone c' s r r' (m, (m1, p1, p2), q) z =
    let g = begun_alike Skip c' s m1 r' p1 z in
    let h = both_then (token Semicolon) (alone g.0) m1 r r' (m, p2, q) g.2 in
    (ap (λ (b : Command). Then Skips b) h.0.1 ∙ sym g.1, h.1)

unsets_alone : (x : Text) (b : Command) → Alone b → Alone (Then (Unsets x) b)
unsets_alone x b alone c' s r r' (m, (m1, p1, (m2, p2, p3)), q) z =
    let g = begun_alike Unset c' s m1 r' p1 z in
    let h = both_then (names x g.0) (both_then (token Semicolon) (alone g.1)) m1 r r' (m2, p2, (m, p3, q)) g.3 in
    let i : x ≡ g.0 = h.0.0 in let j : b ≡ g.1 = h.0.1.1 in let k : c' ≡ Then (Unsets g.0) g.1 = g.2 in (cc, h.1)

stores_alone : (w : _) (a e : Term) (b : Command) → Alone b → Alone (Then (Stores w a e) b)
stores_alone w a e b alone c' s r r' (m, (m1, p1, (m2, p2, (m3, p3, (m4, p4, (m5, p5, (m6, p6, p7)))))), q) z =
    let g = begun_alike (Store w) c' s m1 r' p1 z in
    let h = both_then (token OpenParen) (both_then (terms a g.0) (both_then (token Comma) (both_then (terms e g.1) (both_then (token CloseParen) (both_then (token Semicolon) (alone g.2))))))
    m1 r r' (m2, p2, (m3, p3, (m4, p4, (m5, p5, (m6, p6, (m, p7, q)))))) g.4 in
    let i : a ≡ g.0 = h.0.1.0 in let j : e ≡ g.1 = h.0.1.1.1.0 in let k : b ≡ g.2 = h.0.1.1.1.1.1.1 in let l : c' ≡ Then (Stores w g.0 g.1) g.2 = g.3 in (cc, h.1)

numbers : (n n' : ℕ) → Both (Stands (Numeral n)) (Stands (Numeral n')) (n ≡ n')
numbers n n' s r r' p q = let h = stands_same (Numeral n) (Numeral n') s r r' p q in let i : Numeral n ≡ Numeral n' = h.0 in (cc, h.1)

allocates_alone : (n : ℕ) (x : Text) (d b : Command) → Alone d → Alone b → Alone (Then (Allocates n x d) b)
allocates_alone n x d b alone_d alone_b c' s r r' (m, (m1, p1, (m2, p2, (m3, p3, (m4, p4, p5)))), q) z =
    let g = begun_alike StackAlloc c' s m1 r' p1 z in
    let h = both_then (numbers n g.0) (both_then (token As) (both_then (names x g.1) (both_then (blocks d g.2 alone_d) (alone_b g.3)))) m1 r r' (m2, p2, (m3, p3, (m4, p4, (m, p5, q)))) g.5 in
    let i : n ≡ g.0 = h.0.0 in let j : x ≡ g.1 = h.0.1.1.0 in let k : d ≡ g.2 = h.0.1.1.1.0 in let l : b ≡ g.3 = h.0.1.1.1.1 in let o : c' ≡ Then (Allocates g.0 g.1 g.2) g.3 = g.4 in (cc, h.1)

chooses_alone : (e : Term) (y d b : Command) → Alone y → Alone d → Alone b → Alone (Then (Chooses e y d) b)
chooses_alone e y d b alone_y alone_d alone_b c' s r r' (m, (m1, p1, (m2, p2, (m3, p3, p4))), q) z =
    let g = begun_alike If c' s m1 r' p1 z in
    let h = both_then (terms e g.0) (both_then (blocks y g.1 alone_y) (else_same d b g.2 g.3 alone_d alone_b)) m1 r r' (m2, p2, (m3, p3, (m, p4, q))) g.5 in
    let i : e ≡ g.0 = h.0.0 in let j : y ≡ g.1 = h.0.1.0 in let k : d ≡ g.2 = h.0.1.1.0 in let l : b ≡ g.3 = h.0.1.1.1 in let o : c' ≡ Then (Chooses g.0 g.1 g.2) g.3 = g.4 in (cc, h.1)

repeats_alone : (e : Term) (y b : Command) → Alone y → Alone b → Alone (Then (Repeats e y) b)
repeats_alone e y b alone_y alone_b c' s r r' (m, (m1, p1, (m2, p2, p3)), q) z =
    let g = begun_alike While c' s m1 r' p1 z in
    let h = both_then (terms e g.0) (both_then (blocks y g.1 alone_y) (alone_b g.2)) m1 r r' (m2, p2, (m, p3, q)) g.4 in
    let i : e ≡ g.0 = h.0.0 in let j : y ≡ g.1 = h.0.1.0 in let k : b ≡ g.2 = h.0.1.1 in let o : c' ≡ Then (Repeats g.0 g.1) g.2 = g.3 in (cc, h.1)

named_alone : (x : Text) (u : Tail) (b : Command) → Alone b → (c' : Command) (s m1 r r' : List ℕ) → Stands (Named x) s m1 → (TailAt u then CommandsAt b) m1 r → CommandsAt c' s r' → (Then (attach x u) b ≡ c') × (r ≡ r')
named_alone x u b alone c' s m1 r r' p1 q z =
    let g = begun_alike (Named x) c' s m1 r' p1 z in
    let h = both_then (tails u g.0) (alone g.1) m1 r r' q g.3 in
    let i : u ≡ g.0 = h.0.0 in let j : b ≡ g.1 = h.0.1 in
    (ap (λ (u : Tail). Then (attach x u) b) i ∙ (ap (λ (b : Command). Then (attach x g.0) b) j ∙ sym g.2), h.1)

device_alone : (k : _) (es : List Term) (b : Command) → Alone b → Alone (Then (Interacts [] k es) b)
device_alone k es b alone c' s r r' (m, (m1, e, (m2, p1, p2)), q) z =
    let g = begun_alike (Device k) c' s m2 r' (rw e p1) z in
    let h = both_then (applied_same es g.0) (alone g.1) m2 r r' (m, p2, q) g.3 in
    let i : es ≡ g.0 = h.0.0 in let j : b ≡ g.1 = h.0.1 in let l : c' ≡ Then (Interacts [] k g.0) g.1 = g.2 in (cc, h.1)

pub commands_same : (c : Command) → Alone c
commands_same Ends c' s r r' p z = ends_alone c' s r r' p z
commands_same (Then Skips b) c' s r r' p z = skips_alone b (commands_same b) c' s r r' p z
commands_same (Then (Sets x e) b) c' s r r' (m, (m1, p1, p2), q) z = named_alone x (Value e) b (commands_same b) c' s m1 r r' p1 (m, p2, q) z
commands_same (Then (Unsets x) b) c' s r r' p z = unsets_alone x b (commands_same b) c' s r r' p z
commands_same (Then (Stores w a e) b) c' s r r' p z = stores_alone w a e b (commands_same b) c' s r r' p z
commands_same (Then (Allocates n x d) b) c' s r r' p z = allocates_alone n x d b (commands_same d) (commands_same b) c' s r r' p z
commands_same (Then (Chooses e y d) b) c' s r r' p z = chooses_alone e y d b (commands_same y) (commands_same d) (commands_same b) c' s r r' p z
commands_same (Then (Repeats e y) b) c' s r r' p z = repeats_alone e y b (commands_same y) (commands_same b) c' s r r' p z
commands_same (Then (Calls [] f es) b) c' s r r' (m, (m1, i, (m2, p1, p2)), q) z = named_alone f (Applied es) b (commands_same b) c' s m2 r r' (rw i p1) (m, p2, q) z
commands_same (Then (Calls (x ∷ xs) f es) b) c' s r r' (m, (m3, (m2, (m1, p1, p2), p3), p4), q) z = named_alone x (Result xs (Function f) es) b (commands_same b) c' s m1 r r' p1 (m, (m3, (m2, p2, p3), p4), q) z
commands_same (Then (Interacts [] k es) b) c' s r r' p z = device_alone k es b (commands_same b) c' s r r' p z
commands_same (Then (Interacts (x ∷ xs) k es) b) c' s r r' (m, (m3, (m2, (m1, p1, p2), p3), p4), q) z = named_alone x (Result xs (Access k) es) b (commands_same b) c' s m1 r r' p1 (m, (m3, (m2, p2, p3), p4), q) z
commands_same (Then Ends b) c' s r r' (m, p, q) z = absurd p
commands_same (Then (Then c d) b) c' s r r' (m, p, q) z = absurd p
commands_same Skips c' s r r' p z = absurd p
commands_same (Sets x e) c' s r r' p z = absurd p
commands_same (Unsets x) c' s r r' p z = absurd p
commands_same (Stores w a e) c' s r r' p z = absurd p
commands_same (Allocates n x d) c' s r r' p z = absurd p
commands_same (Chooses e c d) c' s r r' p z = absurd p
commands_same (Repeats e c) c' s r r' p z = absurd p
commands_same (Calls xs f es) c' s r r' p z = absurd p
commands_same (Interacts xs k es) c' s r r' p z = absurd p

-- ---- functions

results_same : (xs xs' : List Text) (b b' : Command) → Both (ResultsAt xs then BlockAt b) (ResultsAt xs' then BlockAt b') ((xs ≡ xs') × (b ≡ b'))
results_same [] [] b b' s r r' (m, e, p) (m', e', p') = let h = blocks b b' (commands_same b) s r r' (rw e p) (rw e' p') in ((refl, h.0), h.1)
results_same [] (x ∷ xs) b b' s r r' (m, e, p) (m', (m1, q, q'), p') = absurd (other_token OpenBrace Arrow s p.0 m1 (λ e. cc) (rw e p.1) q)
results_same (x ∷ xs) [] b b' s r r' (m', (m1, q, q'), p') (m, e, p) = absurd (other_token OpenBrace Arrow s p.0 m1 (λ e. cc) (rw e p.1) q)
results_same (x ∷ xs) (x' ∷ xs') b b' s r r' p q =
    let h = both_then (both_then (token Arrow) (both_then (token OpenParen) (list_same NameAt names name_not_close (x ∷ xs) (x' ∷ xs')))) (blocks b b' (commands_same b)) s r r' p q in
    ((h.0.0.1.1, h.0.1), h.1)

procedure : Text → List Text → List Text → Command → Procedure
procedure x params results b = record { name = x; params = params; results = results; body = b }

functions_one : (f f' : Procedure) → Both (FunctionAt f) (FunctionAt f') (f ≡ f')
unfolding procedure
functions_one f f' s r r' (m1, p1, (m2, p2, (m3, p3, (m4, p4, (m5, p5, p6))))) (n1, q1, (n2, q2, (n3, q3, (n4, q4, (n5, q5, q6))))) =
    let h = both_then (token Fn) (both_then (names f.name f'.name) (both_then (token OpenParen) (both_then (list_same NameAt names name_not_close f.params f'.params) (results_same f.results f'.results f.body f'.body))))
    s r r' (m1, p1, (m2, p2, (m3, p3, (m5, (m4, p4, p5), p6)))) (n1, q1, (n2, q2, (n3, q3, (n5, (n4, q4, q5), q6)))) in
    let i : f.name ≡ f'.name = h.0.1.0 in let j : f.params ≡ f'.params = h.0.1.1.1.0 in let k : f.results ≡ f'.results = h.0.1.1.1.1.0 in let l : f.body ≡ f'.body = h.0.1.1.1.1.1 in
    (ap (λ (x : Text). procedure x f.params f.results f.body) i ∙ (ap (λ (xs : List Text). procedure f'.name xs f.results f.body) j ∙ (ap (λ (xs : List Text). procedure f'.name f'.params xs f.body) k ∙ ap (λ (b : Command). procedure f'.name f'.params f'.results b) l)), h.1)

pub text_same : (p p' : List Procedure) (s : List ℕ) → IsText p s → IsText p' s → p ≡ p'
text_same [] [] s p q = refl
text_same [] (f ∷ fs) s (r, e, g) (r', (mid, a, b), h) = absurd (no_token Fn s a.0 (subst (λ (u : List ℕ). gap true Outside u ≡ true) (sym e) g) a.1)
text_same (f ∷ fs) [] s (r', (mid, a, b), h) (r, e, g) = absurd (no_token Fn s a.0 (subst (λ (u : List ℕ). gap true Outside u ≡ true) (sym e) g) a.1)
text_same (f ∷ fs) (f' ∷ fs') s (r, (mid, a, b), g) (r', (mid', a', b'), g') =
    let h = functions_one f f' s mid mid' a a' in
    let i : fs ≡ fs' = text_same fs fs' mid (r, b, g) (r', subst (λ (u : List ℕ). FunctionsAt fs' u r') (sym h.1) b', g') in
    let j : f ≡ f' = h.0 in cc
