-- Commands that begin with a name.
use Rattle.std.proofs.Common.{◌≡◌, ℕ, ◌+◌, ◌-◌, ◌≤◌, List, [], ◌∷◌, ◌++◌, refl, sym, ap, subst, ◌∙◌, append-nil, arith}
use Rattle.lb_syntax.specs.Names.{Text}
use Rattle.lb_syntax.specs.Brackets.{most_brackets}
use Rattle.lb_syntax.specs.declared.tree.Action.{Action}
use Rattle.lb_syntax.specs.Tree.{Variable, Sets}
use Rattle.lb_spelling.specs.declared.symbol.Symbol.{Symbol}
use Rattle.lb_spelling.specs.declared.symbol.Symbol.TheVariants as symbols
use Rattle.lb_spelling.specs.Tokens.{Token, Named, Device, OpenParen, Semicolon, Comma, Becomes, Stands}
use Rattle.lb_spelling.specs.Grammar.{Standing, ◌then◌, NameAt, TargetsAt, CommandAt}
use Rattle.lb_spelling.specs.InternalMachine.{Stack, opened, call}
use Rattle.lb_spelling.specs.InternalParsing.{outcome, Takes}
use Rattle.lb_text.specs.declared.parse_error.ParseError.{ParseError}
use Rattle.lb_text.specs.InternalReading.{coming, Goes, Reads, ReadsMore, Fails, After}
use Rattle.lb_text.proofs.Steps.{start, and_token, and_part, and_parts, token_reads, fails_all}

-- from before a token on, which leaves a part to come
pub through : {n : ℕ} {x : Symbol} {t : Token} {P : Standing} {m : ℕ} {ys : Stack} {s u rest : Text} (Q : Standing)
    → n ≤ most_brackets → Takes n x t s u → Reads (opened t n) (coming x t) P m ys u rest → (P u rest → Q s rest) → Reads n (x ∷ []) Q m ys s rest
through {n} {x} {t} {P} {m} {ys} {s} {u} {rest} Q h p q f = record {
  stands = f q.stands;
  goes = let g = and_token (start {n = n} {xs = x ∷ []} {s = s} h) p in record {
    runs = λ k. g.runs k ∙ (ap (λ (z : Stack). outcome u (opened t n) (z ++ k)) (append-nil (coming x t)) ∙ q.goes.runs k);
    room = q.goes.room;
    shorter = omega (arith, g.shorter, q.goes.shorter);
  };
}

pub plus_minus : (n : ℕ) → n + 1 - 1 ≡ n
plus_minus n = omega arith

-- a bracket was opened and closed again
pub closed : {n : ℕ} {xs : Stack} {P : Standing} {ys : Stack} {s rest : Text} → Reads (n + 1) xs P (n + 1 - 1) ys s rest → Reads (n + 1) xs P n ys s rest
closed {n} {xs} {P} {ys} {s} {rest} p = subst (λ (m : ℕ). Reads (n + 1) xs P m ys s rest) (plus_minus n) p

-- ---- behind the first name

pub named_then : {n : ℕ} {t : Token} {m : ℕ} {s u rest : Text} (x : Text) (Q : Standing) → n ≤ most_brackets → Takes n symbols.AfterName t s u
    → Reads (opened t n) (coming symbols.AfterName t) (After (Stands (Named x) then Stands t) Q) m [] u rest → Reads n (symbols.AfterName ∷ []) (After (Stands (Named x)) Q) m [] s rest
named_then {n} {t} {m} {s} {u} {rest} x Q h p q = through (After (Stands (Named x)) Q) h p q (λ z all a. z all (s, a, p.stands))

pub named_calls : {n : ℕ} {names : List Text} {s u rest : Text} (x : Text) (Q : Standing) → n ≤ most_brackets → names ≡ [] → Takes n symbols.AfterName OpenParen s u
    → Reads (n + 1) (symbols.Arguments ∷ symbols.Semicolon ∷ []) (After (TargetsAt names then Stands (Named x) then Stands OpenParen) Q) (n + 1 - 1) [] u rest
    → Reads n (symbols.AfterName ∷ []) (After (Stands (Named x)) Q) n [] s rest
named_calls {n} {names} {s} {u} {rest} x Q h e p q = through (After (Stands (Named x)) Q) h p (closed q)
    (λ z all a. z all (all, subst (λ (them : List Text). TargetsAt them all all) (sym e) refl, (s, a, p.stands)))

-- ---- several targets

pub several_read : {n : ℕ} {names whole : List Text} {t : Token} {s s1 s2 s3 rest : Text} (x y : Text) (Q : Standing) → n ≤ most_brackets → names ≡ (x ∷ []) ++ y ∷ []
    → Reads n (symbols.Name ∷ []) (NameAt y) n [] s s1 → ReadsMore n symbols.MoreTargets names whole s1 s2 → Reads n (symbols.Callee ∷ []) (Stands t) n call s2 s3
    → Reads n call (After (TargetsAt whole then Stands t) Q) n [] s3 rest
    → Reads n (symbols.Name ∷ symbols.MoreTargets ∷ []) (After (Stands (Named x) then Stands Comma) Q) n [] s rest
several_read {n} {names} {whole} {t} {s} {s1} {s2} {s3} {rest} x y Q h e a b c d = record {
  stands = λ all z. let w = b.reads.stands in
      let whole-is : whole ≡ x ∷ y ∷ b.more = b.is ∙ ap (λ (them : List Text). them ++ b.more) e in
      d.stands all (s2, subst (λ (them : List Text). TargetsAt them all s2) (sym whole-is) (w.0, (z.0, z.1, (s, z.2, (s1, a.stands, w.1))), w.2), c.stands);
  goes =
      let g1 = and_part (start {n = n} {xs = symbols.Name ∷ symbols.MoreTargets ∷ []} {s = s} h) a in
      let g2 : Goes n (symbols.Name ∷ symbols.MoreTargets ∷ []) n (symbols.Callee ∷ []) s s2 = and_parts (symbols.MoreTargets ∷ []) [] (symbols.Callee ∷ []) g1 b.reads.goes in
      let g3 : Goes n (symbols.Name ∷ symbols.MoreTargets ∷ []) n call s s3 = and_parts (symbols.Callee ∷ []) [] call g2 c.goes in
      and_parts call [] [] g3 d.goes;
}

-- ---- behind `=`

pub device_assigned : {n : ℕ} {names : List Text} {s u rest : Text} (x : Text) (k : Action) (Q : Standing) → n ≤ most_brackets → names ≡ x ∷ [] → Takes n symbols.Source (Device k) s u
    → Reads n call (After (TargetsAt names then Stands (Device k)) Q) n [] u rest → Reads n (symbols.Source ∷ []) (After (Stands (Named x) then Stands Becomes) Q) n [] s rest
device_assigned {n} {names} {s} {u} {rest} x k Q h e p q = through (After (Stands (Named x) then Stands Becomes) Q) h p q
    (λ z all a. z all (s, subst (λ (them : List Text). TargetsAt them all s) (sym e) (a.0, (a.0, a.1, refl), a.2), p.stands))

pub name_assigned : {n : ℕ} {s u rest : Text} (x x' y y' : Text) (Q : Standing) → n ≤ most_brackets → x' ≡ x → y' ≡ y → Takes n symbols.Source (Named y) s u
    → Reads n (symbols.AfterSource ∷ []) (After (Stands (Named x') then Stands Becomes then Stands (Named y')) Q) n [] u rest
    → Reads n (symbols.Source ∷ []) (After (Stands (Named x) then Stands Becomes) Q) n [] s rest
name_assigned {n} {s} {u} {rest} x x' y y' Q h d e p q = through (After (Stands (Named x) then Stands Becomes) Q) h p q
    (λ z all a. z all (a.0, subst (λ (w : Text). Stands (Named w) all a.0) (sym d) a.1, (s, a.2, subst (λ (w : Text). Stands (Named w) s u) (sym e) p.stands)))

pub term_assigned : {n : ℕ} {t : Token} {s u rest : Text} (x : Text) (Q : Standing) → n ≤ most_brackets → coming symbols.Source t ≡ coming symbols.Expr t ++ symbols.Semicolon ∷ [] → Takes n symbols.Source t s u
    → Reads (opened t n) (coming symbols.Expr t ++ symbols.Semicolon ∷ []) (After (Stands (Named x) then Stands Becomes then Stands t) Q) n [] u rest
    → Reads n (symbols.Source ∷ []) (After (Stands (Named x) then Stands Becomes) Q) n [] s rest
term_assigned {n} {t} {s} {u} {rest} x Q h e p q = through (After (Stands (Named x) then Stands Becomes) Q) h p
    (subst (λ (ys : Stack). Reads (opened t n) ys (After (Stands (Named x) then Stands Becomes then Stands t) Q) n [] u rest) (sym e) q)
    (λ z all a. z all (a.0, a.1, (s, a.2, p.stands)))

pub term_fails : {n : ℕ} {t : Token} {s u : Text} (e : ParseError) → n ≤ most_brackets → coming symbols.Source t ≡ coming symbols.Expr t ++ symbols.Semicolon ∷ [] → Takes n symbols.Source t s u
    → Fails (opened t n) (coming symbols.Expr t ++ symbols.Semicolon ∷ []) u e → Fails n (symbols.Source ∷ []) s e
term_fails {n} {t} {s} {u} e h i p f = fails_all e h p (subst (λ (ys : Stack). Fails (opened t n) ys u e) (sym i) f)

-- ---- behind the name behind `=`

pub name_set : {n : ℕ} {s rest : Text} (x y : Text) → n ≤ most_brackets → Takes n symbols.AfterSource Semicolon s rest
    → Reads n (symbols.AfterSource ∷ []) (After (Stands (Named x) then Stands Becomes then Stands (Named y)) (CommandAt (Sets x (Variable y)))) n [] s rest
name_set {n} {s} {rest} x y h p = record { stands = λ all z. (z.0, z.1, (z.2.0, z.2.1, (s, z.2.2, p.stands))); goes = (token_reads h p).goes }

pub name_called : {n : ℕ} {names : List Text} {s u rest : Text} (x y : Text) (Q : Standing) → n ≤ most_brackets → names ≡ x ∷ [] → Takes n symbols.AfterSource OpenParen s u
    → Reads (n + 1) (symbols.Arguments ∷ symbols.Semicolon ∷ []) (After (TargetsAt names then Stands (Named y) then Stands OpenParen) Q) (n + 1 - 1) [] u rest
    → Reads n (symbols.AfterSource ∷ []) (After (Stands (Named x) then Stands Becomes then Stands (Named y)) Q) n [] s rest
name_called {n} {names} {s} {u} {rest} x y Q h e p q = through (After (Stands (Named x) then Stands Becomes then Stands (Named y)) Q) h p (closed q)
    (λ z all a. z all (a.2.0, subst (λ (them : List Text). TargetsAt them all a.2.0) (sym e) (a.0, (a.0, a.1, refl), a.2.1), (s, a.2.2, p.stands)))
