-- Lists that are read item by item.
use Rattle.std.proofs.Common.{◌≡◌, ℕ, ◌-◌, ◌≤◌, true, List, [], ◌∷◌, ◌++◌, refl, sym, ap, subst, ◌∙◌, append_assoc, append-nil}
use Rattle.std.specs.Prelude.{is_some}
use Rattle.lb_syntax.specs.Names.{Text}
use Rattle.lb_syntax.specs.Brackets.{most_brackets}
use Rattle.lb_syntax.specs.Tree.{Term}
use Rattle.lb_spelling.specs.declared.symbol.Symbol.{Symbol}
use Rattle.lb_spelling.specs.declared.symbol.Symbol.TheVariants as symbols
use Rattle.lb_spelling.specs.Tokens.{Token, Numeral, Named, Load, OpenParen, Stands, CloseParen, Comma, Becomes}
use Rattle.lb_spelling.specs.Grammar.{Standing, ◌then◌, MoreAt, NameAt, NamesAt, TermAt, ArgumentsAt}
use Rattle.lb_spelling.specs.InternalMachine.{Stack, next, next_more_names, next_more_targets, next_arguments, next_more_arguments, opened}
use Rattle.lb_spelling.specs.InternalParsing.{Takes}
use Rattle.lb_text.specs.declared.parse_error.ParseError.{ParseError}
use Rattle.lb_text.specs.InternalReading.{coming, Goes, Reads, ReadsMore, Fails, After, ends_names, last_of}
use Rattle.lb_text.proofs.Steps.{ReadsFrom, FailsFrom, start, and_token, and_part, and_parts, fails_at, fails_among, fails_all, token_reads}
use Rattle.lb_text.proofs.Signs.{takes_this}

-- these items were read: what completes them by Q from rest on completes the whole by P
pub record SoFar {A : Type 0} (n : ℕ) (xs : Stack) (P : List A → Standing) (items : List A) (m : ℕ) (ys : Stack) (Q : List A → Standing) (s rest : Text) : Type 0 where
  pub stands : (more : List A) (r : Text) → Q more rest r → P (items ++ more) s r
  pub goes : Goes n xs m ys s rest

pub one_more : {A : Type 0} {n : ℕ} {xs : Stack} {P : List A → Standing} {items : List A} {m : ℕ} {ys : Stack} {Q : List A → Standing} {s rest : Text}
    (item : A) (m' : ℕ) (ys' : Stack) (Q' : List A → Standing) (u : Text) → SoFar n xs P items m ys Q s rest
    → ((more : List A) (r : Text) → Q' more u r → Q (item ∷ more) rest r) → Goes n xs m' ys' s u → SoFar n xs P (items ++ item ∷ []) m' ys' Q' s u
one_more {A} {P = P} {items = items} {s = s} item m' ys' Q' u p q g = record {
  stands = λ more r z. subst (λ (them : List A). P them s r) (sym (append_assoc items (item ∷ []) more)) (p.stands (item ∷ more) r (q more r z));
  goes = g;
}

pub all_read : {A : Type 0} {n : ℕ} {xs : Stack} {P : List A → Standing} {items : List A} {m : ℕ} {ys : Stack} {Q : List A → Standing} {s rest : Text}
    (r : Text) → SoFar n xs P items m ys Q s rest → Q [] rest r → P items s r
all_read {A} {P = P} {items = items} {s = s} r p q = subst (λ (them : List A). P them s r) (append-nil items) (p.stands [] r q)

-- ---- names

abbrev pub NamesAfter : Symbol → List Text → Standing
NamesAfter x names = MoreAt NameAt names then Stands (last_of x)

-- more names were read behind those that there were
pub record NamesSoFar (n : ℕ) (x : Symbol) (names whole : List Text) (s rest : Text) : Type 0 where
  pub more : List Text
  pub is : whole ≡ names ++ more
  pub so_far : SoFar n (x ∷ []) (NamesAfter x) more n (x ∷ []) (NamesAfter x) s rest

comma_coming : (x : Symbol) → ends_names x ≡ true → coming x Comma ≡ symbols.Name ∷ x ∷ []
comma_coming symbols.MoreNames e = refl
comma_coming symbols.MoreTargets e = refl
comma_coming _ e = absurd cc

last_only : (x : Symbol) (t : Token) → ends_names x ≡ true → (t ≡ Comma → ⊥) → is_some (next x t) ≡ true → t ≡ last_of x
last_only symbols.MoreNames t e c h = names t c h where
  names : (t : Token) → (t ≡ Comma → ⊥) → is_some (next_more_names t) ≡ true → t ≡ CloseParen
  names Comma c h = absurd (c refl)
  names CloseParen c h = refl
  names _ c h = absurd cc
last_only symbols.MoreTargets t e c h = targets t c h where
  targets : (t : Token) → (t ≡ Comma → ⊥) → is_some (next_more_targets t) ≡ true → t ≡ Becomes
  targets Comma c h = absurd (c refl)
  targets Becomes c h = refl
  targets _ c h = absurd cc
last_only _ t e c h = absurd cc

pub comma_goes : {n : ℕ} {x : Symbol} {s rest u : Text} → ends_names x ≡ true → Goes n (x ∷ []) n (x ∷ []) s rest → Takes n x Comma rest u → Goes n (x ∷ []) n (symbols.Name ∷ x ∷ []) s u
comma_goes {n} {x} {s} {rest} {u} e g c = subst (λ (z : Stack). Goes n (x ∷ []) n (z ++ []) s u) (comma_coming x e) (and_token g c)

pub one_more_name : {n : ℕ} {x : Symbol} {names whole : List Text} {s rest u v : Text} (y : Text) (whole' : List Text) → ends_names x ≡ true → NamesSoFar n x names whole s rest
    → Takes n x Comma rest u → Reads n (symbols.Name ∷ []) (NameAt y) n [] u v → whole' ≡ whole ++ y ∷ [] → NamesSoFar n x names whole' s v
one_more_name {n} {x} {names} {whole} {s} {rest} {u} {v} y whole' e p c q is = record {
  more = p.more ++ y ∷ [];
  is = is ∙ (ap (λ (z : List Text). z ++ y ∷ []) p.is ∙ append_assoc names p.more (y ∷ []));
  so_far = one_more y n (x ∷ []) (NamesAfter x) v p.so_far (λ more r z. (z.0, (u, c.stands, (v, q.stands, z.1)), z.2)) (and_part (comma_goes e p.so_far.goes c) q);
}

pub names_end : {n : ℕ} {x : Symbol} {t : Token} {names whole : List Text} {s rest u : Text} → ends_names x ≡ true → NamesSoFar n x names whole s rest
    → (t ≡ Comma → ⊥) → Takes n x t rest u → ReadsMore n x names whole s u
names_end {n} {x} {t} {names} {whole} {s} {rest} {u} e p c q = let z = takes_this (last_of x) (last_only x t e c q.taken) q in record {
  more = p.more;
  is = p.is;
  reads = record {
    stands = all_read u p.so_far (rest, refl, z.stands);
    goes = subst (λ (ys : Stack). Goes n (x ∷ []) (opened (last_of x) n) ys s u) (append-nil (coming x (last_of x))) (and_token p.so_far.goes z);
  };
}

-- ---- parameters

pub no_params : {n : ℕ} {s rest : Text} → n ≤ most_brackets → Takes n symbols.Names CloseParen s rest → Reads n (symbols.Names ∷ []) (NamesAt [] then Stands CloseParen) (n - 1) [] s rest
no_params {n} {s} {rest} h p = record { stands = (s, refl, p.stands); goes = (token_reads h p).goes }

pub some_params : {n : ℕ} {x : Text} {names whole : List Text} {s u rest : Text} → n ≤ most_brackets → Takes n symbols.Names (Named x) s u → names ≡ x ∷ [] → ReadsMore n symbols.MoreNames names whole u rest
    → Reads n (symbols.Names ∷ []) (NamesAt whole then Stands CloseParen) (n - 1) [] s rest
some_params {n} {x} {names} {whole} {s} {u} {rest} h p e q = record {
  stands = subst (λ (them : List Text). (NamesAt them then Stands CloseParen) s rest) (sym (q.is ∙ ap (λ (z : List Text). z ++ q.more) e))
      (let z = q.reads.stands in (z.0, (u, p.stands, z.1), z.2));
  goes = and_parts (symbols.MoreNames ∷ []) [] [] (and_token (start h) p) q.reads.goes;
}

pub params_fail : {n : ℕ} {x : Text} {s u : Text} (e : ParseError) → n ≤ most_brackets → Takes n symbols.Names (Named x) s u → Fails n (symbols.MoreNames ∷ []) u e → Fails n (symbols.Names ∷ []) s e
params_fail {n} {x} {s} {u} e h p f = fails_all e h p f

-- ---- arguments

abbrev pub ArgumentsAfter : List Term → Standing
ArgumentsAfter es = MoreAt TermAt es then Stands CloseParen

abbrev pub ArgumentsFrom : Term → List Term → Standing
ArgumentsFrom first es = After (TermAt first) (ArgumentsAt es then Stands CloseParen)

abbrev pub ArgumentsSoFar : ℕ → Term → List Term → Text → Text → Type 0
ArgumentsSoFar n first es s rest = SoFar n (symbols.MoreArguments ∷ []) (ArgumentsFrom first) es n (symbols.MoreArguments ∷ []) ArgumentsAfter s rest

comma_only : (t : Token) → (t ≡ CloseParen → ⊥) → is_some (next_more_arguments t) ≡ true → t ≡ Comma
comma_only Comma c h = refl
comma_only CloseParen c h = absurd (c refl)
comma_only _ c h = absurd cc

pub argument_goes : {n : ℕ} {t : Token} {s rest u : Text} → Goes n (symbols.MoreArguments ∷ []) n (symbols.MoreArguments ∷ []) s rest → (t ≡ CloseParen → ⊥) → Takes n symbols.MoreArguments t rest u
    → Goes n (symbols.MoreArguments ∷ []) n (symbols.Expr ∷ symbols.MoreArguments ∷ []) s u
argument_goes {n} {t} {s} {rest} {u} g c p = and_token g (takes_this Comma (comma_only t c p.taken) p)

pub one_more_argument : {n : ℕ} {t : Token} (first : Term) {es : List Term} {s rest u v : Text} (e : Term) → ArgumentsSoFar n first es s rest
    → (t ≡ CloseParen → ⊥) → Takes n symbols.MoreArguments t rest u → Reads n (symbols.Expr ∷ []) (TermAt e) n [] u v → ArgumentsSoFar n first (es ++ e ∷ []) s v
one_more_argument {n} {t} first {es} {s} {rest} {u} {v} e p c q r = let comma = takes_this Comma (comma_only t c q.taken) q in
    one_more e n (symbols.MoreArguments ∷ []) ArgumentsAfter v p (λ more z w. (w.0, (u, comma.stands, (v, r.stands, w.1)), w.2)) (and_part (argument_goes p.goes c q) r)

pub arguments_end : {n : ℕ} (first : Term) {es : List Term} {s rest u : Text} → ArgumentsSoFar n first es s rest → Takes n symbols.MoreArguments CloseParen rest u
    → Reads n (symbols.MoreArguments ∷ []) (ArgumentsFrom first es) (opened CloseParen n) [] s u
arguments_end {n} first {es} {s} {rest} {u} p q = record {
  stands = all_read u p (rest, refl, q.stands);
  goes = and_token p.goes q;
}

pub no_arguments : {n : ℕ} {s rest : Text} → n ≤ most_brackets → Takes n symbols.Arguments CloseParen s rest → Reads n (symbols.Arguments ∷ []) (ArgumentsAt [] then Stands CloseParen) (n - 1) [] s rest
no_arguments {n} {s} {rest} h p = record { stands = (s, refl, p.stands); goes = (token_reads h p).goes }

arguments_coming : (t : Token) → (t ≡ CloseParen → ⊥) → is_some (next_arguments t) ≡ true → coming symbols.Arguments t ≡ coming symbols.Expr t ++ symbols.MoreArguments ∷ []
arguments_coming (Numeral n) c h = refl
arguments_coming (Named x) c h = refl
arguments_coming (Load w) c h = refl
arguments_coming OpenParen c h = refl
arguments_coming CloseParen c h = absurd (c refl)
arguments_coming _ c h = absurd cc

-- from before the first token of the first argument
arguments_goes : {n : ℕ} {t : Token} {s u : Text} → n ≤ most_brackets → (t ≡ CloseParen → ⊥) → Takes n symbols.Arguments t s u
    → Goes n (symbols.Arguments ∷ []) (opened t n) (coming symbols.Expr t ++ symbols.MoreArguments ∷ []) s u
arguments_goes {n} {t} {s} {u} h c p =
    subst (λ (ys : Stack). Goes n (symbols.Arguments ∷ []) (opened t n) ys s u) (append-nil (coming symbols.Arguments t) ∙ arguments_coming t c p.taken) (and_token (start h) p)

pub arguments_read : {n : ℕ} {t : Token} (first : Term) (es : List Term) {m : ℕ} {s u v rest : Text} → n ≤ most_brackets → (t ≡ CloseParen → ⊥) → Takes n symbols.Arguments t s u
    → ReadsFrom n symbols.Expr t (TermAt first) n [] u v → Reads n (symbols.MoreArguments ∷ []) (ArgumentsFrom first es) m [] v rest
    → Reads n (symbols.Arguments ∷ []) (ArgumentsAt es then Stands CloseParen) m [] s rest
arguments_read {n} {t} first es {m} {s} {u} {v} {rest} h c p q r = record {
  stands = r.stands s (q.stands s p.stands);
  goes = and_part (and_parts (coming symbols.Expr t) (symbols.MoreArguments ∷ []) [] (arguments_goes h c p) q.goes) r;
}

pub arguments_fail_first : {n : ℕ} {t : Token} {s u : Text} (e : ParseError) → n ≤ most_brackets → (t ≡ CloseParen → ⊥) → Takes n symbols.Arguments t s u → FailsFrom n symbols.Expr t u e → Fails n (symbols.Arguments ∷ []) s e
arguments_fail_first {n} {t} {s} {u} e h c p f = fails_among (coming symbols.Expr t) (symbols.MoreArguments ∷ []) e (arguments_goes h c p) f

pub arguments_fail_more : {n : ℕ} {t : Token} (first : Term) {s u v : Text} (e : ParseError) → n ≤ most_brackets → (t ≡ CloseParen → ⊥) → Takes n symbols.Arguments t s u
    → ReadsFrom n symbols.Expr t (TermAt first) n [] u v → Fails n (symbols.MoreArguments ∷ []) v e → Fails n (symbols.Arguments ∷ []) s e
arguments_fail_more {n} {t} first {s} {u} {v} e h c p q f = fails_at e (and_parts (coming symbols.Expr t) (symbols.MoreArguments ∷ []) [] (arguments_goes h c p) q.goes) f
