-- How what was read of a stack of symbols adds up.
use Rattle.std.proofs.Common.{◌≡◌, ℕ, ◌≤◌, true, [], ◌∷◌, ◌++◌, Option, Some, None, refl, sym, ap, ◌∙◌, append_assoc, append-nil, arith}
use Rattle.std.specs.Prelude.{is_some}
use Rattle.lb_syntax.specs.Names.{Text}
use Rattle.lb_syntax.specs.Brackets.{most_brackets}
use Rattle.lb_spelling.specs.declared.symbol.Symbol.{Symbol}
use Rattle.lb_spelling.specs.Tokens.{Token, Stands}
use Rattle.lb_spelling.specs.Grammar.{Standing}
use Rattle.lb_spelling.specs.InternalMachine.{Stack, next, opened}
use Rattle.lb_spelling.specs.InternalParsing.{outcome, Takes}
use Rattle.lb_text.specs.declared.parse_error.ParseError.{ParseError}
use Rattle.lb_text.specs.declared.parse_error.ParseError.TheVariants.{Memory, Syntax}
use Rattle.lb_text.specs.InternalReading.{or_empty, coming, Goes, Reads, Fails, After}
use Rattle.lb_spelling.proofs.Running.{token_runs}
use Rattle.lb_spelling.proofs.TextRuns.{token_less}

-- P, whose first token t was read before s where x is expected
abbrev pub ReadsFrom : ℕ → Symbol → Token → Standing → ℕ → Stack → Text → Text → Type 0
ReadsFrom n x t P m ys s rest = Reads (opened t n) (coming x t) (After (Stands t) P) m ys s rest

abbrev pub FailsFrom : ℕ → Symbol → Token → Text → ParseError → Type 0
FailsFrom n x t s e = Fails (opened t n) (coming x t) s e

pub is_coming : (y : Symbol) (t : Token) → is_some (next y t) ≡ true → next y t ≡ Some (coming y t)
is_coming y t e = some (next y t) e where
  some : (o : Option Stack) → is_some o ≡ true → o ≡ Some (or_empty o)
  some None e = absurd cc
  some (Some ys) e = refl

pub start : {n : ℕ} {xs : Stack} {s : Text} → n ≤ most_brackets → Goes n xs n xs s s
start {n} {xs} {s} h = record { runs = λ k. refl; room = h; shorter = omega arith }

pub and_token : {n : ℕ} {xs : Stack} {m : ℕ} {y : Symbol} {ys : Stack} {s u : Text} {t : Token} {rest : Text}
    → Goes n xs m (y ∷ ys) s u → Takes m y t u rest → Goes n xs (opened t m) (coming y t ++ ys) s rest
and_token {n} {xs} {m} {y} {ys} {s} {u} {t} {rest} g p = record {
  runs = λ k. g.runs k ∙ (token_runs t u rest most_brackets m y (coming y t) (ys ++ k) p.stands (is_coming y t p.taken) g.room p.room
      ∙ ap (λ (z : Stack). outcome rest (opened t m) z) (sym (append_assoc (coming y t) ys k)));
  room = p.room;
  shorter = omega (arith, g.shorter, token_less t u rest p.stands);
}

pub and_part : {n : ℕ} {xs : Stack} {m : ℕ} {y : Symbol} {ys : Stack} {s u : Text} {P : Standing} {m' : ℕ} {rest : Text}
    → Goes n xs m (y ∷ ys) s u → Reads m (y ∷ []) P m' [] u rest → Goes n xs m' ys s rest
and_part {ys = ys} g p = record {
  runs = λ k. g.runs k ∙ p.goes.runs (ys ++ k);
  room = p.goes.room;
  shorter = omega (arith, g.shorter, p.goes.shorter);
}

-- the same of several symbols zs, of which ws are left
pub and_parts : {n : ℕ} {xs : Stack} {m : ℕ} {s u : Text} (zs ys ws : Stack) {m' : ℕ} {rest : Text}
    → Goes n xs m (zs ++ ys) s u → Goes m zs m' ws u rest → Goes n xs m' (ws ++ ys) s rest
and_parts {n} {xs} {m} {s} {u} zs ys ws {m'} {rest} g p = record {
  runs = λ k. g.runs k ∙ (ap (λ (z : Stack). outcome u m z) (append_assoc zs ys k)
      ∙ (p.runs (ys ++ k) ∙ ap (λ (z : Stack). outcome rest m' z) (sym (append_assoc ws ys k))));
  room = p.room;
  shorter = omega (arith, g.shorter, p.shorter);
}

pub fails_at : {n : ℕ} {xs : Stack} {m : ℕ} {y : Symbol} {ys : Stack} {s u : Text} (e : ParseError)
    → Goes n xs m (y ∷ ys) s u → Fails m (y ∷ []) u e → Fails n xs s e
fails_at Memory g p = tt
fails_at {ys = ys} (Syntax error) g p = λ k. g.runs k ∙ p (ys ++ k)

pub fails_among : {n : ℕ} {xs : Stack} {m : ℕ} {s u : Text} (zs ys : Stack) (e : ParseError)
    → Goes n xs m (zs ++ ys) s u → Fails m zs u e → Fails n xs s e
fails_among zs ys Memory g p = tt
fails_among {n} {xs} {m} {s} {u} zs ys (Syntax error) g p = λ k. g.runs k ∙ (ap (λ (z : Stack). outcome u m z) (append_assoc zs ys k) ∙ p (ys ++ k))

-- ---- the first token before the rest

pub reads_all : {n : ℕ} {x : Symbol} {t : Token} {P : Standing} {m : ℕ} {ys : Stack} {s u rest : Text}
    → n ≤ most_brackets → Takes n x t s u → ReadsFrom n x t P m ys u rest → Reads n (x ∷ []) P m ys s rest
reads_all {n} {x} {t} {P} {m} {ys} {s} {u} {rest} h p q = record {
  stands = q.stands s p.stands;
  goes = let g = and_token (start {n = n} {xs = x ∷ []} {s = s} h) p in record {
    runs = λ k. g.runs k ∙ (ap (λ (z : Stack). outcome u (opened t n) (z ++ k)) (append-nil (coming x t)) ∙ q.goes.runs k);
    room = q.goes.room;
    shorter = omega (arith, g.shorter, q.goes.shorter);
  };
}

pub fails_all : {n : ℕ} {x : Symbol} {t : Token} {s u : Text} (e : ParseError) → n ≤ most_brackets → Takes n x t s u → FailsFrom n x t u e → Fails n (x ∷ []) s e
fails_all Memory h p q = tt
fails_all {n} {x} {t} {s} {u} (Syntax error) h p q = let g = and_token (start {n = n} {xs = x ∷ []} {s = s} h) p in
    λ k. g.runs k ∙ (ap (λ (z : Stack). outcome u (opened t n) (z ++ k)) (append-nil (coming x t)) ∙ q k)

-- a token that leaves nothing to come
pub token_reads : {n : ℕ} {x : Symbol} {t : Token} {s rest : Text} → n ≤ most_brackets → Takes n x t s rest → Reads n (x ∷ []) (Stands t) (opened t n) (coming x t) s rest
token_reads {n} {x} {t} {s} {rest} h p = record {
  stands = p.stands;
  goes = let g = and_token (start {n = n} {xs = x ∷ []} {s = s} h) p in record {
    runs = λ k. g.runs k ∙ ap (λ (z : Stack). outcome rest (opened t n) (z ++ k)) (append-nil (coming x t));
    room = p.room;
    shorter = g.shorter;
  };
}

-- a part that is its first token
pub nothing_more : (n : ℕ) (t : Token) (s : Text) → n ≤ most_brackets → Reads n [] (After (Stands t) (Stands t)) n [] s s
nothing_more n t s h = record { stands = λ all p. p; goes = start h }
