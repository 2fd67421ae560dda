-- Commands, blocks and functions.
use Rattle.std.proofs.Common.{◌≡◌, ℕ, ◌+◌, ◌-◌, ◌≤◌, true, List, [], ◌∷◌, ◌++◌, refl, sym, ap, subst, ◌∙◌, append-nil, arith, inl, inr}
use Rattle.std.specs.Prelude.{is_some}
use Rattle.lb_syntax.specs.Names.{Text}
use Rattle.lb_syntax.specs.Brackets.{most_brackets}
use Rattle.lb_syntax.specs.Tree.{Command, Ends, Then, chain}
use Rattle.lb_spelling.specs.declared.symbol.Symbol.{Symbol}
use Rattle.lb_spelling.specs.declared.symbol.Symbol.TheVariants as symbols
use Rattle.lb_spelling.specs.Tokens.{Token, Skip, Unset, Store, StackAlloc, If, Else, While, Named, Device, OpenBrace, CloseBrace, Stands}
use Rattle.lb_spelling.specs.Grammar.{◌then◌, CommandAt, CommandsAt, BlockAt, ElseAt}
use Rattle.lb_spelling.specs.InternalMachine.{Stack, next_after_if, next_commands, opened}
use Rattle.lb_spelling.specs.InternalParsing.{Takes}
use Rattle.lb_text.specs.declared.parse_error.ParseError.{ParseError}
use Rattle.lb_text.specs.InternalReading.{or_empty, coming, Goes, Reads, ReadsUpTo, Fails, Took, After, begins_command}
use Rattle.lb_spelling.proofs.TextRuns.{token_less}
use Rattle.lb_text.proofs.Steps.{start, and_token, and_part, and_parts, token_reads, fails_at, fails_among, fails_all}
use Rattle.lb_text.proofs.Calls.{through, closed}
use Rattle.lb_text.proofs.Lists.{SoFar, one_more, all_read}
use Rattle.lb_text.proofs.Signs.{takes_this, block_only}

-- a token at the end of what was read
pub then_token : {n : ℕ} {xs : Stack} {m : ℕ} {y : Symbol} {s u : Text} {t : Token} {rest : Text} → Goes n xs m (y ∷ []) s u → Takes m y t u rest → Goes n xs (opened t m) (coming y t) s rest
then_token {n} {xs} {m} {y} {s} {u} {t} {rest} g p = subst (λ (ys : Stack). Goes n xs (opened t m) ys s rest) (append-nil (coming y t)) (and_token g p)

-- ---- blocks

pub block_read : {n : ℕ} {t : Token} {s u rest : Text} (b : Command) → n ≤ most_brackets → Takes n symbols.Block t s u → Reads (n + 1) (symbols.Commands ∷ []) (CommandsAt b) (n + 1 - 1) [] u rest
    → Reads n (symbols.Block ∷ []) (BlockAt b) n [] s rest
block_read {n} {t} {s} {u} {rest} b h p q = let brace = takes_this OpenBrace (block_only t p.taken) p in through (BlockAt b) h brace (closed q) (λ z. (u, brace.stands, z))

pub block_fails : {n : ℕ} {t : Token} {s u : Text} (e : ParseError) → n ≤ most_brackets → Takes n symbols.Block t s u → Fails (n + 1) (symbols.Commands ∷ []) u e → Fails n (symbols.Block ∷ []) s e
block_fails {n} {t} {s} {u} e h p f = fails_all e h (takes_this OpenBrace (block_only t p.taken) p) f

-- ---- commands, one after another

-- cs were read, and t, the token behind them
pub record CommandsSoFar (n : ℕ) (cs : List Command) (t : Token) (s rest : Text) : Type 0 where
  pub so_far : SoFar n (symbols.Commands ∷ []) (λ ds. CommandsAt (chain ds)) cs (opened t n) (coming symbols.Commands t) (λ ds. After (Stands t) (CommandsAt (chain ds))) s rest
  pub took : Took n symbols.Commands t rest

pub no_commands_yet : {n : ℕ} {t : Token} {s rest : Text} → n ≤ most_brackets → Takes n symbols.Commands t s rest → CommandsSoFar n [] t s rest
no_commands_yet {n} {t} {s} {rest} h p = record {
  so_far = record { stands = λ more r z. z s p.stands; goes = (token_reads h p).goes };
  took = record { all = s; takes = p };
}

-- no bracket begins a command
opened_same : (n : ℕ) (t : Token) → begins_command t ≡ true → opened t n ≡ n
opened_same n Skip e = refl
opened_same n Unset e = refl
opened_same n (Store w) e = refl
opened_same n StackAlloc e = refl
opened_same n If e = refl
opened_same n While e = refl
opened_same n (Named x) e = refl
opened_same n (Device k) e = refl
opened_same n _ e = absurd cc

commands_go : {n : ℕ} {cs : List Command} {t : Token} {s rest : Text} → begins_command t ≡ true → CommandsSoFar n cs t s rest → Goes n (symbols.Commands ∷ []) n (coming symbols.Commands t ++ []) s rest
commands_go {n} {cs} {t} {s} {rest} b p = subst (λ (m : ℕ). Goes n (symbols.Commands ∷ []) m (coming symbols.Commands t ++ []) s rest) (opened_same n t b)
    (subst (λ (ys : Stack). Goes n (symbols.Commands ∷ []) (opened t n) ys s rest) (sym (append-nil (coming symbols.Commands t))) p.so_far.goes)

pub one_more_command : {n : ℕ} {cs : List Command} {t : Token} {s rest u : Text} (c : Command) (t' : Token) → begins_command t ≡ true → CommandsSoFar n cs t s rest
    → ReadsUpTo n (coming symbols.Commands t) (λ more. After (Stands t) (CommandsAt (Then c (chain more)))) t' rest u → CommandsSoFar n (cs ++ c ∷ []) t' s u
one_more_command {n} {cs} {t} {s} {rest} {u} c t' b p q = record {
  so_far = one_more c (opened t' n) (coming symbols.Commands t') (λ ds. After (Stands t') (CommandsAt (chain ds))) u p.so_far q.stands
      (subst (λ (ys : Stack). Goes n (symbols.Commands ∷ []) (opened t' n) ys s u) (append-nil (coming symbols.Commands t'))
      (and_parts (coming symbols.Commands t) [] (coming symbols.Commands t') (commands_go b p) q.goes));
  took = q.took;
}

pub commands_fail : {n : ℕ} {cs : List Command} {t : Token} {s rest : Text} (e : ParseError) → begins_command t ≡ true → CommandsSoFar n cs t s rest → Fails n (coming symbols.Commands t) rest e → Fails n (symbols.Commands ∷ []) s e
commands_fail {n} {cs} {t} {s} {rest} e b p f = fails_among (coming symbols.Commands t) [] e (commands_go b p) f

pub commands_end : {n : ℕ} {cs : List Command} {s rest : Text} → CommandsSoFar n cs CloseBrace s rest → Reads n (symbols.Commands ∷ []) (CommandsAt (chain cs)) (n - 1) [] s rest
commands_end {n} {cs} {s} {rest} p = record { stands = all_read rest p.so_far (λ all z. z); goes = p.so_far.goes }

-- ---- a command with the token behind it

pub command_then : {n : ℕ} {t t' : Token} {s u rest : Text} (c : Command) → Reads n (coming symbols.Commands t) (After (Stands t) (CommandAt c)) n (symbols.Commands ∷ []) s u → Takes n symbols.Commands t' u rest
    → ReadsUpTo n (coming symbols.Commands t) (λ more. After (Stands t) (CommandsAt (Then c (chain more)))) t' s rest
command_then {n} {t} {t'} {s} {u} {rest} c p q = record {
  stands = λ more r z all a. (u, p.stands all a, z u q.stands);
  goes = then_token p.goes q;
  less = omega (arith, p.goes.shorter, token_less t' u rest q.stands);
  took = record { all = u; takes = q };
}

-- ---- what stands behind the first block of an `if`

pub no_else : {n : ℕ} {t : Token} {s rest : Text} (d : Command) → n ≤ most_brackets → d ≡ Ends → next_after_if t ≡ next_commands t → Takes n symbols.AfterIf t s rest
    → ReadsUpTo n (symbols.AfterIf ∷ []) (λ more. ElseAt d then CommandsAt (chain more)) t s rest
no_else {n} {t} {s} {rest} d h e f p = record {
  stands = λ more r z. (s, inr (e, refl), z s p.stands);
  goes = subst (λ (ys : Stack). Goes n (symbols.AfterIf ∷ []) (opened t n) ys s rest) (ap or_empty f) (token_reads h p).goes;
  less = token_less t s rest p.stands;
  took = record { all = s; takes = record { stands = p.stands; taken = ap is_some (sym f) ∙ p.taken; room = p.room } };
}

pub else_read : {n : ℕ} {t : Token} {s s1 s2 rest : Text} (d : Command) → n ≤ most_brackets → Takes n symbols.AfterIf Else s s1 → Reads n (symbols.Block ∷ []) (BlockAt d) n [] s1 s2 → Takes n symbols.Commands t s2 rest
    → ReadsUpTo n (symbols.AfterIf ∷ []) (λ more. ElseAt d then CommandsAt (chain more)) t s rest
else_read {n} {t} {s} {s1} {s2} {rest} d h p q r = let g = and_part (and_token (start {n = n} {xs = symbols.AfterIf ∷ []} {s = s} h) p) q in record {
  stands = λ more z w. (s2, inl (s1, p.stands, q.stands), w s2 r.stands);
  goes = then_token g r;
  less = omega (arith, g.shorter, token_less t s2 rest r.stands);
  took = record { all = s2; takes = r };
}

pub else_fails : {n : ℕ} {s s1 : Text} (e : ParseError) → n ≤ most_brackets → Takes n symbols.AfterIf Else s s1 → Fails n (symbols.Block ∷ []) s1 e → Fails n (symbols.AfterIf ∷ []) s e
else_fails {n} {s} {s1} e h p f = fails_at e (and_token (start {n = n} {xs = symbols.AfterIf ∷ []} {s = s} h) p) f

pub else_fails_behind : {n : ℕ} {s s1 s2 : Text} (d : Command) (e : ParseError) → n ≤ most_brackets → Takes n symbols.AfterIf Else s s1 → Reads n (symbols.Block ∷ []) (BlockAt d) n [] s1 s2 → Fails n (symbols.Commands ∷ []) s2 e
    → Fails n (symbols.AfterIf ∷ []) s e
else_fails_behind {n} {s} {s1} {s2} d e h p q f = fails_at e (and_part (and_token (start {n = n} {xs = symbols.AfterIf ∷ []} {s = s} h) p) q) f
