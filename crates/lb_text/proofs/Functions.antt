-- Functions, and the whole text.
use Rattle.std.proofs.Common.{◌≡◌, ◌<◌, ◌≤◌, true, List, [], ◌∷◌, ◌++◌, length, refl, sym, subst, ◌∙◌, arith}
use Rattle.std.specs.Prelude.{is_some}
use Rattle.lb_syntax.specs.Names.{Text}
use Rattle.lb_syntax.specs.Brackets.{most_brackets}
use Rattle.lb_syntax.specs.Tree.{Command, Procedure}
use Rattle.lb_spelling.specs.declared.symbol.Symbol.TheVariants as symbols
use Rattle.lb_spelling.specs.Tokens.{Token, Fn, Arrow, OpenBrace, Stands, Outside, gap}
use Rattle.lb_spelling.specs.Grammar.{Standing, ◌then◌, CommandsAt, BlockAt, ResultsAt, FunctionAt, FunctionsAt}
use Rattle.lb_spelling.specs.Places.{IsAccepted}
use Rattle.lb_spelling.specs.InternalMachine.{Stack, next_functions}
use Rattle.lb_spelling.specs.InternalParsing.{Takes}
use Rattle.lb_spelling.proofs.TextRuns.{token_less}
use Rattle.lb_spelling.proofs.Place.{gap_whole, whole_shallow}
use Rattle.lb_text.specs.declared.parse_error.ParseError.{ParseError}
use Rattle.lb_text.specs.InternalReading.{Goes, Reads, Fails, After}
use Rattle.lb_text.specs.InternalFindings.{rest_of_function, rest_of_results}
use Rattle.lb_text.proofs.Steps.{start, and_token, and_part, and_parts, fails_at, fails_among, fails_all}
use Rattle.lb_text.proofs.Calls.{through}
use Rattle.lb_text.proofs.Lists.{SoFar, one_more, all_read}
use Rattle.lb_text.proofs.Signs.{takes_this}

none_open : 0 ≤ most_brackets
none_open = omega arith

-- ---- results

pub no_results : {t : Token} {s u rest : Text} (names : List Text) (b : Command) → names ≡ [] → t ≡ OpenBrace → Takes 0 symbols.Results t s u → Reads 1 (symbols.Commands ∷ []) (CommandsAt b) 0 [] u rest
    → Reads 0 (symbols.Results ∷ []) (ResultsAt names then BlockAt b) 0 [] s rest
no_results {t} {s} {u} {rest} names b e i p q = let brace = takes_this OpenBrace i p in
    through (ResultsAt names then BlockAt b) none_open brace q (λ z. (s, subst (λ (them : List Text). ResultsAt them s s) (sym e) refl, (u, brace.stands, z)))

pub no_results_fail : {t : Token} {s u : Text} (e : ParseError) → t ≡ OpenBrace → Takes 0 symbols.Results t s u → Fails 1 (symbols.Commands ∷ []) u e → Fails 0 (symbols.Results ∷ []) s e
no_results_fail {t} {s} {u} e i p f = fails_all e none_open (takes_this OpenBrace i p) f

arrow_goes : {s u : Text} → Takes 0 symbols.Results Arrow s u → Goes 0 (symbols.Results ∷ []) 0 (rest_of_results ++ symbols.Block ∷ []) s u
arrow_goes {s} {u} p = and_token (start {n = 0} {xs = symbols.Results ∷ []} {s = s} none_open) p

results_go : {s u v : Text} {P : Standing} → Takes 0 symbols.Results Arrow s u → Reads 0 rest_of_results P 0 [] u v → Goes 0 (symbols.Results ∷ []) 0 (symbols.Block ∷ []) s v
results_go {s} {u} {v} {P} p q = and_parts rest_of_results (symbols.Block ∷ []) [] (arrow_goes p) q.goes

pub results_read : {s u v rest : Text} (names : List Text) (b : Command) → Takes 0 symbols.Results Arrow s u → Reads 0 rest_of_results (After (Stands Arrow) (ResultsAt names)) 0 [] u v
    → Reads 0 (symbols.Block ∷ []) (BlockAt b) 0 [] v rest → Reads 0 (symbols.Results ∷ []) (ResultsAt names then BlockAt b) 0 [] s rest
results_read {s} {u} {v} {rest} names b p q r = record { stands = (v, q.stands s p.stands, r.stands); goes = and_part (results_go p q) r }

pub results_fail : {s u : Text} (e : ParseError) → Takes 0 symbols.Results Arrow s u → Fails 0 rest_of_results u e → Fails 0 (symbols.Results ∷ []) s e
results_fail {s} {u} e p f = fails_among rest_of_results (symbols.Block ∷ []) e (arrow_goes p) f

pub body_fails : {s u v : Text} {P : Standing} (e : ParseError) → Takes 0 symbols.Results Arrow s u → Reads 0 rest_of_results P 0 [] u v → Fails 0 (symbols.Block ∷ []) v e → Fails 0 (symbols.Results ∷ []) s e
body_fails {s} {u} {v} {P} e p q f = fails_at e (results_go p q) f

-- ---- functions, one after another

abbrev pub all_functions : Stack
all_functions = symbols.Functions ∷ []

abbrev pub FunctionsSoFar : List Procedure → Text → Text → Type 0
FunctionsSoFar fs s rest = SoFar 0 all_functions FunctionsAt fs 0 all_functions FunctionsAt s rest

fn_only : (t : Token) → is_some (next_functions t) ≡ true → t ≡ Fn
fn_only Fn e = refl
fn_only _ e = absurd cc

function_goes : {t : Token} {s rest u : Text} → Goes 0 all_functions 0 all_functions s rest → Takes 0 symbols.Functions t rest u → Goes 0 all_functions 0 (rest_of_function ++ all_functions) s u
function_goes {t} {s} {rest} {u} g p = and_token g (takes_this Fn (fn_only t p.taken) p)

pub one_more_function : {fs : List Procedure} {t : Token} {s rest u v : Text} (f : Procedure) → FunctionsSoFar fs s rest → Takes 0 symbols.Functions t rest u
    → Reads 0 rest_of_function (After (Stands Fn) (FunctionAt f)) 0 [] u v → FunctionsSoFar (fs ++ f ∷ []) s v
one_more_function {fs} {t} {s} {rest} {u} {v} f p q r = let word = takes_this Fn (fn_only t q.taken) q in
    one_more f 0 all_functions FunctionsAt v p (λ more z w. (v, r.stands rest word.stands, w)) (and_parts rest_of_function all_functions [] (function_goes p.goes q) r.goes)

pub function_less : {t : Token} {rest u v : Text} {P : Standing} → Takes 0 symbols.Functions t rest u → Reads 0 rest_of_function P 0 [] u v → length v < length rest
function_less {t} {rest} {u} {v} {P} q r = omega (arith, token_less t rest u q.stands, r.goes.shorter)

pub function_fails : {fs : List Procedure} {t : Token} {s rest u : Text} (e : ParseError) → FunctionsSoFar fs s rest → Takes 0 symbols.Functions t rest u → Fails 0 rest_of_function u e → Fails 0 all_functions s e
function_fails {fs} {t} {s} {rest} {u} e p q f = fails_among rest_of_function all_functions e (function_goes p.goes q) f

pub functions_end : {fs : List Procedure} {s rest : Text} → FunctionsSoFar fs s rest → gap true Outside rest ≡ true → IsAccepted fs s
functions_end {fs} {s} {rest} p g = ((rest, all_read rest p refl, g), whole_shallow s (p.goes.runs [] ∙ gap_whole rest g))
