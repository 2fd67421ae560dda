-- A program has no more parts than its text has bytes: each part has a token, and each token a byte.
use Rattle.std.proofs.Common.{◌≡◌, ℕ, ◌+◌, ◌≤◌, List, [], ◌∷◌, ◌++◌, length, length-append, map, sum, Some, None, inl, inr, ap, arith}
use Rattle.std.proofs.lemmas.List.Sums.{sum_by-cons}
use Rattle.lb_syntax.specs.Names.{Text, is_reserved}
use Rattle.lb_syntax.specs.Tree.{Term, Number, Variable, Loaded, Operation, Procedure}
use Rattle.lb_syntax.specs.Tree.{Command, Skips, Sets, Unsets, Stores, Allocates, Chooses, Repeats, Calls, Interacts, Ends, Then}
use Rattle.lb_syntax.specs.Needs.{nodes}
use Rattle.lb_spelling.specs.Tokens.{Token, Named, Stands, lexeme, same, begins_with, is_number, is_numeral, is_hex}
use Rattle.lb_spelling.specs.Grammar.{TermAt, MoreAt, NameAt, NamesAt, ArgumentsAt, TargetsAt, CallAt, CommandAt, CommandsAt, BlockAt, ElseAt, ResultsAt, FunctionAt, FunctionsAt, IsText}
use Rattle.lb_check.specs.Parts.{body_parts, function_parts, parts}

-- no token is spelled by no byte
no_empty_token : (t : Token) → lexeme [] ≡ Some t → ⊥
unfolding lexeme same begins_with is_number is_numeral is_hex is_reserved
no_empty_token t e = let none : None ≡ Some t = e in cc

word_size : (word : Text) (t : Token) → lexeme word ≡ Some t → 1 ≤ length word
word_size [] t e = absurd (no_empty_token t e)
word_size (b ∷ word) t e = omega arith

token_size : {t : Token} {s rest : Text} → Stands t s rest → 1 + length rest ≤ length s
token_size {t} {s} {rest} h =
    let one = word_size h.word t h.spelled in
    omega (arith, ap length h.parts, length-append h.before (h.word ++ rest), length-append h.word rest)

sum_more : {A : Type 0} (f : A → ℕ) (x : A) (xs : List A) → sum (map f (x ∷ xs)) ≡ f x + sum (map f xs)
sum_more f x xs = sum_by-cons (λ n. n) (f x) (map f xs)

term_size : (e : Term) (s rest : Text) → TermAt e s rest → nodes e + length rest ≤ length s
term_size (Number n) s rest h = token_size h
term_size (Variable x) s rest h = token_size h
term_size (Loaded w a) s rest h =
    omega (arith, token_size h.1, token_size h.2.1, term_size a h.2.0 h.2.2.0 h.2.2.1, token_size h.2.2.2)
term_size (Operation op l r) s rest h =
    omega (arith, token_size h.1, term_size l h.0 h.2.0 h.2.1, token_size h.2.2.1, term_size r h.2.2.0 h.2.2.2.0 h.2.2.2.1, token_size h.2.2.2.2)

more_names_size : (xs : List Text) (s rest : Text) → MoreAt NameAt xs s rest → length xs + length rest ≤ length s
more_names_size [] s rest h = omega (arith, ap length h)
more_names_size (x ∷ xs) s rest h = omega (arith, token_size h.1, token_size h.2.1, more_names_size xs h.2.0 rest h.2.2)

names_size : (xs : List Text) (s rest : Text) → NamesAt xs s rest → length xs + length rest ≤ length s
names_size [] s rest h = omega (arith, ap length h)
names_size (x ∷ xs) s rest h = omega (arith, token_size h.1, more_names_size xs h.0 rest h.2)

more_terms_size : (es : List Term) (s rest : Text) → MoreAt TermAt es s rest → sum (map nodes es) + length rest ≤ length s
more_terms_size [] s rest h = omega (arith, ap length h)
more_terms_size (e ∷ es) s rest h =
    omega (arith, sum_more nodes e es, token_size h.1, term_size e h.0 h.2.0 h.2.1, more_terms_size es h.2.0 rest h.2.2)

terms_size : (es : List Term) (s rest : Text) → ArgumentsAt es s rest → sum (map nodes es) + length rest ≤ length s
terms_size [] s rest h = omega (arith, ap length h)
terms_size (e ∷ es) s rest h = omega (arith, sum_more nodes e es, term_size e s h.0 h.1, more_terms_size es h.0 rest h.2)

targets_size : (xs : List Text) (s rest : Text) → TargetsAt xs s rest → length xs + length rest ≤ length s
targets_size [] s rest h = omega (arith, ap length h)
targets_size (x ∷ xs) s rest h = omega (arith, names_size (x ∷ xs) s h.0 h.1, token_size h.2)

call_size : (callee : Token) (es : List Term) (s rest : Text) → CallAt callee es s rest → 1 + sum (map nodes es) + length rest ≤ length s
call_size callee es s rest h = omega (arith, token_size h.1, token_size h.2.1, terms_size es h.2.0 h.2.2.0 h.2.2.1, token_size h.2.2.2.1, token_size h.2.2.2.2)

-- a block, whose commands are no more than their bytes
braced_size : (b : Command) (s rest : Text) → ((t r : Text) → CommandsAt b t r → body_parts b + length r ≤ length t) → BlockAt b s rest → body_parts b + length rest ≤ length s
braced_size b s rest small h = omega (arith, token_size h.1, small h.0 rest h.2)

otherwise_size : (d : Command) (s rest : Text) → ((t r : Text) → CommandsAt d t r → body_parts d + length r ≤ length t) → ElseAt d s rest → body_parts d + length rest ≤ length s
otherwise_size d s rest small h =
    elim h [
      | inl some ↦ omega (arith, token_size some.1, braced_size d some.0 rest small some.2)
      | inr none ↦ omega (arith, ap body_parts none.0, ap length none.1)
    ]

mutual
  command_size : (c : Command) (s rest : Text) → CommandAt c s rest → body_parts c + length rest ≤ length s
  command_size Skips s rest h = omega (arith, token_size h.1, token_size h.2)
  command_size (Sets x e) s rest h = omega (arith, token_size h.1, token_size h.2.1, term_size e h.2.0 h.2.2.0 h.2.2.1, token_size h.2.2.2)
  command_size (Unsets x) s rest h = omega (arith, token_size h.1, token_size h.2.1, token_size h.2.2)
  command_size (Stores w a e) s rest h =
      omega (
        arith,
        token_size h.1,
        token_size h.2.1,
        term_size a h.2.0 h.2.2.0 h.2.2.1,
        token_size h.2.2.2.1,
        term_size e h.2.2.2.0 h.2.2.2.2.0 h.2.2.2.2.1,
        token_size h.2.2.2.2.2.1,
        token_size h.2.2.2.2.2.2,
      )
  command_size (Allocates n x b) s rest h =
      omega (arith, token_size h.1, token_size h.2.1, token_size h.2.2.1, token_size h.2.2.2.1, braced_size b h.2.2.2.0 rest (commands_size b) h.2.2.2.2)
  command_size (Chooses e b d) s rest h =
      omega (arith, token_size h.1, term_size e h.0 h.2.0 h.2.1, braced_size b h.2.0 h.2.2.0 (commands_size b) h.2.2.1, otherwise_size d h.2.2.0 rest (commands_size d) h.2.2.2)
  command_size (Repeats e b) s rest h = omega (arith, token_size h.1, term_size e h.0 h.2.0 h.2.1, braced_size b h.2.0 rest (commands_size b) h.2.2)
  command_size (Calls xs f es) s rest h = omega (arith, targets_size xs s h.0 h.1, call_size (Named f) es h.0 rest h.2)
  command_size (Interacts xs k es) s rest h = omega (arith, targets_size xs s h.0 h.1, call_size _ es h.0 rest h.2)
  command_size Ends s rest h = absurd h
  command_size (Then c b) s rest h = absurd h

  commands_size : (b : Command) (s rest : Text) → CommandsAt b s rest → body_parts b + length rest ≤ length s
  commands_size Ends s rest h = omega (arith, token_size h)
  commands_size (Then c b) s rest h = omega (arith, command_size c s h.0 h.1, commands_size b h.0 rest h.2)
  commands_size _ s rest h = absurd h

results_size : (xs : List Text) (s rest : Text) → ResultsAt xs s rest → length xs + length rest ≤ length s
results_size [] s rest h = omega (arith, ap length h)
results_size (x ∷ xs) s rest h = omega (arith, token_size h.1, token_size h.2.1, names_size (x ∷ xs) h.2.0 h.2.2.0 h.2.2.1, token_size h.2.2.2)

function_size : (f : Procedure) (s rest : Text) → FunctionAt f s rest → function_parts f + length rest ≤ length s
function_size f s rest h =
    let behind = h.2.2.2.2.2 in
    omega (
      arith,
      token_size h.1,
      token_size h.2.1,
      token_size h.2.2.1,
      names_size f.params h.2.2.0 h.2.2.2.0 h.2.2.2.1,
      token_size h.2.2.2.2.1,
      results_size f.results h.2.2.2.2.0 behind.0 behind.1,
      braced_size f.body behind.0 rest (commands_size f.body) behind.2,
    )

functions_size : (fs : List Procedure) (s rest : Text) → FunctionsAt fs s rest → parts fs + length rest ≤ length s
functions_size [] s rest h = omega (arith, ap length h)
functions_size (f ∷ fs) s rest h = omega (arith, sum_more function_parts f fs, function_size f s h.0 h.1, functions_size fs h.0 rest h.2)

pub text_size : (p : List Procedure) (s : Text) → IsText p s → parts p ≤ length s
text_size p s h = omega (arith, functions_size p s h.0 h.1)
