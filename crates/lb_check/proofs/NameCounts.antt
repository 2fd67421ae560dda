-- A function names no more variables than it has parts.
use Rattle.std.proofs.Common.{◌≡◌, ◌+◌, ◌≤◌, List, [], ◌∷◌, ◌++◌, length, map, sum, arith, length-append}
use Rattle.std.proofs.lemmas.List.Sums.{sum_by-cons}
use Rattle.lb_syntax.specs.Tree.{Term, Number, Variable, Loaded, Operation, Procedure}
use Rattle.lb_syntax.specs.Tree.{Command, Skips, Sets, Unsets, Stores, Allocates, Chooses, Repeats, Calls, Interacts, Ends, Then}
use Rattle.lb_syntax.specs.Needs.{nodes, term_names, terms_names, command_names, procedure_names}
use Rattle.lb_check.specs.Parts.{body_parts, function_parts}

few_in_term : (e : Term) → length (term_names e) ≤ nodes e
few_in_term (Number n) = omega arith
few_in_term (Variable x) = omega arith
few_in_term (Loaded w a) = let h = few_in_term a in omega (arith, h)
few_in_term (Operation op l r) = let h = few_in_term l in let k = few_in_term r in omega (arith, h, k, length-append (term_names l) (term_names r))

few_in_terms : (es : List Term) → length (terms_names es) ≤ sum (map nodes es)
few_in_terms [] = omega arith
few_in_terms (e ∷ es) =
    let h = few_in_term e in let k = few_in_terms es in
    let s : sum (map nodes (e ∷ es)) ≡ nodes e + sum (map nodes es) = sum_by-cons (λ n. n) (nodes e) (map nodes es) in
    omega (arith, h, k, s, length-append (term_names e) (terms_names es))

pub few_in_command : (c : Command) → length (command_names c) ≤ body_parts c
few_in_command Skips = omega arith
few_in_command (Sets x e) = let h = few_in_term e in omega (arith, h)
few_in_command (Unsets x) = omega arith
few_in_command (Stores w a e) = let h = few_in_term a in let k = few_in_term e in omega (arith, h, k, length-append (term_names a) (term_names e))
few_in_command (Allocates n x b) = let h = few_in_command b in omega (arith, h)
few_in_command (Chooses e b d) =
    let h = few_in_term e in let k = few_in_command b in let m = few_in_command d in
    omega (arith, h, k, m, length-append (term_names e) (command_names b ++ command_names d), length-append (command_names b) (command_names d))
few_in_command (Repeats e b) = let h = few_in_term e in let k = few_in_command b in omega (arith, h, k, length-append (term_names e) (command_names b))
few_in_command (Calls xs f es) = let h = few_in_terms es in omega (arith, h, length-append xs (terms_names es))
few_in_command (Interacts xs k es) = let h = few_in_terms es in omega (arith, h, length-append xs (terms_names es))
few_in_command Ends = omega arith
few_in_command (Then c b) = let h = few_in_command c in let k = few_in_command b in omega (arith, h, k, length-append (command_names c) (command_names b))

pub few_in_function : (f : Procedure) → length (procedure_names f) ≤ function_parts f
few_in_function f =
    let h = few_in_command f.body in
    omega (arith, h, length-append f.params (f.results ++ command_names f.body), length-append f.results (command_names f.body))
