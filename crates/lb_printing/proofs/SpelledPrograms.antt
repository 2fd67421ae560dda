-- The canonical text of a program is a text of it, and it is accepted where its brackets are few.
use Rattle.std.proofs.Common.{◌≡◌, ◌≤◌, true, List, [], ◌∷◌, ◌++◌, refl, append_assoc}
use Rattle.std.specs.Prelude.{All}
use Rattle.std.specs.List.{AllByRecursion}
use Rattle.std.proofs.lemmas.List.Elements.{recursion_from_All}
use Rattle.lb_syntax.specs.Names.{Text, IsName}
use Rattle.lb_syntax.specs.Tree.{Procedure}
use Rattle.lb_syntax.specs.WellFormed.{IsProcedure}
use Rattle.lb_syntax.specs.Printing.{procedure_text, program_text}
use Rattle.lb_syntax.specs.Brackets.{most_brackets, brackets}
use Rattle.lb_spelling.specs.Tokens.{Outside}
use Rattle.lb_spelling.specs.Grammar.{FunctionAt, FunctionsAt, IsText}
use Rattle.lb_spelling.specs.Places.{IsShallow, IsAccepted}
use Rattle.lb_printing.proofs.Spelled.{is_blanks, is_calm, line_end, blanks_gap, blanks_append, Lined, next, on_line, same_line}
use Rattle.lb_printing.proofs.SpelledWords.{name, fn_word, open_paren, close_paren}
use Rattle.lb_printing.proofs.SpelledTerms.{spaced, names_then, results_then}
use Rattle.lb_printing.proofs.SpelledCommands.{braced, block}
use Rattle.lb_printing.proofs.Shallow.{calm_within}

procedure : (f : Procedure) → IsProcedure f → Lined (FunctionAt f) (procedure_text f)
procedure f h =
    let body = results_then f.results (recursion_from_All IsName f.results h.results) (braced f.body (block f.body h.body 1 0)) in
    let params = names_then f.params (recursion_from_All IsName f.params h.params) (λ rest. refl) (next close_paren (λ rest. refl) body) in
    same_line _ (on_line 0 (next fn_word (λ rest. refl) (spaced (next (name f.name h.name) (λ rest. refl) (next open_paren (λ rest. refl) params))))) (simp append_assoc)

functions : (p : List Procedure) → AllByRecursion IsProcedure p → (before : Text) → is_blanks before ≡ true
    → (rest : Text) × FunctionsAt p (before ++ program_text p) rest × (is_blanks rest ≡ true)
functions [] h before g = (before ++ [], refl, blanks_append before [] g refl)
functions (f ∷ p) h before g =
    let tail = functions p h.1 (10 ∷ []) line_end in
    (tail.0, (10 ∷ program_text p, (procedure f h.0).at before (program_text p) g, tail.1), tail.2)

functions_calm : (p : List Procedure) → AllByRecursion IsProcedure p → is_calm (program_text p) Outside ≡ true
functions_calm [] h = refl
functions_calm (f ∷ p) h = (procedure f h.0).calm (program_text p) (functions_calm p h.1)

pub is_text : (p : List Procedure) → All IsProcedure p → IsText p (program_text p)
is_text p h =
    let t = functions p (recursion_from_All IsProcedure p h) [] refl in
    (t.0, t.1, blanks_gap true t.0 t.2)

pub is_shallow : (p : List Procedure) → All IsProcedure p → brackets p ≤ most_brackets → IsShallow (program_text p)
is_shallow p h few = calm_within most_brackets (program_text p) Outside 0 (functions_calm p (recursion_from_All IsProcedure p h)) few

pub is_accepted : (p : List Procedure) → All IsProcedure p → brackets p ≤ most_brackets → IsAccepted p (program_text p)
is_accepted p h few = (is_text p h, is_shallow p h few)
