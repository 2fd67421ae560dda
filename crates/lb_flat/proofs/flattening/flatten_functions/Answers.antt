use Rattle.std.proofs.Common.{ℕ, List, [], map, sym, subst, arith, append-nil}
use Rattle.std.proofs.lemmas.List.{at_drop_all}
use Rattle.lb_syntax.specs.declared.tree.Function.{Function}
use Rattle.lb_syntax.specs.Tree.{procedure_of}
use Rattle.lb_syntax.specs.Rules.{function_names}
use Rattle.lb_flat.specs.Code.{Routine}
use Rattle.lb_flat.specs.Flat.{flat_routine}
use Rattle.lb_flat.specs.InternalFlatForms.{AreFlatForms}
use Rattle.lb_flat.proofs.flattening.flatten_functions.Goals as goal

pub returns-clause-forms : goal.returns-clause-forms
returns-clause-forms c =
    let whole = map procedure_of c.args.functions.now in
    let names = function_names whole in
    let none = at_drop_all (λ (fs : List Function). fs) c.args.functions.now c.loop-f.f-index (omega (arith, c.loop-f-test.false)) in
    let ends = subst (λ (fs : List Function). AreFlatForms names (map procedure_of fs) []) (sym none) tt in
    subst (λ (gs : List (Routine ℕ)). AreFlatForms names whole gs) (append-nil (map flat_routine c.loop-f.made)) (c.loop-f.invariant.forms [] ends)
