use Rattle.std.proofs.Common.{ℕ, List, ◌++◌, drop, map}
use Rattle.std.specs.List.{AllByRecursion}
use Rattle.lb_syntax.specs.Tree.{procedure_of}
use Rattle.lb_syntax.specs.Rules.{function_names}
use Rattle.lb_syntax.specs.WellFormed.{IsProcedure}
use Rattle.lb_flat.specs.Code.{Routine}
use Rattle.lb_flat.specs.Flat.{flat_routine}
use Rattle.lb_flat.specs.InternalFlatForms.{AreFlatForms}
use Rattle.lb_flat.specs.InternalFlatten.{IsCountable}
use Rattle.lb_flat.proofs.flattening.flatten_functions.Given as goal

-- with flat forms of what is left, those so far are flat forms of all; all are well-formed if the rest are
abbrev pub invariant-loop-f : goal.invariant-loop-f
invariant-loop-f l =
    let whole = map procedure_of l.functions in
    let left = map procedure_of (drop l.f-index l.functions) in
    record {
      forms : (gs : List (Routine ℕ)) → AreFlatForms (function_names whole) left gs → AreFlatForms (function_names whole) whole (map flat_routine l.made ++ gs);
      countable : AllByRecursion IsCountable left;
      well_formed : AllByRecursion IsProcedure left → AllByRecursion IsProcedure whole;
    }
