use Rattle.std.proofs.Common.{◌≡◌, ◌≤◌, drop}
use Rattle.std.specs.Prelude.{map, max}
use Rattle.std.specs.List.{AllByRecursion}
use Rattle.lb_syntax.specs.Tree.{procedure_of}
use Rattle.lb_syntax.specs.WellFormed.{IsProcedure}
use Rattle.lb_syntax.specs.Parts.{program_parts}
use Rattle.lb_syntax.specs.InternalNesting.{program_nest}
use Rattle.lb_syntax.proofs.nesting.of_functions.Given as goal

-- the rest has what the count lacks, and it is well-formed if the rest is
abbrev pub invariant-loop-function : goal.invariant-loop-function
invariant-loop-function l =
    let rest = map procedure_of (drop l.function-index l.functions) in
    let whole = map procedure_of l.functions in
    record {
      counted : max l.most (program_nest rest) ≡ program_nest whole;
      few : program_parts rest ≤ program_parts whole;
      well_formed : AllByRecursion IsProcedure rest → AllByRecursion IsProcedure whole;
    }
