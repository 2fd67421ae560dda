use Rattle.std.proofs.Common.{◌≡◌, ◌++◌, drop}
use Rattle.std.specs.Prelude.{map}
use Rattle.std.specs.List.{AllByRecursion}
use Rattle.lb_syntax.specs.Tree.{procedure_of}
use Rattle.lb_syntax.specs.WellFormed.{IsProcedure}
use Rattle.lb_syntax.specs.Printing.{program_text}
use Rattle.lb_printing.proofs.program.add_functions.Given as goal

-- the rest is what the text lacks, and all are functions if the rest are
abbrev pub invariant-loop-function : goal.invariant-loop-function
invariant-loop-function l =
    let rest = map procedure_of (drop l.function-index l.functions) in
    let whole = map procedure_of l.functions in
    record {
      printed : l.text.items ++ program_text rest ≡ l.fn.text.items ++ program_text whole;
      well_formed : AllByRecursion IsProcedure rest → AllByRecursion IsProcedure whole;
    }
