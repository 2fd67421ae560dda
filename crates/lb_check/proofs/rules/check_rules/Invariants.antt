use Rattle.std.proofs.Common.{drop, map}
use Rattle.std.specs.List.{AllByRecursion}
use Rattle.lb_syntax.specs.Tree.{procedure_of}
use Rattle.lb_check.specs.declared.fault.CheckFault.{CheckFault}
use Rattle.lb_check.specs.Verdict.{Keeps, IsKept, IsFirstBroken}
use Rattle.lb_check.proofs.rules.check_rules.Given as goal

-- the rules so far are kept: all are kept if those that are left are, and the first fault of those that are left is the first of all
abbrev pub invariant-loop-rule : goal.invariant-loop-rule
invariant-loop-rule l =
    let p = map procedure_of l.functions in
    let left = map Keeps (drop l.rule-index l.rules) in
    let all = map Keeps l.rules in record {
      kept : AllByRecursion (IsKept p) left → AllByRecursion (IsKept p) all;
      broken : (fault : CheckFault) → IsFirstBroken p left fault → IsFirstBroken p all fault;
    }
