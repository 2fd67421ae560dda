use Rattle.std.proofs.Common.{map}
use Rattle.lb_syntax.specs.Tree.{procedure_of}
use Rattle.lb_check.specs.declared.rule.Rule.TheVariants.{FunctionCount}
use Rattle.lb_check.proofs.Settled.{kept_more, broken_more}
use Rattle.lb_check.proofs.rules.check_rules.Goals as goal

pub loop-rule-preserved : goal.loop-rule-preserved
loop-rule-preserved c =
    let p = map procedure_of c.args.functions.now in record {
      kept = kept_more p c.args.rules.now c.loop-rule.rule-index FunctionCount c.loop-rule-test.true c.in_ok-check_rule.ensures c.loop-rule.invariant.kept;
      broken = broken_more p c.args.rules.now c.loop-rule.rule-index FunctionCount c.loop-rule-test.true c.in_ok-check_rule.ensures c.loop-rule.invariant.broken;
    }
