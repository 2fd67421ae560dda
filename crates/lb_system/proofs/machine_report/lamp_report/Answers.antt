use Rattle.std.proofs.Common.{sym, subst}
use Rattle.lb_grammar.specs.Forms.{Begins}
use Rattle.lb_grammar.specs.Grammar.{good}
use Rattle.lb_grammar.specs.Rounds.{SaysPrefix}
use Rattle.lb_system.proofs.machine_report.lamp_report.Goals as goal

pub unreachable-requires : goal.unreachable-requires
unreachable-requires c =
    subst SaysPrefix c.in_default.is (c.judge.ensures.prefix.1 (subst (Begins good) (sym c.trace.ensures.value) c.requires))
