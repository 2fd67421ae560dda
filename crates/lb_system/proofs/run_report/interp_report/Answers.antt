use Rattle.std.proofs.Common.{ap, ◌∙◌}
use Rattle.std.proofs.lemmas.Result.{IfOk-weaker}
use Rattle.lb_syntax.specs.Tree.{program_of}
use Rattle.lb_source.specs.Source.{src}
use Rattle.lb_system.specs.RunReport.{source_text}
use Rattle.lb_system.proofs.run_report.interp_report.Goals as goal

pub returns : goal.returns
returns c =
    let run = c.in_ok-ran.ensures ∙ ap (λ fuel. src (program_of c.args.program.now) c.args.image.now.layout fuel c.args.replies.now) c.from-fuel.ensures in
    IfOk-weaker c.source_report.result _ _ (λ text h. h ∙ ap (source_text c.args.job.now.trace) run) c.source_report.ensures
