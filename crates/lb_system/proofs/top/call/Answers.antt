use Rattle.std.proofs.Common.{map, sym, subst}
use Rattle.std.specs.Prelude.{string_bytes}
use Rattle.lb_system.specs.Views.{shown_by}
use Rattle.lb_system.specs.Answers.{IsReport, port}
use Rattle.lb_system.proofs.CallLemmas.{refusal_rightly, report_rightly}
use Rattle.lb_system.proofs.Headlines.{report_runs, unreported_runs}
use Rattle.lb_system.proofs.TopLemmas.{told_reason}
use Rattle.lb_system.proofs.top.call.Goals as goal

-- ---- there is a report

pub returns-in-Ok-clause-rightly : goal.returns-in-Ok-clause-rightly
returns-in-Ok-clause-rightly g c =
    let words = map string_bytes c.args.words.now in
    let source = port g.I.Source.left g.I.Source.faults c.args.input.now c.prepare.new.input in
    let sink = port g.O.Sink.held g.O.Sink.faults c.args.output.now c.write_report.new.output in
    let it = shown_by c.write_report.result c.in-Ok.shown.report in
    let made : IsReport c.args.crew.now.workers words source it = subst (IsReport c.args.crew.now.workers words source) (sym c.write_report.ensures.shown) c.in-Ok.ensures.made in
    report_rightly c.args.crew.now.workers words source sink c.write_report.result c.in-Ok.shown.report c.write_report.ensures.status made c.write_report.ensures.report c.in-Ok.ensures.steady
    c.prepare.ensures.source c.write_report.ensures.sink

pub returns-in-Ok-clause-runs : goal.returns-in-Ok-clause-runs
returns-in-Ok-clause-runs g c =
    let words = map string_bytes c.args.words.now in
    let source = port g.I.Source.left g.I.Source.faults c.args.input.now c.prepare.new.input in
    let sink = port g.O.Sink.held g.O.Sink.faults c.args.output.now c.write_report.new.output in
    let it = shown_by c.write_report.result c.in-Ok.shown.report in
    let made : IsReport c.args.crew.now.workers words source it = subst (IsReport c.args.crew.now.workers words source) (sym c.write_report.ensures.shown) c.in-Ok.ensures.made in
    report_runs c.machines_keep.ensures.machines c.lamp_keeps.ensures.lamp c.args.crew.now.workers words source sink c.write_report.result c.in-Ok.shown.report made
    c.write_report.ensures.report

-- ---- there is none

pub returns-in-Err-clause-rightly : goal.returns-in-Err-clause-rightly
returns-in-Err-clause-rightly g c =
    let words = map string_bytes c.args.words.now in
    let source = port g.I.Source.left g.I.Source.faults c.args.input.now c.prepare.new.input in
    let sink = port g.O.Sink.held g.O.Sink.faults c.args.output.now c.refuse.new.output in
    refusal_rightly c.args.crew.now.workers words source sink c.in-Err.refused c.refuse.result c.refuse.ensures.status c.in-Err.ensures.reason c.refuse.ensures.told c.refuse.ensures.line
    c.refuse.ensures.log c.in-Err.ensures.stays c.prepare.ensures.source c.refuse.ensures.sink

pub returns-in-Err-clause-runs : goal.returns-in-Err-clause-runs
returns-in-Err-clause-runs g c =
    let words = map string_bytes c.args.words.now in
    let source = port g.I.Source.left g.I.Source.faults c.args.input.now c.prepare.new.input in
    let sink = port g.O.Sink.held g.O.Sink.faults c.args.output.now c.refuse.new.output in
    let told = told_reason words source c.in-Err.refused c.refuse.result.fault c.refuse.result.image c.in-Err.ensures.reason c.refuse.ensures.told in
    unreported_runs c.args.crew.now.workers words source sink c.refuse.result told
