use Rattle.std.proofs.Common.{◌≡◌, List, [], length, min, refl, sym, ap, ◌∙◌}
use Rattle.std.proofs.lemmas.List.{length-map}
use Rattle.lb_trace.specs.declared.Event.{Event}
use Rattle.lb_syntax.specs.Tree.{procedure_of, program_of}
use Rattle.lb_syntax.specs.declared.tree.Program.{Program}
use Rattle.lb_source.specs.Source.{src}
use Rattle.lb_source.specs.declared.ends.SourceRun.{SourceRun}
use Rattle.lb_isa.specs.Runs.{isa}
use Rattle.lb_system.specs.declared.large.Counts.{Counts}
use Rattle.lb_system.specs.LargeReport.{large_fuel, most_counted, most_instructions}
use Rattle.lb_system.proofs.LargeLemmas.{large_shown}
use Rattle.lb_system.proofs.large.gen_mode.Goals as goal

pub returns-clause-made : goal.returns-clause-made
returns-clause-made c =
    let program : Program = c.in_ok-program.program in
    let image = c.in_ok-image.image in
    let trace : List Event = c.as_slice-trace.result.now in
    let counts : Counts = record {
      functions = c.len.result;
      words = c.needs.result.words;
      stack = c.needs-2.result.stack;
      mmio = length trace;
      isa = c.in_ok-code_events.field-0;
      core = c.in_ok-machine_events.field-0;
    } in
    let functions : c.len.result ≡ length (program_of program) =
    c.len.ensures ∙ ap (λ (p : Program). length p.functions) c.program-2.ensures.program ∙ sym (length-map program.functions procedure_of) in
    let ran : trace ≡ (src (program_of program) image.layout large_fuel []).trace = c.as_slice-trace.ensures ∙ ap (λ (r : SourceRun). r.trace) c.in_ok-ran.ensures in
    let code = c.in_ok-code_events.ensures ∙ ap (λ words. min most_counted (length (isa words image.entry [] most_instructions).trace)) c.as_slice.ensures in
    large_shown c.args.job.now (program_of program) image trace counts c.in_ok-report.report.items c.with_image.result c.in_ok-program.ensures.tree c.in_ok-image.ensures
    functions c.needs.ensures.words c.needs-2.ensures.stack ran refl code c.in_ok-machine_events.ensures c.in_ok-report.ensures c.with_image.ensures
