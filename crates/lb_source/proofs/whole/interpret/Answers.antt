use Rattle.std.proofs.Common.{◌≡◌, List, ap, sym, ◌∙◌, subst, arith}
use Rattle.lb_syntax.specs.Tree.{program_of}
use Rattle.lb_trace.specs.declared.Event.{Event}
use Rattle.lb_source.specs.InternalMachine.{FollowsWhole, functions_of}
use Rattle.lb_source.specs.Run.{Callable, State}
use Rattle.lb_source.specs.Source.{callables, whole}
use Rattle.lb_source.specs.declared.ends.SourceRun.{SourceRun}
use Rattle.lb_source.proofs.FrameFacts.{frames_fit}
use Rattle.lb_source.proofs.whole.interpret.Goals as goal

pub new-interpreter-requires : goal.new-interpreter-requires
new-interpreter-requires c =
    rw c.program.ensures.program (frames_fit c.args.layout.now.frames (program_of c.args.program.now) c.requires c.program.ensures.rules.limits.frames)

pub returns : goal.returns
returns c =
    let m = c.in_ok-m.m in
    let i = c.new-interpreter.result in
    let p = callables (program_of c.args.program.now) c.args.layout.now.frames in
    let program : i.program ≡ c.args.program.now = c.new-interpreter.ensures.program ∙ c.program.ensures.program in
    let layout : i.layout ≡ c.args.layout.now = c.new-interpreter.ensures.layout in
    let same : functions_of i ≡ p = λ k. callables (program_of (program k)) (layout k).frames in
    let follows = subst (λ (q : List Callable). FollowsWhole q m c.in_ok-end.end c.run_whole.new.m) same c.in_ok-end.ensures in
    ap (λ (events : List Event). let run : SourceRun = record { trace = events; end = c.in_ok-end.end } in run) c.from_vec.ensures
    ∙ sym (follows c.args.fuel (omega (arith, ap (λ (s : State). s.fuel) c.in_ok-m.ensures)))
    ∙ ap (whole p c.args.fuel) c.in_ok-m.ensures
