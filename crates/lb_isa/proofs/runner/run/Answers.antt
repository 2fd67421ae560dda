use Rattle.std.proofs.Common.{◌<◌, ◌-◌, List, ℕ, sym, ap, ◌∙◌, subst, arith}
use Rattle.lb_steps.proofs.RunLemmas.{run-still}
use Rattle.lb_isa.specs.State.{RunState}
use Rattle.lb_isa.specs.Moves.{move}
use Rattle.lb_isa.specs.Runs.{ending_after}
use Rattle.lb_isa.specs.InternalSteps.{Advances, RunnerContent, run_of}
use Rattle.lb_isa.proofs.RunLemmas.{run_moves_on, ending_after_fewer}
use Rattle.lb_isa.proofs.MoveLemmas.{move_committed}
use Rattle.lb_isa.proofs.runner.run.Goals as goal

pub returns-in-Some-clause-trace : goal.returns-in-Some-clause-trace
returns-in-Some-clause-trace c =
    let code = c.args.code.now in
    let old = c.loop-runner.runner in
    let new = c.advance.new.self in
    let advances = subst (λ (l : List ℕ). Advances l (run_of old) (run_of new) c.in_ok-ending.field-0) c.loop-runner.invariant.code c.in_ok-ending.ensures.run in
    let stop = subst (Advances code (run_of old) (run_of new)) c.in-Some.is advances in
    let ends = c.loop-runner.invariant.same ∙ run-still (move code) (c.args.limit - old.committed) (run_of old) stop.0 in
    ap (λ r. r.trace) c.into_run.ensures ∙ ap (λ (s : RunState). s.trace) (stop.1 ∙ sym ends)

pub returns-in-Some-clause-committed : goal.returns-in-Some-clause-committed
returns-in-Some-clause-committed c =
    let code = c.args.code.now in
    let old = c.loop-runner.runner in
    let new = c.advance.new.self in
    let advances = subst (λ (l : List ℕ). Advances l (run_of old) (run_of new) c.in_ok-ending.field-0) c.loop-runner.invariant.code c.in_ok-ending.ensures.run in
    let stop = subst (Advances code (run_of old) (run_of new)) c.in-Some.is advances in
    let ends = c.loop-runner.invariant.same ∙ run-still (move code) (c.args.limit - old.committed) (run_of old) stop.0 in
    ap (λ r. r.committed) c.into_run.ensures ∙ ap (λ (s : RunState). s.committed) (stop.1 ∙ sym ends)

pub returns-in-Some-clause-ending : goal.returns-in-Some-clause-ending
returns-in-Some-clause-ending c =
    let code = c.args.code.now in
    let old = c.loop-runner.runner in
    let new = c.advance.new.self in
    let below : old.committed < c.args.limit = omega (arith, c.loop-runner-test.true, ap (λ (r : RunnerContent). r.committed) c.runner.view_is) in
    let advances = subst (λ (l : List ℕ). Advances l (run_of old) (run_of new) c.in_ok-ending.field-0) c.loop-runner.invariant.code c.in_ok-ending.ensures.run in
    let stop = subst (Advances code (run_of old) (run_of new)) c.in-Some.is advances in
    let ends = c.loop-runner.invariant.same ∙ run-still (move code) (c.args.limit - old.committed) (run_of old) stop.0 in
    ap (λ r. r.ending) c.into_run.ensures ∙ stop.2 ∙ sym (ending_after_fewer code c.args.limit (run_of old) below)
    ∙ ap (ending_after code c.args.limit) (sym ends)

pub loop-runner-smaller : goal.loop-runner-smaller
loop-runner-smaller c =
    let old = c.loop-runner.runner in
    let new = c.advance.new.self in
    let below : old.committed < c.args.limit = omega (arith, c.loop-runner-test.true, ap (λ (r : RunnerContent). r.committed) c.runner.view_is) in
    let goes = subst (Advances old.isa.code (run_of old) (run_of new)) c.in_default.is c.in_ok-ending.ensures.run in
    omega (arith, move_committed old.isa.code (run_of old) (run_of new) goes, below)

pub loop-runner-preserved : goal.loop-runner-preserved
loop-runner-preserved c =
    let code = c.args.code.now in
    let old = c.loop-runner.runner in
    let new = c.advance.new.self in
    let below : old.committed < c.args.limit = omega (arith, c.loop-runner-test.true, ap (λ (r : RunnerContent). r.committed) c.runner.view_is) in
    let advances = subst (λ (l : List ℕ). Advances l (run_of old) (run_of new) c.in_ok-ending.field-0) c.loop-runner.invariant.code c.in_ok-ending.ensures.run in
    let goes = subst (Advances code (run_of old) (run_of new)) c.in_default.is advances in
    record {
      code = c.in_ok-ending.ensures.code ∙ c.loop-runner.invariant.code;
      within = omega (arith, move_committed code (run_of old) (run_of new) goes, below);
      same = c.loop-runner.invariant.same ∙ run_moves_on code c.args.limit (run_of old) (run_of new) below goes;
    }
