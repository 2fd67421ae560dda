-- A seed decides all that a single worker adds.
use Rattle.std.proofs.Common.{◌≡◌, ℕ, Some, None, refl, sym, ◌∙◌}
use Rattle.lb_machine.specs.State.{Job}
use Rattle.lb_machine.specs.Machines.{IsBooted, IsReplay, MachineContent}
use Rattle.lb_crew.specs.Crews.{Finishes}
use Rattle.lb_crew.specs.Drawn.{IsDrawnUntil}
use Rattle.lb_crew.specs.Laws.{RunsAlone}
use Rattle.lb_crew.proofs.SeedLemmas.{seed_decides}

crew_of_one : (seed : ℕ) (booted ended : MachineContent) → Finishes seed 1 booted ended → RunsAlone None seed booted ended
crew_of_one seed booted ended f = record { fixed = f.fixed; drawn = f.drawn refl; replay = f.replay }

pub one_crew_log : (seed max : ℕ) (on : Job) (b e c f : MachineContent) → IsBooted on max b → IsBooted on max c
    → Finishes seed 1 b e → Finishes seed 1 c f → e.log ≡ f.log
one_crew_log seed max on b e c f bb bc p q =
    (seed_decides None seed c f b e (bb.0 ∙ sym bc.0) (bb.1 ∙ sym bc.1) (crew_of_one seed c f q) (crew_of_one seed b e p)).0

pub one_trace_until : (events seed max : ℕ) (on : Job) (b e c f : MachineContent) → IsBooted on max b → IsBooted on max c
    → e.fixed ≡ b.fixed → f.fixed ≡ c.fixed → IsDrawnUntil events seed b e → IsDrawnUntil events seed c f → IsReplay e → IsReplay f → e.trace ≡ f.trace
one_trace_until events seed max on b e c f bb bc se sf p q re rf =
    (seed_decides (Some events) seed c f b e (bb.0 ∙ sym bc.0) (bb.1 ∙ sym bc.1) (record { fixed = sf; drawn = q; replay = rf })
    (record { fixed = se; drawn = p; replay = re })).1
