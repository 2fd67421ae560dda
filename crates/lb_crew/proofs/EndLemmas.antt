-- How a machine has ended, told from a refusal.
use Rattle.std.proofs.Common.{◌≡◌, ◌≤◌, ℕ, zero, suc, true, is_none, List, [], ◌∷◌, length, take, Some, refl, ap, subst, inl, inr, arith}
use Rattle.std.proofs.lemmas.List.{length-take-le}
use Rattle.lb_trace.specs.declared.Entry.{Entry}
use Rattle.lb_trace.specs.declared.Kind.{Kind}
use Rattle.lb_rv.specs.declared.instr.Cause.{Cause}
use Rattle.lb_board.specs.Rows.{by_bytes}
use Rattle.lb_machine.specs.declared.fault.NotFired.{NotFired}
use Rattle.lb_machine.specs.declared.fault.NotFired.TheVariants.{Halted, Full, GuardFalse}
use Rattle.lb_machine.specs.State.{MachineState, booted_machine}
use Rattle.lb_machine.specs.Rows.{after}
use Rattle.lb_machine.specs.Logs.{IsLegalFrom, replayed_from}
use Rattle.lb_machine.specs.Machines.{IsReplay, MachineContent}
use Rattle.lb_machine.specs.Refusals.{Refuses, halted_after}
use Rattle.lb_machine.proofs.EnabledLemmas.{enabled_goes}
use Rattle.lb_crew.specs.Drawn.{HasEnded}
use Rattle.lb_crew.specs.InternalCrew.{IsEnd}

halted_is_no_none : (s : MachineState) (cause : Cause) → s.core.halted ≡ Some cause → is_none s.core.halted ≡ true → ⊥
halted_is_no_none s cause h none = cc (h, none)

-- nothing follows where the core is halted
nothing_follows : (s : MachineState) (es : List Entry) (n : ℕ) (cause : Cause) → IsLegalFrom s es
    → (replayed_from s (take n es)).core.halted ≡ Some cause → take n es ≡ es
nothing_follows s [] zero cause l h = refl
nothing_follows s [] (suc n) cause l h = refl
nothing_follows s (x ∷ es) zero cause l h = absurd (halted_is_no_none s cause h (enabled_goes s x.kind l.0))
nothing_follows s (x ∷ es) (suc n) cause l h =
    ap (λ (t : List Entry). x ∷ t) (nothing_follows (after by_bytes s x.kind) es n cause l.1 h)

-- an act was refused, after so many entries of the log, since the machine had ended
pub ended_by : (m : MachineContent) (seen : ℕ) (kind : Kind) (why : NotFired) → IsReplay m → IsEnd why → seen ≤ length m.log
    → Refuses m.fixed (take seen m.log) kind why → HasEnded m
ended_by m seen kind (Halted cause) r e within h =
    inr (
      cause,
      subst (λ (l : List Entry). halted_after m.fixed.job l ≡ Some cause)
          (nothing_follows (booted_machine m.fixed.job) m.log seen cause r.legal h) h,
    )
ended_by m seen kind Full r e within h =
    let all = length-take-le seen m.log within in
    let full = h.1 in
    let fits = r.fits in
    inl (omega (arith, all, full, fits, within))
ended_by m seen kind GuardFalse r e within h = absurd e
