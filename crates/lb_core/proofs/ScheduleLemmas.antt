-- Steps one after the other.
use Rattle.std.proofs.Common.{◌≤◌, ℕ, ◌+◌, List, [], ◌∷◌, length, arith}
use Rattle.lb_trace.specs.declared.Event.{Event}
use Rattle.lb_trace.specs.declared.Kind.{Kind}
use Rattle.lb_trace.specs.declared.Kind.TheVariants.{Fetch, Decode, Execute, Ram, Mmio, Writeback, Boot, Shift, Arrive}
use Rattle.lb_core.specs.State.{CoreState}
use Rattle.lb_core.specs.Rows.{answered, booted_core}
use Rattle.lb_core.specs.Stands.{Stands, with_event}
use Rattle.lb_core.specs.Potential.{Fits, credit, debt, rise}
use Rattle.lb_core.specs.Schedules.{AreEnabled, Step, after_step, after_steps, trace_after}
use Rattle.lb_core.specs.Laws.{EveryOrderStands, StepsAreBounded}
use Rattle.lb_core.proofs.FrontRows.{booted_stands}
use Rattle.lb_core.proofs.Rows.{rows_stand}
use Rattle.lb_core.proofs.PotentialLemmas.{booted_fits, potential_is_bounded, potential_rises, rows_fit}

steps_stand : (c : CoreState) (t : List Event) (steps : List Step) → AreEnabled c steps → Stands c t → Stands (after_steps c steps) (trace_after t c steps)
steps_stand c t [] on s = s
steps_stand c t (x ∷ xs) on s =
    steps_stand (after_step c x) (with_event t (answered c x.kind x.reply)) xs on.1 (rows_stand c x.kind x.reply on.0 t s)

pub every_order_stands : EveryOrderStands
every_order_stands code entry steps on = steps_stand (booted_core code entry) [] steps on (booted_stands code entry)

rise_least : (kind : Kind) → 1 ≤ rise kind
rise_least Fetch = omega arith
rise_least Decode = omega arith
rise_least Execute = omega arith
rise_least Ram = omega arith
rise_least Mmio = omega arith
rise_least Writeback = omega arith
rise_least Boot = omega arith
rise_least Shift = omega arith
rise_least Arrive = omega arith

-- steps raise the potential by their number at the least, and the queues keep their capacities
record Raise (c d : CoreState) (n : ℕ) : Type 0 where
  fits : Fits d
  rises : credit c + debt d + n ≤ credit d + debt c

steps_raise : (c : CoreState) (steps : List Step) → AreEnabled c steps → Fits c → Raise c (after_steps c steps) (length steps)
steps_raise c [] on f = record { fits = f; rises = omega arith }
steps_raise c (x ∷ xs) on f =
    let one = potential_rises c x.kind x.reply f on.0 in
    let least = rise_least x.kind in
    let rest = steps_raise (after_step c x) xs on.1 (rows_fit c x.kind x.reply f on.0) in
    let more = rest.rises in record { fits = rest.fits; rises = omega (arith, one, least, more) }

pub steps_are_bounded : StepsAreBounded
steps_are_bounded code entry steps on =
    let r = steps_raise (booted_core code entry) steps on (booted_fits code entry) in
    let rises = r.rises in
    let bound = potential_is_bounded (after_steps (booted_core code entry) steps) r.fits in omega (arith, rises, bound)
