-- Steps one after the other, from boot on.
use Rattle.std.specs.Prelude.{◌≡◌, ℕ, true, List, [], ◌∷◌}
use Rattle.lb_trace.specs.declared.Event.{Event}
use Rattle.lb_trace.specs.declared.Kind.{Kind}
use Rattle.lb_core.specs.Rows.{answered, fired, is_enabled}
use Rattle.lb_core.specs.Stands.{with_event}
use Rattle.lb_core.specs.State.{CoreState}

-- a step: a kind that is fired, and the reply of the device that it reads, if it reads one
pub record Step : Type 0 where
  pub kind : Kind
  pub reply : ℕ

-- the core after a step
abbrev pub after_step : CoreState → Step → CoreState
after_step c s = fired c s.kind s.reply

-- the core after steps
abbrev pub after_steps : CoreState → List Step → CoreState
after_steps c [] = c
after_steps c (s ∷ ss) = after_steps (after_step c s) ss

-- each of the steps is enabled when it is fired
abbrev pub AreEnabled : CoreState → List Step → Type 0
AreEnabled c [] = Unit {0}
AreEnabled c (s ∷ ss) = (is_enabled c s.kind ≡ true) × AreEnabled (after_step c s) ss

-- a trace with the events of steps behind
abbrev pub trace_after : List Event → CoreState → List Step → List Event
trace_after t c [] = t
trace_after t c (s ∷ ss) = trace_after (with_event t (answered c s.kind s.reply)) (after_step c s) ss
