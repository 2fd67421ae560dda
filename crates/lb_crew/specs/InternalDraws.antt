-- For private contracts alone: what one worker does, entry by entry.
use Rattle.std.specs.Prelude.{◌≡◌, ◌<◌, length}
use Rattle.lb_trace.specs.declared.Kind.{Kind}
use Rattle.lb_turn.specs.Entries.{added}
use Rattle.lb_machine.specs.Machines.{MachineContent}
use Rattle.lb_crew.specs.Drawn.{IsFirstEnabled}

-- worker 0 fired the first kind, from `first` on, that could be fired, and there was room
pub record FiresFirst (first : Kind) (old new : MachineContent) : Type 0 where
  pub kind : Kind
  pub is_first : IsFirstEnabled old.fixed.job old.log first kind
  pub log : new.log ≡ added old.log 0 kind
  pub room : length old.log < old.fixed.max_events
