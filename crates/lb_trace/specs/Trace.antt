-- What a trace says was read.
use Rattle.std.specs.Prelude.{ℕ, List, Option, Some, None, filter_map}
use Rattle.lb_trace.specs.declared.Event.{Event}
use Rattle.lb_trace.specs.declared.Event.TheVariants.{Ld, St}

-- the value that an event read, if it is a read
abbrev pub reply_value : Event → Option ℕ
reply_value (Ld addr value) = Some value
reply_value (St addr value) = None

-- the values that were read, in order
abbrev pub reply_values : List Event → List ℕ
reply_values = filter_map reply_value
