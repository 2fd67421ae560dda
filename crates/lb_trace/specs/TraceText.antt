-- The text of a trace.
use Rattle.std.specs.Prelude.{ℕ, List, ◌++◌, codes, flat_map}
use Rattle.lb_trace.specs.declared.Event.{Event}
use Rattle.lb_trace.specs.declared.Event.TheVariants.{Ld, St}
use Rattle.lb_trace.specs.Hex.{hex_word}

-- a line of a word and a space, an address and a value
abbrev pub access_line : List ℕ → ℕ → ℕ → List ℕ
access_line word addr value = word ++ hex_word addr ++ codes " " ++ hex_word value ++ codes "\n"

-- an event's line
abbrev pub event_line : Event → List ℕ
event_line (Ld addr value) = access_line (codes "ld ") addr value
event_line (St addr value) = access_line (codes "st ") addr value

-- a line for each event, in order
abbrev pub trace_text : List Event → List ℕ
trace_text = flat_map event_line
