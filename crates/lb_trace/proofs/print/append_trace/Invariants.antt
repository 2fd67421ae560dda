use Rattle.std.proofs.Common.{◌≡◌, ◌+◌, ◌-◌, ◌*◌, ◌≤◌, ◌++◌, length, take, vec_len, vec_capacity}
use Rattle.lb_trace.specs.TraceText.{trace_text}
use Rattle.lb_trace.proofs.print.append_trace.Given as goal

-- the text of the events so far is there, and the room for the others
abbrev pub invariant-loop-event : goal.invariant-loop-event
invariant-loop-event l = record {
  added : l.text.items ≡ l.fn.text.items ++ trace_text (take l.event-index l.trace);
  room : vec_len l.text + 21 * (length l.trace - l.event-index) ≤ vec_capacity l.text;
}
