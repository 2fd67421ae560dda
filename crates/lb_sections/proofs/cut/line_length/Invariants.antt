use Rattle.std.proofs.Common.{◌≢◌, ◌<◌, ℕ, get_or}
use Rattle.lb_sections.proofs.cut.line_length.Given as goal

-- none of the bytes before this place is a line feed
abbrev pub invariant-loop-place : goal.invariant-loop-place
invariant-loop-place l = (k : ℕ) → k < l.place → get_or l.rest k 0 ≢ 10
