-- Laws of values.
use Rattle.std.proofs.Common.{ℕ, List, ◌++◌, Result, Ok, Err}
use Rattle.lb_source.specs.declared.ends.Reason.{Reason}

-- these values and then others
abbrev pub after : List ℕ → Result (List ℕ) Reason → Result (List ℕ) Reason
after vs (Ok ws) = Ok (vs ++ ws)
after vs (Err reason) = Err reason
