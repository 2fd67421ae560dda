-- Machines that move from state to state.
use Rattle.std.specs.Prelude.{◌≡◌, ℕ, zero, suc, List, Option, Some}
use Rattle.std.specs.Option.{option_map_or}
use Rattle.lb_trace.specs.Prefix.{IsPrefix}

-- the state after at most n moves: where there is no move it stands still
abbrev pub run : {S : Type 0} → (S → Option S) → ℕ → S → S
run move zero s = s
run move (suc n) s = option_map_or (run move n) (move s) s

-- every move only adds to the trace's end
abbrev pub OnlyExtends : {S E : Type 0} → (S → Option S) → (S → List E) → Type 0
OnlyExtends {S = S} move trace = (s t : S) → move s ≡ Some t → IsPrefix (trace s) (trace t)
