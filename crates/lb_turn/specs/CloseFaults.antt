-- Why a turn wasn't closed.
use Rattle.std.specs.Prelude.{◌≡◌, List}
use Rattle.lb_turn.specs.declared.turn.CloseFault.{CloseFault}
use Rattle.lb_turn.specs.declared.turn.CloseFault.TheVariants.{Missing}
use Rattle.lb_turn.specs.Seats.{SeatView, TurnView}
use Rattle.lb_turn.specs.Closing.{IsMissing}

-- the turn and the seats come back as they were, with the least number that is missing
abbrev pub Refuses : {M F W : Type 0} → TurnView M → List (SeatView W) → CloseFault M F W → Type 0
Refuses o list (Missing turn seats number) =
    (turn ≡ o) × (seats.items ≡ list) × IsMissing o.seats list number
