-- What contracts see of a turn and of a seat.
use Rattle.std.specs.Prelude.{◌≡◌, ◌≢◌, ℕ, zero, suc, ◌<◌, ◌≤◌, List, [], ◌∷◌, ◌++◌, length, Option, Result, Ok, Err}
use Rattle.atomic_table.specs.Seated.{TableId}
use Rattle.atomic_table.specs.declared.shared.Seat as table
use Rattle.lb_trace.specs.declared.Entry.{Entry}
use Rattle.lb_trace.specs.declared.Kind.{Kind}
use Rattle.lb_turn.specs.declared.table.History.{History}
use Rattle.lb_turn.specs.declared.table.Role.TheVariants.{Owner, Idle}
use Rattle.lb_turn.specs.declared.table.View.{View}
use Rattle.lb_turn.specs.declared.table.Held.{Held}
use Rattle.lb_turn.specs.declared.table.Key.{Key}
use Rattle.lb_turn.specs.declared.seat.TurnFault.{TurnFault}
use Rattle.lb_turn.specs.declared.seat.TurnFault.TheVariants.{Busy, NotFired}
use Rattle.lb_turn.specs.Histories.{fresh, met_by, answered_by}
use Rattle.lb_turn.specs.Steps.{view, number_in, history_in}

-- of which turn it is, how many seats that has, its number and its history
pub record SeatView (W : Type 0) : Type 0 where
  pub turn : TableId
  pub seats : ℕ
  pub number : ℕ
  pub history : History W

-- which turn it is, how many seats it has, and the value that it was opened over
pub record TurnView (M : Type 0) : Type 0 where
  pub turn : TableId
  pub seats : ℕ
  pub value : M

-- a place of the table
abbrev pub Place : Type 0 → Type 0 → Type 0 → Type 0
Place M F W = table.Seat (Option (Held M W)) (View F W)

module _ {M F W : Type 0} where
  -- the view of a place of the table
  abbrev pub seat_view : Place M F W → SeatView W
  seat_view s = record {
    turn = s.table_id;
    seats = s.me.0.total;
    number = number_in s.me.0.role;
    history = history_in s.me.0.role;
  }

  -- what the type of a seat keeps between two calls: it has not the turn, and holds no value
  pub record IsIdle (number seen : ℕ) (s : Place M F W) : Type 0 where
    pub me : s.me ≡ (view s.me.0.total (Idle number (history_in s.me.0.role)), [])
    pub seen_is : seen ≡ (history_in s.me.0.role).seen
    pub below : number < s.me.0.total
    pub few : s.me.0.total ≤ 8

  -- what the type of a turn keeps: its parts belong together
  pub record IsOpened (seats : ℕ) (z : TableId) (key : Key M) (s : Place M F W) :
      Type 0 where
    pub here : s.table_id ≡ z
    pub words : z.words ≡ 2
    pub slots : z.slots ≡ 1
    pub some_seats : 0 < seats
    pub few : seats ≤ 8
    pub told : key.seats ≡ seats
    pub me : (count : ℕ) × (s.me ≡ (view seats (Owner seats count []), []))

abbrev pub turn_view : {M : Type 0} → ℕ → TableId → Key M → TurnView M
turn_view seats turn key = record { turn = turn; seats = seats; value = key.opened.value }

module _ {M W : Type 0} where
  -- the seat is of this turn
  abbrev pub IsOf : TurnView M → SeatView W → Type 0
  IsOf o s = (s.turn ≡ o.turn) × (s.seats ≡ o.seats)

module _ {W : Type 0} where
  -- the same seat of the same turn
  abbrev pub IsSameSeat : SeatView W → SeatView W → Type 0
  IsSameSeat s s' = (s'.turn ≡ s.turn) × (s'.seats ≡ s.seats) × (s'.number ≡ s.number)

  -- the seat goes on with this history, and all else of it stays
  abbrev pub GoesOn : SeatView W → SeatView W → History W → Type 0
  GoesOn s s' h = s' ≡ record s { history = h }

  -- what a try of this kind answers, and what it makes of the seat
  abbrev pub Answers : SeatView W → Kind → Result ℕ (TurnFault W) → SeatView W → Type 0
  Answers s kind (Ok place) s' =
      (s.history.seen ≤ place) × GoesOn s s' (answered_by s.history place kind (Ok place))
  Answers s kind (Err (Busy holder)) s' =
      (holder < s.seats) × (holder ≢ s.number) × GoesOn s s' (met_by s.history holder)
  Answers s kind (Err (NotFired seen why)) s' =
      (s.history.seen ≤ seen) × GoesOn s s' (answered_by s.history seen kind (Err why))

  -- the seat of number n at the opening, over a list of so many entries
  abbrev pub new_seat : TableId → ℕ → ℕ → ℕ → SeatView W
  new_seat turn seats count n =
      record { turn = turn; seats = seats; number = n; history = fresh count }

  -- those of the first n numbers
  abbrev pub new_seats : TableId → ℕ → ℕ → ℕ → List (SeatView W)
  new_seats turn seats count zero = []
  new_seats turn seats count (suc n) =
      new_seats turn seats count n ++ new_seat turn seats count n ∷ []

  -- a turn over the value, and its seats
  abbrev pub Opens :
      {M : Type 0} → (M → List Entry) → M → ℕ → TurnView M → List (SeatView W) → Type 0
  Opens entries value seats o list =
      (o.value ≡ value) × (o.seats ≡ seats)
      × (list ≡ new_seats o.turn seats (length (entries value)) seats)
