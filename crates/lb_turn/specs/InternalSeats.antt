-- What private contracts say of places of the table.
use Rattle.std.specs.Prelude.{◌≡◌, ℕ, ◌+◌, ◌<◌, List, [], ◌∷◌, ◌++◌, length, All, Some, Result, Ok, Err, MatchResult}
use Rattle.atomic_table.specs.Seated.{TableId}
use Rattle.lb_trace.specs.declared.Entry.{Entry}
use Rattle.lb_trace.specs.declared.Kind.{Kind}
use Rattle.lb_turn.specs.declared.table.History.{History}
use Rattle.lb_turn.specs.declared.table.Role.TheVariants.{Owner, Idle, Holding}
use Rattle.lb_turn.specs.declared.table.Held.{Held}
use Rattle.lb_turn.specs.declared.table.Key.{Key}
use Rattle.lb_turn.specs.Entries.{added}
use Rattle.lb_turn.specs.Histories.{answered_by}
use Rattle.lb_turn.specs.Steps.{view, history_in, entries_in}
use Rattle.lb_turn.specs.Seats.{Place, SeatView}
use Rattle.lb_turn.specs.Closing.{Among}

module _ {M : Type 0} where
  -- the key tells the value and the number of seats
  abbrev pub IsTold : M → ℕ → Key M → Type 0
  IsTold value seats key = (key.opened.value ≡ value) × (key.seats ≡ seats)

module _ {M F W : Type 0} where
  -- the place is of this table, which has the two words of a turn
  abbrev pub IsIn : TableId → Place M F W → Type 0
  IsIn z s = (s.table_id ≡ z) × (z.words ≡ 2)

  -- the owner has split off n seats, over a list of so many entries
  abbrev pub HasSplit : ℕ → ℕ → ℕ → Place M F W → Type 0
  HasSplit seats n count s = s.me ≡ (view seats (Owner n count []), [])

  -- the owner may split off one more
  abbrev pub CanSplit : (M → List Entry) → Key M → Place M F W → Type 0
  CanSplit entries key s =
      (n : ℕ) × HasSplit key.seats n (length (entries key.opened.value)) s × (n < key.seats)

  -- the owner has joined these
  abbrev pub HasJoined : ℕ → List (ℕ × History W) → Place M F W → Type 0
  HasJoined seats joined s = (count : ℕ) × (s.me ≡ (view seats (Owner seats count joined), []))

  -- the owner may join one more
  abbrev pub CanJoin : ℕ → Place M F W → Type 0
  CanJoin seats s = (joined : List (ℕ × History W)) × HasJoined seats joined s

  -- the owner has joined the seat too
  abbrev pub Joins : ℕ → SeatView W → Place M F W → Place M F W → Type 0
  Joins seats u s s' = (joined : List (ℕ × History W)) → HasJoined seats joined s
      → HasJoined seats (joined ++ (u.number, u.history) ∷ []) s'

  -- the owner has joined all these seats
  abbrev pub JoinsAll : ℕ → List (SeatView W) → Place M F W → Type 0
  JoinsAll seats list s = (joined : List (ℕ × History W)) × HasJoined seats joined s
      × All (λ u. Among (u.number, u.history) joined) list

  -- the seat idles again, with the answer in its history
  abbrev pub GoesIdle : ℕ → Kind → Place M F W → Place M F W → Result ℕ W → Type 0
  GoesIdle number kind s s' answer = s'.me ≡ (
    view s.me.0.total (Idle number
        (answered_by (history_in s.me.0.role) (length (entries_in s.me.0.role)) kind answer)),
    [],
  )

  -- the place that was answered is that of the next entry, and there are so many entries then
  abbrev pub IsCounted : Place M F W → ℕ → Result ℕ W → Type 0
  IsCounted s count answer = MatchResult answer
      (λ place. (place ≡ length (entries_in s.me.0.role)) × (count ≡ place + 1))
      (λ why. count ≡ length (entries_in s.me.0.role))

module _ {M F W : Type 0} (entries : M → List Entry) (fixed : M → F) where
  -- the place has the turn and the value x
  abbrev pub Takes : ℕ → Place M F W → History W → Held M W → Type 0
  Takes number s h x = s.me ≡
      (view s.me.0.total (Holding number h (entries x.value) (fixed x.value)), (0, Some x) ∷ [])

  -- the place has the turn and the value
  abbrev pub IsHolder : ℕ → Place M F W → Type 0
  IsHolder number s = (h : History W) × (x : Held M W) × Takes number s h x

module _ {M F W : Type 0} (entries : M → List Entry) (fixed : M → F)
    (why : F → List Entry → Kind → W → Type 0) where
  -- what an act of number n made of a value that had this list and this fixed part
  abbrev pub ActsOn : ℕ → List Entry → F → Kind → Result ℕ W → M → Type 0
  ActsOn n list f kind (Ok place) y =
      (entries y ≡ added list n kind) × (fixed y ≡ f) × (place ≡ length list)
  ActsOn n list f kind (Err w) y = (entries y ≡ list) × (fixed y ≡ f) × why f list kind w

  -- the place has the value after the act, and beside it what was answered
  abbrev pub ActsInSlot : ℕ → Kind → Place M F W → Place M F W
      → ℕ × Result ℕ W → Type 0
  ActsInSlot number kind s s' r = (h : History W) × (x : Held M W) × (y : Held M W)
      × Takes entries fixed number s h x × (s'.me.1 ≡ (0, Some y) ∷ [])
      × (y.last.value.kind ≡ kind) × (y.last.value.answer ≡ r.1) × (r.0 ≡ length (entries y.value))
      × ActsOn number (entries x.value) (fixed x.value) kind r.1 y.value
