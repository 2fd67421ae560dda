-- What a turn gives back.
use Rattle.std.specs.Prelude.{◌≡◌, ◌≢◌, ℕ, ◌<◌, ◌≤◌, List, ◌++◌, length, All, Option, Some, None}
use mathlib.Core.Option.{some}
use lib.ListN.{get_elem?}
use Rattle.lb_trace.specs.declared.Entry.{Entry}
use Rattle.lb_trace.specs.declared.Kind.{Kind}
use Rattle.lb_turn.specs.Entries.{receipts_of}
use Rattle.lb_turn.specs.Histories.{HasActed, IsRefused}
use Rattle.lb_turn.specs.Seats.{SeatView, TurnView}

-- x stands in the list
abbrev pub Among : {A : Type 0} → A → List A → Type 0
Among x xs = (place : ℕ) × (get_elem? xs place ≡ some x)

module _ {W : Type 0} where
  -- the seat of number n is in the list
  abbrev pub HasNumber : List (SeatView W) → ℕ → Type 0
  HasNumber list n = (s : SeatView W) × Among s list × (s.number ≡ n)

  -- so is that of each number below the given one
  abbrev pub IsComplete : ℕ → List (SeatView W) → Type 0
  IsComplete seats list = (n : ℕ) → n < seats → HasNumber list n

  -- n is the least number of a seat that isn't in the list
  abbrev pub IsMissing : ℕ → List (SeatView W) → ℕ → Type 0
  IsMissing seats list n = (n < seats) × (HasNumber list n → ⊥) × IsComplete n list

  abbrev pub IsFirstMissing : ℕ → List (SeatView W) → Option ℕ → Type 0
  IsFirstMissing seats list None = IsComplete seats list
  IsFirstMissing seats list (Some n) = IsMissing seats list n

  -- the seat of that number, another one, is in the list and has had the turn
  abbrev pub IsHolderSeen : List (SeatView W) → SeatView W → ℕ → Type 0
  IsHolderSeen list s holder =
      (holder ≢ s.number)
      × ((u : SeatView W) × Among u list × (u.number ≡ holder) × HasActed u.history)

module _ {M F W : Type 0} (entries : M → List Entry) (fixed : M → F)
    (why : F → List Entry → Kind → W → Type 0) where
  -- the value that a turn gives back, and the seats that it was closed with: its list is that of the
  -- opening followed by `rest`, whose entries are the seats' receipts
  pub record Closes (o : TurnView M) (list : List (SeatView W)) (value : M) : Type 0 where
    pub same : fixed value ≡ fixed o.value
    pub rest : List Entry
    pub goes_on : entries value ≡ entries o.value ++ rest
    pub complete : IsComplete o.seats list
    pub named : All (λ e. e.worker < o.seats) rest
    pub seen : All (λ s. s.history.seen ≤ length (entries value)) list
    pub receipts : All
        (λ s. s.history.receipts ≡ receipts_of s.number (length (entries o.value)) rest) list
    pub refusals : All
        (λ s. All (IsRefused why (fixed o.value) (entries value)) s.history.refusals) list
    pub met : All (λ s. All (IsHolderSeen list s) s.history.met) list
