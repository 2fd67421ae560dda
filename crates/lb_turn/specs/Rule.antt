-- The rule of the table under a turn: what holds between any two steps.
use Rattle.std.specs.Prelude.{◌≡◌, ◌≢◌, ◌⊎◌, ℕ, zero, suc, ◌+◌, ◌<◌, ◌≤◌, List, [], ◌∷◌, ◌++◌, length, Option, Some}
use Rattle.std.specs.List.{AllByRecursion}
use mathlib.Core.Option.{some, none}
use mathlib.Core.Option as maybe
use lib.ListN.{get_elem?}
use Rattle.atomic_table.specs.Table.{State}
use Rattle.lb_trace.specs.declared.Entry.{Entry}
use Rattle.lb_trace.specs.declared.Kind.{Kind}
use Rattle.lb_turn.specs.declared.table.History.{History}
use Rattle.lb_turn.specs.declared.table.Role.{Role}
use Rattle.lb_turn.specs.declared.table.Role.TheVariants.{Spent, Owner, Idle, Holding, Published}
use Rattle.lb_turn.specs.declared.table.View.{View}
use Rattle.lb_turn.specs.declared.table.Held.{Held}
use Rattle.lb_turn.specs.declared.table.Key.{Key}
use Rattle.lb_turn.specs.Entries.{receipts_of}
use Rattle.lb_turn.specs.Histories.{HasActed, IsRefused}
use Rattle.lb_turn.specs.Steps.{view, spent}

module _ {W : Type 0} where
  -- the holder has the turn, or its history shows that it had it
  abbrev pub HasHeld : List (History W) → ℕ → ℕ → Type 0
  HasHeld all turn holder =
      (turn ≡ suc holder) ⊎ ((h : History W) × (get_elem? all holder ≡ some h) × HasActed h)

  -- it may have been met by number n: it is another one
  abbrev pub IsMet : List (History W) → ℕ → ℕ → ℕ → Type 0
  IsMet all turn n holder = (holder < length all) × (holder ≢ n) × HasHeld all turn holder

-- the history of number n is true, where the list is followed from place `start` on by `rest`
module _ {F W : Type 0} (why : F → List Entry → Kind → W → Type 0) (fixed : F)
    (list : List Entry) where
  pub record IsTrueHistory (start : ℕ) (rest : List Entry) (turn : ℕ) (all : List (History W))
      (n : ℕ) (h : History W) : Type 0 where
    pub seen : h.seen ≤ length list
    pub receipts : h.receipts ≡ receipts_of n start rest
    pub refusals : AllByRecursion (IsRefused why fixed list) h.refusals
    pub met : AllByRecursion (IsMet all turn n) h.met

-- what the seat at a place among the views knows is true: the owner is at 0, and the seat of number
-- n behind n others
module _ {F W : Type 0} (seats turn : ℕ) (list : List Entry) (fixed : F) (all : List (History W))
    (views : List (View F W)) (place total : ℕ) where
  -- the seat has this number and this history
  abbrev pub IsNumbered : ℕ → History W → Type 0
  IsNumbered n h = (place ≡ suc n) × (total ≡ seats) × (get_elem? all n ≡ some h)

  -- the history is that of a seat that is spent
  abbrev pub IsJoined : ℕ × History W → Type 0
  IsJoined x = (get_elem? all x.0 ≡ some x.1) × (get_elem? views (suc x.0) ≡ some spent)

  abbrev pub Knows : Role F W → Type 0
  Knows Spent = Unit {0}
  Knows (Owner split count joined) =
      (place ≡ 0) × (total ≡ seats) × (split ≡ length all) × AllByRecursion IsJoined joined
  Knows (Idle n h) = IsNumbered n h × (turn ≢ suc n)
  Knows (Holding n h l f) = IsNumbered n h × (turn ≡ suc n) × (l ≡ list) × (f ≡ fixed)
  Knows (Published n h l f) =
      IsNumbered n h × (turn ≡ suc n) × (l ≡ list) × (f ≡ fixed) × HasActed h

-- the seat has taken the value
abbrev pub HasValue : {F W : Type 0} → Role F W → Type 0
HasValue (Holding n h list fixed) = Unit {0}
HasValue (Published n h list fixed) = Unit {0}
HasValue _ = ⊥

module _ {M F W : Type 0} (entries : M → List Entry) (fixed : M → F) where
  -- where the turn is free, the value is in its slot, with the list; else the one seat that it names
  -- has taken it
  abbrev pub IsSlot :
      List (maybe.Option (Option (Held M W))) → List (View F W) → F → List Entry → ℕ → ℕ → Type 0
  IsSlot homes views f list seats zero =
      (x : Held M W) × (homes ≡ some (Some x) ∷ []) × (entries x.value ≡ list) × (fixed x.value ≡ f)
  IsSlot homes views f list seats (suc n) =
      (homes ≡ none ∷ []) × (n < seats)
      × ((v : View F W) × (get_elem? views (suc n) ≡ some v) × HasValue v.role)

  -- the owner at the opening
  abbrev pub first_view : Key M → View F W
  first_view key = view key.seats (Owner 0 (length (entries key.opened.value)) [])

module _ {M F W : Type 0} (entries : M → List Entry) (fixed : M → F)
    (why : F → List Entry → Kind → W → Type 0) where
  -- the rule: the list is that of the opening followed by `rest`, and `all` has the history of each
  -- number
  pub record IsKept (key : Key M) (s : State (Option (Held M W)) (View F W)) : Type 0 where
    pub rest : List Entry
    pub turn : ℕ
    pub all : List (History W)
    pub words : s.words ≡ turn ∷ length (entries key.opened.value ++ rest) ∷ []
    pub as_many : length s.views ≡ length all + 1
    pub few : length all ≤ key.seats
    pub named : AllByRecursion (λ e. e.worker < length all) rest
    pub slot : IsSlot entries fixed s.homes s.views (fixed key.opened.value)
        (entries key.opened.value ++ rest)
        (length all) turn
    pub each_view : (place : ℕ) (v : View F W) → get_elem? s.views place ≡ some v
        → Knows key.seats turn (entries key.opened.value ++ rest) (fixed key.opened.value) all
        s.views
        place v.total v.role
    pub each_history : (n : ℕ) (h : History W) → get_elem? all n ≡ some h
        → IsTrueHistory why (fixed key.opened.value) (entries key.opened.value ++ rest)
        (length (entries key.opened.value)) rest turn all n h
