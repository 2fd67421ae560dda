-- The six kinds of step on the words of a turn. Each changes the view of the seat that makes it, of
-- the seat that it splits off or joins, and no other. Beside its view a seat holds the list of the
-- slots that it took.
--
-- kind of step       what it is                           what it changes
-- try the turn       compare and exchange of word 0,      the seat has the turn and the value,
--                    from 0 to number + 1                 or met grows
-- publish            store of the count in word 1,        seen, and a receipt or a refusal
--                    after the act
-- release the turn   store of 0 in word 0,                the seat has neither the turn nor
--                    after the publication                the value
-- load the count     load of word 1                       seen and loads
-- split a seat       a step on word 0,                    the owner has split off one more,
--                    at the opening alone                 which is fresh
-- join a seat        a step on word 0,                    the owner has its history,
--                    at the closing alone                 and it is spent
use Rattle.std.specs.Prelude.{◌≡◌, ◌≢◌, ℕ, ◌+◌, ◌-◌, ◌<◌, ◌≤◌, List, [], ◌∷◌, ◌++◌, length, Option, Some}
use Rattle.atomic_table.specs.Table.{Me, Step}
use Rattle.lb_trace.specs.declared.Entry.{Entry}
use Rattle.lb_turn.specs.declared.table.History.{History}
use Rattle.lb_turn.specs.declared.table.Role.{Role}
use Rattle.lb_turn.specs.declared.table.Role.TheVariants.{Spent, Owner, Idle, Holding, Published}
use Rattle.lb_turn.specs.declared.table.View.{View}
use Rattle.lb_turn.specs.declared.table.Held.{Held}
use Rattle.lb_turn.specs.Histories.{fresh, met_by, loaded_by, answered_by}

module _ {F W : Type 0} where
  abbrev pub view : ℕ → Role F W → View F W
  view total role = record { total = total; role = role }

  -- the number of a seat
  abbrev pub number_in : Role F W → ℕ
  number_in (Idle n h) = n
  number_in (Holding n h list fixed) = n
  number_in (Published n h list fixed) = n
  number_in _ = 0

  -- its history
  abbrev pub history_in : Role F W → History W
  history_in (Idle n h) = h
  history_in (Holding n h list fixed) = h
  history_in (Published n h list fixed) = h
  history_in _ = fresh 0

  -- the entries that it knows of while it has the turn
  abbrev pub entries_in : Role F W → List Entry
  entries_in (Holding n h list fixed) = list
  entries_in (Published n h list fixed) = list
  entries_in _ = []

  -- split a seat: the owner has split off one more
  abbrev pub split_owner_role : Role F W → Role F W
  split_owner_role (Owner split count joined) = Owner (split + 1) count joined
  split_owner_role role = role

  abbrev pub split_owner : View F W → View F W
  split_owner v = view v.total (split_owner_role v.role)

  -- split a seat: the new one is fresh, and has the next number
  abbrev pub split_off_role : Role F W → Role F W
  split_off_role (Owner split count joined) = Idle split (fresh count)
  split_off_role role = Spent

  abbrev pub split_off : View F W → View F W
  split_off v = view v.total (split_off_role v.role)

  -- join a seat: the owner has its history too, under its number
  abbrev pub joined_role : Role F W → Role F W → Role F W
  joined_role (Owner split count joined) (Idle n h) = Owner split count (joined ++ (n, h) ∷ [])
  joined_role role _ = role

  abbrev pub joined : View F W → View F W → View F W
  joined v w = view v.total (joined_role v.role w.role)

  -- join a seat: what is left of it
  abbrev pub spent : View F W
  spent = view 0 Spent

-- a seat of the table, as it knows itself
abbrev pub Self : Type 0 → Type 0 → Type 0 → Type 0
Self M F W = Me (Option (Held M W)) (View F W)

module _ {F W : Type 0} where
  -- the seat has the turn, and has not published yet
  abbrev pub IsHolding : Role F W → Type 0
  IsHolding (Holding n h list f) = Unit {0}
  IsHolding _ = ⊥

  -- it has published
  abbrev pub IsPublished : Role F W → Type 0
  IsPublished (Published n h list f) = Unit {0}
  IsPublished _ = ⊥

module _ {M F W : Type 0} where
  -- release the turn, after the publication
  abbrev pub released : Step (Option (Held M W)) → Self M F W → ℕ → Self M F W → Type 0
  released step m found m' = IsPublished m.0.role
      × (m' ≡ (view m.0.total (Idle (number_in m.0.role) (history_in m.0.role)), []))

  -- load the count
  abbrev pub loaded : Step (Option (Held M W)) → Self M F W → ℕ → Self M F W → Type 0
  loaded step m found m' = ((history_in m.0.role).seen ≤ found)
      × (m' ≡ (
        view m.0.total
            (Idle (number_in m.0.role) (loaded_by (history_in m.0.role) found)),
        m.1,
      ))

module _ {M F W : Type 0} (entries : M → List Entry) (fixed : M → F) where
  -- try the turn, where it was free: the seat took the value x
  abbrev pub Wins : Self M F W → Self M F W → Held M W → Type 0
  Wins m m' x = m' ≡ (
    view m.0.total
        (Holding (number_in m.0.role) (history_in m.0.role) (entries x.value) (fixed x.value)),
    (0, Some x) ∷ m.1,
  )

  -- try the turn, where it had a holder
  abbrev pub Meets : Self M F W → Self M F W → ℕ → Type 0
  Meets m m' holder =
      (m' ≡ (view m.0.total (Idle (number_in m.0.role) (met_by (history_in m.0.role) holder)), m.1))
      × (holder < m.0.total) × (holder ≢ number_in m.0.role)

  -- try the turn: word 0 was the number found
  abbrev pub tried : Step (Option (Held M W)) → Self M F W → ℕ → Self M F W → Type 0
  tried step m found m' =
      (found ≡ 0 → (x : Held M W) × Wins m m' x
      × ((history_in m.0.role).seen ≤ length (entries x.value)))
      × (found ≢ 0 → Meets m m' (found - 1))

  -- publish, the value being x
  abbrev pub Publishes : Self M F W → Self M F W → Held M W → Type 0
  Publishes m m' x = m' ≡ (
    view m.0.total
        (Published (number_in m.0.role) (answered_by (history_in m.0.role)
        (length (entries_in m.0.role)) x.last.value.kind x.last.value.answer)
        (entries x.value) (fixed x.value)),
    m.1,
  )

  -- publish, by the holder, which has a value in its hands
  abbrev pub published : Step (Option (Held M W)) → Self M F W → ℕ → Self M F W → Type 0
  published step m found m' = IsHolding m.0.role
      × (x : Held M W) × (m.1 ≡ (0, Some x) ∷ []) × Publishes m m' x
