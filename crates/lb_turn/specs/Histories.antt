-- What the steps of one number told, and what each adds.
use Rattle.std.specs.Prelude.{◌≤◌, ℕ, ◌+◌, ◌<◌, List, [], ◌∷◌, ◌++◌, length, take, Result, Ok, Err}
use Rattle.lb_trace.specs.declared.Entry.{Entry}
use Rattle.lb_trace.specs.declared.Kind.{Kind}
use Rattle.lb_turn.specs.declared.table.History.{History}

module _ {W : Type 0} where
  -- the number had the turn, and was answered
  abbrev pub HasActed : History W → Type 0
  HasActed h = 0 < length h.receipts + length h.refusals

  -- at the opening, over a list of so many entries
  abbrev pub fresh : ℕ → History W
  fresh count = record { seen = count; receipts = []; refusals = []; met = []; loads = [] }

  -- after a try that found a holder
  abbrev pub met_by : History W → ℕ → History W
  met_by h holder = record h { met = h.met ++ holder ∷ [] }

  -- after a load that found a count
  abbrev pub loaded_by : History W → ℕ → History W
  loaded_by h count = record h { seen = count; loads = h.loads ++ count ∷ [] }

  -- after an act of a kind, over so many entries, that was answered so
  abbrev pub answered_by : History W → ℕ → Kind → Result ℕ W → History W
  answered_by h count kind (Ok place) =
      record h { seen = count + 1; receipts = h.receipts ++ (count, kind) ∷ [] }
  answered_by h count kind (Err why) =
      record h { seen = count; refusals = h.refusals ++ (count, kind, why) ∷ [] }

-- a refusal's reason holds after as many entries of the list as it says, which are no more than the
-- list has
module _ {F W : Type 0} (why : F → List Entry → Kind → W → Type 0) (fixed : F)
    (list : List Entry) where
  abbrev pub IsRefused : ℕ × Kind × W → Type 0
  IsRefused r = (r.0 ≤ length list) × why fixed (take r.0 list) r.1 r.2
