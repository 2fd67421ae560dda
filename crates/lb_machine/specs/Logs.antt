-- Logs: the lists of entries that a machine may have made, and what they lead to.
use Rattle.std.specs.Prelude.{◌≡◌, ◌≤◌, ℕ, Bool, true, false, List, [], ◌∷◌, All, slice_get, take, Some}
use Rattle.lb_trace.specs.declared.Entry.{Entry}
use Rattle.lb_trace.specs.declared.Kind.{Kind}
use Rattle.lb_board.specs.Rows.{by_bytes}
use Rattle.lb_machine.specs.State.{Job, MachineState, booted_machine}
use Rattle.lb_machine.specs.Rows.{after, is_enabled}

-- the machine after these entries
abbrev pub replayed_from : MachineState → List Entry → MachineState
replayed_from s [] = s
replayed_from s (e ∷ es) = replayed_from (after by_bytes s e.kind) es

-- the machine that was booted with the job and made these entries
abbrev pub replay : Job → List Entry → MachineState
replay job log = replayed_from (booted_machine job) log

-- before each of the entries the core isn't halted and the entry's guard holds
abbrev pub IsLegalFrom : MachineState → List Entry → Type 0
IsLegalFrom s [] = Unit {0}
IsLegalFrom s (e ∷ es) =
    (is_enabled by_bytes s e.kind ≡ true) × IsLegalFrom (after by_bytes s e.kind) es

-- the log may come of the job
abbrev pub IsLegal : Job → List Entry → Type 0
IsLegal job log = IsLegalFrom (booted_machine job) log

-- a kind may be fired after the log, or may not
abbrev pub may_fire : Job → List Entry → Kind → Bool
may_fire job log kind = is_enabled by_bytes (replay job log) kind

-- the numbers of workers are 0 to 7
abbrev pub HasWorker : Entry → Type 0
HasWorker e = e.worker ≤ 7

abbrev pub HaveWorkers : List Entry → Type 0
HaveWorkers log = All HasWorker log

-- the most entries of a log
abbrev pub most_entries : ℕ
most_entries = 4000000

-- the entry at this place is the first that can't be fired
pub record IsFirstRefused (job : Job) (log : List Entry) (place : ℕ) : Type 0 where
  pub entry : Entry
  pub stands : slice_get log place ≡ Some entry
  pub legal : IsLegal job (take place log)
  pub refused : may_fire job (take place log) entry.kind ≡ false
