-- What holds after all legal logs.
use Rattle.std.specs.Prelude.{◌≡◌, ◌≤◌, ◌+◌, ◌*◌, true, List, length, None}
use Rattle.lb_trace.specs.declared.Entry.{Entry}
use Rattle.lb_trace.specs.declared.Kind.{Kind}
use Rattle.lb_core.specs.Potential.{Fits}
use Rattle.lb_core.specs.Rows.{done_of}
use Rattle.lb_core.specs.Rows.{is_enabled as is_enabled_in_core}
use Rattle.lb_core.specs.Stands.{Stands}
use Rattle.lb_machine.specs.declared.machine.TheConstants.{MOST_ENTRIES}
use Rattle.lb_machine.specs.State.{Job}
use Rattle.lb_machine.specs.Logs.{IsLegal, may_fire, most_entries, replay}
use Rattle.lb_machine.specs.Refusals.{halted_after}

-- the core stands for the trace
abbrev pub LogsStand : Type 0
LogsStand =
    (job : Job) (log : List Entry) → IsLegal job log
    → Stands (replay job log).core (replay job log).trace

-- no queue of the core holds more than its capacity
abbrev pub LogsFit : Type 0
LogsFit = (job : Job) (log : List Entry) → IsLegal job log → Fits (replay job log).core

-- one of the core's kinds may be fired
abbrev pub MakesProgress : Job → List Entry → Type 0
MakesProgress job log =
    (kind : Kind) × (is_enabled_in_core (replay job log).core kind ≡ true)
    × (may_fire job log kind ≡ true)

-- where the core isn't halted it is never stuck
abbrev pub LogsGoOn : Type 0
LogsGoOn = (job : Job) (log : List Entry) → halted_after job log ≡ None → MakesProgress job log

-- four entries at the least for each access of a device
abbrev pub EventsAreFew : Type 0
EventsAreFew =
    (job : Job) (log : List Entry) → IsLegal job log
    → 4 * length (replay job log).trace ≤ length log

-- no more entries than this for the instructions that are done and the frames that are to arrive
abbrev pub EntriesAreBounded : Type 0
EntriesAreBounded =
    (job : Job) (log : List Entry) → IsLegal job log
    → length log ≤ 20 * done_of (replay job log).core + 60 + length job.frames

-- the constant is the number of the definitions
abbrev pub MostEntries : Type 0
MostEntries = MOST_ENTRIES ≡ most_entries
