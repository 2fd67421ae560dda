-- When a log isn't replayed.
use Rattle.std.specs.Prelude.{List}
use Rattle.lb_trace.specs.declared.Entry.{Entry}
use Rattle.lb_machine.specs.declared.fault.ReplayFault.{ReplayFault}
use Rattle.lb_machine.specs.declared.fault.ReplayFault.TheVariants.{BadEvent, Memory}
use Rattle.lb_machine.specs.State.{Job}
use Rattle.lb_machine.specs.Logs.{IsFirstRefused}

-- the fault tells the first entry that can't be fired; of memory nothing is said
abbrev pub IsRightFault : Job → List Entry → ReplayFault → Type 0
IsRightFault job log (BadEvent at) = IsFirstRefused job log at
IsRightFault job log Memory = Unit {0}
