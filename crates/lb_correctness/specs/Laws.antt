-- What holds of every legal log of a machine that runs an image.
use Rattle.std.specs.Prelude.{List}
use Rattle.lb_trace.specs.declared.Entry.{Entry}
use Rattle.lb_trace.specs.Frame.{FrameContent}
use Rattle.lb_syntax.specs.Tree.{Procedure}
use Rattle.lb_image.specs.declared.image.Image.{Image}
use Rattle.lb_compile.specs.Correct.{Keeps}
use Rattle.lb_machine.specs.Logs.{IsLegal}
use Rattle.lb_bulb.specs.Supplied.{supplied}
use Rattle.lb_correctness.specs.Machines.{IsRunOfLamp, IsRunOnMachine, job_on}

-- an image that keeps what it owes to its program keeps it on the machine, whatever frames arrive
-- and in whatever order the machine's steps are done
abbrev pub MachinesKeep : Type 0
MachinesKeep =
    (p : List Procedure) (i : Image) (frames : List FrameContent) (log : List Entry) → Keeps p i
    → IsLegal (job_on i frames) log → IsRunOnMachine p i frames log

-- and the supplied program's serves the lamp
abbrev pub LampKeeps : Type 0
LampKeeps =
    (i : Image) (frames : List FrameContent) (log : List Entry) → Keeps supplied i
    → IsLegal (job_on i frames) log → IsRunOfLamp i frames log
