-- What the walks over the rules answer. Only contracts of private functions cite it.
use Rattle.std.specs.Prelude.{◌≡◌, List, [], Result, Ok, Err}
use Rattle.std.specs.List.{AllByRecursion}
use Rattle.lb_syntax.specs.Tree.{Procedure}
use Rattle.lb_check.specs.declared.fault.CheckFault.{CheckFault}
use Rattle.lb_check.specs.declared.fault.CheckError.{CheckError}
use Rattle.lb_check.specs.declared.fault.CheckError.TheVariants.{Fault, Memory}
use Rattle.lb_check.specs.Verdict.{Question, IsKept, IsFirst, IsFirstBroken}

-- what a walk over a list of faults answers: the first of them, or that there is none; want of memory tells nothing
abbrev pub Tells : List CheckFault → Result (Unit {0}) CheckError → Type 0
Tells fs (Ok _) = fs ≡ []
Tells fs (Err (Fault fault)) = IsFirst fs fault
Tells fs (Err Memory) = Unit {0}

-- a yes to each of these questions, or the first no; want of memory tells nothing
abbrev pub Settles : List Procedure → List Question → Result (Unit {0}) CheckError → Type 0
Settles p qs (Ok _) = AllByRecursion (IsKept p) qs
Settles p qs (Err (Fault fault)) = IsFirstBroken p qs fault
Settles p qs (Err Memory) = Unit {0}
