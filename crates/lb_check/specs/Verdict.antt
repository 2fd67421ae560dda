-- Which fault a program is refused for: that of the first rule that it breaks, at its first place.
use Rattle.std.specs.Prelude.{◌≡◌, ℕ, ◌<◌, ◌≤◌, ◌⊎◌, List, [], ◌∷◌, ◌++◌, map, All}
use Rattle.lb_memory.specs.declared.TheConstants.{MOST_STACK}
use Rattle.lb_syntax.specs.Tree.{Procedure}
use Rattle.lb_syntax.specs.Calls.{IsCallPath, IsRecursive, IsStackNeed, path_need}
use Rattle.lb_syntax.specs.Rules.{KeepsRules}
use Rattle.lb_check.specs.declared.fault.CheckFault.{CheckFault}
use Rattle.lb_check.specs.declared.fault.CheckFault.TheVariants.{Recursion, StackNeed}
use Rattle.lb_check.specs.declared.fault.CheckError.{CheckError}
use Rattle.lb_check.specs.declared.fault.CheckError.TheVariants.{Fault, Memory}
use Rattle.lb_check.specs.declared.rule.Rule.{Rule}
use Rattle.lb_check.specs.declared.rule.Rule.TheVariants.{FunctionCount, FunctionNames, Init, Again, CodeNeed, OfFunction, OfCommand}
use Rattle.lb_check.specs.declared.rule.FunctionRule.TheVariants.{Names, Entry, Counts, FrameNeed}
use Rattle.lb_check.specs.declared.rule.CommandRule.TheVariants.{BlockSize, Callee, Arity, Targets, Access}
use Rattle.lb_check.specs.Faults.{faults}

-- what is asked of a program: a rule that is decided place by place; that no path of calls leads back to its start; that the stack is within its limit
pub data Question : Type 0 where
  Keeps : (rule : Rule) → Question
  NoRecursion : Question
  FitsStack : Question

-- the rules on the form of a program, in the order in which they are asked
abbrev pub form_rules : List Rule
form_rules =
    FunctionCount ∷ FunctionNames ∷ OfFunction Names ∷ Init ∷ Again ∷ OfFunction Entry ∷ OfFunction Counts
    ∷ OfCommand BlockSize ∷ OfCommand Callee ∷ OfCommand Arity ∷ OfCommand Targets ∷ OfCommand Access ∷ []

-- the rules on its needs, the stack's aside
abbrev pub need_rules : List Rule
need_rules = OfFunction FrameNeed ∷ CodeNeed ∷ []

-- all that is asked of a program, in order
abbrev pub questions : List Question
questions = map Keeps form_rules ++ NoRecursion ∷ (map Keeps need_rules ++ FitsStack ∷ [])

-- the answer is yes
abbrev pub IsKept : List Procedure → Question → Type 0
IsKept p (Keeps rule) = faults rule p ≡ []
IsKept p NoRecursion = All (λ f. ¬ (IsRecursive p f)) p
IsKept p FitsStack = (path : List Procedure) → IsCallPath p path → path_need path ≤ MOST_STACK

-- the first of a list
abbrev pub IsFirst : List CheckFault → CheckFault → Type 0
IsFirst [] fault = ⊥
IsFirst (f ∷ fs) fault = fault ≡ f

-- f is the first function of the program from which a path of calls leads back to it
pub record IsFirstRecursive (p : List Procedure) (f : Procedure) : Type 0 where
  pub earlier : List Procedure
  pub later : List Procedure
  pub order : p ≡ earlier ++ (f ∷ later)
  pub none_earlier : All (λ g. ¬ (IsRecursive p g)) earlier
  pub recursive : IsRecursive p f

-- the answer is no, and the fault tells the first place
abbrev pub IsBroken : List Procedure → Question → CheckFault → Type 0
IsBroken p (Keeps rule) fault = IsFirst (faults rule p) fault
IsBroken p NoRecursion fault = (f : Procedure) × IsFirstRecursive p f × (fault ≡ Recursion f.name)
IsBroken p FitsStack fault = (n : ℕ) × IsStackNeed p n × (MOST_STACK < n) × (fault ≡ StackNeed n)

-- the fault is that of the first of these questions whose answer is no
abbrev pub IsFirstBroken : List Procedure → List Question → CheckFault → Type 0
IsFirstBroken p [] fault = ⊥
IsFirstBroken p (q ∷ qs) fault = IsBroken p q fault ⊎ (IsKept p q × IsFirstBroken p qs fault)

-- the fault for which a program is refused
abbrev pub IsFirstFault : List Procedure → CheckFault → Type 0
IsFirstFault p fault = IsFirstBroken p questions fault

-- a refusal tells the first fault of a program that breaks a rule; want of memory tells nothing
abbrev pub IsRefusal : List Procedure → CheckError → Type 0
IsRefusal p (Fault fault) = IsFirstFault p fault × (¬ (KeepsRules p))
IsRefusal p Memory = Unit {0}
