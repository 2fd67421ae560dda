-- The faults of a program: for each rule the whole list in text order.
use Rattle.std.specs.Prelude.{ℕ, ◌+◌, ◌%◌, nat_lt, Bool, ◌&&◌, ◌||◌, ◌==◌, not, List, [], ◌∷◌, ◌++◌, length, map, flat_map, if◌then◌else◌, codes}
use Rattle.std.specs.List.{list_any}
use Rattle.std.specs.Str.{bytes_eq}
use Rattle.lb_syntax.specs.declared.limits.TheConstants.{MOST_FRAME, MOST_FUNCTIONS, MOST_PARAMS, MOST_RESULTS, MOST_WORDS}
use Rattle.lb_syntax.specs.Names.{Text, is_among}
use Rattle.lb_syntax.specs.declared.tree.Action.{Action}
use Rattle.lb_syntax.specs.declared.tree.Action.TheVariants.{Read, Write}
use Rattle.lb_syntax.specs.Tree.{Procedure, Command, Allocates, Calls, Interacts}
use Rattle.lb_syntax.specs.Needs.{code_need, frame_need}
use Rattle.lb_syntax.specs.Rules.{function_names}
use Rattle.lb_check.specs.declared.fault.CheckFault.{CheckFault}
use Rattle.lb_check.specs.declared.fault.CheckFault.TheVariants.{TooManyFunctions, DuplicateFunction, DuplicateName, NoInit, NoLoop, EntryShape, TooManyParams, BadAllocSize, UnknownFunction, WrongArity, DuplicateTarget, BadIo, FrameNeed, CodeNeed}
use Rattle.lb_check.specs.declared.rule.Rule.{Rule}
use Rattle.lb_check.specs.declared.rule.Rule.TheVariants as rule
use Rattle.lb_check.specs.declared.rule.FunctionRule.{FunctionRule}
use Rattle.lb_check.specs.declared.rule.FunctionRule.TheVariants as of_function
use Rattle.lb_check.specs.declared.rule.CommandRule.{CommandRule}
use Rattle.lb_check.specs.declared.rule.CommandRule.TheVariants as of_command
use Rattle.lb_check.specs.Order.{commands, repeated}

-- the fault, where the test says that there is one
abbrev pub where_true : Bool → CheckFault → List CheckFault
where_true b fault = if b then fault ∷ [] else []

-- a function that is called from outside
abbrev pub is_entry : Text → Bool
is_entry name = bytes_eq name (codes "init") || bytes_eq name (codes "loop")

-- a call of so many arguments and targets fits the function
abbrev pub fits : Procedure → ℕ → ℕ → Bool
fits f arguments targets = arguments == length f.params && targets == length f.results

-- one of the functions has this name, and a call of so many arguments and targets doesn't fit it
unfoldable pub has_misfit : List Procedure → Text → ℕ → ℕ → Bool
has_misfit p name arguments targets = list_any (λ f. bytes_eq f.name name && not (fits f arguments targets)) p

-- a read has one target and one argument, a write no target and two arguments
abbrev pub has_shape : Action → ℕ → ℕ → Bool
has_shape Read targets arguments = targets == 1 && arguments == 1
has_shape Write targets arguments = targets == 0 && arguments == 2

-- over 8 parameters, or else over 8 results
abbrev pub count_faults : Text → ℕ → ℕ → List CheckFault
count_faults f params results =
    if nat_lt MOST_PARAMS params then TooManyParams f params ∷ [] else where_true (nat_lt MOST_RESULTS results) (TooManyParams f results)

-- the faults of one function by a rule on functions
abbrev pub function_faults : FunctionRule → Procedure → List CheckFault
function_faults of_function.Names f = map (DuplicateName f.name) (repeated f.params ++ repeated f.results)
function_faults of_function.Entry f = where_true (is_entry f.name && not (length f.params + length f.results == 0)) (EntryShape f.name)
function_faults of_function.Counts f = count_faults f.name (length f.params) (length f.results)
function_faults of_function.FrameNeed f = where_true (nat_lt MOST_FRAME (frame_need f)) (FrameNeed f.name (frame_need f))

-- the faults of one command of the function f of the program p by a rule on commands; the commands that stand in it have their own
abbrev pub command_faults : CommandRule → List Procedure → Text → Command → List CheckFault
command_faults of_command.BlockSize p f (Allocates n x b) = where_true (n == 0 || not (n % 4 == 0)) (BadAllocSize f n)
command_faults of_command.Callee p f (Calls xs g es) = where_true (not (is_among (function_names p) g)) (UnknownFunction f g)
command_faults of_command.Arity p f (Calls xs g es) = where_true (has_misfit p g (length es) (length xs)) (WrongArity f g)
command_faults of_command.Targets p f (Calls xs g es) = map (DuplicateTarget f) (repeated xs)
command_faults of_command.Access p f (Interacts xs k es) = where_true (not (has_shape k (length xs) (length es))) (BadIo f)
command_faults _ p f c = []

-- the faults of a program by one rule, in text order
abbrev pub faults : Rule → List Procedure → List CheckFault
faults rule.FunctionCount p = where_true (nat_lt MOST_FUNCTIONS (length p)) (TooManyFunctions (length p))
faults rule.FunctionNames p = map DuplicateFunction (repeated (function_names p))
faults rule.Init p = where_true (not (is_among (function_names p) (codes "init"))) NoInit
faults rule.Again p = where_true (not (is_among (function_names p) (codes "loop"))) NoLoop
faults rule.CodeNeed p = where_true (nat_lt MOST_WORDS (code_need p)) (CodeNeed (code_need p))
faults (rule.OfFunction r) p = flat_map (function_faults r) p
faults (rule.OfCommand r) p = flat_map (λ f. flat_map (command_faults r p f.name) (commands f.body)) p
