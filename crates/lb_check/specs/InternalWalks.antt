-- What the walks over a program collect, count and answer. Only contracts of private functions cite it.
use Rattle.std.specs.Prelude.{◌≡◌, ℕ, ◌+◌, ◌*◌, ◌≤◌, [], ◌∷◌, List, ◌++◌, length, map, flat_map, Result, Err, OnOk}
use Rattle.std.specs.List.{AllByRecursion}
use Rattle.lb_syntax.specs.declared.limits.TheConstants.{MOST_FRAME}
use Rattle.lb_syntax.specs.Names.{Text}
use Rattle.lb_syntax.specs.declared.tree.Expr.{Expr}
use Rattle.lb_syntax.specs.declared.tree.Function.{Function}
use Rattle.lb_syntax.specs.Tree.{Command, Procedure, term_of, procedure_of}
use Rattle.lb_syntax.specs.Needs.{frame_need, far_factor, procedure_words, terms_words}
use Rattle.lb_check.specs.declared.fault.CheckError.{CheckError}
use Rattle.lb_check.specs.declared.rule.CommandRule.{CommandRule}
use Rattle.lb_check.specs.Order.{commands}
use Rattle.lb_check.specs.Faults.{command_faults}
use Rattle.lb_check.specs.Verdict.{FitsStack}
use Rattle.lb_check.specs.InternalCallGraph.{called, places_from}
use Rattle.lb_check.specs.InternalVerdict.{Tells, Settles}

-- the functions of a program, in text order
abbrev pub procedures_of : List Function → List Procedure
procedures_of functions = map procedure_of functions

-- ---- what is collected

-- these stand behind the old list; want of memory tells nothing
abbrev pub Appends : {A T E : Type 0} → List A → List A → List A → Result T E → Type 0
Appends old new more result = OnOk result (new ≡ old ++ more)

-- the places of the functions that a command or a block calls, among these functions
abbrev pub called_among : List Function → Command → List ℕ
called_among functions c = called (procedures_of functions) c

-- the places of the functions with this name, among these functions
abbrev pub places_among : List Function → Text → List ℕ
places_among functions name = places_from 0 (procedures_of functions) name

-- ---- what is counted

-- the words of a call or an access with these arguments and so many targets
abbrev pub call_words : List Expr → ℕ → ℕ
call_words arguments targets = 8 + terms_words (map term_of arguments) + 4 * length arguments + 4 * targets

-- the words of a function in the code of a program
abbrev pub words_in_code : Procedure → ℕ
words_in_code f = far_factor f * procedure_words f

-- the bytes of each function's frame
abbrev pub frame_needs : List Function → List ℕ
frame_needs functions = map frame_need (procedures_of functions)

-- each function's frame is within its limit
abbrev pub FramesAreSmall : List Procedure → Type 0
FramesAreSmall p = AllByRecursion (λ f. frame_need f ≤ MOST_FRAME) p

-- ---- what is answered

-- the faults of one command of a function by a rule on commands, where the program has these functions
abbrev pub TellsCommand : CommandRule → List Function → Text → Command → Result (Unit {0}) CheckError → Type 0
TellsCommand rule functions name c result = Tells (command_faults rule (procedures_of functions) name c) result

-- the same of a command or a block, with the commands that stand in it
abbrev pub TellsCommands : CommandRule → List Function → Text → Command → Result (Unit {0}) CheckError → Type 0
TellsCommands rule functions name c result = Tells (flat_map (command_faults rule (procedures_of functions) name) (commands c)) result

-- the faults of one command by a rule that asks nothing of the program's functions
abbrev pub TellsAlone : CommandRule → Text → Command → Result (Unit {0}) CheckError → Type 0
TellsAlone rule name c result = (p : List Procedure) → Tells (command_faults rule p name c) result

-- the error tells that the stack isn't within its limit
abbrev pub SettlesStack : List Procedure → CheckError → Type 0
SettlesStack p error = Settles p (FitsStack ∷ []) (Err error)
