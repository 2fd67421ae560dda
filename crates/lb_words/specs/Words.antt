-- What the words of a command line ask for.
use Rattle.std.specs.Prelude.{◌≡◌, ℕ, ◌≤◌, Bool, true, false, List, [], codes, Option, Some, None, find, option_and_then}
use Rattle.std.specs.Option.{option_map_or}
use Rattle.std.specs.Str.{bytes_eq}
use Rattle.std.specs.Str.Parse.{IsNumeral, digits_value, without_leading_plus}
use Rattle.clap.specs.Words.{App, Row, Rule, Text, new_app, new_rule, with_rule, matches_of, first_of, fault_of}
use Rattle.clap.specs.declared.builder.action.ArgAction.TheVariants.{SetTrue}
use Rattle.lb_words.specs.declared.job.Job.{Job}
use Rattle.lb_words.specs.declared.job.Mode.{Mode}
use Rattle.lb_words.specs.declared.job.Mode.TheVariants as mode

-- the word that names a mode
abbrev pub name_of : Mode → Text
name_of mode.Check = codes "check"
name_of mode.Print = codes "print"
name_of mode.Compile = codes "compile"
name_of mode.List = codes "list"
name_of mode.Interp = codes "interp"
name_of mode.Isa = codes "isa"
name_of mode.Run = codes "run"
name_of mode.Lamp = codes "lamp"
name_of mode.Replay = codes "replay"
name_of mode.Judge = codes "judge"
name_of mode.Gen = codes "gen"

-- the first of the modes that has this name
abbrev pub mode_named : List Mode → Text → Option Mode
mode_named modes word = find (λ mode. bytes_eq (name_of mode) word) modes

-- ---- the command that takes the words: the program `bulb`, without a flag for help

-- the word that names the mode, which has to be given
abbrev pub mode_word : Rule
mode_word = record (new_rule (codes "mode")) { required = true }

-- an option with a value, and one without
abbrev pub value : Text → Rule
value name = record (new_rule name) { long = Some name }

abbrev pub flag : Text → Rule
flag name = record (new_rule name) { long = Some name; action = Some SetTrue }

abbrev pub without_help : App → App
without_help app = record app { top = record app.top { disable_help_flag = true } }

abbrev pub bare_command : App
bare_command = without_help (new_app (codes "bulb"))

abbrev pub command : App
command = with_rule (with_rule (with_rule (with_rule (with_rule (with_rule bare_command
    mode_word)
    (value (codes "events"))) (value (codes "workers"))) (value (codes "seed")))
    (flag (codes "log"))) (flag (codes "trace"))

-- ---- what is found in the words

-- a number in its range: decimal digits, and a plus may stand before them
pub record IsNumber (least most : ℕ) (text : Text) (n : ℕ) : Type 0 where
  pub digits : IsNumeral 10 (without_leading_plus text)
  pub value : n ≡ digits_value 10 (without_leading_plus text)
  pub at_least : least ≤ n
  pub at_most : n ≤ most

-- the number of an option: the one that is given, or the one that stands for none
abbrev pub IsNumberOr : ℕ → ℕ → ℕ → Option Text → ℕ → Type 0
IsNumberOr least most missing None n = n ≡ missing
IsNumberOr least most missing (Some text) n = IsNumber least most text n

-- whether an option without a value is given
abbrev pub is_used : Text → List Row → Bool
is_used name rows = option_map_or (λ text. bytes_eq text (codes "true")) (first_of name rows) false

-- the job in the rows that the command fills, where its mode is one of these
pub record Finds (modes : List Mode) (rows : List Row) (job : Job) : Type 0 where
  pub mode : option_and_then (mode_named modes) (first_of (codes "mode") rows) ≡ Some job.mode
  pub events : IsNumberOr 1 4000000 400000 (first_of (codes "events") rows) job.events
  pub workers : IsNumberOr 1 8 4 (first_of (codes "workers") rows) job.workers
  pub seed : IsNumberOr 0 4294967295 0 (first_of (codes "seed") rows) job.seed
  pub log : job.log ≡ is_used (codes "log") rows
  pub trace : job.trace ≡ is_used (codes "trace") rows

-- the words, the program's name first, ask for the job: the command finds no fault in them, and the
-- job is what it finds
pub record Asks (modes : List Mode) (words : List Text) (job : Job) : Type 0 where
  pub taken : fault_of command words ≡ []
  pub found : Finds modes (matches_of command words) job

-- the words ask for a job
abbrev pub AreInForm : List Mode → List Text → Type 0
AreInForm modes words = (job : Job) × Asks modes words job
