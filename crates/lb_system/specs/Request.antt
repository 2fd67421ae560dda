-- What the words of a command line ask for.
use Rattle.std.specs.Prelude.{List, [], ◌∷◌}
use Rattle.lb_syntax.specs.Names.{Text}
use Rattle.lb_words.specs.declared.job.Job.{Job}
use Rattle.lb_words.specs.declared.job.Mode.{Mode}
use Rattle.lb_words.specs.declared.job.Mode.TheVariants as mode
use Rattle.lb_words.specs.Words.{Asks}

-- the modes
abbrev pub modes : List Mode
modes =
    mode.Check ∷ mode.Print ∷ mode.Compile ∷ mode.List ∷ mode.Interp ∷ mode.Isa ∷ mode.Run
    ∷ mode.Lamp ∷ mode.Replay ∷ mode.Judge ∷ mode.Gen ∷ []

-- the words, the program's name first, ask for this job
abbrev pub IsRequest : List Text → Job → Type 0
IsRequest words job = Asks modes words job

-- the words are in form
abbrev pub AreInForm : List Text → Type 0
AreInForm words = (job : Job) × IsRequest words job
