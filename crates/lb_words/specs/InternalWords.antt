-- What private contracts cite: why the command doesn't take the words.
use Rattle.std.specs.Prelude.{◌≡◌}
use Rattle.clap.specs.declared.error.kind.ErrorKind.{ErrorKind}
use Rattle.clap.specs.declared.error.kind.ErrorKind.TheVariants.{OutOfMemory}
use Rattle.lb_words.specs.declared.read.JobError.{JobError}
use Rattle.lb_words.specs.declared.read.JobError.TheVariants.{Usage, Memory}

-- want of memory alone is no fault of the words
abbrev pub TellsRefusal : ErrorKind → JobError → Type 0
TellsRefusal kind Memory = kind ≡ OutOfMemory
TellsRefusal kind Usage = ¬ (kind ≡ OutOfMemory)
