-- What it says of a text that no program was read from it. Want of memory says nothing of the text.
use Rattle.lb_syntax.specs.Names.{Text}
use Rattle.lb_spelling.specs.Places.{IsRefused, IsFault}
use Rattle.lb_text.specs.declared.error.ReadError.{ReadError}
use Rattle.lb_text.specs.declared.error.ReadError.TheVariants as errors

-- the text is no program's, or opens too many brackets
abbrev pub RefusedBy : ReadError → Text → Type 0
RefusedBy errors.Memory s = Unit {0}
RefusedBy (errors.Text fault) s = IsRefused s

-- the fault is the text's: its place and its kind
abbrev pub FaultOf : ReadError → Text → Type 0
FaultOf errors.Memory s = Unit {0}
FaultOf (errors.Text fault) s = IsFault s fault
