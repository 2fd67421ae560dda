-- Runs to which the language gives a meaning.
use Rattle.lb_source.specs.declared.ends.SourceEnd.{SourceEnd}
use Rattle.lb_source.specs.declared.ends.SourceEnd.TheVariants.{Spent, Starved, Undefined}

-- the run did nothing undefined
abbrev pub IsDefined : SourceEnd → Type 0
IsDefined Spent = Unit {0}
IsDefined Starved = Unit {0}
IsDefined (Undefined reason) = ⊥
