-- The law of the code of placed programs.
use Rattle.lb_flat.specs.declared.places.Place.{Place}
use Rattle.lb_flat.specs.Code.{Executable}
use Rattle.lb_flat.specs.Order.{IsPlacedInOrder}
use Rattle.lb_rv.specs.Table.{IsInRange}
use Rattle.std.specs.Prelude.{All}
use Rattle.lb_emit_laws.specs.Frames.{layout_of}
use Rattle.lb_emit_laws.specs.Code.{program_code, program_words, program_entry}
use Rattle.lb_emit_laws.specs.Correct.{IsCodeOf}

-- the code of a placed program that is in order keeps all promises
abbrev pub ProgramWordsAreCode : Type 0
ProgramWordsAreCode = (p : Executable Place) → IsPlacedInOrder p → IsCodeOf p (program_words p) (layout_of p) program_entry

-- each of its instructions has registers and an immediate that its word can hold
abbrev pub ProgramCodeIsInRange : Type 0
ProgramCodeIsInRange = (p : Executable Place) → IsPlacedInOrder p → All IsInRange (program_code p)
