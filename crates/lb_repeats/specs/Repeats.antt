-- What two equal calls of `plain` owe to each other.
use Rattle.std.specs.Prelude.{◌≡◌, ◌≢◌, List, Some}
use Rattle.std.specs.Io.KnownBytes.{Appends}
use Rattle.lb_syntax.specs.Names.{Text}
use Rattle.lb_system.specs.declared.top.Ended.{Ended}
use Rattle.lb_system.specs.Answers.{Port, Failed}
use Rattle.lb_system.specs.Calls.{EndsRightly}
use Rattle.lb_system.specs.declared.crew.Workers.TheVariants as workers

-- a call: its source and its sink, and how it ended
pub record Call : Type 0 where
  pub source : Port
  pub sink : Port
  pub ended : Ended

-- what `plain` ensures of it for these words
abbrev pub IsPlain : List Text → Call → Type 0
IsPlain words c = EndsRightly workers.Alone words c.source c.sink c.ended

-- its source told these bytes, no count of faults rose, and there was memory
pub record IsUndisturbed (bytes : Text) (c : Call) : Type 0 where
  pub told : c.source.old ≡ Some bytes
  pub reads : ¬ (Failed c.source)
  pub writes : ¬ (Failed c.sink)
  pub memory : c.ended.status ≢ 9

-- both ended with the same status and the same log, and wrote the same text
pub record AnswerEqually (a b : Call) : Type 0 where
  pub status : a.ended.status ≡ b.ended.status
  pub log : a.ended.log.items ≡ b.ended.log.items
  pub text : Text
  pub first : Appends a.sink.old a.sink.new text
  pub second : Appends b.sink.old b.sink.new text

-- of two calls with the same words, whose sources tell the same bytes, and which show the same
-- image
abbrev pub CallsRepeat : Type 0
CallsRepeat =
    (words : List Text) (bytes : Text) (a b : Call) → IsPlain words a → IsPlain words b
    → IsUndisturbed bytes a → IsUndisturbed bytes b → a.ended.image ≡ b.ended.image
    → AnswerEqually a b
