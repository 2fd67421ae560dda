-- What an image and a run of its code have to do with a program.
use Rattle.std.specs.Prelude.{ℕ, ◌+◌, ◌*◌, ◌≤◌, List}
use Rattle.lb_trace.specs.Prefix.{IsPrefix}
use Rattle.lb_syntax.specs.Tree.{Procedure}
use Rattle.lb_syntax.specs.Needs.{code_need}
use Rattle.lb_syntax.specs.Rules.{KeepsRules}
use Rattle.lb_source.specs.Defined.{IsDefined}
use Rattle.lb_source.specs.Source.{src}
use Rattle.lb_isa.specs.State.{RunState}
use Rattle.lb_image.specs.declared.image.Image.{Image}
use Rattle.lb_emit_laws.specs.Correct.{IsHalted}
use Rattle.lb_compile.specs.Correct.{Keeps, IsLean}

-- the program keeps the rules, and this is its image: it does what the program says, and its code
-- has few loads and stores where the program is small
pub record IsCompiled (p : List Procedure) (i : Image) : Type 0 where
  pub rules : KeepsRules p
  pub keeps : Keeps p i
  pub lean : IsLean p i

-- a run of the image's code and the program: where the program does nothing undefined with as much
-- fuel as the run committed instructions, what the run did to devices is the beginning of what the
-- program does, and the processor isn't halted; and what the program does with fuel f, if nothing
-- is undefined, is the beginning of what the run did, where it committed at least f + 1 times as
-- many instructions as the program asks for words
pub record IsRunOfImage (p : List Procedure) (i : Image) (replies : List ℕ) (c : RunState)
    : Type 0 where
  pub agrees : IsDefined (src p i.layout c.committed replies).end
      → IsPrefix c.trace (src p i.layout c.committed replies).trace
  pub runs : IsDefined (src p i.layout c.committed replies).end → ¬ (IsHalted i.code c)
  pub comes : (f : ℕ) → (f + 1) * code_need p ≤ c.committed
      → IsDefined (src p i.layout f replies).end
      → IsPrefix (src p i.layout f replies).trace c.trace
