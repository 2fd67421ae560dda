-- What an image owes to its program.
use Rattle.std.specs.Prelude.{◌≤◌, List, length}
use Rattle.lb_syntax.specs.Tree.{Procedure}
use Rattle.lb_syntax.specs.Needs.{code_need}
use Rattle.lb_syntax.specs.Layouts.{IsValidLayout}
use Rattle.lb_source.specs.Correct.{Implements}
use Rattle.lb_source.specs.Source.{src}
use Rattle.lb_isa.specs.Runs.{isa}
use Rattle.lb_image.specs.declared.image.Image.{Image}
use Rattle.lb_image.specs.Images.{IsImage}
use Rattle.lb_flat.specs.SourceCounts.{source_accesses_need, IsSmall}
use Rattle.lb_emit_laws.specs.Correct.{IsHalted, memory_accesses}

-- the image does what the program says
pub record Keeps (p : List Procedure) (i : Image) : Type 0 where
  -- its layout is valid for the program
  pub layout : IsValidLayout i.layout p
  -- its fields are in range; so its code has one word at least
  pub image : IsImage i
  -- the code has no more words than the program asks for
  pub few : length i.code ≤ code_need p
  -- whatever words the devices reply: where the program does nothing undefined with fuel n, what n instructions do to devices is the
  -- beginning of what the program does, and the processor isn't halted; and what the program does is the beginning of what
  -- n + 1 times as many instructions do as the program asks for words
  pub implements : Implements (src p i.layout) (code_need p)
      (λ replies n. (isa i.code i.entry replies n).trace)
      (λ replies n. IsHalted i.code (isa i.code i.entry replies n))

-- if the program's functions need few variables, no more words of the code are loads and stores than this number, which is counted on
-- the program alone
abbrev pub IsLean : List Procedure → Image → Type 0
IsLean p i = IsSmall p → memory_accesses i.code ≤ source_accesses_need p
