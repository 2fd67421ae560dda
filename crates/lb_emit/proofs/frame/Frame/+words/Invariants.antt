use Rattle.std.proofs.Common.{◌≡◌, ◌+◌}
use Rattle.lb_flat.specs.Placed.{placed_block}
use Rattle.lb_emit_laws.specs.Code.{code_words}
use Rattle.lb_emit.specs.InternalEmit.{NamesSlots}
use Rattle.lb_emit.specs.InternalFrame.{frame_in}
use Rattle.lb_emit.proofs.Rest.{rest}
use Rattle.lb_emit.proofs.frame.Frame.+words.Given as goal

-- what is counted, and what is left to count, is all
abbrev pub invariant-words_of_block-loop-c : goal.invariant-words_of_block-loop-c
invariant-words_of_block-loop-c l = record {
  slots : NamesSlots l.self.slots (rest l.c-items l.c-index);
  count : l.words + code_words (frame_in l.self) (rest l.c-items l.c-index) ≡ code_words (frame_in l.self) (placed_block l.block);
}
