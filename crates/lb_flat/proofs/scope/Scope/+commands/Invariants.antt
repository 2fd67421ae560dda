use Rattle.std.proofs.Common.{◌≡◌, ℕ, length}
use Rattle.lb_syntax.specs.Tree.{block_of}
use Rattle.lb_syntax.specs.WellFormed.{IsBlock}
use Rattle.lb_syntax.proofs.BlockLemmas.{rest}
use Rattle.lb_flat.specs.Code.{Code}
use Rattle.lb_flat.specs.InternalFlatten.{emitted, code_of, HasRoom}
use Rattle.lb_flat.proofs.scope.Scope.+commands.Given as goal

-- the code so far, and that of what is left, is the block's, which is well-formed if the rest is
abbrev pub invariant-block-loop-c : goal.invariant-block-loop-c
invariant-block-loop-c l =
    let left = rest l.c-items l.c-index in
    let whole = block_of l.block in
    record {
      made : (after : Code ℕ) → emitted l.code (code_of l.self left after) ≡ code_of l.self whole after;
      room : HasRoom (length l.self.names) left;
      well_formed : IsBlock left → IsBlock whole;
    }
