-- What a block's tree says.
use Rattle.std.proofs.Common.{◌≡◌, ℕ, List, [], ◌∷◌, ◌++◌, refl, ap, ◌∙◌}
use Rattle.std.specs.Prelude.{codes, map}
use Rattle.lb_syntax.specs.Names.{Text}
use Rattle.lb_syntax.specs.declared.tree.Cmd.{Cmd}
use Rattle.lb_syntax.specs.declared.tree.Block.{Block}
use Rattle.lb_syntax.specs.Tree.{Command, command_of, block_of, chain}
use Rattle.lb_syntax.proofs.TreeFacts.{says_block}
use Rattle.lb_syntax.specs.Printing.{line, else_text}

chain_else : (d : ℕ) (cs : List Cmd) (inner : Text) → (cs ≡ [] → ⊥) → else_text d (chain (map command_of cs)) inner ≡ line d (codes "} else {") ++ inner
chain_else d [] inner h = absurd (h refl)
chain_else d (c ∷ cs) inner h = refl

-- `else` is printed where there are commands
pub with_else : (d : ℕ) (b : Block) (inner : Text) → (b.commands ≡ [] → ⊥) → else_text d (block_of b) inner ≡ line d (codes "} else {") ++ inner
with_else d b inner h = ap (λ (c : Command). else_text d c inner) (says_block b.commands) ∙ chain_else d b.commands inner h
