use Rattle.std.proofs.Common.{◌∙◌, ℕ}
use Rattle.lb_flat.specs.declared.flat.FlatBlock.{fold-roll-FlatBlock}
use Rattle.lb_flat.specs.Code.{Code}
use Rattle.lb_flat.specs.Flat.{flat_layer, flat_block_layer}
use Rattle.lb_flat.proofs.EmittedLemmas.{emitted_chain}
use Rattle.lb_flat.proofs.scope.closed.Goals as goal

pub returns : goal.returns
returns c = fold-roll-FlatBlock (Code ℕ) (Code ℕ) flat_layer flat_block_layer (record { commands = c.args.code }) ∙ emitted_chain c.args.code
