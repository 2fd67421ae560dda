use Rattle.std.proofs.Common.{◌∙◌}
use Rattle.lb_flat.specs.declared.places.Place.{Place}
use Rattle.lb_flat.specs.declared.placed.PlacedBlock.{fold-roll-PlacedBlock}
use Rattle.lb_flat.specs.Code.{Code}
use Rattle.lb_flat.specs.Placed.{placed_layer, placed_block_layer}
use Rattle.lb_spill.proofs.EmittedLemmas.{emitted_chain}
use Rattle.lb_spill.proofs.code.closed.Goals as goal

pub returns : goal.returns
returns c = fold-roll-PlacedBlock (Code Place) (Code Place) placed_layer placed_block_layer (record { commands = c.args.code }) ∙ emitted_chain c.args.code
