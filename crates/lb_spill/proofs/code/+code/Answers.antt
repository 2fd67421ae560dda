use Rattle.std.proofs.Common.{◌≡◌, ℕ, sym, ap, ◌∙◌}
use Rattle.lb_flat.specs.declared.flat.FlatBlock.{FlatBlock}
use Rattle.lb_flat.specs.declared.flat.FlatCmd.{FlatCmd, fold-roll-FlatCmd}
use Rattle.lb_flat.specs.declared.flat.FlatCmd.TheOpen as open-Flat
use Rattle.lb_flat.specs.declared.flat.FlatCmd.TheVariants as flat
use Rattle.lb_flat.specs.Code.{Code, Reserve}
use Rattle.lb_flat.specs.Flat.{flat_command, flat_block, flat_layer, flat_block_layer}
use Rattle.lb_spill.proofs.EmittedLemmas.{emitted_placed}
use Rattle.lb_spill.proofs.code.+code.Goals as goal

reserves : (c : FlatCmd) (n y : ℕ) (b : FlatBlock) → c ≡ flat.StackAlloc n y b → flat_command c ≡ Reserve n y (flat_block b)
reserves c n y b is = ap flat_command (is ∙ sym (flat.rolls-StackAlloc n y b)) ∙ fold-roll-FlatCmd (Code ℕ) (Code ℕ) flat_layer flat_block_layer (open-Flat.StackAlloc n y b)

pub add_command-returns-in_ok-reserved-in-StackAlloc : goal.add_command-returns-in_ok-reserved-in-StackAlloc
add_command-returns-in_ok-reserved-in-StackAlloc t c =
    let flat = c.in-StackAlloc in
    let reserved = c.in_ok-reserved-in-StackAlloc in
    rw (reserves c.args.c.now flat.bytes flat.target flat.body flat.is) (emitted_placed c.add.result c.args.code.now c.add.new.code reserved.reserved _ reserved.ensures c.add.ensures)
