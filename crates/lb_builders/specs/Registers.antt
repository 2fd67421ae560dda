-- Commands on a register of a device.
use Rattle.std.specs.Prelude.{ℕ, [], ◌∷◌}
use Rattle.lb_syntax.specs.Names.{Text}
use Rattle.lb_syntax.specs.Tree.{Term, Number, Command, Interacts}
use Rattle.lb_syntax.specs.declared.tree.Action.TheVariants.{Read, Write}

-- `x = MMIOREAD(address);`
abbrev pub reads : Text → ℕ → Command
reads x address = Interacts (x ∷ []) Read (Number address ∷ [])

-- `MMIOWRITE(address, value);`
abbrev pub writes : ℕ → Term → Command
writes address value = Interacts [] Write (Number address ∷ value ∷ [])
