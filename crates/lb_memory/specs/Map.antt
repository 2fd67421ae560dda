-- The memory map: what stands at which byte address.
use Rattle.std.specs.Prelude.{◌≡◌, ℕ, nat_le, Bool, ◌&&◌, ◌||◌}
use Rattle.lb_memory.specs.declared.TheConstants.{RAM_SIZE, STACK_TOP, MOST_STACK, PINS_FIRST, PINS_LAST, BUS_FIRST, BUS_LAST}

-- the byte address is one of the general-purpose pins' registers or of the serial bus's
abbrev pub is_device : ℕ → Bool
is_device a = (nat_le PINS_FIRST a && nat_le a PINS_LAST) || (nat_le BUS_FIRST a && nat_le a BUS_LAST)

-- the numbers of the map
pub record MemoryMap : Type 0 where
  pub ram_size : RAM_SIZE ≡ 0x40000
  pub stack_top : STACK_TOP ≡ 0x40000
  pub most_stack : MOST_STACK ≡ 65536
  pub pins_first : PINS_FIRST ≡ 0x10012000
  pub pins_last : PINS_LAST ≡ 0x10012FFF
  pub bus_first : BUS_FIRST ≡ 0x10024000
  pub bus_last : BUS_LAST ≡ 0x10024FFF
