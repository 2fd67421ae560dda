-- The memory map: which addresses are RAM's, and which are those of a device's word.
use Rattle.std.specs.Prelude.{ℕ, ◌+◌, ◌%◌, nat_le, ◌==◌, ◌&&◌, Bool}
use Rattle.lb_memory.specs.declared.TheConstants.{RAM_SIZE}
use Rattle.lb_memory.specs.Map.{is_device}

-- an access of this many bytes at the address a lies wholly in RAM
abbrev pub is_in_ram : ℕ → ℕ → Bool
is_in_ram bytes a = nat_le (a + bytes) RAM_SIZE

-- it is one of an aligned word of a device
abbrev pub is_device_word : ℕ → ℕ → Bool
is_device_word bytes a = bytes == 4 && a % 4 == 0 && is_device a
