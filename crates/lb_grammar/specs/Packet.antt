-- What a packet's bytes say.
use Rattle.std.specs.Prelude.{ℕ, ◌%◌, nat_le, ◌==◌, ◌&&◌, Bool, not, List, length, slice_index, Option, Some, None, if◌then◌else◌}

-- a length from 43, so that the byte of the command is there, to that of the longest frame's buffer
abbrev pub has_fit_length : List ℕ → Bool
has_fit_length bytes = nat_le 43 (length bytes) && nat_le (length bytes) 1520

-- the type of the frame is IPv4, the header has no options, and what it carries is UDP
abbrev pub is_udp : List ℕ → Bool
is_udp bytes =
    slice_index bytes 12 == 0x08 && slice_index bytes 13 == 0x00 && slice_index bytes 14 == 0x45 && slice_index bytes 23 == 0x11

-- the packet counts: the network chip marks no error, and its bytes are of the kind above
abbrev pub is_valid : Bool → List ℕ → Bool
is_valid error bytes = not error && has_fit_length bytes && is_udp bytes

-- the packet's command: whether the lamp is to be on
abbrev pub command : List ℕ → Bool
command bytes = slice_index bytes 42 % 2 == 1

-- the command of a packet that counts
abbrev pub command_of : Bool → List ℕ → Option Bool
command_of error bytes = if is_valid error bytes then Some (command bytes) else None
