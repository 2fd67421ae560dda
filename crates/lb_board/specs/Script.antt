-- The frames that are to arrive at a board.
use Rattle.std.specs.Prelude.{◌≤◌, List, length, All}
use Rattle.lb_trace.specs.Frame.{FrameContent}

-- a frame of the network has 1 to 2,000 bytes
abbrev pub IsNetworkFrame : FrameContent → Type 0
IsNetworkFrame f = (1 ≤ length f.bytes) × (length f.bytes ≤ 2000)

-- at most 64 of them
abbrev pub IsScript : List FrameContent → Type 0
IsScript fs = (length fs ≤ 64) × All IsNetworkFrame fs
