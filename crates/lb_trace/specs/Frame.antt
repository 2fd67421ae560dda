-- What contracts see in a frame of the network.
use Rattle.std.specs.Prelude.{ℕ, List, Bool}

-- the bytes, and whether the network chip marks the frame as faulty
pub record FrameContent : Type 0 where
  pub bytes : List ℕ
  pub error : Bool
