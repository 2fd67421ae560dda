-- What contracts see of a source and of a sink in memory.
use Rattle.std.specs.Prelude.{◌≡◌, ℕ, ◌-◌, ◌<◌, ◌⊎◌, List, ◌++◌, length, take, drop, Contains}
use Rattle.lb_ports.specs.Faults.{next_count}

pub record SourceState : Type 0 where
  -- the bytes that are left
  pub left : List ℕ
  -- the most bytes that a call gives
  pub piece : ℕ
  -- the numbers of the calls that fail
  pub fails : List ℕ
  -- the number of the next call
  pub calls : ℕ
  -- how many calls have failed
  pub faults : ℕ

pub record SinkState : Type 0 where
  -- the bytes that it holds
  pub held : List ℕ
  -- how many more bytes it has room for
  pub room : ℕ
  -- the most bytes that a call takes
  pub piece : ℕ
  -- the numbers of the calls that fail
  pub fails : List ℕ
  -- the number of the next call
  pub calls : ℕ
  -- how many calls have failed
  pub faults : ℕ

-- the source after a read that gave this many bytes
abbrev pub source_after_read : SourceState → ℕ → SourceState
source_after_read s count = record s { left = drop count s.left; calls = next_count s.calls }

-- the source after a read that failed
abbrev pub source_after_fault : SourceState → SourceState
source_after_fault s = record s { calls = next_count s.calls; faults = next_count s.faults }

-- a write of the bytes fails: its call is listed, or no room is left and there are bytes to take
abbrev pub Refuses : SinkState → List ℕ → Type 0
Refuses s bytes = Contains s.fails s.calls ⊎ ((s.room ≡ 0) × (0 < length bytes))

-- the sink after a write that took this many of the bytes
abbrev pub sink_after_write : SinkState → List ℕ → ℕ → SinkState
sink_after_write s bytes count = record s {
  held = s.held ++ take count bytes;
  room = s.room - count;
  calls = next_count s.calls;
}

-- the sink after a write that failed
abbrev pub sink_after_fault : SinkState → SinkState
sink_after_fault s = record s { calls = next_count s.calls; faults = next_count s.faults }
