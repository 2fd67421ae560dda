-- What a processor holds, and what a run of it has done.
use Rattle.std.specs.Prelude.{ℕ, List, ◌++◌}
use Rattle.lb_trace.specs.declared.Event.{Event}
use Rattle.lb_outcome.specs.Cells.{cells}

-- the most words of a code
abbrev pub most_words : ℕ
most_words = 32768

-- a processor: the address of the next instruction, the registers, and the bytes of RAM
pub record ProcessorState : Type 0 where
  pub pc : ℕ
  pub registers : ℕ → ℕ
  pub ram : ℕ → ℕ

-- a run so far: its processor, the replies that are left, the accesses of devices, and how many instructions were committed
pub record RunState : Type 0 where
  pub processor : ProcessorState
  pub replies : List ℕ
  pub trace : List Event
  pub committed : ℕ

-- a run with these replies behind those that are left
abbrev pub with_more : List ℕ → RunState → RunState
with_more more s = record {
  processor = s.processor;
  replies = s.replies ++ more;
  trace = s.trace;
  committed = s.committed;
}

-- what contracts see in an `Isa`: its code, its pc, the registers from x0 on, and RAM from address 0 on
pub record IsaContent : Type 0 where
  pub code : List ℕ
  pub pc : ℕ
  pub registers : List ℕ
  pub ram : List ℕ

-- the processor that it is
abbrev pub processor_of : IsaContent → ProcessorState
processor_of m = record { pc = m.pc; registers = cells m.registers; ram = cells m.ram }
