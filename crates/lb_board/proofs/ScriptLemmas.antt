-- The script stays, and each arrival is counted.
use Rattle.std.proofs.Common.{◌≡◌, ℕ, ◌+◌, Bool, true, false, if◌then◌else◌, List, [], ◌∷◌, length, filter, refl, ap, ◌∙◌, arith}
use Rattle.lb_trace.specs.Frame.{FrameContent}
use Rattle.lb_trace.specs.declared.Kind.TheVariants.{Fetch, Decode, Execute, Ram, Mmio, Writeback, Boot, Shift, Arrive}
use Rattle.lb_board.specs.declared.registers.Register.{Register}
use Rattle.lb_board.specs.declared.registers.Register.TheVariants.{OutputEn, OutputVal, IofEn, CsMode, TxData, RxData, Unused}
use Rattle.lb_board.specs.Registers.{register_at, read_in}
use Rattle.lb_board.specs.Rows.{by_bytes, written_in}
use Rattle.lb_board.specs.Steps.{BoardState, BoardView, Step, Reads, Writes, Acts, stepped, after_steps, board, booted, is_arrival, arrivals}
use Rattle.lb_board.specs.Calls.{TellsScript, CountsArrivals}

-- an access leaves both, an action the script
record SameScript (s t : BoardState) : Type 0 where
  pub frames : t.frames ≡ s.frames
  pub arrived : t.arrived ≡ s.arrived

read_keeps_script : (r : Register) (s : BoardState) → SameScript s (read_in r s)
read_keeps_script OutputEn s = record { frames = refl; arrived = refl }
read_keeps_script OutputVal s = record { frames = refl; arrived = refl }
read_keeps_script IofEn s = record { frames = refl; arrived = refl }
read_keeps_script CsMode s = record { frames = refl; arrived = refl }
read_keeps_script TxData s = record { frames = refl; arrived = refl }
read_keeps_script RxData s = record { frames = refl; arrived = refl }
read_keeps_script Unused s = record { frames = refl; arrived = refl }

write_keeps_script : (r : Register) (v : ℕ) (s : BoardState) → SameScript s (written_in by_bytes r v s)
write_keeps_script OutputEn v s = record { frames = refl; arrived = refl }
write_keeps_script OutputVal v s = record { frames = refl; arrived = refl }
write_keeps_script IofEn v s = record { frames = refl; arrived = refl }
write_keeps_script CsMode v s = record { frames = refl; arrived = refl }
write_keeps_script TxData v s = record { frames = refl; arrived = refl }
write_keeps_script RxData v s = record { frames = refl; arrived = refl }
write_keeps_script Unused v s = record { frames = refl; arrived = refl }

abbrev counted : Bool → ℕ
counted t = if t then 1 else 0

-- a step leaves the script, and is counted where it is an arrival
record Counts (x : Step) (s : BoardState) : Type 0 where
  pub frames : (stepped by_bytes x s).frames ≡ s.frames
  pub arrived : (stepped by_bytes x s).arrived ≡ s.arrived + counted (is_arrival x)

plus_none : (n : ℕ) → n ≡ n + 0
plus_none n = omega arith

counts : (x : Step) (s : BoardState) → Counts x s
counts (Reads a) s = let e = read_keeps_script (register_at a) s in record { frames = e.frames; arrived = e.arrived ∙ plus_none s.arrived }
counts (Writes a v) s = let e = write_keeps_script (register_at a) v s in record { frames = e.frames; arrived = e.arrived ∙ plus_none s.arrived }
counts (Acts Fetch) s = record { frames = refl; arrived = plus_none s.arrived }
counts (Acts Decode) s = record { frames = refl; arrived = plus_none s.arrived }
counts (Acts Execute) s = record { frames = refl; arrived = plus_none s.arrived }
counts (Acts Ram) s = record { frames = refl; arrived = plus_none s.arrived }
counts (Acts Mmio) s = record { frames = refl; arrived = plus_none s.arrived }
counts (Acts Writeback) s = record { frames = refl; arrived = plus_none s.arrived }
counts (Acts Boot) s = record { frames = refl; arrived = plus_none s.arrived }
counts (Acts Shift) s = record { frames = refl; arrived = plus_none s.arrived }
counts (Acts Arrive) s = record { frames = refl; arrived = refl }

-- ---- lists

one_counted : (t : Bool) (x : Step) (xs : List Step) → length (if t then x ∷ xs else xs) ≡ counted t + length xs
one_counted true x xs = omega arith
one_counted false x xs = omega arith

frames-after_steps : (xs : List Step) (s : BoardState) → (after_steps xs s).frames ≡ s.frames
frames-after_steps [] s = refl
frames-after_steps (x ∷ xs) s = frames-after_steps xs (stepped by_bytes x s) ∙ (counts x s).frames

arrived-after_steps : (xs : List Step) (s : BoardState) → (after_steps xs s).arrived ≡ s.arrived + arrivals xs
arrived-after_steps [] s = plus_none s.arrived
arrived-after_steps (x ∷ xs) s =
    omega (arith, arrived-after_steps xs (stepped by_bytes x s), (counts x s).arrived, one_counted (is_arrival x) x (filter is_arrival xs))

pub frames-board : (fs : List FrameContent) (xs : List Step) → (board fs xs).frames ≡ fs
frames-board fs xs = frames-after_steps xs (booted fs)

pub arrived-board : (fs : List FrameContent) (xs : List Step) → (board fs xs).arrived ≡ arrivals xs
arrived-board fs xs = omega (arith, arrived-after_steps xs (booted fs))

-- ---- the calls

pub tells_script : (now : BoardView) → TellsScript now now.frames
tells_script now fs xs e = ap (λ (b : BoardView). b.frames) e ∙ frames-board fs xs

pub counts_arrivals : (now : BoardView) → CountsArrivals now now.arrived
counts_arrivals now fs xs e = ap (λ (b : BoardView). b.arrived) e ∙ arrived-board fs xs
