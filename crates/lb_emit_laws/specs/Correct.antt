-- What code owes to its placed program.
use Rattle.std.specs.Prelude.{◌≤◌, ℕ, nat_lt, if◌then◌else◌, List, map, sum, length, Option, Some, None}
use Rattle.lb_trace.specs.declared.Event.{Event}
use Rattle.lb_syntax.specs.Layouts.{AreFramesFor}
use Rattle.lb_syntax.specs.declared.layout.Layout.{Layout}
use Rattle.lb_source.specs.Correct.{Implements}
use Rattle.lb_rv.specs.declared.instr.Instr.{Instr}
use Rattle.lb_rv.specs.declared.instr.Cause.{Cause}
use Rattle.lb_rv.specs.Decoding.{instruction_of}
use Rattle.lb_rv.specs.Effects.{access}
use Rattle.lb_isa.specs.State.{RunState}
use Rattle.lb_isa.specs.Runs.{isa, IsHaltedBy}
use Rattle.lb_image.specs.Images.{IsImage}
use Rattle.lb_flat.specs.declared.places.Place.{Place}
use Rattle.lb_flat.specs.Code.{sites, Executable}
use Rattle.lb_flat.specs.Needs.{frame_need, code_need, placed_routine_words, placed_accesses_need}
use Rattle.lb_flat.specs.Whole.{placed_run}

-- the words of code that a placed program asks for
abbrev pub words_need : Executable Place → ℕ
words_need p = code_need placed_routine_words p.routines

-- a layout that is valid for a placed program
abbrev pub IsPlacedLayout : Layout → Executable Place → Type 0
IsPlacedLayout layout p = AreFramesFor (λ f. sites f.body) frame_need layout.frames p.routines

-- the run's processor is halted: some cause holds before the next instruction
abbrev pub IsHalted : List ℕ → RunState → Type 0
IsHalted code s = (cause : Cause) × IsHaltedBy cause code s

-- what so many instructions of a code do to devices, with these replies
abbrev pub shown : List ℕ → ℕ → List ℕ → ℕ → List Event
shown code entry replies n = (isa code entry replies n).trace

-- the processor is halted behind them
abbrev pub halts : List ℕ → ℕ → List ℕ → ℕ → Type 0
halts code entry replies n = IsHalted code (isa code entry replies n)

-- 1 for a load or a store, else 0
abbrev pub memory_access : Option Instr → ℕ
memory_access None = 0
memory_access (Some i) = if nat_lt 0 (access i).bytes then 1 else 0

-- how many words of a code are loads or stores
abbrev pub memory_accesses : List ℕ → ℕ
memory_accesses code = sum (map (λ w. memory_access (instruction_of w)) code)

-- code, layout and entry, of a program with which they keep all promises
pub record IsCodeOf (p : Executable Place) (code : List ℕ) (layout : Layout) (entry : ℕ) : Type 0 where
  -- the layout is valid for the program
  pub valid : IsPlacedLayout layout p
  -- all fields are in the ranges of an image, so there is a word at least, and the entry is below the code's end
  pub image : IsImage (record { code = code; layout = layout; entry = entry })
  -- there are no more words than the program asks for
  pub few : length code ≤ words_need p
  -- and among them no more loads and stores
  pub lean : memory_accesses code ≤ placed_accesses_need p.routines
  -- whatever words the devices reply: where the program does nothing undefined with fuel n, what n instructions do to devices is the
  -- beginning of what the program does, and the processor isn't halted; and what the program does is the beginning of what
  -- n + 1 times as many instructions do as the program asks for words
  pub implements : Implements (placed_run p layout) (words_need p) (shown code entry) (halts code entry)
