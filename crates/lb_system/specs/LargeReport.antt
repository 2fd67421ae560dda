-- The large program of a seed, and the report of what it asks for and does.
use Rattle.std.specs.Prelude.{◌≡◌, ℕ, List, [], ◌++◌, length, min, codes, decimal}
use Rattle.lb_trace.specs.declared.Event.{Event}
use Rattle.lb_syntax.specs.Names.{Text}
use Rattle.lb_syntax.specs.Tree.{Procedure}
use Rattle.lb_syntax.specs.Needs.{code_need}
use Rattle.lb_syntax.specs.Calls.{IsStackNeed}
use Rattle.lb_draws.specs.Draws.{draw}
use Rattle.lb_gen.specs.Made.{made}
use Rattle.lb_source.specs.Source.{src}
use Rattle.lb_source.specs.declared.ends.SourceRun.{SourceRun}
use Rattle.lb_image.specs.declared.image.Image.{Image}
use Rattle.lb_isa.specs.Runs.{isa}
use Rattle.lb_machine.specs.Logs.{most_entries}
use Rattle.lb_machine.specs.Machines.{MachineContent, IsBooted, IsReplay}
use Rattle.lb_crew.specs.Drawn.{IsDrawnUntil}
use Rattle.lb_correctness.specs.Images.{IsCompiled}
use Rattle.lb_correctness.specs.Machines.{job_on}
use Rattle.lb_words.specs.declared.job.Job.{Job}
use Rattle.lb_system.specs.declared.large.Counts.{Counts}
use Rattle.lb_system.specs.RunReport.{trace_part}
use Rattle.lb_system.specs.Views.{View, with_image}

-- the program of a seed
abbrev pub seed_program : ℕ → List Procedure
seed_program seed = made (draw seed 0)

-- ---- its runs: none of them has replies or frames

-- the fuel of the source's run
abbrev pub large_fuel : ℕ
large_fuel = 4000

-- the most instructions of the run of the image's code
abbrev pub most_instructions : ℕ
most_instructions = 1000000

-- the events at which the runs of the image are stopped
abbrev pub most_counted : ℕ
most_counted = 64

-- what the source does, with the image's layout
abbrev pub source_run : ℕ → Image → SourceRun
source_run seed i = src (seed_program seed) i.layout large_fuel []

-- what so many instructions of the image's code do on the instruction machine
abbrev pub code_trace : Image → ℕ → List Event
code_trace i n = (isa i.code i.entry [] n).trace

-- the machine was booted with the image's code, and worker 0 alone fired it, by the draws of the seed,
-- until there were so many events, its log was full or its core was halted
pub record IsFired (seed : ℕ) (i : Image) (booted fired : MachineContent) : Type 0 where
  pub boot : IsBooted (job_on i []) most_entries booted
  pub fixed : fired.fixed ≡ booted.fixed
  pub drawn : IsDrawnUntil most_counted seed booted fired
  pub replay : IsReplay fired

-- the machine so fired made this many events
abbrev pub IsCoreCount : ℕ → Image → ℕ → Type 0
IsCoreCount seed i n =
    (booted fired : MachineContent) × IsFired seed i booted fired × (n ≡ length fired.trace)

-- ---- the report

-- what the program asks for, and how many events its runs make
pub record AreCounts (seed : ℕ) (i : Image) (c : Counts) : Type 0 where
  pub functions : c.functions ≡ length (seed_program seed)
  pub words : c.words ≡ code_need (seed_program seed)
  pub stack : IsStackNeed (seed_program seed) c.stack
  pub mmio : c.mmio ≡ length (source_run seed i).trace
  pub isa : c.isa ≡ min most_counted (length (code_trace i most_instructions))
  pub core : IsCoreCount seed i c.core

-- a line of a word and a number
abbrev pub number_line : Text → ℕ → Text
number_line word n = word ++ (codes " " ++ (decimal n ++ codes "\n"))

-- the line of the seed
abbrev pub seed_line : ℕ → Text
seed_line seed = number_line (codes "seed") seed

-- the lines of what the program asks for
abbrev pub needs_lines : Counts → Text
needs_lines c =
    number_line (codes "functions") c.functions ++ (number_line (codes "words") c.words
    ++ number_line (codes "stack") c.stack)

-- the lines of its runs
abbrev pub runs_lines : Counts → Text
runs_lines c =
    number_line (codes "mmio") c.mmio ++ (number_line (codes "isa") c.isa
    ++ number_line (codes "core") c.core)

-- the report of these counts and of the source's events
abbrev pub large_report : Job → Counts → List Event → Text
large_report job c trace =
    seed_line job.seed ++ (needs_lines c ++ (runs_lines c ++ trace_part job.trace trace))

-- the image of the seed's program, and the report over it
pub record ShowsLarge (job : Job) (s : View) : Type 0 where
  pub image : Image
  pub counts : Counts
  pub compiled : IsCompiled (seed_program job.seed) image
  pub counted : AreCounts job.seed image counts
  pub shown : s ≡ with_image (large_report job counts (source_run job.seed image).trace) image
