-- The reports of machines, and of verdicts on what they did.
use Rattle.std.specs.Prelude.{◌≡◌, ◌↔◌, ℕ, ◌==◌, Bool, true, false, List, [], ◌++◌, length, filter, Option, Some, None, codes, decimal}
use Rattle.lb_trace.specs.declared.Entry.{Entry}
use Rattle.lb_trace.specs.declared.Event.{Event}
use Rattle.lb_trace.specs.declared.Event.TheVariants.{Ld, St}
use Rattle.lb_trace.specs.declared.Kind.{Kind}
use Rattle.lb_trace.specs.declared.Kind.TheVariants.{Arrive}
use Rattle.lb_syntax.specs.Names.{Text}
use Rattle.lb_rv.specs.declared.instr.Cause.{Cause}
use Rattle.lb_isa.specs.declared.runner.Ending.{Ending}
use Rattle.lb_isa.specs.declared.runner.Ending.TheVariants.{Running, Halted}
use Rattle.lb_core.specs.Rows.{done_of}
use Rattle.lb_board.specs.Registers.{is_lit}
use Rattle.lb_machine.specs.State.{MachineOf}
use Rattle.lb_machine.specs.State.{Job as MachineJob}
use Rattle.lb_machine.specs.Logs.{replay}
use Rattle.lb_lines.specs.Log.{IsLogText}
use Rattle.lb_grammar.specs.declared.Verdict.{Verdict}
use Rattle.lb_grammar.specs.declared.Verdict.TheVariants.{Prefix, Leaves}
use Rattle.lb_grammar.specs.Forms.{Begins}
use Rattle.lb_grammar.specs.Grammar.{good}
use Rattle.lb_grammar.specs.Rounds.{HasRounds, SaysPrefix, TellsPlace, TellsRounds}
use Rattle.lb_words.specs.declared.job.Job.{Job}
use Rattle.lb_system.specs.RunReport.{ending_text, trace_part}

-- ---- a machine

-- the entry is the arrival of a frame
abbrev pub is_arrive : Kind → Bool
is_arrive Arrive = true
is_arrive _ = false

abbrev pub is_arrival : Entry → Bool
is_arrival e = is_arrive e.kind

-- the word of a lamp
abbrev pub lamp_text : Bool → Text
lamp_text true = codes "on"
lamp_text false = codes "off"

-- how a machine's core stands
abbrev pub ending_of : Option Cause → Ending
ending_of None = Running
ending_of (Some cause) = Halted cause

-- the lines `events N`, `done K`, `retired K`, `mmio M`, `arrived A` and `lamp LAMP` of a machine after
-- this log
abbrev pub counts_text : {L : Type 0} → List Entry → MachineOf L → Text
counts_text log m =
    codes "events " ++ (decimal (length log) ++ (codes "\ndone " ++ (decimal (done_of m.core)
    ++ (codes "\nretired " ++ (decimal m.core.retired ++ (codes "\nmmio " ++ (decimal (length m.trace)
    ++ (codes "\narrived " ++ (decimal (length (filter is_arrival log)) ++ (codes "\nlamp "
    ++ (lamp_text (is_lit m.board.output_val) ++ codes "\n")))))))))))

-- the line `end ENDING`, and the trace part
abbrev pub ending_lines : {L : Type 0} → Bool → MachineOf L → Text
ending_lines shown m =
    codes "end " ++ (ending_text (ending_of m.core.halted) ++ (codes "\n" ++ trace_part shown m.trace))

-- the line `log` and the log's lines, where they are asked for
abbrev pub IsLogPart : Bool → List Entry → Text → Type 0
IsLogPart true log text = (lines : Text) × IsLogText log lines × (text ≡ codes "log\n" ++ lines)
IsLogPart false log text = text ≡ []

-- the text is the report of a machine after this log, with these lines before its line `end`
pub record IsReportOf {L : Type 0} (job : Job) (between : Text) (log : List Entry) (m : MachineOf L)
    (text : Text) : Type 0 where
  pub log_text : Text
  pub log_part : IsLogPart job.log log log_text
  pub whole : text ≡ counts_text log m ++ (between ++ (ending_lines job.trace m ++ log_text))

-- of the machine that the log replays to
abbrev pub IsMachineReport : Job → MachineJob → List Entry → Text → Type 0
IsMachineReport job on log text = IsReportOf job [] log (replay on log) text

-- ---- the lamp

-- the event is a store to the pins, which switches the lamp
abbrev pub is_switch : Event → Bool
is_switch (Ld addr value) = false
is_switch (St addr value) = addr == 0x1001200C

-- the lines `switches S` and `rounds R`
abbrev pub rounds_text : ℕ → List Event → Text
rounds_text rounds trace =
    codes "switches " ++ (decimal (length (filter is_switch trace)) ++ (codes "\nrounds "
    ++ (decimal rounds ++ codes "\n")))

-- the text is the report of a machine after this log, with the switches and the whole rounds of its
-- trace
abbrev pub IsLampReportOf : {L : Type 0} → Job → List Entry → MachineOf L → Text → Type 0
IsLampReportOf job log m text =
    (rounds : ℕ) × HasRounds rounds m.trace
    × IsReportOf job (rounds_text rounds m.trace) log m text

-- of the machine that the log replays to
abbrev pub IsLampReport : Job → MachineJob → List Entry → Text → Type 0
IsLampReport job on log text = IsLampReportOf job log (replay on log) text

-- ---- verdicts

-- the verdict is the one on the events
pub record IsVerdict (events : List Event) (verdict : Verdict) : Type 0 where
  pub prefix : SaysPrefix verdict ↔ Begins good events
  pub rounds : TellsRounds events verdict
  pub place : TellsPlace events verdict

-- its line: `prefix rounds R` or `leaves at A`
abbrev pub verdict_text : Verdict → Text
verdict_text (Prefix rounds) = codes "prefix rounds " ++ (decimal rounds ++ codes "\n")
verdict_text (Leaves at) = codes "leaves at " ++ (decimal at ++ codes "\n")
