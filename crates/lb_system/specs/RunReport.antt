-- The reports of runs.
use Rattle.std.specs.Prelude.{ℕ, Bool, true, false, List, [], ◌++◌, length, codes, decimal}
use Rattle.lb_trace.specs.TraceText.{trace_text}
use Rattle.lb_trace.specs.declared.Event.{Event}
use Rattle.lb_syntax.specs.Names.{Text}
use Rattle.lb_syntax.specs.Tree.{Procedure}
use Rattle.lb_rv.specs.declared.instr.Cause.{Cause}
use Rattle.lb_rv.specs.declared.instr.Cause.TheVariants.{BadPc, UnknownWord, Ecall, Ebreak, StoreToCode, BadAccess}
use Rattle.lb_isa.specs.State.{RunState}
use Rattle.lb_isa.specs.Runs.{isa, isa_ending}
use Rattle.lb_isa.specs.declared.runner.Ending.{Ending}
use Rattle.lb_isa.specs.declared.runner.Ending.TheVariants.{Running, WantsReply, Halted}
use Rattle.lb_source.specs.Source.{src}
use Rattle.lb_source.specs.declared.ends.Reason.{Reason}
use Rattle.lb_source.specs.declared.ends.Reason.TheVariants.{UnsetVariable, NotOwned, UnsetByte, Unaligned, OutOfRange}
use Rattle.lb_source.specs.declared.ends.SourceEnd.{SourceEnd}
use Rattle.lb_source.specs.declared.ends.SourceEnd.TheVariants.{Spent, Starved, Undefined}
use Rattle.lb_source.specs.declared.ends.SourceRun.{SourceRun}
use Rattle.lb_image.specs.declared.image.Image.{Image}
use Rattle.lb_words.specs.declared.job.Job.{Job}

-- the word of a cause that halts the processor
abbrev pub cause_text : Cause → Text
cause_text BadPc = codes "bad-pc"
cause_text UnknownWord = codes "unknown-word"
cause_text Ecall = codes "ecall"
cause_text Ebreak = codes "ebreak"
cause_text StoreToCode = codes "store-to-code"
cause_text BadAccess = codes "bad-access"

-- how a run of the code ended, in words
abbrev pub ending_text : Ending → Text
ending_text Running = codes "running"
ending_text WantsReply = codes "wants-reply"
ending_text (Halted cause) = codes "halted " ++ cause_text cause

-- the word of a reason for which a run of a source is undefined
abbrev pub reason_text : Reason → Text
reason_text UnsetVariable = codes "unset-variable"
reason_text NotOwned = codes "not-owned"
reason_text UnsetByte = codes "unset-byte"
reason_text Unaligned = codes "unaligned"
reason_text OutOfRange = codes "out-of-range"

-- how a run of a source ended, in words
abbrev pub end_text : SourceEnd → Text
end_text Spent = codes "spent"
end_text Starved = codes "starved"
end_text (Undefined reason) = codes "undefined " ++ reason_text reason

-- the line `trace` and a line for each event, where they are asked for
abbrev pub trace_part : Bool → List Event → Text
trace_part true trace = codes "trace\n" ++ trace_text trace
trace_part false trace = []

-- the lines `mmio M` and `end ENDING`, and the trace part
abbrev pub events_text : Text → Bool → List Event → Text
events_text ending shown trace =
    codes "mmio " ++ (decimal (length trace) ++ (codes "\nend " ++ (ending
    ++ (codes "\n" ++ trace_part shown trace))))

-- of a run of the source
abbrev pub source_text : Bool → SourceRun → Text
source_text shown run = events_text (end_text run.end) shown run.trace

-- the line `done K`, and those of the events, of a run of the code
abbrev pub processor_text : Bool → RunState → Ending → Text
processor_text shown run ending =
    codes "done " ++ (decimal run.committed ++ (codes "\n"
    ++ events_text (ending_text ending) shown run.trace))

-- the report of the source's run with the image's layout, the job's number of events as its fuel, and
-- these replies
abbrev pub interp_report : Job → List Procedure → List ℕ → Image → Text
interp_report job p replies i = source_text job.trace (src p i.layout job.events replies)

-- the report of the run of the image's code from its entry, for at most the job's number of instructions,
-- with these replies
abbrev pub isa_report : Job → List ℕ → Image → Text
isa_report job replies i =
    processor_text job.trace (isa i.code i.entry replies job.events)
    (isa_ending i.code i.entry replies job.events)
