-- Runs of the machine, and the program whose image runs there.
use Rattle.std.proofs.Common.{◌≡◌, inl, inr, ◌⊎◌, ◌<◌, ◌≤◌, List, ◌++◌, length, Some, None, sym, ap, subst, ◌∙◌}
use Rattle.std.specs.List.{All}
use Rattle.lb_trace.specs.declared.Entry.{Entry}
use Rattle.lb_trace.specs.Frame.{FrameContent}
use Rattle.lb_ports.specs.Bytes.{ReadsAll}
use Rattle.lb_syntax.specs.Names.{Text}
use Rattle.lb_syntax.specs.Tree.{Procedure}
use Rattle.lb_rv.specs.declared.instr.Cause.{Cause}
use Rattle.lb_machine.specs.State.{Job as MachineJob}
use Rattle.lb_machine.specs.Logs.{IsLegal}
use Rattle.lb_machine.specs.Machines.{MachineContent}
use Rattle.lb_machine.specs.Refusals.{FixedContent, halted_after}
use Rattle.lb_crew.specs.Drawn.{HasEnded}
use Rattle.lb_bulb.specs.Supplied.{supplied}
use Rattle.lb_correctness.specs.Laws.{LampKeeps, MachinesKeep}
use Rattle.lb_correctness.specs.Machines.{job_on}
use Rattle.lb_words.specs.declared.job.Job.{Job}
use Rattle.lb_words.specs.declared.job.Mode.TheVariants as mode
use Rattle.lb_system.specs.declared.top.Ended.{Ended}
use Rattle.lb_system.specs.Request.{IsRequest}
use Rattle.lb_system.specs.MachineReport.{IsLampReport, IsMachineReport}
use Rattle.lb_system.specs.Views.{shown_by}
use Rattle.lb_system.specs.Questions.{mode_reads, reads}
use Rattle.lb_system.specs.Answers.{Port, HasReport, IsCrewsLog, IsRead, IsReadLog, IsReport, CrewShows, Shows, ShowsLamp, ShowsMachine, ShowsRun, WritesReport, most_input, workers_of}
use Rattle.lb_system.specs.Headline.{IsFullLog, IsLogOf, RunsItsMachine, RunsMachine, RunsRightly, RunsTheLamp}
use Rattle.lb_system.proofs.IsaLemmas.{report_runs_image}
use Rattle.lb_system.proofs.TopLemmas.{ToldReason, one_request, told_unreported}
use Rattle.lb_system.specs.declared.crew.Workers.{Workers}

-- ---- the log of a crew

crews_fixed : (crew : Workers) (job : Job) (on : MachineJob) (log : List Entry) → (c : IsCrewsLog crew job on log) → c.ended.fixed ≡ record { job = on; max_events = job.events }
crews_fixed crew job on log c = c.crews.finishes.fixed ∙ c.crews.boots.0

crews_legal : (crew : Workers) (job : Job) (on : MachineJob) (log : List Entry) → IsCrewsLog crew job on log → IsLegal on log
crews_legal crew job on log c =
    subst (IsLegal on) (sym c.made) (subst (λ (f : FixedContent). IsLegal f.job c.ended.log) (crews_fixed crew job on log c) c.crews.finishes.replay.legal)

-- where the machine has ended
ended_so : (job : Job) (on : MachineJob) (log : List Entry) (m : MachineContent) → m.fixed ≡ record { job = on; max_events = job.events } → log ≡ m.log → HasEnded m
    → (length log ≡ job.events) ⊎ ((cause : Cause) × (halted_after on log ≡ Some cause))
ended_so job on log m fixed made ended =
    elim ended [
      | inl full ↦ inl (ap length made ∙ full ∙ ap (λ (f : FixedContent). f.max_events) fixed)
      | inr halted ↦ (
          let cause : Cause = halted.0 in
          inr (
            cause,
            ap (halted_after on) made ∙ sym (ap (λ (f : FixedContent). halted_after f.job m.log) fixed) ∙ halted.1,
          )
          )
    ]

crews_full : (crew : Workers) (job : Job) (on : MachineJob) (log : List Entry) → IsCrewsLog crew job on log → IsFullLog crew job on log
crews_full crew job on log c =
    let added : log ≡ c.crews.finishes.added = c.made ∙ c.crews.finishes.begins ∙ ap (λ l. l ++ c.crews.finishes.added) c.crews.boots.1 in
    record {
      ended = ended_so job on log c.ended (crews_fixed crew job on log c) c.made c.crews.finishes.ended;
      workers = subst (All (λ e. e.worker < workers_of crew job)) (sym added) c.crews.finishes.workers_below;
    }

-- ---- any program

-- from what is shown of a program's machine to the headline
machine_runs : MachinesKeep → (crew : Workers) (words : List Text) (source sink : Port) (job : Job) (e : Ended) (text input : Text) (IsLog : MachineJob → List Entry → Type 0)
    → ((on : MachineJob) (log : List Entry) → IsLog on log → IsLegal on log) → ((on : MachineJob) (log : List Entry) → IsLog on log → IsLogOf crew job.mode job input on log)
    → ReadsAll source.old source.new input → length input ≤ most_input → WritesReport sink e.fault text → ShowsRun IsLog job input (shown_by e text)
    → RunsItsMachine crew job source sink e
machine_runs laws crew words source sink job e text input IsLog legal made read short written it =
    let frames : List FrameContent = it.0 in
    let p : List Procedure = it.2.0 in
    let shows : ShowsMachine IsLog (IsMachineReport job) frames (shown_by e text) p = it.2.2 in
    let on = job_on shows.i frames in
    let lawful = legal on e.log.items shows.made in
    record {
      text = input;
      program = p;
      frames = frames;
      image = shows.i;
      read = read;
      short = short;
      accepted = it.2.1;
      said = it.1;
      shown = shows.shown;
      compiled = shows.compiled;
      legal = lawful;
      made = made on e.log.items shows.made;
      report = text;
      told = shows.told;
      written = written;
      runs = laws p shows.i frames e.log.items shows.compiled.keeps lawful;
    }

report_runs_machine : MachinesKeep → (crew : Workers) (words : List Text) (source sink : Port) (job : Job) (e : Ended) (text : Text) → IsReport crew words source (shown_by e text)
    → WritesReport sink e.fault text → IsRequest words job → RunsMachine job.mode → RunsItsMachine crew job source sink e
report_runs_machine laws crew words source sink job e text r written asked is =
    let s = shown_by e text in
    let same_job = one_request words r.it.job job r.case.asked asked in
    let shows : Shows crew job r.it.input s = subst (λ t. Shows crew t r.it.input s) same_job r.shows in
    elim is [
      | inl run ↦ (
          let it : ShowsRun (IsCrewsLog crew job) job r.it.input s = subst (λ m. CrewShows crew m job r.it.input s) run shows in
          let read : ReadsAll source.old source.new r.it.input = subst (λ b. IsRead b source r.it.input) (ap reads same_job ∙ ap mode_reads run) r.case.read in
          machine_runs laws crew words source sink job e text r.it.input (IsCrewsLog crew job) (crews_legal crew job)
          (λ on log h. subst (λ m. IsLogOf crew m job r.it.input on log) (sym run) (crews_full crew job on log h)) read r.case.short written it
          )
      | inr replay ↦ (
          let it : ShowsRun (IsReadLog r.it.input) job r.it.input s = subst (λ m. CrewShows crew m job r.it.input s) replay shows in
          let read : ReadsAll source.old source.new r.it.input = subst (λ b. IsRead b source r.it.input) (ap reads same_job ∙ ap mode_reads replay) r.case.read in
          machine_runs laws crew words source sink job e text r.it.input (IsReadLog r.it.input) (λ on log h. h.1)
          (λ on log h. subst (λ m. IsLogOf crew m job r.it.input on log) (sym replay) h.0) read r.case.short written it
          )
    ]

-- ---- the lamp

-- a log that is full or halts the core, and doesn't halt it
full_unhalted : (crew : Workers) (job : Job) (on : MachineJob) (log : List Entry) → IsFullLog crew job on log → halted_after on log ≡ None → length log ≡ job.events
full_unhalted crew job on log full runs =
    elim full.ended [
      | inl whole ↦ whole
      | inr halted ↦ (let cause : Cause = halted.0 in let no : ⊥ = cc (runs, halted.1) in absurd no)
    ]

report_runs_lamp : MachinesKeep → LampKeeps → (crew : Workers) (words : List Text) (source sink : Port) (job : Job) (e : Ended) (text : Text) → IsReport crew words source (shown_by e text)
    → WritesReport sink e.fault text → IsRequest words job → job.mode ≡ mode.Lamp → RunsTheLamp crew job source sink e
report_runs_lamp laws lamps crew words source sink job e text r written asked is =
    let s = shown_by e text in
    let same_job = one_request words r.it.job job r.case.asked asked in
    let shown : Shows crew job r.it.input s = subst (λ t. Shows crew t r.it.input s) same_job r.shows in
    let it : ShowsLamp crew job r.it.input s = subst (λ m. CrewShows crew m job r.it.input s) is shown in
    let read : ReadsAll source.old source.new r.it.input = subst (λ b. IsRead b source r.it.input) (ap reads same_job ∙ ap mode_reads is) r.case.read in
    let frames : List FrameContent = it.0 in
    let shows : ShowsMachine (IsCrewsLog crew job) (IsLampReport job) frames s supplied = it.2 in
    let on = job_on shows.i frames in
    let lawful = crews_legal crew job on e.log.items shows.made in
    let full = crews_full crew job on e.log.items shows.made in
    let lamp = lamps shows.i frames e.log.items shows.compiled.keeps lawful in
    record {
      text = r.it.input;
      frames = frames;
      image = shows.i;
      read = read;
      short = r.case.short;
      said = it.1;
      shown = shows.shown;
      compiled = shows.compiled;
      legal = lawful;
      full = full_unhalted crew job on e.log.items full lamp.runs;
      made = full;
      report = text;
      told = shows.told;
      written = written;
      runs = laws supplied shows.i frames e.log.items shows.compiled.keeps lawful;
      lamp = lamp;
    }

-- ---- all modes

pub report_runs : MachinesKeep → LampKeeps → (crew : Workers) (words : List Text) (source sink : Port) (e : Ended) (text : Text) → IsReport crew words source (shown_by e text)
    → WritesReport sink e.fault text → RunsRightly crew words source sink e
report_runs laws lamps crew words source sink e text r written =
    record {
      isa = λ job asked is told. report_runs_image crew words source sink job e text r written asked is;
      machine = λ job asked is told. report_runs_machine laws crew words source sink job e text r written asked is;
      lamp = λ job asked is told. report_runs_lamp laws lamps crew words source sink job e text r written asked is;
    }

-- without a report nothing is claimed
pub unreported_runs : (crew : Workers) (words : List Text) (source sink : Port) (e : Ended) → ToldReason words source e.fault e.image → RunsRightly crew words source sink e
unreported_runs crew words source sink e t =
    let none : HasReport e.fault → ⊥ = told_unreported words source e.fault e.image t in
    record {
      isa = λ job asked is told. absurd (none told);
      machine = λ job asked is told. absurd (none told);
      lamp = λ job asked is told. absurd (none told);
    }
