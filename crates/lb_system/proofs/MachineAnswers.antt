-- What is shown of a machine, from what its mode made.
use Rattle.std.proofs.Common.{◌≡◌, inl, inr, ℕ, ◌≤◌, List, [], ◌∷◌, ◌++◌, length, Some, refl, sym, ap, subst, ◌∙◌}
use Rattle.std.proofs.lemmas.Option.{same_Some}
use Rattle.lb_trace.specs.declared.Entry.{Entry}
use Rattle.lb_trace.specs.Frame.{FrameContent}
use Rattle.lb_syntax.specs.Names.{Text}
use Rattle.lb_syntax.specs.Tree.{Procedure}
use Rattle.lb_syntax.specs.Rules.{KeepsRules}
use Rattle.lb_image.specs.declared.image.Image.{Image}
use Rattle.lb_machine.specs.State.{Job as MachineJob}
use Rattle.lb_machine.specs.Logs.{IsLegal}
use Rattle.lb_machine.specs.Machines.{IsReplayOf, MachineContent}
use Rattle.lb_machine.specs.Replays.{IsRightFault}
use Rattle.lb_machine.specs.declared.fault.ReplayFault.{ReplayFault}
use Rattle.lb_machine.specs.declared.fault.ReplayFault.TheVariants as fault
use Rattle.lb_machine.proofs.MachineLemmas.{never_refused}
use Rattle.lb_lines.specs.Lines.{lines_of}
use Rattle.lb_lines.proofs.SpellingLemmas.{one_frames, one_log}
use Rattle.lb_sections.specs.Sections.{section, sections}
use Rattle.lb_bulb.specs.Supplied.{supplied}
use Rattle.lb_correctness.specs.Images.{IsCompiled}
use Rattle.lb_grammar.specs.Forms.{Begins}
use Rattle.lb_grammar.specs.Grammar.{good}
use Rattle.lb_correctness.specs.Laws.{LampKeeps}
use Rattle.lb_correctness.specs.Machines.{job_on, trace_after}
use Rattle.lb_words.specs.declared.job.Job.{Job}
use Rattle.lb_words.specs.declared.job.Mode.TheVariants as mode
use Rattle.lb_system.specs.MachineReport.{IsLampReport, IsMachineReport}
use Rattle.lb_system.specs.Views.{View, with_log}
use Rattle.lb_system.specs.Questions.{Case, Sections, InForm, Frames, Entries, Legal, Holds, IsReplayed, SaysFrames, SaysLog, AllHold, checked, logged}
use Rattle.lb_system.specs.Answers.{IsCrewsLog, IsCrewsMachine}
use Rattle.lb_system.specs.InternalAnswers.{IsCrewAnswer, IsModeAnswer, IsOpened, IsRefusalOf, case_of, refused_log}
use Rattle.lb_system.proofs.QuestionLemmas.{first_behind}
use Rattle.lb_system.proofs.AskLemmas.{of_all}
use Rattle.lb_system.proofs.MachineReports.{replayed_trace}
use Rattle.lb_system.specs.declared.crew.Workers.{Workers}

-- the job of a crew's machine
crews_job : (crew : Workers) (job : Job) (on : MachineJob) (m : MachineContent) → IsCrewsMachine crew job on m → m.fixed.job ≡ on
crews_job crew job on m c = ap (λ f. f.job) (c.finishes.fixed ∙ c.boots.0)

crews_log : (crew : Workers) (job : Job) (on : MachineJob) (m : MachineContent) → IsCrewsMachine crew job on m → IsCrewsLog crew job on m.log
crews_log crew job on m c = record { ended = m; crews = c; made = refl }

-- the trace of the lamp's machine
pub crews_begins : LampKeeps → (crew : Workers) (job : Job) (i : Image) (frames : List FrameContent) (m : MachineContent) → IsCompiled supplied i → IsCrewsMachine crew job (job_on i frames) m
    → Begins good m.trace
crews_begins lamps crew job i frames m compiled crews =
    let on = job_on i frames in
    let legal : IsLegal on m.log = subst (λ j. IsLegal j m.log) (crews_job crew job on m crews) crews.finishes.replay.legal in
    let same : m.trace ≡ trace_after on m.log = replayed_trace m crews.finishes.replay ∙ ap (λ j. trace_after j m.log) (crews_job crew job on m crews) in
    subst (Begins good) (sym same) (lamps i frames m.log compiled.keeps legal).begins

-- ---- run

pub framed_holds : (c : Case) (most : ℕ) (p : List Procedure) (frames : List FrameContent) → IsOpened most c.input p → KeepsRules p → SaysFrames (section 1 c.input) frames
    → AllHold c (Sections most ∷ (checked ++ InForm Frames 1 ∷ []))
framed_holds c most p frames o rules said = (o.few, ((p, o.text.accepted), (of_all KeepsRules o.text rules, ((frames, said), tt))))

pub run_made : (crew : Workers) (job : Job) (input : Text) (p : List Procedure) (frames : List FrameContent) (i : Image) (m : MachineContent) (text : Text) (s : View) → IsOpened 2 input p
    → SaysFrames (section 1 input) frames → IsCompiled p i → IsCrewsMachine crew job (job_on i frames) m → IsMachineReport job m.fixed.job m.log text → s ≡ with_log text m.log i
    → IsCrewAnswer crew mode.Run job input s
run_made crew job input p frames i m text s o said compiled crews told e =
    let on = job_on i frames in
    let it : IsCrewAnswer crew mode.Run job input (with_log text m.log i) = (
      framed_holds (case_of job input (Some i)) 2 p frames o compiled.rules said,
      (
        frames,
        said,
        (
          p,
          o.text.accepted,
          record {
            i = i;
            compiled = compiled;
            shown = refl;
            made = crews_log crew job on m crews;
            told = subst (λ j. IsMachineReport job j m.log text) (crews_job crew job on m crews) told;
          },
        ),
      ),
    ) in
    subst (IsCrewAnswer crew mode.Run job input) (sym e) it

-- ---- lamp

pub lamp_made : (crew : Workers) (job : Job) (input : Text) (frames : List FrameContent) (i : Image) (m : MachineContent) (text : Text) (s : View) → length (sections input) ≤ 1
    → SaysFrames (section 0 input) frames → IsCompiled supplied i → IsCrewsMachine crew job (job_on i frames) m → IsLampReport job m.fixed.job m.log text → s ≡ with_log text m.log i
    → IsCrewAnswer crew mode.Lamp job input s
lamp_made crew job input frames i m text s few said compiled crews told e =
    let on = job_on i frames in
    let it : IsCrewAnswer crew mode.Lamp job input (with_log text m.log i) = (
      (few, ((frames, said), tt)),
      (
        frames,
        said,
        record {
          i = i;
          compiled = compiled;
          shown = refl;
          made = crews_log crew job on m crews;
          told = subst (λ j. IsLampReport job j m.log text) (crews_job crew job on m crews) told;
        },
      ),
    ) in
    subst (IsCrewAnswer crew mode.Lamp job input) (sym e) it

-- ---- replay

entered_holds : (c : Case) (p : List Procedure) (frames : List FrameContent) (log : List Entry) → IsOpened 3 c.input p → KeepsRules p → SaysFrames (section 1 c.input) frames
    → SaysLog (section 2 c.input) log → AllHold c (Sections 3 ∷ (checked ++ InForm Frames 1 ∷ InForm Entries 2 ∷ []))
entered_holds c p frames log o rules said entries =
    (o.few, ((p, o.text.accepted), (of_all KeepsRules o.text rules, ((frames, said), ((log, entries), tt)))))

-- what the sections say is all that they say
legal_holds : (job : Job) (input : Text) (i : Image) (frames : List FrameContent) (log : List Entry) → SaysFrames (section 1 input) frames → SaysLog (section 2 input) log
    → IsLegal (job_on i frames) log → Holds (case_of job input (Some i)) Legal
legal_holds job input i frames log said entries legal = λ j others es r.
    let image : i ≡ j = same_Some i j r.used in
    let arriving : frames ≡ others = one_frames.one_list (lines_of (section 1 input).line (section 1 input).text) frames others said r.arriving in
    let same : log ≡ es = one_log.one_list (lines_of (section 2 input).line (section 2 input).text) log es entries r.entries in
    subst (λ x. IsLegal (job_on j others) x) same (subst (λ x. IsLegal (job_on j x) log) arriving (subst (λ x. IsLegal (job_on x frames) log) image legal))

pub replay_made : (job : Job) (input : Text) (p : List Procedure) (frames : List FrameContent) (log : List Entry) (i : Image) (m : MachineContent) (text : Text) (s : View)
    → IsOpened 3 input p → SaysFrames (section 1 input) frames → SaysLog (section 2 input) log → IsCompiled p i → IsReplayOf (job_on i frames) log m
    → IsLegal (job_on i frames) log → IsMachineReport job m.fixed.job m.log text → s ≡ with_log text m.log i → IsModeAnswer mode.Replay job input s
replay_made job input p frames log i m text s o said entries compiled replayed legal told e =
    let on = job_on i frames in
    let same_job : m.fixed.job ≡ on = ap (λ f. f.job) replayed.0 in
    let front = entered_holds (case_of job input (Some i)) p frames log o compiled.rules said entries in
    let it : IsModeAnswer mode.Replay job input (with_log text log i) = (
      (front.0, (front.1.0, (front.1.1.0, (front.1.1.1.0, (front.1.1.1.1.0, (legal_holds job input i frames log said entries legal, tt)))))),
      (
        frames,
        said,
        (
          p,
          o.text.accepted,
          record {
            i = i;
            compiled = compiled;
            shown = refl;
            made = (entries, legal);
            told = subst (λ j. IsMachineReport job j log text) same_job (subst (λ l. IsMachineReport job m.fixed.job l text) replayed.1 told);
          },
        ),
      ),
    ) in
    subst (IsModeAnswer mode.Replay job input) (sym (e ∙ ap (λ l. with_log text l i) replayed.1)) it

pub log_refused : (job : Job) (input : Text) (p : List Procedure) (frames : List FrameContent) (log : List Entry) (i : Image) (f : ReplayFault) → IsOpened 3 input p
    → SaysFrames (section 1 input) frames → SaysLog (section 2 input) log → IsCompiled p i → IsRightFault (job_on i frames) log f → IsRefusalOf logged job input (refused_log f i)
log_refused job input p frames log i fault.Memory o said entries compiled h = inl (refl, refl)
log_refused job input p frames log i (fault.BadEvent at) o said entries compiled h =
    let c = case_of job input (Some i) in
    let replayed : IsReplayed c i frames log = record { used = refl; arriving = said; entries = entries } in
    let none : ¬ (Holds c Legal) = λ holds. never_refused (job_on i frames) log at (holds i frames log replayed) h in
    let front = entered_holds c p frames log o compiled.rules said entries in
    inr (
      tt,
      (
        Legal,
        first_behind c (Sections 3 ∷ (checked ++ InForm Frames 1 ∷ InForm Entries 2 ∷ [])) [] Legal front none,
        record { image = i; frames = frames; log = log; replayed = replayed; compiled = (p, o.text.accepted, compiled); first = h },
      ),
      tt,
    )
