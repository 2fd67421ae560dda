-- What is shown where every answer is yes is settled by the image.
use Rattle.std.proofs.Common.{◌≡◌, ℕ, Bool, true, false, List, [], ◌++◌, length, Some, sym, ap, ap₂, ◌∙◌, subst}
use Rattle.std.specs.Prelude.{codes}
use Rattle.std.proofs.lemmas.Option.{same_Some}
use Rattle.lb_trace.specs.declared.Entry.{Entry}
use Rattle.lb_trace.specs.declared.Event.{Event}
use Rattle.lb_trace.specs.Frame.{FrameContent}
use Rattle.lb_syntax.specs.Names.{Text}
use Rattle.lb_syntax.specs.Tree.{Procedure}
use Rattle.lb_image.specs.declared.image.Image.{Image}
use Rattle.lb_image.specs.Images.{image_bytes}
use Rattle.lb_lines.specs.Lines.{lines_of}
use Rattle.lb_machine.specs.State.{MachineState}
use Rattle.lb_machine.specs.State.{Job as MachineJob}
use Rattle.lb_machine.specs.Logs.{most_entries, replay}
use Rattle.lb_machine.specs.Machines.{MachineContent}
use Rattle.lb_grammar.specs.declared.Verdict.{Verdict}
use Rattle.lb_bulb.specs.Supplied.{supplied}
use Rattle.lb_correctness.specs.Machines.{job_on}
use Rattle.lb_sections.specs.Sections.{Part, section}
use Rattle.lb_words.specs.declared.job.Job.{Job}
use Rattle.lb_words.specs.declared.job.Mode.{Mode}
use Rattle.lb_words.specs.declared.job.Mode.TheVariants as mode
use Rattle.lb_system.specs.declared.large.Counts.{Counts}
use Rattle.lb_system.specs.Report.{check_report, list_report}
use Rattle.lb_system.specs.RunReport.{interp_report, isa_report}
use Rattle.lb_system.specs.MachineReport.{IsLampReport, IsVerdict, IsLogPart, IsMachineReport, IsReportOf, counts_text, ending_lines, rounds_text, verdict_text}
use Rattle.lb_system.specs.LargeReport.{AreCounts, IsCoreCount, ShowsLarge, large_report, most_counted, seed_program, source_run}
use Rattle.lb_system.specs.Views.{View, of_report, with_image}
use Rattle.lb_system.specs.Questions.{OfProgram, is_image}
use Rattle.lb_system.specs.Answers.{CrewShows, IsCheckReport, IsCrewsLog, IsReadLog, Shows, ShowsImage, ShowsLamp, ShowsListing, ShowsMachine, ShowsNeeds, ShowsReplied, ShowsRun, ShowsText, ShowsVerdict}
use Rattle.lb_repeats.proofs.Drawn.{one_crew_log, one_trace_until}
use Rattle.lb_repeats.proofs.LogText.{one_log_text}
use Rattle.lb_repeats.proofs.Places.{one_verdict}
use Rattle.lb_repeats.proofs.Told.{Laws, of_one}
use Rattle.lb_system.specs.declared.crew.Workers.TheVariants as workers

same_view : (s t : View) → s.report ≡ t.report → s.log ≡ t.log → s.image ≡ t.image → s ≡ t
same_view s t r l i =
    ap (λ x. record { report = x; log = s.log; image = s.image }) r ∙ ap (λ x. record { report = t.report; log = x; image = s.image }) l
    ∙ ap (λ x. record { report = t.report; log = t.log; image = x }) i

-- views of these images show them
same_image : (s t : View) (i j : Image) → s.image ≡ t.image → s.image ≡ Some i → t.image ≡ Some j → i ≡ j
same_image s t i j e a b = same_Some i j (sym a ∙ e ∙ b)

-- ---- without a machine

one_image_report : (report : Image → Text) (p : List Procedure) (s t : View) → s.image ≡ t.image → ShowsImage report s p → ShowsImage report t p → s ≡ t
one_image_report report p s t e a b =
    let i : Image = a.0 in
    let j : Image = b.0 in
    let same = same_image s t i j e (ap (λ (v : View). v.image) a.2) (ap (λ (v : View). v.image) b.2) in
    a.2 ∙ ap (λ x. with_image (report x) x) same ∙ sym b.2

module _ (laws : Laws) where
  one_needs : (p : List Procedure) (s t : View) → ShowsNeeds s p → ShowsNeeds t p → s ≡ t
  one_needs p s t a b =
      let c : IsCheckReport p s.report = a.0 in
      let d : IsCheckReport p t.report = b.0 in
      let report = c.told ∙ ap (check_report p) (laws.need p c.stack d.stack c.need d.need) ∙ sym d.told in
      a.1 ∙ ap of_report report ∙ sym b.1

  one_listing : (image : Bool) (input : Text) (s t : View) → s.image ≡ t.image → ShowsListing image input s → ShowsListing image input t → s ≡ t
  one_listing true input s t e a b =
      let i : Image = a.0 in
      let j : Image = b.0 in
      let same = laws.spelling i j a.1 b.1 (sym a.2 ∙ b.2) in
      a.3 ∙ ap (λ x. of_report (list_report x)) same ∙ sym b.3
  one_listing false input s t e a b =
      let both = of_one laws input (ShowsImage list_report s) (ShowsImage list_report t) a b in
      let p : List Procedure = both.0 in
      one_image_report list_report p s t e both.1 both.2

  one_replied : (report : List Procedure → List ℕ → Image → Text) (input : Text) (s t : View) → s.image ≡ t.image
      → ShowsReplied report input s → ShowsReplied report input t → s ≡ t
  one_replied report input s t e a b =
      let part : Part = section 1 input in
      let rs : List ℕ = a.0 in
      let qs : List ℕ = b.0 in
      let same : rs ≡ qs = laws.replies.one_list (lines_of part.line part.text) rs qs a.1 b.1 in
      let first = subst (λ (l : List ℕ). OfProgram input (λ p. ShowsImage (report p l) s p)) same a.2 in
      let both = of_one laws input (λ p. ShowsImage (report p qs) s p) (λ p. ShowsImage (report p qs) t p) first b.2 in
      let p : List Procedure = both.0 in
      one_image_report (report p qs) p s t e both.1 both.2

  one_judged : (input : Text) (s t : View) → ShowsVerdict input s → ShowsVerdict input t → s ≡ t
  one_judged input s t a b =
      let part : Part = section 0 input in
      let es : List Event = a.0 in
      let fs : List Event = b.0 in
      let v : Verdict = a.1 in
      let w : Verdict = b.1 in
      let same : es ≡ fs = laws.trace.one_list (lines_of part.line part.text) es fs a.2 b.2 in
      let verdict = one_verdict laws.prefix laws.rounds fs v w (subst (λ (l : List Event). IsVerdict l v) same a.3) b.3 in
      a.4 ∙ ap (λ x. of_report (verdict_text x)) verdict ∙ sym b.4

-- ---- a machine's report

one_log_part : (shown : Bool) (log : List Entry) (x y : Text) → IsLogPart shown log x → IsLogPart shown log y → x ≡ y
one_log_part true log x y a b =
    let l : Text = a.0 in
    let m : Text = b.0 in
    a.2 ∙ ap (λ (t : Text). codes "log\n" ++ t) (one_log_text log l m a.1 b.1) ∙ sym b.2
one_log_part false log x y a b = a ∙ sym b

one_report_of : (job : Job) (between : Text) (log : List Entry) (m : MachineState) (x y : Text) → IsReportOf job between log m x → IsReportOf job between log m y → x ≡ y
one_report_of job between log m x y a b =
    a.whole ∙ ap (λ (t : Text). counts_text log m ++ (between ++ (ending_lines job.trace m ++ t))) (one_log_part job.log log a.log_text b.log_text a.log_part b.log_part)
    ∙ sym b.whole

one_machine_report : (job : Job) (on : MachineJob) (log : List Entry) (x y : Text) → IsMachineReport job on log x → IsMachineReport job on log y → x ≡ y
one_machine_report job on log x y a b = one_report_of job [] log (replay on log) x y a b

one_lamp_report : Laws → (job : Job) (on : MachineJob) (log : List Entry) (x y : Text) → IsLampReport job on log x → IsLampReport job on log y → x ≡ y
one_lamp_report laws job on log x y a b =
    let m : MachineState = replay on log in
    let c : ℕ = a.0 in
    let d : ℕ = b.0 in
    let same : c ≡ d = laws.rounds.unique c d m.trace a.1 b.1 in
    one_report_of job (rounds_text d m.trace) log m x y (subst (λ (n : ℕ). IsReportOf job (rounds_text n m.trace) log m x) same a.2) b.2

-- ---- a machine's log

one_made_log : (job : Job) (on : MachineJob) (x y : List Entry) → IsCrewsLog workers.Alone job on x → IsCrewsLog workers.Alone job on y → x ≡ y
one_made_log job on x y a b =
    a.made ∙ one_crew_log job.seed job.events on a.crews.booted a.ended b.crews.booted b.ended a.crews.boots b.crews.boots a.crews.finishes b.crews.finishes ∙ sym b.made

one_read_log : Laws → (input : Text) (on : MachineJob) (x y : List Entry) → IsReadLog input on x → IsReadLog input on y → x ≡ y
one_read_log laws input on x y a b =
    let part : Part = section 2 input in
    laws.log.one_list (lines_of part.line part.text) x y a.0 b.0

-- ---- what is shown of a machine

module _ (IsLog : MachineJob → List Entry → Type 0) (IsTold : MachineJob → List Entry → Text → Type 0)
    (one_log : (on : MachineJob) (x y : List Entry) → IsLog on x → IsLog on y → x ≡ y)
    (one_text : (on : MachineJob) (log : List Entry) (x y : Text) → IsTold on log x → IsTold on log y → x ≡ y) where
  one_machine : (frames : List FrameContent) (p : List Procedure) (s t : View) → s.image ≡ t.image
      → ShowsMachine IsLog IsTold frames s p → ShowsMachine IsLog IsTold frames t p → s ≡ t
  one_machine frames p s t e a b =
      let image : a.i ≡ b.i = same_image s t a.i b.i e a.shown b.shown in
      let on = job_on b.i frames in
      let made = subst (λ (i : Image). IsLog (job_on i frames) s.log) image a.made in
      let log : s.log ≡ t.log = one_log on s.log t.log made b.made in
      let told = subst (λ (l : List Entry). IsTold on l s.report) log (subst (λ (i : Image). IsTold (job_on i frames) s.log s.report) image a.told) in
      same_view s t (one_text on t.log s.report t.report told b.told) log e

-- ---- the large program

one_core : (seed : ℕ) (i : Image) (m n : ℕ) → IsCoreCount seed i m → IsCoreCount seed i n → m ≡ n
one_core seed i m n a b =
    let booted : MachineContent = a.0 in
    let fired : MachineContent = a.1 in
    let other : MachineContent = b.0 in
    let second : MachineContent = b.1 in
    a.3 ∙ ap (λ (t : List Event). length t)
    (one_trace_until most_counted seed most_entries (job_on i []) booted fired other second a.2.boot b.2.boot a.2.fixed b.2.fixed a.2.drawn b.2.drawn a.2.replay b.2.replay)
    ∙ sym b.3

one_counts : Laws → (seed : ℕ) (i : Image) (c d : Counts) → AreCounts seed i c → AreCounts seed i d → c ≡ d
one_counts laws seed i c d a b =
    counts_same (a.functions ∙ sym b.functions) (a.words ∙ sym b.words) (laws.need (seed_program seed) c.stack d.stack a.stack b.stack)
    (a.mmio ∙ sym b.mmio) (a.isa ∙ sym b.isa) (one_core seed i c.core d.core a.core b.core)
  where
    counts_of : ℕ → ℕ → ℕ → ℕ → ℕ → ℕ → Counts
    counts_of f w s m n k = record { functions = f; words = w; stack = s; mmio = m; isa = n; core = k }

    counts_same : c.functions ≡ d.functions → c.words ≡ d.words → c.stack ≡ d.stack → c.mmio ≡ d.mmio → c.isa ≡ d.isa → c.core ≡ d.core → c ≡ d
    counts_same f w s m n k =
        ap₂ (λ x y. counts_of x y c.stack c.mmio c.isa c.core) f w ∙ ap₂ (λ x y. counts_of d.functions d.words x y c.isa c.core) s m
        ∙ ap₂ (λ x y. counts_of d.functions d.words d.stack d.mmio x y) n k

one_large : Laws → (job : Job) (s t : View) → s.image ≡ t.image → ShowsLarge job s → ShowsLarge job t → s ≡ t
one_large laws job s t e a b =
    let i : Image = a.image in
    let j : Image = b.image in
    let image : i ≡ j = same_image s t i j e (ap (λ (v : View). v.image) a.shown) (ap (λ (v : View). v.image) b.shown) in
    let counts : a.counts ≡ b.counts = one_counts laws job.seed j a.counts b.counts (subst (λ (x : Image). AreCounts job.seed x a.counts) image a.counted) b.counted in
    a.shown ∙ ap₂ (λ c x. with_image (large_report job c (source_run job.seed x).trace) x) counts image ∙ sym b.shown

-- ---- each mode

module _ (laws : Laws) (job : Job) (input : Text) (s t : View) (e : s.image ≡ t.image) where
  one_run : (IsLog : MachineJob → List Entry → Type 0) → ((on : MachineJob) (x y : List Entry) → IsLog on x → IsLog on y → x ≡ y)
      → ShowsRun IsLog job input s → ShowsRun IsLog job input t → s ≡ t
  one_run IsLog one a b =
      let part : Part = section 1 input in
      let fs : List FrameContent = a.0 in
      let gs : List FrameContent = b.0 in
      let same : fs ≡ gs = laws.frames.one_list (lines_of part.line part.text) fs gs a.1 b.1 in
      let first = subst (λ (l : List FrameContent). OfProgram input (ShowsMachine IsLog (IsMachineReport job) l s)) same a.2 in
      let both = of_one laws input (ShowsMachine IsLog (IsMachineReport job) gs s) (ShowsMachine IsLog (IsMachineReport job) gs t) first b.2 in
      let p : List Procedure = both.0 in
      one_machine IsLog (IsMachineReport job) one (one_machine_report job) gs p s t e both.1 both.2

  one_lamp : ShowsLamp workers.Alone job input s → ShowsLamp workers.Alone job input t → s ≡ t
  one_lamp a b =
      let part : Part = section 0 input in
      let fs : List FrameContent = a.0 in
      let gs : List FrameContent = b.0 in
      let same : fs ≡ gs = laws.frames.one_list (lines_of part.line part.text) fs gs a.1 b.1 in
      let first = subst (λ (l : List FrameContent). ShowsMachine (IsCrewsLog workers.Alone job) (IsLampReport job) l s supplied) same a.2 in
      one_machine (IsCrewsLog workers.Alone job) (IsLampReport job) (one_made_log job) (one_lamp_report laws job) gs supplied s t e first b.2

  one_check : OfProgram input (ShowsNeeds s) → OfProgram input (ShowsNeeds t) → s ≡ t
  one_check a b =
      let both = of_one laws input (ShowsNeeds s) (ShowsNeeds t) a b in
      let p : List Procedure = both.0 in
      one_needs laws p s t both.1 both.2

  one_print : OfProgram input (ShowsText s) → OfProgram input (ShowsText t) → s ≡ t
  one_print a b = let both = of_one laws input (ShowsText s) (ShowsText t) a b in both.1 ∙ sym both.2

  one_compile : OfProgram input (ShowsImage image_bytes s) → OfProgram input (ShowsImage image_bytes t) → s ≡ t
  one_compile a b =
      let both = of_one laws input (ShowsImage image_bytes s) (ShowsImage image_bytes t) a b in
      let p : List Procedure = both.0 in
      one_image_report image_bytes p s t e both.1 both.2

  one_of_mode : (m : Mode) → CrewShows workers.Alone m job input s → CrewShows workers.Alone m job input t → s ≡ t
  one_of_mode mode.Check a b = one_check a b
  one_of_mode mode.Print a b = one_print a b
  one_of_mode mode.Compile a b = one_compile a b
  one_of_mode mode.List a b = one_listing laws (is_image input) input s t e a b
  one_of_mode mode.Interp a b = one_replied laws (interp_report job) input s t e a b
  one_of_mode mode.Isa a b = one_replied laws (λ p. isa_report job) input s t e a b
  one_of_mode mode.Run a b = one_run (IsCrewsLog workers.Alone job) (one_made_log job) a b
  one_of_mode mode.Lamp a b = one_lamp a b
  one_of_mode mode.Replay a b = one_run (IsReadLog input) (one_read_log laws input) a b
  one_of_mode mode.Judge a b = one_judged laws input s t a b
  one_of_mode mode.Gen a b = one_large laws job s t e a b

  pub one_shown : Shows workers.Alone job input s → Shows workers.Alone job input t → s ≡ t
  one_shown a b = one_of_mode job.mode a b
