-- A run of the image's code, and the program that was compiled.
use Rattle.std.proofs.Common.{◌≡◌, ℕ, List, [], ◌∷◌, ◌++◌, sym, ap, ◌∙◌, subst}
use Rattle.lb_syntax.specs.Tree.{Procedure}
use Rattle.lb_source.specs.Correct.{AreWords}
use Rattle.lb_image.specs.declared.image.Image.{Image}
use Rattle.lb_correctness.proofs.ImageLemmas.{run_of_image}
use Rattle.lb_lines.specs.Lines.{lines_of}
use Rattle.lb_lines.specs.Form.{SpellAll}
use Rattle.lb_sections.specs.Sections.{section}
use Rattle.lb_lines.specs.Forms.{One, reply_form}
use Rattle.lb_lines.specs.Digits.{SpellsWord}
use Rattle.lb_ports.specs.Bytes.{ReadsAll}
use Rattle.lb_syntax.specs.Names.{Text}
use Rattle.lb_words.specs.declared.job.Job.{Job}
use Rattle.lb_words.specs.declared.job.Mode.TheVariants as mode
use Rattle.lb_system.specs.declared.top.Ended.{Ended}
use Rattle.lb_system.specs.Request.{IsRequest}
use Rattle.lb_system.specs.RunReport.{isa_report}
use Rattle.lb_system.specs.Views.{View, with_image, shown_by}
use Rattle.lb_system.specs.Questions.{mode_reads, reads}
use Rattle.lb_system.specs.Answers.{Port, IsRead, IsReport, CrewShows, Shows, ShowsReplied, WritesReport}
use Rattle.lb_system.specs.Headline.{RunsItsImage}
use Rattle.lb_system.proofs.TopLemmas.{one_request}
use Rattle.lb_system.specs.declared.crew.Workers.{Workers}

-- ---- replies are words

said_words : (lines : List (ℕ × List ℕ)) (vs : List ℕ) → SpellAll reply_form lines vs → AreWords vs
said_words [] vs h = subst AreWords (sym h) tt
said_words (line ∷ lines) vs h =
    let said : List ℕ = h.0 in
    let rest : List ℕ = h.1 in
    let spelled : One SpellsWord line.1 said = h.3 in
    let value : ℕ = spelled.0 in
    subst AreWords (sym (h.2 ∙ ap (λ s. s ++ rest) spelled.2)) (spelled.1.fits, said_words lines rest h.4)

-- ---- the run and the program

-- where the mode is `isa`, the report is that of a run of the image of the program that was read
pub report_runs_image : (crew : Workers) (words : List Text) (source sink : Port) (job : Job) (e : Ended) (text : Text) → IsReport crew words source (shown_by e text) → WritesReport sink e.fault text
    → IsRequest words job → job.mode ≡ mode.Isa → RunsItsImage job source sink e
report_runs_image crew words source sink job e text r written asked is =
    let s = shown_by e text in
    let same_job = one_request words r.it.job job r.case.asked asked in
    let shows : Shows crew job r.it.input s = subst (λ t. Shows crew t r.it.input s) same_job r.shows in
    let it : ShowsReplied (λ p. isa_report job) r.it.input s = subst (λ m. CrewShows crew m job r.it.input s) is shows in
    let read : ReadsAll source.old source.new r.it.input = subst (λ b. IsRead b source r.it.input) (ap reads same_job ∙ ap mode_reads is) r.case.read in
    let replies : List ℕ = it.0 in
    let p : List Procedure = it.2.0 in
    let i : Image = it.2.2.0 in
    let same : s ≡ with_image (isa_report job replies i) i = it.2.2.2 in
    record {
      text = r.it.input;
      program = p;
      replies = replies;
      image = i;
      read = read;
      short = r.case.short;
      accepted = it.2.1;
      said = it.1;
      shown = ap (λ (v : View). v.image) same;
      compiled = it.2.2.1;
      written = subst (WritesReport sink e.fault) (ap (λ (v : View). v.report) same) written;
      runs = run_of_image p i replies job.events it.2.2.1.keeps (said_words (lines_of (section 1 r.it.input).line (section 1 r.it.input).text) replies it.1.spelled);
    }
