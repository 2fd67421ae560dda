-- From what a part of a mode found to the first question whose answer is no, and to what is shown where all are yes.
use Rattle.std.proofs.Common.{◌≡◌, inl, inr, ℕ, ◌≤◌, List, [], ◌∷◌, ◌++◌, length, None, refl, sym, ap, subst, ◌∙◌, true, false}
use Rattle.std.specs.Prelude.{Err}
use Rattle.lb_trace.specs.declared.Entry.{Entry}
use Rattle.lb_trace.specs.declared.Event.{Event}
use Rattle.lb_trace.specs.Frame.{FrameContent}
use Rattle.lb_syntax.specs.Names.{Text}
use Rattle.lb_syntax.specs.Tree.{Procedure}
use Rattle.lb_syntax.specs.Rules.{KeepsRules}
use Rattle.lb_syntax.specs.Printing.{program_text}
use Rattle.lb_spelling.specs.Places.{IsAccepted}
use Rattle.lb_image.specs.declared.image.Image.{Image}
use Rattle.lb_image.specs.declared.error.ImageError.{ImageError}
use Rattle.lb_image.specs.declared.error.ImageError.TheVariants as image
use Rattle.lb_image.specs.Images.{IsImage, image_bytes}
use Rattle.lb_image.specs.Refusal.{FaultOf, IsOnlyImage}
use Rattle.lb_lines.specs.declared.fault.LineError.{LineError}
use Rattle.lb_lines.specs.declared.fault.LineError.TheVariants as line
use Rattle.lb_lines.specs.Lines.{lines_of}
use Rattle.lb_lines.proofs.SpellingLemmas.{one_frames, one_log, one_replies, one_trace}
use Rattle.lb_lines.specs.Form.{Explains as ExplainsLines}
use Rattle.lb_lines.specs.Forms.{frame_form, log_form, reply_form, trace_form}
use Rattle.lb_sections.specs.Sections.{Part, sections, section, Explains}
use Rattle.lb_sections.specs.declared.cut.SectionsError.{SectionsError}
use Rattle.lb_sections.specs.declared.cut.SectionsError.TheVariants as cut
use Rattle.lb_sections.proofs.SectionLemmas.{too_many}
use Rattle.lb_correctness.specs.Images.{IsCompiled}
use Rattle.lb_words.specs.declared.job.Job.{Job}
use Rattle.lb_words.specs.declared.job.Mode.TheVariants as mode
use Rattle.lb_system.specs.declared.fault.Fault.{Fault}
use Rattle.lb_system.specs.declared.fault.Fault.TheVariants as fault
use Rattle.lb_system.specs.declared.fault.FormFault.TheVariants as form
use Rattle.lb_system.specs.Faults.{sections_fault, image_fault, lines_fault}
use Rattle.lb_system.specs.Report.{list_report}
use Rattle.lb_system.specs.RunReport.{interp_report, isa_report}
use Rattle.lb_system.specs.Views.{View, of_report, with_image}
use Rattle.lb_system.specs.Questions.{Case, Question, Lines, Sections, ImageFormat, Grammar, Rules, InForm, Replies, Events, Frames, Entries, SaysReplies, SaysEvents, checked, listed, replied, source, AllHold}
use Rattle.lb_grammar.specs.declared.Verdict.{Verdict}
use Rattle.lb_system.specs.MachineReport.{IsVerdict, verdict_text}
use Rattle.lb_system.proofs.QuestionLemmas.{first_behind}
use Rattle.lb_system.specs.Answers.{IsCheckReport, ShowsImage, ShowsListing}
use Rattle.lb_system.specs.InternalAnswers.{IsModeAnswer, IsRefusalOf, IsOnly, IsOpened, LeavesForm, LeavesGrammar, BreaksRules, case_of, without_image}

-- ---- refusals

pub cut_refused : (most : ℕ) (qs : List Question) (job : Job) (input : Text) (e : SectionsError) → 1 ≤ most → Explains most input e
    → IsRefusalOf (Sections most ∷ qs) job input (without_image (sections_fault e))
cut_refused most qs job input (cut.TooMany line) some h = inr (tt, (Sections most, inl (refl, too_many most input line some h), h), refl)
cut_refused most qs job input cut.Memory some h = inl (refl, refl)

pub grammar_refused : (most : ℕ) (qs : List Question) (job : Job) (input : Text) (f : Fault) → length (sections input) ≤ most → LeavesGrammar (source input) f
    → IsRefusalOf (Sections most ∷ Grammar ∷ qs) job input (without_image f)
grammar_refused most qs job input fault.Memory few h = inl (refl, refl)
grammar_refused most qs job input (fault.Text x) few h =
    let none : ¬ ((p : List Procedure) × IsAccepted p (source input)) = λ some. let p : List Procedure = some.0 in h.refused p some.1 in
    inr (tt, (Grammar, inr (few, inl (refl, none)), h), refl)
grammar_refused most qs job input (fault.Form x) few h = absurd h
grammar_refused most qs job input fault.Usage few h = absurd h
grammar_refused most qs job input (fault.Check x) few h = absurd h
grammar_refused most qs job input (fault.Limit x) few h = absurd h
grammar_refused most qs job input fault.Read few h = absurd h
grammar_refused most qs job input fault.Write few h = absurd h
grammar_refused most qs job input fault.TooLong few h = absurd h

pub rules_refused : (most : ℕ) (qs : List Question) (job : Job) (input : Text) (p : List Procedure) (f : Fault) → IsOpened most input p → BreaksRules p f
    → IsRefusalOf (Sections most ∷ (checked ++ qs)) job input (without_image f)
rules_refused most qs job input p fault.Memory o h = inl (refl, refl)
rules_refused most qs job input p (fault.Check x) o h =
    inr (tt, (Rules, inr (o.few, inr ((p, o.text.accepted), inl (refl, λ keeps. h.broken (keeps p o.text.accepted)))), (p, o.text.accepted, h)), refl)
rules_refused most qs job input p (fault.Limit x) o h =
    inr (tt, (Rules, inr (o.few, inr ((p, o.text.accepted), inl (refl, λ keeps. h.broken (keeps p o.text.accepted)))), (p, o.text.accepted, h)), refl)
rules_refused most qs job input p (fault.Text x) o h = absurd h
rules_refused most qs job input p (fault.Form x) o h = absurd h
rules_refused most qs job input p fault.Usage o h = absurd h
rules_refused most qs job input p fault.Read o h = absurd h
rules_refused most qs job input p fault.Write o h = absurd h
rules_refused most qs job input p fault.TooLong o h = absurd h

-- what is so of the program is so of every program of its text
pub of_all : (P : List Procedure → Type 0) {text : Text} {p : List Procedure} → IsOnly text p → P p → (q : List Procedure) → IsAccepted q text → P q
of_all P o h q a = subst P (sym (o.only q a)) h

-- what lines that aren't in form leave
pub replies_left : (part : Part) (e : LineError) → ExplainsLines reply_form (lines_of part.line part.text) e → LeavesForm Replies part (lines_fault e)
replies_left part (line.Line f) h = (h, λ some. let values : List ℕ = some.0 in one_replies.not_both (lines_of part.line part.text) values f some.1 h)
replies_left part line.Memory h = tt

pub frames_left : (part : Part) (e : LineError) → ExplainsLines frame_form (lines_of part.line part.text) e → LeavesForm Frames part (lines_fault e)
frames_left part (line.Line f) h = (h, λ some. let values : List FrameContent = some.0 in one_frames.not_both (lines_of part.line part.text) values f some.1 h)
frames_left part line.Memory h = tt

pub log_left : (part : Part) (e : LineError) → ExplainsLines log_form (lines_of part.line part.text) e → LeavesForm Entries part (lines_fault e)
log_left part (line.Line f) h = (h, λ some. let values : List Entry = some.0 in one_log.not_both (lines_of part.line part.text) values f some.1 h)
log_left part line.Memory h = tt

pub events_left : (part : Part) (e : LineError) → ExplainsLines trace_form (lines_of part.line part.text) e → LeavesForm Events part (lines_fault e)
events_left part (line.Line f) h = (h, λ some. let values : List Event = some.0 in one_trace.not_both (lines_of part.line part.text) values f some.1 h)
events_left part line.Memory h = tt

-- behind questions whose answers are yes
pub form_refused : (front rest : List Question) (lines : Lines) (place : ℕ) (job : Job) (input : Text) (f : Fault) → AllHold (case_of job input None) front
    → LeavesForm lines (section place input) f → IsRefusalOf (front ++ InForm lines place ∷ rest) job input (without_image f)
form_refused front rest lines place job input fault.Memory all h = inl (refl, refl)
form_refused front rest lines place job input (fault.Form (form.Line f)) all h =
    inr (tt, (InForm lines place, first_behind (case_of job input None) front rest (InForm lines place) all h.1, h.0), refl)
form_refused front rest lines place job input (fault.Form (form.Section x)) all h = absurd h
form_refused front rest lines place job input (fault.Form (form.Event x)) all h = absurd h
form_refused front rest lines place job input (fault.Form (form.Image x)) all h = absurd h
form_refused front rest lines place job input (fault.Text x) all h = absurd h
form_refused front rest lines place job input (fault.Check x) all h = absurd h
form_refused front rest lines place job input (fault.Limit x) all h = absurd h
form_refused front rest lines place job input fault.Usage all h = absurd h
form_refused front rest lines place job input fault.Read all h = absurd h
form_refused front rest lines place job input fault.Write all h = absurd h
form_refused front rest lines place job input fault.TooLong all h = absurd h

pub image_refused : (job : Job) (input : Text) (e : ImageError) → FaultOf e input → IsOnlyImage input (Err e)
    → IsRefusalOf (listed true) job input (without_image (image_fault e))
image_refused job input (image.Fault f) h only =
    let none : ¬ ((i : Image) × IsImage i × (input ≡ image_bytes i)) = λ some. let i : Image = some.0 in only i some.1 some.2 in
    inr (tt, (ImageFormat, inl (refl, none), h), refl)
image_refused job input image.Memory h only = inl (refl, refl)

-- ---- answers

opened_holds : (c : Case) (p : List Procedure) → IsOpened 1 c.input p → AllHold c (Sections 1 ∷ Grammar ∷ [])
opened_holds c p o = (o.few, ((p, o.text.accepted), tt))

pub checked_holds : (c : Case) (most : ℕ) (p : List Procedure) → IsOpened most c.input p → KeepsRules p → AllHold c (Sections most ∷ checked)
checked_holds c most p o rules = (o.few, ((p, o.text.accepted), (of_all KeepsRules o.text rules, tt)))

pub check_made : (job : Job) (input : Text) (p : List Procedure) (report : Text) (s : View) → IsOpened 1 input p → IsCheckReport p report → s ≡ of_report report
    → IsModeAnswer mode.Check job input s
check_made job input p report s o h e =
    let it : IsModeAnswer mode.Check job input (of_report report) = (checked_holds (case_of job input None) 1 p o h.rules, (p, o.text.accepted, (h, refl))) in
    subst (IsModeAnswer mode.Check job input) (sym e) it

pub print_made : (job : Job) (input : Text) (p : List Procedure) (report : Text) (s : View) → IsOpened 1 input p → report ≡ program_text p → s ≡ of_report report
    → IsModeAnswer mode.Print job input s
print_made job input p report s o h e =
    let it : IsModeAnswer mode.Print job input (of_report report) = (opened_holds (case_of job input None) p o, (p, o.text.accepted, ap of_report h)) in
    subst (IsModeAnswer mode.Print job input) (sym e) it

pub image_made : (job : Job) (input : Text) (i : Image) (report : Text) (s : View) → IsImage i → input ≡ image_bytes i → report ≡ list_report i → s ≡ of_report report
    → AllHold (case_of job input s.image) (listed true) × ShowsListing true input s
image_made job input i report s range bytes h e =
    (((i, range, bytes), tt), (i, range, bytes, e ∙ ap of_report h))

-- ---- what is shown of a source's image

image_shown : (report : Image → Text) (p : List Procedure) (i : Image) (text : Text) (s : View) → IsCompiled p i → text ≡ report i → s ≡ with_image text i → ShowsImage report s p
image_shown report p i text s compiled h e = (i, compiled, e ∙ ap (λ t. with_image t i) h)

pub compile_made : (job : Job) (input : Text) (p : List Procedure) (i : Image) (text : Text) (s : View) → IsOpened 1 input p → IsCompiled p i
    → text ≡ image_bytes i → s ≡ with_image text i → IsModeAnswer mode.Compile job input s
compile_made job input p i text s o compiled h e =
    (checked_holds (case_of job input s.image) 1 p o compiled.rules, (p, o.text.accepted, image_shown image_bytes p i text s compiled h e))

pub listed_made : (job : Job) (input : Text) (p : List Procedure) (i : Image) (text : Text) (s : View) → IsOpened 1 input p → IsCompiled p i
    → text ≡ list_report i → s ≡ with_image text i → AllHold (case_of job input s.image) (listed false) × ShowsListing false input s
listed_made job input p i text s o compiled h e =
    (checked_holds (case_of job input s.image) 1 p o compiled.rules, (p, o.text.accepted, image_shown list_report p i text s compiled h e))

replied_holds : (c : Case) (p : List Procedure) (replies : List ℕ) → IsOpened 2 c.input p → KeepsRules p → SaysReplies (section 1 c.input) replies → AllHold c replied
replied_holds c p replies o rules said = (o.few, ((p, o.text.accepted), (of_all KeepsRules o.text rules, ((replies, said), tt))))

pub interp_made : (job : Job) (input : Text) (p : List Procedure) (replies : List ℕ) (i : Image) (text : Text) (s : View) → IsOpened 2 input p
    → SaysReplies (section 1 input) replies → IsCompiled p i → text ≡ interp_report job p replies i → s ≡ with_image text i → IsModeAnswer mode.Interp job input s
interp_made job input p replies i text s o said compiled h e = (
  replied_holds (case_of job input s.image) p replies o compiled.rules said,
  (replies, said, (p, o.text.accepted, image_shown (interp_report job p replies) p i text s compiled h e)),
)

pub isa_made : (job : Job) (input : Text) (p : List Procedure) (replies : List ℕ) (i : Image) (text : Text) (s : View) → IsOpened 2 input p
    → SaysReplies (section 1 input) replies → IsCompiled p i → text ≡ isa_report job replies i → s ≡ with_image text i → IsModeAnswer mode.Isa job input s
isa_made job input p replies i text s o said compiled h e = (
  replied_holds (case_of job input s.image) p replies o compiled.rules said,
  (replies, said, (p, o.text.accepted, image_shown (isa_report job replies) p i text s compiled h e)),
)

-- ---- a verdict

pub judge_made : (job : Job) (input : Text) (events : List Event) (verdict : Verdict) (text : Text) (s : View) → length (sections input) ≤ 1
    → SaysEvents (section 0 input) events → IsVerdict events verdict → text ≡ verdict_text verdict → s ≡ of_report text → IsModeAnswer mode.Judge job input s
judge_made job input events verdict text s few said is h e =
    ((few, ((events, said), tt)), (events, verdict, said, is, e ∙ ap of_report h))
