-- What is asked of an input, in which order, and what a fault tells of a question answered by no.
use Rattle.std.specs.Prelude.{◌≡◌, ℕ, ◌≤◌, ◌⊎◌, ◌==◌, Bool, true, false, List, [], ◌∷◌, ◌++◌, length, codes, Some}
use Rattle.std.specs.declared.option.Option.{Option}
use Rattle.std.specs.List.{starts_with}
use Rattle.lb_trace.specs.declared.Event.{Event}
use Rattle.lb_trace.specs.declared.Entry.{Entry}
use Rattle.lb_trace.specs.Frame.{FrameContent}
use Rattle.lb_syntax.specs.Names.{Text}
use Rattle.lb_syntax.specs.Tree.{Procedure}
use Rattle.lb_syntax.specs.Rules.{KeepsRules}
use Rattle.lb_spelling.specs.Places.{IsAccepted, IsFault}
use Rattle.lb_check.specs.Verdict.{IsFirstFault}
use Rattle.lb_check.specs.declared.fault.CheckFault.{CheckFault}
use Rattle.lb_image.specs.declared.image.Image.{Image}
use Rattle.lb_image.specs.Images.{IsImage, image_bytes}
use Rattle.lb_image.specs.Fields.{fault_of}
use Rattle.lb_machine.specs.Logs.{IsFirstRefused, IsLegal}
use Rattle.lb_correctness.specs.Images.{IsCompiled}
use Rattle.lb_correctness.specs.Machines.{job_on}
use Rattle.lb_lines.specs.Lines.{lines_of}
use Rattle.lb_lines.specs.Form.{Say, IsFirstOutside}
use Rattle.lb_lines.specs.Forms.{reply_form, trace_form, frame_form, log_form}
use Rattle.lb_lines.specs.declared.fault.LineFault.{LineFault}
use Rattle.lb_sections.specs.Sections.{Part, sections, section, IsFirstTooMany}
use Rattle.lb_words.specs.declared.job.Job.{Job}
use Rattle.lb_words.specs.declared.job.Mode.{Mode}
use Rattle.lb_words.specs.declared.job.Mode.TheVariants as mode
use Rattle.lb_system.specs.declared.fault.Fault.{Fault}
use Rattle.lb_system.specs.declared.fault.Fault.TheVariants as fault
use Rattle.lb_system.specs.declared.fault.FormFault.TheVariants as form
use Rattle.lb_system.specs.Faults.{IsLimit}

-- ---- what each mode asks, in order

-- what the lines of a section are
pub data Lines : Type 0 where
  Replies : Lines
  Events : Lines
  Frames : Lines
  Entries : Lines

-- What is asked of an input, in the order of the statuses: that it has no more sections than these; that
-- it is an image; that its source is accepted, as a program; that this program keeps the rules; that the
-- section at a place has lines in form; that the log of the third section is legal for the machine
pub data Question : Type 0 where
  Sections : (most : ℕ) → Question
  ImageFormat : Question
  Grammar : Question
  Rules : Question
  InForm : (lines : Lines) → (place : ℕ) → Question
  Legal : Question

-- the input begins as an image does
abbrev pub is_image : Text → Bool
is_image input = starts_with (λ x y. x == y) input (codes "LBIM")

-- of a source that is checked
abbrev pub checked : List Question
checked = Grammar ∷ Rules ∷ []

-- of a source that is run with the replies of a second section
abbrev pub replied : List Question
replied = Sections 2 ∷ (checked ++ InForm Replies 1 ∷ [])

-- of a source that is run on the machine, while the frames of a second section arrive
abbrev pub framed : List Question
framed = Sections 2 ∷ (checked ++ InForm Frames 1 ∷ [])

-- of a source whose machine replays the log of a third section
abbrev pub logged : List Question
logged = Sections 3 ∷ (checked ++ InForm Frames 1 ∷ InForm Entries 2 ∷ Legal ∷ [])

-- of what is listed: an image, or a source
abbrev pub listed : Bool → List Question
listed true = ImageFormat ∷ []
listed false = Sections 1 ∷ checked

-- in each mode
abbrev pub mode_questions : Mode → Text → List Question
mode_questions mode.Check input = Sections 1 ∷ checked
mode_questions mode.Print input = Sections 1 ∷ Grammar ∷ []
mode_questions mode.Compile input = Sections 1 ∷ checked
mode_questions mode.List input = listed (is_image input)
mode_questions mode.Interp input = replied
mode_questions mode.Isa input = replied
mode_questions mode.Run input = framed
mode_questions mode.Lamp input = Sections 1 ∷ InForm Frames 0 ∷ []
mode_questions mode.Replay input = logged
mode_questions mode.Judge input = Sections 1 ∷ InForm Events 0 ∷ []
mode_questions mode.Gen input = []

abbrev pub questions : Job → Text → List Question
questions job input = mode_questions job.mode input

-- whether there is an input; else nothing is read
abbrev pub mode_reads : Mode → Bool
mode_reads mode.Gen = false
mode_reads _ = true

abbrev pub reads : Job → Bool
reads job = mode_reads job.mode

-- ---- what each question asks, and what a fault tells of it

-- what the questions are asked about: the job, its input, and the image that was used
pub record Case : Type 0 where
  pub job : Job
  pub input : Text
  pub image : Option Image

-- the text of the source, which is the first section
abbrev pub source : Text → Text
source input = (section 0 input).text

-- a section's lines say these replies, accesses of devices, frames or entries of a log
abbrev pub SaysReplies : Part → List ℕ → Type 0
SaysReplies part replies = Say reply_form (lines_of part.line part.text) replies

abbrev pub SaysEvents : Part → List Event → Type 0
SaysEvents part events = Say trace_form (lines_of part.line part.text) events

abbrev pub SaysFrames : Part → List FrameContent → Type 0
SaysFrames part frames = Say frame_form (lines_of part.line part.text) frames

abbrev pub SaysLog : Part → List Entry → Type 0
SaysLog part log = Say log_form (lines_of part.line part.text) log

-- a section's lines are in form
abbrev pub HasLines : Lines → Part → Type 0
HasLines Replies part = (values : List ℕ) × SaysReplies part values
HasLines Events part = (values : List Event) × SaysEvents part values
HasLines Frames part = (values : List FrameContent) × SaysFrames part values
HasLines Entries part = (values : List Entry) × SaysLog part values

-- the first of them that isn't
abbrev pub IsLineFault : Lines → Part → LineFault → Type 0
IsLineFault Replies part f = IsFirstOutside reply_form (lines_of part.line part.text) f
IsLineFault Events part f = IsFirstOutside trace_form (lines_of part.line part.text) f
IsLineFault Frames part f = IsFirstOutside frame_form (lines_of part.line part.text) f
IsLineFault Entries part f = IsFirstOutside log_form (lines_of part.line part.text) f

-- what a replay is of: the image that was used, the frames of the second section, and the log of the
-- third
pub record IsReplayed (c : Case) (i : Image) (frames : List FrameContent) (log : List Entry)
    : Type 0 where
  pub used : c.image ≡ Some i
  pub arriving : SaysFrames (section 1 c.input) frames
  pub entries : SaysLog (section 2 c.input) log

-- the answer is yes
abbrev pub Holds : Case → Question → Type 0
Holds c (Sections most) = length (sections c.input) ≤ most
Holds c ImageFormat = (i : Image) × IsImage i × (c.input ≡ image_bytes i)
Holds c Grammar = (p : List Procedure) × IsAccepted p (source c.input)
Holds c Rules = (p : List Procedure) → IsAccepted p (source c.input) → KeepsRules p
Holds c (InForm lines place) = HasLines lines (section place c.input)
Holds c Legal =
    (i : Image) (frames : List FrameContent) (log : List Entry) → IsReplayed c i frames log
    → IsLegal (job_on i frames) log

-- the source is the text of a program, of which this is so
abbrev pub OfProgram : Text → (List Procedure → Type 0) → Type 0
OfProgram input P = (p : List Procedure) × IsAccepted p (source input) × P p

-- the first rule that a program breaks is none of those on what it may ask for
pub record BreaksRule (f : CheckFault) (p : List Procedure) : Type 0 where
  pub broken : ¬ (KeepsRules p)
  pub first : IsFirstFault p f
  pub no_limit : ¬ (IsLimit f)

-- it is one of them
pub record BreaksLimit (f : CheckFault) (p : List Procedure) : Type 0 where
  pub broken : ¬ (KeepsRules p)
  pub first : IsFirstFault p f
  pub limit : IsLimit f

-- the entry at this place is the first of the log that can't be fired on the image that was used, which
-- is that of the source's program
pub record RefusesEntry (c : Case) (place : ℕ) : Type 0 where
  pub image : Image
  pub frames : List FrameContent
  pub log : List Entry
  pub replayed : IsReplayed c image frames log
  pub compiled : OfProgram c.input (λ p. IsCompiled p image)
  pub first : IsFirstRefused (job_on image frames) log place

-- what a fault tells of a question whose answer is no
abbrev pub Tells : Case → Question → Fault → Type 0
Tells c (Sections most) (fault.Form (form.Section line)) = IsFirstTooMany most c.input line
Tells c ImageFormat (fault.Form (form.Image f)) = fault_of c.input ≡ Some f
Tells c Grammar (fault.Text f) = IsFault (source c.input) f
Tells c Rules (fault.Check f) = OfProgram c.input (BreaksRule f)
Tells c Rules (fault.Limit f) = OfProgram c.input (BreaksLimit f)
Tells c (InForm lines place) (fault.Form (form.Line f)) =
    IsLineFault lines (section place c.input) f
Tells c Legal (fault.Form (form.Event at)) = RefusesEntry c at
Tells c _ _ = ⊥

-- ---- the order

-- all the answers are yes
abbrev pub AllHold : Case → List Question → Type 0
AllHold c [] = Unit {0}
AllHold c (q ∷ qs) = Holds c q × AllHold c qs

-- this is the first of the questions whose answer is no
abbrev pub IsFirstNo : Case → List Question → Question → Type 0
IsFirstNo c [] q = ⊥
IsFirstNo c (x ∷ xs) q = ((q ≡ x) × (¬ (Holds c x))) ⊎ (Holds c x × IsFirstNo c xs q)

-- what is asked in a case
abbrev pub asks : Case → List Question
asks c = questions c.job c.input

-- the fault tells of the first of the questions whose answer is no
abbrev pub IsCauseOf : Case → List Question → Fault → Type 0
IsCauseOf c qs f = (q : Question) × IsFirstNo c qs q × Tells c q f

abbrev pub IsCause : Case → Fault → Type 0
IsCause c f = IsCauseOf c (asks c) f

-- all the questions but whether a log is legal
abbrev pub unless_legal : Question → List Question → List Question
unless_legal Legal qs = qs
unless_legal q qs = q ∷ qs

abbrev pub but_legal : List Question → List Question
but_legal [] = []
but_legal (q ∷ qs) = unless_legal q (but_legal qs)
