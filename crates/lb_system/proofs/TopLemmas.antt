-- From what was found to what the top call tells.
use Rattle.std.proofs.Common.{◌≡◌, ◌≢◌, ◌⊎◌, inl, inr, ◌≤◌, ◌<◌, Bool, true, false, List, [], ◌++◌, length, length-append, append-nil, Option, Some, None, refl, sym, ap, subst, ◌∙◌, arith}
use Rattle.std.specs.Prelude.{IfSome}
use Rattle.std.specs.Io.KnownBytes.{Consumes}
use Rattle.std.proofs.KnownBytes.{Consumes-nil}
use Rattle.std.proofs.lemmas.Option.{same_Some}
use Rattle.lb_ports.specs.Bytes.{ReadsAll, ReadsUpTo, ReadsMoreThan}
use Rattle.lb_syntax.specs.Names.{Text}
use Rattle.lb_image.specs.declared.image.Image.{Image}
use Rattle.lb_words.specs.declared.job.Job.{Job}
use Rattle.lb_words.proofs.JobLemmas.{one_job}
use Rattle.lb_system.specs.declared.fault.Fault.{Fault}
use Rattle.lb_system.specs.declared.fault.Fault.TheVariants as fault
use Rattle.lb_system.specs.declared.answer.Refused.{Refused}
use Rattle.lb_system.specs.Request.{IsRequest, AreInForm, modes}
use Rattle.lb_system.specs.Faults.{TakesMemory}
use Rattle.lb_system.specs.Views.{View}
use Rattle.lb_system.specs.Questions.{Case, Question, Legal, AllHold, IsFirstNo, IsCause, Tells, asks, but_legal, questions, reads}
use Rattle.lb_system.specs.Answers.{Known, Port, Failed, IsRead, IsLeft, IsCase, IsKnownCase, IsTooMuch, AskForInput, ReadFails, IsOfInput, HasCause, FitsImage, UnlessMemory, TellsOf, HasReport, ShowsForm, IsReport, WritesReport, most_input}
use Rattle.lb_system.specs.InternalAnswers.{IsReason, IsRefusalOf, IsTold, case_of}
use Rattle.lb_system.proofs.QuestionLemmas.{none_first, one_first, only_legal}
use Rattle.lb_system.specs.declared.crew.Workers.{Workers}

-- ---- words ask for one job

pub one_request : (words : List Text) (a b : Job) → IsRequest words a → IsRequest words b → a ≡ b
one_request words a b h k = one_job modes words a b h k

-- ---- there is one case

read_within : (old new : Known) (xs bs : Text) → old ≡ Some xs → Consumes old new bs → length bs ≤ length xs
read_within old new xs bs e h = go new (subst (λ o. Consumes o new bs) e h)
  where
    go : (new : Known) → Consumes (Some xs) new bs → length bs ≤ length xs
    go None h = absurd h
    go (Some ys) h = omega (arith, ap length h, length-append bs ys)

pub read_whole : (old new : Known) (xs bs : Text) → old ≡ Some xs → ReadsAll old new bs → bs ≡ xs
read_whole old new xs bs e h = go new (subst (λ o. ReadsAll o new bs) e h)
  where
    go : (new : Known) → ReadsAll (Some xs) new bs → bs ≡ xs
    go None h = absurd h.0
    go (Some ys) h = sym (h.0 ∙ ap (λ z. bs ++ z) h.1 ∙ append-nil bs)

read_left : (b : Bool) (source : Port) (x y : Text) → IsRead b source x → IsLeft b source.old y → x ≡ y
read_left true source x y h k = read_whole source.old source.new y x k h
read_left false source x y h k = h.1 ∙ sym k

-- what was read, whether there is an input or not
pub read_up_to : (b : Bool) (source : Port) (x : Text) → IsRead b source x → length x ≤ most_input → ReadsUpTo source.old source.new most_input
read_up_to true source x h short = (x, h.0, short)
read_up_to false source x h short = ([], subst (λ o. Consumes source.old o []) (sym h.0) (Consumes-nil source.old), omega arith)

pub case_same : (a b : Case) → a.job ≡ b.job → a.input ≡ b.input → a.image ≡ b.image → a ≡ b
case_same a b t i m =
    ap (λ x. record { job = x; input = a.input; image = a.image }) t ∙ ap (λ x. record { job = b.job; input = x; image = a.image }) i
    ∙ ap (λ x. record { job = b.job; input = b.input; image = x }) m

one_case : (words : List Text) (source : Port) (i : Option Image) (a b : Case) → IsCase words source i a → IsKnownCase words source i b → a ≡ b
one_case words source i a b h k =
    let job = one_request words a.job b.job h.asked k.asked in
    let read = subst (λ t. IsRead (reads t) source a.input) job h.read in
    case_same a b job (read_left (reads b.job) source a.input b.input read k.told) (h.shown ∙ sym k.shown)

-- in a known case with an input the source tells it
told_input : (words : List Text) (source : Port) (i : Option Image) (c : Case) → IsKnownCase words source i c → AskForInput words → source.old ≡ Some c.input
told_input words source i c k ask =
    let job : Job = ask.0 in
    let same = one_request words job c.job ask.1 k.asked in
    subst (λ b. IsLeft b source.old c.input) (ap reads (sym same) ∙ ask.2) k.told

not_too_long : (words : List Text) (source : Port) (i : Option Image) (c : Case) → IsKnownCase words source i c → AskForInput words → ReadsMoreThan source.old source.new most_input → ⊥
not_too_long words source i c k ask h =
    let bytes : Text = h.0 in
    let within = read_within source.old source.new c.input bytes (told_input words source i c k ask) h.1 in
    let more : most_input < length bytes = h.2 in
    omega (arith, within, more, k.short)

-- a case whose input is short isn't too much
case_short : (words : List Text) (source : Port) (i : Option Image) (bytes : Text) (c : Case) → IsCase words source i c → IsTooMuch words source bytes → ⊥
case_short words source i bytes c h m =
    let job : Job = m.asked.0 in
    let same = one_request words c.job job h.asked m.asked.1 in
    let read : ReadsAll source.old source.new c.input = subst (λ b. IsRead b source c.input) (ap reads same ∙ m.asked.2) h.read in
    omega (arith, h.short, ap length (read_whole source.old source.new bytes c.input m.told read), m.long)

-- ---- a reason, by the fault

reason_cases : (words : List Text) (source : Port) (i : Option Image) (P : Fault → Type 0) → (f : Fault)
    → ((¬ (AreInForm words)) → i ≡ None → P fault.Usage)
    → (AskForInput words → ReadFails source → i ≡ None → P fault.Read)
    → (AskForInput words → ReadsMoreThan source.old source.new most_input → i ≡ None → P fault.TooLong)
    → (ReadsUpTo source.old source.new most_input → i ≡ None → P fault.Memory)
    → ((g : Fault) → IsOfInput g → HasCause words source i g → FitsImage g i → P g)
    → IsReason words source f i → P f
reason_cases words source i P fault.Usage u r l m c h = u h.0 h.1
reason_cases words source i P fault.Read u r l m c h = r h.0 h.1 h.2
reason_cases words source i P fault.TooLong u r l m c h = l h.0 h.1 h.2
reason_cases words source i P fault.Memory u r l m c h = m h.0 h.1
reason_cases words source i P fault.Write u r l m c h = absurd h
reason_cases words source i P (fault.Text x) u r l m c h = c (fault.Text x) tt h.0 h.1
reason_cases words source i P (fault.Check x) u r l m c h = c (fault.Check x) tt h.0 h.1
reason_cases words source i P (fault.Limit x) u r l m c h = c (fault.Limit x) tt h.0 h.1
reason_cases words source i P (fault.Form x) u r l m c h = c (fault.Form x) tt h.0 h.1

-- the reason of what is told
pub record ToldReason (words : List Text) (source : Port) (told : Option Fault) (i : Option Image) : Type 0 where
  pub f : Fault
  pub is : told ≡ Some f
  pub reason : IsReason words source f i

-- what takes memory was told of the input
taken : (words : List Text) (source : Port) (i : Option Image) (f : Fault) → IsReason words source f i → TakesMemory f → ReadsUpTo source.old source.new most_input
taken words source i f h =
    reason_cases words source i (λ g. TakesMemory g → ReadsUpTo source.old source.new most_input) f
    (λ no none t. absurd t) (λ ask fails none t. absurd t) (λ ask more none t. absurd t) (λ up none t. absurd t)
    (λ g o cause fits t. let c : Case = cause.0 in read_up_to (reads c.job) source c.input cause.1.read cause.1.short) h

pub told_reason : (words : List Text) (source : Port) (r : Refused) (told : Option Fault) (i : Option Image) → IsReason words source r.fault r.image → IsTold r told i
    → ToldReason words source told i
told_reason words source r told i h t =
    elim t [
      | inl found ↦ record { f = r.fault; is = found.0; reason = subst (λ j. IsReason words source r.fault j) (sym found.1) h }
      | inr want ↦ record { f = fault.Memory; is = want.1; reason = (taken words source r.image r.fault h want.0, want.2) }
    ]

-- what is told, by cases on its reason
pub told_cases : (words : List Text) (source : Port) (told : Option Fault) (i : Option Image) (P : Option Fault → Type 0)
    → ((¬ (AreInForm words)) → P (Some fault.Usage))
    → (AskForInput words → ReadFails source → P (Some fault.Read))
    → (AskForInput words → ReadsMoreThan source.old source.new most_input → P (Some fault.TooLong))
    → (ReadsUpTo source.old source.new most_input → P (Some fault.Memory))
    → ((g : Fault) → IsOfInput g → HasCause words source i g → P (Some g))
    → ToldReason words source told i → P told
told_cases words source told i P u r l m c t =
    subst P (sym t.is)
    (reason_cases words source i (λ g. P (Some g)) t.f (λ no none. u no) (λ ask fails none. r ask fails) (λ ask more none. l ask more) (λ up none. m up)
    (λ g o cause fits. c g o cause) t.reason)

of_input_same : (g f : Fault) → IsOfInput g → Some g ≡ Some f → IsOfInput f
of_input_same g f o e = subst IsOfInput (same_Some g f e) o

pub told_usage : (words : List Text) (source : Port) (told : Option Fault) (i : Option Image) → ToldReason words source told i → told ≡ Some fault.Usage → ¬ (AreInForm words)
told_usage words source told i =
    told_cases words source told i (λ o. o ≡ Some fault.Usage → ¬ (AreInForm words)) (λ no e. no) (λ ask fails e. absurd cc) (λ ask more e. absurd cc) (λ up e. absurd cc)
    (λ g o cause e. absurd (of_input_same g fault.Usage o e))

pub told_form : (words : List Text) (source : Port) (told : Option Fault) (i : Option Image) → ToldReason words source told i → ShowsForm told → AreInForm words
told_form words source told i =
    told_cases words source told i (λ o. ShowsForm o → AreInForm words) (λ no s. absurd s) (λ ask fails s. (ask.0, ask.1)) (λ ask more s. (ask.0, ask.1)) (λ up s. absurd s)
    (λ g o cause s. let c : Case = cause.0 in (c.job, cause.1.asked))

pub told_read : (words : List Text) (source : Port) (told : Option Fault) (i : Option Image) → ToldReason words source told i → told ≡ Some fault.Read → ReadFails source
told_read words source told i =
    told_cases words source told i (λ o. o ≡ Some fault.Read → ReadFails source) (λ no e. absurd cc) (λ ask fails e. fails) (λ ask more e. absurd cc) (λ up e. absurd cc)
    (λ g o cause e. absurd (of_input_same g fault.Read o e))

pub told_long : (words : List Text) (source : Port) (told : Option Fault) (i : Option Image) → ToldReason words source told i → told ≡ Some fault.TooLong
    → ReadsMoreThan source.old source.new most_input
told_long words source told i =
    told_cases words source told i (λ o. o ≡ Some fault.TooLong → ReadsMoreThan source.old source.new most_input) (λ no e. absurd cc) (λ ask fails e. absurd cc) (λ ask more e. more)
    (λ up e. absurd cc) (λ g o cause e. absurd (of_input_same g fault.TooLong o e))

pub told_memory : (words : List Text) (source : Port) (told : Option Fault) (i : Option Image) → ToldReason words source told i → told ≡ Some fault.Memory
    → ReadsUpTo source.old source.new most_input
told_memory words source told i =
    told_cases words source told i (λ o. o ≡ Some fault.Memory → ReadsUpTo source.old source.new most_input) (λ no e. absurd cc) (λ ask fails e. absurd cc) (λ ask more e. absurd cc)
    (λ up e. up) (λ g o cause e. absurd (of_input_same g fault.Memory o e))

pub told_much : (words : List Text) (source : Port) (told : Option Fault) (i : Option Image) (bytes : Text) → ToldReason words source told i → IsTooMuch words source bytes
    → UnlessMemory told (told ≡ Some fault.TooLong)
told_much words source told i bytes t much =
    told_cases words source told i (λ o. UnlessMemory o (o ≡ Some fault.TooLong))
    (λ no. absurd (no (much.asked.0, much.asked.1))) (λ ask fails. absurd (much.steady fails.1)) (λ ask more. inr refl) (λ up. inl refl)
    (λ g o cause. let c : Case = cause.0 in absurd (case_short words source i bytes c cause.1 much)) t

-- a cause, in the known case
cause_known : (words : List Text) (source : Port) (i : Option Image) (f : Fault) (c : Case) → IsKnownCase words source i c → HasCause words source i f → IsCause c f
cause_known words source i f c k h =
    let it : Case = h.0 in
    subst (λ x. IsCause x f) (one_case words source i it c h.1 k) h.2

-- in a known case there is no memory, or the fault tells of the first question whose answer is no
told_known : (words : List Text) (source : Port) (told : Option Fault) (i : Option Image) (c : Case) → ToldReason words source told i → IsKnownCase words source i c
    → UnlessMemory told ((f : Fault) × (told ≡ Some f) × IsCause c f)
told_known words source told i c t k =
    told_cases words source told i (λ o. UnlessMemory o ((f : Fault) × (o ≡ Some f) × IsCause c f))
    (λ no. absurd (no (c.job, k.asked))) (λ ask fails. absurd (k.steady fails.1)) (λ ask more. absurd (not_too_long words source i c k ask more)) (λ up. inl refl)
    (λ g o cause. inr (g, refl, cause_known words source i g c k cause)) t

pub told_first : (words : List Text) (source : Port) (told : Option Fault) (i : Option Image) (c : Case) (q : Question) → ToldReason words source told i → IsKnownCase words source i c
    → IsFirstNo c (asks c) q → UnlessMemory told (TellsOf c q told)
told_first words source told i c q t k first =
    elim (told_known words source told i c t k) [
      | inl memory ↦ inl memory
      | inr found ↦ (
          let f : Fault = found.0 in
          let r : Question = found.2.0 in
          inr (f, found.1, subst (λ x. Tells c x f) (one_first c (asks c) r q found.2.1 first) found.2.2)
          )
    ]

pub told_complete : (words : List Text) (source : Port) (told : Option Fault) (i : Option Image) (c : Case) → ToldReason words source told i → IsKnownCase words source i c
    → AllHold c (asks c) → told ≡ Some fault.Memory
told_complete words source told i c t k all =
    elim (told_known words source told i c t k) [
      | inl memory ↦ memory
      | inr found ↦ (let r : Question = found.2.0 in absurd (none_first c (asks c) r all found.2.1))
    ]

-- where all but whether a log is legal are yes, that is told of
pub told_replayed : (words : List Text) (source : Port) (told : Option Fault) (i : Option Image) (c : Case) → ToldReason words source told i → IsKnownCase words source i c
    → AllHold c (but_legal (asks c)) → UnlessMemory told ((told ≡ None) ⊎ TellsOf c Legal told)
told_replayed words source told i c t k all =
    elim (told_known words source told i c t k) [
      | inl memory ↦ inl memory
      | inr found ↦ (
          let f : Fault = found.0 in
          let r : Question = found.2.0 in
          inr (inr (f, found.1, subst (λ x. Tells c x f) (only_legal c (asks c) r all found.2.1) found.2.2))
          )
    ]

pub told_fits : (words : List Text) (source : Port) (f : Fault) (i : Option Image) → IsReason words source f i → FitsImage f i
told_fits words source f i =
    reason_cases words source i (λ g. FitsImage g i) f (λ no none. none) (λ ask fails none. none) (λ ask more none. none) (λ up none. none) (λ g o cause fits. fits)

-- ---- a report

-- in the known case no answer is no
pub report_first : (crew : Workers) (words : List Text) (source : Port) (s : View) (c : Case) (q : Question) → IsReport crew words source s → IsKnownCase words source s.image c → IsFirstNo c (asks c) q → ⊥
report_first crew words source s c q r k first =
    none_first c (asks c) q (subst (λ x. AllHold x (asks x)) (one_case words source s.image r.it c r.case k) r.all) first

pub report_much : (crew : Workers) (words : List Text) (source : Port) (s : View) (bytes : Text) → IsReport crew words source s → IsTooMuch words source bytes → ⊥
report_much crew words source s bytes r much = case_short words source s.image bytes r.it r.case much

pub report_form : (crew : Workers) (words : List Text) (source : Port) (s : View) → IsReport crew words source s → AreInForm words
report_form crew words source s r = (r.it.job, r.case.asked)

-- with a report there is no fault, or its write was refused
pub written_cases : (sink : Port) (report : Text) (P : Option Fault → Type 0) → P None → P (Some fault.Write) → (told : Option Fault) → WritesReport sink told report → P told
written_cases sink report P none write None h = none
written_cases sink report P none write (Some fault.Write) h = write
written_cases sink report P none write (Some fault.Usage) h = absurd h
written_cases sink report P none write (Some fault.Read) h = absurd h
written_cases sink report P none write (Some fault.TooLong) h = absurd h
written_cases sink report P none write (Some fault.Memory) h = absurd h
written_cases sink report P none write (Some (fault.Text x)) h = absurd h
written_cases sink report P none write (Some (fault.Check x)) h = absurd h
written_cases sink report P none write (Some (fault.Limit x)) h = absurd h
written_cases sink report P none write (Some (fault.Form x)) h = absurd h

pub written_whole : (sink : Port) (told : Option Fault) (report : Text) → WritesReport sink told report → ¬ (Failed sink) → told ≡ None
written_whole sink told report h steady =
    written_cases sink report (λ o. WritesReport sink o report → o ≡ None) (λ k. refl) (λ k. absurd (steady k.1)) told h h

-- ---- the reason of what is refused

pub refusal_reason : (words : List Text) (source : Port) (job : Job) (input : Text) (r : Refused) → IsRequest words job → IsRead (reads job) source input
    → length input ≤ most_input → IsRefusalOf (questions job input) job input r → IsReason words source r.fault r.image
refusal_reason words source job input r asked read short h =
    elim h [
      | inl memory ↦ subst (λ f. IsReason words source f r.image) (sym memory.0) (read_up_to (reads job) source input read short, memory.1)
      | inr cause ↦ go r.fault cause.0 (case_of job input r.image, record { asked = asked; read = read; short = short; shown = refl }, cause.1) cause.2
    ]
  where
    go : (f : Fault) → IsOfInput f → HasCause words source r.image f → FitsImage f r.image → IsReason words source f r.image
    go (fault.Text x) o cause fits = (cause, fits)
    go (fault.Check x) o cause fits = (cause, fits)
    go (fault.Limit x) o cause fits = (cause, fits)
    go (fault.Form x) o cause fits = (cause, fits)
    go fault.Usage o cause fits = absurd o
    go fault.Read o cause fits = absurd o
    go fault.Write o cause fits = absurd o
    go fault.TooLong o cause fits = absurd o
    go fault.Memory o cause fits = absurd o

-- and it isn't that of the words or of a read
pub refusal_fault : (qs : List Question) (job : Job) (input : Text) (r : Refused) (f : Fault) → (IsOfInput f → ⊥) → f ≢ fault.Memory → IsRefusalOf qs job input r → r.fault ≢ f
refusal_fault qs job input r f other want h e =
    elim h [ inl memory ↦ want (sym e ∙ memory.0) | inr cause ↦ other (subst IsOfInput e cause.0) ]

-- ---- from what was found to what is told of it

pub told_found : (r : Refused) (told : Option Fault) (i : Option Image) (f : Fault) → IsTold r told i → told ≡ Some f → f ≢ fault.Memory → r.fault ≡ f
told_found r told i f t e other =
    elim t [ inl found ↦ same_Some r.fault f (sym found.0 ∙ e) | inr want ↦ absurd (other (same_Some f fault.Memory (sym e ∙ want.1))) ]

pub told_steady : (r : Refused) (told : Option Fault) (i : Option Image) → IsTold r told i → told ≢ Some fault.Read → r.fault ≢ fault.Read
told_steady r told i t other e =
    elim t [ inl found ↦ other (found.0 ∙ ap (λ f. Some f) e) | inr want ↦ subst TakesMemory e want.0 ]

of_input_unreported : (f : Fault) → IsOfInput f → HasReport (Some f) → ⊥
of_input_unreported (fault.Text x) o h = h
of_input_unreported (fault.Check x) o h = h
of_input_unreported (fault.Limit x) o h = h
of_input_unreported (fault.Form x) o h = h
of_input_unreported fault.Usage o h = h
of_input_unreported fault.Read o h = h
of_input_unreported fault.Write o h = o
of_input_unreported fault.TooLong o h = h
of_input_unreported fault.Memory o h = h

pub told_unreported : (words : List Text) (source : Port) (told : Option Fault) (i : Option Image) → ToldReason words source told i → HasReport told → ⊥
told_unreported words source told i =
    told_cases words source told i (λ o. HasReport o → ⊥) (λ no h. h) (λ ask fails h. h) (λ ask more h. h) (λ up h. h) (λ g o cause h. of_input_unreported g o h)

pub told_cause : (words : List Text) (source : Port) (told : Option Fault) (i : Option Image) → ToldReason words source told i
    → IfSome told (λ f. IsOfInput f → HasCause words source i f)
told_cause words source told i =
    told_cases words source told i (λ o. IfSome o (λ f. IsOfInput f → HasCause words source i f))
    (λ no o. absurd o) (λ ask fails o. absurd o) (λ ask more o. absurd o) (λ up o. absurd o) (λ g o cause other. cause)
