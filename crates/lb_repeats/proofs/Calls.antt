-- Two calls of the same words on the same bytes.
use Rattle.std.proofs.Common.{◌≡◌, ◌<◌, ◌≤◌, Bool, true, false, List, [], length, length-append, arith, Option, Some, None, refl, sym, ap, ◌∙◌, subst, ◌⊎◌, ⊎_elim}
use Rattle.std.specs.Prelude.{IfSome}
use Rattle.std.specs.Io.KnownBytes.{Appends, Consumes}
use Rattle.lb_ports.specs.Bytes.{ReadsMoreThan}
use Rattle.lb_syntax.specs.Names.{Text}
use Rattle.lb_image.specs.declared.image.Image.{Image}
use Rattle.lb_words.specs.declared.job.Job.{Job}
use Rattle.lb_system.specs.declared.fault.Fault.{Fault}
use Rattle.lb_system.specs.declared.fault.Fault.TheVariants as fault
use Rattle.lb_system.specs.Request.{AreInForm, IsRequest}
use Rattle.lb_system.specs.Faults.{fault_line, status_of}
use Rattle.lb_system.specs.Views.{View, shown_by}
use Rattle.lb_system.specs.Questions.{Case, Question, reads}
use Rattle.lb_system.specs.Answers.{Failed, HasCause, HasReport, IsCase, IsKnownCase, IsLeft, IsOfInput, IsRead, IsReport, IsReported, IsTooMuch, IsWritten, IsCut, Known, Port, Shows, ShowsForm, ShowsNothing, TellsOf, UnlessMemory, WritesLine, WritesReport, most_input}
use Rattle.lb_system.proofs.TopLemmas.{case_same, one_request, read_whole}
use Rattle.lb_repeats.specs.Repeats.{AnswerEqually, Call, CallsRepeat, IsPlain, IsUndisturbed}
use Rattle.lb_repeats.proofs.Shown.{one_shown}
use Rattle.lb_repeats.proofs.Told.{Laws, one_told}
use Rattle.lb_system.specs.declared.crew.Workers.TheVariants as workers

-- ---- one case

-- the input of a job on these bytes
abbrev input_on : Bool → Text → Text
input_on true bytes = bytes
input_on false bytes = []

read_is : (b : Bool) (source : Port) (bytes x : Text) → source.old ≡ Some bytes → IsRead b source x → x ≡ input_on b bytes
read_is true source bytes x e h = read_whole source.old source.new bytes x e h
read_is false source bytes x e h = h.1

left_is : (b : Bool) (source : Port) (bytes x : Text) → source.old ≡ Some bytes → x ≡ input_on b bytes → IsLeft b source.old x
left_is true source bytes x e h = e ∙ ap (λ (z : Text). Some z) (sym h)
left_is false source bytes x e h = h

one_case : (words : List Text) (bytes : Text) (p q : Port) (i j : Option Image) (c d : Case) → i ≡ j → p.old ≡ Some bytes → q.old ≡ Some bytes
    → IsCase words p i c → IsCase words q j d → c ≡ d
one_case words bytes p q i j c d e told told' h k =
    let job : c.job ≡ d.job = one_request words c.job d.job h.asked k.asked in
    case_same c d job
    (read_is (reads c.job) p bytes c.input told h.read ∙ ap (λ (x : Job). input_on (reads x) bytes) job ∙ sym (read_is (reads d.job) q bytes d.input told' k.read))
    (h.shown ∙ e ∙ sym k.shown)

-- the case of one call is known in the other
known : (words : List Text) (bytes : Text) (p q : Port) (i j : Option Image) (c : Case) → i ≡ j → p.old ≡ Some bytes → q.old ≡ Some bytes → ¬ (Failed q)
    → IsCase words p i c → IsKnownCase words q j c
known words bytes p q i j c e told told' steady h = record {
  asked = h.asked;
  told = left_is (reads c.job) q bytes c.input told' (read_is (reads c.job) p bytes c.input told h.read);
  short = h.short;
  steady = steady;
  shown = h.shown ∙ e;
}

-- ---- what is written

whole_line : (sink : Port) (text : Text) → IsWritten sink text ⊎ IsCut sink text → ¬ (Failed sink) → Appends sink.old sink.new text
whole_line sink text h steady = ⊎_elim (λ whole. whole.0) (λ cut. absurd (steady cut.1)) h

written : (sink : Port) (f : Fault) → ¬ (HasReport (Some f)) → ¬ (Failed sink) → WritesLine sink (Some f) → Appends sink.old sink.new (fault_line f)
written sink fault.Write none steady h = absurd (none tt)
written sink fault.Usage none steady h = whole_line sink (fault_line fault.Usage) h steady
written sink fault.Read none steady h = whole_line sink (fault_line fault.Read) h steady
written sink fault.TooLong none steady h = whole_line sink (fault_line fault.TooLong) h steady
written sink fault.Memory none steady h = whole_line sink (fault_line fault.Memory) h steady
written sink (fault.Text x) none steady h = whole_line sink (fault_line (fault.Text x)) h steady
written sink (fault.Check x) none steady h = whole_line sink (fault_line (fault.Check x)) h steady
written sink (fault.Limit x) none steady h = whole_line sink (fault_line (fault.Limit x)) h steady
written sink (fault.Form x) none steady h = whole_line sink (fault_line (fault.Form x)) h steady

-- ---- two calls

module _ (laws : Laws) (words : List Text) (bytes : Text) (a b : Call) (p : IsPlain words a) (q : IsPlain words b)
    (u : IsUndisturbed bytes a) (v : IsUndisturbed bytes b) (image : a.ended.image ≡ b.ended.image) where
  -- there was memory
  no_memory : (c : Call) → IsPlain words c → IsUndisturbed bytes c → c.ended.fault ≡ Some fault.Memory → ⊥
  no_memory c r w e = w.memory (r.status ∙ ap status_of e)

  -- the answer, as there was memory
  answer : (P : Type 0) → UnlessMemory b.ended.fault P → P
  answer P h = ⊎_elim (λ e. absurd (no_memory b q v e)) (λ x. x) h

  nothing : (c : Call) → IsPlain words c → (f : Fault) → c.ended.fault ≡ Some f → ¬ (HasReport (Some f)) → c.ended.log.items ≡ []
  nothing c r f e none =
      let shows : ShowsNothing c.ended f =
      subst (λ (o : Option Fault). IfSome o (λ (g : Fault). ¬ (HasReport (Some g)) → ShowsNothing c.ended g)) e r.nothing none in
      shows.log

  line : (c : Call) → IsPlain words c → IsUndisturbed bytes c → (f : Fault) → c.ended.fault ≡ Some f → ¬ (HasReport (Some f))
      → Appends c.sink.old c.sink.new (fault_line f)
  line c r w f e none = written c.sink f none w.writes (subst (λ (o : Option Fault). WritesLine c.sink o) e r.line)

  -- both told of the same fault
  both_refused : (f : Fault) → ¬ (HasReport (Some f)) → a.ended.fault ≡ Some f → b.ended.fault ≡ Some f → AnswerEqually a b
  both_refused f none d e = record {
    status = p.status ∙ ap status_of (d ∙ sym e) ∙ sym q.status;
    log = nothing a p f d none ∙ sym (nothing b q f e none);
    text = fault_line f;
    first = line a p u f d none;
    second = line b q v f e none;
  }

  -- a fault of the input
  of_input : (f : Fault) → IsOfInput f → ¬ (HasReport (Some f)) → a.ended.fault ≡ Some f → AnswerEqually a b
  of_input f o none e =
      let cause : HasCause words a.source a.ended.image f =
      subst (λ (x : Option Fault). IfSome x (λ (g : Fault). IsOfInput g → HasCause words a.source a.ended.image g)) e p.cause o in
      let c : Case = cause.0 in
      let question : Question = cause.2.0 in
      let there = known words bytes a.source b.source a.ended.image b.ended.image c image u.told v.told v.reads cause.1 in
      let tells : TellsOf c question b.ended.fault = answer (TellsOf c question b.ended.fault) (q.told c question there cause.2.1) in
      let g : Fault = tells.0 in
      both_refused f none e (tells.1 ∙ ap (λ (x : Fault). Some x) (sym (one_told laws c question f g cause.2.2 tells.2)))

  -- both reported
  both_reported : a.ended.fault ≡ None → b.ended.fault ≡ None → (x y : Text) → IsReport workers.Alone words a.source (shown_by a.ended x)
      → IsReport workers.Alone words b.source (shown_by b.ended y) → WritesReport a.sink None x → WritesReport b.sink None y → AnswerEqually a b
  both_reported d e x y r s wx wy =
      let same : r.it ≡ s.it = one_case words bytes a.source b.source a.ended.image b.ended.image r.it s.it image u.told v.told r.case s.case in
      let shows = subst (λ (c : Case). Shows workers.Alone c.job c.input (shown_by a.ended x)) same r.shows in
      let view : shown_by a.ended x ≡ shown_by b.ended y =
      one_shown laws s.it.job s.it.input (shown_by a.ended x) (shown_by b.ended y) image shows s.shows in
      record {
        status = p.status ∙ ap status_of (d ∙ sym e) ∙ sym q.status;
        log = ap (λ (w : View). w.log) view;
        text = x;
        first = wx.0;
        second = subst (Appends b.sink.old b.sink.new) (sym (ap (λ (w : View). w.report) view)) wy.0;
      }

  reported : a.ended.fault ≡ None → AnswerEqually a b
  reported d =
      let told : IsReported workers.Alone words a.source a.sink a.ended = p.report (subst HasReport (sym d) tt) in
      let x : Text = told.0 in
      let r : IsReport workers.Alone words a.source (shown_by a.ended x) = told.1 in
      let there = known words bytes a.source b.source a.ended.image b.ended.image r.it image u.told v.told v.reads r.case in
      let e : b.ended.fault ≡ None = answer (b.ended.fault ≡ None) (q.complete r.it there r.all v.writes) in
      let told' : IsReported workers.Alone words b.source b.sink b.ended = q.report (subst HasReport (sym e) tt) in
      let y : Text = told'.0 in
      both_reported d e x y r told'.1 (subst (λ (o : Option Fault). WritesReport a.sink o x) d told.2)
      (subst (λ (o : Option Fault). WritesReport b.sink o y) e told'.2)

  -- the words aren't in form
  not_in_form : a.ended.fault ≡ Some fault.Usage → AnswerEqually a b
  not_in_form d = both_refused fault.Usage (λ h. h) d (go b.ended.fault refl)
    where
      unless : ShowsForm b.ended.fault → b.ended.fault ≡ Some fault.Usage
      unless shows = absurd (p.usage d (q.in_form shows))

      go : (o : Option Fault) → b.ended.fault ≡ o → b.ended.fault ≡ Some fault.Usage
      go (Some fault.Usage) e = e
      go (Some fault.Memory) e = absurd (no_memory b q v e)
      go None e = unless (subst ShowsForm (sym e) tt)
      go (Some fault.Read) e = unless (subst ShowsForm (sym e) tt)
      go (Some fault.Write) e = unless (subst ShowsForm (sym e) tt)
      go (Some fault.TooLong) e = unless (subst ShowsForm (sym e) tt)
      go (Some (fault.Text x)) e = unless (subst ShowsForm (sym e) tt)
      go (Some (fault.Check x)) e = unless (subst ShowsForm (sym e) tt)
      go (Some (fault.Limit x)) e = unless (subst ShowsForm (sym e) tt)
      go (Some (fault.Form x)) e = unless (subst ShowsForm (sym e) tt)

  -- the input is too long
  more_left : (old new : Known) → old ≡ Some bytes → ReadsMoreThan old new most_input → most_input < length bytes
  more_left old new e h =
      let front : Text = h.0 in
      let taken = go new front (subst (λ (o : Known). Consumes o new front) e h.1) in
      let more : most_input < length front = h.2 in
      omega (arith, taken, more)
    where
      go : (new : Known) (front : Text) → Consumes (Some bytes) new front → length front ≤ length bytes
      go None front h = absurd h
      go (Some ys) front h = omega (arith, ap length h, length-append front ys)

  has_input : (job : Job) → IsRequest words job → a.ended.fault ≡ Some fault.TooLong → reads job ≡ true
  has_input job asked d = go (reads job) refl
    where
      none : reads job ≡ false → ⊥
      none e = ⊎_elim (no_memory a p u) (λ h. subst HasReport d h) (p.unasked job asked e)

      go : (b : Bool) → reads job ≡ b → reads job ≡ true
      go true e = e
      go false e = absurd (none e)

  too_much : a.ended.fault ≡ Some fault.TooLong → AnswerEqually a b
  too_much d =
      let form : AreInForm words = p.in_form (subst ShowsForm (sym d) tt) in
      let job : Job = form.0 in
      let much : IsTooMuch words b.source bytes = record {
        asked = (job, form.1, has_input job form.1 d);
        told = v.told;
        long = more_left a.source.old a.source.new u.told (p.too_long d);
        steady = v.reads;
      } in
      both_refused fault.TooLong (λ h. h) d (answer (b.ended.fault ≡ Some fault.TooLong) (q.long bytes much))

  not_written : a.ended.fault ≡ Some fault.Write → AnswerEqually a b
  not_written d =
      let told : IsReported workers.Alone words a.source a.sink a.ended = p.report (subst HasReport (sym d) tt) in
      let x : Text = told.0 in
      let cut : WritesReport a.sink (Some fault.Write) x = subst (λ (o : Option Fault). WritesReport a.sink o x) d told.2 in
      absurd (u.writes cut.1)

  by_fault : (o : Option Fault) → a.ended.fault ≡ o → AnswerEqually a b
  by_fault None e = reported e
  by_fault (Some fault.Usage) e = not_in_form e
  by_fault (Some fault.Read) e = absurd (u.reads (let h = p.read e in h.1))
  by_fault (Some fault.Write) e = not_written e
  by_fault (Some fault.TooLong) e = too_much e
  by_fault (Some fault.Memory) e = absurd (no_memory a p u e)
  by_fault (Some (fault.Text x)) e = of_input (fault.Text x) tt (λ h. h) e
  by_fault (Some (fault.Check x)) e = of_input (fault.Check x) tt (λ h. h) e
  by_fault (Some (fault.Limit x)) e = of_input (fault.Limit x) tt (λ h. h) e
  by_fault (Some (fault.Form x)) e = of_input (fault.Form x) tt (λ h. h) e

  pub answered : AnswerEqually a b
  answered = by_fault a.ended.fault refl

pub calls_repeat : Laws → CallsRepeat
calls_repeat laws words bytes a b p q u v image = answered laws words bytes a b p q u v image
