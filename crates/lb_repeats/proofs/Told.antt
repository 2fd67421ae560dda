-- What is told of a question whose answer is no.
use Rattle.std.proofs.Common.{◌≡◌, ℕ, List, Some, refl, sym, ap, ◌∙◌, subst, ◌⊎◌, inl, inr}
use Rattle.std.proofs.lemmas.Option.{same_Some}
use Rattle.lb_trace.specs.declared.Entry.{Entry}
use Rattle.lb_trace.specs.Frame.{FrameContent}
use Rattle.lb_syntax.specs.Tree.{Procedure}
use Rattle.lb_syntax.specs.Laws.{OneStackNeed}
use Rattle.lb_spelling.specs.Places.{IsFault}
use Rattle.lb_spelling.specs.declared.fault.TextFault.{TextFault}
use Rattle.lb_spelling.specs.Laws.{OneFault as OneTextFault, OneTree}
use Rattle.lb_check.specs.declared.fault.CheckFault.{CheckFault}
use Rattle.lb_check.specs.Laws.{OneFault as OneBrokenRule}
use Rattle.lb_image.specs.declared.image.Image.{Image}
use Rattle.lb_image.specs.declared.error.ImageFault.{ImageFault}
use Rattle.lb_image.specs.Fields.{fault_of}
use Rattle.lb_image.specs.Laws.{OneSpelling}
use Rattle.lb_lines.specs.declared.fault.LineFault.{LineFault}
use Rattle.lb_lines.specs.Lines.{lines_of}
use Rattle.lb_lines.specs.Forms.{frame_form, log_form, reply_form, trace_form}
use Rattle.lb_lines.specs.Laws.{IsOneAnswer}
use Rattle.lb_grammar.specs.Prefixes.{PrefixLaw}
use Rattle.lb_grammar.specs.Rounds.{RoundsLaw}
use Rattle.lb_sections.specs.Sections.{IsFirstTooMany, Part, section}
use Rattle.lb_machine.specs.Logs.{IsFirstRefused}
use Rattle.lb_correctness.specs.Machines.{job_on}
use Rattle.lb_system.specs.declared.fault.Fault.{Fault}
use Rattle.lb_system.specs.declared.fault.Fault.TheVariants as fault
use Rattle.lb_system.specs.declared.fault.FormFault.TheVariants as form
use Rattle.lb_system.specs.Faults.{IsLimit}
use Rattle.lb_system.specs.Questions.{Case, Question, Sections, ImageFormat, Grammar, Rules, InForm, Legal, Lines, Replies, Events, Frames, Entries, BreaksLimit, BreaksRule, IsLineFault, OfProgram, RefusesEntry, Tells, source}
use Rattle.lb_repeats.proofs.Places.{one_refused}

-- the laws of texts, rules, images, lines and the lamp's grammar
pub record Laws : Type 0 where
  pub tree : OneTree
  pub text : OneTextFault
  pub rule : OneBrokenRule
  pub need : OneStackNeed
  pub spelling : OneSpelling
  pub trace : IsOneAnswer trace_form
  pub replies : IsOneAnswer reply_form
  pub frames : IsOneAnswer frame_form
  pub log : IsOneAnswer log_form
  pub prefix : PrefixLaw
  pub rounds : RoundsLaw

-- ---- which faults tell of which question

sections_told : (c : Case) (most : ℕ) (f : Fault) → Tells c (Sections most) f → (line : ℕ) × (f ≡ fault.Form (form.Section line)) × IsFirstTooMany most c.input line
sections_told c most (fault.Form (form.Section line)) h = (line, refl, h)
sections_told c most (fault.Text x) h = absurd h
sections_told c most (fault.Check x) h = absurd h
sections_told c most (fault.Limit x) h = absurd h
sections_told c most (fault.Form (form.Line x)) h = absurd h
sections_told c most (fault.Form (form.Event x)) h = absurd h
sections_told c most (fault.Form (form.Image x)) h = absurd h
sections_told c most fault.Usage h = absurd h
sections_told c most fault.Read h = absurd h
sections_told c most fault.Write h = absurd h
sections_told c most fault.TooLong h = absurd h
sections_told c most fault.Memory h = absurd h

image_told : (c : Case) (f : Fault) → Tells c ImageFormat f → (x : ImageFault) × (f ≡ fault.Form (form.Image x)) × (fault_of c.input ≡ Some x)
image_told c (fault.Form (form.Image x)) h = (x, refl, h)
image_told c (fault.Text x) h = absurd h
image_told c (fault.Check x) h = absurd h
image_told c (fault.Limit x) h = absurd h
image_told c (fault.Form (form.Section x)) h = absurd h
image_told c (fault.Form (form.Line x)) h = absurd h
image_told c (fault.Form (form.Event x)) h = absurd h
image_told c fault.Usage h = absurd h
image_told c fault.Read h = absurd h
image_told c fault.Write h = absurd h
image_told c fault.TooLong h = absurd h
image_told c fault.Memory h = absurd h

grammar_told : (c : Case) (f : Fault) → Tells c Grammar f → (x : TextFault) × (f ≡ fault.Text x) × IsFault (source c.input) x
grammar_told c (fault.Text x) h = (x, refl, h)
grammar_told c (fault.Check x) h = absurd h
grammar_told c (fault.Limit x) h = absurd h
grammar_told c (fault.Form (form.Section x)) h = absurd h
grammar_told c (fault.Form (form.Line x)) h = absurd h
grammar_told c (fault.Form (form.Event x)) h = absurd h
grammar_told c (fault.Form (form.Image x)) h = absurd h
grammar_told c fault.Usage h = absurd h
grammar_told c fault.Read h = absurd h
grammar_told c fault.Write h = absurd h
grammar_told c fault.TooLong h = absurd h
grammar_told c fault.Memory h = absurd h

lines_told : (c : Case) (lines : Lines) (place : ℕ) (f : Fault) → Tells c (InForm lines place) f
    → (x : LineFault) × (f ≡ fault.Form (form.Line x)) × IsLineFault lines (section place c.input) x
lines_told c lines place (fault.Form (form.Line x)) h = (x, refl, h)
lines_told c lines place (fault.Text x) h = absurd h
lines_told c lines place (fault.Check x) h = absurd h
lines_told c lines place (fault.Limit x) h = absurd h
lines_told c lines place (fault.Form (form.Section x)) h = absurd h
lines_told c lines place (fault.Form (form.Event x)) h = absurd h
lines_told c lines place (fault.Form (form.Image x)) h = absurd h
lines_told c lines place fault.Usage h = absurd h
lines_told c lines place fault.Read h = absurd h
lines_told c lines place fault.Write h = absurd h
lines_told c lines place fault.TooLong h = absurd h
lines_told c lines place fault.Memory h = absurd h

legal_told : (c : Case) (f : Fault) → Tells c Legal f → (at : ℕ) × (f ≡ fault.Form (form.Event at)) × RefusesEntry c at
legal_told c (fault.Form (form.Event at)) h = (at, refl, h)
legal_told c (fault.Text x) h = absurd h
legal_told c (fault.Check x) h = absurd h
legal_told c (fault.Limit x) h = absurd h
legal_told c (fault.Form (form.Section x)) h = absurd h
legal_told c (fault.Form (form.Line x)) h = absurd h
legal_told c (fault.Form (form.Image x)) h = absurd h
legal_told c fault.Usage h = absurd h
legal_told c fault.Read h = absurd h
legal_told c fault.Write h = absurd h
legal_told c fault.TooLong h = absurd h
legal_told c fault.Memory h = absurd h

-- ---- one fault tells of a question

module _ (laws : Laws) where
  one_line : (lines : Lines) (part : Part) (f g : LineFault) → IsLineFault lines part f → IsLineFault lines part g → f ≡ g
  one_line Replies part f g a b = laws.replies.one_fault (lines_of part.line part.text) f g a b
  one_line Events part f g a b = laws.trace.one_fault (lines_of part.line part.text) f g a b
  one_line Frames part f g a b = laws.frames.one_fault (lines_of part.line part.text) f g a b
  one_line Entries part f g a b = laws.log.one_fault (lines_of part.line part.text) f g a b

  one_entry : (c : Case) (m n : ℕ) → RefusesEntry c m → RefusesEntry c n → m ≡ n
  one_entry c m n a b =
      let image : a.image ≡ b.image = same_Some a.image b.image (sym a.replayed.used ∙ b.replayed.used) in
      let frames : a.frames ≡ b.frames =
      laws.frames.one_list (lines_of (section 1 c.input).line (section 1 c.input).text) a.frames b.frames a.replayed.arriving b.replayed.arriving in
      let log : a.log ≡ b.log =
      laws.log.one_list (lines_of (section 2 c.input).line (section 2 c.input).text) a.log b.log a.replayed.entries b.replayed.entries in
      let there = subst (λ (i : Image). IsFirstRefused (job_on i b.frames) b.log m) image
      (subst (λ (fs : List FrameContent). IsFirstRefused (job_on a.image fs) b.log m) frames
      (subst (λ (l : List Entry). IsFirstRefused (job_on a.image a.frames) l m) log a.first)) in
      one_refused (job_on b.image b.frames) b.log m n there b.first

  -- the text of an input is that of one program
  pub of_one : (input : List ℕ) (P Q : List Procedure → Type 0) → OfProgram input P → OfProgram input Q → (p : List Procedure) × P p × Q p
  of_one input P Q a b =
      let p : List Procedure = a.0 in
      let q : List Procedure = b.0 in
      (q, subst P (laws.tree (source input) p q a.1.0 b.1.0) a.2, b.2)

  broken : (input : List ℕ) (x y : CheckFault) → OfProgram input (BreaksRule x) → OfProgram input (BreaksRule y) → x ≡ y
  broken input x y a b =
      let both = of_one input (BreaksRule x) (BreaksRule y) a b in
      let p : List Procedure = both.0 in
      laws.rule p x y both.1.first both.2.first

  passed : (input : List ℕ) (x y : CheckFault) → OfProgram input (BreaksLimit x) → OfProgram input (BreaksLimit y) → x ≡ y
  passed input x y a b =
      let both = of_one input (BreaksLimit x) (BreaksLimit y) a b in
      let p : List Procedure = both.0 in
      laws.rule p x y both.1.first both.2.first

  no_rule_and_limit : (input : List ℕ) (x y : CheckFault) → OfProgram input (BreaksRule x) → OfProgram input (BreaksLimit y) → ⊥
  no_rule_and_limit input x y a b =
      let both = of_one input (BreaksRule x) (BreaksLimit y) a b in
      let p : List Procedure = both.0 in
      both.1.no_limit (subst IsLimit (sym (laws.rule p x y both.1.first both.2.first)) both.2.limit)

  rules_told : (c : Case) (f : Fault) → Tells c Rules f
      → ((x : CheckFault) × (f ≡ fault.Check x) × OfProgram c.input (BreaksRule x)) ⊎ ((x : CheckFault) × (f ≡ fault.Limit x) × OfProgram c.input (BreaksLimit x))
  rules_told c (fault.Check x) h = inl (x, refl, h)
  rules_told c (fault.Limit x) h = inr (x, refl, h)
  rules_told c (fault.Text x) h = absurd h
  rules_told c (fault.Form (form.Section x)) h = absurd h
  rules_told c (fault.Form (form.Line x)) h = absurd h
  rules_told c (fault.Form (form.Event x)) h = absurd h
  rules_told c (fault.Form (form.Image x)) h = absurd h
  rules_told c fault.Usage h = absurd h
  rules_told c fault.Read h = absurd h
  rules_told c fault.Write h = absurd h
  rules_told c fault.TooLong h = absurd h
  rules_told c fault.Memory h = absurd h

  one_rule : (c : Case) (f g : Fault) → Tells c Rules f → Tells c Rules g → f ≡ g
  one_rule c f g a b =
      elim (rules_told c f a) [
        | inl h ↦ (
            let x : CheckFault = h.0 in
            elim (rules_told c g b) [
              | inl k ↦ (let y : CheckFault = k.0 in h.1 ∙ ap (λ z. fault.Check z) (broken c.input x y h.2 k.2) ∙ sym k.1)
              | inr k ↦ (let y : CheckFault = k.0 in absurd (no_rule_and_limit c.input x y h.2 k.2))
            ]
            )
        | inr h ↦ (
            let x : CheckFault = h.0 in
            elim (rules_told c g b) [
              | inl k ↦ (let y : CheckFault = k.0 in absurd (no_rule_and_limit c.input y x k.2 h.2))
              | inr k ↦ (let y : CheckFault = k.0 in h.1 ∙ ap (λ z. fault.Limit z) (passed c.input x y h.2 k.2) ∙ sym k.1)
            ]
            )
      ]

  pub one_told : (c : Case) (q : Question) (f g : Fault) → Tells c q f → Tells c q g → f ≡ g
  one_told c (Sections most) f g a b =
      let (m, e, h) = sections_told c most f a in
      let (n, d, k) = sections_told c most g b in
      e ∙ ap (λ z. fault.Form (form.Section z)) (same_Some m n (sym h ∙ k)) ∙ sym d
  one_told c ImageFormat f g a b =
      let (x, e, h) = image_told c f a in
      let (y, d, k) = image_told c g b in
      e ∙ ap (λ z. fault.Form (form.Image z)) (same_Some x y (sym h ∙ k)) ∙ sym d
  one_told c Grammar f g a b =
      let (x, e, h) = grammar_told c f a in
      let (y, d, k) = grammar_told c g b in
      e ∙ ap (λ z. fault.Text z) (laws.text (source c.input) x y h k) ∙ sym d
  one_told c Rules f g a b = one_rule c f g a b
  one_told c (InForm lines place) f g a b =
      let (x, e, h) = lines_told c lines place f a in
      let (y, d, k) = lines_told c lines place g b in
      e ∙ ap (λ z. fault.Form (form.Line z)) (one_line lines (section place c.input) x y h k) ∙ sym d
  one_told c Legal f g a b =
      let (m, e, h) = legal_told c f a in
      let (n, d, k) = legal_told c g b in
      e ∙ ap (λ z. fault.Form (form.Event z)) (one_entry c m n h k) ∙ sym d
