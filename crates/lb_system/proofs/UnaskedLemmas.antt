-- Jobs without an input: nothing is read or asked.
use Rattle.std.proofs.Common.{◌≡◌, inl, Bool, true, false, [], Option, refl, sym, ap, subst, ◌∙◌, List}
use Rattle.lb_syntax.specs.Names.{Text}
use Rattle.lb_image.specs.declared.image.Image.{Image}
use Rattle.lb_words.specs.declared.job.Job.{Job}
use Rattle.lb_words.specs.declared.job.Mode.{Mode}
use Rattle.lb_words.specs.declared.job.Mode.TheVariants as mode
use Rattle.lb_system.specs.declared.fault.Fault.{Fault}
use Rattle.lb_system.specs.Request.{IsRequest}
use Rattle.lb_system.specs.Questions.{Case, Question, IsFirstNo, mode_questions, mode_reads, questions, reads}
use Rattle.lb_system.specs.Answers.{AskForInput, HasReport, Port, UnlessMemory}
use Rattle.lb_system.proofs.TopLemmas.{ToldReason, one_request, told_cases}

-- of such a job nothing is asked
nothing_asked : (m : Mode) (input : Text) → mode_reads m ≡ false → mode_questions m input ≡ []
nothing_asked mode.Gen input e = refl
nothing_asked mode.Check input e = absurd cc
nothing_asked mode.Print input e = absurd cc
nothing_asked mode.Compile input e = absurd cc
nothing_asked mode.List input e = absurd cc
nothing_asked mode.Interp input e = absurd cc
nothing_asked mode.Isa input e = absurd cc
nothing_asked mode.Run input e = absurd cc
nothing_asked mode.Lamp input e = absurd cc
nothing_asked mode.Replay input e = absurd cc
nothing_asked mode.Judge input e = absurd cc

-- words that ask for it don't ask for an input
unasked_input : (words : List Text) (job : Job) → IsRequest words job → reads job ≡ false → AskForInput words → ⊥
unasked_input words job asked none ask =
    let other : Job = ask.0 in
    let both : true ≡ false = sym ask.2 ∙ ap reads (one_request words other job ask.1 asked) ∙ none in
    absurd cc

-- where words ask for no input, the job that they ask for has none
pub reads_nothing : (words : List Text) (job : Job) → IsRequest words job → ¬ (AskForInput words) → reads job ≡ false
reads_nothing words job asked none = go (reads job) refl
  where
    go : (b : Bool) → reads job ≡ b → reads job ≡ false
    go false e = e
    go true e = absurd (none (job, asked, e))

-- no answer to a question of it is no
unasked_first : (words : List Text) (job : Job) (c : Case) (q : Question) → IsRequest words job → reads job ≡ false → IsRequest words c.job
    → IsFirstNo c (questions c.job c.input) q → ⊥
unasked_first words job c q asked none k first =
    let same = one_request words c.job job k asked in
    subst (λ qs. IsFirstNo c qs q) (nothing_asked c.job.mode c.input (ap reads same ∙ none)) first

-- what is told in place of its report is want of memory
pub told_unasked : (words : List Text) (source : Port) (told : Option Fault) (i : Option Image) (job : Job) → ToldReason words source told i → IsRequest words job
    → reads job ≡ false → UnlessMemory told (HasReport told)
told_unasked words source told i job t asked none =
    told_cases words source told i (λ o. UnlessMemory o (HasReport o)) (λ no. absurd (no (job, asked)))
    (λ ask fails. absurd (unasked_input words job asked none ask)) (λ ask more. absurd (unasked_input words job asked none ask)) (λ up. inl refl)
    (λ g o cause. (
    let c : Case = cause.0 in
    let q : Question = cause.2.0 in
    absurd (unasked_first words job c q asked none cause.1.asked cause.2.1)
    )) t
