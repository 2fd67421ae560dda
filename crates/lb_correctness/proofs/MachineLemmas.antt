-- From the image to the machine, and to the lamp.
use Rattle.std.proofs.Common.{◌≡◌, ℕ, ◌+◌, ◌*◌, ◌≤◌, Bool, true, false, List, Option, Some, None, refl, sym, ap, ◌∙◌, subst, arith, [], ◌∷◌}
use Rattle.std.specs.Prelude.{IfSome}
use Rattle.std.specs.List.{AllByRecursion}
use Rattle.std.proofs.lemmas.List.Elements.{All-from_recursion, recursion_from_All}
use Rattle.lb_trace.specs.declared.Event.{Event}
use Rattle.lb_trace.specs.Prefix.{IsPrefix}
use Rattle.lb_trace.proofs.PrefixLemmas.{IsPrefix-trans}
use Rattle.lb_syntax.specs.Tree.{Procedure}
use Rattle.lb_syntax.specs.Needs.{code_need}
use Rattle.lb_syntax.specs.WellFormed.{IsWord}
use Rattle.lb_source.specs.Correct.{AreWords}
use Rattle.lb_source.specs.Defined.{IsDefined}
use Rattle.lb_source.specs.Source.{src}
use Rattle.lb_rv.specs.declared.instr.Cause.{Cause}
use Rattle.lb_isa.specs.State.{RunState}
use Rattle.lb_isa.specs.Runs.{IsHaltedBy, isa}
use Rattle.lb_isa.specs.Laws.{HaltedStandsStill, LongerRunsExtend}
use Rattle.lb_core.specs.Laws.{BootedStands, RowsStand}
use Rattle.lb_core.specs.Rows.{count_done, done_of, is_front_served}
use Rattle.lb_core.specs.Stands.{run_of}
use Rattle.lb_core.specs.State.{CoreState}
use Rattle.lb_image.specs.declared.image.Image.{Image}
use Rattle.lb_compile.specs.Correct.{Keeps}
use Rattle.lb_machine.specs.Logs.{replay}
use Rattle.lb_machine.specs.Laws.{EntriesAreBounded, EventsAreFew}
use Rattle.lb_grammar.specs.Forms.{Begins}
use Rattle.lb_grammar.specs.Grammar.{good}
use Rattle.lb_grammar.specs.Prefixes.{IsBegun, PrefixLaw}
use Rattle.lb_bulb.specs.Laws.{KeepsGrammar, NeverGoesWrong}
use Rattle.lb_bulb.specs.Supplied.{supplied}
use Rattle.lb_correctness.specs.Machines.{done_after, job_on, replies_after, run_after, source_with, source_after, trace_after}
use Rattle.lb_correctness.specs.Laws.{LampKeeps, MachinesKeep}
use Rattle.lb_correctness.proofs.ImageLemmas.{run_of_image}
use Rattle.lb_correctness.proofs.ReplyLemmas.{runs_job}

-- ---- the machine

-- a core whose cause of halting halts a run of fewer instructions than are done, or as many, isn't halted where the run isn't
not_halted : (o : Option Cause) (P : Cause → Type 0) → IfSome o P → ((cause : Cause) → P cause → ⊥) → o ≡ None
not_halted None P h f = refl
not_halted (Some cause) P h f = absurd (f cause h)

retired_are_done : (served : Bool) (n : ℕ) → n ≤ count_done served n
retired_are_done true n = omega arith
retired_are_done false n = omega arith

-- what every image owes, on a core that stands for a trace and has its code and entry
module _ (halted_stands : HaltedStandsStill) (p : List Procedure) (i : Image) (keeps : Keeps p i) (c : CoreState) (replies : List ℕ)
    (code : c.code ≡ i.code) (entry : c.entry ≡ i.entry) where
  same_run : (n : ℕ) → run_of c replies n ≡ isa i.code i.entry replies n
  same_run n = ap (λ (ws : List ℕ). isa ws c.entry replies n) code ∙ ap (λ (e : ℕ). isa i.code e replies n) entry

  halted_run : (cause : Cause) → IsHaltedBy cause c.code (run_of c replies c.retired) → IsHaltedBy cause i.code (isa i.code i.entry replies (done_of c))
  halted_run cause h =
      let there : IsHaltedBy cause i.code (isa i.code i.entry replies c.retired) =
      subst (IsHaltedBy cause i.code) (same_run c.retired) (subst (λ (ws : List ℕ). IsHaltedBy cause ws (run_of c replies c.retired)) code h) in
      let still = halted_stands i.code i.entry replies c.retired (done_of c) cause there (retired_are_done (is_front_served c.outcomes) c.retired) in
      subst (IsHaltedBy cause i.code) (sym still) there

  runs_on : AreWords replies → IfSome c.halted (λ cause. IsHaltedBy cause c.code (run_of c replies c.retired))
      → IsDefined (src p i.layout (done_of c) replies).end → c.halted ≡ None
  runs_on words halted defined =
      not_halted c.halted (λ cause. IsHaltedBy cause c.code (run_of c replies c.retired)) halted
      (λ cause h. keeps.implements.refines.runs replies (done_of c) words defined (cause, halted_run cause h))

pub machines_keep : BootedStands → RowsStand → EntriesAreBounded → EventsAreFew → HaltedStandsStill → LongerRunsExtend → MachinesKeep
machines_keep booted_stands rows_stand bounded few halted_stands longer_runs p i frames log keeps legal =
    let job = job_on i frames in
    let c = (replay job log).core in
    let replies = replies_after job log in
    let k = done_after job log in
    let m = runs_job booted_stands rows_stand job log (recursion_from_All IsWord i.code keeps.image.words) legal in
    let same : run_of c replies k ≡ run_after job log = same_run halted_stands p i keeps c replies m.code m.entry k in
    let trace : (run_after job log).trace ≡ trace_after job log = ap (λ (s : RunState). s.trace) (sym same) ∙ m.stands.trace in
    record {
      replied = m.replied;
      commits = ap (λ (s : RunState). s.committed) (sym same) ∙ m.stands.commits;
      trace = trace;
      run = run_of_image p i replies k keeps m.replied;
      agrees = λ defined. subst (λ (t : List Event). IsPrefix t (source_after p i frames log).trace) trace (keeps.implements.refines.agrees replies k m.replied defined);
      runs = λ defined. runs_on halted_stands p i keeps c replies m.code m.entry m.replied m.stands.halted defined;
      comes = λ f least defined.
          subst (λ (t : List Event). IsPrefix (source_with p i frames log f).trace t) trace
          (IsPrefix-trans (keeps.implements.progresses.comes replies f m.replied defined) (longer_runs i.code i.entry replies ((f + 1) * code_need p) k least));
      bounded = bounded job log legal;
      few = few job log legal;
    }

-- ---- the lamp

-- a beginning of what begins a member of the grammar does too
begins_before : PrefixLaw → (l m : List Event) → IsPrefix l m → Begins good m → Begins good l
begins_before law l m before h =
    let begun : IsBegun good m = (law.whole m).0 h in
    (law.whole l).1 (record { member = begun.member; is = begun.is; prefix = IsPrefix-trans before begun.prefix })

all_words : (vs : List ℕ) → AreWords vs → AllByRecursion IsWord vs
all_words [] h = tt
all_words (v ∷ vs) h = (h.0, all_words vs h.1)

pub lamp_keeps : MachinesKeep → NeverGoesWrong → PrefixLaw → LampKeeps
lamp_keeps machines never_wrong law i frames log keeps legal =
    let m = machines supplied i frames log keeps legal in
    let job = job_on i frames in
    let replies = replies_after job log in
    let words = All-from_recursion IsWord replies (all_words replies m.replied) in
    let right : KeepsGrammar (source_after supplied i frames log) = never_wrong i.layout (done_after job log) replies keeps.layout words in
    record {
      begins = begins_before law (trace_after job log) (source_after supplied i frames log).trace (m.agrees right.defined) right.begins;
      agrees = m.agrees right.defined;
      runs = m.runs right.defined;
      comes = λ f least. m.comes f least (never_wrong i.layout f replies keeps.layout words).defined;
    }
