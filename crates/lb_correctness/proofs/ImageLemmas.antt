-- A run of an image's code, and the program.
use Rattle.std.proofs.Common.{◌≡◌, ℕ, zero, suc, ◌+◌, ◌*◌, ◌≤◌, List, Option, Some, None, refl, sym, ap, ◌∙◌, subst, arith}
use Rattle.std.specs.Option.{option_map_or}
use Rattle.lb_trace.specs.Prefix.{IsPrefix}
use Rattle.lb_trace.proofs.PrefixLemmas.{IsPrefix-trans}
use Rattle.lb_steps.specs.Runs.{run}
use Rattle.lb_steps.proofs.RunLemmas.{run-still}
use Rattle.lb_steps.proofs.GrowthLemmas.{run-keeps, run-longer_extends}
use Rattle.lb_syntax.specs.Tree.{Procedure}
use Rattle.lb_syntax.specs.Needs.{code_need}
use Rattle.lb_source.specs.Correct.{AreWords}
use Rattle.lb_source.specs.Source.{src}
use Rattle.lb_isa.specs.State.{RunState}
use Rattle.lb_isa.specs.Moves.{move}
use Rattle.lb_isa.specs.Runs.{isa, start}
use Rattle.lb_isa.proofs.MoveLemmas.{move_committed, move_extends}
use Rattle.lb_image.specs.declared.image.Image.{Image}
use Rattle.lb_emit_laws.specs.Correct.{IsHalted}
use Rattle.lb_compile.specs.Correct.{Keeps}
use Rattle.lb_correctness.specs.Images.{IsRunOfImage}

-- ---- a run of at most n instructions is one of as many as it committed

committed_grows : (code : List ℕ) (n : ℕ) (s : RunState) → s.committed ≤ (run (move code) n s).committed
committed_grows code n s =
    run-keeps (move code) (λ (t : RunState). s.committed ≤ t.committed) (λ t u h p. omega (arith, p, move_committed code t u h)) n s (omega arith)

as_committed_first : (code : List ℕ) (n k : ℕ) (s : RunState) (o : Option RunState) → move code s ≡ o
    → ((j : ℕ) (t : RunState) → (run (move code) n t).committed ≡ t.committed + j → run (move code) j t ≡ run (move code) n t)
    → (option_map_or (run (move code) n) o s).committed ≡ s.committed + k → run (move code) k s ≡ option_map_or (run (move code) n) o s
as_committed_first code n k s None is go h = run-still (move code) k s is
as_committed_first code n zero s (Some t) is go h = absurd (omega (arith, h, move_committed code s t is, committed_grows code n t))
as_committed_first code n (suc k) s (Some t) is go h =
    ap (λ (o : Option RunState). option_map_or (run (move code) k) o s) is ∙ go k t (omega (arith, h, move_committed code s t is))

run_as_committed : (code : List ℕ) (n k : ℕ) (s : RunState) → (run (move code) n s).committed ≡ s.committed + k → run (move code) k s ≡ run (move code) n s
run_as_committed code zero k s h = let none : k ≡ 0 = omega (arith, h) in ap (λ m. run (move code) m s) none
run_as_committed code (suc n) k s h = as_committed_first code n k s (move code s) refl (λ j t. run_as_committed code n j t) h

-- ---- the run and the program

pub run_of_image : (p : List Procedure) (i : Image) (replies : List ℕ) (n : ℕ) → Keeps p i → AreWords replies → IsRunOfImage p i replies (isa i.code i.entry replies n)
run_of_image p i replies n keeps words =
    let k = (isa i.code i.entry replies n).committed in
    let same : isa i.code i.entry replies k ≡ isa i.code i.entry replies n = run_as_committed i.code n k (start i.code i.entry replies) (omega arith) in
    record {
      agrees = λ defined. subst (λ (s : RunState). IsPrefix s.trace (src p i.layout k replies).trace) same (keeps.implements.refines.agrees replies k words defined);
      runs = λ defined halted. keeps.implements.refines.runs replies k words defined (subst (IsHalted i.code) (sym same) halted);
      comes = λ f least defined.
          subst (λ (s : RunState). IsPrefix (src p i.layout f replies).trace s.trace) same
          (IsPrefix-trans (keeps.implements.progresses.comes replies f words defined) (run-longer_extends (move i.code) (λ (s : RunState). s.trace) (move_extends i.code) ((f + 1) * code_need p) k (start i.code i.entry replies) least));
    }
