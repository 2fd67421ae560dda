-- The passes one after another: what holds of the source comes of what each pass keeps.
use Rattle.std.proofs.Common.{◌≡◌, ℕ, suc, ◌+◌, ◌*◌, ◌≤◌, List, [], ◌∷◌, map, sum, refl, sym, ◌∙◌, subst, arith, slice_get, Some, All}
use Rattle.std.specs.List.{AllByRecursion}
use Rattle.std.proofs.Math.Nat.{mul-le-mul_left}
use Rattle.std.proofs.lemmas.List.Elements.{All-from_recursion, recursion_from_All}
use Rattle.std.proofs.lemmas.List.Sums.{sum_by-cons}
use Rattle.lb_trace.specs.declared.Event.{Event}
use Rattle.lb_trace.specs.Prefix.{IsPrefix}
use Rattle.lb_trace.proofs.PrefixLemmas.{IsPrefix-trans}
use Rattle.lb_syntax.specs.Tree.{Procedure}
use Rattle.lb_syntax.specs.Needs as source
use Rattle.lb_syntax.specs.Layouts.{IsFrameFor, AreFramesFor, IsFrameOf, AreFramesOf}
use Rattle.lb_syntax.specs.declared.layout.FrameLayout.{FrameLayout}
use Rattle.lb_source.specs.Correct.{Implements}
use Rattle.lb_source.specs.Defined.{IsDefined}
use Rattle.lb_source.specs.Source.{src}
use Rattle.lb_source.specs.declared.ends.SourceRun.{SourceRun}
use Rattle.lb_steps.proofs.GrowthLemmas.{run-longer_extends}
use Rattle.lb_isa.specs.State.{RunState}
use Rattle.lb_isa.specs.Moves.{move}
use Rattle.lb_isa.proofs.MoveLemmas.{move_extends}
use Rattle.lb_isa.specs.Runs.{isa, start}
use Rattle.lb_image.specs.declared.image.Image.{Image}
use Rattle.lb_flat.specs.declared.places.Place.{Place}
use Rattle.lb_flat.specs.Accepted.{AreAllAccepted}
use Rattle.lb_flat.specs.Code.{Routine, Executable, sites}
use Rattle.lb_flat.specs.Flattened.{HasSameRuns, HasFewVariables}
use Rattle.lb_flat.specs.Needs.{frame_need, code_need, flat_routine_words, placed_routine_words, flat_accesses_need}
use Rattle.lb_flat.specs.SourceCounts.{IsSmall, source_accesses_need}
use Rattle.lb_flat.specs.Laws as flat
use Rattle.lb_flat.specs.Located.{places_at}
use Rattle.lb_flat.specs.Order.{IsInRegister}
use Rattle.lb_flat.specs.Whole.{placed_run}
use Rattle.lb_spill.specs.Placing as spilled
use Rattle.lb_spill.specs.Placing.{HasFlatRuns, IsLeanInRegisters}
use Rattle.lb_emit_laws.specs.Correct.{IsHalted, IsCodeOf, words_need}
use Rattle.lb_compile.specs.Correct.{Keeps, IsLean}

-- ---- frames

-- a frame that fits a placed function fits its source
frame_fits : (frame : FrameLayout) (f : Procedure) (g : Routine ℕ) (h : Routine Place) → flat.AsksNoMore f g → spilled.AsksNoMore g h
    → IsFrameFor frame (sites h.body) (frame_need h) → IsFrameOf frame f
frame_fits frame f g h asks more fits =
    let at = subst (λ (sizes : List ℕ). IsFrameFor frame sizes (frame_need h)) (more.blocks ∙ asks.blocks) fits in
    record {
      offset_each = at.offset_each;
      whole = at.whole;
      small = omega (arith, at.small, more.frame, asks.frame);
      aligned = at.aligned;
      inside = at.inside;
      apart = at.apart;
    }

frames_fit : (frames : List FrameLayout) (fs : List Procedure) (gs : List (Routine ℕ)) (hs : List (Routine Place)) → flat.AllAskNoMore fs gs → spilled.AllAskNoMore gs hs
    → AreFramesFor (λ (h : Routine Place). sites h.body) frame_need frames hs → AreFramesOf frames fs
frames_fit [] [] [] [] asks more fit = tt
frames_fit (frame ∷ frames) (f ∷ fs) (g ∷ gs) (h ∷ hs) asks more fit = (frame_fits frame f g h asks.0 more.0 fit.0, frames_fit frames fs gs hs asks.1 more.1 fit.1)
frames_fit (frame ∷ frames) fs gs [] asks more fit = absurd fit
frames_fit [] fs gs (h ∷ hs) asks more fit = absurd fit
frames_fit frames fs (g ∷ gs) [] asks more fit = absurd more
frames_fit frames fs [] (h ∷ hs) asks more fit = absurd more
frames_fit frames (f ∷ fs) [] hs asks more fit = absurd asks
frames_fit frames [] (g ∷ gs) hs asks more fit = absurd asks

-- ---- words

words_below : (gs : List (Routine ℕ)) (hs : List (Routine Place)) → spilled.AllAskNoMore gs hs → sum (map placed_routine_words hs) ≤ sum (map flat_routine_words gs)
words_below [] [] h = omega arith
words_below [] (g ∷ gs) h = absurd h
words_below (f ∷ fs) [] h = absurd h
words_below (f ∷ fs) (g ∷ gs) h =
    omega (
      arith,
      h.0.words,
      words_below fs gs h.1,
      sum_by-cons (λ n. n) (placed_routine_words g) (map placed_routine_words gs),
      sum_by-cons (λ n. n) (flat_routine_words f) (map flat_routine_words fs),
    )

-- ---- runs

-- a machine that implements a program implements each other one that has the same runs where it does nothing undefined, and that asks
-- for no less
implements_alike : (run other : ℕ → List ℕ → SourceRun) (need less : ℕ) (shown : List ℕ → ℕ → List Event) (IsHalt : List ℕ → ℕ → Type 0)
    → ((n : ℕ) (replies : List ℕ) → IsDefined (run n replies).end → other n replies ≡ run n replies) → less ≤ need
    → ((replies : List ℕ) (m n : ℕ) → m ≤ n → IsPrefix (shown replies m) (shown replies n))
    → Implements other less shown IsHalt → Implements run need shown IsHalt
implements_alike run other need less shown IsHalt same few longer i = record {
  refines = record {
    agrees = λ replies n words d. subst (λ (r : SourceRun). IsPrefix (shown replies n) r.trace) (same n replies d) (i.refines.agrees replies n words (defined n replies d));
    runs = λ replies n words d. i.refines.runs replies n words (defined n replies d);
  };
  progresses = record {
    comes = λ replies n words d.
        IsPrefix-trans (subst (λ (r : SourceRun). IsPrefix r.trace (shown replies ((n + 1) * less))) (same n replies d) (i.progresses.comes replies n words (defined n replies d)))
        (longer replies ((n + 1) * less) ((n + 1) * need) (mul-le-mul_left (n + 1) few));
  };
}
  where
    defined : (n : ℕ) (replies : List ℕ) → IsDefined (run n replies).end → IsDefined (other n replies).end
    defined n replies d = subst (λ (r : SourceRun). IsDefined r.end) (sym (same n replies d)) d

-- ---- the whole

-- the image of a program's placed form does what the program says
pub keeps : (p : List Procedure) (q : Executable ℕ) (h : Executable Place) (i : Image)
    → HasSameRuns p q → flat.AllAskNoMore p q.routines → code_need flat_routine_words q.routines ≤ source.code_need p
    → HasFlatRuns q h → spilled.AllAskNoMore q.routines h.routines → IsCodeOf h i.code i.layout i.entry → Keeps p i
keeps p q h i same asks words flat_same more code = record {
  layout = frames_fit i.layout.frames p q.routines h.routines asks more code.valid;
  image = code.image;
  few = omega (arith, code.few, fewer);
  implements = implements_alike (src p i.layout) (placed_run h i.layout) (source.code_need p) (words_need h)
      (λ replies n. (isa i.code i.entry replies n).trace) (λ replies n. IsHalted i.code (isa i.code i.entry replies n))
      alike fewer (λ replies m n le. run-longer_extends (move i.code) (λ (s : RunState). s.trace) (move_extends i.code) m n (start i.code i.entry replies) le) code.implements;
}
  where
    fewer : words_need h ≤ source.code_need p
    fewer = omega (arith, words_below q.routines h.routines more, words)

    alike : (n : ℕ) (replies : List ℕ) → IsDefined (src p i.layout n replies).end → placed_run h i.layout n replies ≡ src p i.layout n replies
    alike n replies d =
        let e = same i.layout n replies d in
        flat_same i.layout n replies (subst (λ (r : SourceRun). IsDefined r.end) (sym e) d) ∙ e

-- ---- loads and stores

-- in each function of at most 8 variables, each variable has a register
abbrev FewInRegisters : List (Routine ℕ) → List (List Place) → Type 0
FewInRegisters fs lists = (k : ℕ) (f : Routine ℕ) → slice_get fs k ≡ Some f → f.variables ≤ 8 → All IsInRegister (places_at lists k)

-- where no function has more than 8 variables, all variables have registers
all_in_registers : (fs : List (Routine ℕ)) (lists : List (List Place)) → AreAllAccepted fs lists → AllByRecursion (λ (f : Routine ℕ). f.variables ≤ 8) fs
    → FewInRegisters fs lists → AllByRecursion (All IsInRegister) lists
all_in_registers [] [] accepted few have = tt
all_in_registers [] (l ∷ ls) accepted few have = absurd accepted
all_in_registers (f ∷ fs) [] accepted few have = absurd accepted
all_in_registers (f ∷ fs) (l ∷ ls) accepted few have = (have 0 f refl few.0, all_in_registers fs ls accepted.1 few.1 (λ k g is le. have (suc k) g is le))

pub lean : (p : List Procedure) (q : Executable ℕ) (lists : List (List Place)) (h : Executable Place) (i : Image)
    → (IsSmall p → HasFewVariables q) → flat_accesses_need q.routines ≤ source_accesses_need p
    → AreAllAccepted q.routines lists → FewInRegisters q.routines lists → IsLeanInRegisters lists q.routines h.routines
    → IsCodeOf h i.code i.layout i.entry → IsLean p i
lean p q lists h i few accesses accepted have lean_if code small =
    let registers = All-from_recursion (All IsInRegister) lists
    (all_in_registers q.routines lists accepted (recursion_from_All (λ (f : Routine ℕ). f.variables ≤ 8) q.routines (few small)) have) in
    omega (arith, code.lean, lean_if registers, accesses)
