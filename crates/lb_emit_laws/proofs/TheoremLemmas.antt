-- The laws of the code of placed programs.
use Rattle.std.proofs.Common.{◌≡◌, ℕ, zero, suc, List, [], ◌∷◌, length, map, Option, Some, None, refl, ap, ◌∙◌, subst, arith}
use Rattle.std.specs.Option.{option_map, option_map_or}
use Rattle.std.specs.Prelude.{slice_get, All}
use Rattle.std.proofs.lemmas.List.{length-map}
use Rattle.std.proofs.lemmas.List.Elements.{All-nil, All-cons}
use Rattle.lb_syntax.specs.WellFormed.{IsWord}
use Rattle.lb_trace.specs.declared.Event.{Event}
use Rattle.lb_trace.specs.Prefix.{IsPrefix}
use Rattle.lb_steps.specs.Runs.{run, OnlyExtends}
use Rattle.lb_source.specs.Correct.{Implements}
use Rattle.lb_source.proofs.ImplementLemmas.{implements}
use Rattle.lb_rv.specs.declared.instr.Instr.{Instr}
use Rattle.lb_rv.specs.Table.{IsInRange, word_of}
use Rattle.lb_rv.proofs.TableLemmas.{word_of_below}
use Rattle.lb_isa.specs.declared.processor.Stepped.{Stepped}
use Rattle.lb_isa.specs.declared.processor.Stepped.TheVariants.{Committed, WantsReply, Halted}
use Rattle.lb_isa.specs.State.{ProcessorState, RunState}
use Rattle.lb_isa.specs.Moves.{after, answer, move, moved, upcoming}
use Rattle.lb_isa.specs.Runs.{start}
use Rattle.lb_isa.proofs.MoveLemmas.{halted_stays, move_extends}
use Rattle.lb_trace.specs.declared.Event.TheVariants.{Ld, St}
use Rattle.lb_image.specs.Images.{IsImage}
use Rattle.lb_flat.specs.declared.places.Place.{Place}
use Rattle.lb_flat.specs.Code.{Executable}
use Rattle.lb_flat.specs.Order.{IsPlacedInOrder}
use Rattle.lb_flat.specs.Whole.{placed_run}
use Rattle.lb_emit_laws.specs.Frames.{frame_layout, layout_of}
use Rattle.lb_emit_laws.specs.Code.{program_code, program_words, program_entry}
use Rattle.lb_emit_laws.specs.Correct.{words_need, IsHalted, shown, halts}
use Rattle.lb_emit_laws.specs.Laws.{ProgramWordsAreCode, ProgramCodeIsInRange}
use Rattle.lb_emit_laws.proofs.Places.{AreInRange}
use Rattle.lb_emit_laws.proofs.Steps.{advance, trace_of, uncounted, IsWaiting}
use Rattle.lb_emit_laws.proofs.Outcomes.{fuel_of}
use Rattle.lb_emit_laws.proofs.AccessLemmas.{program_lean}
use Rattle.lb_emit_laws.proofs.LayoutLemmas.{layout_valid, layout_in_range}
use Rattle.lb_emit_laws.proofs.ProgramPlaces.{code_length, code_within, code_small, code_in_range}
use Rattle.lb_emit_laws.proofs.ProgramRuns.{placed_finishes}

-- ---- runs without their count

moved_same : (r : Stepped) (p : ProcessorState) (s : RunState) → option_map uncounted (moved r p (uncounted s)) ≡ option_map uncounted (moved r p s)
moved_same (Committed None) p s = refl
moved_same (Committed (Some (Ld a v))) p s = refl
moved_same (Committed (Some (St a v))) p s = refl
moved_same WantsReply p s = refl
moved_same (Halted cause) p s = refl

run_after : (code : List ℕ) (n : ℕ) (s : RunState) (o : Option RunState) → ((t : RunState) → run (advance code) n (uncounted t) ≡ uncounted (run (move code) n t))
    → option_map_or (run (advance code) n) (option_map uncounted o) (uncounted s) ≡ uncounted (option_map_or (run (move code) n) o s)
run_after code n s None go = refl
run_after code n s (Some t) go = go t

run_same : (code : List ℕ) (n : ℕ) (s : RunState) → run (advance code) n (uncounted s) ≡ uncounted (run (move code) n s)
run_same code zero s = refl
run_same code (suc n) s =
    ap (λ (o : Option RunState). option_map_or (run (advance code) n) o (uncounted s)) (moved_same (answer (upcoming code s.processor).outcome (slice_get s.replies 0)) (after (upcoming code s.processor).outcome (upcoming code s.processor).next (slice_get s.replies 0) s.processor) s)
    ∙ run_after code n s (move code s) (run_same code n)

abbrev trace_in : Option RunState → List Event
trace_in None = []
trace_in (Some t) = t.trace

extends_by : (code : List ℕ) (s t : RunState) (o : Option RunState) → move code s ≡ o → option_map uncounted o ≡ Some t → IsPrefix s.trace t.trace
extends_by code s t None is h = absurd (cc h)
extends_by code s t (Some u) is h = subst (λ o. IsPrefix s.trace (trace_in o)) h (move_extends code s u is)

advance_extends : (code : List ℕ) → OnlyExtends (advance code) trace_of
advance_extends code s t h = extends_by code s t (move code s) refl h

waiting_stays : (code : List ℕ) (s : RunState) → IsWaiting code s → advance code s ≡ None
waiting_stays code s h =
    ap (λ (r : Stepped). option_map uncounted (moved r (after (upcoming code s.processor).outcome (upcoming code s.processor).next (slice_get s.replies 0) s.processor) s)) h

halted_none : (code : List ℕ) (s : RunState) → IsHalted code s → advance code s ≡ None
halted_none code s h = ap (option_map uncounted) (halted_stays h.0 code s h.1)

waiting_not_halted : (code : List ℕ) (s : RunState) → IsWaiting code s → ¬ (IsHalted code s)
waiting_not_halted code s h k = cc (h, ap (λ o. answer o (slice_get s.replies 0)) k.1)

-- ---- words

words_below : (xs : List Instr) → AreInRange xs → All IsWord (map word_of xs)
words_below [] h = All-nil IsWord
words_below (x ∷ xs) h = All-cons IsWord (word_of x) (map word_of xs) (word_of_below x h.0) (words_below xs h.1)

all_in_range : (xs : List Instr) → AreInRange xs → All IsInRange xs
all_in_range [] h = All-nil IsInRange
all_in_range (x ∷ xs) h = All-cons IsInRange x xs h.0 (all_in_range xs h.1)

-- ---- the laws

module _ (p : Executable Place) (order : IsPlacedInOrder p) where
  abbrev code : List ℕ
  code = program_words p

  long : length code ≡ length (program_code p)
  long = length-map (program_code p) word_of

  frames_long : length (layout_of p).frames ≡ length p.routines
  frames_long = length-map p.routines frame_layout

  image : IsImage (record { code = code; layout = layout_of p; entry = program_entry })
  image = record {
    range = record {
      some = omega (arith, long, code_length p order);
      few = omega (arith, long, code_small p order);
      entry = (refl, omega (arith, long, code_length p order));
      functions = omega (arith, frames_long, order.rules.few_functions);
      frames = layout_in_range p order;
    };
    words = words_below (program_code p) (code_in_range p order);
  }

  keeps : Implements (placed_run p (layout_of p)) (words_need p) (shown code program_entry) (halts code program_entry)
  keeps =
      let bare = implements (advance code) trace_of (IsWaiting code) (IsHalted code) (length code) fuel_of (advance_extends code) (waiting_stays code) (halted_none code) (waiting_not_halted code)
      (λ replies. start code program_entry replies) (placed_run p (layout_of p)) (λ replies n are_words. placed_finishes p order replies n are_words) (words_need p) (omega (arith, long, code_within p order)) in
      let same = λ (replies : List ℕ) (n : ℕ). run_same code n (start code program_entry replies) in
      subst (λ (stops : List ℕ → ℕ → Type 0). Implements (placed_run p (layout_of p)) (words_need p) (shown code program_entry) stops)
      (λ i replies n. IsHalted code (same replies n i))
      (subst (λ (shows : List ℕ → ℕ → List Event). Implements (placed_run p (layout_of p)) (words_need p) shows (λ replies n. IsHalted code (run (advance code) n (start code program_entry replies))))
      (λ i replies n. trace_of (same replies n i)) bare)

pub program_words_are_code : ProgramWordsAreCode
program_words_are_code p order = record {
  valid = layout_valid p order;
  image = image p order;
  few = omega (arith, long p order, code_within p order);
  lean = program_lean p (code_in_range p order);
  implements = keeps p order;
}

pub program_code_is_in_range : ProgramCodeIsInRange
program_code_is_in_range p order = all_in_range (program_code p) (code_in_range p order)
