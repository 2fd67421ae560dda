-- The frames are frames of their functions, and in the ranges of an image.
use Rattle.std.proofs.Common.{◌≡◌, ℕ, zero, suc, ◌+◌, ◌*◌, ◌%◌, ◌<◌, ◌≤◌, inl, inr, List, [], ◌∷◌, length, map, Some, refl, arith}
use Rattle.std.specs.Prelude.{slice_get, slice_index, sum, All}
use Rattle.std.proofs.lemmas.List.Elements.{All-nil, All-cons, All-head, All-tail}
use Rattle.lb_syntax.specs.Rules.{IsBlockSize}
use Rattle.lb_syntax.specs.Layouts.{IsFrameFor, AreFramesFor}
use Rattle.lb_image.specs.Images.{IsFrame, IsMultipleBelow}
use Rattle.lb_flat.specs.declared.places.Place.{Place}
use Rattle.lb_flat.specs.Code.{sites, Routine, Executable}
use Rattle.lb_flat.specs.Needs.{frame_need}
use Rattle.lb_flat.specs.Order.{IsPlacedInOrder}
use Rattle.lb_emit_laws.specs.Frames.{blocks_offset, offsets_from, frame_layout, layout_of}
use Rattle.lb_emit_laws.specs.Correct.{IsPlacedLayout}
use Rattle.lb_emit_laws.proofs.SavedLemmas.{saved_few}
use Rattle.lb_emit_laws.proofs.FrameLemmas.{sum_cons, rules_at}

-- ---- blocks one behind the other

pub length_offsets : (o : ℕ) (ns : List ℕ) → length (offsets_from o ns) ≡ length ns
length_offsets o [] = refl
length_offsets o (n ∷ ns) = let rest = length_offsets (o + n) ns in omega (arith, rest)

sum_whole : (ns : List ℕ) → All IsBlockSize ns → sum ns % 4 ≡ 0
sum_whole [] h = refl
sum_whole (n ∷ ns) h = omega (arith, sum_cons n ns, (All-head IsBlockSize n ns h).1, sum_whole ns (All-tail IsBlockSize n ns h))

sum_each : (ns : List ℕ) → All IsBlockSize ns → 4 * length ns ≤ sum ns
sum_each [] h = omega arith
sum_each (n ∷ ns) h =
    let this = All-head IsBlockSize n ns h in
    let four : 4 ≤ n = omega (arith, this.0, this.1) in
    omega (arith, sum_cons n ns, four, sum_each ns (All-tail IsBlockSize n ns h))

offsets_aligned : (o : ℕ) (ns : List ℕ) → All IsBlockSize ns → o % 4 ≡ 0 → All (λ k. k % 4 ≡ 0) (offsets_from o ns)
offsets_aligned o [] h e = All-nil (λ (k : ℕ). k % 4 ≡ 0)
offsets_aligned o (n ∷ ns) h e =
    All-cons (λ (k : ℕ). k % 4 ≡ 0) o (offsets_from (o + n) ns) e (offsets_aligned (o + n) ns (All-tail IsBlockSize n ns h) (omega (arith, e, (All-head IsBlockSize n ns h).1)))

offsets_below : (o top : ℕ) (ns : List ℕ) → All IsBlockSize ns → o % 4 ≡ 0 → o + sum ns ≤ top → All (IsMultipleBelow top) (offsets_from o ns)
offsets_below o top [] h e le = All-nil (IsMultipleBelow top)
offsets_below o top (n ∷ ns) h e le =
    let this = All-head IsBlockSize n ns h in
    let all = sum_cons n ns in
    All-cons (IsMultipleBelow top) o (offsets_from (o + n) ns) (e, omega (arith, this.0, all, le)) (offsets_below (o + n) top ns (All-tail IsBlockSize n ns h) (omega (arith, e, this.1)) (omega (arith, all, le)))

offsets_inside : (o : ℕ) (ns : List ℕ) (k : ℕ) → k < length ns
    → (o ≤ slice_index (offsets_from o ns) k) × (slice_index (offsets_from o ns) k + slice_index ns k ≤ o + sum ns)
offsets_inside o [] k lt = absurd (omega (arith, lt))
offsets_inside o (n ∷ ns) zero lt = (omega arith, omega (arith, sum_cons n ns))
offsets_inside o (n ∷ ns) (suc k) lt =
    let rest = offsets_inside (o + n) ns k (omega (arith, lt)) in (omega (arith, rest.0), omega (arith, rest.1, sum_cons n ns))

offsets_apart : (o : ℕ) (ns : List ℕ) (j k : ℕ) → j < k → k < length ns → slice_index (offsets_from o ns) j + slice_index ns j ≤ slice_index (offsets_from o ns) k
offsets_apart o [] j k lt le = absurd (omega (arith, le))
offsets_apart o (n ∷ ns) j zero lt le = absurd (omega (arith, lt))
offsets_apart o (n ∷ ns) zero (suc k) lt le = let rest = offsets_inside (o + n) ns k (omega (arith, le)) in omega (arith, rest.0)
offsets_apart o (n ∷ ns) (suc j) (suc k) lt le = offsets_apart (o + n) ns j k (omega (arith, lt)) (omega (arith, le))

-- ---- frames

frame_fits : (h : Routine Place) → All IsBlockSize (sites h.body) → IsFrameFor (frame_layout h) (sites h.body) (frame_need h)
frame_fits h blocks =
    let low = blocks_offset h in
    let ns = sites h.body in
    record {
      offset_each = length_offsets low ns;
      whole = omega (arith, sum_whole ns blocks);
      small = omega (arith, saved_few h);
      aligned = offsets_aligned low ns blocks (omega arith);
      inside = λ k lt. (offsets_inside low ns k lt).1;
      apart = λ j k lt le. inr (inr (inl (offsets_apart low ns j k lt le)));
    }

frame_in_range : (h : Routine Place) → All IsBlockSize (sites h.body) → frame_need h ≤ 32768 → IsFrame (frame_layout h)
frame_in_range h blocks small =
    let low = blocks_offset h in
    let ns = sites h.body in
    record {
      whole = omega (arith, sum_whole ns blocks);
      small = omega (arith, saved_few h, small);
      few = omega (arith, length_offsets low ns, sum_each ns blocks);
      inside = offsets_below low (low + sum ns) ns blocks (omega arith) (omega arith);
    }

frames_fit : (hs : List (Routine Place)) → ((k : ℕ) (h : Routine Place) → slice_get hs k ≡ Some h → All IsBlockSize (sites h.body))
    → AreFramesFor (λ f. sites f.body) frame_need (map frame_layout hs) hs
frames_fit [] each = tt
frames_fit (h ∷ hs) each = (frame_fits h (each 0 h refl), frames_fit hs (λ k g is. each (suc k) g is))

frames_in_range : (hs : List (Routine Place)) → ((k : ℕ) (h : Routine Place) → slice_get hs k ≡ Some h → All IsBlockSize (sites h.body) × (frame_need h ≤ 32768))
    → All IsFrame (map frame_layout hs)
frames_in_range [] each = All-nil IsFrame
frames_in_range (h ∷ hs) each =
    All-cons IsFrame (frame_layout h) (map frame_layout hs) (frame_in_range h (each 0 h refl).0 (each 0 h refl).1) (frames_in_range hs (λ k g is. each (suc k) g is))

pub layout_valid : (p : Executable Place) → IsPlacedInOrder p → IsPlacedLayout (layout_of p) p
layout_valid p order = frames_fit p.routines (λ k h is. (rules_at p k h order is).0.block_sizes)

pub layout_in_range : (p : Executable Place) → IsPlacedInOrder p → All IsFrame (layout_of p).frames
layout_in_range p order = frames_in_range p.routines (λ k h is. (let rules = rules_at p k h order is in (rules.0.block_sizes, rules.0.frame)))
