-- Blocks that stand one after another are a valid frame.
use Rattle.std.proofs.Common.{◌≡◌, ℕ, zero, suc, ◌+◌, ◌%◌, ◌<◌, ◌≤◌, List, [], ◌∷◌, length, sum, refl, arith, inl, inr}
use Rattle.std.specs.Prelude.{All, slice_index}
use Rattle.std.proofs.lemmas.List.Elements.{All-nil, All-cons, All-head, All-tail}
use Rattle.std.proofs.lemmas.List.Sums.{sum_by-cons}
use Rattle.lb_syntax.specs.Tree.{Procedure}
use Rattle.lb_syntax.specs.Needs.{sites}
use Rattle.lb_syntax.specs.Rules.{IsBlockSize}
use Rattle.lb_syntax.specs.Layouts.{IsFrameOf}
use Rattle.lb_handmade.specs.Packed.{starts, packed}

pub sum-cons : (n : ℕ) (ns : List ℕ) → sum (n ∷ ns) ≡ n + sum ns
sum-cons n ns = sum_by-cons (λ m. m) n ns

length-starts : (place : ℕ) (ns : List ℕ) → length (starts place ns) ≡ length ns
length-starts place [] = refl
length-starts place (n ∷ ns) = let e = length-starts (place + n) ns in omega (arith, e)

whole_sum : (ns : List ℕ) → All IsBlockSize ns → sum ns % 4 ≡ 0
whole_sum [] h = refl
whole_sum (n ∷ ns) h = let f = (All-head IsBlockSize n ns h).1 in let g = whole_sum ns (All-tail IsBlockSize n ns h) in omega (arith, f, g, sum-cons n ns)

aligned_starts : (place : ℕ) (ns : List ℕ) → place % 4 ≡ 0 → All IsBlockSize ns → All (λ offset. offset % 4 ≡ 0) (starts place ns)
aligned_starts place [] e h = All-nil (λ offset. offset % 4 ≡ 0)
aligned_starts place (n ∷ ns) e h =
    let f = (All-head IsBlockSize n ns h).1 in
    All-cons (λ offset. offset % 4 ≡ 0) place (starts (place + n) ns) e (aligned_starts (place + n) ns (omega (arith, e, f)) (All-tail IsBlockSize n ns h))

ends_within : (place : ℕ) (ns : List ℕ) (k : ℕ) → k < length ns → slice_index (starts place ns) k + slice_index ns k ≤ place + sum ns
ends_within place [] k h = absurd (omega arith)
ends_within place (n ∷ ns) zero h = let e : place + n ≤ place + sum (n ∷ ns) = omega (arith, sum-cons n ns) in e
ends_within place (n ∷ ns) (suc k) h =
    let g = ends_within (place + n) ns k (omega arith) in
    let e : slice_index (starts (place + n) ns) k + slice_index ns k ≤ place + sum (n ∷ ns) = omega (arith, g, sum-cons n ns) in e

begins_behind : (place : ℕ) (ns : List ℕ) (k : ℕ) → k < length ns → place ≤ slice_index (starts place ns) k
begins_behind place [] k h = absurd (omega arith)
begins_behind place (n ∷ ns) zero h = omega arith
begins_behind place (n ∷ ns) (suc k) h = let g = begins_behind (place + n) ns k (omega arith) in omega (arith, g)

in_order : (place : ℕ) (ns : List ℕ) (j k : ℕ) → j < k → k < length ns → slice_index (starts place ns) j + slice_index ns j ≤ slice_index (starts place ns) k
in_order place [] j k l h = absurd (omega arith)
in_order place (n ∷ ns) j zero l h = absurd (omega arith)
in_order place (n ∷ ns) zero (suc k) l h = begins_behind (place + n) ns k (omega arith)
in_order place (n ∷ ns) (suc j) (suc k) l h = in_order (place + n) ns j k (omega arith) (omega arith)

pub packed_fits : (f : Procedure) → All IsBlockSize (sites f.body) → IsFrameOf (packed (sites f.body)) f
packed_fits f h = record {
  offset_each = length-starts 0 (sites f.body);
  whole = whole_sum (sites f.body) h;
  small = omega arith;
  aligned = aligned_starts 0 (sites f.body) refl h;
  inside = λ k l. let g = ends_within 0 (sites f.body) k l in omega (arith, g);
  apart = λ j k l m. inr (inr (inl (in_order 0 (sites f.body) j k l m)));
}
