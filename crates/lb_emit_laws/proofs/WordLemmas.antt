-- The code has no more words than the program asks for.
use Rattle.std.proofs.Common.{◌≡◌, ℕ, ◌+◌, ◌<◌, ◌≤◌, Bool, true, false, List, [], ◌∷◌, map, refl, sym, ap, arith}
use Rattle.std.proofs.lemmas.Bool.{leb-true, lt-ltb}
use Rattle.std.proofs.lemmas.List.Sums.{sum_by-cons}
use Rattle.lb_syntax.specs.Needs.{greatest}
use Rattle.lb_syntax.specs.declared.tree.Action.TheVariants.{Read, Write}
use Rattle.lb_flat.specs.declared.places.Place.{Place}
use Rattle.lb_flat.specs.declared.places.Place.TheVariants.{Register, Slot}
use Rattle.lb_flat.specs.Code.{Operation, Constant, Copy, Compute, Load, Store, Call, Access}
use Rattle.lb_flat.specs.Code.{Code, Plain, Reserve, Branch, Loop, Nothing, Sequence, Routine}
use Rattle.lb_flat.specs.Needs.{frame_need, is_near, slot_words, placed_plain_words, placed_words, placed_routine_words}
use Rattle.lb_flat.specs.Needs as need
use Rattle.lb_emit_laws.specs.Instructions.{is_short, is_upper, literal_words_by, is_reached, reach_words}
use Rattle.lb_emit_laws.specs.Frames.{slot_offset, frame_of}
use Rattle.lb_emit_laws.specs.Code.{place_words, places_words, fetch_words, plain_words, code_words, routine_words}
use Rattle.lb_emit_laws.proofs.Ordered.{IsSource, AreSources, IsPlaceTarget, ArePlaceTargets, IsPlainInOrder, InOrder, FitsFrame}
use Rattle.lb_emit_laws.proofs.CodeLengths.{over_at_most}
use Rattle.lb_emit_laws.proofs.SavedLemmas.{saved_few}

slot_at_most : (b : Bool) → slot_words b ≤ 3
slot_at_most true = omega arith
slot_at_most false = omega arith

pub reach_at_most : (offset : ℕ) → reach_words offset ≤ 3
reach_at_most offset = slot_at_most (is_reached offset)

literal_by_at_most : (short upper : Bool) → literal_words_by short upper ≤ 2
literal_by_at_most true upper = omega arith
literal_by_at_most false true = omega arith
literal_by_at_most false false = omega arith

-- a slot is reached in as many words as the function asks for
slot_within : (near : Bool) (h : Routine Place) (k : ℕ) → near ≡ is_near h → k < h.variables → reach_words (slot_offset (frame_of h) k) ≤ slot_words near
slot_within false h k e lt = reach_at_most (slot_offset (frame_of h) k)
slot_within true h k e lt =
    let small = leb-true (frame_need h) 2032 (sym e) in
    let here : is_reached (slot_offset (frame_of h) k) ≡ true = lt-ltb (slot_offset (frame_of h) k) 2048 (omega (arith, saved_few h, lt, small)) in
    omega (arith, ap slot_words here)

-- a copy takes what its further end takes
copied : (near : Bool) → (slot_words near ≤ greatest (slot_words near ∷ 1 ∷ [])) × (slot_words near ≤ greatest (1 ∷ slot_words near ∷ []))
copied true = (omega arith, omega arith)
copied false = (omega arith, omega arith)

need_cons : (near : Bool) (q : Place) (qs : List Place) → need.places_words near (q ∷ qs) ≡ need.place_words near q + need.places_words near qs
need_cons near q qs = sum_by-cons (λ x. x) (need.place_words near q) (map (need.place_words near) qs)

module _ (fs : List (Routine Place)) (A : ℕ → Type 0) (h : Routine Place) where
  source_within : (q : Place) → IsSource (frame_of h) q → place_words (frame_of h) q ≤ need.place_words (is_near h) q
  source_within (Register r) good = omega arith
  source_within (Slot k) good = slot_within (is_near h) h k refl good

  target_within : (q : Place) → IsPlaceTarget (frame_of h) q → place_words (frame_of h) q ≤ need.place_words (is_near h) q
  target_within (Register r) good = omega arith
  target_within (Slot k) good = slot_within (is_near h) h k refl good

  sources_within : (qs : List Place) → AreSources (frame_of h) qs → places_words (frame_of h) qs ≤ need.places_words (is_near h) qs
  sources_within [] good = omega arith
  sources_within (q ∷ qs) good = omega (arith, need_cons (is_near h) q qs, source_within q good.0, sources_within qs good.1)

  targets_within : (qs : List Place) → ArePlaceTargets (frame_of h) qs → places_words (frame_of h) qs ≤ need.places_words (is_near h) qs
  targets_within [] good = omega arith
  targets_within (q ∷ qs) good = omega (arith, need_cons (is_near h) q qs, target_within q good.0, targets_within qs good.1)

  fetch_within : (q : Place) → fetch_words (frame_of h) q ≤ place_words (frame_of h) q
  fetch_within (Register r) = omega arith
  fetch_within (Slot k) = omega arith

  plain_within : (o : Operation) (xs ys : List Place) → IsPlainInOrder fs A (frame_of h) o xs ys → plain_words (frame_of h) o xs ys ≤ placed_plain_words (is_near h) o xs ys
  plain_within (Constant v) [] (Register y ∷ []) good = literal_by_at_most (is_short v) (is_upper v)
  plain_within Copy (Register x ∷ []) (Register y ∷ []) good = omega arith
  plain_within Copy (Slot k ∷ []) (Register y ∷ []) good = omega (arith, slot_within (is_near h) h k refl good.0, (copied (is_near h)).0)
  plain_within Copy (Register x ∷ []) (Slot k ∷ []) good = omega (arith, slot_within (is_near h) h k refl good.1, (copied (is_near h)).1)
  plain_within (Compute op) (Register l ∷ Register r ∷ []) (Register y ∷ []) good = omega arith
  plain_within (Load w) (Register a ∷ []) (Register y ∷ []) good = omega arith
  plain_within (Store w) (Register a ∷ Register x ∷ []) [] good = omega arith
  plain_within (Call g) xs ys good = omega (arith, sources_within xs good.0, targets_within ys good.1)
  plain_within (Access Read) (a ∷ []) (y ∷ []) good = omega (arith, fetch_within a, fetch_within y, sources_within (a ∷ []) (good.0, tt), targets_within (y ∷ []) (good.1, tt))
  plain_within (Access Write) (a ∷ x ∷ []) [] good = omega (arith, fetch_within a, fetch_within x, sources_within (a ∷ x ∷ []) (good.0, (good.1, tt)))
  plain_within o xs ys good = absurd good

  code_within : (os : List ℕ) (c : Code Place) → InOrder fs A (frame_of h) os c → code_words (frame_of h) c ≤ placed_words (is_near h) c
  code_within os (Plain o xs ys) good = plain_within o xs ys good
  code_within os (Reserve n y b) good = omega (arith, code_within _ b good.2)
  code_within os (Branch x b d) good = omega (arith, code_within _ b good.1, code_within _ d good.2, over_at_most (code_words (frame_of h) d))
  code_within os (Loop b x d) good = omega (arith, code_within _ b good.1, code_within _ d good.2)
  code_within os Nothing good = omega arith
  code_within os (Sequence c d) good = omega (arith, code_within _ c good.0, code_within _ d good.1)

pub routine_within : (fs : List (Routine Place)) (h : Routine Place) → FitsFrame fs h → routine_words (frame_of h) h ≤ placed_routine_words h
routine_within fs h fits =
    omega (
      arith,
      fits.few,
      reach_at_most (frame_of h).size,
      targets_within fs (λ g. Unit {0}) h h.params fits.params,
      sources_within fs (λ g. Unit {0}) h h.results fits.results,
      code_within fs _ h _ h.body fits.body,
    )
