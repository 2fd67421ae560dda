-- Spilled code calls the functions that the flat code calls, in the same order.
use Rattle.std.proofs.Common.{◌≡◌, ℕ, ◌+◌, List, [], ◌∷◌, ◌++◌, map, refl, sym, ap, ◌∙◌, append_assoc, append-nil}
use Rattle.lb_flat.specs.declared.registers.TheConstants.{FIRST_SCRATCH_REGISTER}
use Rattle.lb_flat.specs.declared.places.Place.{Place}
use Rattle.lb_flat.specs.declared.places.Place.TheVariants.{Register, Slot}
use Rattle.lb_flat.specs.Code.{Operation, Constant, Copy, Compute, Load, Store, Forget, Call, Access}
use Rattle.lb_flat.specs.Code.{Code, Plain, Reserve, Branch, Loop, Nothing, Sequence, Routine}
use Rattle.lb_flat.specs.Calls.{called, callees}
use Rattle.lb_flat.specs.Located.{place_of}
use Rattle.lb_spill.specs.InternalSpill.{got, got_all, put_back, computed, copied, spill_plain, spill, spilled}

got_callees : (s : ℕ) (p : Place) (rest : Code Place) → callees (got s p rest) ≡ callees rest
got_callees s (Register r) rest = refl
got_callees s (Slot i) rest = refl

put_back_callees : (s : ℕ) (p : Place) (rest : Code Place) → callees (put_back s p rest) ≡ callees rest
put_back_callees s (Register r) rest = refl
put_back_callees s (Slot i) rest = refl

got_all_callees : (s : ℕ) (ps : List Place) (rest : Code Place) → callees (got_all s ps rest) ≡ callees rest
got_all_callees s [] rest = refl
got_all_callees s (p ∷ ps) rest = got_callees s p (got_all (s + 1) ps rest) ∙ got_all_callees (s + 1) ps rest

copied_callees : (ps qs : List Place) (rest : Code Place) → callees (copied ps qs rest) ≡ callees rest
copied_callees [] qs rest = refl
copied_callees (Register r ∷ ps) qs rest = refl
copied_callees (Slot i ∷ ps) [] rest = refl
copied_callees (Slot i ∷ ps) (Register r ∷ qs) rest = refl
copied_callees (Slot i ∷ ps) (Slot j ∷ qs) rest = refl

-- of an operation that calls nobody
module _ (o : Operation) (none : called o ≡ []) where
  computed_callees : (ps qs : List Place) (rest : Code Place) → callees (computed o ps qs rest) ≡ callees rest
  computed_callees ps [] rest = got_all_callees FIRST_SCRATCH_REGISTER ps _ ∙ ap (λ l. l ++ callees rest) none
  computed_callees ps (q ∷ qs) rest =
      got_all_callees FIRST_SCRATCH_REGISTER ps _ ∙ ap (λ l. l ++ callees (put_back FIRST_SCRATCH_REGISTER q rest)) none
      ∙ put_back_callees FIRST_SCRATCH_REGISTER q rest

module _ (cell : ℕ → Place) where
  plain_callees : (o : Operation) (xs ys : List ℕ) (rest : Code Place) → callees (spill_plain o (map cell xs) (map cell ys) rest) ≡ callees (Plain o xs ys) ++ callees rest
  plain_callees (Constant v) xs ys rest = computed_callees (Constant v) refl (map cell xs) (map cell ys) rest
  plain_callees Copy xs ys rest = copied_callees (map cell xs) (map cell ys) rest
  plain_callees (Compute op) xs ys rest = computed_callees (Compute op) refl (map cell xs) (map cell ys) rest
  plain_callees (Load k) xs ys rest = computed_callees (Load k) refl (map cell xs) (map cell ys) rest
  plain_callees (Store k) xs ys rest = got_all_callees FIRST_SCRATCH_REGISTER (map cell xs) _
  plain_callees Forget xs ys rest = refl
  plain_callees (Call f) xs ys rest = refl
  plain_callees (Access k) xs ys rest = refl

  pub spill_callees : (c : Code ℕ) (rest : Code Place) → callees (spill cell c rest) ≡ callees c ++ callees rest
  spill_callees (Plain o xs ys) rest = plain_callees o xs ys rest
  spill_callees (Reserve n y b) rest =
      ap (λ l. l ++ callees rest) (put_back_callees FIRST_SCRATCH_REGISTER (cell y) (spill cell b Nothing) ∙ spill_callees b Nothing ∙ append-nil (callees b))
  spill_callees (Branch x b d) rest =
      got_callees FIRST_SCRATCH_REGISTER (cell x) _
      ∙ ap (λ l. (l ++ callees (spill cell d Nothing)) ++ callees rest) (spill_callees b Nothing ∙ append-nil (callees b))
      ∙ ap (λ l. (callees b ++ l) ++ callees rest) (spill_callees d Nothing ∙ append-nil (callees d))
  spill_callees (Loop b x d) rest =
      ap (λ l. (l ++ callees (spill cell d Nothing)) ++ callees rest)
      (spill_callees b (got FIRST_SCRATCH_REGISTER (cell x) Nothing) ∙ ap (λ l. callees b ++ l) (got_callees FIRST_SCRATCH_REGISTER (cell x) Nothing) ∙ append-nil (callees b))
      ∙ ap (λ l. (callees b ++ l) ++ callees rest) (spill_callees d Nothing ∙ append-nil (callees d))
  spill_callees Nothing rest = refl
  spill_callees (Sequence c d) rest = spill_callees c (spill cell d rest) ∙ ap (λ l. callees c ++ l) (spill_callees d rest) ∙ sym (append_assoc (callees c) (callees d) (callees rest))

pub routine_callees : (f : Routine ℕ) (places : List Place) → callees (spilled f places).body ≡ callees f.body
routine_callees f places = spill_callees (place_of places) f.body Nothing ∙ append-nil (callees f.body)
