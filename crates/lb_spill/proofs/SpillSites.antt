-- Spilled code has the same stackalloc blocks, in the same order.
use Rattle.std.proofs.Common.{◌≡◌, ℕ, ◌+◌, List, [], ◌∷◌, ◌++◌, map, refl, sym, ap, ◌∙◌, append_assoc, append-nil}
use Rattle.lb_flat.specs.declared.registers.TheConstants.{FIRST_SCRATCH_REGISTER}
use Rattle.lb_flat.specs.declared.places.Place.{Place}
use Rattle.lb_flat.specs.declared.places.Place.TheVariants.{Register, Slot}
use Rattle.lb_flat.specs.Code.{Operation, Constant, Copy, Compute, Load, Store, Forget, Call, Access}
use Rattle.lb_flat.specs.Code.{Code, Plain, Reserve, Branch, Loop, Nothing, Sequence, sites}
use Rattle.lb_spill.specs.InternalSpill.{got, got_all, put_back, computed, copied, spill_plain, spill}

pub got_sites : (s : ℕ) (p : Place) (rest : Code Place) → sites (got s p rest) ≡ sites rest
got_sites s (Register r) rest = refl
got_sites s (Slot i) rest = refl

got_all_sites : (s : ℕ) (ps : List Place) (rest : Code Place) → sites (got_all s ps rest) ≡ sites rest
got_all_sites s [] rest = refl
got_all_sites s (p ∷ ps) rest = got_sites s p (got_all (s + 1) ps rest) ∙ got_all_sites (s + 1) ps rest

pub put_back_sites : (s : ℕ) (p : Place) (rest : Code Place) → sites (put_back s p rest) ≡ sites rest
put_back_sites s (Register r) rest = refl
put_back_sites s (Slot i) rest = refl

computed_sites : (o : Operation) (ps qs : List Place) (rest : Code Place) → sites (computed o ps qs rest) ≡ sites rest
computed_sites o ps [] rest = got_all_sites FIRST_SCRATCH_REGISTER ps _
computed_sites o ps (q ∷ qs) rest = got_all_sites FIRST_SCRATCH_REGISTER ps _ ∙ put_back_sites FIRST_SCRATCH_REGISTER q rest

copied_sites : (ps qs : List Place) (rest : Code Place) → sites (copied ps qs rest) ≡ sites rest
copied_sites [] qs rest = refl
copied_sites (Register r ∷ ps) qs rest = refl
copied_sites (Slot i ∷ ps) [] rest = refl
copied_sites (Slot i ∷ ps) (Register r ∷ qs) rest = refl
copied_sites (Slot i ∷ ps) (Slot j ∷ qs) rest = refl

plain_sites : (o : Operation) (ps qs : List Place) (rest : Code Place) → sites (spill_plain o ps qs rest) ≡ sites rest
plain_sites (Constant v) ps qs rest = computed_sites (Constant v) ps qs rest
plain_sites Copy ps qs rest = copied_sites ps qs rest
plain_sites (Compute op) ps qs rest = computed_sites (Compute op) ps qs rest
plain_sites (Load k) ps qs rest = computed_sites (Load k) ps qs rest
plain_sites (Store k) ps qs rest = got_all_sites FIRST_SCRATCH_REGISTER ps _
plain_sites Forget ps qs rest = refl
plain_sites (Call f) ps qs rest = refl
plain_sites (Access k) ps qs rest = refl

module _ (cell : ℕ → Place) where
  pub spill_sites : (c : Code ℕ) (rest : Code Place) → sites (spill cell c rest) ≡ sites c ++ sites rest
  spill_sites (Plain o xs ys) rest = plain_sites o (map cell xs) (map cell ys) rest
  spill_sites (Reserve n y b) rest =
      ap (λ l. (n ∷ l) ++ sites rest) (put_back_sites FIRST_SCRATCH_REGISTER (cell y) (spill cell b Nothing) ∙ spill_sites b Nothing ∙ append-nil (sites b))
  spill_sites (Branch x b d) rest =
      got_sites FIRST_SCRATCH_REGISTER (cell x) _
      ∙ ap (λ l. (l ++ sites (spill cell d Nothing)) ++ sites rest) (spill_sites b Nothing ∙ append-nil (sites b))
      ∙ ap (λ l. (sites b ++ l) ++ sites rest) (spill_sites d Nothing ∙ append-nil (sites d))
  spill_sites (Loop b x d) rest =
      ap (λ l. (l ++ sites (spill cell d Nothing)) ++ sites rest)
      (spill_sites b (got FIRST_SCRATCH_REGISTER (cell x) Nothing) ∙ ap (λ l. sites b ++ l) (got_sites FIRST_SCRATCH_REGISTER (cell x) Nothing) ∙ append-nil (sites b))
      ∙ ap (λ l. (sites b ++ l) ++ sites rest) (spill_sites d Nothing ∙ append-nil (sites d))
  spill_sites Nothing rest = refl
  spill_sites (Sequence c d) rest = spill_sites c (spill cell d rest) ∙ ap (λ l. sites c ++ l) (spill_sites d rest) ∙ sym (append_assoc (sites c) (sites d) (sites rest))

  -- the blocks of a block alone
  pub block_sites : (b : Code ℕ) → sites (spill cell b Nothing) ≡ sites b
  block_sites b = spill_sites b Nothing ∙ append-nil (sites b)

  -- those of a loop's head, which gets its condition
  pub head_sites : (b : Code ℕ) (x : ℕ) → sites (spill cell b (got FIRST_SCRATCH_REGISTER (cell x) Nothing)) ≡ sites b
  head_sites b x = spill_sites b (got FIRST_SCRATCH_REGISTER (cell x) Nothing) ∙ ap (λ l. sites b ++ l) (got_sites FIRST_SCRATCH_REGISTER (cell x) Nothing) ∙ append-nil (sites b)
