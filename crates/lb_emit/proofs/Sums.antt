-- Sums and offsets of lists that are joined, and registers in a row.
use Rattle.std.proofs.Common.{◌≡◌, ℕ, suc, ◌+◌, ◌-◌, ◌<◌, Bool, true, false, if◌then◌else◌, List, [], ◌∷◌, ◌++◌, ap, sym, ◌∙◌, arith, refl, append_assoc, sum}
use Rattle.lb_flat.specs.declared.places.Place.{Place}
use Rattle.lb_flat.specs.Calls.{callees}
use Rattle.lb_flat.specs.Code.{Routine}
use Rattle.lb_emit_laws.specs.Frames.{link_register, offsets_from, only, registers_from, saved_registers, sets_in_routine}
use Rattle.lb_emit_laws.proofs.FrameLemmas.{sum_cons}
use Rattle.lb_emit.specs.InternalFrame.{one_if}

-- ---- sums and offsets

pub sum_both : (ns ms : List ℕ) → sum (ns ++ ms) ≡ sum ns + sum ms
sum_both [] ms = omega arith
sum_both (n ∷ ns) ms = omega (arith, sum_cons n (ns ++ ms), sum_cons n ns, sum_both ns ms)

pub offsets_both : (o : ℕ) (ns ms : List ℕ) → offsets_from o (ns ++ ms) ≡ offsets_from o ns ++ offsets_from (o + sum ns) ms
offsets_both o [] ms = let e : o ≡ o + sum [] = omega arith in ap (λ k. offsets_from k ms) e
offsets_both o (n ∷ ns) ms =
    let e : o + n + sum ns ≡ o + sum (n ∷ ns) = omega (arith, sum_cons n ns) in
    ap (λ l. o ∷ l) (offsets_both (o + n) ns ms ∙ ap (λ k. offsets_from (o + n) ns ++ offsets_from k ms) e)

-- ---- registers that are saved

registers_more : (r : ℕ) → r < 32 → registers_from r (32 - r) ≡ r ∷ registers_from (r + 1) (32 - (r + 1))
registers_more r h = let e : 32 - r ≡ suc (32 - (r + 1)) = omega arith in ap (registers_from r) e

one_more_by : (b : Bool) (xs rest : List ℕ) (r : ℕ) → (xs ++ one_if b r) ++ rest ≡ xs ++ (if b then r ∷ rest else rest)
one_more_by true xs rest r = append_assoc xs (r ∷ []) rest
one_more_by false xs rest r = append_assoc xs [] rest

-- what was saved, and what the rest of the registers gives
pub saved_more : (test : ℕ → Bool) (xs : List ℕ) (r : ℕ) → r < 32
    → (xs ++ one_if (test r) r) ++ only test (registers_from (r + 1) (32 - (r + 1))) ≡ xs ++ only test (registers_from r (32 - r))
saved_more test xs r h =
    one_more_by (test r) xs (only test (registers_from (r + 1) (32 - (r + 1)))) r ∙ ap (λ l. xs ++ only test l) (sym (registers_more r h))

-- they are these
pub saved_are : (f : Routine Place) → link_register (callees f.body) ++ only (sets_in_routine f) (registers_from 18 14) ≡ saved_registers f
unfolding saved_registers
saved_are f = refl
