-- What spilled code asks for: as much as the flat code, of everything that is counted, and no more words.
use Rattle.std.proofs.Common.{◌≡◌, ℕ, zero, suc, ◌+◌, ◌*◌, ◌≤◌, Bool, true, false, List, [], ◌∷◌, ◌++◌, length, map, sum, refl, sym, ap, ◌∙◌, arith, All}
use Rattle.std.specs.Prelude.{if◌then◌else◌}
use Rattle.std.specs.List.{AllByRecursion}
use Rattle.std.proofs.lemmas.Bool.{le-leb, leb-true}
use Rattle.std.proofs.lemmas.List.{length-map}
use Rattle.std.proofs.lemmas.List.Sums.{sum_by-cons}
use Rattle.lb_syntax.specs.declared.tree.Op.{Op}
use Rattle.lb_syntax.specs.declared.tree.Op.TheVariants.{Add, Sub, Mul, Mulhuu, Divu, Remu, And, Or, Xor, Sru, Slu, Srs, Lts, Ltu, Eq}
use Rattle.lb_syntax.specs.declared.tree.Width.{Width}
use Rattle.lb_syntax.specs.declared.tree.Action.{Action}
use Rattle.lb_syntax.specs.declared.limits.TheConstants.{NEAR_FRAME}
use Rattle.lb_syntax.specs.Needs.{greatest}
use Rattle.lb_flat.specs.declared.registers.TheConstants.{FIRST_SCRATCH_REGISTER, MOST_SAVED}
use Rattle.lb_flat.specs.declared.places.Place.{Place}
use Rattle.lb_flat.specs.declared.places.Place.TheVariants.{Register, Slot}
use Rattle.lb_flat.specs.Code.{Operation, Constant, Copy, Compute, Load, Store, Forget, Call, Access}
use Rattle.lb_flat.specs.Code.{Code, Plain, Reserve, Branch, Loop, Nothing, Sequence, Routine, sites}
use Rattle.lb_flat.specs.Counts.{Weight, total, load_weight, store_weight, access_weight, argument_weight, target_weight, slot_count, move_weight, slot_moves}
use Rattle.lb_flat.specs.Needs.{frame_need, is_near, plain_words, flat_words, slot_words, place_words, places_words, operation_words, placed_plain_words, placed_words}
use Rattle.lb_flat.specs.Needs.{memory_words, placed_memory_words, routine_memory_words}
use Rattle.lb_flat.specs.Located.{place_of}
use Rattle.lb_flat.specs.Accepted.{MayHold, AreAccepted, AreAllAccepted}
use Rattle.lb_flat.specs.Order.{HasShapes, HasParts, IsVariable, IsInRegister, KeepsRoutineRules}
use Rattle.lb_flat.proofs.FlatForms.{by_elements}
use Rattle.lb_spill.specs.InternalSpill.{in_register, in_registers, got, got_all, put_back, computed, copied, spill_plain, spill, slots_of, spilled, all_spilled, NamesBelow, NamesOwn}
use Rattle.lb_spill.specs.Placing.{AsksNoMore, AllAskNoMore, UsesFewSlots, AllUseFewSlots, IsLeanInRegisters}
use Rattle.lb_spill.proofs.SpillSites.{block_sites}
use Rattle.lb_spill.proofs.SpillCalls.{routine_callees}

-- ---- weights that spilled code keeps

-- copies and unsets weigh nothing, other operations what they did
record AreKept (u : Weight ℕ) (v : Weight Place) : Type 0 where
  copies : (ps qs : List Place) → v Copy ps qs ≡ 0
  flat_copies : (xs ys : List ℕ) → u Copy xs ys ≡ 0
  forgets : (xs ys : List ℕ) → u Forget xs ys ≡ 0
  constants : (n : ℕ) (xs ys : List ℕ) (ps qs : List Place) → v (Constant n) ps qs ≡ u (Constant n) xs ys
  computes : (op : Op) (xs ys : List ℕ) (ps qs : List Place) → v (Compute op) ps qs ≡ u (Compute op) xs ys
  loads : (k : Width) (xs ys : List ℕ) (ps qs : List Place) → v (Load k) ps qs ≡ u (Load k) xs ys
  stores : (k : Width) (xs ys : List ℕ) (ps qs : List Place) → v (Store k) ps qs ≡ u (Store k) xs ys
  calls : (f : ℕ) (cell : ℕ → Place) (xs ys : List ℕ) → v (Call f) (map cell xs) (map cell ys) ≡ u (Call f) xs ys
  accesses : (k : Action) (cell : ℕ → Place) (xs ys : List ℕ) → v (Access k) (map cell xs) (map cell ys) ≡ u (Access k) xs ys

module _ (u : Weight ℕ) (v : Weight Place) (kept : AreKept u v) where
  got_total : (s : ℕ) (p : Place) (rest : Code Place) → total v (got s p rest) ≡ total v rest
  got_total s (Register r) rest = refl
  got_total s (Slot i) rest = omega (arith, kept.copies (Slot i ∷ []) (Register s ∷ []))

  put_total : (s : ℕ) (p : Place) (rest : Code Place) → total v (put_back s p rest) ≡ total v rest
  put_total s (Register r) rest = refl
  put_total s (Slot i) rest = omega (arith, kept.copies (Register s ∷ []) (Slot i ∷ []))

  all_total : (s : ℕ) (ps : List Place) (rest : Code Place) → total v (got_all s ps rest) ≡ total v rest
  all_total s [] rest = refl
  all_total s (p ∷ ps) rest = got_total s p (got_all (s + 1) ps rest) ∙ all_total (s + 1) ps rest

  computed_total : (o : Operation) (ps qs : List Place) (rest : Code Place) (m : ℕ) → ((ps' qs' : List Place) → v o ps' qs' ≡ m) → total v (computed o ps qs rest) ≡ m + total v rest
  computed_total o ps [] rest m h =
      let p = in_registers FIRST_SCRATCH_REGISTER ps in
      omega (arith, all_total FIRST_SCRATCH_REGISTER ps (Sequence (Plain o p []) rest), h p [])
  computed_total o ps (q ∷ qs) rest m h =
      let p = in_registers FIRST_SCRATCH_REGISTER ps in
      let r = in_register FIRST_SCRATCH_REGISTER q ∷ [] in
      omega (arith, all_total FIRST_SCRATCH_REGISTER ps (Sequence (Plain o p r) (put_back FIRST_SCRATCH_REGISTER q rest)), h p r, put_total FIRST_SCRATCH_REGISTER q rest)

  copied_total : (ps qs : List Place) (rest : Code Place) → total v (copied ps qs rest) ≡ total v rest
  copied_total [] qs rest = omega (arith, kept.copies [] qs)
  copied_total (Register r ∷ ps) qs rest = omega (arith, kept.copies (Register r ∷ ps) qs)
  copied_total (Slot i ∷ ps) [] rest = omega (arith, kept.copies (Slot i ∷ ps) [])
  copied_total (Slot i ∷ ps) (Register r ∷ qs) rest = omega (arith, kept.copies (Slot i ∷ ps) (Register r ∷ qs))
  copied_total (Slot i ∷ ps) (Slot j ∷ qs) rest = got_total FIRST_SCRATCH_REGISTER (Slot i) (put_back FIRST_SCRATCH_REGISTER (Slot j) rest) ∙ put_total FIRST_SCRATCH_REGISTER (Slot j) rest

  plain_total : (cell : ℕ → Place) (o : Operation) (xs ys : List ℕ) (rest : Code Place) → total v (spill_plain o (map cell xs) (map cell ys) rest) ≡ u o xs ys + total v rest
  plain_total cell (Constant n) xs ys rest = computed_total (Constant n) (map cell xs) (map cell ys) rest (u (Constant n) xs ys) (λ ps qs. kept.constants n xs ys ps qs)
  plain_total cell Copy xs ys rest = omega (arith, copied_total (map cell xs) (map cell ys) rest, kept.flat_copies xs ys)
  plain_total cell (Compute op) xs ys rest = computed_total (Compute op) (map cell xs) (map cell ys) rest (u (Compute op) xs ys) (λ ps qs. kept.computes op xs ys ps qs)
  plain_total cell (Load k) xs ys rest = computed_total (Load k) (map cell xs) (map cell ys) rest (u (Load k) xs ys) (λ ps qs. kept.loads k xs ys ps qs)
  plain_total cell (Store k) xs ys rest =
      let p = in_registers FIRST_SCRATCH_REGISTER (map cell xs) in
      omega (arith, all_total FIRST_SCRATCH_REGISTER (map cell xs) (Sequence (Plain (Store k) p []) rest), kept.stores k xs ys p [])
  plain_total cell Forget xs ys rest = omega (arith, kept.forgets xs ys)
  plain_total cell (Call f) xs ys rest = ap (λ n. n + total v rest) (kept.calls f cell xs ys)
  plain_total cell (Access k) xs ys rest = ap (λ n. n + total v rest) (kept.accesses k cell xs ys)

  spill_total : (cell : ℕ → Place) (c : Code ℕ) (rest : Code Place) → total v (spill cell c rest) ≡ total u c + total v rest
  spill_total cell (Plain o xs ys) rest = plain_total cell o xs ys rest
  spill_total cell (Reserve n y b) rest = omega (arith, put_total FIRST_SCRATCH_REGISTER (cell y) (spill cell b Nothing), spill_total cell b Nothing)
  spill_total cell (Branch x b d) rest =
      omega (
        arith,
        got_total FIRST_SCRATCH_REGISTER (cell x) (Sequence (Branch (in_register FIRST_SCRATCH_REGISTER (cell x)) (spill cell b Nothing) (spill cell d Nothing)) rest),
        spill_total cell b Nothing,
        spill_total cell d Nothing,
      )
  spill_total cell (Loop b x d) rest =
      omega (
        arith,
        spill_total cell b (got FIRST_SCRATCH_REGISTER (cell x) Nothing),
        got_total FIRST_SCRATCH_REGISTER (cell x) Nothing,
        spill_total cell d Nothing,
      )
  spill_total cell Nothing rest = omega arith
  spill_total cell (Sequence c d) rest = omega (arith, spill_total cell c (spill cell d rest), spill_total cell d rest)

  block_total : (cell : ℕ → Place) (c : Code ℕ) → total v (spill cell c Nothing) ≡ total u c
  block_total cell c = omega (arith, spill_total cell c Nothing)

loads_kept : AreKept load_weight load_weight
loads_kept = record { copies = λ ps qs. refl; flat_copies = λ xs ys. refl; forgets = λ xs ys. refl; constants = λ n xs ys ps qs. refl; computes = λ op xs ys ps qs. refl; loads = λ k xs ys ps qs. refl; stores = λ k xs ys ps qs. refl; calls = λ f cell xs ys. refl; accesses = λ k cell xs ys. refl }

stores_kept : AreKept store_weight store_weight
stores_kept = record { copies = λ ps qs. refl; flat_copies = λ xs ys. refl; forgets = λ xs ys. refl; constants = λ n xs ys ps qs. refl; computes = λ op xs ys ps qs. refl; loads = λ k xs ys ps qs. refl; stores = λ k xs ys ps qs. refl; calls = λ f cell xs ys. refl; accesses = λ k cell xs ys. refl }

accesses_kept : AreKept access_weight access_weight
accesses_kept = record { copies = λ ps qs. refl; flat_copies = λ xs ys. refl; forgets = λ xs ys. refl; constants = λ n xs ys ps qs. refl; computes = λ op xs ys ps qs. refl; loads = λ k xs ys ps qs. refl; stores = λ k xs ys ps qs. refl; calls = λ f cell xs ys. refl; accesses = λ k cell xs ys. refl }

arguments_kept : AreKept argument_weight argument_weight
arguments_kept = record { copies = λ ps qs. refl; flat_copies = λ xs ys. refl; forgets = λ xs ys. refl; constants = λ n xs ys ps qs. refl; computes = λ op xs ys ps qs. refl; loads = λ k xs ys ps qs. refl; stores = λ k xs ys ps qs. refl; calls = λ f cell xs ys. length-map xs cell; accesses = λ k cell xs ys. length-map xs cell }

targets_kept : AreKept target_weight target_weight
targets_kept = record { copies = λ ps qs. refl; flat_copies = λ xs ys. refl; forgets = λ xs ys. refl; constants = λ n xs ys ps qs. refl; computes = λ op xs ys ps qs. refl; loads = λ k xs ys ps qs. refl; stores = λ k xs ys ps qs. refl; calls = λ f cell xs ys. length-map ys cell; accesses = λ k cell xs ys. length-map ys cell }

-- ---- moves from and to slots

-- where these are registers
abbrev AreRegisters : List Place → Type 0
AreRegisters = AllByRecursion IsInRegister

no_slots : (ps : List Place) → AreRegisters ps → slot_count ps ≡ 0
no_slots [] h = refl
no_slots (Register r ∷ ps) h = no_slots ps h.1
no_slots (Slot i ∷ ps) h = absurd h.0

both_registers : (ps qs : List Place) → AreRegisters ps → AreRegisters qs → AreRegisters (ps ++ qs)
both_registers [] qs h k = k
both_registers (p ∷ ps) qs h k = (h.0, both_registers ps qs h.1 k)

got_none : (s : ℕ) (p : Place) (rest : Code Place) → IsInRegister p → got s p rest ≡ rest
got_none s (Register r) rest h = refl
got_none s (Slot i) rest h = absurd h

put_none : (s : ℕ) (p : Place) (rest : Code Place) → IsInRegister p → put_back s p rest ≡ rest
put_none s (Register r) rest h = refl
put_none s (Slot i) rest h = absurd h

all_none : (s : ℕ) (ps : List Place) (rest : Code Place) → AreRegisters ps → got_all s ps rest ≡ rest
all_none s [] rest h = refl
all_none s (p ∷ ps) rest h = got_none s p (got_all (s + 1) ps rest) h.0 ∙ all_none (s + 1) ps rest h.1

computed_none : (o : Operation) (ps qs : List Place) (rest : Code Place) → ((ps' qs' : List Place) → move_weight o ps' qs' ≡ 0) → AreRegisters ps → AreRegisters qs → slot_moves (computed o ps qs rest) ≡ slot_moves rest
computed_none o ps [] rest k h g =
    let p = in_registers FIRST_SCRATCH_REGISTER ps in
    omega (arith, ap slot_moves (all_none FIRST_SCRATCH_REGISTER ps (Sequence (Plain o p []) rest) h), k p [])
computed_none o ps (q ∷ qs) rest k h g =
    let p = in_registers FIRST_SCRATCH_REGISTER ps in
    let r = in_register FIRST_SCRATCH_REGISTER q ∷ [] in
    omega (arith, ap slot_moves (all_none FIRST_SCRATCH_REGISTER ps (Sequence (Plain o p r) (put_back FIRST_SCRATCH_REGISTER q rest)) h), k p r, ap slot_moves (put_none FIRST_SCRATCH_REGISTER q rest g.0))

copied_none : (ps qs : List Place) (rest : Code Place) → AreRegisters ps → AreRegisters qs → slot_moves (copied ps qs rest) ≡ slot_moves rest
copied_none [] qs rest h g = omega (arith, no_slots qs g)
copied_none (Register r ∷ ps) qs rest h g = omega (arith, no_slots (ps ++ qs) (both_registers ps qs h.1 g))
copied_none (Slot i ∷ ps) qs rest h g = absurd h.0

module _ (cell : ℕ → Place) (n : ℕ) (all : (x : ℕ) → IsVariable n x → IsInRegister (cell x)) where
  in_cells : (xs : List ℕ) → AllByRecursion (IsVariable n) xs → AreRegisters (map cell xs)
  in_cells [] h = tt
  in_cells (x ∷ xs) h = (all x h.0, in_cells xs h.1)

  plain_none : (o : Operation) (xs ys : List ℕ) (rest : Code Place) → AreRegisters (map cell xs) → AreRegisters (map cell ys) → slot_moves (spill_plain o (map cell xs) (map cell ys) rest) ≡ slot_moves rest
  plain_none (Constant v) xs ys rest h g = computed_none (Constant v) (map cell xs) (map cell ys) rest (λ ps qs. refl) h g
  plain_none Copy xs ys rest h g = copied_none (map cell xs) (map cell ys) rest h g
  plain_none (Compute op) xs ys rest h g = computed_none (Compute op) (map cell xs) (map cell ys) rest (λ ps qs. refl) h g
  plain_none (Load k) xs ys rest h g = computed_none (Load k) (map cell xs) (map cell ys) rest (λ ps qs. refl) h g
  plain_none (Store k) xs ys rest h g =
      let p = in_registers FIRST_SCRATCH_REGISTER (map cell xs) in
      omega (arith, ap slot_moves (all_none FIRST_SCRATCH_REGISTER (map cell xs) (Sequence (Plain (Store k) p []) rest) h))
  plain_none Forget xs ys rest h g = refl
  plain_none (Call f) xs ys rest h g = omega arith
  plain_none (Access k) xs ys rest h g = omega arith

  no_moves : (c : Code ℕ) (rest : Code Place) → NamesBelow n c → slot_moves (spill cell c rest) ≡ slot_moves rest
  no_moves (Plain o xs ys) rest h = plain_none o xs ys rest (in_cells xs h.0) (in_cells ys h.1)
  no_moves (Reserve m y b) rest h = omega (arith, ap slot_moves (put_none FIRST_SCRATCH_REGISTER (cell y) (spill cell b Nothing) (all y h.0)), no_moves b Nothing h.1)
  no_moves (Branch x b d) rest h =
      let q = in_register FIRST_SCRATCH_REGISTER (cell x) in
      omega (
        arith,
        ap slot_moves (got_none FIRST_SCRATCH_REGISTER (cell x) (Sequence (Branch q (spill cell b Nothing) (spill cell d Nothing)) rest) (all x h.0)),
        no_moves b Nothing h.1,
        no_moves d Nothing h.2,
      )
  no_moves (Loop b x d) rest h =
      omega (
        arith,
        no_moves b (got FIRST_SCRATCH_REGISTER (cell x) Nothing) h.0,
        ap slot_moves (got_none FIRST_SCRATCH_REGISTER (cell x) Nothing (all x h.1)),
        no_moves d Nothing h.2,
      )
  no_moves Nothing rest h = refl
  no_moves (Sequence c d) rest h = no_moves c (spill cell d rest) h.0 ∙ no_moves d rest h.1

-- ---- words

one_place : (near : Bool) (p : Place) → place_words near p ≤ slot_words near
one_place true (Register r) = omega arith
one_place false (Register r) = omega arith
one_place near (Slot i) = omega arith

-- the factor of a function's words
abbrev factor : Bool → ℕ
factor near = if near then 1 else 2

places_below : (near : Bool) (ps : List Place) → places_words near ps ≤ factor near * (4 * length ps)
places_below near [] = omega arith
places_below true (p ∷ ps) = omega (arith, one_place true p, places_below true ps, sum_by-cons (λ n. n) (place_words true p) (map (place_words true) ps))
places_below false (p ∷ ps) = omega (arith, one_place false p, places_below false ps, sum_by-cons (λ n. n) (place_words false p) (map (place_words false) ps))

greatest_below : (near : Bool) (ps : List Place) → greatest (map (place_words near) ps) ≤ slot_words near
greatest_below near [] = omega arith
greatest_below near (p ∷ ps) = omega (arith, one_place near p, greatest_below near ps)

got_words : (near : Bool) (s : ℕ) (p : Place) (rest : Code Place) → placed_words near (got s p rest) ≤ slot_words near + placed_words near rest
got_words near s (Register r) rest = omega arith
got_words near s (Slot i) rest = omega (arith, greatest_below near (Slot i ∷ Register s ∷ []))

put_words : (near : Bool) (s : ℕ) (p : Place) (rest : Code Place) → placed_words near (put_back s p rest) ≤ slot_words near + placed_words near rest
put_words near s (Register r) rest = omega arith
put_words near s (Slot i) rest = omega (arith, greatest_below near (Register s ∷ Slot i ∷ []))

all_words : (near : Bool) (s : ℕ) (ps : List Place) (rest : Code Place) → placed_words near (got_all s ps rest) ≤ slot_words near * length ps + placed_words near rest
all_words near s [] rest = omega arith
all_words true s (p ∷ ps) rest = omega (arith, got_words true s p (got_all (s + 1) ps rest), all_words true (s + 1) ps rest)
all_words false s (p ∷ ps) rest = omega (arith, got_words false s p (got_all (s + 1) ps rest), all_words false (s + 1) ps rest)

computed_words : (near : Bool) (o : Operation) (ps qs : List Place) (rest : Code Place) (m : ℕ) → ((ps' qs' : List Place) → placed_plain_words near o ps' qs' ≤ m)
    → placed_words near (computed o ps qs rest) ≤ slot_words near * length ps + m + slot_words near + placed_words near rest
computed_words near o ps [] rest m h =
    let p = in_registers FIRST_SCRATCH_REGISTER ps in
    omega (arith, all_words near FIRST_SCRATCH_REGISTER ps (Sequence (Plain o p []) rest), h p [])
computed_words near o ps (q ∷ qs) rest m h =
    let p = in_registers FIRST_SCRATCH_REGISTER ps in
    let r = in_register FIRST_SCRATCH_REGISTER q ∷ [] in
    omega (arith, all_words near FIRST_SCRATCH_REGISTER ps (Sequence (Plain o p r) (put_back FIRST_SCRATCH_REGISTER q rest)), h p r, put_words near FIRST_SCRATCH_REGISTER q rest)

copied_words : (near : Bool) (ps qs : List Place) (rest : Code Place) → placed_words near (copied ps qs rest) ≤ slot_words near + slot_words near + placed_words near rest
copied_words near [] qs rest = omega (arith, greatest_below near ([] ++ qs))
copied_words near (Register r ∷ ps) qs rest = omega (arith, greatest_below near ((Register r ∷ ps) ++ qs))
copied_words near (Slot i ∷ ps) [] rest = omega (arith, greatest_below near ((Slot i ∷ ps) ++ []))
copied_words near (Slot i ∷ ps) (Register r ∷ qs) rest = omega (arith, greatest_below near ((Slot i ∷ ps) ++ (Register r ∷ qs)))
copied_words near (Slot i ∷ ps) (Slot j ∷ qs) rest =
    omega (arith, got_words near FIRST_SCRATCH_REGISTER (Slot i) (put_back FIRST_SCRATCH_REGISTER (Slot j) rest), put_words near FIRST_SCRATCH_REGISTER (Slot j) rest)

two_words : (op : Op) → operation_words op ≤ 2
two_words Add = omega arith
two_words Sub = omega arith
two_words Mul = omega arith
two_words Mulhuu = omega arith
two_words Divu = omega arith
two_words Remu = omega arith
two_words And = omega arith
two_words Or = omega arith
two_words Xor = omega arith
two_words Sru = omega arith
two_words Slu = omega arith
two_words Srs = omega arith
two_words Lts = omega arith
two_words Ltu = omega arith
two_words Eq = omega arith

module _ (cell : ℕ → Place) (fs : List (Routine ℕ)) where
  plain_below : (near : Bool) (o : Operation) (xs ys : List ℕ) (rest : Code Place) → HasParts fs o (length xs) (length ys)
      → placed_words near (spill_plain o (map cell xs) (map cell ys) rest) ≤ factor near * plain_words o xs ys + placed_words near rest
  plain_below true (Constant v) xs ys rest h = omega (arith, h.1, length-map xs cell, computed_words true (Constant v) (map cell xs) (map cell ys) rest 2 (λ ps qs. omega arith))
  plain_below false (Constant v) xs ys rest h = omega (arith, h.1, length-map xs cell, computed_words false (Constant v) (map cell xs) (map cell ys) rest 2 (λ ps qs. omega arith))
  plain_below true Copy xs ys rest h = omega (arith, copied_words true (map cell xs) (map cell ys) rest)
  plain_below false Copy xs ys rest h = omega (arith, copied_words false (map cell xs) (map cell ys) rest)
  plain_below true (Compute op) xs ys rest h = omega (arith, h.0, length-map xs cell, computed_words true (Compute op) (map cell xs) (map cell ys) rest 2 (λ ps qs. two_words op))
  plain_below false (Compute op) xs ys rest h = omega (arith, h.0, length-map xs cell, computed_words false (Compute op) (map cell xs) (map cell ys) rest 2 (λ ps qs. two_words op))
  plain_below true (Load k) xs ys rest h = omega (arith, h.0, length-map xs cell, computed_words true (Load k) (map cell xs) (map cell ys) rest 1 (λ ps qs. omega arith))
  plain_below false (Load k) xs ys rest h = omega (arith, h.0, length-map xs cell, computed_words false (Load k) (map cell xs) (map cell ys) rest 1 (λ ps qs. omega arith))
  plain_below true (Store k) xs ys rest h =
      let p = in_registers FIRST_SCRATCH_REGISTER (map cell xs) in
      omega (arith, h.0, length-map xs cell, all_words true FIRST_SCRATCH_REGISTER (map cell xs) (Sequence (Plain (Store k) p []) rest))
  plain_below false (Store k) xs ys rest h =
      let p = in_registers FIRST_SCRATCH_REGISTER (map cell xs) in
      omega (arith, h.0, length-map xs cell, all_words false FIRST_SCRATCH_REGISTER (map cell xs) (Sequence (Plain (Store k) p []) rest))
  plain_below true Forget xs ys rest h = omega arith
  plain_below false Forget xs ys rest h = omega arith
  plain_below true (Call f) xs ys rest h = omega (arith, places_below true (map cell xs), places_below true (map cell ys), length-map xs cell, length-map ys cell)
  plain_below false (Call f) xs ys rest h = omega (arith, places_below false (map cell xs), places_below false (map cell ys), length-map xs cell, length-map ys cell)
  plain_below true (Access k) xs ys rest h = omega (arith, places_below true (map cell xs), places_below true (map cell ys), length-map xs cell, length-map ys cell)
  plain_below false (Access k) xs ys rest h = omega (arith, places_below false (map cell xs), places_below false (map cell ys), length-map xs cell, length-map ys cell)

  reserve_below : (near : Bool) (m y : ℕ) (b : Code ℕ) (rest : Code Place) → placed_words near (spill cell b Nothing) ≤ factor near * flat_words b + 0
      → placed_words near (spill cell (Reserve m y b) rest) ≤ factor near * flat_words (Reserve m y b) + placed_words near rest
  reserve_below true m y b rest h = omega (arith, h, put_words true FIRST_SCRATCH_REGISTER (cell y) (spill cell b Nothing))
  reserve_below false m y b rest h = omega (arith, h, put_words false FIRST_SCRATCH_REGISTER (cell y) (spill cell b Nothing))

  branch_below : (near : Bool) (x : ℕ) (b d : Code ℕ) (rest : Code Place) → placed_words near (spill cell b Nothing) ≤ factor near * flat_words b + 0 → placed_words near (spill cell d Nothing) ≤ factor near * flat_words d + 0
      → placed_words near (spill cell (Branch x b d) rest) ≤ factor near * flat_words (Branch x b d) + placed_words near rest
  branch_below true x b d rest h k = omega (arith, h, k, got_words true FIRST_SCRATCH_REGISTER (cell x) (Sequence (Branch (in_register FIRST_SCRATCH_REGISTER (cell x)) (spill cell b Nothing) (spill cell d Nothing)) rest))
  branch_below false x b d rest h k = omega (arith, h, k, got_words false FIRST_SCRATCH_REGISTER (cell x) (Sequence (Branch (in_register FIRST_SCRATCH_REGISTER (cell x)) (spill cell b Nothing) (spill cell d Nothing)) rest))

  loop_below : (near : Bool) (x : ℕ) (b d : Code ℕ) (rest : Code Place)
      → placed_words near (spill cell b (got FIRST_SCRATCH_REGISTER (cell x) Nothing)) ≤ factor near * flat_words b + placed_words near (got FIRST_SCRATCH_REGISTER (cell x) Nothing)
      → placed_words near (spill cell d Nothing) ≤ factor near * flat_words d + 0
      → placed_words near (spill cell (Loop b x d) rest) ≤ factor near * flat_words (Loop b x d) + placed_words near rest
  loop_below true x b d rest h k = omega (arith, h, k, got_words true FIRST_SCRATCH_REGISTER (cell x) Nothing)
  loop_below false x b d rest h k = omega (arith, h, k, got_words false FIRST_SCRATCH_REGISTER (cell x) Nothing)

  sequence_below : (near : Bool) (c d : Code ℕ) (rest : Code Place) → placed_words near (spill cell c (spill cell d rest)) ≤ factor near * flat_words c + placed_words near (spill cell d rest)
      → placed_words near (spill cell d rest) ≤ factor near * flat_words d + placed_words near rest
      → placed_words near (spill cell (Sequence c d) rest) ≤ factor near * flat_words (Sequence c d) + placed_words near rest
  sequence_below true c d rest h k = omega (arith, h, k)
  sequence_below false c d rest h k = omega (arith, h, k)

  words_below : (near : Bool) (c : Code ℕ) (rest : Code Place) → HasShapes fs c → placed_words near (spill cell c rest) ≤ factor near * flat_words c + placed_words near rest
  words_below near (Plain o xs ys) rest h = plain_below near o xs ys rest h
  words_below near (Reserve m y b) rest h = reserve_below near m y b rest (words_below near b Nothing h.1)
  words_below near (Branch x b d) rest h = branch_below near x b d rest (words_below near b Nothing h.1) (words_below near d Nothing h.2)
  words_below near (Loop b x d) rest h = loop_below near x b d rest (words_below near b (got FIRST_SCRATCH_REGISTER (cell x) Nothing) h.0) (words_below near d Nothing h.2)
  words_below near Nothing rest h = omega arith
  words_below near (Sequence c d) rest h = sequence_below near c d rest (words_below near c (spill cell d rest) h.0) (words_below near d rest h.1)

-- ---- slots

pub slots_below : (n : ℕ) (ps : List Place) → AllByRecursion (MayHold n) ps → slots_of ps ≤ n
slots_below n [] h = omega arith
slots_below n (Register r ∷ ps) h = slots_below n ps h.1
slots_below n (Slot i ∷ ps) h = omega (arith, h.0, slots_below n ps h.1)

-- ---- one function

routine_asks : (fs : List (Routine ℕ)) (f : Routine ℕ) (places : List Place) → KeepsRoutineRules IsVariable fs f → AreAccepted f places → AsksNoMore f (spilled f places)
routine_asks fs f places keeps accepted = record {
  slots = slots;
  params = length-map f.params cell;
  results = length-map f.results cell;
  blocks = blocks;
  calls = routine_callees f places;
  loads = block_total load_weight load_weight loads_kept cell f.body;
  stores = block_total store_weight store_weight stores_kept cell f.body;
  accesses = block_total access_weight access_weight accesses_kept cell f.body;
  arguments = block_total argument_weight argument_weight arguments_kept cell f.body;
  targets = block_total target_weight target_weight targets_kept cell f.body;
  frame = frame;
  words = by_frames (is_near g) (is_near f) refl refl;
}
  where
    cell : ℕ → Place
    cell = place_of places

    g : Routine Place
    g = spilled f places

    slots : g.variables ≤ f.variables
    slots = slots_below f.variables places (by_elements (MayHold f.variables) places accepted.good)

    blocks : sites g.body ≡ sites f.body
    blocks = block_sites cell f.body

    frame : frame_need g ≤ frame_need f
    frame = omega (arith, slots, ap sum blocks)

    body : (near : Bool) → placed_words near g.body ≤ factor near * flat_words f.body + 0
    body near = words_below cell fs near f.body Nothing keeps.shapes

    by_frames : (p q : Bool) → is_near g ≡ p → is_near f ≡ q
        → 7 + 2 * MOST_SAVED + (places_words p g.params + places_words p g.results) + placed_words p g.body ≤ (if q then 1 else 2) * (80 + 4 * length f.params + 4 * length f.results + flat_words f.body)
    by_frames true true ep eq = omega (arith, places_below true g.params, places_below true g.results, body true, length-map f.params cell, length-map f.results cell)
    by_frames true false ep eq = omega (arith, places_below true g.params, places_below true g.results, body true, length-map f.params cell, length-map f.results cell)
    by_frames false false ep eq = omega (arith, places_below false g.params, places_below false g.results, body false, length-map f.params cell, length-map f.results cell)
    by_frames false true ep eq =
        let near : is_near g ≡ true = le-leb (frame_need g) NEAR_FRAME (omega (arith, frame, leb-true (frame_need f) NEAR_FRAME eq)) in
        let no : true ≡ false = sym near ∙ ep in
        absurd (cc)

no_slots_left : (ps : List Place) → AreRegisters ps → slots_of ps ≡ 0
no_slots_left [] h = refl
no_slots_left (Register r ∷ ps) h = no_slots_left ps h.1
no_slots_left (Slot i ∷ ps) h = absurd h.0

registers_at : (ps : List Place) → AreRegisters ps → (x : ℕ) → IsVariable (length ps) x → IsInRegister (place_of ps x)
registers_at [] h x lt = absurd (omega (arith, lt))
registers_at (p ∷ ps) h zero lt = h.0
registers_at (p ∷ ps) h (suc x) lt = registers_at ps h.1 x (omega (arith, lt))

routine_uses_few : (f : Routine ℕ) (places : List Place) → NamesOwn f → AreAccepted f places → UsesFewSlots places (spilled f places)
routine_uses_few f places own accepted = record {
  fewest = λ n all. slots_below n places (by_elements (MayHold n) places all);
  no_slots = λ all. no_slots_left places (by_elements IsInRegister places all);
  no_moves = λ all.
      let at = registers_at places (by_elements IsInRegister places all) in
      no_moves (place_of places) f.variables (λ x lt. at x (omega (arith, lt, accepted.each))) f.body Nothing own.body;
}

-- ---- programs

pub all_ask_no_more : (fs hs : List (Routine ℕ)) (lists : List (List Place)) → AllByRecursion (KeepsRoutineRules IsVariable fs) hs → AreAllAccepted hs lists → AllAskNoMore hs (all_spilled hs lists)
all_ask_no_more fs [] [] keeps h = tt
all_ask_no_more fs [] (l ∷ ls) keeps h = absurd h
all_ask_no_more fs (f ∷ hs) [] keeps h = absurd h
all_ask_no_more fs (f ∷ hs) (l ∷ ls) keeps h = (routine_asks fs f l keeps.0 h.0, all_ask_no_more fs hs ls keeps.1 h.1)

pub all_use_few_slots : (hs : List (Routine ℕ)) (lists : List (List Place)) → AllByRecursion NamesOwn hs → AreAllAccepted hs lists → AllUseFewSlots lists (all_spilled hs lists)
all_use_few_slots [] [] own h = tt
all_use_few_slots [] (l ∷ ls) own h = absurd h
all_use_few_slots (f ∷ hs) [] own h = absurd h
all_use_few_slots (f ∷ hs) (l ∷ ls) own h = (routine_uses_few f l own.0 h.0, all_use_few_slots hs ls own.1 h.1)

accesses_below : (hs : List (Routine ℕ)) (lists : List (List Place)) (gs : List (Routine Place)) → AllAskNoMore hs gs → AllUseFewSlots lists gs → AllByRecursion (All IsInRegister) lists
    → sum (map (routine_memory_words placed_memory_words) gs) ≤ sum (map (routine_memory_words memory_words) hs)
accesses_below [] lists [] asks few all = omega arith
accesses_below [] lists (g ∷ gs) asks few all = absurd asks
accesses_below (f ∷ hs) lists [] asks few all = absurd asks
accesses_below (f ∷ hs) [] (g ∷ gs) asks few all = absurd few
accesses_below (f ∷ hs) (l ∷ ls) (g ∷ gs) asks few all =
    let k = asks.0 in
    omega (
      arith,
      k.params,
      k.results,
      k.loads,
      k.stores,
      k.accesses,
      k.arguments,
      k.targets,
      few.0.no_moves all.0,
      accesses_below hs ls gs asks.1 few.1 all.1,
      sum_by-cons (λ n. n) (routine_memory_words placed_memory_words g) (map (routine_memory_words placed_memory_words) gs),
      sum_by-cons (λ n. n) (routine_memory_words memory_words f) (map (routine_memory_words memory_words) hs),
    )

pub is_lean_in_registers : (hs : List (Routine ℕ)) (lists : List (List Place)) (gs : List (Routine Place)) → AllAskNoMore hs gs → AllUseFewSlots lists gs → IsLeanInRegisters lists hs gs
is_lean_in_registers hs lists gs asks few all = omega (arith, accesses_below hs lists gs asks few (by_elements (All IsInRegister) lists all))
