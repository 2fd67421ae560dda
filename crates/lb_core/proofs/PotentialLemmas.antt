-- Each step raises the potential, which is bounded, and the queues keep their capacities.
use Rattle.std.proofs.Common.{◌≡◌, ◌≤◌, ◌<◌, ℕ, ◌+◌, ◌*◌, Bool, true, false, not, ◌||◌, List, [], ◌∷◌, ◌++◌, map, length, Option, Some, None, is_none, refl, sym, ap, ◌∙◌, arith}
use Rattle.std.proofs.lemmas.List.{append_assoc, length-append}
use Rattle.std.proofs.lemmas.Bool.{and_parts, ltb-true}
use Rattle.lb_trace.specs.declared.Kind.TheVariants.{Fetch, Decode, Execute, Ram, Mmio, Writeback, Boot, Shift, Arrive}
use Rattle.lb_rv.specs.declared.instr.Cause.{Cause}
use Rattle.lb_outcome.specs.declared.types.Outcome.{Outcome}
use Rattle.lb_outcome.specs.declared.types.Outcome.TheVariants.{Plain, Load, Store, Halt}
use Rattle.lb_outcome.specs.declared.types.Executed.{Executed}
use Rattle.lb_outcome.specs.Fetching.{instruction_in}
use Rattle.lb_front.specs.declared.item.FetchItem.{FetchItem}
use Rattle.lb_front.specs.Prediction.{fetched_item}
use Rattle.lb_exec.specs.declared.item.DecodeItem.{DecodeItem}
use Rattle.lb_exec.specs.Execution.{execution}
use Rattle.lb_core.specs.State.{CoreState, has_room}
use Rattle.lb_core.specs.Scoreboard.{pending, uses_none}
use Rattle.lb_core.specs.Rows.{after_decode, after_device, after_end, after_execute, after_fetch, after_item, after_prediction, after_ram, can_decode, can_end, can_execute, count_done, decoded_item, device_demand, guard, is_front_served, is_mispredicted, same_epoch, waits_for_ram}
use Rattle.lb_core.specs.Stands.{fetched_part, waiting}
use Rattle.lb_core.specs.Potential.{Fits, credit, current_items, debt, one_if, one_if_some}
use Rattle.lb_core.specs.Laws.{BootedFits, PotentialIsBounded, PotentialRises, RowsFit}
use Rattle.lb_core.proofs.Tools.{is_none_None}
use Rattle.lb_core.proofs.EpochLemmas.{same_same, waiting_decoded}

length_waiting : (ds : List DecodeItem) (its : List FetchItem) → length (map fetched_part ds ++ its) ≡ length ds + length its
length_waiting [] its = omega arith
length_waiting (d ∷ ds) its = let h = length_waiting ds its in omega (arith, h)

one_at_most : (b : Bool) → one_if b ≤ 1
one_at_most true = omega arith
one_at_most false = omega arith

some_at_most : (o : Option Cause) → one_if_some o ≤ 1
some_at_most None = omega arith
some_at_most (Some cause) = omega arith

current_snoc : (e : Bool) (its : List FetchItem) (it : FetchItem) → same_epoch it.epoch e ≡ true
    → current_items e (its ++ it ∷ []) ≡ current_items e its + 1
current_snoc e [] it h = ap (λ b. one_if b + 0) h
current_snoc e (x ∷ its) it h = let r = current_snoc e its it h in omega (arith, r)

current_most : (e : Bool) (its : List FetchItem) → current_items e its ≤ length its
current_most e [] = omega arith
current_most e (x ∷ its) = let r = current_most e its in let o = one_at_most (same_epoch x.epoch e) in omega (arith, r, o)

room : {A : Type 0} (l : List A) → has_room l ≡ true → length l < 2
room l h = ltb-true (length l) 2 h

-- the board's kinds aren't enabled
not_the_cores : (c : CoreState) {A : Type 0} → (is_none c.halted ≡ true) × (false ≡ true) → A
not_the_cores c on = absurd (cc on.1)

-- ---- each row raises the potential

fetch_rises : (c : CoreState) → credit c + debt (after_fetch c) + 1 ≤ credit (after_fetch c) + debt c
fetch_rises c =
    let it = fetched_item c.front c.code in
    let a : current_items c.front.epoch (waiting (after_fetch c)) ≡ current_items c.front.epoch (waiting c) + 1 =
    ap (current_items c.front.epoch) (sym (append_assoc (map fetched_part c.decoded) c.fetched (it ∷ [])))
    ∙ current_snoc c.front.epoch (waiting c) it (same_same c.front.epoch) in
    let l = length-append c.fetched (it ∷ []) in omega (arith, a, l)

decode_rises : (c : CoreState) (f : List FetchItem) → can_decode f c ≡ true
    → credit (record c { fetched = f }) + debt (after_decode f (record c { fetched = f })) + 1
    ≤ credit (after_decode f (record c { fetched = f })) + debt (record c { fetched = f })
decode_rises c [] g = absurd (cc g)
decode_rises c (it ∷ its) g =
    let new = decoded_item it c.registers in
    let a : current_items c.front.epoch (map fetched_part (c.decoded ++ new ∷ []) ++ its)
    ≡ current_items c.front.epoch (map fetched_part c.decoded ++ it ∷ its) =
    ap (current_items c.front.epoch) (sym (waiting_decoded c.decoded it its c.registers)) in
    let l = length-append c.decoded (new ∷ []) in omega (arith, a, l)

front_rises : (os : List Outcome) (o : Outcome) → one_if (is_front_served os) ≤ one_if (is_front_served (os ++ o ∷ []))
front_rises [] o = omega arith
front_rises (Plain rd v ∷ os) o = omega arith
front_rises (Load i a mmio None ∷ os) o = omega arith
front_rises (Load i a mmio (Some v) ∷ os) o = omega arith
front_rises (Store i a v mmio served ∷ os) o = omega arith
front_rises (Halt cause ∷ os) o = omega arith

module _ (c : CoreState) (d : DecodeItem) (ds : List DecodeItem) (x : Executed) where
  prediction_rises : (b : Bool) → length (d ∷ ds) ≤ 2 → length c.fetched ≤ 2
      → credit (record c { decoded = d ∷ ds }) + debt (after_prediction b x d (record c { decoded = ds; outcomes = c.outcomes ++ x.outcome ∷ [] })) + 1
      ≤ credit (after_prediction b x d (record c { decoded = ds; outcomes = c.outcomes ++ x.outcome ∷ [] })) + debt (record c { decoded = d ∷ ds })
  prediction_rises true f g =
      let l = length-append c.outcomes (x.outcome ∷ []) in
      let w = length_waiting ds c.fetched in
      let m = current_most c.front.epoch (map fetched_part ds ++ c.fetched) in
      let o = one_at_most (same_epoch d.epoch c.front.epoch) in
      let s = front_rises c.outcomes x.outcome in omega (arith, l, w, m, o, s, f, g)
  prediction_rises false f g =
      let l = length-append c.outcomes (x.outcome ∷ []) in
      let o = one_at_most (same_epoch d.epoch c.front.epoch) in
      let s = front_rises c.outcomes x.outcome in omega (arith, l, o, s, f, g)

  item_rises : (b : Bool) → same_epoch d.epoch c.front.epoch ≡ b → length (d ∷ ds) ≤ 2 → length c.fetched ≤ 2
      → credit (record c { decoded = d ∷ ds }) + debt (after_item b x d (record c { decoded = ds })) + 1
      ≤ credit (after_item b x d (record c { decoded = ds })) + debt (record c { decoded = d ∷ ds })
  item_rises true h f g = prediction_rises (is_mispredicted x d) f g
  item_rises false h f g = let z = ap one_if h in omega (arith, z)

execute_rises : (c : CoreState) (l : List DecodeItem) → can_execute l c ≡ true → length l ≤ 2 → length c.fetched ≤ 2
    → credit (record c { decoded = l }) + debt (after_execute l (record c { decoded = l })) + 1
    ≤ credit (after_execute l (record c { decoded = l })) + debt (record c { decoded = l })
execute_rises c [] e f g = absurd (cc e)
execute_rises c (d ∷ ds) e f g = item_rises c d ds (execution d (4 * length c.code)) (same_epoch d.epoch c.front.epoch) refl f g

ram_rises : (c : CoreState) (l : List Outcome) → waits_for_ram l ≡ true
    → credit (record c { outcomes = l }) + debt (after_ram l (record c { outcomes = l })) + 1
    ≤ credit (after_ram l (record c { outcomes = l })) + debt (record c { outcomes = l })
ram_rises c (Load i a false None ∷ os) g = omega arith
ram_rises c (Store i a v false false ∷ os) g = omega arith
ram_rises c [] g = absurd (cc g)
ram_rises c (Plain rd v ∷ os) g = absurd (cc g)
ram_rises c (Load i a true served ∷ os) g = absurd (cc g)
ram_rises c (Load i a false (Some v) ∷ os) g = absurd (cc g)
ram_rises c (Store i a v true served ∷ os) g = absurd (cc g)
ram_rises c (Store i a v false true ∷ os) g = absurd (cc g)
ram_rises c (Halt cause ∷ os) g = absurd (cc g)

device_rises : (c : CoreState) (l : List Outcome) (reply : ℕ) → not (is_none (device_demand l)) ≡ true
    → credit (record c { outcomes = l }) + debt (after_device l reply (record c { outcomes = l })) + 2
    ≤ credit (after_device l reply (record c { outcomes = l })) + debt (record c { outcomes = l })
device_rises c (Load i a true None ∷ os) reply g = omega arith
device_rises c (Store i a v true false ∷ os) reply g = omega arith
device_rises c [] reply g = absurd (cc g)
device_rises c (Plain rd v ∷ os) reply g = absurd (cc g)
device_rises c (Load i a false served ∷ os) reply g = absurd (cc g)
device_rises c (Load i a true (Some v) ∷ os) reply g = absurd (cc g)
device_rises c (Store i a v false served ∷ os) reply g = absurd (cc g)
device_rises c (Store i a v true true ∷ os) reply g = absurd (cc g)
device_rises c (Halt cause ∷ os) reply g = absurd (cc g)

end_rises : (c : CoreState) (l : List Outcome) → c.halted ≡ None → can_end l ≡ true
    → credit (record c { outcomes = l }) + debt (after_end l (record c { outcomes = l })) + 1
    ≤ credit (after_end l (record c { outcomes = l })) + debt (record c { outcomes = l })
end_rises c [] n g = absurd (cc g)
end_rises c (Plain rd v ∷ os) n g = omega arith
end_rises c (Load i a mmio None ∷ os) n g = absurd (cc g)
end_rises c (Load i a mmio (Some v) ∷ os) n g = omega arith
end_rises c (Store i a v mmio false ∷ os) n g = absurd (cc g)
end_rises c (Store i a v mmio true ∷ os) n g = omega arith
end_rises c (Halt cause ∷ os) n g = let z = ap one_if_some n in omega (arith, z)

pub potential_rises : PotentialRises
potential_rises c Fetch reply f on = fetch_rises c
potential_rises c Decode reply f on = decode_rises c c.fetched (and_parts (is_none c.halted) (guard c Decode) on).1
potential_rises c Execute reply f on = execute_rises c c.decoded (and_parts (is_none c.halted) (guard c Execute) on).1 f.decoded f.fetched
potential_rises c Ram reply f on = ram_rises c c.outcomes (and_parts (is_none c.halted) (guard c Ram) on).1
potential_rises c Mmio reply f on = device_rises c c.outcomes reply (and_parts (is_none c.halted) (guard c Mmio) on).1
potential_rises c Writeback reply f on =
    let both = and_parts (is_none c.halted) (guard c Writeback) on in end_rises c c.outcomes (is_none_None c.halted both.0) both.1
potential_rises c Boot reply f on = not_the_cores c (and_parts (is_none c.halted) false on)
potential_rises c Shift reply f on = not_the_cores c (and_parts (is_none c.halted) false on)
potential_rises c Arrive reply f on = not_the_cores c (and_parts (is_none c.halted) false on)

-- ---- the queues keep their capacities

pub booted_fits : BootedFits
booted_fits code entry = record { fetched = omega arith; decoded = omega arith; outcomes = omega arith }

decode_fits : (c : CoreState) (f : List FetchItem) → can_decode f c ≡ true → Fits (record c { fetched = f })
    → Fits (after_decode f (record c { fetched = f }))
decode_fits c [] g f = f
decode_fits c (it ∷ its) g f =
    let l = length-append c.decoded (decoded_item it c.registers ∷ []) in
    let r = room c.decoded (and_parts (has_room c.decoded) (uses_none (instruction_in it.word) (pending c)) g).0 in
    let n = f.fetched in record { fetched = omega (arith, n); decoded = omega (arith, l, r); outcomes = f.outcomes }

prediction_fits : (b : Bool) (x : Executed) (d : DecodeItem) (c : CoreState) → Fits c → Fits (after_prediction b x d c)
prediction_fits true x d c f = record { fetched = f.fetched; decoded = f.decoded; outcomes = f.outcomes }
prediction_fits false x d c f = f

item_fits : (b : Bool) (x : Executed) (d : DecodeItem) (c : CoreState) → (not b || has_room c.outcomes) ≡ true → Fits c → Fits (after_item b x d c)
item_fits true x d c g f =
    let l = length-append c.outcomes (x.outcome ∷ []) in
    let r = room c.outcomes g in
    prediction_fits (is_mispredicted x d) x d (record c { outcomes = c.outcomes ++ x.outcome ∷ [] })
    (record { fetched = f.fetched; decoded = f.decoded; outcomes = omega (arith, l, r) })
item_fits false x d c g f = f

execute_fits : (c : CoreState) (l : List DecodeItem) → can_execute l c ≡ true → Fits (record c { decoded = l })
    → Fits (after_execute l (record c { decoded = l }))
execute_fits c [] g f = f
execute_fits c (d ∷ ds) g f =
    let n = f.decoded in
    item_fits (same_epoch d.epoch c.front.epoch) (execution d (4 * length c.code)) d (record c { decoded = ds }) g
    (record { fetched = f.fetched; decoded = omega (arith, n); outcomes = f.outcomes })

ram_fits : (c : CoreState) (l : List Outcome) → Fits (record c { outcomes = l }) → Fits (after_ram l (record c { outcomes = l }))
ram_fits c (Load i a false None ∷ os) f = record { fetched = f.fetched; decoded = f.decoded; outcomes = f.outcomes }
ram_fits c (Store i a v false false ∷ os) f = record { fetched = f.fetched; decoded = f.decoded; outcomes = f.outcomes }
ram_fits c l f = f

device_fits : (c : CoreState) (l : List Outcome) (reply : ℕ) → Fits (record c { outcomes = l }) → Fits (after_device l reply (record c { outcomes = l }))
device_fits c (Load i a true None ∷ os) reply f = record { fetched = f.fetched; decoded = f.decoded; outcomes = f.outcomes }
device_fits c (Store i a v true false ∷ os) reply f = record { fetched = f.fetched; decoded = f.decoded; outcomes = f.outcomes }
device_fits c l reply f = f

end_fits : (c : CoreState) (l : List Outcome) → Fits (record c { outcomes = l }) → Fits (after_end l (record c { outcomes = l }))
end_fits c [] f = f
end_fits c (Plain rd v ∷ os) f = let n = f.outcomes in record { fetched = f.fetched; decoded = f.decoded; outcomes = omega (arith, n) }
end_fits c (Load i a mmio None ∷ os) f = f
end_fits c (Load i a mmio (Some v) ∷ os) f = let n = f.outcomes in record { fetched = f.fetched; decoded = f.decoded; outcomes = omega (arith, n) }
end_fits c (Store i a v mmio false ∷ os) f = f
end_fits c (Store i a v mmio true ∷ os) f = let n = f.outcomes in record { fetched = f.fetched; decoded = f.decoded; outcomes = omega (arith, n) }
end_fits c (Halt cause ∷ os) f = record { fetched = f.fetched; decoded = f.decoded; outcomes = f.outcomes }

pub rows_fit : RowsFit
rows_fit c Fetch reply f on =
    let l = length-append c.fetched (fetched_item c.front c.code ∷ []) in
    let r = room c.fetched (and_parts (is_none c.halted) (guard c Fetch) on).1 in
    record { fetched = omega (arith, l, r); decoded = f.decoded; outcomes = f.outcomes }
rows_fit c Decode reply f on = decode_fits c c.fetched (and_parts (is_none c.halted) (guard c Decode) on).1 f
rows_fit c Execute reply f on = execute_fits c c.decoded (and_parts (is_none c.halted) (guard c Execute) on).1 f
rows_fit c Ram reply f on = ram_fits c c.outcomes f
rows_fit c Mmio reply f on = device_fits c c.outcomes reply f
rows_fit c Writeback reply f on = end_fits c c.outcomes f
rows_fit c Boot reply f on = f
rows_fit c Shift reply f on = f
rows_fit c Arrive reply f on = f

-- ---- the potential is bounded

bounded_by : (b : Bool) (c : CoreState) → Fits c
    → 15 * c.retired + 12 * length c.outcomes + 3 * current_items c.front.epoch (waiting c) + 2 * one_if b + one_if_some c.halted
    ≤ debt c + 15 * count_done b c.retired + 33
bounded_by true c f =
    let w = length_waiting c.decoded c.fetched in
    let m = current_most c.front.epoch (waiting c) in
    let h = some_at_most c.halted in
    let p = f.fetched in let q = f.decoded in let r = f.outcomes in omega (arith, w, m, h, p, q, r)
bounded_by false c f =
    let w = length_waiting c.decoded c.fetched in
    let m = current_most c.front.epoch (waiting c) in
    let h = some_at_most c.halted in
    let p = f.fetched in let q = f.decoded in let r = f.outcomes in omega (arith, w, m, h, p, q, r)

pub potential_is_bounded : PotentialIsBounded
potential_is_bounded c f = bounded_by (is_front_served c.outcomes) c f
