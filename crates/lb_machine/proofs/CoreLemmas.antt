-- How much one row of the core adds: to the instructions that are retired, and to what the queues hold.
use Rattle.std.proofs.Common.{◌≡◌, ◌≤◌, ℕ, ◌+◌, ◌*◌, Bool, true, false, List, [], ◌∷◌, ◌++◌, length, Option, Some, None, refl, arith}
use Rattle.lb_trace.specs.declared.Event.{Event}
use Rattle.lb_trace.specs.declared.Kind.{Kind}
use Rattle.lb_trace.specs.declared.Kind.TheVariants.{Fetch, Decode, Execute, Ram, Mmio, Writeback, Boot, Shift, Arrive}
use Rattle.lb_outcome.specs.declared.types.Outcome.{Outcome}
use Rattle.lb_outcome.specs.declared.types.Outcome.TheVariants.{Plain, Load, Store, Halt}
use Rattle.lb_outcome.specs.declared.types.Executed.{Executed}
use Rattle.lb_front.specs.declared.item.FetchItem.{FetchItem}
use Rattle.lb_front.specs.Prediction.{fetched_item}
use Rattle.lb_exec.specs.declared.item.DecodeItem.{DecodeItem}
use Rattle.lb_exec.specs.Execution.{execution}
use Rattle.lb_core.specs.State.{CoreState}
use Rattle.lb_core.specs.Rows.{after_decode, after_device, after_end, after_execute, after_fetch, after_item, after_prediction, after_ram, answered, decoded_item, device_demand, event_of, fired, is_mispredicted, same_epoch}
use Rattle.lb_core.specs.Stands.{with_event}

pub length_snoc : {A : Type 0} (xs : List A) (y : A) → length (xs ++ y ∷ []) ≡ length xs + 1
length_snoc [] y = refl
length_snoc (x ∷ xs) y = let h = length_snoc xs y in omega (arith, h)

abbrev pub count_event : Option Event → ℕ
count_event None = 0
count_event (Some event) = 1

pub length_with_event : (t : List Event) (e : Option Event) → length (with_event t e) ≡ length t + count_event e
length_with_event t None = omega arith
length_with_event t (Some event) = length_snoc t event

abbrev one_unserved : Outcome → ℕ
one_unserved (Plain rd v) = 0
one_unserved (Load i a mmio None) = 1
one_unserved (Load i a mmio (Some v)) = 0
one_unserved (Store i a v mmio false) = 1
one_unserved (Store i a v mmio true) = 0
one_unserved (Halt cause) = 0

unserved_most : (o : Outcome) → one_unserved o ≤ 1
unserved_most (Plain rd v) = omega arith
unserved_most (Load i a mmio None) = omega arith
unserved_most (Load i a mmio (Some v)) = omega arith
unserved_most (Store i a v mmio false) = omega arith
unserved_most (Store i a v mmio true) = omega arith
unserved_most (Halt cause) = omega arith

abbrev count_unserved : List Outcome → ℕ
count_unserved [] = 0
count_unserved (o ∷ os) = one_unserved o + count_unserved os

unserved_snoc : (os : List Outcome) (o : Outcome) → count_unserved (os ++ o ∷ []) ≤ count_unserved os + 1
unserved_snoc [] o = let h = unserved_most o in omega (arith, h)
unserved_snoc (x ∷ os) o = let h = unserved_snoc os o in omega (arith, h)

-- the steps that an access of a device must have had so far
abbrev pub weight : CoreState → ℕ
weight c = length c.fetched + 2 * length c.decoded + 3 * count_unserved c.outcomes

pub record Grows (c d : CoreState) (events : ℕ) : Type 0 where
  pub retired : d.retired ≤ c.retired + 1
  pub weight : 4 * events + weight d ≤ weight c + 1

fetch_grows : (c : CoreState) → Grows c (after_fetch c) 0
fetch_grows c = let l = length_snoc c.fetched (fetched_item c.front c.code) in record { retired = omega arith; weight = omega (arith, l) }

decode_grows : (c : CoreState) (l : List FetchItem) → Grows (record c { fetched = l }) (after_decode l (record c { fetched = l })) 0
decode_grows c [] = record { retired = omega arith; weight = omega arith }
decode_grows c (it ∷ its) =
    let l = length_snoc c.decoded (decoded_item it c.registers) in record { retired = omega arith; weight = omega (arith, l) }

prediction_grows : (b : Bool) (x : Executed) (d : DecodeItem) (ds : List DecodeItem) (c : CoreState)
    → Grows (record c { decoded = d ∷ ds }) (after_prediction b x d (record c { decoded = ds; outcomes = c.outcomes ++ x.outcome ∷ [] })) 0
prediction_grows true x d ds c = let u = unserved_snoc c.outcomes x.outcome in record { retired = omega arith; weight = omega (arith, u) }
prediction_grows false x d ds c = let u = unserved_snoc c.outcomes x.outcome in record { retired = omega arith; weight = omega (arith, u) }

item_grows : (b : Bool) (x : Executed) (d : DecodeItem) (ds : List DecodeItem) (c : CoreState)
    → Grows (record c { decoded = d ∷ ds }) (after_item b x d (record c { decoded = ds })) 0
item_grows true x d ds c = prediction_grows (is_mispredicted x d) x d ds c
item_grows false x d ds c = record { retired = omega arith; weight = omega arith }

execute_grows : (c : CoreState) (l : List DecodeItem) → Grows (record c { decoded = l }) (after_execute l (record c { decoded = l })) 0
execute_grows c [] = record { retired = omega arith; weight = omega arith }
execute_grows c (d ∷ ds) = item_grows (same_epoch d.epoch c.front.epoch) (execution d (4 * length c.code)) d ds c

ram_grows : (c : CoreState) (l : List Outcome) → Grows (record c { outcomes = l }) (after_ram l (record c { outcomes = l })) 0
ram_grows c (Load i a false None ∷ os) = record { retired = omega arith; weight = omega arith }
ram_grows c (Store i a v false false ∷ os) = record { retired = omega arith; weight = omega arith }
ram_grows c l = record { retired = omega arith; weight = omega arith }

device_grows : (c : CoreState) (l : List Outcome) (reply : ℕ)
    → Grows (record c { outcomes = l }) (after_device l reply (record c { outcomes = l })) (count_event (event_of (device_demand l) reply))
device_grows c (Load i a true None ∷ os) reply = record { retired = omega arith; weight = omega arith }
device_grows c (Store i a v true false ∷ os) reply = record { retired = omega arith; weight = omega arith }
device_grows c [] reply = record { retired = omega arith; weight = omega arith }
device_grows c (Plain rd v ∷ os) reply = record { retired = omega arith; weight = omega arith }
device_grows c (Load i a false served ∷ os) reply = record { retired = omega arith; weight = omega arith }
device_grows c (Load i a true (Some v) ∷ os) reply = record { retired = omega arith; weight = omega arith }
device_grows c (Store i a v false served ∷ os) reply = record { retired = omega arith; weight = omega arith }
device_grows c (Store i a v true true ∷ os) reply = record { retired = omega arith; weight = omega arith }
device_grows c (Halt cause ∷ os) reply = record { retired = omega arith; weight = omega arith }

end_grows : (c : CoreState) (l : List Outcome) → Grows (record c { outcomes = l }) (after_end l (record c { outcomes = l })) 0
end_grows c [] = record { retired = omega arith; weight = omega arith }
end_grows c (Plain rd v ∷ os) = record { retired = omega arith; weight = omega arith }
end_grows c (Load i a mmio None ∷ os) = record { retired = omega arith; weight = omega arith }
end_grows c (Load i a mmio (Some v) ∷ os) = record { retired = omega arith; weight = omega arith }
end_grows c (Store i a v mmio false ∷ os) = record { retired = omega arith; weight = omega arith }
end_grows c (Store i a v mmio true ∷ os) = record { retired = omega arith; weight = omega arith }
end_grows c (Halt cause ∷ os) = record { retired = omega arith; weight = omega arith }

pub grows : (c : CoreState) (k : Kind) (reply : ℕ) → Grows c (fired c k reply) (count_event (answered c k reply))
grows c Fetch reply = fetch_grows c
grows c Decode reply = decode_grows c c.fetched
grows c Execute reply = execute_grows c c.decoded
grows c Ram reply = ram_grows c c.outcomes
grows c Mmio reply = device_grows c c.outcomes reply
grows c Writeback reply = end_grows c c.outcomes
grows c Boot reply = record { retired = omega arith; weight = omega arith }
grows c Shift reply = record { retired = omega arith; weight = omega arith }
grows c Arrive reply = record { retired = omega arith; weight = omega arith }
