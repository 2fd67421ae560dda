-- All rows, and that one is always enabled.
use Rattle.std.proofs.Common.{◌≡◌, ℕ, ◌*◌, Bool, true, false, not, List, [], ◌∷◌, ◌++◌, length, Some, None, is_none, refl, ap}
use Rattle.std.proofs.lemmas.Bool.{and_parts, and_from, or_right}
use Rattle.lb_trace.specs.declared.Kind.{Kind}
use Rattle.lb_trace.specs.declared.Kind.TheVariants.{Fetch, Decode, Execute, Ram, Mmio, Writeback, Boot, Shift, Arrive}
use Rattle.lb_outcome.specs.declared.types.Outcome.{Outcome}
use Rattle.lb_outcome.specs.declared.types.Outcome.TheVariants.{Plain, Load, Store, Halt}
use Rattle.lb_front.specs.declared.item.FetchItem.{FetchItem}
use Rattle.lb_exec.specs.declared.item.DecodeItem.{DecodeItem}
use Rattle.lb_outcome.specs.declared.types.Executed.{Executed}
use Rattle.lb_exec.specs.Execution.{execution}
use Rattle.lb_core.specs.State.{CoreState}
use Rattle.lb_core.specs.Rows.{after_decode, after_device, after_end, after_execute, after_item, after_prediction, after_ram, fired, guard, is_enabled, is_mispredicted, same_epoch}
use Rattle.lb_core.specs.Laws.{NeverStuck, RowsStand}
use Rattle.lb_core.proofs.Tools.{is_none_None}
use Rattle.lb_core.proofs.FrontRows.{decode_stands, execute_stands, fetch_stands}
use Rattle.lb_core.proofs.BackRows.{device_stands, end_stands, ram_stands}

pub rows_stand : RowsStand
rows_stand c Fetch reply on = λ t s. fetch_stands c t s
rows_stand c Decode reply on = λ t s. decode_stands c c.fetched t (and_parts (is_none c.halted) (guard c Decode) on).1 s
rows_stand c Execute reply on = λ t s. execute_stands c c.decoded t s
rows_stand c Ram reply on = λ t s. ram_stands c c.outcomes t s
rows_stand c Mmio reply on = λ t s. device_stands c c.outcomes reply t s
rows_stand c Writeback reply on = λ t s. end_stands c c.outcomes t (is_none_None c.halted (and_parts (is_none c.halted) (guard c Writeback) on).0) s
rows_stand c Boot reply on = λ t s. s
rows_stand c Shift reply on = λ t s. s
rows_stand c Arrive reply on = λ t s. s

-- ---- the code and the entry never change

-- two cores have the same code and the same entry
pub record SameProgram (c d : CoreState) : Type 0 where
  pub code : c.code ≡ d.code
  pub entry : c.entry ≡ d.entry

decode_keeps : (c : CoreState) (f : List FetchItem) → SameProgram (after_decode f c) c
decode_keeps c [] = record { code = refl; entry = refl }
decode_keeps c (it ∷ its) = record { code = refl; entry = refl }

prediction_keeps : (b : Bool) (x : Executed) (d : DecodeItem) (c : CoreState) → SameProgram (after_prediction b x d c) c
prediction_keeps true x d c = record { code = refl; entry = refl }
prediction_keeps false x d c = record { code = refl; entry = refl }

item_keeps : (b : Bool) (x : Executed) (d : DecodeItem) (c : CoreState) → SameProgram (after_item b x d c) c
item_keeps true x d c =
    let k = prediction_keeps (is_mispredicted x d) x d (record c { outcomes = c.outcomes ++ x.outcome ∷ [] }) in record { code = k.code; entry = k.entry }
item_keeps false x d c = record { code = refl; entry = refl }

execute_keeps : (c : CoreState) (l : List DecodeItem) → SameProgram (after_execute l c) c
execute_keeps c [] = record { code = refl; entry = refl }
execute_keeps c (d ∷ ds) =
    let k = item_keeps (same_epoch d.epoch c.front.epoch) (execution d (4 * length c.code)) d (record c { decoded = ds }) in
    record { code = k.code; entry = k.entry }

ram_keeps : (c : CoreState) (l : List Outcome) → SameProgram (after_ram l c) c
ram_keeps c (Load i a false None ∷ os) = record { code = refl; entry = refl }
ram_keeps c (Store i a v false false ∷ os) = record { code = refl; entry = refl }
ram_keeps c l = record { code = refl; entry = refl }

device_keeps : (c : CoreState) (l : List Outcome) (reply : ℕ) → SameProgram (after_device l reply c) c
device_keeps c (Load i a true None ∷ os) reply = record { code = refl; entry = refl }
device_keeps c (Store i a v true false ∷ os) reply = record { code = refl; entry = refl }
device_keeps c l reply = record { code = refl; entry = refl }

end_keeps : (c : CoreState) (l : List Outcome) → SameProgram (after_end l c) c
end_keeps c [] = record { code = refl; entry = refl }
end_keeps c (Plain rd v ∷ os) = record { code = refl; entry = refl }
end_keeps c (Load i a mmio None ∷ os) = record { code = refl; entry = refl }
end_keeps c (Load i a mmio (Some v) ∷ os) = record { code = refl; entry = refl }
end_keeps c (Store i a v mmio false ∷ os) = record { code = refl; entry = refl }
end_keeps c (Store i a v mmio true ∷ os) = record { code = refl; entry = refl }
end_keeps c (Halt cause ∷ os) = record { code = refl; entry = refl }

pub program_kept : (c : CoreState) (kind : Kind) (reply : ℕ) → SameProgram (fired c kind reply) c
program_kept c Fetch reply = record { code = refl; entry = refl }
program_kept c Decode reply = decode_keeps c c.fetched
program_kept c Execute reply = execute_keeps c c.decoded
program_kept c Ram reply = ram_keeps c c.outcomes
program_kept c Mmio reply = device_keeps c c.outcomes reply
program_kept c Writeback reply = end_keeps c c.outcomes
program_kept c Boot reply = record { code = refl; entry = refl }
program_kept c Shift reply = record { code = refl; entry = refl }
program_kept c Arrive reply = record { code = refl; entry = refl }

-- ---- a row is always enabled: that of the oldest item

enabled_row : (c : CoreState) (os : List Outcome) (ds : List DecodeItem) (its : List FetchItem) → is_none c.halted ≡ true
    → (kind : Kind) × (is_enabled (record c { outcomes = os; decoded = ds; fetched = its }) kind ≡ true)
enabled_row c (Plain rd v ∷ os) ds its n = (Writeback, and_from (is_none c.halted) true n refl)
enabled_row c (Load i a mmio (Some v) ∷ os) ds its n = (Writeback, and_from (is_none c.halted) true n refl)
enabled_row c (Load i a false None ∷ os) ds its n = (Ram, and_from (is_none c.halted) true n refl)
enabled_row c (Load i a true None ∷ os) ds its n = (Mmio, and_from (is_none c.halted) true n refl)
enabled_row c (Store i a v mmio true ∷ os) ds its n = (Writeback, and_from (is_none c.halted) true n refl)
enabled_row c (Store i a v false false ∷ os) ds its n = (Ram, and_from (is_none c.halted) true n refl)
enabled_row c (Store i a v true false ∷ os) ds its n = (Mmio, and_from (is_none c.halted) true n refl)
enabled_row c (Halt cause ∷ os) ds its n = (Writeback, and_from (is_none c.halted) true n refl)
enabled_row c [] (d ∷ ds) its n = (Execute, and_from (is_none c.halted) _ n (or_right (not (same_epoch d.epoch c.front.epoch)) true refl))
enabled_row c [] [] (it ∷ its) n = (Decode, and_from (is_none c.halted) true n refl)
enabled_row c [] [] [] n = (Fetch, and_from (is_none c.halted) true n refl)

pub never_stuck : NeverStuck
never_stuck c n = enabled_row c c.outcomes c.decoded c.fetched (ap is_none n)
