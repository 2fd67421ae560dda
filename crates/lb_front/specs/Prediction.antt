-- Where fetch is, and which address it takes to come next.
use Rattle.std.specs.Prelude.{ℕ, ◌/◌, ◌%◌, ◌==◌, if◌then◌else◌, not, Bool, false, List, replicate, slice_get, slice_set, Option, Some, None}
use Rattle.lb_rv.specs.Effects.{next_address}
use Rattle.lb_outcome.specs.Fetching.{word_at}
use Rattle.lb_front.specs.declared.item.FetchItem.{FetchItem}
use Rattle.lb_front.specs.declared.front.Target.{Target}

-- what contracts see in a front: the address to be fetched from, the epoch, and the table of predicted targets, which has 16 places
pub record FrontContent : Type 0 where
  pub pc : ℕ
  pub epoch : Bool
  pub table : List (Option Target)

-- the place of an address in the table: its bits 5 to 2
abbrev pub place : ℕ → ℕ
place pc = pc / 4 % 16

-- by what stands at the address's place: the target, where the tag is the address, and else the address behind it
abbrev pub target_at : Option (Option Target) → ℕ → ℕ
target_at None pc = next_address pc
target_at (Some None) pc = next_address pc
target_at (Some (Some t)) pc = if t.tag == pc then t.target else next_address pc

-- the address that is taken to come next
abbrev pub prediction : FrontContent → ℕ
prediction front = target_at (slice_get front.table (place front.pc)) front.pc

-- a front at boot
abbrev pub booted_front : ℕ → FrontContent
booted_front entry = record { pc = entry; epoch = false; table = replicate 16 None }

-- the item that is fetched now
abbrev pub fetched_item : FrontContent → List ℕ → FetchItem
fetched_item front code = record { pc = front.pc; word = word_at code front.pc; predicted = prediction front; epoch = front.epoch }

-- the front once the item is fetched
abbrev pub advanced : FrontContent → FrontContent
advanced front = record { pc = prediction front; epoch = front.epoch; table = front.table }

-- the front after an instruction at one address was followed by one at another than predicted
abbrev pub redirected : FrontContent → ℕ → ℕ → FrontContent
redirected front from next =
    record { pc = next; epoch = not front.epoch; table = slice_set front.table (place from) (Some (record { tag = from; target = next })) }
