-- What contracts see of the small machine.
use Rattle.std.specs.Prelude.{◌≡◌, ℕ, List, length}
use Rattle.lb_trace.specs.declared.Entry.{Entry}
use Rattle.lb_trace.specs.declared.Kind.{Kind}
use Rattle.lb_trace.specs.declared.Kind.TheVariants.{Mmio}
use Rattle.lb_turn_tests.specs.declared.tape.NotFired.{NotFired}
use Rattle.lb_turn_tests.specs.declared.tape.NotFired.TheVariants.{Full, GuardFalse}

-- its entries, and how many it may have
pub record TapeView : Type 0 where
  pub log : List Entry
  pub most : ℕ

-- of the most, the entries and a kind: the reason holds
abbrev pub Refuses : ℕ → List Entry → Kind → NotFired → Type 0
Refuses most log kind Full = length log ≡ most
Refuses most log kind GuardFalse = kind ≡ Mmio
