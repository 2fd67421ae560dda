-- The exchange of a byte, event by event. Cited by private contracts alone.
use Rattle.std.specs.Prelude.{ℕ, ◌%◌, ◌&&◌, ◌==◌, if◌then◌else◌, Option, Some, None}
use Rattle.lb_trace.specs.declared.Event.{Event}
use Rattle.lb_trace.specs.declared.Event.TheVariants.{Ld, St}
use Rattle.lb_grammar.specs.declared.progress.Progress.{Progress}
use Rattle.lb_grammar.specs.declared.progress.Progress.TheVariants.{Within, Done, Off}
use Rattle.lb_grammar.specs.declared.exchange.Exchange.{Exchange}
use Rattle.lb_grammar.specs.declared.exchange.Exchange.TheVariants.{Room, Sending, Answer}
use Rattle.lb_grammar.specs.InternalMachine.{again}
use Rattle.lb_grammar.specs.Grammar.{txdata, rxdata, is_ready, is_busy}

-- a load of the register that is waited for
abbrev pub polled : ℕ → ℕ → (ℕ → Exchange) → Progress Exchange (Option ℕ) → Progress Exchange (Option ℕ)
polled v n wait served = if is_ready v then served else (if is_busy v then again n wait None else Off)

abbrev pub exchange_step : ℕ → Exchange → Event → Progress Exchange (Option ℕ)
exchange_step b (Room n) (Ld a v) = if a == txdata then polled v n Room (Within Sending) else Off
exchange_step b (Room n) (St a v) = Off
exchange_step b Sending (Ld a v) = Off
exchange_step b Sending (St a v) = if a == txdata && v == b then Within (Answer 999) else Off
exchange_step b (Answer n) (Ld a v) = if a == rxdata then polled v n Answer (Done (Some (v % 256))) else Off
exchange_step b (Answer n) (St a v) = Off
