-- A transaction of the serial bus, event by event. Cited by private contracts alone.
use Rattle.std.specs.Prelude.{ℕ, ◌+◌, ◌*◌, ◌/◌, ◌^◌, ◌&&◌, ◌==◌, nat_lt, if◌then◌else◌, List, length, slice_index, Option, Some, None}
use Rattle.lb_trace.specs.declared.Event.{Event}
use Rattle.lb_trace.specs.declared.Event.TheVariants.{Ld, St}
use Rattle.lb_grammar.specs.declared.progress.Progress.{Progress}
use Rattle.lb_grammar.specs.declared.progress.Progress.TheVariants.{Within, Done, Off}
use Rattle.lb_grammar.specs.declared.exchange.Exchange.TheVariants.{Room}
use Rattle.lb_grammar.specs.declared.transfer.Transfer.{Transfer}
use Rattle.lb_grammar.specs.declared.transfer.Transfer.TheVariants.{Opening, Sending, Closing}
use Rattle.lb_grammar.specs.Grammar.{csmode}
use Rattle.lb_grammar.specs.InternalMachine.{inside}
use Rattle.lb_grammar.specs.InternalExchanging.{exchange_step}

-- the word of the last four answers, with one answer more
abbrev pub pushed : ℕ → ℕ → ℕ
pushed word r = word / 256 + r * 2 ^ 24

-- the next byte is sent, or all were
abbrev pub next_byte : List ℕ → ℕ → ℕ → Transfer
next_byte bytes place word = if nat_lt place (length bytes) then Sending place word (Room 999) else Closing (Some word)

abbrev pub after_answer : List ℕ → ℕ → ℕ → Option ℕ → Progress Transfer (Option ℕ)
after_answer bytes place word (Some r) = Within (next_byte bytes (place + 1) (pushed word r))
after_answer bytes place word None = Within (Closing None)

abbrev pub transfer_step : List ℕ → Transfer → Event → Progress Transfer (Option ℕ)
transfer_step bytes Opening (Ld a v) = Off
transfer_step bytes Opening (St a v) = if a == csmode && v == 2 then Within (next_byte bytes 0 0) else Off
transfer_step bytes (Sending place word at) e =
    if nat_lt place (length bytes) then inside (Sending place word) (after_answer bytes place word) (exchange_step (slice_index bytes place) at e) else Off
transfer_step bytes (Closing result) (Ld a v) = Off
transfer_step bytes (Closing result) (St a v) = if a == csmode && v == 0 then Done result else Off
