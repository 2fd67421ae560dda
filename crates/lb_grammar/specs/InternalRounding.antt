-- A round, event by event. Cited by private contracts alone.
use Rattle.std.specs.Prelude.{ℕ, zero, suc, ◌+◌, ◌/◌, ◌%◌, ◌&&◌, ◌==◌, nat_le, nat_lt, not, Bool, if◌then◌else◌, List, [], ◌∷◌, Option, Some, None}
use Rattle.lb_trace.specs.declared.Event.{Event}
use Rattle.lb_trace.specs.declared.Event.TheVariants.{Ld, St}
use Rattle.lb_grammar.specs.declared.progress.Progress.{Progress}
use Rattle.lb_grammar.specs.declared.progress.Progress.TheVariants.{Within, Done, Off}
use Rattle.lb_grammar.specs.declared.progress.Ending.{Ending}
use Rattle.lb_grammar.specs.declared.progress.Ending.TheVariants.{Whole, GivenUp}
use Rattle.lb_grammar.specs.declared.transfer.Transfer.TheVariants.{Opening}
use Rattle.lb_grammar.specs.declared.packet.Header.{Header}
use Rattle.lb_grammar.specs.declared.round.Rounding.{Rounding}
use Rattle.lb_grammar.specs.declared.round.Rounding.TheVariants.{Info, Status, Words, Loading, Storing}
use Rattle.lb_grammar.specs.Grammar.{output_val, rx_data_fifo, rx_status_fifo, rx_fifo_inf, is_word, waiting, length_of, has_error, word_count, with_command, read_bytes}
use Rattle.lb_grammar.specs.InternalMachine.{inside}
use Rattle.lb_grammar.specs.InternalTransferring.{transfer_step}

-- ---- the words that are looked at

abbrev pub nothing_seen : Header
nothing_seen = record { count = 0; type_word = 0; protocol_word = 0; command_word = 0 }

-- with the next word of the packet
abbrev pub see : Header → ℕ → Header
see k w = record {
  count = if nat_lt k.count 11 then k.count + 1 else k.count;
  type_word = if k.count == 3 then w else k.type_word;
  protocol_word = if k.count == 5 then w else k.protocol_word;
  command_word = if k.count == 10 then w else k.command_word;
}

abbrev pub see_all : Header → List ℕ → Header
see_all k [] = k
see_all k (w ∷ ws) = see_all (see k w) ws

abbrev pub looks_udp : Header → Bool
looks_udp k = k.type_word % 256 == 0x08 && k.type_word / 256 % 256 == 0x00 && k.type_word / 65536 % 256 == 0x45 && k.protocol_word / 16777216 % 256 == 0x11

abbrev pub looks_valid : ℕ → Header → Bool
looks_valid s k = not (has_error s) && (nat_le 43 (length_of s) && nat_le (length_of s) 1520) && looks_udp k

abbrev pub command_seen : Header → Bool
command_seen k = k.command_word / 65536 % 256 % 2 == 1

-- ---- the steps

abbrev pub words_left : ℕ → ℕ → Header → Progress Rounding Ending
words_left s zero k = if looks_valid s k then Within (Loading (command_seen k)) else Done Whole
words_left s (suc n) k = Within (Words s n k Opening)

abbrev pub after_info : Option ℕ → Progress Rounding Ending
after_info (Some v) = if waiting v == 0 then Done Whole else Within (Status Opening)
after_info None = Done GivenUp

abbrev pub after_status : Option ℕ → Progress Rounding Ending
after_status (Some s) = words_left s (word_count s) nothing_seen
after_status None = Done GivenUp

abbrev pub after_word : ℕ → ℕ → Header → Option ℕ → Progress Rounding Ending
after_word s n k (Some w) = words_left s n (see k w)
after_word s n k None = Done GivenUp

abbrev pub round_step : Rounding → Event → Progress Rounding Ending
round_step (Info at) e = inside Info after_info (transfer_step (read_bytes rx_fifo_inf) at e)
round_step (Status at) e = inside Status after_status (transfer_step (read_bytes rx_status_fifo) at e)
round_step (Words s n k at) e = inside (Words s n k) (after_word s n k) (transfer_step (read_bytes rx_data_fifo) at e)
round_step (Loading c) (Ld a v) = if a == output_val && is_word v then Within (Storing (with_command v c)) else Off
round_step (Loading c) (St a v) = Off
round_step (Storing x) (Ld a v) = Off
round_step (Storing x) (St a v) = if a == output_val && v == x then Done Whole else Off
