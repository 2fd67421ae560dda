-- Boot, event by event. Cited by private contracts alone.
use Rattle.std.specs.Prelude.{ℕ, ◌&&◌, ◌==◌, if◌then◌else◌, Option, Some, None}
use Rattle.lb_trace.specs.declared.Event.{Event}
use Rattle.lb_trace.specs.declared.Event.TheVariants.{Ld, St}
use Rattle.lb_grammar.specs.declared.progress.Progress.{Progress}
use Rattle.lb_grammar.specs.declared.progress.Progress.TheVariants.{Within, Done, Off}
use Rattle.lb_grammar.specs.declared.progress.Ending.{Ending}
use Rattle.lb_grammar.specs.declared.progress.Ending.TheVariants.{Whole, GivenUp}
use Rattle.lb_grammar.specs.declared.transfer.Transfer.TheVariants.{Opening}
use Rattle.lb_grammar.specs.declared.boot.Booting.{Booting}
use Rattle.lb_grammar.specs.declared.boot.Booting.TheVariants.{FirstPin, SecondPin, ByteTest, HwCfg, MacData, MacCmd, MacBusy}
use Rattle.lb_grammar.specs.Grammar.{iof_en, output_en, byte_test, hw_cfg, mac_csr_cmd, mac_csr_data, byte_order, is_ready, read_bytes, write_bytes}
use Rattle.lb_grammar.specs.InternalMachine.{again, inside}
use Rattle.lb_grammar.specs.InternalTransferring.{transfer_step}

-- a store of this value leads there
abbrev pub stored : ℕ → ℕ → Booting → Event → Progress Booting Ending
stored a v next (Ld b w) = Off
stored a v next (St b w) = if b == a && w == v then Within next else Off

abbrev pub after_byte_test : ℕ → Option ℕ → Progress Booting Ending
after_byte_test n (Some v) = if v == byte_order then Within (HwCfg Opening) else again n (λ m. ByteTest m Opening) GivenUp
after_byte_test n None = Done GivenUp

abbrev pub after_write : Booting → Option ℕ → Progress Booting Ending
after_write next (Some word) = Within next
after_write next None = Done GivenUp

abbrev pub after_busy : ℕ → Option ℕ → Progress Booting Ending
after_busy n (Some v) = if is_ready v then Done Whole else again n (λ m. MacBusy m Opening) GivenUp
after_busy n None = Done GivenUp

abbrev pub boot_step : Booting → Event → Progress Booting Ending
boot_step FirstPin e = stored iof_en 0x3C SecondPin e
boot_step SecondPin e = stored output_en 0x80_0000 (ByteTest 999 Opening) e
boot_step (ByteTest n at) e = inside (ByteTest n) (after_byte_test n) (transfer_step (read_bytes byte_test) at e)
boot_step (HwCfg at) e = inside HwCfg (after_write (MacData Opening)) (transfer_step (write_bytes hw_cfg 0x10_0000) at e)
boot_step (MacData at) e = inside MacData (after_write (MacCmd Opening)) (transfer_step (write_bytes mac_csr_data 0x0C) at e)
boot_step (MacCmd at) e = inside MacCmd (after_write (MacBusy 999 Opening)) (transfer_step (write_bytes mac_csr_cmd 0x8000_0001) at e)
boot_step (MacBusy n at) e = inside (MacBusy n) (after_busy n) (transfer_step (read_bytes mac_csr_cmd) at e)
