-- The machine of boot reads the boots, and those that were given up.
use Rattle.std.proofs.Common.{ℕ, zero, suc, ◌&&◌, ◌==◌, not, IsTrue, inl, inr, List, refl, arith, if◌then◌else◌}
use Rattle.std.proofs.lemmas.Bool.Decides.{nat_tests}
use Rattle.lb_trace.specs.declared.Event.{Event}
use Rattle.lb_trace.specs.declared.Event.TheVariants.{St}
use Rattle.lb_grammar.specs.declared.progress.Progress.{Progress}
use Rattle.lb_grammar.specs.declared.progress.Progress.TheVariants.{Within, Done}
use Rattle.lb_grammar.specs.declared.progress.Ending.{Ending}
use Rattle.lb_grammar.specs.declared.progress.Ending.TheVariants.{Whole, GivenUp}
use Rattle.lb_grammar.specs.declared.transfer.Transfer.TheVariants.{Opening}
use Rattle.lb_grammar.specs.declared.boot.Booting.{Booting}
use Rattle.lb_grammar.specs.declared.boot.Booting.TheVariants.{FirstPin, SecondPin, ByteTest, HwCfg, MacData, MacCmd, MacBusy}
use Rattle.lb_grammar.specs.Forms.{Form, One, Sequence, Exactly, Any, at_most, Lists}
use Rattle.lb_grammar.specs.Grammar.{iof_en, output_en, byte_test, hw_cfg, mac_csr_cmd, mac_csr_data, byte_order, is_word, is_busy, is_ready, read_bytes, write_bytes, rd, no_rd, no_wr, pins, vain, busy, found, wr_hw_cfg, wr_mac_data, wr_mac_cmd, set_up, boot, no_boot}
use Rattle.lb_grammar.specs.InternalMachine.{again, Reads, Nowhere}
use Rattle.lb_grammar.specs.InternalTransferring.{transfer_step}
use Rattle.lb_grammar.specs.InternalBooting.{after_byte_test, after_write, after_busy, boot_step}
use Rattle.lb_grammar.proofs.Same.{Same, Or, same, chain, or_same, swap, bracket}
use Rattle.lb_grammar.proofs.Followed.{Followed, followed_same, followed_or, tries}
use Rattle.lb_grammar.proofs.Reading.{store_same, inside_same}
use Rattle.lb_grammar.proofs.TestLemmas.{by_test_same, any_same, only}
use Rattle.lb_grammar.proofs.TransferReads.{read_same, write_same}

ready_word : (v : ℕ) → IsTrue (is_word v && is_ready v) → IsTrue (is_ready v)
ready_word v h = grind (arith, nat_tests)

word_ready : (v : ℕ) → IsTrue (is_ready v) → IsTrue (is_word v && is_ready v)
word_ready v h = grind (arith, nat_tests)

busy_word : (v : ℕ) → IsTrue (is_word v && not (is_ready v)) → IsTrue (is_busy v)
busy_word v h = grind (arith, nat_tests)

word_busy : (v : ℕ) → IsTrue (is_busy v) → IsTrue (is_word v && not (is_ready v))
word_busy v h = grind (arith, nat_tests)

-- the second of three goes first
rotate : {i j k : Lists} → Same (Or (Or i j) k) (Or j (Or i k))
rotate = chain (or_same swap same) bracket

module _ (next : Ending → Lists) where
  abbrev R : Progress Booting Ending → Lists
  R = Reads boot_step Nowhere next

  -- ---- the last wait

  abbrev ready : Form
  ready = Any is_ready (rd mac_csr_cmd)

  abbrev Ready : Lists
  Ready = Or (Followed ready (next Whole)) (Followed (no_rd mac_csr_cmd) (next GivenUp))

  one_busy : (n : ℕ) → Same (R (Within (MacBusy n Opening))) (Or (Followed busy (R (again n (λ m. MacBusy m Opening) GivenUp))) Ready)
  one_busy n =
      chain (inside_same (transfer_step (read_bytes mac_csr_cmd)) boot_step (MacBusy n) (after_busy n) Nowhere next (λ s e. refl) (λ s h. h) (Within Opening))
      (chain (read_same (λ x. R (after_busy n x)) mac_csr_cmd)
      (chain (or_same
      (chain (by_test_same (rd mac_csr_cmd) is_ready (λ b. R (if b then Done Whole else again n (λ m. MacBusy m Opening) GivenUp)))
      (or_same (any_same (λ v. is_word v && is_ready v) is_ready (rd mac_csr_cmd) (next Whole) ready_word word_ready)
      (any_same (λ v. is_word v && not (is_ready v)) is_busy (rd mac_csr_cmd) (R (again n (λ m. MacBusy m Opening) GivenUp)) busy_word word_busy)))
      same) rotate))

  abbrev Busy : Lists
  Busy =
      Or (Followed (Sequence (at_most 999 busy) ready) (next Whole))
      (Or (Followed (Sequence (at_most 999 busy) (no_rd mac_csr_cmd)) (next GivenUp)) (Followed (Exactly 1000 busy) (next GivenUp)))

  mac_busy : Same (R (Within (MacBusy 999 Opening))) Busy
  mac_busy =
      chain (tries busy (λ n. R (Within (MacBusy n Opening))) Ready (next GivenUp) (one_busy zero) (λ n. one_busy (suc n)) 999)
      (chain (or_same (followed_or (at_most 999 busy) (Followed ready (next Whole)) (Followed (no_rd mac_csr_cmd) (next GivenUp))) same) bracket)

  -- ---- the writes

  abbrev Cmd : Lists
  Cmd = Or (Followed wr_mac_cmd Busy) (Followed (no_wr mac_csr_cmd 0x80000001) (next GivenUp))

  mac_cmd : Same (R (Within (MacCmd Opening))) Cmd
  mac_cmd =
      chain (inside_same (transfer_step (write_bytes mac_csr_cmd 0x80000001)) boot_step MacCmd (after_write (MacBusy 999 Opening)) Nowhere next (λ s e. refl) (λ s h. h) (Within Opening))
      (chain (write_same (λ x. R (after_write (MacBusy 999 Opening) x)) mac_csr_cmd 0x80000001 (R (Within (MacBusy 999 Opening))) (λ w. refl)) (or_same (followed_same wr_mac_cmd mac_busy) same))

  abbrev Data : Lists
  Data = Or (Followed wr_mac_data Cmd) (Followed (no_wr mac_csr_data 0x0C) (next GivenUp))

  mac_data : Same (R (Within (MacData Opening))) Data
  mac_data =
      chain (inside_same (transfer_step (write_bytes mac_csr_data 0x0C)) boot_step MacData (after_write (MacCmd Opening)) Nowhere next (λ s e. refl) (λ s h. h) (Within Opening))
      (chain (write_same (λ x. R (after_write (MacCmd Opening) x)) mac_csr_data 0x0C (R (Within (MacCmd Opening))) (λ w. refl)) (or_same (followed_same wr_mac_data mac_cmd) same))

  abbrev Config : Lists
  Config = Or (Followed wr_hw_cfg Data) (Followed (no_wr hw_cfg 0x100000) (next GivenUp))

  config : Same (R (Within (HwCfg Opening))) Config
  config =
      chain (inside_same (transfer_step (write_bytes hw_cfg 0x100000)) boot_step HwCfg (after_write (MacData Opening)) Nowhere next (λ s e. refl) (λ s h. h) (Within Opening))
      (chain (write_same (λ x. R (after_write (MacData Opening) x)) hw_cfg 0x100000 (R (Within (MacData Opening))) (λ w. refl)) (or_same (followed_same wr_hw_cfg mac_data) same))

  -- ---- the first wait

  abbrev Awake : Lists
  Awake = Or (Followed (rd byte_test byte_order) Config) (Followed (no_rd byte_test) (next GivenUp))

  one_vain : (n : ℕ) → Same (R (Within (ByteTest n Opening))) (Or (Followed vain (R (again n (λ m. ByteTest m Opening) GivenUp))) Awake)
  one_vain n =
      chain (inside_same (transfer_step (read_bytes byte_test)) boot_step (ByteTest n) (after_byte_test n) Nowhere next (λ s e. refl) (λ s h. h) (Within Opening))
      (chain (read_same (λ x. R (after_byte_test n x)) byte_test)
      (chain (or_same
      (chain (by_test_same (rd byte_test) (λ v. v == byte_order) (λ b. R (if b then Within (HwCfg Opening) else again n (λ m. ByteTest m Opening) GivenUp)))
      (or_same (chain (only byte_order (rd byte_test) (R (Within (HwCfg Opening))) refl) (followed_same (rd byte_test byte_order) config)) same))
      same) rotate))

  abbrev Tested : Lists
  Tested =
      Or (Followed (Sequence (at_most 999 vain) (rd byte_test byte_order)) Config)
      (Or (Followed (Sequence (at_most 999 vain) (no_rd byte_test)) (next GivenUp)) (Followed (Exactly 1000 vain) (next GivenUp)))

  tested : Same (R (Within (ByteTest 999 Opening))) Tested
  tested =
      chain (tries vain (λ n. R (Within (ByteTest n Opening))) Awake (next GivenUp) (one_vain zero) (λ n. one_vain (suc n)) 999)
      (chain (or_same (followed_or (at_most 999 vain) (Followed (rd byte_test byte_order) Config) (Followed (no_rd byte_test) (next GivenUp))) same) bracket)

  -- ---- the whole, and its eight ends

  first_pin : Same (R (Within FirstPin)) (Followed (One (St iof_en 0x3C)) (R (Within SecondPin)))
  first_pin = store_same boot_step Nowhere next FirstPin iof_en 0x3C (Within SecondPin) (λ h. h) (λ d v. refl) (λ d v. refl)

  second_pin : Same (R (Within SecondPin)) (Followed (One (St output_en 0x800000)) (R (Within (ByteTest 999 Opening))))
  second_pin = store_same boot_step Nowhere next SecondPin output_en 0x800000 (Within (ByteTest 999 Opening)) (λ h. h) (λ d v. refl) (λ d v. refl)

  pinned : Same (R (Within FirstPin)) (Followed pins Tested)
  pinned = chain first_pin (followed_same (One (St iof_en 0x3C)) (chain second_pin (followed_same (One (St output_en 0x800000)) tested)))

  abbrev hw_set : Form
  hw_set = Sequence found wr_hw_cfg

  abbrev data_set : Form
  data_set = Sequence hw_set wr_mac_data

  after_set_up : Same (Followed set_up Busy) (Or (Followed boot (next Whole))
      (Or (Followed (Sequence set_up (Sequence (at_most 999 busy) (no_rd mac_csr_cmd))) (next GivenUp)) (Followed (Sequence set_up (Exactly 1000 busy)) (next GivenUp))))
  after_set_up =
      chain (followed_or set_up (Followed (Sequence (at_most 999 busy) ready) (next Whole)) (Or (Followed (Sequence (at_most 999 busy) (no_rd mac_csr_cmd)) (next GivenUp)) (Followed (Exactly 1000 busy) (next GivenUp))))
      (or_same same (followed_or set_up (Followed (Sequence (at_most 999 busy) (no_rd mac_csr_cmd)) (next GivenUp)) (Followed (Exactly 1000 busy) (next GivenUp))))

  abbrev Last : Lists
  Last =
      Or (Or (Followed boot (next Whole))
      (Or (Followed (Sequence set_up (Sequence (at_most 999 busy) (no_rd mac_csr_cmd))) (next GivenUp)) (Followed (Sequence set_up (Exactly 1000 busy)) (next GivenUp))))
      (Followed (Sequence data_set (no_wr mac_csr_cmd 0x80000001)) (next GivenUp))

  after_found : Same (Followed found Config) (Or (Or Last (Followed (Sequence hw_set (no_wr mac_csr_data 0x0C)) (next GivenUp))) (Followed (Sequence found (no_wr hw_cfg 0x100000)) (next GivenUp)))
  after_found =
      chain (followed_or found (Followed wr_hw_cfg Data) (Followed (no_wr hw_cfg 0x100000) (next GivenUp)))
      (or_same
      (chain (followed_or hw_set (Followed wr_mac_data Cmd) (Followed (no_wr mac_csr_data 0x0C) (next GivenUp)))
      (or_same
      (chain (followed_or data_set (Followed wr_mac_cmd Busy) (Followed (no_wr mac_csr_cmd 0x80000001) (next GivenUp))) (or_same after_set_up same))
      same))
      same)

  abbrev Given : Form → Lists
  Given form = Followed form (next GivenUp)

  abbrev Unsorted : Lists
  Unsorted =
      Or (Or (Or Last (Given (Sequence hw_set (no_wr mac_csr_data 0x0C)))) (Given (Sequence found (no_wr hw_cfg 0x100000))))
      (Or (Given (Sequence pins (Sequence (at_most 999 vain) (no_rd byte_test)))) (Given (Sequence pins (Exactly 1000 vain))))

  after_pins : Same (Followed pins Tested) Unsorted
  after_pins =
      chain (followed_or pins (Followed (Sequence (at_most 999 vain) (rd byte_test byte_order)) Config) (Or (Given (Sequence (at_most 999 vain) (no_rd byte_test))) (Given (Exactly 1000 vain))))
      (or_same after_found (followed_or pins (Given (Sequence (at_most 999 vain) (no_rd byte_test))) (Given (Exactly 1000 vain))))

  sort : (l : List Event) → Unsorted l → Or (Followed boot (next Whole)) (Given no_boot) l
  sort l (inl (inl (inl (inl (inl h))))) = inl h
  sort l (inr (inl h)) = inr (inl h)
  sort l (inr (inr h)) = inr (inr (inl h))
  sort l (inl (inr h)) = inr (inr (inr (inl h)))
  sort l (inl (inl (inr h))) = inr (inr (inr (inr (inl h))))
  sort l (inl (inl (inl (inr h)))) = inr (inr (inr (inr (inr (inl h)))))
  sort l (inl (inl (inl (inl (inr (inl h)))))) = inr (inr (inr (inr (inr (inr (inl h))))))
  sort l (inl (inl (inl (inl (inr (inr h)))))) = inr (inr (inr (inr (inr (inr (inr h))))))

  unsort : (l : List Event) → Or (Followed boot (next Whole)) (Given no_boot) l → Unsorted l
  unsort l (inl h) = inl (inl (inl (inl (inl h))))
  unsort l (inr (inl h)) = inr (inl h)
  unsort l (inr (inr (inl h))) = inr (inr h)
  unsort l (inr (inr (inr (inl h)))) = inl (inr h)
  unsort l (inr (inr (inr (inr (inl h))))) = inl (inl (inr h))
  unsort l (inr (inr (inr (inr (inr (inl h)))))) = inl (inl (inl (inr h)))
  unsort l (inr (inr (inr (inr (inr (inr (inl h))))))) = inl (inl (inl (inl (inr (inl h)))))
  unsort l (inr (inr (inr (inr (inr (inr (inr h))))))) = inl (inl (inl (inl (inr (inr h)))))

  pub boot_same : Same (R (Within FirstPin)) (Or (Followed boot (next Whole)) (Followed no_boot (next GivenUp)))
  boot_same = chain pinned (chain after_pins (record { to = sort; from = unsort }))
