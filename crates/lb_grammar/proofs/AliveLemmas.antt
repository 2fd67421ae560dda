-- From each state that is reached some list leads to a state of rest.
use Rattle.std.proofs.Common.{◌≡◌, ℕ, zero, suc, ◌+◌, ◌==◌, Bool, true, false, nat_lt, inl, Option, Some, None, List, [], ◌∷◌, ◌++◌, length, drop, slice_index, refl, arith, if◌then◌else◌}
use Rattle.lb_trace.specs.declared.Event.{Event}
use Rattle.lb_trace.specs.declared.Event.TheVariants.{Ld, St}
use Rattle.lb_grammar.specs.declared.progress.Progress.{Progress}
use Rattle.lb_grammar.specs.declared.progress.Progress.TheVariants.{Within, Done}
use Rattle.lb_grammar.specs.declared.progress.Ending.{Ending}
use Rattle.lb_grammar.specs.declared.progress.Ending.TheVariants.{Whole, GivenUp}
use Rattle.lb_grammar.specs.declared.exchange.Exchange.{Exchange}
use Rattle.lb_grammar.specs.declared.exchange.Exchange.TheVariants.{Room, Sending, Answer}
use Rattle.lb_grammar.specs.declared.transfer.Transfer.{Transfer}
use Rattle.lb_grammar.specs.declared.transfer.Transfer.TheVariants.{Opening, Sending as SendingByte, Closing}
use Rattle.lb_grammar.specs.declared.boot.Booting.{Booting}
use Rattle.lb_grammar.specs.declared.boot.Booting.TheVariants.{FirstPin, SecondPin, ByteTest, HwCfg, MacData, MacCmd, MacBusy}
use Rattle.lb_grammar.specs.declared.packet.Header.{Header}
use Rattle.lb_grammar.specs.declared.round.Rounding.{Rounding}
use Rattle.lb_grammar.specs.declared.round.Rounding.TheVariants.{Info, Status, Words, Loading, Storing}
use Rattle.lb_grammar.specs.Forms.{Lists, Is}
use Rattle.lb_grammar.specs.Grammar.{txdata, rxdata, csmode, output_val, iof_en, output_en, byte_order, is_ready, waiting, word_count, with_command, read_bytes, write_bytes, rx_fifo_inf, rx_status_fifo, rx_data_fifo, byte_test, hw_cfg, mac_csr_data, mac_csr_cmd, xchg}
use Rattle.lb_grammar.specs.InternalMachine.{again, inside, Reads, Nowhere}
use Rattle.lb_grammar.specs.InternalExchanging.{exchange_step}
use Rattle.lb_grammar.specs.InternalTransferring.{pushed, next_byte, after_answer, transfer_step}
use Rattle.lb_grammar.specs.InternalBooting.{after_byte_test, after_write, after_busy, boot_step}
use Rattle.lb_grammar.specs.InternalRounding.{nothing_seen, see, looks_valid, command_seen, words_left, after_info, after_status, after_word, round_step}
use Rattle.lb_grammar.proofs.Followed.{joined}
use Rattle.lb_grammar.proofs.Reading.{store_same, inside_same}
use Rattle.lb_grammar.proofs.TransferReads.{Sends, closing, sends_same, steps}
use Rattle.lb_grammar.proofs.EndLemmas.{xchg_ends}

-- a list of the kind
abbrev pub Example : Lists → Type 0
Example k = (l : List Event) × k l

-- ---- an exchange

module _ (b : ℕ) (next : Option ℕ → Lists) (ends : (x : Option ℕ) → Example (next x)) where
  abbrev E : Progress Exchange (Option ℕ) → Lists
  E = Reads (exchange_step b) Nowhere next

  from_sending : Example (E (Within Sending))
  from_sending =
      let g : Example (next (Some 0)) = ends (Some 0) in
      (St txdata b ∷ Ld rxdata 0 ∷ g.0, (store_same (exchange_step b) Nowhere next Sending txdata b (Within (Answer 999)) (λ h. h) (λ d v. refl) (λ d v. refl)).from (St txdata b ∷ Ld rxdata 0 ∷ g.0) (refl, g.1))

  exchange_alive : (s : Exchange) → Example (E (Within s))
  exchange_alive (Answer n) = let g : Example (next (Some 0)) = ends (Some 0) in (Ld rxdata 0 ∷ g.0, g.1)
  exchange_alive Sending = from_sending
  exchange_alive (Room n) = let g : Example (E (Within Sending)) = from_sending in (Ld txdata 0 ∷ g.0, g.1)

-- ---- a transaction

-- the place is one of the list's
abbrev pub IsPlaced : List ℕ → Transfer → Type 0
IsPlaced bytes Opening = Unit {0}
IsPlaced bytes (SendingByte place word at) = nat_lt place (length bytes) ≡ true
IsPlaced bytes (Closing result) = Unit {0}

module _ (bytes : List ℕ) (next : Option ℕ → Lists) (ends : (x : Option ℕ) → Example (next x)) where
  abbrev T : Progress Transfer (Option ℕ) → Lists
  T = Reads (transfer_step bytes) Nowhere next

  sends_alive : (left : List ℕ) (word : ℕ) → Example (Sends next left word)
  sends_alive [] word = let g : Example (next (Some word)) = ends (Some word) in (St csmode 0 ∷ g.0, (refl, g.1))
  sends_alive (b ∷ left) word =
      let g : Example (Sends next left (pushed word 0)) = sends_alive left (pushed word 0) in
      let m : Example (Is (xchg b 0)) = (xchg_ends b 0 (omega arith)).member in
      (m.0 ++ g.0, inl (0, refl, joined (xchg b 0) (Sends next left (pushed word 0)) m.0 g.0 m.1 g.1))

  from_place : (place word : ℕ) → Example (T (Within (next_byte bytes place word)))
  from_place place word =
      let g : Example (Sends next (drop place bytes) word) = sends_alive (drop place bytes) word in
      (g.0, (sends_same next bytes (drop place bytes) place word refl).from g.0 g.1)

  from_closing : (x : Option ℕ) → Example (T (Within (Closing x)))
  from_closing x = let g : Example (next x) = ends x in (St csmode 0 ∷ g.0, (closing next bytes x).from (St csmode 0 ∷ g.0) (refl, g.1))

  from_answer : (place word : ℕ) (x : Option ℕ) → Example (T (after_answer bytes place word x))
  from_answer place word (Some r) = from_place (place + 1) (pushed word r)
  from_answer place word None = from_closing None

  transfer_alive : (s : Transfer) → IsPlaced bytes s → Example (T (Within s))
  transfer_alive Opening h = let g : Example (T (Within (next_byte bytes 0 0))) = from_place 0 0 in (St csmode 2 ∷ g.0, g.1)
  transfer_alive (SendingByte place word at) h =
      let g : Example (Reads (exchange_step (slice_index bytes place)) Nowhere (λ x. T (after_answer bytes place word x)) (Within at)) =
      exchange_alive (slice_index bytes place) (λ x. T (after_answer bytes place word x)) (from_answer place word) at in
      (g.0, (inside_same (exchange_step (slice_index bytes place)) (transfer_step bytes) (SendingByte place word) (after_answer bytes place word) Nowhere next (steps next bytes (slice_index bytes place) place word h refl) (λ s i. i) (Within at)).from g.0 g.1)
  transfer_alive (Closing x) h = from_closing x

-- a transaction within a machine
module _ {T Y : Type 0} (bytes : List ℕ) (outer : T → Event → Progress T Y) (into : Transfer → T) (onto : Option ℕ → Progress T Y) (next : Y → Lists)
    (steps : (s : Transfer) (e : Event) → outer (into s) e ≡ inside into onto (transfer_step bytes s e)) (ends : (x : Option ℕ) → Example (Reads outer Nowhere next (onto x))) where
  in_transfer : (s : Transfer) → IsPlaced bytes s → Example (Reads outer Nowhere next (Within (into s)))
  in_transfer s h =
      let g : Example (Reads (transfer_step bytes) Nowhere (λ x. Reads outer Nowhere next (onto x)) (Within s)) = transfer_alive bytes (λ x. Reads outer Nowhere next (onto x)) ends s h in
      (g.0, (inside_same (transfer_step bytes) outer into onto Nowhere next steps (λ q i. i) (Within s)).from g.0 g.1)

-- ---- boot

abbrev pub IsBootPlaced : Booting → Type 0
IsBootPlaced FirstPin = Unit {0}
IsBootPlaced SecondPin = Unit {0}
IsBootPlaced (ByteTest n at) = IsPlaced (read_bytes byte_test) at
IsBootPlaced (HwCfg at) = IsPlaced (write_bytes hw_cfg 0x100000) at
IsBootPlaced (MacData at) = IsPlaced (write_bytes mac_csr_data 0x0C) at
IsBootPlaced (MacCmd at) = IsPlaced (write_bytes mac_csr_cmd 0x80000001) at
IsBootPlaced (MacBusy n at) = IsPlaced (read_bytes mac_csr_cmd) at

module _ (next : Ending → Lists) (ends : (x : Ending) → Example (next x)) where
  abbrev B : Progress Booting Ending → Lists
  B = Reads boot_step Nowhere next

  if_boot : (t : Bool) (p q : Progress Booting Ending) → Example (B p) → Example (B q) → Example (B (if t then p else q))
  if_boot true p q g h = g
  if_boot false p q g h = h

  busy_again : (n : ℕ) → Example (B (again n (λ m. MacBusy m Opening) GivenUp))
  busy_again zero = ends GivenUp
  busy_again (suc n) = in_transfer (read_bytes mac_csr_cmd) boot_step (MacBusy n) (after_busy n) next (λ s e. refl) (after (busy_again n)) Opening tt
    where
      after : Example (B (again n (λ m. MacBusy m Opening) GivenUp)) → (x : Option ℕ) → Example (B (after_busy n x))
      after g (Some v) = if_boot (is_ready v) (Done Whole) (again n (λ m. MacBusy m Opening) GivenUp) (ends Whole) g
      after g None = ends GivenUp

  busy_after : (n : ℕ) (x : Option ℕ) → Example (B (after_busy n x))
  busy_after n (Some v) = if_boot (is_ready v) (Done Whole) (again n (λ m. MacBusy m Opening) GivenUp) (ends Whole) (busy_again n)
  busy_after n None = ends GivenUp

  busy_alive : (n : ℕ) (at : Transfer) → IsPlaced (read_bytes mac_csr_cmd) at → Example (B (Within (MacBusy n at)))
  busy_alive n at h = in_transfer (read_bytes mac_csr_cmd) boot_step (MacBusy n) (after_busy n) next (λ s e. refl) (busy_after n) at h

  write_after : (s : Booting) → Example (B (Within s)) → (x : Option ℕ) → Example (B (after_write s x))
  write_after s g (Some w) = g
  write_after s g None = ends GivenUp

  cmd_alive : (at : Transfer) → IsPlaced (write_bytes mac_csr_cmd 0x80000001) at → Example (B (Within (MacCmd at)))
  cmd_alive at h = in_transfer (write_bytes mac_csr_cmd 0x80000001) boot_step MacCmd (after_write (MacBusy 999 Opening)) next (λ s e. refl) (write_after (MacBusy 999 Opening) (busy_alive 999 Opening tt)) at h

  data_alive : (at : Transfer) → IsPlaced (write_bytes mac_csr_data 0x0C) at → Example (B (Within (MacData at)))
  data_alive at h = in_transfer (write_bytes mac_csr_data 0x0C) boot_step MacData (after_write (MacCmd Opening)) next (λ s e. refl) (write_after (MacCmd Opening) (cmd_alive Opening tt)) at h

  config_alive : (at : Transfer) → IsPlaced (write_bytes hw_cfg 0x100000) at → Example (B (Within (HwCfg at)))
  config_alive at h = in_transfer (write_bytes hw_cfg 0x100000) boot_step HwCfg (after_write (MacData Opening)) next (λ s e. refl) (write_after (MacData Opening) (data_alive Opening tt)) at h

  test_after : (n : ℕ) → Example (B (again n (λ m. ByteTest m Opening) GivenUp)) → (x : Option ℕ) → Example (B (after_byte_test n x))
  test_after n g (Some v) = if_boot (v == byte_order) (Within (HwCfg Opening)) (again n (λ m. ByteTest m Opening) GivenUp) (config_alive Opening tt) g
  test_after n g None = ends GivenUp

  test_again : (n : ℕ) → Example (B (again n (λ m. ByteTest m Opening) GivenUp))
  test_again zero = ends GivenUp
  test_again (suc n) = in_transfer (read_bytes byte_test) boot_step (ByteTest n) (after_byte_test n) next (λ s e. refl) (test_after n (test_again n)) Opening tt

  test_alive : (n : ℕ) (at : Transfer) → IsPlaced (read_bytes byte_test) at → Example (B (Within (ByteTest n at)))
  test_alive n at h = in_transfer (read_bytes byte_test) boot_step (ByteTest n) (after_byte_test n) next (λ s e. refl) (test_after n (test_again n)) at h

  pub boot_alive : (s : Booting) → IsBootPlaced s → Example (B (Within s))
  boot_alive FirstPin h = let g : Example (B (Within (ByteTest 999 Opening))) = test_alive 999 Opening tt in (St iof_en 0x3C ∷ St output_en 0x800000 ∷ g.0, g.1)
  boot_alive SecondPin h = let g : Example (B (Within (ByteTest 999 Opening))) = test_alive 999 Opening tt in (St output_en 0x800000 ∷ g.0, g.1)
  boot_alive (ByteTest n at) h = test_alive n at h
  boot_alive (HwCfg at) h = config_alive at h
  boot_alive (MacData at) h = data_alive at h
  boot_alive (MacCmd at) h = cmd_alive at h
  boot_alive (MacBusy n at) h = busy_alive n at h

-- ---- a round

abbrev pub IsRoundPlaced : Rounding → Type 0
IsRoundPlaced (Info at) = IsPlaced (read_bytes rx_fifo_inf) at
IsRoundPlaced (Status at) = IsPlaced (read_bytes rx_status_fifo) at
IsRoundPlaced (Words s n k at) = IsPlaced (read_bytes rx_data_fifo) at
IsRoundPlaced (Loading c) = Unit {0}
IsRoundPlaced (Storing x) = Unit {0}

module _ (next : Ending → Lists) (ends : (x : Ending) → Example (next x)) where
  abbrev R : Progress Rounding Ending → Lists
  R = Reads round_step Nowhere next

  if_round : (t : Bool) (p q : Progress Rounding Ending) → Example (R p) → Example (R q) → Example (R (if t then p else q))
  if_round true p q g h = g
  if_round false p q g h = h

  storing_alive : (x : ℕ) → Example (R (Within (Storing x)))
  storing_alive x =
      let g : Example (next Whole) = ends Whole in
      (St output_val x ∷ g.0, (store_same round_step Nowhere next (Storing x) output_val x (Done Whole) (λ h. h) (λ d v. refl) (λ d v. refl)).from (St output_val x ∷ g.0) (refl, g.1))

  loading_alive : (c : Bool) → Example (R (Within (Loading c)))
  loading_alive c = let g : Example (R (Within (Storing (with_command 0 c)))) = storing_alive (with_command 0 c) in (Ld output_val 0 ∷ g.0, g.1)

  words_alive : (s n : ℕ) (k : Header) → Example (R (words_left s n k))
  words_alive s zero k = if_round (looks_valid s k) (Within (Loading (command_seen k))) (Done Whole) (loading_alive (command_seen k)) (ends Whole)
  words_alive s (suc n) k = in_transfer (read_bytes rx_data_fifo) round_step (Words s n k) (after_word s n k) next (λ q e. refl) (after (λ m. words_alive s n m)) Opening tt
    where
      after : ((m : Header) → Example (R (words_left s n m))) → (x : Option ℕ) → Example (R (after_word s n k x))
      after g (Some w) = g (see k w)
      after g None = ends GivenUp

  word_after : (s n : ℕ) (k : Header) (x : Option ℕ) → Example (R (after_word s n k x))
  word_after s n k (Some w) = words_alive s n (see k w)
  word_after s n k None = ends GivenUp

  status_after : (x : Option ℕ) → Example (R (after_status x))
  status_after (Some s) = words_alive s (word_count s) nothing_seen
  status_after None = ends GivenUp

  status_alive : (at : Transfer) → IsPlaced (read_bytes rx_status_fifo) at → Example (R (Within (Status at)))
  status_alive at h = in_transfer (read_bytes rx_status_fifo) round_step Status after_status next (λ q e. refl) status_after at h

  info_after : (x : Option ℕ) → Example (R (after_info x))
  info_after (Some v) = if_round (waiting v == 0) (Done Whole) (Within (Status Opening)) (ends Whole) (status_alive Opening tt)
  info_after None = ends GivenUp

  pub round_alive : (s : Rounding) → IsRoundPlaced s → Example (R (Within s))
  round_alive (Info at) h = in_transfer (read_bytes rx_fifo_inf) round_step Info after_info next (λ q e. refl) info_after at h
  round_alive (Status at) h = status_alive at h
  round_alive (Words s n k at) h = in_transfer (read_bytes rx_data_fifo) round_step (Words s n k) (after_word s n k) next (λ q e. refl) (word_after s n k) at h
  round_alive (Loading c) h = loading_alive c
  round_alive (Storing x) h = storing_alive x
