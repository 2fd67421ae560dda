-- Each state that is reached has its place within the bytes that are sent.
use Rattle.std.proofs.Common.{◌≡◌, ℕ, zero, suc, ◌+◌, ◌==◌, ◌&&◌, Bool, true, false, nat_lt, Option, Some, None, List, [], ◌∷◌, length, slice_index, refl, subst, if◌then◌else◌}
use Rattle.lb_trace.specs.declared.Event.{Event}
use Rattle.lb_trace.specs.declared.Event.TheVariants.{Ld, St}
use Rattle.lb_grammar.specs.declared.progress.Progress.{Progress}
use Rattle.lb_grammar.specs.declared.progress.Progress.TheVariants.{Within, Done, Off}
use Rattle.lb_grammar.specs.declared.progress.Ending.{Ending}
use Rattle.lb_grammar.specs.declared.progress.Ending.TheVariants.{Whole, GivenUp}
use Rattle.lb_grammar.specs.declared.exchange.Exchange.{Exchange}
use Rattle.lb_grammar.specs.declared.exchange.Exchange.TheVariants.{Room}
use Rattle.lb_grammar.specs.declared.transfer.Transfer.{Transfer}
use Rattle.lb_grammar.specs.declared.transfer.Transfer.TheVariants.{Opening, Sending, Closing}
use Rattle.lb_grammar.specs.declared.boot.Booting.{Booting}
use Rattle.lb_grammar.specs.declared.boot.Booting.TheVariants.{FirstPin, SecondPin, ByteTest, HwCfg, MacData, MacCmd, MacBusy}
use Rattle.lb_grammar.specs.declared.packet.Header.{Header}
use Rattle.lb_grammar.specs.declared.round.Rounding.{Rounding}
use Rattle.lb_grammar.specs.declared.round.Rounding.TheVariants.{Info, Status, Words, Loading, Storing}
use Rattle.lb_grammar.specs.declared.judging.Judging.{Judging}
use Rattle.lb_grammar.specs.declared.judging.Judging.TheVariants.{Boot, Between, Round, Still}
use Rattle.lb_grammar.specs.Grammar.{csmode, output_val, iof_en, output_en, byte_order, is_ready, is_word, waiting, word_count, with_command, read_bytes, write_bytes, rx_fifo_inf, rx_status_fifo, rx_data_fifo, byte_test, hw_cfg, mac_csr_data, mac_csr_cmd}
use Rattle.lb_grammar.specs.InternalMachine.{again, inside, runs}
use Rattle.lb_grammar.specs.InternalExchanging.{exchange_step}
use Rattle.lb_grammar.specs.InternalTransferring.{pushed, next_byte, after_answer, transfer_step}
use Rattle.lb_grammar.specs.InternalBooting.{stored, after_byte_test, after_write, after_busy, boot_step}
use Rattle.lb_grammar.specs.InternalRounding.{nothing_seen, see, looks_valid, command_seen, words_left, after_info, after_status, after_word, round_step}
use Rattle.lb_grammar.specs.InternalJudging.{NoEnd, after_boot, after_round, judge_step}
use Rattle.lb_grammar.proofs.AliveLemmas.{IsPlaced, IsBootPlaced, IsRoundPlaced}

-- a state that is led to is of the kind
abbrev pub Leads : {S X : Type 0} → (S → Type 0) → Progress S X → Type 0
Leads V (Within s) = V s
Leads V (Done x) = Unit {0}
Leads V Off = Unit {0}

by_test : {S X : Type 0} (V : S → Type 0) (t : Bool) (p q : Progress S X) → Leads V p → Leads V q → Leads V (if t then p else q)
by_test V true p q g h = g
by_test V false p q g h = h

inside_leads : {S X T Y : Type 0} (V : S → Type 0) (W : T → Type 0) (into : S → T) (onto : X → Progress T Y) → ((s : S) → V s → W (into s)) → ((x : X) → Leads W (onto x)) → (p : Progress S X) → Leads V p → Leads W (inside into onto p)
inside_leads V W into onto f g (Within s) h = f s h
inside_leads V W into onto f g (Done x) h = g x
inside_leads V W into onto f g Off h = tt

-- ---- a transaction

module _ (bytes : List ℕ) where
  next_placed : (place word : ℕ) (t : Bool) → nat_lt place (length bytes) ≡ t → IsPlaced bytes (if t then Sending place word (Room 999) else Closing (Some word))
  next_placed place word true h = h
  next_placed place word false h = tt

  next_byte_placed : (place word : ℕ) → IsPlaced bytes (next_byte bytes place word)
  next_byte_placed place word = next_placed place word (nat_lt place (length bytes)) refl

  answer_placed : (place word : ℕ) (x : Option ℕ) → Leads (IsPlaced bytes) (after_answer bytes place word x)
  answer_placed place word (Some r) = next_byte_placed (place + 1) (pushed word r)
  answer_placed place word None = tt

  any_exchange : (p : Progress Exchange (Option ℕ)) → Leads (λ (s : Exchange). Unit {0}) p
  any_exchange (Within s) = tt
  any_exchange (Done x) = tt
  any_exchange Off = tt

  transfer_placed : (s : Transfer) (e : Event) → IsPlaced bytes s → Leads (IsPlaced bytes) (transfer_step bytes s e)
  transfer_placed Opening (Ld a v) h = tt
  transfer_placed Opening (St a v) h = by_test (IsPlaced bytes) (a == csmode && v == 2) (Within (next_byte bytes 0 0)) Off (next_byte_placed 0 0) tt
  transfer_placed (Sending place word at) e h =
      by_test (IsPlaced bytes) (nat_lt place (length bytes)) (inside (Sending place word) (after_answer bytes place word) (exchange_step (slice_index bytes place) at e)) Off
      (inside_leads (λ s. Unit {0}) (IsPlaced bytes) (Sending place word) (after_answer bytes place word) (λ s i. h) (answer_placed place word) (exchange_step (slice_index bytes place) at e) (any_exchange (exchange_step (slice_index bytes place) at e))) tt
  transfer_placed (Closing x) (Ld a v) h = tt
  transfer_placed (Closing x) (St a v) h = by_test (IsPlaced bytes) (a == csmode && v == 0) (Done x) Off tt tt

-- ---- boot

stored_placed : (a v : ℕ) (next : Booting) (e : Event) → IsBootPlaced next → Leads IsBootPlaced (stored a v next e)
stored_placed a v next (Ld b w) h = tt
stored_placed a v next (St b w) h = by_test IsBootPlaced (b == a && w == v) (Within next) Off h tt

again_placed : (n : ℕ) (wait : ℕ → Booting) → ((m : ℕ) → IsBootPlaced (wait m)) → Leads IsBootPlaced (again n wait GivenUp)
again_placed zero wait h = tt
again_placed (suc n) wait h = h n

test_placed : (n : ℕ) (x : Option ℕ) → Leads IsBootPlaced (after_byte_test n x)
test_placed n (Some v) = by_test IsBootPlaced (v == byte_order) (Within (HwCfg Opening)) (again n (λ m. ByteTest m Opening) GivenUp) tt (again_placed n (λ m. ByteTest m Opening) (λ m. tt))
test_placed n None = tt

write_placed : (next : Booting) → IsBootPlaced next → (x : Option ℕ) → Leads IsBootPlaced (after_write next x)
write_placed next h (Some w) = h
write_placed next h None = tt

busy_placed : (n : ℕ) (x : Option ℕ) → Leads IsBootPlaced (after_busy n x)
busy_placed n (Some v) = by_test IsBootPlaced (is_ready v) (Done Whole) (again n (λ m. MacBusy m Opening) GivenUp) tt (again_placed n (λ m. MacBusy m Opening) (λ m. tt))
busy_placed n None = tt

in_boot : (bytes : List ℕ) (into : Transfer → Booting) (onto : Option ℕ → Progress Booting Ending) → ((s : Transfer) → IsPlaced bytes s → IsBootPlaced (into s)) → ((x : Option ℕ) → Leads IsBootPlaced (onto x))
    → (at : Transfer) (e : Event) → IsPlaced bytes at → Leads IsBootPlaced (inside into onto (transfer_step bytes at e))
in_boot bytes into onto f g at e h = inside_leads (IsPlaced bytes) IsBootPlaced into onto f g (transfer_step bytes at e) (transfer_placed bytes at e h)

boot_placed : (s : Booting) (e : Event) → IsBootPlaced s → Leads IsBootPlaced (boot_step s e)
boot_placed FirstPin e h = stored_placed iof_en 0x3C SecondPin e tt
boot_placed SecondPin e h = stored_placed output_en 0x800000 (ByteTest 999 Opening) e tt
boot_placed (ByteTest n at) e h = in_boot (read_bytes byte_test) (ByteTest n) (after_byte_test n) (λ s i. i) (test_placed n) at e h
boot_placed (HwCfg at) e h = in_boot (write_bytes hw_cfg 0x100000) HwCfg (after_write (MacData Opening)) (λ s i. i) (write_placed (MacData Opening) tt) at e h
boot_placed (MacData at) e h = in_boot (write_bytes mac_csr_data 0x0C) MacData (after_write (MacCmd Opening)) (λ s i. i) (write_placed (MacCmd Opening) tt) at e h
boot_placed (MacCmd at) e h = in_boot (write_bytes mac_csr_cmd 0x80000001) MacCmd (after_write (MacBusy 999 Opening)) (λ s i. i) (write_placed (MacBusy 999 Opening) tt) at e h
boot_placed (MacBusy n at) e h = in_boot (read_bytes mac_csr_cmd) (MacBusy n) (after_busy n) (λ s i. i) (busy_placed n) at e h

-- ---- a round

words_placed : (s n : ℕ) (k : Header) → Leads IsRoundPlaced (words_left s n k)
words_placed s zero k = by_test IsRoundPlaced (looks_valid s k) (Within (Loading (command_seen k))) (Done Whole) tt tt
words_placed s (suc n) k = tt

info_placed : (x : Option ℕ) → Leads IsRoundPlaced (after_info x)
info_placed (Some v) = by_test IsRoundPlaced (waiting v == 0) (Done Whole) (Within (Status Opening)) tt tt
info_placed None = tt

status_placed : (x : Option ℕ) → Leads IsRoundPlaced (after_status x)
status_placed (Some s) = words_placed s (word_count s) nothing_seen
status_placed None = tt

word_placed : (s n : ℕ) (k : Header) (x : Option ℕ) → Leads IsRoundPlaced (after_word s n k x)
word_placed s n k (Some w) = words_placed s n (see k w)
word_placed s n k None = tt

in_round : (bytes : List ℕ) (into : Transfer → Rounding) (onto : Option ℕ → Progress Rounding Ending) → ((s : Transfer) → IsPlaced bytes s → IsRoundPlaced (into s)) → ((x : Option ℕ) → Leads IsRoundPlaced (onto x))
    → (at : Transfer) (e : Event) → IsPlaced bytes at → Leads IsRoundPlaced (inside into onto (transfer_step bytes at e))
in_round bytes into onto f g at e h = inside_leads (IsPlaced bytes) IsRoundPlaced into onto f g (transfer_step bytes at e) (transfer_placed bytes at e h)

round_placed : (s : Rounding) (e : Event) → IsRoundPlaced s → Leads IsRoundPlaced (round_step s e)
round_placed (Info at) e h = in_round (read_bytes rx_fifo_inf) Info after_info (λ s i. i) info_placed at e h
round_placed (Status at) e h = in_round (read_bytes rx_status_fifo) Status after_status (λ s i. i) status_placed at e h
round_placed (Words s n k at) e h = in_round (read_bytes rx_data_fifo) (Words s n k) (after_word s n k) (λ q i. i) (word_placed s n k) at e h
round_placed (Loading c) (Ld a v) h = by_test IsRoundPlaced (a == output_val && is_word v) (Within (Storing (with_command v c))) Off tt tt
round_placed (Loading c) (St a v) h = tt
round_placed (Storing x) (Ld a v) h = tt
round_placed (Storing x) (St a v) h = by_test IsRoundPlaced (a == output_val && v == x) (Done Whole) Off tt tt

-- ---- the whole

abbrev pub IsJudgePlaced : Judging → Type 0
IsJudgePlaced (Boot at) = IsBootPlaced at
IsJudgePlaced (Between n) = Unit {0}
IsJudgePlaced (Round n at) = IsRoundPlaced at
IsJudgePlaced (Still n) = Unit {0}

boot_end_placed : (x : Ending) → Leads IsJudgePlaced (after_boot x)
boot_end_placed Whole = tt
boot_end_placed GivenUp = tt

round_end_placed : (n : ℕ) (x : Ending) → Leads IsJudgePlaced (after_round n x)
round_end_placed n Whole = tt
round_end_placed n GivenUp = tt

judge_placed : (s : Judging) (e : Event) → IsJudgePlaced s → Leads IsJudgePlaced (judge_step s e)
judge_placed (Boot at) e h = inside_leads IsBootPlaced IsJudgePlaced Boot after_boot (λ s i. i) boot_end_placed (boot_step at e) (boot_placed at e h)
judge_placed (Between n) e h = inside_leads IsRoundPlaced IsJudgePlaced (Round n) (after_round n) (λ s i. i) (round_end_placed n) (round_step (Info Opening) e) (round_placed (Info Opening) e tt)
judge_placed (Round n at) e h = inside_leads IsRoundPlaced IsJudgePlaced (Round n) (after_round n) (λ s i. i) (round_end_placed n) (round_step at e) (round_placed at e h)
judge_placed (Still n) e h = tt

pub placed : (l : List Event) (p : Progress Judging NoEnd) (q : Judging) → Leads IsJudgePlaced p → runs judge_step p l ≡ Within q → IsJudgePlaced q
placed [] p q h e = subst (Leads IsJudgePlaced) e h
placed (x ∷ l) (Within s) q h e = placed l (judge_step s x) q (judge_placed s x h) e
placed (x ∷ l) (Done y) q h e = absurd (let z : ⊥ = cc in z)
placed (x ∷ l) Off q h e = absurd (let z : ⊥ = cc in z)
