-- Each form of the grammar has members, and what begins one can be brought to its end.
use Rattle.std.proofs.Common.{◌≡◌, ℕ, ◌/◌, ◌%◌, ◌<◌, ◌&&◌, ◌==◌, Bool, IsTrue, nat_le, nat_lt, inl, List, [], ◌∷◌, ◌++◌, length, refl, arith}
use Rattle.std.proofs.lemmas.Bool.Decides.{nat_tests}
use Rattle.lb_word.specs.Bytes.{bytes_of_word}
use Rattle.lb_trace.specs.declared.Event.{Event}
use Rattle.lb_trace.specs.declared.Event.TheVariants.{Ld, St}
use Rattle.lb_grammar.specs.Forms.{Form, Nothing, One, Sequence, Exactly, Any, Either, at_most}
use Rattle.lb_grammar.specs.Grammar.{rxdata, txdata, is_byte, is_word, is_ready, busy_load, ready_load, sent, xchg, no_xchg, free_xchg, free_xchgs, answers, broken_off, transaction, read_head, read_bytes, write_bytes, rd, no_rd, wr, no_wr, pins, vain, busy, found, set_up, boot, no_boot, empty, filled, has_words, word_count, words, packet, no_words, switch, round, no_round, good, rx_data_fifo}
use Rattle.lb_grammar.specs.Prefixes.{CanEnd, HasMember, PrefixLaw}
use Rattle.lb_grammar.proofs.PrefixLemmas.{repeat, are_its_prefixes}

pub record Ends (form : Form) : Type 0 where
  pub can : CanEnd form
  pub member : HasMember form

nothing : Ends Nothing
nothing = record { can = tt; member = ([], refl) }

one : (e : Event) → Ends (One e)
one e = record { can = tt; member = (e ∷ [], refl) }

then : {a b : Form} → Ends a → Ends b → Ends (Sequence a b)
then g h = record {
  can = (g.can, h.can, h.member);
  member = (g.member.0 ++ h.member.0, record { front = g.member.0; back = h.member.0; first = g.member.1; second = h.member.1; whole = refl });
}

times : (n : ℕ) {a : Form} → Ends a → Ends (Exactly n a)
times n g = record { can = (g.can, g.member); member = repeat n g.member.0 g.member.1 }

any : {test : ℕ → Bool} {form : ℕ → Form} (v : ℕ) → IsTrue (test v) → ((w : ℕ) → IsTrue (test w) → Ends (form w)) → Ends (Any test form)
any {form = form} v h g = record { can = λ w i. (g w i).can; member = (let m : HasMember (form v) = (g v h).member in (m.0, (v, h, m.1))) }

or : {a b : Form} → Ends a → CanEnd b → Ends (Either a b)
or g c = record { can = (g.can, c); member = (g.member.0, inl g.member.1) }

either : {a b : Form} → Ends a → Ends b → Ends (Either a b)
either g h = or g h.can

-- ---- exchanges

busy_ends : (a : ℕ) → Ends (busy_load a)
busy_ends a = any 0x80000000 refl (λ w i. one (Ld a w))

ready_ends : (a : ℕ) → Ends (ready_load a)
ready_ends a = any 0 refl (λ w i. one (Ld a w))

few : {a : Form} → Ends a → Ends (at_most 999 a)
few g = any 0 refl (λ k i. times k g)

own_answer : (r : ℕ) → r < 256 → IsTrue (is_ready r && r % 256 == r)
own_answer r h = grind (arith, nat_tests)

sent_ends : (b : ℕ) → Ends (sent b)
sent_ends b = then (few (busy_ends txdata)) (then (ready_ends txdata) (one (St txdata b)))

pub xchg_ends : (b r : ℕ) → r < 256 → Ends (xchg b r)
xchg_ends b r h = then (sent_ends b) (then (few (busy_ends rxdata)) (any r (own_answer r h) (λ w i. one (Ld rxdata w))))

pub no_xchg_ends : (b : ℕ) → Ends (no_xchg b)
no_xchg_ends b = or (times 1000 (busy_ends txdata)) (then (sent_ends b) (times 1000 (busy_ends rxdata))).can

below_256 : (r : ℕ) → IsTrue (is_byte r) → r < 256
below_256 r h = grind (arith, nat_tests)

free_ends : (b : ℕ) → Ends (free_xchg b)
free_ends b = any 0 refl (λ r i. xchg_ends b r (below_256 r i))

-- ---- transactions

free_all_end : (bytes : List ℕ) → Ends (free_xchgs bytes)
free_all_end [] = nothing
free_all_end (b ∷ bytes) = then (free_ends b) (free_all_end bytes)

answers_end : (a b c d : ℕ) → a < 256 → b < 256 → c < 256 → d < 256 → Ends (answers (a ∷ b ∷ c ∷ d ∷ []))
answers_end a b c d ha hb hc hd = then (xchg_ends 0 a ha) (then (xchg_ends 0 b hb) (then (xchg_ends 0 c hc) (then (xchg_ends 0 d hd) nothing)))

value_ends : (v : ℕ) → Ends (answers (bytes_of_word v))
value_ends v = answers_end (v % 256) (v / 256 % 256) (v / 65536 % 256) (v / 16777216 % 256) (omega arith) (omega arith) (omega arith) (omega arith)

in_transaction : {a : Form} → Ends a → Ends (transaction a)
in_transaction g = then (one (St 0x10024018 2)) (then g (one (St 0x10024018 0)))

pub rd_ends : (a v : ℕ) → Ends (rd a v)
rd_ends a v = in_transaction (then (free_all_end (read_head a)) (value_ends v))

pub wr_ends : (a v : ℕ) → Ends (wr a v)
wr_ends a v = in_transaction (free_all_end (write_bytes a v))

broken_ends : (bytes : List ℕ) → IsTrue (nat_lt 0 (length bytes)) → Ends (broken_off bytes)
broken_ends bytes h = any 0 h (λ j i. then (free_all_end _) (no_xchg_ends _))

pub no_rd_ends : (a : ℕ) → Ends (no_rd a)
no_rd_ends a = in_transaction (broken_ends (read_bytes a) refl)

pub no_wr_ends : (a v : ℕ) → Ends (no_wr a v)
no_wr_ends a v = in_transaction (broken_ends (write_bytes a v) refl)

-- ---- boot

pins_end : Ends pins
pins_end = then (one _) (one _)

vain_ends : Ends vain
vain_ends = any 0 refl (λ v i. rd_ends 0x64 v)

busy_read_ends : Ends busy
busy_read_ends = any 0x80000000 refl (λ v i. rd_ends 0xA4 v)

found_ends : Ends found
found_ends = then pins_end (then (few vain_ends) (rd_ends 0x64 0x87654321))

hw_ends : Ends (wr 0x74 0x100000)
hw_ends = wr_ends 0x74 0x100000

data_ends : Ends (wr 0xA8 0x0C)
data_ends = wr_ends 0xA8 0x0C

set_up_ends : Ends set_up
set_up_ends = then found_ends (then hw_ends (then data_ends (wr_ends 0xA4 0x80000001)))

pub boot_ends : Ends boot
boot_ends = then set_up_ends (then (few busy_read_ends) (any 0 refl (λ v i. rd_ends 0xA4 v)))

pub no_boot_ends : Ends no_boot
no_boot_ends =
    either (then pins_end (then (few vain_ends) (no_rd_ends 0x64)))
    (either (then pins_end (times 1000 vain_ends))
    (either (then found_ends (no_wr_ends 0x74 0x100000))
    (either (then found_ends (then hw_ends (no_wr_ends 0xA8 0x0C)))
    (either (then found_ends (then hw_ends (then data_ends (no_wr_ends 0xA4 0x80000001))))
    (either (then set_up_ends (then (few busy_read_ends) (no_rd_ends 0xA4))) (then set_up_ends (times 1000 busy_read_ends)))))))

-- ---- rounds

empty_ends : Ends empty
empty_ends = any 0 refl (λ v i. rd_ends 0x7C v)

filled_ends : Ends filled
filled_ends = any 0x10000 refl (λ v i. rd_ends 0x7C v)

words_end : (ws : List ℕ) → Ends (words ws)
words_end [] = nothing
words_end (w ∷ ws) = then (rd_ends 0 w) (words_end ws)

packet_ends : (s : ℕ) (ws : List ℕ) → Ends (packet s ws)
packet_ends s ws = then filled_ends (then (rd_ends 0x40 s) (words_end ws))

switch_ends : (c : Bool) → Ends (switch c)
switch_ends c = any 0 refl (λ v i. then (one _) (one _))

pub round_ends : Ends round
round_ends = or empty_ends ((λ s h ws i. (packet_ends s ws).can), (λ s h ws i. (then (packet_ends s ws) (switch_ends _)).can))

some_words : (s : ℕ) → IsTrue (has_words s) → IsTrue (nat_lt 0 (word_count s))
some_words s h = grind (arith, nat_tests)

any_word : Ends (Any is_word (rd rx_data_fifo))
any_word = any 0 refl (λ v i. rd_ends 0 v)

no_words_end : (s : ℕ) → IsTrue (has_words s) → Ends (no_words s)
no_words_end s h = then (any 0 (some_words s h) (λ k i. times k any_word)) (no_rd_ends 0)

pub no_round_ends : Ends no_round
no_round_ends = or (no_rd_ends 0x7C) ((then filled_ends (no_rd_ends 0x40)).can, (λ s h. (then filled_ends (then (rd_ends 0x40 s) (no_words_end s h))).can))

-- ---- the whole

rounds_end : Ends (Any (λ k. Rattle.std.proofs.Common.true) (λ k. Exactly k round))
rounds_end = any 0 refl (λ k i. times k round_ends)

pub good_ends : Ends good
good_ends = or (then boot_ends rounds_end) (no_boot_ends.can, (then boot_ends (then rounds_end no_round_ends)).can)

pub prefix_law : PrefixLaw
prefix_law = record {
  every = are_its_prefixes;
  exchange = λ b r h. are_its_prefixes (xchg b r) (xchg_ends b r h).can;
  no_exchange = λ b. are_its_prefixes (no_xchg b) (no_xchg_ends b).can;
  read = λ a v. are_its_prefixes (rd a v) (rd_ends a v).can;
  no_read = λ a. are_its_prefixes (no_rd a) (no_rd_ends a).can;
  write = λ a v. are_its_prefixes (wr a v) (wr_ends a v).can;
  no_write = λ a v. are_its_prefixes (no_wr a v) (no_wr_ends a v).can;
  pin_stores = are_its_prefixes pins pins_end.can;
  vain_reads = are_its_prefixes vain vain_ends.can;
  busy_reads = are_its_prefixes busy busy_read_ends.can;
  finds = are_its_prefixes found found_ends.can;
  set_ups = are_its_prefixes set_up set_up_ends.can;
  boots = are_its_prefixes boot boot_ends.can;
  no_boots = are_its_prefixes no_boot no_boot_ends.can;
  empty_polls = are_its_prefixes empty empty_ends.can;
  packets = λ s ws. are_its_prefixes (packet s ws) (packet_ends s ws).can;
  switches = λ c. are_its_prefixes (switch c) (switch_ends c).can;
  rounds = are_its_prefixes round round_ends.can;
  no_rounds = are_its_prefixes no_round no_round_ends.can;
  whole = are_its_prefixes good good_ends.can;
}
