-- The grammar of the lamp: what the appliance does at its devices. Each wait ends after 1,000 tries; after a
-- wait that was in vain the appliance ends the transaction, and then nothing follows.
use Rattle.std.specs.Prelude.{ℕ, ◌+◌, ◌*◌, ◌/◌, ◌%◌, ◌^◌, nat_lt, nat_le, ◌==◌, ◌&&◌, not, Bool, List, [], ◌∷◌, ◌++◌, length, take, slice_index, flat_map, if◌then◌else◌}
use Rattle.std.specs.List.{list_all}
use Rattle.lb_word.specs.Bytes.{bytes_of_word}
use Rattle.lb_trace.specs.declared.Event.TheVariants.{Ld, St}
use Rattle.lb_grammar.specs.Forms.{Form, Nothing, One, Sequence, Exactly, Any, AnyList, Either, at_most, fewer_than, any_number, one_of}
use Rattle.lb_grammar.specs.Packet.{is_valid, command}

-- ---- registers of the processor's devices

-- the serial bus: the byte to be sent, the byte that came, and whether the chip is selected
abbrev pub txdata : ℕ
txdata = 0x1002_4048

abbrev pub rxdata : ℕ
rxdata = 0x1002_404C

abbrev pub csmode : ℕ
csmode = 0x1002_4018

-- the pins: which are given to the serial bus, which are driven, and what is put out
abbrev pub iof_en : ℕ
iof_en = 0x1001_2038

abbrev pub output_en : ℕ
output_en = 0x1001_2008

abbrev pub output_val : ℕ
output_val = 0x1001_200C

-- ---- registers of the network chip

abbrev pub rx_data_fifo : ℕ
rx_data_fifo = 0x00

abbrev pub rx_status_fifo : ℕ
rx_status_fifo = 0x40

abbrev pub byte_test : ℕ
byte_test = 0x64

abbrev pub hw_cfg : ℕ
hw_cfg = 0x74

abbrev pub rx_fifo_inf : ℕ
rx_fifo_inf = 0x7C

abbrev pub mac_csr_cmd : ℕ
mac_csr_cmd = 0xA4

abbrev pub mac_csr_data : ℕ
mac_csr_data = 0xA8

-- ---- words

abbrev pub is_byte : ℕ → Bool
is_byte v = nat_lt v 256

abbrev pub is_word : ℕ → Bool
is_word v = nat_lt v (2 ^ 32)

-- a word with bit 31 set
abbrev pub is_busy : ℕ → Bool
is_busy v = nat_le (2 ^ 31) v && nat_lt v (2 ^ 32)

-- a word with bit 31 clear
abbrev pub is_ready : ℕ → Bool
is_ready v = nat_lt v (2 ^ 31)

-- ---- exchanges of a byte

-- a load of the register that finds it busy
abbrev pub busy_load : ℕ → Form
busy_load a = Any is_busy (λ v. One (Ld a v))

-- a load that finds it ready
abbrev pub ready_load : ℕ → Form
ready_load a = Any is_ready (λ v. One (Ld a v))

-- a load that finds an answer, and this byte is it
abbrev pub answer_load : ℕ → Form
answer_load r = Any (λ v. is_ready v && v % 256 == r) (λ v. One (Ld rxdata v))

-- the byte is sent as soon as there is room
abbrev pub sent : ℕ → Form
sent b = Sequence (at_most 999 (busy_load txdata)) (Sequence (ready_load txdata) (One (St txdata b)))

-- the byte b is sent, and r comes back
abbrev pub xchg : ℕ → ℕ → Form
xchg b r = Sequence (sent b) (Sequence (at_most 999 (busy_load rxdata)) (answer_load r))

-- there is no room, or no answer
abbrev pub no_xchg : ℕ → Form
no_xchg b = Either (Exactly 1000 (busy_load txdata)) (Sequence (sent b) (Exactly 1000 (busy_load rxdata)))

-- the byte is sent, and any byte comes back
abbrev pub free_xchg : ℕ → Form
free_xchg b = Any is_byte (xchg b)

-- ---- transactions

-- each of these bytes is sent, and any bytes come back
abbrev pub free_xchgs : List ℕ → Form
free_xchgs [] = Nothing
free_xchgs (b ∷ bs) = Sequence (free_xchg b) (free_xchgs bs)

-- zeros are sent, and these bytes come back
abbrev pub answers : List ℕ → Form
answers [] = Nothing
answers (r ∷ rs) = Sequence (xchg 0 r) (answers rs)

-- the first j of these bytes are exchanged, and the next one in vain
abbrev pub broken_off : List ℕ → Form
broken_off bytes = Any (λ j. nat_lt j (length bytes)) (λ j. Sequence (free_xchgs (take j bytes)) (no_xchg (slice_index bytes j)))

-- the chip is selected for this
abbrev pub transaction : Form → Form
transaction a = Sequence (One (St csmode 2)) (Sequence a (One (St csmode 0)))

-- what a read of the register at address a sends before the bytes of its value come
abbrev pub read_head : ℕ → List ℕ
read_head a = 0x0B ∷ a / 256 ∷ a % 256 ∷ 0 ∷ []

-- all that a read sends
abbrev pub read_bytes : ℕ → List ℕ
read_bytes a = read_head a ++ 0 ∷ 0 ∷ 0 ∷ 0 ∷ []

-- all that a write of v sends
abbrev pub write_bytes : ℕ → ℕ → List ℕ
write_bytes a v = 0x02 ∷ a / 256 ∷ a % 256 ∷ bytes_of_word v

-- the register at address a is read, and its value is v
abbrev pub rd : ℕ → ℕ → Form
rd a v = transaction (Sequence (free_xchgs (read_head a)) (answers (bytes_of_word v)))

-- a read that was given up
abbrev pub no_rd : ℕ → Form
no_rd a = transaction (broken_off (read_bytes a))

-- v is written to the register at address a
abbrev pub wr : ℕ → ℕ → Form
wr a v = transaction (free_xchgs (write_bytes a v))

-- a write that was given up
abbrev pub no_wr : ℕ → ℕ → Form
no_wr a v = transaction (broken_off (write_bytes a v))

-- a read of a word that passes the test
abbrev pub rd_where : ℕ → (ℕ → Bool) → Form
rd_where a test = Any (λ v. is_word v && test v) (rd a)

-- ---- boot

abbrev pub pins : Form
pins = Sequence (One (St iof_en 0x3C)) (One (St output_en 0x80_0000))

-- what the register of the byte order holds once the chip is awake
abbrev pub byte_order : ℕ
byte_order = 0x8765_4321

abbrev pub vain : Form
vain = rd_where byte_test (λ v. not (v == byte_order))

abbrev pub busy : Form
busy = Any is_busy (rd mac_csr_cmd)

abbrev pub found : Form
found = Sequence pins (Sequence (at_most 999 vain) (rd byte_test byte_order))

abbrev pub wr_hw_cfg : Form
wr_hw_cfg = wr hw_cfg 0x10_0000

abbrev pub wr_mac_data : Form
wr_mac_data = wr mac_csr_data 0x0C

abbrev pub wr_mac_cmd : Form
wr_mac_cmd = wr mac_csr_cmd 0x8000_0001

abbrev pub set_up : Form
set_up = Sequence found (Sequence wr_hw_cfg (Sequence wr_mac_data wr_mac_cmd))

abbrev pub boot : Form
boot = Sequence set_up (Sequence (at_most 999 busy) (Any is_ready (rd mac_csr_cmd)))

-- a boot that was given up
abbrev pub no_boot : Form
no_boot =
    one_of (Sequence pins (Sequence (at_most 999 vain) (no_rd byte_test))) (
    Sequence pins (Exactly 1000 vain)
    ∷ Sequence found (no_wr hw_cfg 0x10_0000)
    ∷ Sequence found (Sequence wr_hw_cfg (no_wr mac_csr_data 0x0C))
    ∷ Sequence found (Sequence wr_hw_cfg (Sequence wr_mac_data (no_wr mac_csr_cmd 0x8000_0001)))
    ∷ Sequence set_up (Sequence (at_most 999 busy) (no_rd mac_csr_cmd))
    ∷ Sequence set_up (Exactly 1000 busy)
    ∷ []
    )

-- ---- packets

-- the number of packets that wait, as the register tells it in bits 23 to 16
abbrev pub waiting : ℕ → ℕ
waiting v = v / 2 ^ 16 % 2 ^ 8

-- no packet waits
abbrev pub empty : Form
empty = rd_where rx_fifo_inf (λ v. waiting v == 0)

-- one waits at least
abbrev pub filled : Form
filled = rd_where rx_fifo_inf (λ v. not (waiting v == 0))

-- a packet's length in bytes, bits 29 to 16 of its status
abbrev pub length_of : ℕ → ℕ
length_of s = s / 2 ^ 16 % 2 ^ 14

-- its error bit, bit 15
abbrev pub has_error : ℕ → Bool
has_error s = s / 2 ^ 15 % 2 == 1

-- the number of its words: one for each four bytes, begun or whole
abbrev pub word_count : ℕ → ℕ
word_count s = (length_of s + 3) / 4

-- a word with the status of a packet that has one word at least
abbrev pub has_words : ℕ → Bool
has_words s = is_word s && nat_lt 0 (word_count s)

-- the words are as many as the status says
abbrev pub fits : ℕ → List ℕ → Bool
fits s ws = length ws == word_count s && list_all is_word ws

-- its bytes are those of its words, cut to the length
abbrev pub packet_bytes : ℕ → List ℕ → List ℕ
packet_bytes s ws = take (length_of s) (flat_map bytes_of_word ws)

-- the packet counts
abbrev pub is_valid_packet : ℕ → List ℕ → Bool
is_valid_packet s ws = is_valid (has_error s) (packet_bytes s ws)

-- these words are read one after another
abbrev pub words : List ℕ → Form
words [] = Nothing
words (w ∷ ws) = Sequence (rd rx_data_fifo w) (words ws)

-- a packet of this status and these words
abbrev pub packet : ℕ → List ℕ → Form
packet s ws = Sequence filled (Sequence (rd rx_status_fifo s) (words ws))

-- some of its words are read, and the next one is given up
abbrev pub no_words : ℕ → Form
no_words s = Sequence (fewer_than (word_count s) (Any is_word (rd rx_data_fifo))) (no_rd rx_data_fifo)

-- ---- rounds

-- the value with bit 23 set to the command
abbrev pub with_command : ℕ → Bool → ℕ
with_command v c = v / 2 ^ 24 * 2 ^ 24 + (if c then 2 ^ 23 else 0) + v % 2 ^ 23

-- the lamp is switched
abbrev pub switch : Bool → Form
switch c = Any is_word (λ v. Sequence (One (Ld output_val v)) (One (St output_val (with_command v c))))

abbrev pub round : Form
round =
    one_of empty (
    Any is_word (λ s. AnyList (λ ws. fits s ws && not (is_valid_packet s ws)) (packet s))
    ∷ Any is_word (λ s. AnyList (λ ws. fits s ws && is_valid_packet s ws) (λ ws. Sequence (packet s ws) (switch (command (packet_bytes s ws)))))
    ∷ []
    )

-- a round that was given up
abbrev pub no_round : Form
no_round =
    one_of (no_rd rx_fifo_inf) (
    Sequence filled (no_rd rx_status_fifo)
    ∷ Any has_words (λ s. Sequence filled (Sequence (rd rx_status_fifo s) (no_words s)))
    ∷ []
    )

-- ---- the whole

abbrev pub good : Form
good =
    one_of (Sequence boot (any_number round)) (
    no_boot
    ∷ Sequence boot (Sequence (any_number round) no_round)
    ∷ []
    )
