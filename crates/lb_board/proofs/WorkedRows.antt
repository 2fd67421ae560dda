-- Worked examples of what the board does.
use Rattle.std.proofs.Common.{◌≡◌, ℕ, true, false, List, [], ◌∷◌, ◌++◌, refl}
use Rattle.lb_trace.specs.Frame.{FrameContent}
use Rattle.lb_trace.specs.declared.Kind.TheVariants.{Boot, Shift, Arrive}
use Rattle.lb_board.specs.Registers.{value_in, register_at, is_lit}
use Rattle.lb_board.specs.Rows.{by_bytes, is_enabled}
use Rattle.lb_board.specs.Steps.{BoardState, Step, Reads, Writes, Acts, board, after_steps}

-- a byte goes out over the bus, and the one that came back is read
abbrev exchange : ℕ → List Step
exchange b = Writes 0x10024048 b ∷ Acts Shift ∷ Reads 0x1002404C ∷ []

-- what reads of rxdata give in turn
abbrev read_back : List Step → BoardState → List ℕ
read_back [] s = []
read_back (Reads a ∷ xs) s = value_in (register_at a) s ∷ read_back xs (after_steps (Reads a ∷ []) s)
read_back (Writes a v ∷ xs) s = read_back xs (after_steps (Writes a v ∷ []) s)
read_back (Acts k ∷ xs) s = read_back xs (after_steps (Acts k ∷ []) s)

abbrev selected_bus : List Step
selected_bus = Writes 0x10024018 6 ∷ []

abbrev byte_test : List Step
byte_test = exchange 0x0B ++ exchange 0 ++ exchange 0x64 ++ exchange 0 ++ exchange 0 ++ exchange 0 ++ exchange 0 ++ exchange 0

-- BYTE_TEST read byte by byte: awake, not awake, and with no chip selected
test_awake : read_back byte_test (board [] (Acts Boot ∷ selected_bus)) ≡ 0xFF ∷ 0xFF ∷ 0xFF ∷ 0xFF ∷ 0x21 ∷ 0x43 ∷ 0x65 ∷ 0x87 ∷ []
test_awake = refl

test_asleep : read_back byte_test (board [] selected_bus) ≡ 0xFF ∷ 0xFF ∷ 0xFF ∷ 0xFF ∷ 0 ∷ 0 ∷ 0 ∷ 0 ∷ []
test_asleep = refl

test_elsewhere : read_back byte_test (board [] (Acts Boot ∷ [])) ≡ 0xFF ∷ 0xFF ∷ 0xFF ∷ 0xFF ∷ 0xFF ∷ 0xFF ∷ 0xFF ∷ 0xFF ∷ []
test_elsewhere = refl

-- the lamp, and a mode of which two bits are kept
lamp_on : is_lit (board [] (Writes 0x1001200C 0x00800000 ∷ [])).output_val ≡ true
lamp_on = refl

lamp_off : is_lit (board [] (Writes 0x1001200C 0xFF7FFFFF ∷ [])).output_val ≡ false
lamp_off = refl

mode_kept : (board [] selected_bus).csmode ≡ 2
mode_kept = refl

-- the empty receive FIFO, and the byte that comes back in another mode
nothing_received : read_back (Reads 0x1002404C ∷ exchange 7) (board [] []) ≡ 0x80000000 ∷ 0xFF ∷ []
nothing_received = refl

-- the ninth byte is lost
abbrev nine_sent : List Step
nine_sent =
    Writes 0x10024048 1 ∷ Writes 0x10024048 2 ∷ Writes 0x10024048 3 ∷ Writes 0x10024048 4 ∷ Writes 0x10024048 5
    ∷ Writes 0x10024048 6 ∷ Writes 0x10024048 7 ∷ Writes 0x10024048 0x108 ∷ Writes 0x10024048 9 ∷ []

nine_kept : (board [] nine_sent).send_fifo ≡ 1 ∷ 2 ∷ 3 ∷ 4 ∷ 5 ∷ 6 ∷ 7 ∷ 8 ∷ []
nine_kept = refl

-- a frame arrives once reception was switched on over the bus
abbrev write : ℕ → ℕ → ℕ → List Step
write a low high =
    Writes 0x10024018 2 ∷ exchange 2 ++ exchange 0 ++ exchange a ++ exchange low ++ exchange 0 ++ exchange 0 ++ exchange high
    ++ Writes 0x10024018 0 ∷ []

abbrev frame : FrameContent
frame = record { bytes = 1 ∷ 2 ∷ 3 ∷ 4 ∷ 5 ∷ []; error = true }

abbrev receiving : BoardState
receiving = board (frame ∷ []) (Acts Boot ∷ write 0xA8 0x0C 0 ++ write 0xA4 1 0x80)

not_yet : is_enabled by_bytes Arrive (board (frame ∷ []) (Acts Boot ∷ write 0xA8 0x0C 0)) ≡ false
not_yet = refl

may_arrive : is_enabled by_bytes Arrive receiving ≡ true
may_arrive = refl

came_in : (after_steps (Acts Arrive ∷ []) receiving).lan.chip.words ≡ 0x04030201 ∷ 0x00000005 ∷ []
came_in = refl

no_frame_left : is_enabled by_bytes Arrive (after_steps (Acts Arrive ∷ []) receiving) ≡ false
no_frame_left = refl
