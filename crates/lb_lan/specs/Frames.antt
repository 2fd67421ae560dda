-- Frames that arrive from the network.
use Rattle.std.specs.Prelude.{ℕ, ◌+◌, ◌*◌, ◌/◌, ◌%◌, ◌^◌, ◌==◌, nat_lt, nat_le, Bool, true, ◌&&◌, if◌then◌else◌, List, [], ◌∷◌, ◌++◌, length}
use Rattle.lb_trace.specs.Frame.{FrameContent}
use Rattle.lb_word.specs.Bytes.{word_of_bytes}
use Rattle.lb_lan.specs.Registers.{Chip}

-- the chip after it was woken
abbrev pub woken : Chip → Chip
woken c = record c { awake = true }

-- ---- what a frame puts into the queue

-- the words of a frame, the first byte least significant, padded with 0
abbrev pub words_of : List ℕ → List ℕ
words_of [] = []
words_of (p ∷ []) = word_of_bytes (p ∷ 0 ∷ 0 ∷ 0 ∷ []) ∷ []
words_of (p ∷ q ∷ []) = word_of_bytes (p ∷ q ∷ 0 ∷ 0 ∷ []) ∷ []
words_of (p ∷ q ∷ r ∷ []) = word_of_bytes (p ∷ q ∷ r ∷ 0 ∷ []) ∷ []
words_of (p ∷ q ∷ r ∷ s ∷ bytes) = word_of_bytes (p ∷ q ∷ r ∷ s ∷ []) ∷ words_of bytes

-- the status of a frame: its length from bit 16 on, its error in bit 15
abbrev pub status_of : FrameContent → ℕ
status_of f = 2 ^ 16 * length f.bytes + (if f.error then 2 ^ 15 else 0)

-- the chip after the frame arrived: the status joins those that wait, and the words likewise
abbrev pub arrived : FrameContent → Chip → Chip
arrived f c = record c { statuses = c.statuses ++ status_of f ∷ []; words = c.words ++ words_of f.bytes }

-- ---- when a frame may arrive

abbrev pub is_receiving : Chip → Bool
is_receiving c = c.awake && c.mac_control / 2 ^ 2 % 2 == 1

-- the most statuses, and the most bytes of data, that wait
abbrev pub most_statuses : ℕ
most_statuses = 16

abbrev pub most_data : ℕ
most_data = 16384

-- reception is on, a status has room, and the waiting data has room for the frame's, padded to whole words
abbrev pub has_room : FrameContent → Chip → Bool
has_room f c =
    is_receiving c && nat_lt (length c.statuses) most_statuses
    && nat_le (4 * length (c.words ++ words_of f.bytes)) most_data
