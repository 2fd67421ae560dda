-- The text of a log.
use Rattle.std.specs.Prelude.{◌≡◌, ℕ, ◌+◌, ◌<◌, List, [], ◌∷◌, ◌++◌, length, All, codes}
use Rattle.std.specs.List.{flat_map}
use Rattle.lb_trace.specs.declared.Kind.{Kind}
use Rattle.lb_trace.specs.declared.Kind.TheVariants.{Fetch, Decode, Execute, Ram, Mmio, Writeback, Boot, Shift, Arrive}
use Rattle.lb_trace.specs.declared.Entry.{Entry}

-- a kind's letter: `F`, `D`, `X`, `R`, `M`, `W`, `B`, `S`, `A`
abbrev pub kind_letter : Kind → ℕ
kind_letter Fetch = 70
kind_letter Decode = 68
kind_letter Execute = 88
kind_letter Ram = 82
kind_letter Mmio = 77
kind_letter Writeback = 87
kind_letter Boot = 66
kind_letter Shift = 83
kind_letter Arrive = 65

-- an entry: its kind's letter and its worker's digit, `0` being 48
abbrev pub entry_text : Entry → List ℕ
entry_text e = kind_letter e.kind ∷ (48 + e.worker) ∷ []

-- the worker's number is a digit from 0 to 7
abbrev pub HasDigit : Entry → Type 0
HasDigit e = e.worker < 8

-- a line of entries
abbrev pub log_line : List Entry → List ℕ
log_line entries = flat_map entry_text entries ++ codes "\n"

-- what is left behind the full lines is one line more, if there is something left
abbrev pub last_lines : List Entry → List (List Entry)
last_lines [] = []
last_lines (entry ∷ rest) = (entry ∷ rest) ∷ []

-- the text of a log: 32 entries to a line, the last line shorter
pub record IsLogText (log : List Entry) (text : List ℕ) : Type 0 where
  pub full : List (List Entry)
  pub rest : List Entry
  pub whole : log ≡ flat_map (λ line. line) full ++ rest
  pub lengths : All (λ line. length line ≡ 32) full
  pub shorter : length rest < 32
  pub printed : text ≡ flat_map log_line (full ++ last_lines rest)
