-- The forms of the lines of replies, traces, frames and logs.
use Rattle.std.specs.Prelude.{◌≡◌, ℕ, ◌<◌, ◌≤◌, Bool, true, false, List, [], ◌∷◌, ◌++◌, length, All, ⊤, codes}
use Rattle.std.specs.List.{flat_map}
use Rattle.lb_trace.specs.declared.Event.{Event}
use Rattle.lb_trace.specs.declared.Event.TheVariants.{Ld, St}
use Rattle.lb_trace.specs.declared.Entry.{Entry}
use Rattle.lb_trace.specs.Frame.{FrameContent}
use Rattle.lb_lines.specs.Digits.{SpellsWord, SpellsBytes}
use Rattle.lb_lines.specs.Form.{Form}
use Rattle.lb_lines.specs.Log.{entry_text, HasDigit}

-- a line of one value
abbrev pub One : {A : Type 0} → (List ℕ → A → Type 0) → List ℕ → List A → Type 0
One {A} Spells line values = (value : A) × Spells line value × (values ≡ value ∷ [])

-- a reply: its eight digits
abbrev pub reply_form : Form ℕ
reply_form = record { Spells = One SpellsWord; IsShort = λ _. ⊤; IsFew = λ _. ⊤ }

-- an address and a value with one space between
pub record SpellsPair (text : List ℕ) (addr value : ℕ) : Type 0 where
  pub addr_text : List ℕ
  pub value_text : List ℕ
  pub whole : text ≡ addr_text ++ (codes " " ++ value_text)
  pub spells_addr : SpellsWord addr_text addr
  pub spells_value : SpellsWord value_text value

-- a word and a space, then an address and a value
abbrev pub SpellsAccess : List ℕ → List ℕ → ℕ → ℕ → Type 0
SpellsAccess word line addr value =
    (pair : List ℕ) × (line ≡ word ++ pair) × SpellsPair pair addr value

-- an event's line
abbrev pub SpellsEvent : List ℕ → Event → Type 0
SpellsEvent line (Ld addr value) = SpellsAccess (codes "ld ") line addr value
SpellsEvent line (St addr value) = SpellsAccess (codes "st ") line addr value

-- a trace: an event in each line
abbrev pub trace_form : Form Event
trace_form = record { Spells = One SpellsEvent; IsShort = λ _. ⊤; IsFew = λ _. ⊤ }

-- `!` marks a frame as faulty
abbrev pub error_mark : Bool → List ℕ
error_mark true = codes "!"
error_mark false = []

-- a frame's line: the mark and the digits of at least one byte
pub record SpellsFrame (line : List ℕ) (frame : FrameContent) : Type 0 where
  pub digits : List ℕ
  pub whole : line ≡ error_mark frame.error ++ digits
  pub bytes : SpellsBytes digits frame.bytes
  pub some : 0 < length frame.bytes

-- the frames of a script: at most 64, of at most 2,000 bytes each
abbrev pub frame_form : Form FrameContent
frame_form = record {
  Spells = One SpellsFrame;
  IsShort = λ frame. length frame.bytes ≤ 2000;
  IsFew = λ n. n ≤ 64;
}

-- a line of a log: at least one entry, with workers 0 to 7
pub record SpellsEntries (line : List ℕ) (entries : List Entry) : Type 0 where
  pub some : 0 < length entries
  pub workers : All HasDigit entries
  pub text : line ≡ flat_map entry_text entries

-- a log: entries in each line
abbrev pub log_form : Form Entry
log_form = record { Spells = SpellsEntries; IsShort = λ _. ⊤; IsFew = λ _. ⊤ }
