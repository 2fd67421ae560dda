-- What private contracts cite: how a line is read behind others, and the digits in it.
use Rattle.std.specs.Prelude.{◌≡◌, ℕ, ◌+◌, ◌<◌, true, List, [], ◌∷◌, ◌++◌, ◌==◌, length, filter, find, All, Option}
use Rattle.std.specs.Char.{digit_char, to_ascii_lowercase}
use Rattle.lb_trace.specs.declared.Entry.{Entry}
use Rattle.lb_trace.specs.declared.Kind.{Kind}
use Rattle.lb_trace.specs.Frame.{FrameContent}
use Rattle.lb_lines.specs.declared.fault.LineKind.TheVariants.{Malformed}
use Rattle.lb_lines.specs.declared.fault.LineError.{LineError}
use Rattle.lb_lines.specs.declared.fault.LineError.TheVariants.{Line, Memory}
use Rattle.lb_lines.specs.declared.form.Refusal.{Refusal}
use Rattle.lb_lines.specs.declared.form.Refusal.TheVariants.{Outside, NoMemory}
use Rattle.lb_lines.specs.Lines.{has_bytes}
use Rattle.lb_lines.specs.Digits.{SpellsBytes}
use Rattle.lb_lines.specs.Form.{Form, SpellAll, IsOutside}
use Rattle.lb_lines.specs.Forms.{SpellsFrame}
use Rattle.lb_lines.specs.Log.{kind_letter, HasDigit}

-- the line is in the form behind values that were read, and what it says is added to them
pub record Takes {A : Type 0} (form : Form A) (line : List ℕ) (before after : List A) : Type 0 where
  pub said : List A
  pub spelled : form.Spells line said
  pub joined : after ≡ before ++ said
  pub short : All form.IsShort said
  pub few : form.IsFew (length after)

-- why a line isn't taken
abbrev pub Refuses : {A : Type 0} → Form A → List ℕ → List A → Refusal → Type 0
Refuses form line before (Outside kind) = IsOutside form before line kind
Refuses form line before NoMemory = Unit {0}

-- a piece of a text, whose number this is, adds what it says to the values before it: nothing, if it
-- is empty
pub record Adds {A : Type 0} (form : Form A) (number : ℕ) (piece : List ℕ) (before after : List A)
    : Type 0 where
  pub said : List A
  pub spelled : SpellAll form (filter has_bytes ((number, piece) ∷ [])) said
  pub joined : after ≡ before ++ said
  pub short : All form.IsShort said
  pub few : form.IsFew (length before) → form.IsFew (length after)

-- the error of a piece that is outside the form
abbrev pub RefusesAt : {A : Type 0} → Form A → ℕ → List ℕ → List A → LineError → Type 0
RefusesAt form number piece before (Line fault) =
    (has_bytes (number, piece) ≡ true) × (fault.line ≡ number)
    × IsOutside form before piece fault.kind
RefusesAt form number piece before Memory = Unit {0}

-- the character is the digit, in either case
pub record IsDigit (c d : ℕ) : Type 0 where
  pub below : d < 16
  pub char : to_ascii_lowercase c ≡ digit_char d

-- the first of these kinds that has this letter
abbrev pub kind_among : ℕ → List Kind → Option Kind
kind_among letter kinds = find (λ kind. kind_letter kind == letter) kinds

-- two characters are an entry
pub record IsEntry (letter digit : ℕ) (entry : Entry) : Type 0 where
  pub of_kind : letter ≡ kind_letter entry.kind
  pub of_worker : digit ≡ 48 + entry.worker
  pub has_digit : HasDigit entry

-- why digits are no bytes
abbrev pub RefusesBytes : List ℕ → Refusal → Type 0
RefusesBytes digits (Outside kind) =
    (kind ≡ Malformed) × ((bytes : List ℕ) → SpellsBytes digits bytes → ⊥)
RefusesBytes digits NoMemory = Unit {0}

-- why a line is no frame
abbrev pub RefusesFrame : List ℕ → Refusal → Type 0
RefusesFrame line (Outside kind) =
    (kind ≡ Malformed) × ((frame : FrameContent) → SpellsFrame line frame → ⊥)
RefusesFrame line NoMemory = Unit {0}
