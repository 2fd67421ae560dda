-- What lines of one form say, and the first line outside the form.
use Rattle.std.specs.Prelude.{◌≡◌, ℕ, List, [], ◌∷◌, ◌++◌, length, All}
use Rattle.lb_lines.specs.declared.fault.LineKind.{LineKind}
use Rattle.lb_lines.specs.declared.fault.LineKind.TheVariants.{Malformed, TooLong, TooMany}
use Rattle.lb_lines.specs.declared.fault.LineFault.{LineFault}
use Rattle.lb_lines.specs.declared.fault.LineError.{LineError}
use Rattle.lb_lines.specs.declared.fault.LineError.TheVariants.{Line, Memory}

-- the form of a line, whose values are of type A
pub record Form (A : Type 0) : Type 1 where
  -- a line spells these values
  pub Spells : List ℕ → List A → Type 0
  -- a value isn't too long
  pub IsShort : A → Type 0
  -- so many values of a whole text aren't too many
  pub IsFew : ℕ → Type 0

-- the lines, one after the other, spell the values
abbrev pub SpellAll : {A : Type 0} → Form A → List (ℕ × List ℕ) → List A → Type 0
SpellAll form [] values = values ≡ []
SpellAll {A} form (line ∷ lines) values =
    (said : List A) × (rest : List A) × (values ≡ said ++ rest) × form.Spells line.1 said
    × SpellAll form lines rest

-- each line is in the form, and they say these values
pub record Say {A : Type 0} (form : Form A) (lines : List (ℕ × List ℕ)) (values : List A)
    : Type 0 where
  pub spelled : SpellAll form lines values
  pub short : All form.IsShort values
  pub few : form.IsFew (length values)

-- why a line is outside the form, if those before it say `before`: the first of the kinds that fits
abbrev pub IsOutside : {A : Type 0} → Form A → List A → List ℕ → LineKind → Type 0
IsOutside {A} form before line Malformed = (said : List A) → form.Spells line said → ⊥
IsOutside {A} form before line TooLong =
    (said : List A) × form.Spells line said × (All form.IsShort said → ⊥)
IsOutside {A} form before line TooMany =
    (said : List A) × form.Spells line said × All form.IsShort said
    × (form.IsFew (length (before ++ said)) → ⊥)

-- the fault names the first line that is outside the form: each line before it is in the form
pub record IsFirstOutside {A : Type 0} (form : Form A) (lines : List (ℕ × List ℕ)) (fault : LineFault)
    : Type 0 where
  pub front : List (ℕ × List ℕ)
  pub line : ℕ × List ℕ
  pub behind : List (ℕ × List ℕ)
  pub whole : lines ≡ front ++ line ∷ behind
  pub before : List A
  pub in_form : Say form front before
  pub number : fault.line ≡ line.0
  pub outside : IsOutside form before line.1 fault.kind

-- what an error says of the lines
abbrev pub Explains : {A : Type 0} → Form A → List (ℕ × List ℕ) → LineError → Type 0
Explains form lines (Line fault) = IsFirstOutside form lines fault
Explains form lines Memory = Unit {0}
