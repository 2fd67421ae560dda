-- Which texts are accepted, and the place and the kind of the fault of one that isn't.
use Rattle.std.specs.Prelude.{◌≡◌, ℕ, ◌≤◌, ◌⊎◌, Bool, true, false, ◌&&◌, ◌||◌, ◌==◌, nat_le, if◌then◌else◌, List, [], ◌∷◌, ◌++◌, length, take, drop, IsTrue, ◌^◌}
use Rattle.lb_syntax.specs.Names.{Text, starts_name}
use Rattle.lb_syntax.specs.Tree.{Procedure}
use Rattle.lb_syntax.specs.Brackets.{open_after, most_brackets}
use Rattle.lb_spelling.specs.declared.fault.TextKind.{TextKind}
use Rattle.lb_spelling.specs.declared.fault.TextKind.TheVariants.{Ended, BadByte, TooDeep, NumberTooWide, NameTooLong, Unexpected}
use Rattle.lb_spelling.specs.declared.fault.TextFault.{TextFault}
use Rattle.lb_spelling.specs.Tokens.{is_word_byte, is_number, is_digit_of, value, Mode, Outside, Slash, Comment, mode_after}
use Rattle.lb_spelling.specs.Grammar.{IsText}

-- ---- brackets

-- the brackets open behind a byte, of n before it; those in comments don't count
abbrev pub open_in : Mode → ℕ → ℕ → ℕ
open_in Outside n b = open_after n b
open_in Slash n b = open_after n b
open_in Comment n b = n

-- nowhere in the text are more than limit brackets open, of which n are open before it
abbrev pub within : ℕ → Text → Mode → ℕ → Bool
within limit [] m n = true
within limit (b ∷ s) m n = nat_le (open_in m n b) limit && within limit s (mode_after m b) (open_in m n b)

-- nowhere more than 64 brackets `(` and `{` are open outside comments
abbrev pub IsShallow : Text → Type 0
IsShallow s = within most_brackets s Outside 0 ≡ true

-- ---- which texts are accepted

-- the text is in the grammar, as the program p, and shallow
abbrev pub IsAccepted : List Procedure → Text → Type 0
IsAccepted p s = IsText p s × IsShallow s

abbrev pub IsRefused : Text → Type 0
IsRefused s = (p : List Procedure) → IsAccepted p s → ⊥

-- ---- the place

-- some text of the grammar begins so, the limit on brackets aside
abbrev pub Viable : Text → Type 0
Viable front = (p : List Procedure) × (more : Text) × IsText p (front ++ more)

-- the length of the longest front of s that is viable and shallow
pub record IsPlace (s : Text) (at : ℕ) : Type 0 where
  pub bound : at ≤ length s
  pub viable : Viable (take at s)
  pub shallow : IsShallow (take at s)
  pub longest : (n : ℕ) → n ≤ length s → Viable (take n s) → IsShallow (take n s) → n ≤ at

-- ---- the kind

-- tab, LF, CR and 0x20 to 0x7E
unfoldable pub is_plain : ℕ → Bool
is_plain b = (b == 9) || (b == 10) || (b == 13) || (nat_le 32 b && nat_le b 126)

-- the letters, digits and underscores that end a text, behind those of run
abbrev pub last_run : Text → Text → Text
last_run run [] = run
last_run run (b ∷ s) = last_run (if is_word_byte b then run ++ b ∷ [] else []) s

-- the run is a number, b is a digit of it, and makes it 2^32 or more
abbrev pub IsTooWide : Text → ℕ → Type 0
IsTooWide run b = IsTrue (is_number run) × IsTrue (is_digit_of run b) × (2 ^ 32 ≤ value (run ++ b ∷ []))

-- b is a letter, a digit or an underscore behind a run of 32 that begins with no digit
abbrev pub IsTooLong : Text → ℕ → Type 0
IsTooLong run b = IsTrue (is_word_byte b) × (length run ≡ 32) × IsTrue (starts_name run)

-- this is true of the byte at the front
abbrev pub OfByte : Text → (ℕ → Type 0) → Type 0
OfByte [] P = ⊥
OfByte (b ∷ rest) P = P b

-- where each kind fits
abbrev pub Suits : Text → ℕ → TextKind → Type 0
Suits s at Ended = at ≡ length s
Suits s at BadByte = OfByte (drop at s) (λ b. is_plain b ≡ false)
Suits s at TooDeep = OfByte (drop at s) (λ b. (IsShallow (take at s ++ b ∷ []) → ⊥) × Viable (take at s ++ b ∷ []))
Suits s at NumberTooWide = OfByte (drop at s) (λ b. IsTooWide (last_run [] (take at s)) b)
Suits s at NameTooLong = OfByte (drop at s) (λ b. IsTooLong (last_run [] (take at s)) b)
Suits s at Unexpected = Unit {0}

abbrev pub kinds : List TextKind
kinds = Ended ∷ BadByte ∷ TooDeep ∷ NumberTooWide ∷ NameTooLong ∷ Unexpected ∷ []

-- the kind is the first of the table that fits
abbrev pub IsFirst : (TextKind → Type 0) → List TextKind → TextKind → Type 0
IsFirst P [] kind = ⊥
IsFirst P (k ∷ ks) kind = ((kind ≡ k) × P k) ⊎ ((P k → ⊥) × IsFirst P ks kind)

abbrev pub IsKind : Text → ℕ → TextKind → Type 0
IsKind s at kind = IsFirst (Suits s at) kinds kind

-- the fault of a text that is refused
pub record IsFault (s : Text) (fault : TextFault) : Type 0 where
  pub refused : IsRefused s
  pub place : IsPlace s fault.at
  pub kind : IsKind s fault.at fault.kind
