-- What the parts of a scan say. Only contracts of private functions cite it.
use Rattle.std.specs.Prelude.{◌≡◌, ℕ, ◌<◌, ◌≤◌, ◌^◌, ◌⊎◌, Bool, true, false, ◌&&◌, ◌==◌, List, [], ◌∷◌, ◌++◌, length, take, drop, slice_index, Option, Some, None, is_some, MatchOption}
use Rattle.std.specs.Borrow.{Bor}
use Rattle.std.specs.Char.{is_digit}
use Rattle.std.specs.List.{list_all, list_any, find}
use Rattle.std.specs.Str.Parse.{digits_value}
use Rattle.lb_syntax.specs.Brackets.{most_brackets}
use Rattle.lb_syntax.specs.Names.{Text}
use Rattle.lb_spelling.specs.declared.fault.TextKind.TheVariants.{Ended, NumberTooWide}
use Rattle.lb_spelling.specs.declared.symbol.Symbol.{Symbol}
use Rattle.lb_spelling.specs.InternalMachine.{Stack, Lex, Between, InComment, Part, Stuck, run, next, next_of, unexpected}
use Rattle.lb_spelling.specs.Tokens.{Token, Numeral, Named, Mode, Outside, Slash, Comment, gap, is_blank, is_word_byte, is_word, is_hex, hex_mark, same, begins_with, spelling, lexeme, joins, IsLongest}
use Rattle.lb_scan.specs.declared.syntax_error.SyntaxError.{SyntaxError}
use Rattle.lb_scan.specs.declared.token.Token.{Token as ScannedToken}
use Rattle.lb_scan.specs.Tokens.{token_of}

-- ---- blanks and comments

abbrev pub lex_of : Mode → Lex
lex_of Outside = Between
lex_of Slash = Part (47 ∷ [])
lex_of Comment = InComment

-- blanks and comments, begun in a mode, stand in s before rest
pub record Skips (m : Mode) (s rest : Text) : Type 0 where
  pub runs : (n : ℕ) (k : Stack) → n ≤ most_brackets → run most_brackets s (lex_of m) n k ≡ run most_brackets rest Between n k
  pub last : gap true m s ≡ gap true Outside rest
  pub front : ((before : Text) × (s ≡ before ++ rest) × (gap false m before ≡ true)) ⊎ (rest ≡ [])

-- no blank and no comment stands at the front
abbrev pub BeginsToken : Text → Type 0
BeginsToken [] = Unit {0}
BeginsToken (b ∷ []) = is_blank b ≡ false
BeginsToken (b ∷ c ∷ s) = (is_blank b ≡ false) × ((b == 47) && (c == 47) ≡ false)

-- what is left behind one blank or one comment; none, where neither stands at the front
abbrev pub SkipsOne : Text → Option (Bor Text) → Type 0
SkipsOne s left = MatchOption left (BeginsToken s) (λ rest. Skips Outside s rest.now)

-- ---- faults

-- behind the first byte of a token that x expects, s has this fault, whatever is to come behind the token
abbrev pub IsStuckIn : Symbol → Text → SyntaxError → Type 0
IsStuckIn x s error = (n : ℕ) (k : Stack) → run most_brackets (drop 1 s) (Part (take 1 s)) n (x ∷ k) ≡ Stuck error.kind error.left

-- ---- numbers

-- the text begins with a digit
abbrev pub begins_with_digit : ℕ → Text → Bool
begins_with_digit radix [] = false
begins_with_digit radix (b ∷ s) = is_digit b radix

-- no letter, digit or underscore comes next
abbrev pub EndsRun : Text → Type 0
EndsRun [] = Unit {0}
EndsRun (b ∷ s) = is_word_byte b ≡ false

-- digits stand in s before rest, one or more
pub record Digits (radix : ℕ) (s before rest : Text) : Type 0 where
  pub parts : s ≡ before ++ rest
  pub some : 0 < length before
  pub all : list_all (λ b. is_digit b radix) before ≡ true
  pub small : digits_value radix before < 2 ^ 32

-- the longest run at the front of s is digits, of this value
pub record ReadsDigits (radix : ℕ) (s : Text) (value : ℕ) (rest : Text) : Type 0 where
  pub before : Text
  pub digits : Digits radix s before rest
  pub value_is : digits_value radix before ≡ value
  pub ends : EndsRun rest

-- a letter, a digit or an underscore stands behind digits, and makes no number with them
pub record DigitsFault (radix : ℕ) (s : Text) (error : SyntaxError) : Type 0 where
  pub before : Text
  pub byte : ℕ
  pub more : Text
  pub digits : Digits radix s before (byte ∷ more)
  pub in_run : is_word_byte byte ≡ true
  pub left : error.left ≡ length (byte ∷ more)
  pub kind : ((is_digit byte radix ≡ false) × (error.kind ≡ unexpected byte)) ⊎ ((is_digit byte radix ≡ true) × (2 ^ 32 ≤ digits_value radix (before ++ byte ∷ [])) × (error.kind ≡ NumberTooWide))

-- no digit stands at the front
abbrev pub NoDigitFault : Text → SyntaxError → Type 0
NoDigitFault [] error = (error.kind ≡ Ended) × (error.left ≡ 0)
NoDigitFault (b ∷ s) error = (is_digit b 16 ≡ false) × (error.kind ≡ unexpected b) × (error.left ≡ length (b ∷ s))

-- behind the mark of a hexadecimal number no digit stands, or digits and something that makes no number with them
abbrev pub HexadecimalFault : Text → SyntaxError → Type 0
HexadecimalFault s error = NoDigitFault s error ⊎ DigitsFault 16 s error

-- what stands behind the mark of a hexadecimal number; none, where no mark stands at the front
abbrev pub IsBehindMark : Text → Option (Bor Text) → Type 0
IsBehindMark s left = MatchOption left (is_hex s ≡ false) (λ rest. s ≡ hex_mark ++ rest.now)

-- the number n; none, where it is 2^32 or more
abbrev pub IsWordOrNone : ℕ → Option ℕ → Type 0
IsWordOrNone n result = MatchOption result (2 ^ 32 ≤ n) (λ m. (m ≡ n) × (m < 2 ^ 32))

-- the number stands at the front of s, before rest
pub record ReadsNumber (s : Text) (value : ℕ) (rest : Text) : Type 0 where
  pub word : Text
  pub parts : s ≡ word ++ rest
  pub spelled : lexeme word ≡ Some (Numeral value)
  pub longest : IsLongest word rest

-- no number stands at the front of s
abbrev pub ReadsNoNumber : Text → Type 0
ReadsNoNumber s = (value : ℕ) (rest : Text) → ¬ (ReadsNumber s value rest)

-- wherever a number is expected
abbrev pub NumberFault : Text → SyntaxError → Type 0
NumberFault s error = (x : Symbol) → is_some (next x (Numeral 0)) ≡ true → IsStuckIn x s error

-- ---- words and signs

-- each byte of the first len of s makes what stands before it longer, and the next byte doesn't, where len isn't over 32
pub record IsSpelled (s : Text) (len : ℕ) : Type 0 where
  pub some : 0 < len
  pub within : len ≤ length s
  pub short : len ≤ 33
  pub joined : (i : ℕ) → 0 < i → i < len → joins (take i s) (slice_index s i) ≡ true
  pub longest : len ≤ 32 → IsLongest (take len s) (drop len s)

-- w spells the token t, which x takes
pub record IsTaken (x : Symbol) (w : Text) (t : Token) : Type 0 where
  pub spelled : lexeme w ≡ Some t
  pub taken : is_some (next x t) ≡ true

-- the token that w spells, which x takes; none, where x takes no token that w spells
abbrev pub IsTokenFor : Symbol → Text → Option ScannedToken → Type 0
IsTokenFor x w found = MatchOption found (next_of x (lexeme w) ≡ None) (λ t. IsTaken x w (token_of t))

-- the token t, which x takes, stands at the front of s, before rest
pub record ReadsWord (x : Symbol) (s : Text) (t : Token) (rest : Text) : Type 0 where
  pub word : Text
  pub parts : s ≡ word ++ rest
  pub spelled : lexeme word ≡ Some t
  pub longest : IsLongest word rest
  pub taken : is_some (next x t) ≡ true

-- no token that x takes stands at the front of s
abbrev pub ReadsNoWord : Symbol → Text → Type 0
ReadsNoWord x s = (t : Token) (rest : Text) → ¬ (ReadsWord x s t rest)

-- x takes names, and these bytes begin one
abbrev pub begins_name : Symbol → Text → Bool
begins_name x s = is_some (next x (Named [])) && is_word s

-- ---- tables of tokens

-- the first of the tokens that is spelled so
abbrev pub first_spelled : List Token → Text → Option Token
first_spelled ts s = find (λ t. same (spelling t) s) ts

-- these bytes begin the spelling of one of the tokens
abbrev pub begins_some : List Token → Text → Bool
begins_some ts s = list_any (λ t. begins_with s (spelling t)) ts

-- these bytes begin the spelling of one of the tokens that x takes
abbrev pub begins_taken : Symbol → List Token → Text → Bool
begins_taken x ts s = list_any (λ t. is_some (next x t) && begins_with s (spelling t)) ts

-- the first of these tokens of the code that is spelled so
abbrev pub first_scanned : List ScannedToken → Text → Option ScannedToken
first_scanned ts s = find (λ t. same (spelling (token_of t)) s) ts

-- these bytes begin the spelling of one of these tokens of the code
abbrev pub begins_scanned : List ScannedToken → Text → Bool
begins_scanned ts s = list_any (λ t. begins_with s (spelling (token_of t))) ts

-- these bytes begin the spelling of one of these tokens of the code that x takes
abbrev pub begins_scanned_taken : Symbol → List ScannedToken → Text → Bool
begins_scanned_taken x ts s = list_any (λ t. is_some (next x (token_of t)) && begins_with s (spelling (token_of t))) ts
