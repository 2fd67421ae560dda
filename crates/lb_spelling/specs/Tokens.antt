-- Tokens: how they are spelled, and where one stands in a text.
use Rattle.std.specs.Prelude.{◌≡◌, ℕ, ◌^◌, Bool, true, false, not, ◌&&◌, ◌||◌, ◌==◌, nat_lt, nat_le, if◌then◌else◌, List, [], ◌∷◌, ◌++◌, length, drop, Option, Some, None, codes}
use Rattle.std.specs.List.{list_all, list_any, find}
use Rattle.std.specs.Char.{is_digit}
use Rattle.std.specs.Str.Parse.{digits_value}
use Rattle.lb_syntax.specs.Names.{Text, is_name_byte, is_name, starts_name}
use Rattle.lb_syntax.specs.Printing.{op_text, width_text, action_text}
use Rattle.lb_syntax.specs.declared.tree.Op.{Op}
use Rattle.lb_syntax.specs.declared.tree.Op.TheVariants.{Add, Sub, Mul, Mulhuu, Divu, Remu, And, Or, Xor, Sru, Slu, Srs, Lts, Ltu, Eq}
use Rattle.lb_syntax.specs.declared.tree.Width.{Width}
use Rattle.lb_syntax.specs.declared.tree.Width.TheVariants.{One, Two, Four}
use Rattle.lb_syntax.specs.declared.tree.Action.{Action}
use Rattle.lb_syntax.specs.declared.tree.Action.TheVariants.{Read, Write}

-- ---- bytes

-- space, tab, LF and CR
unfoldable pub is_blank : ℕ → Bool
is_blank b = (b == 32) || (b == 9) || (b == 10) || (b == 13)

-- a letter, a digit or an underscore: what runs of words and numbers are made of
unfoldable pub is_word_byte : ℕ → Bool
is_word_byte b = is_name_byte b

-- u is the beginning of w
unfoldable pub begins_with : Text → Text → Bool
begins_with [] w = true
begins_with (a ∷ u) [] = false
begins_with (a ∷ u) (b ∷ w) = (a == b) && begins_with u w

-- both are the same bytes
unfoldable pub same : Text → Text → Bool
same u w = begins_with u w && begins_with w u

-- ---- numbers

-- what a hexadecimal number begins with
abbrev pub hex_mark : Text
hex_mark = codes "0x"

unfoldable pub is_hex : Text → Bool
is_hex w = begins_with hex_mark w

-- 16 behind `0x`, else 10
abbrev pub radix : Text → ℕ
radix w = if is_hex w then 16 else 10

-- the digits of a number: all that stands behind `0x`, else all
abbrev pub digits : Text → Text
digits w = if is_hex w then drop 2 w else w

-- a digit of the base that w is written in
unfoldable pub is_digit_of : Text → ℕ → Bool
is_digit_of w b = is_digit b (radix w)

unfoldable pub value : Text → ℕ
value w = digits_value (radix w) (digits w)

abbrev pub is_empty : Text → Bool
is_empty [] = true
is_empty (b ∷ w) = false

-- one digit or more, and nothing else but the mark
unfoldable pub is_numeral : Text → Bool
is_numeral w = not (is_empty (digits w)) && list_all (is_digit_of w) (digits w)

-- a number is a numeral below 2^32
unfoldable pub is_number : Text → Bool
is_number w = is_numeral w && nat_lt (value w) (2 ^ 32)

-- ---- words

-- at most 32 letters, digits and underscores, the first no digit: a name or a reserved word
unfoldable pub is_word : Text → Bool
is_word w = nat_le (length w) 32 && starts_name w && list_all is_word_byte w

-- ---- tokens

pub data Token : Type 0 where
  Numeral : (n : ℕ) → Token
  Named : (x : Text) → Token
  Fn : Token
  If : Token
  Else : Token
  While : Token
  Skip : Token
  Unset : Token
  StackAlloc : Token
  As : Token
  Load : (width : Width) → Token
  Store : (width : Width) → Token
  Device : (action : Action) → Token
  OpenParen : Token
  CloseParen : Token
  OpenBrace : Token
  CloseBrace : Token
  Comma : Token
  Semicolon : Token
  Becomes : Token
  Arrow : Token
  Sign : (op : Op) → Token

-- how a token is spelled that has one spelling, as all but numbers have
abbrev pub spelling : Token → Text
spelling (Numeral n) = []
spelling (Named x) = x
spelling Fn = codes "fn"
spelling If = codes "if"
spelling Else = codes "else"
spelling While = codes "while"
spelling Skip = codes "skip"
spelling Unset = codes "unset"
spelling StackAlloc = codes "stackalloc"
spelling As = codes "as"
spelling (Load w) = codes "load" ++ width_text w
spelling (Store w) = codes "store" ++ width_text w
spelling (Device k) = action_text k
spelling OpenParen = codes "("
spelling CloseParen = codes ")"
spelling OpenBrace = codes "{"
spelling CloseBrace = codes "}"
spelling Comma = codes ","
spelling Semicolon = codes ";"
spelling Becomes = codes "="
spelling Arrow = codes "->"
spelling (Sign op) = op_text op

-- the reserved words and the signs
abbrev pub fixed : List Token
fixed =
    Fn ∷ If ∷ Else ∷ While ∷ Skip ∷ Unset ∷ StackAlloc ∷ As
    ∷ Load One ∷ Load Two ∷ Load Four ∷ Store One ∷ Store Two ∷ Store Four ∷ Device Read ∷ Device Write
    ∷ OpenParen ∷ CloseParen ∷ OpenBrace ∷ CloseBrace ∷ Comma ∷ Semicolon ∷ Becomes ∷ Arrow
    ∷ Sign Add ∷ Sign Sub ∷ Sign Mul ∷ Sign Mulhuu ∷ Sign Divu ∷ Sign Remu ∷ Sign And ∷ Sign Or ∷ Sign Xor
    ∷ Sign Sru ∷ Sign Slu ∷ Sign Srs ∷ Sign Lts ∷ Sign Ltu ∷ Sign Eq ∷ []

-- the name that is spelled so; no reserved word is a name
abbrev pub name_of : Text → Option Token
name_of w = if is_name w then Some (Named w) else None

abbrev pub or_else : Option Token → Option Token → Option Token
or_else None o = o
or_else (Some t) o = Some t

-- the token that is spelled so
unfoldable pub lexeme : Text → Option Token
lexeme w = if is_number w then Some (Numeral (value w)) else or_else (find (λ t. same (spelling t) w) fixed) (name_of w)

-- ---- where a token ends

-- the first byte is a letter, a digit or an underscore
abbrev pub is_word_like : Text → Bool
is_word_like [] = false
is_word_like (b ∷ w) = is_word_byte b

abbrev pub comment_start : Text
comment_start = codes "//"

-- the byte makes what stands before it longer: a run of letters, digits and underscores, the beginning of a sign, or of a comment
unfoldable pub joins : Text → ℕ → Bool
joins w b = (is_word_like w && is_word_byte b) || list_any (λ t. begins_with (w ++ b ∷ []) (spelling t)) fixed || begins_with (w ++ b ∷ []) comment_start

-- w is as long as it can be where rest follows it. One byte tells: each proper beginning of a sign but `>` is a sign itself
abbrev pub IsLongest : Text → Text → Type 0
IsLongest w [] = Unit {0}
IsLongest w (b ∷ rest) = joins w b ≡ false

-- ---- blanks and comments

-- outside comments, behind a slash there, or in a comment
pub data Mode : Type 0 where
  Outside : Mode
  Slash : Mode
  Comment : Mode

-- the mode behind a byte: `//` begins a comment, and LF ends it
abbrev pub mode_after : Mode → ℕ → Mode
mode_after Outside b = if b == 47 then Slash else Outside
mode_after Slash b = if b == 47 then Comment else Outside
mode_after Comment b = if b == 10 then Outside else Comment

-- nothing but blanks and comments, from a mode on; last: the end of the text may end a comment
abbrev pub gap : Bool → Mode → Text → Bool
gap last Outside [] = true
gap last Slash [] = false
gap last Comment [] = last
gap last Outside (b ∷ s) = if is_blank b then gap last Outside s else (b == 47) && gap last Slash s
gap last Slash (b ∷ s) = (b == 47) && gap last Comment s
gap last Comment (b ∷ s) = if b == 10 then gap last Outside s else gap last Comment s

-- the token t stands at the front of s, behind blanks and comments, and rest comes after it
pub record Stands (t : Token) (s rest : Text) : Type 0 where
  pub before : Text
  pub word : Text
  pub parts : s ≡ before ++ (word ++ rest)
  pub is_gap : gap false Outside before ≡ true
  pub spelled : lexeme word ≡ Some t
  pub longest : IsLongest word rest
