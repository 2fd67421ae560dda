-- Reading byte by byte, with a stack of what is still to come. Only contracts of lb_scan and of private functions of lb_text cite it.
use Rattle.std.specs.Prelude.{ℕ, ◌+◌, ◌-◌, Bool, true, false, ◌&&◌, ◌||◌, ◌==◌, nat_le, if◌then◌else◌, List, [], ◌∷◌, ◌++◌, length, Option, Some, None, is_some}
use Rattle.std.specs.List.{list_any}
use Rattle.lb_syntax.specs.Names.{Text}
use Rattle.lb_syntax.specs.Brackets.{open_after}
use Rattle.lb_spelling.specs.declared.symbol.Symbol.{Symbol}
use Rattle.lb_spelling.specs.declared.symbol.Symbol.TheVariants as symbols
use Rattle.lb_spelling.specs.declared.fault.TextKind.{TextKind}
use Rattle.lb_spelling.specs.declared.fault.TextKind.TheVariants.{Ended, BadByte, TooDeep, NumberTooWide, NameTooLong, Unexpected}
use Rattle.lb_spelling.specs.Places.{is_plain}
use Rattle.lb_spelling.specs.Tokens.{Token, Numeral, Named, Fn, If, Else, While, Skip, Unset, StackAlloc, As, Load, Store, Device, OpenParen, CloseParen, OpenBrace, CloseBrace, Comma, Semicolon, Becomes, Arrow, Sign, is_blank, is_word_byte, is_number, is_digit_of, is_word, hex_mark, lexeme, joins, begins_with, same, spelling, fixed, comment_start}

abbrev pub Stack : Type 0
Stack = List Symbol

-- ---- the grammar: what is to come once t was read, for each symbol that may be expected; None where t isn't taken

-- the same, with more to come behind it
abbrev pub push : Option Stack → Stack → Option Stack
push None k = None
push (Some ys) k = Some (ys ++ k)

abbrev pub next_functions : Token → Option Stack
next_functions Fn = Some (symbols.Name ∷ symbols.OpenParen ∷ symbols.Names ∷ symbols.Results ∷ symbols.Functions ∷ [])
next_functions _ = None

abbrev pub next_names : Token → Option Stack
next_names (Named x) = Some (symbols.MoreNames ∷ [])
next_names CloseParen = Some []
next_names _ = None

abbrev pub next_more_names : Token → Option Stack
next_more_names Comma = Some (symbols.Name ∷ symbols.MoreNames ∷ [])
next_more_names CloseParen = Some []
next_more_names _ = None

abbrev pub next_results : Token → Option Stack
next_results Arrow = Some (symbols.OpenParen ∷ symbols.Name ∷ symbols.MoreNames ∷ symbols.Block ∷ [])
next_results OpenBrace = Some (symbols.Commands ∷ [])
next_results _ = None

abbrev pub next_block : Token → Option Stack
next_block OpenBrace = Some (symbols.Commands ∷ [])
next_block _ = None

-- arguments in brackets, and a semicolon
abbrev pub call : Stack
call = symbols.OpenParen ∷ symbols.Arguments ∷ symbols.Semicolon ∷ []

abbrev pub next_commands : Token → Option Stack
next_commands CloseBrace = Some []
next_commands Skip = Some (symbols.Semicolon ∷ symbols.Commands ∷ [])
next_commands Unset = Some (symbols.Name ∷ symbols.Semicolon ∷ symbols.Commands ∷ [])
next_commands (Store w) = Some (symbols.OpenParen ∷ symbols.Expr ∷ symbols.Comma ∷ symbols.Expr ∷ symbols.CloseParen ∷ symbols.Semicolon ∷ symbols.Commands ∷ [])
next_commands StackAlloc = Some (symbols.Number ∷ symbols.As ∷ symbols.Name ∷ symbols.Block ∷ symbols.Commands ∷ [])
next_commands If = Some (symbols.Expr ∷ symbols.Block ∷ symbols.AfterIf ∷ [])
next_commands While = Some (symbols.Expr ∷ symbols.Block ∷ symbols.Commands ∷ [])
next_commands (Named x) = Some (symbols.AfterName ∷ symbols.Commands ∷ [])
next_commands (Device k) = Some (call ++ symbols.Commands ∷ [])
next_commands _ = None

abbrev pub next_after_if : Token → Option Stack
next_after_if Else = Some (symbols.Block ∷ symbols.Commands ∷ [])
next_after_if t = next_commands t

abbrev pub next_after_name : Token → Option Stack
next_after_name Becomes = Some (symbols.Source ∷ [])
next_after_name Comma = Some (symbols.Name ∷ symbols.MoreTargets ∷ [])
next_after_name OpenParen = Some (symbols.Arguments ∷ symbols.Semicolon ∷ [])
next_after_name _ = None

abbrev pub next_more_targets : Token → Option Stack
next_more_targets Comma = Some (symbols.Name ∷ symbols.MoreTargets ∷ [])
next_more_targets Becomes = Some (symbols.Callee ∷ [])
next_more_targets _ = None

abbrev pub next_callee : Token → Option Stack
next_callee (Named f) = Some call
next_callee (Device k) = Some call
next_callee _ = None

abbrev pub next_expr : Token → Option Stack
next_expr (Numeral n) = Some []
next_expr (Named x) = Some []
next_expr (Load w) = Some (symbols.OpenParen ∷ symbols.Expr ∷ symbols.CloseParen ∷ [])
next_expr OpenParen = Some (symbols.Expr ∷ symbols.Sign ∷ symbols.Expr ∷ symbols.CloseParen ∷ [])
next_expr _ = None

abbrev pub next_source : Token → Option Stack
next_source (Named x) = Some (symbols.AfterSource ∷ [])
next_source (Device k) = Some call
next_source t = push (next_expr t) (symbols.Semicolon ∷ [])

abbrev pub next_after_source : Token → Option Stack
next_after_source Semicolon = Some []
next_after_source OpenParen = Some (symbols.Arguments ∷ symbols.Semicolon ∷ [])
next_after_source _ = None

abbrev pub next_arguments : Token → Option Stack
next_arguments CloseParen = Some []
next_arguments t = push (next_expr t) (symbols.MoreArguments ∷ [])

abbrev pub next_more_arguments : Token → Option Stack
next_more_arguments Comma = Some (symbols.Expr ∷ symbols.MoreArguments ∷ [])
next_more_arguments CloseParen = Some []
next_more_arguments _ = None

abbrev pub next_sign : Token → Option Stack
next_sign (Sign op) = Some []
next_sign _ = None

abbrev pub next_name : Token → Option Stack
next_name (Named x) = Some []
next_name _ = None

abbrev pub next_number : Token → Option Stack
next_number (Numeral n) = Some []
next_number _ = None

abbrev pub next_open_paren : Token → Option Stack
next_open_paren OpenParen = Some []
next_open_paren _ = None

abbrev pub next_close_paren : Token → Option Stack
next_close_paren CloseParen = Some []
next_close_paren _ = None

abbrev pub next_comma : Token → Option Stack
next_comma Comma = Some []
next_comma _ = None

abbrev pub next_semicolon : Token → Option Stack
next_semicolon Semicolon = Some []
next_semicolon _ = None

abbrev pub next_as : Token → Option Stack
next_as As = Some []
next_as _ = None

abbrev pub next : Symbol → Token → Option Stack
next symbols.Functions t = next_functions t
next symbols.Names t = next_names t
next symbols.MoreNames t = next_more_names t
next symbols.Results t = next_results t
next symbols.Block t = next_block t
next symbols.Commands t = next_commands t
next symbols.AfterIf t = next_after_if t
next symbols.AfterName t = next_after_name t
next symbols.MoreTargets t = next_more_targets t
next symbols.Source t = next_source t
next symbols.AfterSource t = next_after_source t
next symbols.Callee t = next_callee t
next symbols.Arguments t = next_arguments t
next symbols.MoreArguments t = next_more_arguments t
next symbols.Expr t = next_expr t
next symbols.Sign t = next_sign t
next symbols.Name t = next_name t
next symbols.Number t = next_number t
next symbols.OpenParen t = next_open_paren t
next symbols.CloseParen t = next_close_paren t
next symbols.Comma t = next_comma t
next symbols.Semicolon t = next_semicolon t
next symbols.As t = next_as t

-- ---- what may stand at a place

-- u is a number or the beginning of one
unfoldable pub begins_number : Text → Bool
begins_number u = is_number u || same hex_mark u

-- u begins the spelling of a token that x takes
unfoldable pub begins_one : Symbol → Text → Bool
begins_one x u = (is_some (next x (Numeral 0)) && begins_number u) || (is_some (next x (Named [])) && is_word u) || list_any (λ t. is_some (next x t) && begins_with u (spelling t)) fixed

-- the same, or the start of a comment
abbrev pub begins : Stack → Text → Bool
begins [] u = begins_with u comment_start
begins (x ∷ k) u = begins_one x u || begins_with u comment_start

-- where a byte stands: between tokens, in a comment, or behind the part of a token
pub data Lex : Type 0 where
  Between : Lex
  InComment : Lex
  Part : (w : Text) → Lex

-- ---- one byte

pub data Step : Type 0 where
  Go : (lx : Lex) (n : ℕ) (k : Stack) → Step
  Fail : (kind : TextKind) → Step

abbrev pub unexpected : ℕ → TextKind
unexpected b = if is_plain b then Unexpected else BadByte

-- the kind at a byte that would lengthen w
abbrev pub kind_in : Text → ℕ → TextKind
kind_in w b = if is_number w && is_digit_of w b then NumberTooWide else (if is_word w && (length w == 32) && is_word_byte b then NameTooLong else unexpected b)

abbrev pub next_of : Symbol → Option Token → Option Stack
next_of x None = None
next_of x (Some t) = next x t

-- the stack behind the token that is spelled so
unfoldable pub taken : Stack → Text → Option Stack
taken [] w = None
taken (x ∷ k) w = push (next_of x (lexeme w)) k

abbrev pub start : ℕ → ℕ → Stack → ℕ → Step
start limit n k b = if begins k (b ∷ []) then (if nat_le (open_after n b) limit then Go (Part (b ∷ [])) (open_after n b) k else Fail TooDeep) else Fail (unexpected b)

abbrev pub between : ℕ → ℕ → Stack → ℕ → Step
between limit n k b = if is_blank b then Go Between n k else start limit n k b

abbrev pub finished : ℕ → ℕ → Option Stack → ℕ → Step
finished limit n None b = Fail (unexpected b)
finished limit n (Some k) b = between limit n k b

abbrev pub longer : Text → ℕ → Stack → ℕ → Step
longer w n k b = if same (w ++ b ∷ []) comment_start then Go InComment n k else (if begins k (w ++ b ∷ []) then Go (Part (w ++ b ∷ [])) n k else Fail (kind_in w b))

-- a token is finished by the byte behind it
abbrev pub step : ℕ → Lex → ℕ → Stack → ℕ → Step
step limit Between n k b = between limit n k b
step limit InComment n k b = if b == 10 then Go Between n k else Go InComment n k
step limit (Part w) n k b = if joins w b then longer w n k b else finished limit n (taken k w) b

-- ---- a text

-- nothing has to come; only functions may be none
abbrev pub may_be_none : Symbol → Bool
may_be_none symbols.Functions = true
may_be_none _ = false

abbrev pub ends : Stack → Bool
ends [] = true
ends (x ∷ k) = may_be_none x && ends k

abbrev pub has_ended : Option Stack → Bool
has_ended None = false
has_ended (Some k) = ends k

-- whether the text may end here
abbrev pub may_end : Lex → Stack → Bool
may_end Between k = ends k
may_end InComment k = ends k
may_end (Part w) k = has_ended (taken k w)

-- a fault is told with the bytes that are left at its place
pub data Outcome : Type 0 where
  Whole : Outcome
  Stuck : (kind : TextKind) (left : ℕ) → Outcome

abbrev pub ended : Bool → Outcome
ended true = Whole
ended false = Stuck Ended 0

abbrev pub after : Step → (Lex → ℕ → Stack → Outcome) → ℕ → Outcome
after (Go lx n k) go left = go lx n k
after (Fail kind) go left = Stuck kind left

-- the text, with at most limit brackets open, where n are open and k has to come
abbrev pub run : ℕ → Text → Lex → ℕ → Stack → Outcome
run limit [] lx n k = ended (may_end lx k)
run limit (b ∷ s) lx n k = after (step limit lx n k b) (run limit s) (length (b ∷ s))

-- ---- brackets

abbrev pub is_open : Token → Bool
is_open OpenParen = true
is_open OpenBrace = true
is_open _ = false

abbrev pub is_close : Token → Bool
is_close CloseParen = true
is_close CloseBrace = true
is_close _ = false

-- the brackets open behind a token
abbrev pub opened : Token → ℕ → ℕ
opened t n = if is_open t then n + 1 else (if is_close t then n - 1 else n)
