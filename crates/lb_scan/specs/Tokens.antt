-- The tokens that the code has, as tokens of the grammar.
use Rattle.std.specs.Prelude.{Option, Some, None}
use Rattle.lb_scan.specs.declared.token.Token.{Token as ScannedToken}
use Rattle.lb_scan.specs.declared.token.Token.TheVariants as scanned
use Rattle.lb_spelling.specs.Tokens.{Token}
use Rattle.lb_spelling.specs.Tokens as tokens

-- the token of the grammar that it is
abbrev pub token_of : ScannedToken → Token
token_of (scanned.Number n) = tokens.Numeral n
token_of (scanned.Name x) = tokens.Named x.now
token_of scanned.Fn = tokens.Fn
token_of scanned.If = tokens.If
token_of scanned.Else = tokens.Else
token_of scanned.While = tokens.While
token_of scanned.Skip = tokens.Skip
token_of scanned.Unset = tokens.Unset
token_of scanned.StackAlloc = tokens.StackAlloc
token_of scanned.As = tokens.As
token_of (scanned.Load w) = tokens.Load w
token_of (scanned.Store w) = tokens.Store w
token_of (scanned.Device k) = tokens.Device k
token_of scanned.OpenParen = tokens.OpenParen
token_of scanned.CloseParen = tokens.CloseParen
token_of scanned.OpenBrace = tokens.OpenBrace
token_of scanned.CloseBrace = tokens.CloseBrace
token_of scanned.Comma = tokens.Comma
token_of scanned.Semicolon = tokens.Semicolon
token_of scanned.Becomes = tokens.Becomes
token_of scanned.Arrow = tokens.Arrow
token_of (scanned.Sign op) = tokens.Sign op

abbrev pub token_of_option : Option ScannedToken → Option Token
token_of_option None = None
token_of_option (Some w) = Some (token_of w)
