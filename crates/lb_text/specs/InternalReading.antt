-- What the parts of the reader say. Only contracts of private functions cite it.
-- Each reads from a place where n brackets are open and a stack of symbols has to come, and gives the text behind what it read.
-- Behind that stack any other may have to come: so what holds of a part holds of the whole.
use Rattle.std.specs.Prelude.{◌≡◌, ℕ, ◌<◌, ◌≤◌, Bool, true, false, Option, Some, None, List, [], ◌∷◌, ◌++◌, length}
use Rattle.lb_syntax.specs.Names.{Text}
use Rattle.lb_syntax.specs.Brackets.{most_brackets}
use Rattle.lb_syntax.specs.Tree.{Command, chain}
use Rattle.lb_spelling.specs.declared.symbol.Symbol.{Symbol}
use Rattle.lb_spelling.specs.declared.symbol.Symbol.TheVariants as symbols
use Rattle.lb_spelling.specs.Tokens.{Token, Skip, Unset, Store, StackAlloc, If, While, Named, Device, OpenParen, CloseParen, Comma, Semicolon, As, Becomes, Stands}
use Rattle.lb_spelling.specs.Grammar.{Standing, ◌then◌, MoreAt, NameAt, CommandsAt}
use Rattle.lb_spelling.specs.InternalMachine.{Stack, Stuck, next, opened}
use Rattle.lb_spelling.specs.InternalParsing.{outcome, Takes}
use Rattle.lb_text.specs.declared.call.Callee.{Callee}
use Rattle.lb_text.specs.declared.call.Callee.TheVariants.{Function}
use Rattle.lb_text.specs.declared.call.Callee.TheVariants as Callees
use Rattle.lb_text.specs.declared.parse_error.ParseError.{ParseError}
use Rattle.lb_text.specs.declared.parse_error.ParseError.TheVariants.{Memory, Syntax}

-- the symbols of a stack, none where there is no stack
abbrev pub or_empty : Option Stack → Stack
or_empty None = []
or_empty (Some ys) = ys

-- what has to come once t was read where x is expected
abbrev pub coming : Symbol → Token → Stack
coming x t = or_empty (next x t)

-- from s, where xs has to come, the text goes on to rest, where m brackets are open and ys has to come
pub record Goes (n : ℕ) (xs : Stack) (m : ℕ) (ys : Stack) (s rest : Text) : Type 0 where
  pub runs : (k : Stack) → outcome s n (xs ++ k) ≡ outcome rest m (ys ++ k)
  pub room : m ≤ most_brackets
  pub shorter : length rest ≤ length s

-- the same, and P stands between
pub record Reads (n : ℕ) (xs : Stack) (P : Standing) (m : ℕ) (ys : Stack) (s rest : Text) : Type 0 where
  pub stands : P s rest
  pub goes : Goes n xs m ys s rest

-- where xs has to come, s has a fault, unless memory ran out
abbrev pub Fails : ℕ → Stack → Text → ParseError → Type 0
Fails n xs s Memory = Unit {0}
Fails n xs s (Syntax error) = (k : Stack) → outcome s n (xs ++ k) ≡ Stuck error.kind error.left

-- what P before s makes Q
abbrev pub After : Standing → Standing → Standing
After P Q s rest = (all : Text) → P all s → Q all rest

-- t was read before s, at a place where n brackets are open and x takes it
pub record Took (n : ℕ) (x : Symbol) (t : Token) (s : Text) : Type 0 where
  pub all : Text
  pub takes : Takes n x t all s

-- P up to the commands of which t is the first token, which was read too
pub record ReadsUpTo (n : ℕ) (xs : Stack) (P : List Command → Standing) (t : Token) (s rest : Text) : Type 0 where
  pub stands : (more : List Command) (r : Text) → After (Stands t) (CommandsAt (chain more)) rest r → P more s r
  pub goes : Goes n xs (opened t n) (coming symbols.Commands t) s rest
  pub less : length rest < length s
  pub took : Took n symbols.Commands t rest

-- the tokens that begin a command other than `if`
abbrev pub begins_plain : Token → Bool
begins_plain Skip = true
begins_plain Unset = true
begins_plain (Store w) = true
begins_plain StackAlloc = true
begins_plain While = true
begins_plain (Named x) = true
begins_plain (Device k) = true
begins_plain _ = false

-- the tokens that begin a command
abbrev pub begins_command : Token → Bool
begins_command If = true
begins_command t = begins_plain t

-- what takes one token only
abbrev pub is_sign : Symbol → Bool
is_sign symbols.OpenParen = true
is_sign symbols.CloseParen = true
is_sign symbols.Comma = true
is_sign symbols.Semicolon = true
is_sign symbols.As = true
is_sign _ = false

-- that token
abbrev pub sign_of : Symbol → Token
sign_of symbols.OpenParen = OpenParen
sign_of symbols.CloseParen = CloseParen
sign_of symbols.Comma = Comma
sign_of symbols.Semicolon = Semicolon
sign_of _ = As

-- the token of what is called
abbrev pub token_of_callee : Callee → Token
token_of_callee (Function f) = Named f
token_of_callee (Callees.Device k) = Device k

-- names end with a bracket, targets with `=`
abbrev pub ends_names : Symbol → Bool
ends_names symbols.MoreNames = true
ends_names symbols.MoreTargets = true
ends_names _ = false

abbrev pub last_of : Symbol → Token
last_of symbols.MoreTargets = Becomes
last_of _ = CloseParen

-- names were read behind those that there were, each behind a comma, and the token that ends them
pub record ReadsMore (n : ℕ) (x : Symbol) (names whole : List Text) (s rest : Text) : Type 0 where
  pub more : List Text
  pub is : whole ≡ names ++ more
  pub reads : Reads n (x ∷ []) (MoreAt NameAt more then Stands (last_of x)) (opened (last_of x) n) (coming x (last_of x)) s rest
