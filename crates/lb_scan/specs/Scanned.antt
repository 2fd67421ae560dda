-- What a scan finds.
use Rattle.std.specs.Prelude.{◌≡◌, ℕ, true, Option, MatchOption}
use Rattle.std.specs.Borrow.{Bor}
use Rattle.lb_syntax.specs.Names.{Text}
use Rattle.lb_spelling.specs.declared.symbol.Symbol.{Symbol}
use Rattle.lb_spelling.specs.Tokens.{Token, Outside, gap}
use Rattle.lb_spelling.specs.InternalParsing.{Takes}
use Rattle.lb_scan.specs.declared.token.Token.{Token as ScannedToken}
use Rattle.lb_scan.specs.Tokens.{token_of}

-- the token stands at the front of the text, and x takes it, with n brackets open before it; none, where nothing
-- but blanks and comments is left
abbrev pub TakesOrEnds : ℕ → Symbol → Text → Option (ScannedToken × Bor Text) → Type 0
TakesOrEnds n x text found = MatchOption found (gap true Outside text ≡ true) (λ r. Takes n x (token_of r.0) text r.1.now)

-- no token that x takes stands at the front of the text, with n brackets open before it
abbrev pub TakesNone : ℕ → Symbol → Text → Type 0
TakesNone n x text = (t : Token) (rest : Text) → ¬ (Takes n x t text rest)

-- something but blanks and comments is left
abbrev pub IsMoreLeft : Text → Type 0
IsMoreLeft text = ¬ (gap true Outside text ≡ true)
