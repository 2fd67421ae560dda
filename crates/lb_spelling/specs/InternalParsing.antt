-- What the functions of a reader say. Only contracts of lb_scan and of private functions of lb_text cite it.
-- Each reads at a place where n brackets are open, and gives the text behind what it read.
-- A fault is told by its kind and by the bytes that are left at its place. What comes behind a part is any stack k:
-- so a fault in a part is the same fault of the whole.
use Rattle.std.specs.Prelude.{◌≡◌, ℕ, ◌≤◌, true, ◌∷◌, is_some}
use Rattle.lb_syntax.specs.Names.{Text}
use Rattle.lb_syntax.specs.Brackets.{most_brackets}
use Rattle.lb_spelling.specs.declared.symbol.Symbol.{Symbol}
use Rattle.lb_spelling.specs.declared.fault.TextKind.{TextKind}
use Rattle.lb_spelling.specs.Tokens.{Token, Stands}
use Rattle.lb_spelling.specs.InternalMachine.{Stack, Between, Outcome, Stuck, run, next, opened}

-- the outcome of a text, with the limit on brackets
abbrev pub outcome : Text → ℕ → Stack → Outcome
outcome s n k = run most_brackets s Between n k

-- the token t stands at the front of s, x takes it, and there is room for it
pub record Takes (n : ℕ) (x : Symbol) (t : Token) (s rest : Text) : Type 0 where
  pub stands : Stands t s rest
  pub taken : is_some (next x t) ≡ true
  pub room : opened t n ≤ most_brackets

-- where x is expected, s has a fault, whatever is to come behind x
abbrev pub Faults : ℕ → Symbol → Text → TextKind → ℕ → Type 0
Faults n x s kind left = (k : Stack) → outcome s n (x ∷ k) ≡ Stuck kind left
