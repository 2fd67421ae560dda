-- What is promised of the programs that draws make, whatever is drawn.
use Rattle.std.specs.Prelude.{◌≡◌, ℕ, length}
use Rattle.lb_syntax.specs.Needs.{code_need}
use Rattle.lb_syntax.specs.Calls.{IsStackNeed}
use Rattle.lb_syntax.specs.Rules.{KeepsRules}
use Rattle.lb_gen.specs.Made.{made}

-- it keeps the rules of the language, and needs the same words of code and bytes of stack as any
-- other one
pub record IsLarge (draws : ℕ → ℕ) : Type 0 where
  pub rules : KeepsRules (made draws)
  pub functions : length (made draws) ≡ 66
  pub words : code_need (made draws) ≡ 18232
  pub stack : IsStackNeed (made draws) 10640

abbrev pub AllAreLarge : Type 0
AllAreLarge = (draws : ℕ → ℕ) → IsLarge draws
