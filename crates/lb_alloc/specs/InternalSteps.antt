-- Commands without blocks, as steps, for the contracts of private functions.
use Rattle.std.specs.Prelude.{◌≡◌, ℕ, List}
use Rattle.lb_flat.specs.Code.{Code, Plain}
use Rattle.lb_flat.specs.Walks.{Step, step}
use Rattle.lb_alloc.specs.declared.step.Reads.{Reads}
use Rattle.lb_alloc.specs.declared.step.Reads.TheVariants.{Two, List as Listed}

abbrev pub variables_of : Reads → List ℕ
variables_of (Two pair) = pair
variables_of (Listed list) = list.now

-- a command without blocks
abbrev pub IsPlain : Code ℕ → Type 0
IsPlain (Plain o xs ys) = Unit {0}
IsPlain c = ⊥

-- such a command reads its arguments and sets its targets
abbrev pub IsStepOf : Code ℕ → Step → Type 0
IsStepOf (Plain o xs ys) s = s ≡ step xs ys
IsStepOf c s = ⊥
