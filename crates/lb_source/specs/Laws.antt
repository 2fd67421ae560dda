-- The laws of a program's run.
use Rattle.std.specs.Prelude.{◌≡◌, ℕ, ◌≤◌, List}
use Rattle.lb_syntax.specs.Tree.{Procedure}
use Rattle.lb_syntax.specs.declared.layout.Layout.{Layout}
use Rattle.lb_trace.specs.Prefix.{IsPrefix}
use Rattle.lb_source.specs.Source.{callables, start, whole, src}
use Rattle.lb_source.specs.declared.ends.SourceRun.{SourceRun}
use Rattle.lb_source.specs.declared.ends.SourceEnd.TheVariants.{Spent}

-- what the first did, the second begins with; and where the first isn't spent, the second is the same
pub record GoesOn (first second : SourceRun) : Type 0 where
  pub prefix : IsPrefix first.trace second.trace
  pub stays : ¬ (first.end ≡ Spent) → second ≡ first

-- with more fuel a run goes on where it was spent, and is the same where it wasn't
abbrev pub MoreFuelGoesOn : Type 0
MoreFuelGoesOn =
    (p : List Procedure) (layout : Layout) (fuel more : ℕ) (replies : List ℕ) → fuel ≤ more
    → GoesOn (src p layout fuel replies) (src p layout more replies)

-- the bound on nesting and turns says nothing: each that is as great as the fuel gives the same run
abbrev pub AnyBoundServes : Type 0
AnyBoundServes =
    (p : List Procedure) (layout : Layout) (fuel bound : ℕ) (replies : List ℕ) → fuel ≤ bound
    → whole (callables p layout.frames) bound (start fuel replies) ≡ src p layout fuel replies
