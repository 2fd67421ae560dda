-- What a flat program has in common with its source.
use Rattle.std.specs.Prelude.{◌≡◌, ℕ, suc, ◌≤◌, if◌then◌else◌, List, [], ◌∷◌, map, codes, All}
use Rattle.std.specs.Str.{bytes_eq}
use Rattle.lb_syntax.specs.Names.{Text}
use Rattle.lb_syntax.specs.Tree.{Procedure}
use Rattle.lb_syntax.specs.Calls.{call_sites}
use Rattle.lb_syntax.specs.Rules.{function_names}
use Rattle.lb_syntax.specs.declared.layout.Layout.{Layout}
use Rattle.lb_source.specs.Defined.{IsDefined}
use Rattle.lb_source.specs.Source.{src}
use Rattle.lb_flat.specs.Code.{Routine, Executable}
use Rattle.lb_flat.specs.Calls.{callees}
use Rattle.lb_flat.specs.Whole.{flat_run}

-- wherever the source does nothing undefined, the flat program has the same trace and end
abbrev pub HasSameRuns : List Procedure → Executable ℕ → Type 0
HasSameRuns p q = (layout : Layout) (fuel : ℕ) (replies : List ℕ) → IsDefined (src p layout fuel replies).end → flat_run q layout fuel replies ≡ src p layout fuel replies

-- each function of the program has at most 8 variables
abbrev pub HasFewVariables : Executable ℕ → Type 0
HasFewVariables q = All (λ g. g.variables ≤ 8) q.routines

-- ---- the numbers of functions

-- the place of the first that is this name, counted from 0; for a name that isn't there, how many names there are
abbrev pub place_in : List Text → Text → ℕ
place_in [] x = 0
place_in (y ∷ ys) x = if bytes_eq y x then 0 else suc (place_in ys x)

-- function by function, and they are as many, the flat ones call, in text order, the places of the names that the source's call
abbrev pub AllCallPlaces : List Text → List Procedure → List (Routine ℕ) → Type 0
AllCallPlaces names [] [] = Unit {0}
AllCallPlaces names (f ∷ fs) (g ∷ gs) = (callees g.body ≡ map (λ site. place_in names site.function) (call_sites f.body)) × AllCallPlaces names fs gs
AllCallPlaces names _ _ = ⊥

-- the flat program names a function by the place of its name in the source: `init`, `loop`, and each that is called
pub record NamesByPlace (p : List Procedure) (q : Executable ℕ) : Type 0 where
  pub init : q.init ≡ place_in (function_names p) (codes "init")
  pub again : q.again ≡ place_in (function_names p) (codes "loop")
  pub calls : AllCallPlaces (function_names p) p q.routines
