-- The rules that a program keeps: on its names, its calls and accesses, its blocks, and what it may ask for.
use Rattle.std.specs.Prelude.{◌≡◌, ℕ, ◌%◌, ◌<◌, ◌≤◌, ◌⊎◌, List, [], length, map, codes, All, Contains}
use Rattle.lb_memory.specs.declared.TheConstants.{MOST_STACK}
use Rattle.lb_syntax.specs.declared.limits.TheConstants.{MOST_FUNCTIONS, MOST_PARAMS, MOST_RESULTS}
use Rattle.lb_syntax.specs.Names.{Text, AreDistinct}
use Rattle.lb_syntax.specs.declared.tree.Action.{Action}
use Rattle.lb_syntax.specs.declared.tree.Action.TheVariants.{Read, Write}
use Rattle.lb_syntax.specs.Tree.{Procedure}
use Rattle.lb_syntax.specs.Needs.{sites, IsWithinLimits}
use Rattle.lb_syntax.specs.Calls.{CallSite, AccessSite, call_sites, access_sites, IsCallPath, IsRecursive, path_need}

-- the names of a program's functions
abbrev pub function_names : List Procedure → List Text
function_names p = map (λ f. f.name) p

-- a function that is called from outside
abbrev pub IsEntry : Procedure → Type 0
IsEntry f = (f.name ≡ codes "init") ⊎ (f.name ≡ codes "loop")

-- a function that is called from outside has neither parameters nor results
abbrev pub HasEntryShape : Procedure → Type 0
HasEntryShape f = IsEntry f → (f.params ≡ []) × (f.results ≡ [])

-- the size of a stackalloc block: whole words, and one at least
abbrev pub IsBlockSize : ℕ → Type 0
IsBlockSize n = (0 < n) × (n % 4 ≡ 0)

-- a call fits a function: as many arguments as parameters, as many targets as results
abbrev pub Fits : CallSite → Procedure → Type 0
Fits site f = (length site.arguments ≡ length f.params) × (length site.targets ≡ length f.results)

-- a call of a function of the program that fits it, with different targets
pub record IsGoodCall (p : List Procedure) (site : CallSite) : Type 0 where
  pub known : Contains (function_names p) site.function
  pub fits : All (λ f. f.name ≡ site.function → Fits site f) p
  pub distinct : AreDistinct site.targets

-- a read has one target and an address, a write has no target, an address and a value
abbrev pub HasShape : Action → ℕ → ℕ → Type 0
HasShape Read targets arguments = (targets ≡ 1) × (arguments ≡ 1)
HasShape Write targets arguments = (targets ≡ 0) × (arguments ≡ 2)

-- an access of its action's shape
abbrev pub IsGoodAccess : AccessSite → Type 0
IsGoodAccess site = HasShape site.action (length site.targets) (length site.arguments)

-- what one function keeps
pub record KeepsFunctionRules (p : List Procedure) (f : Procedure) : Type 0 where
  pub distinct_params : AreDistinct f.params
  pub distinct_results : AreDistinct f.results
  pub entry : HasEntryShape f
  pub few_params : length f.params ≤ MOST_PARAMS
  pub few_results : length f.results ≤ MOST_RESULTS
  pub block_sizes : All IsBlockSize (sites f.body)
  pub good_calls : All (IsGoodCall p) (call_sites f.body)
  pub good_accesses : All IsGoodAccess (access_sites f.body)
  pub no_recursion : ¬ (IsRecursive p f)

-- what a whole program keeps
pub record KeepsRules (p : List Procedure) : Type 0 where
  pub few_functions : length p ≤ MOST_FUNCTIONS
  pub distinct_functions : AreDistinct (function_names p)
  pub has_init : Contains (function_names p) (codes "init")
  pub has_loop : Contains (function_names p) (codes "loop")
  pub functions : All (KeepsFunctionRules p) p
  pub limits : IsWithinLimits p
  pub stack : (path : List Procedure) → IsCallPath p path → path_need path ≤ MOST_STACK
