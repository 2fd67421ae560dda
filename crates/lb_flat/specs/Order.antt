-- Which flat and placed programs are in order: what they name is there, and they keep the rules that checked programs keep.
use Rattle.std.specs.Prelude.{◌≡◌, ℕ, ◌<◌, ◌≤◌, List, [], ◌∷◌, length, slice_get, Option, Some, None, All}
use Rattle.lb_memory.specs.declared.TheConstants.{MOST_STACK}
use Rattle.lb_syntax.specs.declared.limits.TheConstants.{MOST_FUNCTIONS, MOST_PARAMS, MOST_RESULTS, MOST_WORDS, MOST_FRAME}
use Rattle.lb_syntax.specs.WellFormed.{IsWord}
use Rattle.lb_syntax.specs.Rules.{IsBlockSize, HasShape}
use Rattle.lb_flat.specs.declared.places.Place.{Place}
use Rattle.lb_flat.specs.declared.places.Place.TheVariants.{Register, Slot}
use Rattle.lb_flat.specs.Code.{Operation, Constant, Copy, Compute, Load, Store, Forget, Call, Access}
use Rattle.lb_flat.specs.Code.{Code, Plain, Reserve, Branch, Loop, Nothing, Sequence, sites, Routine, Executable}
use Rattle.lb_flat.specs.Registers.{IsPlacedRegister}
use Rattle.lb_flat.specs.Needs.{frame_need, code_need, flat_routine_words, placed_routine_words}
use Rattle.lb_flat.specs.Calls.{IsCallPath, IsRecursive, path_need}

-- ---- code

-- each plain command of code is so, and each single variable, that of a condition or of a block of memory, is so
abbrev pub Each : {X : Type 0} → (Operation → List X → List X → Type 0) → (X → Type 0) → Code X → Type 0
Each P Q (Plain o xs ys) = P o xs ys
Each P Q (Reserve n y b) = Q y × Each P Q b
Each P Q (Branch x b d) = Q x × Each P Q b × Each P Q d
Each P Q (Loop b x d) = Each P Q b × Q x × Each P Q d
Each P Q Nothing = Unit {0}
Each P Q (Sequence c d) = Each P Q c × Each P Q d

-- each variable that code names is so
abbrev pub EachName : {X : Type 0} → (X → Type 0) → Code X → Type 0
EachName Q = Each (λ o xs ys. All Q xs × All Q ys) Q

-- a call fits a function that is there: as many arguments as parameters, as many targets as results
abbrev pub Fits : {X : Type 0} → Option (Routine X) → ℕ → ℕ → Type 0
Fits None arguments targets = ⊥
Fits (Some f) arguments targets = (arguments ≡ length f.params) × (targets ≡ length f.results)

-- an operation has as many arguments and targets as it must have, and a constant is a word
abbrev pub HasParts : {X : Type 0} → List (Routine X) → Operation → ℕ → ℕ → Type 0
HasParts fs (Constant v) arguments targets = IsWord v × (arguments ≡ 0) × (targets ≡ 1)
HasParts fs Copy arguments targets = (arguments ≡ 1) × (targets ≡ 1)
HasParts fs (Compute op) arguments targets = (arguments ≡ 2) × (targets ≡ 1)
HasParts fs (Load k) arguments targets = (arguments ≡ 1) × (targets ≡ 1)
HasParts fs (Store k) arguments targets = (arguments ≡ 2) × (targets ≡ 0)
HasParts fs Forget arguments targets = (arguments ≡ 0) × (targets ≡ 1)
HasParts fs (Call f) arguments targets = Fits (slice_get fs f) arguments targets
HasParts fs (Access k) arguments targets = HasShape k targets arguments

-- every plain command has
abbrev pub HasShapes : {X : Type 0} → List (Routine X) → Code X → Type 0
HasShapes fs = Each (λ o xs ys. HasParts fs o (length xs) (length ys)) (λ x. Unit {0})

-- ---- functions and programs

-- what one function keeps, where `Named` says what a function with so many variables may name
pub record KeepsRoutineRules {X : Type 0} (Named : ℕ → X → Type 0) (fs : List (Routine X)) (f : Routine X) : Type 0 where
  pub params : All (Named f.variables) f.params
  pub results : All (Named f.variables) f.results
  pub names : EachName (Named f.variables) f.body
  pub shapes : HasShapes fs f.body
  pub few_params : length f.params ≤ MOST_PARAMS
  pub few_results : length f.results ≤ MOST_RESULTS
  pub block_sizes : All IsBlockSize (sites f.body)
  pub frame : frame_need f ≤ MOST_FRAME

-- a function that is called from outside has neither parameters nor results
abbrev pub IsEntry : {X : Type 0} → Option (Routine X) → Type 0
IsEntry None = ⊥
IsEntry (Some f) = (f.params ≡ []) × (f.results ≡ [])

-- what a whole program keeps, where `words` says how many words of code a function asks for
pub record KeepsExecutableRules {X : Type 0} (Named : ℕ → X → Type 0) (words : Routine X → ℕ) (p : Executable X) : Type 0 where
  pub few_functions : length p.routines ≤ MOST_FUNCTIONS
  pub init : IsEntry (slice_get p.routines p.init)
  pub again : IsEntry (slice_get p.routines p.again)
  pub routines : All (KeepsRoutineRules Named p.routines) p.routines
  pub no_recursion : (g : ℕ) → g < length p.routines → ¬ (IsRecursive p.routines g)
  pub code : code_need words p.routines ≤ MOST_WORDS
  pub stack : (path : List ℕ) → IsCallPath p.routines path → path_need p.routines path ≤ MOST_STACK

-- ---- flat programs

-- a variable of a function that has so many
abbrev pub IsVariable : ℕ → ℕ → Type 0
IsVariable n x = x < n

abbrev pub IsFlatInOrder : Executable ℕ → Type 0
IsFlatInOrder = KeepsExecutableRules IsVariable flat_routine_words

-- ---- placed programs

-- a register that is left to placed code, or a slot of a function that has so many
abbrev pub IsPlacedName : ℕ → Place → Type 0
IsPlacedName n (Register r) = IsPlacedRegister r
IsPlacedName n (Slot s) = s < n

abbrev pub IsInRegister : Place → Type 0
IsInRegister (Register r) = Unit {0}
IsInRegister (Slot s) = ⊥

-- one of both ends of a copy is a register
abbrev pub HasRegisterEnd : List Place → List Place → Type 0
HasRegisterEnd (Slot i ∷ ps) (Slot j ∷ qs) = ⊥
HasRegisterEnd ps qs = Unit {0}

-- calls and accesses may name slots, a copy one; no other command does, and none unsets
abbrev pub IsPlacedPlain : Operation → List Place → List Place → Type 0
IsPlacedPlain Copy ps qs = HasRegisterEnd ps qs
IsPlacedPlain Forget ps qs = ⊥
IsPlacedPlain (Call f) ps qs = Unit {0}
IsPlacedPlain (Access k) ps qs = Unit {0}
IsPlacedPlain o ps qs = All IsInRegister ps × All IsInRegister qs

-- code of the form that the types of placed programs give
abbrev pub IsPlacedCode : Code Place → Type 0
IsPlacedCode = Each IsPlacedPlain IsInRegister

pub record IsPlacedInOrder (p : Executable Place) : Type 0 where
  pub rules : KeepsExecutableRules IsPlacedName placed_routine_words p
  pub forms : All (λ f. IsPlacedCode f.body) p.routines
