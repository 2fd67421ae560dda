-- What a placed program has in common with its flat one.
use Rattle.std.specs.Prelude.{◌≡◌, ℕ, ◌≤◌, List, [], ◌∷◌, length, All}
use Rattle.lb_syntax.specs.declared.layout.Layout.{Layout}
use Rattle.lb_source.specs.Defined.{IsDefined}
use Rattle.lb_flat.specs.declared.places.Place.{Place}
use Rattle.lb_flat.specs.Code.{Routine, Executable, sites}
use Rattle.lb_flat.specs.Calls.{callees}
use Rattle.lb_flat.specs.Counts.{loads, stores, accesses, arguments, targets, slot_moves}
use Rattle.lb_flat.specs.Needs.{frame_need, flat_routine_words, placed_routine_words}
use Rattle.lb_flat.specs.Needs.{flat_accesses_need, placed_accesses_need}
use Rattle.lb_flat.specs.Whole.{flat_run, located_run, placed_run}
use Rattle.lb_flat.specs.Accepted.{MayHold}
use Rattle.lb_flat.specs.Order.{IsInRegister}

-- ---- runs

-- wherever the flat program with its variables in these places does nothing undefined, the placed
-- one has the same trace and end
abbrev pub HasLocatedRuns : List (List Place) → Executable ℕ → Executable Place → Type 0
HasLocatedRuns places p q =
    (layout : Layout) (fuel : ℕ) (replies : List ℕ)
    → IsDefined (located_run places p layout fuel replies).end
    → placed_run q layout fuel replies ≡ located_run places p layout fuel replies

-- wherever the flat program does nothing undefined, the placed one has the same trace and end
abbrev pub HasFlatRuns : Executable ℕ → Executable Place → Type 0
HasFlatRuns p q =
    (layout : Layout) (fuel : ℕ) (replies : List ℕ) → IsDefined (flat_run p layout fuel replies).end
    → placed_run q layout fuel replies ≡ flat_run p layout fuel replies

-- ---- needs

-- a placed function asks for no more than the flat one, and calls the same functions, by their
-- numbers, in the same order
pub record AsksNoMore (f : Routine ℕ) (g : Routine Place) : Type 0 where
  pub slots : g.variables ≤ f.variables
  pub params : length g.params ≡ length f.params
  pub results : length g.results ≡ length f.results
  pub blocks : sites g.body ≡ sites f.body
  pub calls : callees g.body ≡ callees f.body
  pub loads : loads g.body ≡ loads f.body
  pub stores : stores g.body ≡ stores f.body
  pub accesses : accesses g.body ≡ accesses f.body
  pub arguments : arguments g.body ≡ arguments f.body
  pub targets : targets g.body ≡ targets f.body
  pub frame : frame_need g ≤ frame_need f
  pub words : placed_routine_words g ≤ flat_routine_words f

-- each of them, and they are as many
abbrev pub AllAskNoMore : List (Routine ℕ) → List (Routine Place) → Type 0
AllAskNoMore [] [] = Unit {0}
AllAskNoMore (f ∷ fs) (g ∷ gs) = AsksNoMore f g × AllAskNoMore fs gs
AllAskNoMore _ _ = ⊥

-- ---- slots

-- a placed function has as few slots as its places allow; if these are all registers, it has none,
-- and moves nothing from or to one
pub record UsesFewSlots (places : List Place) (g : Routine Place) : Type 0 where
  pub fewest : (n : ℕ) → All (MayHold n) places → g.variables ≤ n
  pub no_slots : All IsInRegister places → g.variables ≡ 0
  pub no_moves : All IsInRegister places → slot_moves g.body ≡ 0

-- each of them, and they are as many: the places of a function's variables stand beside it
abbrev pub AllUseFewSlots : List (List Place) → List (Routine Place) → Type 0
AllUseFewSlots [] [] = Unit {0}
AllUseFewSlots (places ∷ lists) (g ∷ gs) = UsesFewSlots places g × AllUseFewSlots lists gs
AllUseFewSlots _ _ = ⊥

-- if all variables of all functions have registers, the placed program may have no more loads and
-- stores among its words than the flat one
abbrev pub IsLeanInRegisters : List (List Place) → List (Routine ℕ) → List (Routine Place) → Type 0
IsLeanInRegisters lists fs gs =
    All (All IsInRegister) lists → placed_accesses_need gs ≤ flat_accesses_need fs
