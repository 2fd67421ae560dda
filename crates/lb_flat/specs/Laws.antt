-- The laws of places, and what flat forms ask for.
use Rattle.std.specs.Prelude.{◌≡◌, ◌↔◌, ℕ, ◌+◌, ◌*◌, ◌≤◌, List, [], ◌∷◌, length}
use Rattle.lb_syntax.specs.Tree.{Procedure}
use Rattle.lb_syntax.specs.Needs as source
use Rattle.lb_syntax.specs.declared.layout.Layout.{Layout}
use Rattle.lb_source.specs.Defined.{IsDefined}
use Rattle.lb_flat.specs.declared.places.Place.{Place}
use Rattle.lb_flat.specs.Code.{Routine, Executable, sites}
use Rattle.lb_flat.specs.Counts.{loads, stores, accesses, arguments, targets}
use Rattle.lb_flat.specs.Needs.{frame_need, flat_routine_words}
use Rattle.lb_flat.specs.SourceCounts.{source_loads, source_stores, source_accesses, source_arguments, source_targets, greatest_arguments}
use Rattle.lb_flat.specs.Whole.{flat_run, located_run}
use Rattle.lb_flat.specs.Accepted.{KeepsApart, AreAllAccepted}
use Rattle.lb_flat.specs.Liveness.{IsApartIn}

-- with accepted places a program that does nothing undefined has the same trace and end
abbrev pub AcceptedPlacesKeep : Type 0
AcceptedPlacesKeep =
    (p : Executable ℕ) (places : List (List Place)) (layout : Layout) (fuel : ℕ) (replies : List ℕ)
    → AreAllAccepted p.routines places
    → IsDefined (flat_run p layout fuel replies).end
    → located_run places p layout fuel replies ≡ flat_run p layout fuel replies

-- on all walks or by recursion on the tree, the places of a function are apart or aren't
abbrev pub LivenessIsByWalks : Type 0
LivenessIsByWalks = (place : ℕ → Place) (f : Routine ℕ) → ((x : ℕ) → IsApartIn place f x) ↔ KeepsApart place f

-- a flat function asks for no more than the source's
pub record AsksNoMore (f : Procedure) (g : Routine ℕ) : Type 0 where
  pub variables : g.variables ≡ source.variables f + source.greatest_depth f.body + greatest_arguments f.body
  pub params : length g.params ≡ length f.params
  pub results : length g.results ≡ length f.results
  pub blocks : sites g.body ≡ source.sites f.body
  pub loads : loads g.body ≡ source_loads f.body
  pub stores : stores g.body ≡ source_stores f.body
  pub accesses : accesses g.body ≡ source_accesses f.body
  pub arguments : arguments g.body ≡ source_arguments f.body
  pub targets : targets g.body ≡ source_targets f.body
  pub frame : frame_need g ≤ source.frame_need f
  pub words : flat_routine_words g ≤ source.far_factor f * source.procedure_words f

-- each of them, and they are as many
abbrev pub AllAskNoMore : List Procedure → List (Routine ℕ) → Type 0
AllAskNoMore [] [] = Unit {0}
AllAskNoMore (f ∷ fs) (g ∷ gs) = AsksNoMore f g × AllAskNoMore fs gs
AllAskNoMore _ _ = ⊥
