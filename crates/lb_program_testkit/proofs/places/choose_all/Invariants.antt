use Rattle.std.proofs.Common.{◌≡◌, ◌++◌, drop, map}
use Rattle.lb_flat.specs.declared.places.FunctionPlaces.{FunctionPlaces}
use Rattle.lb_flat.specs.Flat.{flat_routine}
use Rattle.lb_program_testkit.specs.Chosen.{all_chosen}
use Rattle.lb_program_testkit.proofs.places.choose_all.Given as goal

-- the lists so far, and those of what is left, are all
abbrev pub invariant-loop-f : goal.invariant-loop-f
invariant-loop-f l =
    map (λ (f : FunctionPlaces). f.places) l.lists ++ all_chosen l.from l.to (map flat_routine (drop l.f-index l.functions)) ≡ all_chosen l.from l.to (map flat_routine l.functions)
