use Rattle.std.proofs.Common.{◌≡◌, drop, map, length}
use Rattle.lb_flat.specs.declared.places.Place.{Place}
use Rattle.lb_flat.specs.Code.{Code, chain}
use Rattle.lb_flat.specs.Flat.{flat_command, flat_block}
use Rattle.lb_flat.specs.Located.{place_of}
use Rattle.lb_spill.specs.InternalSpill.{spill, emitted, NamesBelow}
use Rattle.lb_spill.proofs.code.+code.Given as goal

-- the code so far, and that of what is left, is the block's
abbrev pub invariant-add_commands-loop-c : goal.invariant-add_commands-loop-c
invariant-add_commands-loop-c l =
    let left = chain (map flat_command (drop l.c-index l.c-items)) in
    record {
      names : NamesBelow (length l.places) left;
      made : (rest : Code Place) → emitted l.code (spill (place_of l.places) left rest) ≡ emitted l.initial.code (spill (place_of l.places) (flat_block l.block) rest);
    }
