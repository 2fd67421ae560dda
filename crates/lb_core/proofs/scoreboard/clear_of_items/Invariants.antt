use Rattle.std.proofs.Common.{◌≡◌, map, drop}
use Rattle.lb_core.specs.Scoreboard.{item_destination, uses_none}
use Rattle.lb_core.proofs.scoreboard.clear_of_items.Given as goal

-- what is left decides
abbrev pub invariant-loop-item : goal.invariant-loop-item
invariant-loop-item l =
    uses_none l.instruction (map item_destination (drop l.item-index l.items)) ≡ uses_none l.instruction (map item_destination l.items)
