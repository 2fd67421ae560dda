use Rattle.std.proofs.Common.{◌≡◌, ◌≤◌, take}
use Rattle.lb_syntax.specs.Needs.{distinct}
use Rattle.lb_check.proofs.NameSets.{HasJust}
use Rattle.lb_check.proofs.names.count_distinct.Given as goal

-- the set has the names so far, and so many of them are different
abbrev pub invariant-loop-name : goal.invariant-loop-name
invariant-loop-name l = record {
  has : HasJust l.seen (take l.name-index l.names);
  counted : l.count ≡ distinct (take l.name-index l.names);
  few : l.count ≤ l.name-index;
}
