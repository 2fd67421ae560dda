-- The functions of a flat program that is in order name their own variables.
use Rattle.std.proofs.Common.{ℕ, List}
use Rattle.std.specs.List.{AllByRecursion}
use Rattle.lb_flat.specs.Code.{Code, Plain, Reserve, Branch, Loop, Nothing, Sequence, Routine, Executable}
use Rattle.lb_flat.specs.Order.{EachName, IsVariable, KeepsRoutineRules, IsFlatInOrder}
use Rattle.lb_flat.proofs.FlatForms.{by_elements, weaken}
use Rattle.lb_spill.specs.InternalSpill.{NamesBelow, NamesOwn}

names_below : (n : ℕ) (c : Code ℕ) → EachName (IsVariable n) c → NamesBelow n c
names_below n (Plain o xs ys) h = (by_elements (IsVariable n) xs h.0, by_elements (IsVariable n) ys h.1)
names_below n (Reserve k y b) h = (h.0, names_below n b h.1)
names_below n (Branch x b d) h = (h.0, names_below n b h.1, names_below n d h.2)
names_below n (Loop b x d) h = (names_below n b h.0, h.1, names_below n d h.2)
names_below n Nothing h = tt
names_below n (Sequence c d) h = (names_below n c h.0, names_below n d h.1)

pub names_own : (fs : List (Routine ℕ)) (f : Routine ℕ) → KeepsRoutineRules IsVariable fs f → NamesOwn f
names_own fs f keeps = record {
  params = by_elements (IsVariable f.variables) f.params keeps.params;
  results = by_elements (IsVariable f.variables) f.results keeps.results;
  body = names_below f.variables f.body keeps.names;
}

pub all_name_own : (p : Executable ℕ) → IsFlatInOrder p → AllByRecursion NamesOwn p.routines
all_name_own p in_order = weaken (KeepsRoutineRules IsVariable p.routines) NamesOwn p.routines (names_own p.routines) (by_elements (KeepsRoutineRules IsVariable p.routines) p.routines in_order.routines)
