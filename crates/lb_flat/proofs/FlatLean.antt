-- The flat form of a small program has few variables, and no flat form has more loads and stores than its program.
use Rattle.std.proofs.Common.{ℕ, ◌+◌, ◌≤◌, List, [], ◌∷◌, map, sum, arith}
use Rattle.std.specs.List.{AllByRecursion}
use Rattle.std.proofs.lemmas.List.Elements.{All-from_recursion}
use Rattle.std.proofs.lemmas.List.Sums.{sum_by-cons}
use Rattle.lb_syntax.specs.Tree.{Procedure}
use Rattle.lb_syntax.specs.Needs.{variables, greatest_depth}
use Rattle.lb_syntax.specs.Rules.{KeepsRules}
use Rattle.lb_flat.specs.Code.{Routine, Executable}
use Rattle.lb_flat.specs.Needs.{memory_words, routine_memory_words, flat_accesses_need}
use Rattle.lb_flat.specs.SourceCounts.{greatest_arguments, source_memory_words, source_accesses_need, IsSmall}
use Rattle.lb_flat.specs.Flattened.{HasFewVariables}
use Rattle.lb_flat.specs.InternalFlatForms.{IsFlattened}
use Rattle.lb_flat.specs.Laws.{AllAskNoMore}
use Rattle.lb_flat.proofs.FlatForms.{by_elements}
use Rattle.lb_flat.proofs.FlatCounts.{flattened_asks_no_more}

accesses_below : (fs : List Procedure) (gs : List (Routine ℕ)) → AllAskNoMore fs gs → sum (map (routine_memory_words memory_words) gs) ≤ sum (map source_memory_words fs)
accesses_below [] [] h = omega arith
accesses_below [] (g ∷ gs) h = absurd h
accesses_below (f ∷ fs) [] h = absurd h
accesses_below (f ∷ fs) (g ∷ gs) h =
    let k = h.0 in
    omega (
      arith,
      k.params,
      k.results,
      k.loads,
      k.stores,
      k.accesses,
      k.arguments,
      k.targets,
      accesses_below fs gs h.1,
      sum_by-cons (λ n. n) (routine_memory_words memory_words g) (map (routine_memory_words memory_words) gs),
      sum_by-cons (λ n. n) (source_memory_words f) (map source_memory_words fs),
    )

few_variables : (fs : List Procedure) (gs : List (Routine ℕ)) → AllByRecursion (λ f. variables f + greatest_depth f.body + greatest_arguments f.body ≤ 8) fs → AllAskNoMore fs gs → AllByRecursion (λ g. g.variables ≤ 8) gs
few_variables [] [] small h = tt
few_variables [] (g ∷ gs) small h = absurd h
few_variables (f ∷ fs) [] small h = absurd h
few_variables (f ∷ fs) (g ∷ gs) small h = (omega (arith, small.0, h.0.variables), few_variables fs gs small.1 h.1)

pub flattened_accesses : (p : List Procedure) (q : Executable ℕ) → KeepsRules p → IsFlattened p q → flat_accesses_need q.routines ≤ source_accesses_need p
flattened_accesses p q keeps form = omega (arith, accesses_below p q.routines (flattened_asks_no_more p q keeps form))

pub flattened_variables : (p : List Procedure) (q : Executable ℕ) → KeepsRules p → IsFlattened p q → IsSmall p → HasFewVariables q
flattened_variables p q keeps form small =
    All-from_recursion (λ (g : Routine ℕ). g.variables ≤ 8) q.routines
    (few_variables p q.routines (by_elements (λ f. variables f + greatest_depth f.body + greatest_arguments f.body ≤ 8) p small) (flattened_asks_no_more p q keeps form))
