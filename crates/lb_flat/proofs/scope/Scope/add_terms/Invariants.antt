use Rattle.std.proofs.Common.{◌≡◌, ℕ, drop, ◌++◌}
use Rattle.std.specs.Prelude.{map}
use Rattle.std.specs.List.{AllByRecursion}
use Rattle.lb_syntax.specs.Tree.{term_of}
use Rattle.lb_syntax.specs.WellFormed.{IsTerm}
use Rattle.lb_flat.specs.Code.{Code}
use Rattle.lb_flat.specs.InternalFlatten.{emitted, code_of_terms, holders_of_terms, HasTermsRoom}
use Rattle.lb_flat.proofs.scope.Scope.add_terms.Given as goal

-- the code so far, and that of what is left, is all; so are the holders; all are well-formed if the rest are
abbrev pub invariant-loop-e : goal.invariant-loop-e
invariant-loop-e l =
    let left = map term_of (drop l.e-index l.es) in
    let whole = map term_of l.es in
    record {
      made : (rest : Code ℕ) → emitted l.code (code_of_terms l.self left l.free rest) ≡ emitted l.initial.code (code_of_terms l.self whole l.t rest);
      holders : l.numbers ++ holders_of_terms l.self left l.free ≡ holders_of_terms l.self whole l.t;
      room : HasTermsRoom l.free left;
      well_formed : AllByRecursion IsTerm left → AllByRecursion IsTerm whole;
    }
