use Rattle.std.proofs.Common.{◌≡◌, ◌≤◌, drop}
use Rattle.std.specs.Prelude.{map, flat_map}
use Rattle.lb_syntax.specs.Tree.{procedure_of}
use Rattle.lb_check.specs.declared.rule.Rule.TheVariants.{OfFunction}
use Rattle.lb_check.specs.Parts.{parts}
use Rattle.lb_check.specs.Faults.{function_faults, faults}
use Rattle.lb_check.proofs.functions.check_functions.Given as goal

-- no fault so far: the faults of what is left are the faults of all
abbrev pub invariant-loop-f : goal.invariant-loop-f
invariant-loop-f l =
    let rest = map procedure_of (drop l.f-index l.functions) in record {
      told : flat_map (function_faults l.rule) rest ≡ faults (OfFunction l.rule) (map procedure_of l.functions);
      few : parts rest ≤ parts (map procedure_of l.functions);
    }
