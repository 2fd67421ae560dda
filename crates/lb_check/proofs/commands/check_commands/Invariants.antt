use Rattle.std.proofs.Common.{◌≡◌, ◌≤◌, drop}
use Rattle.std.specs.Prelude.{map, flat_map}
use Rattle.lb_syntax.specs.Tree.{procedure_of}
use Rattle.lb_check.specs.declared.rule.Rule.TheVariants.{OfCommand}
use Rattle.lb_check.specs.Order.{commands}
use Rattle.lb_check.specs.Parts.{parts}
use Rattle.lb_check.specs.Faults.{command_faults, faults}
use Rattle.lb_check.proofs.commands.check_commands.Given as goal

-- no fault so far: the faults of what is left are the faults of all
abbrev pub invariant-loop-f : goal.invariant-loop-f
invariant-loop-f l =
    let rest = map procedure_of (drop l.f-index l.functions) in record {
      told : flat_map (λ f. flat_map (command_faults l.rule (map procedure_of l.functions) f.name) (commands f.body)) rest ≡ faults (OfCommand l.rule) (map procedure_of l.functions);
      few : parts rest ≤ parts (map procedure_of l.functions);
    }
