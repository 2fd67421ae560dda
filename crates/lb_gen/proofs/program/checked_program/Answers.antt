use Rattle.lb_draws.specs.Draws.{draw}
use Rattle.lb_syntax.specs.Tree.{program_of}
use Rattle.lb_gen.proofs.WholeLemmas.{few_parts, never_refused}
use Rattle.lb_gen.proofs.program.checked_program.Goals as goal

pub check-requires : goal.check-requires
check-requires c = few_parts (draw c.args.seed 0) (program_of c.in_ok-program.program) c.in_ok-program.ensures.tree

pub unreachable-requires : goal.unreachable-requires
unreachable-requires c =
    never_refused (draw c.args.seed 0) (program_of c.in_ok-program.program) c.in-Err-Fault.field-0 c.in-Err-Fault.field-0-0
    c.in_ok-program.ensures.tree c.in-Err-Fault.field-0-is c.in-Err-Fault.ensures.refused
