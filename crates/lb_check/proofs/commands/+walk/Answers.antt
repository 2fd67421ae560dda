use Rattle.std.proofs.Common.{◌++◌, ap}
use Rattle.std.specs.Prelude.{Err, map, flat_map}
use Rattle.std.proofs.lemmas.Result.{err_from_is_err_and}
use Rattle.lb_syntax.specs.Tree.{term_of, command_of, block_of, procedure_of}
use Rattle.lb_check.specs.Order.{commands}
use Rattle.lb_check.specs.Faults.{command_faults}
use Rattle.lb_syntax.proofs.TreeFacts.{says_if}
use Rattle.lb_check.proofs.OrderLemmas.{inner, command_first}
use Rattle.lb_check.proofs.Tell.{tells_same, tells_front, if_front, if_rest}
use Rattle.lb_check.proofs.commands.+walk.Goals as goal

pub check_command-returns-in_err-check_place : goal.check_command-returns-in_err-check_place
check_command-returns-in_err-check_place t c =
    let p = err_from_is_err_and c.from_residual.result c.from_residual.ensures.1 in
    let own = command_faults c.args.rule (map procedure_of c.args.functions.now) c.args.function.now in
    rw (p.1, p.2) (tells_same (flat_map own (commands (command_of c.args.c.now))) (own (command_of c.args.c.now) ++ flat_map own (inner (command_of c.args.c.now))) (Err c.in_err-check_place.field-0.0) (ap (flat_map own) (command_first c.args.c.now))
    (tells_front (own (command_of c.args.c.now)) (flat_map own (inner (command_of c.args.c.now))) _ c.in_err-check_place.ensures))

pub check_command-returns-in_err-check_block-in-If : goal.check_command-returns-in_err-check_block-in-If
check_command-returns-in_err-check_block-in-If t c =
    let p = err_from_is_err_and c.from_residual-in_err-check_block-in-If.result c.from_residual-in_err-check_block-in-If.ensures.1 in
    rw (p.1, p.2) (if_front (command_faults c.args.rule (map procedure_of c.args.functions.now) c.args.function.now) (command_of c.args.c.now)
    (term_of c.in-If.condition) (block_of c.in-If.yes) (block_of c.in-If.no) _
    (says_if c.args.c.now c.in-If.condition c.in-If.yes c.in-If.no c.in-If.is) c.in_ok-check_place.ensures c.in_err-check_block-in-If.ensures)

pub check_command-returns-in_ok-check_block-in-If : goal.check_command-returns-in_ok-check_block-in-If
check_command-returns-in_ok-check_block-in-If t c =
    if_rest (command_faults c.args.rule (map procedure_of c.args.functions.now) c.args.function.now) (command_of c.args.c.now)
    (term_of c.in-If.condition) (block_of c.in-If.yes) (block_of c.in-If.no) _
    (says_if c.args.c.now c.in-If.condition c.in-If.yes c.in-If.no c.in-If.is) c.in_ok-check_place.ensures c.in_ok-check_block-in-If.ensures c.check_block-in-If.ensures
