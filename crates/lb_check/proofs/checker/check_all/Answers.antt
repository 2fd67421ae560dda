use Rattle.std.proofs.Common.{map}
use Rattle.std.proofs.lemmas.Result.{err_from_is_err_and}
use Rattle.lb_syntax.specs.Tree.{procedure_of}
use Rattle.lb_check.proofs.Refusals.{refused_form, refused_needs, refused_stack, all_kept, small_frames, stack_fits}
use Rattle.lb_check.proofs.checker.check_all.Goals as goal

pub returns-in_err-check_rules-clause-refused : goal.returns-in_err-check_rules-clause-refused
returns-in_err-check_rules-clause-refused c =
    let p = err_from_is_err_and c.from_residual.result c.from_residual.ensures.1 in
    rw (p.1, p.2) (refused_form (map procedure_of c.args.functions.now) c.in_err-check_rules.field-0.0 c.in_err-check_rules.ensures)

pub returns-in_err-check_rules-2-clause-refused : goal.returns-in_err-check_rules-2-clause-refused
returns-in_err-check_rules-2-clause-refused c =
    let p = err_from_is_err_and c.from_residual-in_err-check_rules-2.result c.from_residual-in_err-check_rules-2.ensures.1 in
    rw (p.1, p.2) (refused_needs (map procedure_of c.args.functions.now) c.in_err-check_rules-2.field-0.0 c.in_ok-check_rules.ensures c.in_ok-check_cycles.ensures.settles c.in_err-check_rules-2.ensures)

pub check_stack-requires-clause-frames : goal.check_stack-requires-clause-frames
check_stack-requires-clause-frames c = small_frames (map procedure_of c.args.functions.now) c.in_ok-check_rules-2.ensures

pub returns-in_err-stack-clause-refused : goal.returns-in_err-stack-clause-refused
returns-in_err-stack-clause-refused c =
    let p = err_from_is_err_and c.from_residual-in_err-stack.result c.from_residual-in_err-stack.ensures.1 in
    rw (p.1, p.2) (refused_stack (map procedure_of c.args.functions.now) c.in_err-stack.field-0.0 c.in_ok-check_rules.ensures c.in_ok-check_cycles.ensures.settles c.in_ok-check_rules-2.ensures c.in_err-stack.ensures.over)

pub returns-clause-rules : goal.returns-clause-rules
returns-clause-rules c =
    all_kept (map procedure_of c.args.functions.now) c.in_ok-check_rules.ensures c.in_ok-check_cycles.ensures.settles c.in_ok-check_rules-2.ensures
    (stack_fits (map procedure_of c.args.functions.now) c.in_ok-stack.stack c.in_ok-stack.ensures.need c.in_ok-stack.ensures.within)
