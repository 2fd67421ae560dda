-- The stack need of a program.
use Rattle.std.proofs.Common.{arith}
use Rattle.lb_syntax.specs.Laws.{OneStackNeed}

pub one_stack_need : OneStackNeed
one_stack_need p m n a b =
    let le = b.greatest a.path a.is_path in
    let ge = a.greatest b.path b.is_path in omega (arith, le, ge, a.taken, b.taken)
