use Rattle.lb_syntax.specs.Tree.{program_of}
use Rattle.lb_handmade.proofs.SizeLemmas.{few_parts}
use Rattle.lb_handmade.proofs.handmade.checked.Goals as goal

pub returns-then-not-has_few_parts-clause-refused : goal.returns-then-not-has_few_parts-clause-refused
returns-then-not-has_few_parts-clause-refused c = λ e keeps.
    let few = c.has_few_parts.ensures.1 (few_parts (program_of c.args.program) keeps) in
    cc
