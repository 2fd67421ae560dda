use Rattle.std.proofs.Common.{arith}
use Rattle.std.proofs.lemmas.Result.{err_from_is_err_and}
use Rattle.lb_syntax.specs.Tree.{program_of}
use Rattle.lb_system.proofs.RefusalLemmas.{grammar_left}
use Rattle.lb_system.proofs.SizeLemmas.{text_size}
use Rattle.lb_system.proofs.source.read.Goals as goal

pub returns-clause-read : goal.returns-clause-read
returns-clause-read c = record { accepted = c.in_ok-read_program.ensures.found; only = λ q a. c.in_ok-read_program.ensures.only q a.0 }

pub returns-clause-small : goal.returns-clause-small
returns-clause-small c = omega (arith, text_size (program_of c.in_ok-read_program.field-0) c.args.text.now c.in_ok-read_program.ensures.found.0, c.requires)

pub returns-in_err-read_program-clause-refused : goal.returns-in_err-read_program-clause-refused
returns-in_err-read_program-clause-refused c =
    let p = err_from_is_err_and c.from_residual.result c.from_residual.ensures.1 in
    rw (p.1, p.2) (grammar_left c.args.text.now c.in_err-read_program.field-0.0 c.in_err-read_program.ensures.place)
