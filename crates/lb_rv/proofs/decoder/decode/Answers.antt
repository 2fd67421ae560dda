use Rattle.lb_rv.proofs.DecodingLemmas.{Decodes-instruction_of, Decodes-word, Decodes-only}
use Rattle.lb_rv.proofs.decoder.decode.Goals as goal

pub returns-clause-instruction : goal.returns-clause-instruction
returns-clause-instruction c = Decodes-instruction_of c.args.w c.by_opcode.result c.ranges.w.fits c.by_opcode.ensures

pub returns-clause-word : goal.returns-clause-word
returns-clause-word c = Decodes-word c.args.w c.by_opcode.result c.ranges.w.fits c.by_opcode.ensures

pub returns-clause-only : goal.returns-clause-only
returns-clause-only c = Decodes-only c.args.w c.by_opcode.result c.ranges.w.fits c.by_opcode.ensures
