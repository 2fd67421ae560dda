use Rattle.std.proofs.Common.{arith}
use Rattle.lb_image.proofs.ReadingLemmas.{is_found, is_fault, is_only}
use Rattle.lb_image.proofs.reading.from_bytes.Goals as goal

pub returns-clause-found : goal.returns-clause-found
returns-clause-found c = is_found c.args.bytes.now c.read_image.result (λ k. omega (arith, c.type_inv.bytes k)) c.read_image.ensures

pub returns-clause-only : goal.returns-clause-only
returns-clause-only c = is_only c.args.bytes.now c.read_image.result c.read_image.ensures

pub returns-clause-place : goal.returns-clause-place
returns-clause-place c = is_fault c.args.bytes.now c.read_image.result c.read_image.ensures
