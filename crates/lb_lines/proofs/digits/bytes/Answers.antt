use Rattle.std.proofs.Common.{refl, arith}
use Rattle.std.proofs.lemmas.Bool.Decides.{nat_tests}
use Rattle.lb_lines.proofs.ByteLemmas.{bytes_more, no_pair, no_end}
use Rattle.lb_lines.proofs.digits.bytes.Goals as goal

pub loop-pair-preserved : goal.loop-pair-preserved
loop-pair-preserved c =
    let s = c.in-Some.ensures.cases in
    rw c.in_ok-push.ensures.items
    (bytes_more c.args.digits.now c.loop-pair.rest.now c.in-Some.pair.now c.in-Some.behind.now c.loop-pair.bytes.items c.in-Some-byte.byte
    (omega (arith, s.2)) s.0 s.1 (omega arith) c.in-Some-byte.ensures.high c.in-Some-byte.ensures.low c.loop-pair.invariant)

pub returns-in_default-byte-clause-refused : goal.returns-in_default-byte-clause-refused
returns-in_default-byte-clause-refused c =
    let s = c.in-Some.ensures.cases in (
      refl,
      no_pair c.args.digits.now c.loop-pair.rest.now c.in-Some.pair.now c.in-Some.behind.now c.loop-pair.bytes.items
          (omega (arith, s.2)) s.0 s.1 c.in_default-byte.ensures.none c.loop-pair.invariant,
    )

pub returns-else-is_empty-clause-refused : goal.returns-else-is_empty-clause-refused
returns-else-is_empty-clause-refused c = (
  refl,
  no_end c.args.digits.now c.loop-pair.rest.now c.loop-pair.bytes.items (omega (arith, c.in_default.ensures.cases)) (λ z. grind (arith, nat_tests)) c.loop-pair.invariant,
)
