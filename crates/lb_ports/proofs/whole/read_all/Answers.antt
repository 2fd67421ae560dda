use Rattle.std.proofs.Common.{◌++◌, ℕ, take, arith, length-append, length-take}
use Rattle.std.proofs.KnownBytes.{Consumes-trans}
use Rattle.lb_ports.proofs.whole.read_all.Goals as goal

pub returns-then-count-limit-clause-too_long : goal.returns-then-count-limit-clause-too_long
returns-then-count-limit-clause-too_long g c =
    λ _. (c.loop-count.bytes.items ++ take c.in-Ok.count c.read.new.buf, Consumes-trans _ _ _ _ _ c.loop-count.invariant.taken c.in-Ok.ensures.bytes.0, omega (arith, length-append {A = ℕ}, length-take {A = ℕ}, c.loop-count.bytes.ok.0, c.read.auto.buf, c.in-Ok.ensures.bound))

pub returns-then-is_err-clause-memory : goal.returns-then-is_err-clause-memory
returns-then-is_err-clause-memory g c =
    λ _. (c.loop-count.bytes.items ++ take c.in-Ok.count c.read.new.buf, Consumes-trans _ _ _ _ _ c.loop-count.invariant.taken c.in-Ok.ensures.bytes.0, omega (arith, length-append {A = ℕ}, length-take {A = ℕ}, c.loop-count.bytes.ok.0, c.read.auto.buf, c.in-Ok.ensures.bound))
