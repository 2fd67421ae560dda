use Rattle.std.proofs.Common.{◌≤◌}
use Rattle.lb_compile_tests.proofs.memory_words.loops_do_few.Given as goal

-- there are no more accesses than steps
abbrev pub invariant-loop : goal.invariant-loop
invariant-loop g l = l.accesses ≤ l.counter
