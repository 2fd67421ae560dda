use Rattle.std.proofs.Common.{◌≡◌, ◌+◌, ◌*◌, ◌≤◌, drop, length}
use Rattle.std.specs.Prelude.{map, sum}
use Rattle.lb_syntax.specs.Tree.{term_of}
use Rattle.lb_syntax.specs.Needs.{nodes, terms_words}
use Rattle.lb_check.proofs.counts.words_of_arguments.Given as goal

-- what was counted and what is left to count is all
abbrev pub invariant-loop-argument : goal.invariant-loop-argument
invariant-loop-argument l =
    let rest = drop l.argument-index l.arguments in record {
      counted : l.count + (terms_words (map term_of rest) + 4 * length rest) ≡ terms_words (map term_of l.arguments) + 4 * length l.arguments;
      few : l.count + 10 * sum (map nodes (map term_of rest)) ≤ 10 * sum (map nodes (map term_of l.arguments));
    }
