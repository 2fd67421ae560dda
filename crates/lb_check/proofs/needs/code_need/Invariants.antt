use Rattle.std.proofs.Common.{◌≡◌, ◌+◌, ◌*◌, ◌≤◌, drop}
use Rattle.std.specs.Prelude.{map, sum}
use Rattle.lb_syntax.specs.Tree.{Procedure, procedure_of}
use Rattle.lb_syntax.specs.Needs.{far_factor, procedure_words, code_need}
use Rattle.lb_check.specs.Parts.{parts}
use Rattle.lb_check.proofs.needs.code_need.Given as goal

-- what was counted and what is left to count is all
abbrev pub invariant-loop-f : goal.invariant-loop-f
invariant-loop-f l =
    let rest = map procedure_of (drop l.f-index l.functions) in record {
      counted : l.count + sum (map (λ (f : Procedure). far_factor f * procedure_words f) rest) ≡ code_need (map procedure_of l.functions);
      few : l.count + 160 * parts rest ≤ 16 + 160 * parts (map procedure_of l.functions);
    }
