use Rattle.std.proofs.Common.{rules, ◌≡◌, ◌∷◌, ◌+◌, ◌∙◌, take, drop, get_or, suc, subst, sym, ap₂, arith}
use Rattle.std.proofs.Math.Seq.{take-length, drop-length}
use Rattle.lb_sections.specs.Sections.{lines}
use Rattle.lb_sections.proofs.CutLemmas.{line_there, line_last}
use Rattle.lb_sections.proofs.cut.line_length.Goals as goal

pub returns-then-rest-place-eq10-clause-line : goal.returns-then-rest-place-eq10-clause-line
returns-then-rest-place-eq10-clause-line c =
    let here : get_or c.args.rest.now c.loop-place.place 0 ≡ 10 = search rules in
    let next : suc c.loop-place.place ≡ c.loop-place.place + 1 = omega arith in
    subst (λ k. lines c.args.rest.now ≡ take k c.args.rest.now ∷ lines (drop k c.args.rest.now)) next
    (line_there c.args.rest.now c.loop-place.place c.loop-place.invariant (search rules) here)

pub returns-clause-line : goal.returns-clause-line
returns-clause-line c =
    line_last c.args.rest.now (λ k less. c.loop-place.invariant k (omega arith)) c.requires
    ∙ ap₂ (λ first behind. first ∷ lines behind) (sym (take-length c.args.rest.now)) (sym (drop-length c.args.rest.now))
