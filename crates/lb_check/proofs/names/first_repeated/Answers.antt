use Rattle.std.proofs.Common.{Some, not, ap, subst, ◌∙◌}
use Rattle.lb_check.proofs.NameSets.{has_text, Adds, searched_more, searched_found}
use Rattle.lb_check.proofs.names.first_repeated.Goals as goal

pub loop-name-preserved : goal.loop-name-preserved
loop-name-preserved c =
    let same = c.as_bytes.ensures.value in
    let updates = subst (λ x. Adds c.loop-name.seen c.insert.new.self x) same c.in_ok-insert.ensures.updates in
    let added = c.in_ok-insert.ensures.added ∙ ap (λ x. not (has_text c.loop-name.seen x)) same in
    searched_more c.loop-name.seen c.insert.new.self c.args.names.now c.loop-name.name-index c.name-item.result c.in_ok-insert.field-0
    c.loop-name-test.true c.name-item.is added c.if-not-branch.false updates c.loop-name.invariant

pub returns-then-not-branch : goal.returns-then-not-branch
returns-then-not-branch c =
    let added = c.in_ok-insert.ensures.added ∙ ap (λ x. not (has_text c.loop-name.seen x)) c.as_bytes.ensures.value in
    ap Some c.in_ok-copy.ensures
    ∙ searched_found c.loop-name.seen c.args.names.now c.loop-name.name-index c.name-item.result c.in_ok-insert.field-0
    c.loop-name-test.true c.name-item.is added c.if-not-branch.true c.loop-name.invariant
