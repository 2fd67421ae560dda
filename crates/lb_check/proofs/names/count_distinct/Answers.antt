use Rattle.std.proofs.Common.{◌+◌, not, take, sym, ap, ◌∙◌, subst, arith, if◌then◌else◌}
use Rattle.lb_syntax.specs.Needs.{distinct}
use Rattle.lb_check.proofs.NameSets.{has_text, Adds, HasJust, has_back, counted_back, names_back}
use Rattle.lb_check.proofs.names.count_distinct.Goals as goal
use Rattle.lb_check.proofs.names.count_distinct.Goals.{then-branch, else-branch}

pub loop-name-preserved : goal.loop-name-preserved
loop-name-preserved c =
    let next = names_back c.args.names.now c.loop-name.name-index c.name-item.result c.loop-name-test.true c.name-item.is in
    let before = take c.loop-name.name-index c.args.names.now in
    let same = c.as_bytes.ensures.value in
    let updates = subst (λ x. Adds c.loop-name.seen c.insert.new.self x) same c.in_ok-insert.ensures.updates in
    let added = c.in_ok-insert.ensures.added ∙ ap (λ x. not (has_text c.loop-name.seen x)) same in
    let counted = counted_back c.loop-name.seen before c.name-item.result c.in_ok-insert.field-0 c.loop-name.invariant.has added ∙ sym (ap distinct next) in
    record {
      has = subst (HasJust c.insert.new.self) (sym next) (has_back c.loop-name.seen c.insert.new.self before c.name-item.result c.loop-name.invariant.has updates);
      counted = elim c.if-branch.branch [
        | then-branch w ↦ w.count-is ∙ ap (λ n. n + 1) c.loop-name.invariant.counted ∙ sym (ap (λ b. if b then distinct before + 1 else distinct before) w.if-branch.true) ∙ counted
        | else-branch w ↦ w.count-is ∙ c.loop-name.invariant.counted ∙ sym (ap (λ b. if b then distinct before + 1 else distinct before) w.if-branch.false) ∙ counted
      ];
      few = elim c.if-branch.branch [ then-branch w ↦ omega arith | else-branch w ↦ omega arith ];
    }
