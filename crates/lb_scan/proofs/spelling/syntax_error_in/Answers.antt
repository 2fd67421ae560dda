use Rattle.std.proofs.Common.{◌≡◌, ◌∙◌, sym, arith}
use Rattle.lb_scan.proofs.Stuck.{rest_is, spells_more, stuck_within, stuck_at_end, stuck_behind}
use Rattle.lb_scan.proofs.spelling.syntax_error_in.Goals as goal

pub returns-then-not-begins : goal.returns-then-not-begins
returns-then-not-begins c n k = rw (c.kind_in.ensures) (stuck_within c.args.expected c.args.bytes.now c.args.len c.loop-i.i c.requires.spelled c.requires.token c.loop-i-test.true c.loop-i.invariant (sym c.begins.ensures ∙ c.if-not-begins.true) n k)

pub loop-i-preserved : goal.loop-i-preserved
loop-i-preserved c = spells_more c.args.expected c.args.bytes.now c.args.len c.loop-i.i c.requires.spelled c.requires.token c.loop-i-test.true c.loop-i.invariant (sym c.begins.ensures ∙ c.if-not-begins.false)

pub returns-in-None : goal.returns-in-None
returns-in-None c n k =
    let is : c.loop-i.i ≡ c.args.len = (let some = c.requires.spelled.some in omega arith) in
    stuck_at_end c.args.expected c.args.bytes.now c.args.len (rw is at c.loop-i.invariant) (sym (rest_is c.args.bytes.now c.args.len) ∙ c.in-None.ensures) c.requires.untaken n k

pub returns-in-Some : goal.returns-in-Some
returns-in-Some c n k =
    let is : c.loop-i.i ≡ c.args.len = (let some = c.requires.spelled.some in omega arith) in
    rw (c.unexpected.ensures) (stuck_behind c.args.expected c.args.bytes.now c.args.len c.in-Some.b c.in-Some.field-0-1.now c.requires.spelled c.requires.no_digit (rw is at c.loop-i.invariant) (sym (rest_is c.args.bytes.now c.args.len) ∙ c.in-Some.ensures) c.requires.untaken n k)
