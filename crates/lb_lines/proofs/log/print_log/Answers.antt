use Rattle.std.proofs.Common.{arith}
use Rattle.std.specs.List.{flat_map, All}
use Rattle.std.proofs.lemmas.List.Elements.{All-take}
use Rattle.lb_lines.specs.Log.{HasDigit}
use Rattle.lb_lines.proofs.LogLemmas.{All-right, line_printed}
use Rattle.lb_lines.proofs.log.print_log.Goals as goal

pub push_line-requires : goal.push_line-requires
push_line-requires c =
    let rest : All HasDigit c.loop-rest.rest.now =
    All-right HasDigit c.args.log.now (flat_map (λ line. line) c.loop-rest.invariant.full) c.loop-rest.rest.now c.loop-rest.invariant.whole c.requires in
    rw c.split_at.ensures.front (All-take HasDigit 32 c.loop-rest.rest.now rest)

pub loop-rest-preserved : goal.loop-rest-preserved
loop-rest-preserved c =
    rw c.in_ok-push_line.ensures
    (line_printed c.args.log.now c.loop-rest.rest.now c.split_at.result.0.now c.split_at.result.1.now c.loop-rest.text.items (omega arith)
    c.split_at.ensures.front c.split_at.ensures.back c.loop-rest.invariant)

pub push_line-requires-2 : goal.push_line-requires-2
push_line-requires-2 c =
    All-right HasDigit c.args.log.now (flat_map (λ line. line) c.loop-rest.invariant.full) c.loop-rest.rest.now c.loop-rest.invariant.whole c.requires
