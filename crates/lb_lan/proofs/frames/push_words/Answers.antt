use Rattle.std.proofs.Common.{rules}
use Rattle.lb_lan.proofs.FrameLemmas.{room_left, word_pushed, still_fits, all_pushed}
use Rattle.lb_lan.proofs.frames.push_words.Goals as goal

pub push-requires : goal.push-requires
push-requires c = (search rules, room_left c.loop-n.queue c.args.queue.now c.args.bytes.now c.loop-n.n c.loop-n.invariant c.requires (rw (← c.word_count-n-end.ensures.count) c.loop-n-test.true))

pub loop-n-preserved : goal.loop-n-preserved
loop-n-preserved c = rw (c.push.ensures.items)
    (word_pushed c.loop-n.queue c.args.queue.now c.args.bytes.now c.loop-n.n c.word_at.result c.loop-n.invariant (rw (← c.word_count-n-end.ensures.count) c.loop-n-test.true) c.word_at.ensures)

pub returns-clause-words : goal.returns-clause-words
returns-clause-words c = all_pushed c.loop-n.queue c.args.queue.now c.args.bytes.now c.loop-n.n c.loop-n.invariant (rw (← c.word_count-n-end.ensures.count) c.loop-n-test.false)

pub returns-clause-fits : goal.returns-clause-fits
returns-clause-fits c = still_fits c.loop-n.queue c.args.queue.now c.args.bytes.now
    (all_pushed c.loop-n.queue c.args.queue.now c.args.bytes.now c.loop-n.n c.loop-n.invariant (rw (← c.word_count-n-end.ensures.count) c.loop-n-test.false)) c.requires
