use Rattle.lb_repeats.proofs.Calls.{calls_repeat}
use Rattle.lb_repeats.proofs.laws.calls_repeat.Goals as goal

pub returns : goal.returns
returns c =
    calls_repeat (record {
      tree = c.one_tree.ensures;
      text = c.one_fault.ensures;
      rule = c.one_fault-2.ensures;
      need = c.one_stack_need.ensures;
      spelling = c.one_spelling.ensures;
      trace = c.one_answer.ensures.trace;
      replies = c.one_answer.ensures.replies;
      frames = c.one_answer.ensures.frames;
      log = c.one_answer.ensures.log;
      prefix = c.prefix_law.ensures;
      rounds = c.rounds_law.ensures;
    })
