use Rattle.lb_lines.proofs.SpellingLemmas.{one_trace, one_replies, one_frames, one_log}
use Rattle.lb_lines.proofs.laws.one_answer.Goals as goal

pub returns-clause-trace : goal.returns-clause-trace
returns-clause-trace c = one_trace

pub returns-clause-replies : goal.returns-clause-replies
returns-clause-replies c = one_replies

pub returns-clause-frames : goal.returns-clause-frames
returns-clause-frames c = one_frames

pub returns-clause-log : goal.returns-clause-log
returns-clause-log c = one_log
