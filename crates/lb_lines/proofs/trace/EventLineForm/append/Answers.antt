use Rattle.std.proofs.Common.{[], ◌∷◌, refl}
use Rattle.lb_lines.proofs.trace.EventLineForm.append.Goals as goal

pub returns-clause-taken : goal.returns-clause-taken
returns-clause-taken c = record {
  said = c.in-Some.event ∷ [];
  spelled = (c.in-Some.event, c.in-Some.ensures.found, refl);
  joined = c.in_ok-push.ensures.items;
  short = λ k d h. tt;
  few = tt;
}
