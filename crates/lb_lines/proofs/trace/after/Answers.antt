use Rattle.std.proofs.Common.{rules}
use Rattle.std.proofs.lemmas.Slice.Eq.{strip_prefix_is}
use Rattle.lb_lines.proofs.OptionLemmas.{some_alone, none_alone}
use Rattle.lb_lines.proofs.trace.after.Goals as goal

pub returns-clause-found : goal.returns-clause-found
returns-clause-found c =
    some_alone c.strip_prefix.result _ _ (strip_prefix_is (λ a b. search rules) c.args.text.now c.args.beginning.now c.strip_prefix.result c.strip_prefix.ensures.cases)

pub returns-clause-none : goal.returns-clause-none
returns-clause-none c =
    none_alone c.strip_prefix.result _ _ (strip_prefix_is (λ a b. search rules) c.args.text.now c.args.beginning.now c.strip_prefix.result c.strip_prefix.ensures.cases)
