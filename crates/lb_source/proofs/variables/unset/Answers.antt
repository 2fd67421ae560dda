use Rattle.std.proofs.Common.{rules, ◌∙◌, ap}
use Rattle.std.proofs.lemmas.Fn.{filter_same}
use Rattle.lb_source.specs.InternalMachine.{variables_of}
use Rattle.lb_source.proofs.MapLemmas.{same_everywhere, variables_of-without}
use Rattle.lb_source.proofs.variables.unset.Goals as goal

pub returns-clause-entries : goal.returns-clause-entries
returns-clause-entries c = filter_same _ _ _ (λ x b f' k. search rules) _ _ c.retain.ensures.filtered

pub returns-clause-map : goal.returns-clause-map
returns-clause-map c = same_everywhere _ _ (λ y. ap (λ es. variables_of es y) (returns-clause-entries c) ∙ variables_of-without c.args.name.now y c.args.entries.now.items)
