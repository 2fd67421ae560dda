use Rattle.std.proofs.Common.{List, map, sym, ap, ◌∙◌, subst}
use Rattle.lb_flat.specs.declared.places.Place.{Place}
use Rattle.lb_flat.specs.Flat.{flat_routine, flat_executable}
use Rattle.lb_flat.specs.Accepted.{AreAllAccepted}
use Rattle.lb_program_testkit.specs.Chosen.{all_chosen}
use Rattle.lb_program_testkit.proofs.ChosenAccepted.{chosen_accepted}
use Rattle.lb_program_testkit.proofs.places.chosen_places.Goals as goal

pub returns : goal.returns
returns c =
    let flat = flat_executable c.args.flat.now in
    let same = c.in_ok-places.ensures ∙ ap (λ fs. all_chosen c.args.from c.args.to (map flat_routine fs)) c.as_slice.ensures in
    subst (λ (lists : List (List Place)). AreAllAccepted flat.routines lists) (sym same)
    (chosen_accepted c.args.from c.args.to c.requires.few flat c.requires.in_order)
