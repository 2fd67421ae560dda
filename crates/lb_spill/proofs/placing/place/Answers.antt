use Rattle.std.proofs.Common.{sym, ap, ◌∙◌, subst}
use Rattle.lb_source.specs.declared.ends.SourceRun.{SourceRun}
use Rattle.lb_source.specs.Defined.{IsDefined}
use Rattle.lb_flat.specs.declared.places.Place.{Place}
use Rattle.lb_flat.specs.Code.{Executable}
use Rattle.lb_flat.specs.Flat.{flat_executable}
use Rattle.lb_flat.specs.Located.{lists_of}
use Rattle.lb_flat.specs.Order.{IsVariable, KeepsRoutineRules, IsPlacedInOrder}
use Rattle.lb_flat.proofs.FlatForms.{by_elements}
use Rattle.lb_flat.proofs.Keep.{accepted_places_keep}
use Rattle.lb_spill.specs.Placing.{HasLocatedRuns, AllAskNoMore, AllUseFewSlots, IsLeanInRegisters}
use Rattle.lb_spill.proofs.SpillKeep.{spilled_has_located_runs}
use Rattle.lb_spill.proofs.SpillNames.{all_name_own}
use Rattle.lb_spill.proofs.SpillCounts.{all_ask_no_more, all_use_few_slots, is_lean_in_registers}
use Rattle.lb_spill.proofs.SpillOrder.{spilled_in_order}
use Rattle.lb_spill.proofs.placing.place.Goals as goal

pub place_program-requires-clause-names : goal.place_program-requires-clause-names
place_program-requires-clause-names c = all_name_own (flat_executable c.args.flat.now) c.requires.in_order

pub returns-clause-located : goal.returns-clause-located
returns-clause-located c =
    let flat = flat_executable c.args.flat.now in
    let lists = lists_of c.args.places.now in
    subst (λ (q : Executable Place). HasLocatedRuns lists flat q) (sym c.in_ok-placed.ensures) (spilled_has_located_runs flat lists c.requires.accepted)

pub returns-clause-keeps : goal.returns-clause-keeps
returns-clause-keeps c =
    let flat = flat_executable c.args.flat.now in
    let lists = lists_of c.args.places.now in
    λ layout fuel replies d.
    let same = accepted_places_keep flat lists layout fuel replies c.requires.accepted d in
    let located : HasLocatedRuns lists flat _ = subst (λ (q : Executable Place). HasLocatedRuns lists flat q) (sym c.in_ok-placed.ensures) (spilled_has_located_runs flat lists c.requires.accepted) in
    located layout fuel replies (subst (λ (r : SourceRun). IsDefined r.end) (sym same) d) ∙ same

pub returns-clause-in_order : goal.returns-clause-in_order
returns-clause-in_order c =
    subst (λ (q : Executable Place). IsPlacedInOrder q) (sym c.in_ok-placed.ensures)
    (spilled_in_order (flat_executable c.args.flat.now) (lists_of c.args.places.now) c.requires.in_order c.requires.accepted)

pub returns-clause-asks_no_more : goal.returns-clause-asks_no_more
returns-clause-asks_no_more c =
    let fs = (flat_executable c.args.flat.now).routines in
    subst (λ (q : Executable Place). AllAskNoMore fs q.routines) (sym c.in_ok-placed.ensures)
    (all_ask_no_more fs fs (lists_of c.args.places.now) (by_elements (KeepsRoutineRules IsVariable fs) fs c.requires.in_order.routines) c.requires.accepted)

pub returns-clause-registers : goal.returns-clause-registers
returns-clause-registers c =
    let flat = flat_executable c.args.flat.now in
    let lists = lists_of c.args.places.now in
    subst (λ (q : Executable Place). AllUseFewSlots lists q.routines) (sym c.in_ok-placed.ensures)
    (all_use_few_slots flat.routines lists (all_name_own flat c.requires.in_order) c.requires.accepted)

pub returns-clause-lean : goal.returns-clause-lean
returns-clause-lean c =
    let flat = flat_executable c.args.flat.now in
    let lists = lists_of c.args.places.now in
    subst (λ (q : Executable Place). IsLeanInRegisters lists flat.routines q.routines) (sym c.in_ok-placed.ensures)
    (is_lean_in_registers flat.routines lists _
    (all_ask_no_more flat.routines flat.routines lists (by_elements (KeepsRoutineRules IsVariable flat.routines) flat.routines c.requires.in_order.routines) c.requires.accepted)
    (all_use_few_slots flat.routines lists (all_name_own flat c.requires.in_order) c.requires.accepted))

pub returns-clause-init : goal.returns-clause-init
returns-clause-init c = ap (λ (q : Executable Place). q.init) c.in_ok-placed.ensures

pub returns-clause-again : goal.returns-clause-again
returns-clause-again c = ap (λ (q : Executable Place). q.again) c.in_ok-placed.ensures
