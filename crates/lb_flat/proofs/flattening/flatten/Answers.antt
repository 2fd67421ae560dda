use Rattle.std.proofs.Common.{map, subst, arith, All}
use Rattle.lb_syntax.specs.declared.tree.Program.{Program}
use Rattle.lb_syntax.specs.Tree.{program_of}
use Rattle.lb_syntax.specs.WellFormed.{IsProcedure}
use Rattle.lb_flat.specs.Flat.{flat_routine, flat_executable}
use Rattle.lb_flat.specs.InternalFlatForms.{IsFlattened}
use Rattle.lb_flat.proofs.FlatForms.{flattened_keeps}
use Rattle.lb_flat.proofs.FlatCounts.{flattened_asks_no_more}
use Rattle.lb_flat.proofs.FlatOrder.{words_below, flattened_in_order, flattened_names_by_place}
use Rattle.lb_flat.proofs.FlatLean.{flattened_accesses, flattened_variables}
use Rattle.lb_flat.proofs.flattening.flatten.Goals as goal

pub returns-clause-keeps : goal.returns-clause-keeps
returns-clause-keeps c =
    let form = subst (λ (p : Program). IsFlattened (program_of p) (flat_executable c.in_ok-flat.flat)) c.program.ensures.program c.in_ok-flat.ensures.form in
    flattened_keeps (program_of c.args.program.now) (flat_executable c.in_ok-flat.flat) c.program.ensures.rules form

pub returns-clause-in_order : goal.returns-clause-in_order
returns-clause-in_order c =
    let form = subst (λ (p : Program). IsFlattened (program_of p) (flat_executable c.in_ok-flat.flat)) c.program.ensures.program c.in_ok-flat.ensures.form in
    let well_formed = subst (λ (p : Program). All IsProcedure (program_of p)) c.program.ensures.program c.in_ok-flat.ensures.well_formed in
    flattened_in_order (program_of c.args.program.now) (flat_executable c.in_ok-flat.flat) well_formed c.program.ensures.rules form

pub returns-clause-asks_no_more : goal.returns-clause-asks_no_more
returns-clause-asks_no_more c =
    let form = subst (λ (p : Program). IsFlattened (program_of p) (flat_executable c.in_ok-flat.flat)) c.program.ensures.program c.in_ok-flat.ensures.form in
    flattened_asks_no_more (program_of c.args.program.now) (flat_executable c.in_ok-flat.flat) c.program.ensures.rules form

pub returns-clause-words : goal.returns-clause-words
returns-clause-words c =
    let form = subst (λ (p : Program). IsFlattened (program_of p) (flat_executable c.in_ok-flat.flat)) c.program.ensures.program c.in_ok-flat.ensures.form in
    let asks = flattened_asks_no_more (program_of c.args.program.now) (flat_executable c.in_ok-flat.flat) c.program.ensures.rules form in
    omega (arith, words_below (program_of c.args.program.now) (map flat_routine c.in_ok-flat.flat.functions) asks)

pub returns-clause-accesses : goal.returns-clause-accesses
returns-clause-accesses c =
    let form = subst (λ (p : Program). IsFlattened (program_of p) (flat_executable c.in_ok-flat.flat)) c.program.ensures.program c.in_ok-flat.ensures.form in
    flattened_accesses (program_of c.args.program.now) (flat_executable c.in_ok-flat.flat) c.program.ensures.rules form

pub returns-clause-variables : goal.returns-clause-variables
returns-clause-variables c =
    let form = subst (λ (p : Program). IsFlattened (program_of p) (flat_executable c.in_ok-flat.flat)) c.program.ensures.program c.in_ok-flat.ensures.form in
    flattened_variables (program_of c.args.program.now) (flat_executable c.in_ok-flat.flat) c.program.ensures.rules form

pub returns-clause-functions : goal.returns-clause-functions
returns-clause-functions c =
    let form = subst (λ (p : Program). IsFlattened (program_of p) (flat_executable c.in_ok-flat.flat)) c.program.ensures.program c.in_ok-flat.ensures.form in
    flattened_names_by_place (program_of c.args.program.now) (flat_executable c.in_ok-flat.flat) form
