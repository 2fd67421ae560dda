use Rattle.std.proofs.Common.{◌≡◌, ◌++◌, ap, sym, subst, ◌∙◌, List, ℕ, map, length, arith}
use Rattle.std.proofs.lemmas.List.{length-map}
use Rattle.std.specs.Prelude.{slice_index}
use Rattle.lb_flat.specs.declared.placed.PlacedFunction.{PlacedFunction}
use Rattle.lb_flat.specs.Placed.{placed_executable, placed_routine}
use Rattle.lb_emit_laws.specs.Code.{boot_code, entries_from, entry_of, routines_code}
use Rattle.lb_emit.specs.InternalEmit.{AreEntries}
use Rattle.lb_emit.specs.InternalProgram.{AreReady, all_words}
use Rattle.lb_emit.proofs.EntryLemmas.{entry_within}
use Rattle.lb_emit.proofs.OrderLemmas.{all_ready, all_within, again_there, init_there, entries_bounded, entries_length}
use Rattle.lb_emit.proofs.program.instructions_of.Goals as goal

pub entries_of-requires-clause-ready : goal.entries_of-requires-clause-ready
entries_of-requires-clause-ready c =
    let p = placed_executable c.args.program.now in
    subst (λ (l : List PlacedFunction). AreReady (length l) (map placed_routine l)) (sym c.as_slice-functions.ensures)
    (subst (λ n. AreReady n p.routines) (length-map c.args.program.now.functions placed_routine) (all_ready p c.requires.in_order))

pub entries_of-requires-clause-room : goal.entries_of-requires-clause-room
entries_of-requires-clause-room c =
    let same = ap (λ (l : List PlacedFunction). all_words (map placed_routine l)) c.as_slice-functions.ensures in
    omega (arith, same, all_within (placed_executable c.args.program.now) c.requires.in_order)

pub bounds-entries-program : goal.bounds-entries-program
bounds-entries-program c =
    let p = placed_executable c.args.program.now in
    let same = c.as_slice-entries.ensures ∙ c.in_ok-found.ensures ∙ ap (λ (l : List PlacedFunction). entries_from 4 (map placed_routine l)) c.as_slice-functions.ensures in
    let long = ap (λ (l : List ℕ). length l) same in
    omega (arith, long, entries_length 4 p.routines, init_there p c.requires.in_order)

pub bounds-entries-program-2 : goal.bounds-entries-program-2
bounds-entries-program-2 c =
    let p = placed_executable c.args.program.now in
    let same = c.as_slice-entries.ensures ∙ c.in_ok-found.ensures ∙ ap (λ (l : List PlacedFunction). entries_from 4 (map placed_routine l)) c.as_slice-functions.ensures in
    let long = ap (λ (l : List ℕ). length l) same in
    omega (arith, long, entries_length 4 p.routines, again_there p c.requires.in_order)

pub add_boot-requires-clause-init : goal.add_boot-requires-clause-init
add_boot-requires-clause-init c =
    let p = placed_executable c.args.program.now in
    let same = c.as_slice-entries.ensures ∙ c.in_ok-found.ensures ∙ ap (λ (l : List PlacedFunction). entries_from 4 (map placed_routine l)) c.as_slice-functions.ensures in
    let long = ap (λ (l : List ℕ). length l) same in
    let bounded = subst AreEntries (sym same) (entries_bounded 4 p.routines (all_within p c.requires.in_order)) in
    entry_within c.as_slice-entries.result.now p.init bounded (omega (arith, long, entries_length 4 p.routines, init_there p c.requires.in_order))

pub add_boot-requires-clause-again : goal.add_boot-requires-clause-again
add_boot-requires-clause-again c =
    let p = placed_executable c.args.program.now in
    let same = c.as_slice-entries.ensures ∙ c.in_ok-found.ensures ∙ ap (λ (l : List PlacedFunction). entries_from 4 (map placed_routine l)) c.as_slice-functions.ensures in
    let long = ap (λ (l : List ℕ). length l) same in
    let bounded = subst AreEntries (sym same) (entries_bounded 4 p.routines (all_within p c.requires.in_order)) in
    entry_within c.as_slice-entries.result.now p.again bounded (omega (arith, long, entries_length 4 p.routines, again_there p c.requires.in_order))

pub add_functions-requires-clause-ready : goal.add_functions-requires-clause-ready
add_functions-requires-clause-ready c =
    let p = placed_executable c.args.program.now in
    let same = c.as_slice-entries.ensures ∙ c.in_ok-found.ensures ∙ ap (λ (l : List PlacedFunction). entries_from 4 (map placed_routine l)) c.as_slice-functions.ensures in
    let long : length c.as_slice-entries.result.now ≡ length p.routines = ap (λ (l : List ℕ). length l) same ∙ entries_length 4 p.routines in
    subst (λ n. AreReady n (map placed_routine c.as_slice-functions.result.now)) (sym long)
    (subst (λ (l : List PlacedFunction). AreReady (length p.routines) (map placed_routine l)) (sym c.as_slice-functions.ensures) (all_ready p c.requires.in_order))

pub add_functions-requires-clause-entries : goal.add_functions-requires-clause-entries
add_functions-requires-clause-entries c =
    let p = placed_executable c.args.program.now in
    let same = c.as_slice-entries.ensures ∙ c.in_ok-found.ensures ∙ ap (λ (l : List PlacedFunction). entries_from 4 (map placed_routine l)) c.as_slice-functions.ensures in
    subst AreEntries (sym same) (entries_bounded 4 p.routines (all_within p c.requires.in_order))

pub add_functions-requires-clause-room : goal.add_functions-requires-clause-room
add_functions-requires-clause-room c =
    let same = ap (λ (l : List PlacedFunction). all_words (map placed_routine l)) c.as_slice-functions.ensures in
    omega (arith, same, c.in_ok-add_boot.ensures.long, all_within (placed_executable c.args.program.now) c.requires.in_order)

pub returns : goal.returns
returns c =
    let p = placed_executable c.args.program.now in
    let es = c.as_slice-entries.result.now in
    let fs = map placed_routine c.as_slice-functions.result.now in
    let same = c.as_slice-entries.ensures ∙ c.in_ok-found.ensures ∙ ap (λ (l : List PlacedFunction). entries_from 4 (map placed_routine l)) c.as_slice-functions.ensures in
    c.in_ok-add_functions.ensures
    ∙ ap (λ l. l ++ routines_code (λ g. slice_index es g) (length l) fs) c.in_ok-add_boot.ensures.code
    ∙ ap (λ (l : List ℕ). boot_code (λ g. slice_index l g) p.init p.again ++ routines_code (λ g. slice_index l g) 4 fs) same
    ∙ ap (λ (l : List PlacedFunction). boot_code (entry_of p.routines) p.init p.again ++ routines_code (entry_of p.routines) 4 (map placed_routine l)) c.as_slice-functions.ensures
