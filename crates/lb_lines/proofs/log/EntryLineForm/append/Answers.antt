use Rattle.std.proofs.Common.{arith}
use Rattle.std.proofs.lemmas.Bool.Decides.{nat_tests}
use Rattle.lb_lines.proofs.LogLemmas.{entries_more, no_entry, no_entry_end, no_entries, entries_whole}
use Rattle.lb_lines.proofs.log.EntryLineForm.append.Goals as goal

pub returns-in_default-entry-clause-refused : goal.returns-in_default-entry-clause-refused
returns-in_default-entry-clause-refused c =
    let s = c.in-Some.ensures.cases in
    no_entry c.args.line.now c.loop-pair.rest.now c.in-Some.pair.now c.in-Some.behind.now c.args.values.now.items c.loop-pair.values.items
    (omega (arith, s.2)) s.0 s.1 c.in_default-entry.ensures.none c.loop-pair.invariant

pub loop-pair-preserved : goal.loop-pair-preserved
loop-pair-preserved c =
    let s = c.in-Some.ensures.cases in
    rw c.in_ok-push.ensures.items
    (entries_more c.args.line.now c.loop-pair.rest.now c.in-Some.pair.now c.in-Some.behind.now c.args.values.now.items c.loop-pair.values.items
    c.in-Some-entry.entry (omega (arith, s.2)) s.0 s.1 c.in-Some-entry.ensures.found c.loop-pair.invariant)

pub returns-then-is_empty-clause-refused : goal.returns-then-is_empty-clause-refused
returns-then-is_empty-clause-refused c = no_entries c.args.line.now c.args.values.now.items (grind (arith, nat_tests))

pub returns-then-is_empty-2-clause-taken : goal.returns-then-is_empty-2-clause-taken
returns-then-is_empty-2-clause-taken c =
    entries_whole c.args.line.now c.loop-pair.rest.now c.args.values.now.items c.loop-pair.values.items (grind (arith, nat_tests))
    (λ z. grind (arith, nat_tests)) c.loop-pair.invariant

pub returns-else-is_empty-2-clause-refused : goal.returns-else-is_empty-2-clause-refused
returns-else-is_empty-2-clause-refused c =
    no_entry_end c.args.line.now c.loop-pair.rest.now c.args.values.now.items c.loop-pair.values.items (omega (arith, c.in_default.ensures.cases))
    (λ z. grind (arith, nat_tests)) c.loop-pair.invariant
