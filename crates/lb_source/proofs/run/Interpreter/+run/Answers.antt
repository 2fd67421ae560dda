use Rattle.std.proofs.Common.{◌≡◌, ◌-◌, ℕ, Ok, sym, refl, arith, drop, take, length, get_or, suc}
use Rattle.std.specs.Prelude.{map}
use Rattle.lb_syntax.specs.Tree.{command_of, block_of, term_of}
use Rattle.lb_syntax.specs.Tree.{Sets, Stores, Allocates, Calls, Chooses}
use Rattle.lb_source.specs.Run.{value_in}
use Rattle.lb_source.specs.InternalMachine.{functions_of, state_of}
use Rattle.lb_syntax.proofs.BlockLemmas.{rest_at, rest_end}
use Rattle.lb_syntax.proofs.TreeFacts.{says_set, says_store, says_call, says_allocates, says_if}
use Rattle.lb_source.proofs.ArmFacts.{arm, set_follows, store_follows, no_follows, yes_follows, allocated_ends, allocated_goes, remade, first_and_rest, entry_ends, entry_goes}
use Rattle.lb_source.proofs.RunFacts.{leaves_next, leaves_end, leaves_done, loop_wrong, loop_over, loop_spent, loop_next, loop_end, is_more, is_suc}
use Rattle.lb_source.proofs.run.Interpreter.+run.Goals as goal

pub run_command-returns-in-Set-clause-follows : goal.run_command-returns-in-Set-clause-follows
run_command-returns-in-Set-clause-follows t c =
    let is : command_of c.args.c.now ≡ Sets c.in-Set.target (term_of c.in-Set.value) = says_set c.args.c.now c.in-Set.target c.in-Set.value c.in-Set.is in
    let p = functions_of c.args.self.now in
    arm c.set_to.result p c.args.offsets.now c.args.m.now c.set_to.new.m (command_of c.args.c.now) _ is
    (set_follows c.set_to.result p c.args.offsets.now c.args.m.now c.set_to.new.m c.in-Set.target (term_of c.in-Set.value) c.set_to.ensures.follows)

pub run_command-returns-in-StackAlloc-clause-follows : goal.run_command-returns-in-StackAlloc-clause-follows
run_command-returns-in-StackAlloc-clause-follows t c =
    let is : command_of c.args.c.now ≡ Allocates c.in-StackAlloc.bytes c.in-StackAlloc.target (block_of c.in-StackAlloc.body) = says_allocates c.args.c.now c.in-StackAlloc.bytes c.in-StackAlloc.target c.in-StackAlloc.body c.in-StackAlloc.is in
    let p = functions_of c.args.self.now in
    arm c.run_allocated.result p c.args.offsets.now c.args.m.now c.run_allocated.new.m (command_of c.args.c.now) _ is c.run_allocated.ensures.follows

pub run_command-returns-in-Call-clause-follows : goal.run_command-returns-in-Call-clause-follows
run_command-returns-in-Call-clause-follows t c =
    let is : command_of c.args.c.now ≡ Calls c.in-Call.targets c.in-Call.function (map term_of c.in-Call.arguments) = says_call c.args.c.now c.in-Call.targets c.in-Call.function c.in-Call.arguments c.in-Call.is in
    let p = functions_of c.args.self.now in
    arm c.run_call.result p c.args.offsets.now c.args.m.now c.run_call.new.m (command_of c.args.c.now) _ is (rw (c.as_bytes-name.ensures.value, c.as_slice.ensures, c.as_slice-in-Call.ensures) at c.run_call.ensures.follows)

pub run_command-returns-in-Store-clause-follows : goal.run_command-returns-in-Store-clause-follows
run_command-returns-in-Store-clause-follows t c =
    let is : command_of c.args.c.now ≡ Stores c.in-Store.width (term_of c.in-Store.address) (term_of c.in-Store.value) = says_store c.args.c.now c.in-Store.width c.in-Store.address c.in-Store.value c.in-Store.is in
    let p = functions_of c.args.self.now in
    arm {E = ℕ} (Ok c.store.result) p c.args.offsets.now c.args.m.now c.store.new.m (command_of c.args.c.now) _ is
    (store_follows {E = ℕ} (Ok c.store.result) p c.args.offsets.now c.args.m.now c.store.new.m c.in-Store.width (term_of c.in-Store.address) (term_of c.in-Store.value) c.store.ensures.follows)

pub run_command-returns-in-Ok-eq0-clause-follows : goal.run_command-returns-in-Ok-eq0-clause-follows
run_command-returns-in-Ok-eq0-clause-follows t c =
    let is : command_of c.args.c.now ≡ Chooses (term_of c.in-If.condition) (block_of c.in-If.yes) (block_of c.in-If.no) = says_if c.args.c.now c.in-If.condition c.in-If.yes c.in-If.no c.in-If.is in
    let p = functions_of c.args.self.now in
    let zero : value_in (state_of c.args.m.now) (term_of c.in-If.condition) ≡ Ok 0 = cc in
    arm c.run_block.result p c.args.offsets.now c.args.m.now c.run_block.new.m (command_of c.args.c.now) _ is
    (no_follows c.run_block.result p c.args.offsets.now c.args.m.now c.run_block.new.m (term_of c.in-If.condition) (block_of c.in-If.yes) (block_of c.in-If.no) zero (rw c.after_block.ensures at c.run_block.ensures.follows))

pub run_command-returns-in-Ok-clause-follows : goal.run_command-returns-in-Ok-clause-follows
run_command-returns-in-Ok-clause-follows t c =
    let is : command_of c.args.c.now ≡ Chooses (term_of c.in-If.condition) (block_of c.in-If.yes) (block_of c.in-If.no) = says_if c.args.c.now c.in-If.condition c.in-If.yes c.in-If.no c.in-If.is in
    let p = functions_of c.args.self.now in
    let more : value_in (state_of c.args.m.now) (term_of c.in-If.condition) ≡ Ok (suc (c.in-Ok.field-0 - 1)) = is_more _ _ c.in-Ok.field-0-test.1 (cc) in
    arm c.run_block-in-Ok.result p c.args.offsets.now c.args.m.now c.run_block-in-Ok.new.m (command_of c.args.c.now) _ is
    (yes_follows c.run_block-in-Ok.result p c.args.offsets.now c.args.m.now c.run_block-in-Ok.new.m (term_of c.in-If.condition) (block_of c.in-If.yes) (block_of c.in-If.no) (c.in-Ok.field-0 - 1) more c.run_block-in-Ok.ensures.follows)

pub run_loop-returns-in-Err-clause-follows : goal.run_loop-returns-in-Err-clause-follows
run_loop-returns-in-Err-clause-follows t c = rw c.undefined.ensures (loop_wrong _ _ _ _ _ _ c.turns.invariant c.in-Err.reason (sym c.in-Err.ensures))

pub run_loop-returns-in-Ok-eq0-clause-follows : goal.run_loop-returns-in-Ok-eq0-clause-follows
run_loop-returns-in-Ok-eq0-clause-follows t c = loop_over _ _ _ _ _ _ c.turns.invariant (cc)

pub run_loop-returns-then-m-eq0-clause-follows : goal.run_loop-returns-then-m-eq0-clause-follows
run_loop-returns-then-m-eq0-clause-follows t c =
    loop_spent _ _ _ _ _ _ c.turns.invariant (c.in-Ok.field-0 - 1) (is_more _ _ c.in-Ok.field-0-test.1 (cc)) c.if-m-eq0.true

pub run_loop-turns-preserved : goal.run_loop-turns-preserved
run_loop-turns-preserved t c =
    loop_next _ _ _ _ _ c.turns.m c.turns.invariant (c.in-Ok.field-0 - 1) (c.turns.m.fuel - 1) (record c.turns.m { fuel = c.turns.m.fuel - 1 }) c.run_block.new.m (is_more _ _ c.in-Ok.field-0-test.1 (cc)) (is_suc _ c.if-m-eq0.false) refl (rw c.in-On.is at c.in_ok-run_block.ensures.follows) c.run_block.ensures.fuel c.in_ok-run_block.ensures.stack

pub run_loop-returns-in-End-clause-follows : goal.run_loop-returns-in-End-clause-follows
run_loop-returns-in-End-clause-follows t c =
    loop_end _ _ _ _ _ c.turns.m c.turns.invariant (c.in-Ok.field-0 - 1) (c.turns.m.fuel - 1) (record c.turns.m { fuel = c.turns.m.fuel - 1 }) c.run_block.new.m c.in-End.end (is_more _ _ c.in-Ok.field-0-test.1 (cc)) (is_suc _ c.if-m-eq0.false) refl (rw c.in-End.is at c.in_ok-run_block.ensures.follows)

pub run_block-returns-in-End-clause-follows : goal.run_block-returns-in-End-clause-follows
run_block-returns-in-End-clause-follows t c =
    let here = rest_at c.as_slice-c-items.result.now c.loop-c.c-index c.c-item.result c.loop-c-test.true c.c-item.is in
    leaves_end _ _ _ _ _ _ _ c.loop-c.m c.run_command.new.m (rw here at c.loop-c.invariant.1) c.in-End.end (rw c.in-End.is at c.in_ok-run_command.ensures.follows)

pub run_block-loop-c-preserved : goal.run_block-loop-c-preserved
run_block-loop-c-preserved t c =
    let here = rest_at c.as_slice-c-items.result.now c.loop-c.c-index c.c-item.result c.loop-c-test.true c.c-item.is in
    let all = rw here at c.loop-c.invariant.0 in
    let still : c.run_command.new.m.stack ≡ c.loop-c.m.stack = c.in_ok-run_command.ensures.stack in
    rw c.after_command-rest.ensures (rw still all.1, leaves_next _ _ _ _ _ _ _ c.loop-c.m c.run_command.new.m (rw here at c.loop-c.invariant.1) (rw c.in-On.is at c.in_ok-run_command.ensures.follows) c.run_command.ensures.fuel still)

pub run_block-returns-clause-follows : goal.run_block-returns-clause-follows
run_block-returns-clause-follows t c =
    let past = rest_end c.as_slice-c-items.result.now c.loop-c.c-index c.loop-c-test.false in leaves_done _ _ _ _ _ _ (rw past at c.loop-c.invariant.1)

pub enter-returns-in-End-clause-follows : goal.enter-returns-in-End-clause-follows
enter-returns-in-End-clause-follows t c =
    let p = functions_of c.args.self.now in
    let fuel : c.begin.new.m.fuel ≡ c.args.m.now.fuel - 1 = let e = c.begin.ensures.fuel in omega arith in
    entry_ends p c.args.name.now c.args.vs.now c.args.targets.now c.in-Some.function.now c.in-Some.frame.now c.args.m.now c.begin.new.m c.run_block.new.m c.in-Some.ensures.is (c.args.m.now.fuel - 1) (is_suc _ c.if-m-eq0.false) fuel c.in_ok-caller.ensures.begins c.in-End.end (rw (c.in-End.is, c.as_slice.ensures) at c.in_ok-flow.ensures.follows)

pub enter-returns-in-On-clause-follows : goal.enter-returns-in-On-clause-follows
enter-returns-in-On-clause-follows t c =
    let p = functions_of c.args.self.now in
    let fuel : c.begin.new.m.fuel ≡ c.args.m.now.fuel - 1 = let e = c.begin.ensures.fuel in omega arith in
    entry_goes p c.args.name.now c.args.vs.now c.args.targets.now c.in-Some.function.now c.in-Some.frame.now c.args.m.now c.begin.new.m c.run_block.new.m c.in-Some.ensures.is (c.args.m.now.fuel - 1) (is_suc _ c.if-m-eq0.false) fuel c.in_ok-caller.ensures.begins c.return_to.result (record c.run_block.new.m { stack = c.args.m.now.stack }) c.return_to.new.m c.in_ok-caller.caller.items (rw (c.in-On.is, c.as_slice.ensures) at c.in_ok-flow.ensures.follows) c.in_ok-caller.ensures.caller refl (rw c.as_slice-in-On.ensures at c.return_to.ensures.follows)

pub run_allocated-returns-in-End-clause-follows : goal.run_allocated-returns-in-End-clause-follows
run_allocated-returns-in-End-clause-follows t c =
    let p = functions_of c.args.self.now in
    let m1 = record c.args.m.now { variables = c.assign.new.entries; bytes = c.fill.new.self } in
    allocated_ends p c.args.offsets.now (take (length c.args.offsets.now - 1) (drop 1 c.args.offsets.now)) (get_or c.args.offsets.now 0 0) c.args.bytes c.args.target.now (block_of c.args.body.now) c.args.m.now m1 c.run_block.new.m (first_and_rest c.args.offsets.now c.in-len1-up.len_at_least) refl (remade m1 _ _ c.in_ok-assign.ensures c.fill.ensures) c.in-End.end (rw c.in-End.is at c.in_ok-run_block.ensures.follows)

pub run_allocated-returns-in-On-clause-follows : goal.run_allocated-returns-in-On-clause-follows
run_allocated-returns-in-On-clause-follows t c =
    let p = functions_of c.args.self.now in
    let m1 = record c.args.m.now { variables = c.assign.new.entries; bytes = c.fill.new.self } in
    let m3 = record c.run_block.new.m { bytes = c.fill-in-On.new.self } in
    allocated_goes p c.args.offsets.now (take (length c.args.offsets.now - 1) (drop 1 c.args.offsets.now)) (get_or c.args.offsets.now 0 0) c.args.bytes c.args.target.now (block_of c.args.body.now) c.args.m.now m1 c.run_block.new.m (first_and_rest c.args.offsets.now c.in-len1-up.len_at_least) refl (remade m1 _ _ c.in_ok-assign.ensures c.fill.ensures) m3 (rw c.in-On.is at c.in_ok-run_block.ensures.follows) (remade m3 _ _ refl c.fill-in-On.ensures)
