use Rattle.std.proofs.Common.{◌≡◌, Err, rules, sym, ◌∙◌}
use Rattle.lb_source.specs.InternalMachine.{memory_of, stored}
use Rattle.lb_source.proofs.MemoryLemmas.{store_two, store_four, store_four_fails, store_four_fails_late}
use Rattle.lb_source.proofs.memory.Bytes.store.Goals as goal

pub returns-in-Two : goal.returns-in-Two
returns-in-Two c = rw c.in-Two.is (c.store_byte-in-Two.ensures ∙ sym (store_two c.args.address c.args.value (memory_of c.args.self.now) (memory_of c.store_byte.new.self) c.in_ok-store_byte.ensures))

pub returns-in_err-store_byte-in-Four : goal.returns-in_err-store_byte-in-Four
returns-in_err-store_byte-in-Four c =
    let e : stored c.from_residual-in_err-store_byte-in-Four.result c.store_byte-in-Four.new.self ≡ Err c.in_err-store_byte-in-Four.field-0.0 = search rules in
    rw c.in-Four.is (e ∙ sym (store_four_fails c.args.address c.args.value (memory_of c.args.self.now) (memory_of c.store_byte.new.self) c.in_ok-store_byte.ensures _ c.in_err-store_byte-in-Four.ensures))

pub returns-in_err-store_byte-in-Four-2 : goal.returns-in_err-store_byte-in-Four-2
returns-in_err-store_byte-in-Four-2 c =
    let e : stored c.from_residual-in_err-store_byte-in-Four-2.result c.store_byte-in-Four-2.new.self ≡ Err c.in_err-store_byte-in-Four-2.field-0.0 = search rules in
    rw c.in-Four.is (e ∙ sym (store_four_fails_late c.args.address c.args.value (memory_of c.args.self.now) (memory_of c.store_byte.new.self) c.in_ok-store_byte.ensures (memory_of c.store_byte-in-Four.new.self) _ c.in_ok-store_byte-in-Four.ensures c.in_err-store_byte-in-Four-2.ensures))

pub returns-in_ok-store_byte-in-Four-2 : goal.returns-in_ok-store_byte-in-Four-2
returns-in_ok-store_byte-in-Four-2 c =
    rw c.in-Four.is (c.store_byte-in-Four-3.ensures ∙ sym (store_four c.args.address c.args.value (memory_of c.args.self.now) (memory_of c.store_byte.new.self) c.in_ok-store_byte.ensures (memory_of c.store_byte-in-Four.new.self) (memory_of c.store_byte-in-Four-2.new.self) c.in_ok-store_byte-in-Four.ensures c.in_ok-store_byte-in-Four-2.ensures))
