use Rattle.std.proofs.Common.{◌≡◌, ◌+◌, ◌*◌, ◌++◌, length, drop}
use Rattle.lb_emit_laws.specs.Instructions.{saves_code}
use Rattle.lb_emit.proofs.buffer.CodeBuffer.save.Given as goal

-- the code so far, and that of the registers that are left, is all
abbrev pub invariant-loop-register : goal.invariant-loop-register
invariant-loop-register l = record {
  count : l.offset ≡ 4 * l.register-index;
  code : l.self ++ saves_code l.register-index (drop l.register-index l.registers) ≡ l.fn.self ++ saves_code 0 l.registers;
  long : length l.self ≡ length l.fn.self + l.register-index;
}
