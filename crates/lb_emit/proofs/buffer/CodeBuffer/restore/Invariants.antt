use Rattle.std.proofs.Common.{◌≡◌, ◌+◌, ◌*◌, ◌++◌, length, drop}
use Rattle.lb_emit_laws.specs.Instructions.{loads_code}
use Rattle.lb_emit.proofs.buffer.CodeBuffer.restore.Given as goal

-- the code so far, and that of the registers that are left, is all
abbrev pub invariant-loop-register : goal.invariant-loop-register
invariant-loop-register l = record {
  count : l.offset ≡ 4 * l.register-index;
  code : l.self ++ loads_code l.register-index (drop l.register-index l.registers) ≡ l.fn.self ++ loads_code 0 l.registers;
  long : length l.self ≡ length l.fn.self + l.register-index;
}
