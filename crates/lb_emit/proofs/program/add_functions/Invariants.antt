use Rattle.std.proofs.Common.{◌≡◌, ◌+◌, ◌++◌, drop, length, map}
use Rattle.std.specs.Prelude.{slice_index}
use Rattle.lb_flat.specs.Placed.{placed_routine}
use Rattle.lb_emit_laws.specs.Code.{routines_code}
use Rattle.lb_emit.specs.InternalFrame.{framed_in, framed_of}
use Rattle.lb_emit.specs.InternalProgram.{AreReady, all_words}
use Rattle.lb_emit.proofs.program.add_functions.Given as goal

-- the code so far, and that of the functions that are left, is all
abbrev pub invariant-loop-i : goal.invariant-loop-i
invariant-loop-i l =
    let left = map placed_routine (drop l.i l.functions) in
    let whole = map placed_routine l.functions in
    record {
      ready : AreReady (length l.entries) left;
      framed : map framed_in (drop l.i l.frames) ≡ map framed_of left;
      words : length l.out.code + all_words left ≡ length l.fn.out.code + all_words whole;
      code : l.out.code ++ routines_code (λ g. slice_index l.entries g) (length l.out.code) left
          ≡ l.fn.out.code ++ routines_code (λ g. slice_index l.entries g) (length l.fn.out.code) whole;
    }
