use Rattle.std.proofs.Common.{◌≡◌, ◌+◌, ◌++◌, drop, length, map}
use Rattle.lb_flat.specs.Placed.{placed_routine}
use Rattle.lb_emit_laws.specs.Code.{entries_from}
use Rattle.lb_emit.specs.InternalFrame.{framed_in, framed_of}
use Rattle.lb_emit.specs.InternalProgram.{AreReady, all_words}
use Rattle.lb_emit.proofs.program.entries_of.Given as goal

-- the entries so far, and those of the functions that are left, are all
abbrev pub invariant-loop-i : goal.invariant-loop-i
invariant-loop-i l =
    let left = map placed_routine (drop l.i l.functions) in
    let whole = map placed_routine l.functions in
    record {
      ready : AreReady (length l.functions) left;
      framed : map framed_in (drop l.i l.frames) ≡ map framed_of left;
      words : l.next + all_words left ≡ 4 + all_words whole;
      entries : l.entries ++ entries_from l.next left ≡ entries_from 4 whole;
    }
