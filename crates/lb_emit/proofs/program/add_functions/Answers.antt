use Rattle.std.proofs.Common.{◌<◌, ◌+◌, ◌++◌, drop, length, map, ap, sym, subst, ◌∙◌, ℕ, List, arith}
use Rattle.std.specs.Prelude.{slice_index}
use Rattle.lb_flat.specs.declared.places.Place.{Place}
use Rattle.lb_flat.specs.Code.{Routine}
use Rattle.lb_flat.specs.Placed.{placed_routine}
use Rattle.lb_emit_laws.specs.Code.{routines_code}
use Rattle.lb_emit.specs.InternalProgram.{AreReady, all_words}
use Rattle.lb_emit.proofs.FunctionLemmas.{frames_length, framed_at, functions_at, functions_more}
use Rattle.lb_emit.proofs.program.add_functions.Goals as goal

pub loop-i-preserved : goal.loop-i-preserved
loop-i-preserved c =
    let hs = c.args.functions.now in
    let ds = c.args.frames.now in
    let i = c.loop-i.i in
    let h = c.index-functions-i.result in
    let d = c.index-frames-i.result in
    let entry = (λ (g : ℕ). slice_index c.args.entries.now g) in
    let here : i < length hs = c.loop-i-test.true in
    let there : i < length ds = omega (arith, frames_length ds hs c.requires.framed, here) in
    let next = functions_at hs i h here c.index-functions-i.is in
    let framed = framed_at ds hs i d h there here c.index-frames-i.is c.index-functions-i.is c.loop-i.invariant.framed in
    let ready = subst (λ (l : List (Routine Place)). AreReady (length c.args.entries.now) l) next c.loop-i.invariant.ready in
    let words = ap all_words next in
    record {
      ready = ready.1;
      framed = framed.behind;
      words = omega (arith, words, c.loop-i.invariant.words, c.in_ok-add_function.ensures.long);
      code = functions_more entry c.loop-i.out.code c.add_function.new.out.code (placed_routine h) (map placed_routine (drop (i + 1) hs))
          c.in_ok-add_function.ensures.code c.in_ok-add_function.ensures.long
          ∙ ap (λ (l : List (Routine Place)). c.loop-i.out.code ++ routines_code entry (length c.loop-i.out.code) l) (sym next)
          ∙ c.loop-i.invariant.code;
    }
