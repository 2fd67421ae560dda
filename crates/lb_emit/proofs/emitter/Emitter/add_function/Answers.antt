use Rattle.std.proofs.Common.{◌≡◌, ◌++◌, [], ◌∷◌, length, ap, ◌∙◌, ℕ, arith, List}
use Rattle.std.specs.Prelude.{slice_index}
use Rattle.lb_rv.specs.declared.instr.Instr.TheVariants as instr
use Rattle.lb_flat.specs.declared.places.Place.{Place}
use Rattle.lb_flat.specs.Placed.{placed_routine}
use Rattle.lb_emit_laws.specs.Instructions.{down_code, up_code, saves_code, loads_code, reach_words, immediate}
use Rattle.lb_emit_laws.specs.Code.{puts_code, gets_code, command_code, body_place, places_words}
use Rattle.lb_emit.specs.InternalEmit.{Setting}
use Rattle.lb_emit.proofs.Pieces.{eight}
use Rattle.lb_emit.proofs.emitter.Emitter.add_function.Goals as goal

-- the pieces, one behind the other; the body begins behind three of them
pub returns-clause-code : goal.returns-clause-code
returns-clause-code c =
    let s = c.args.self.now in
    let f = s.frame in
    let h = placed_routine c.args.f.now in
    let old = c.args.out.now.code in
    let entry = (λ (g : ℕ). slice_index s.entries g) in
    let saved : c.as_slice-saved.result.now ≡ f.saved = c.as_slice-saved.ensures ∙ ap (λ (v : Setting). v.frame.saved) c.self.view_is in
    let size : c.self.inside.frame.now.layout.size ≡ f.size = ap (λ (v : Setting). v.frame.size) c.self.view_is in
    let params = c.as_slice.ensures in
    let results = c.as_slice-2.ensures in
    let n1 = ap reach_words size in
    let n2 = ap (λ (l : List ℕ). length l) saved in
    let n3 = ap (λ (l : List Place). places_words f l) params in
    let e : length c.put_places.new.code ≡ body_place f h (length old) =
    omega (arith, c.in_ok-stack_down.ensures.long, c.in_ok-save.ensures.long, c.in_ok-put_places.ensures.long, n1, n2, n3) in
    eight old (down_code f.size) (saves_code 0 f.saved) (puts_code f h.params 10) (command_code f entry s.offsets (body_place f h (length old)) h.body)
    (gets_code f 10 h.results) (loads_code 0 f.saved) (up_code f.size) (instr.Jalr 0 1 (immediate 0) ∷ [])
    c.stack_down.new.self c.save.new.self c.put_places.new.code c.add_block.new.out.code c.get_places.new.code c.restore.new.self c.stack_up.new.self c.back.new.self
    (c.in_ok-stack_down.ensures.code ∙ ap (λ n. old ++ down_code n) size)
    (c.in_ok-save.ensures.code ∙ ap (λ l. c.stack_down.new.self ++ saves_code 0 l) saved)
    (c.in_ok-put_places.ensures.code ∙ ap (λ l. c.save.new.self ++ puts_code f l 10) params)
    (c.in_ok-add_block.ensures.code ∙ ap (λ n. c.put_places.new.code ++ command_code f entry s.offsets n h.body) e)
    (c.in_ok-get_places.ensures.code ∙ ap (λ l. c.add_block.new.out.code ++ gets_code f 10 l) results)
    (c.in_ok-restore.ensures.code ∙ ap (λ l. c.get_places.new.code ++ loads_code 0 l) saved)
    (c.in_ok-stack_up.ensures.code ∙ ap (λ n. c.restore.new.self ++ up_code n) size)
    c.in_ok-back.ensures.code
