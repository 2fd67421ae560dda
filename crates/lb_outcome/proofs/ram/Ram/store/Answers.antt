use Rattle.std.proofs.Common.{◌≡◌, true, sym, ap, ◌∙◌, inl, inr, if◌then◌else◌}
use Rattle.lb_rv.specs.Effects.{access}
use Rattle.lb_outcome.specs.Cells.{cells}
use Rattle.lb_outcome.specs.MemoryMap.{is_in_ram}
use Rattle.lb_outcome.specs.Ram.{stored, with_bytes}
use Rattle.lb_outcome.proofs.ram.Ram.store.Goals as goal

pub returns-in-Lw : goal.returns-in-Lw
unfolding stored
returns-in-Lw c =
    let i = c.args.instruction in
    let a = c.args.address in
    let ram = cells c.args.self.now in
    let written = with_bytes (access i).bytes a c.args.value ram in
    let inside : is_in_ram (access i).bytes a ≡ true =
    ap (λ n. is_in_ram n a) (sym c.access_bytes.ensures.value) ∙ sym c.in_ram.ensures ∙ c.if-not-in_ram.false in
    let word : with_bytes 4 a c.args.value ram ≡ written = elim c.in-Lw.is [
      | inl load ↦ ap (λ j. with_bytes (access j).bytes a c.args.value ram) (sym load.3)
      | inr store ↦ ap (λ j. with_bytes (access j).bytes a c.args.value ram) (sym store.3)
    ] in
    c.set_word.ensures ∙ word ∙ ap (λ b. if b then written else ram) (sym inside)
