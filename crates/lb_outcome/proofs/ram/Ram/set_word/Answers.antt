use Rattle.std.proofs.Common.{ap, ◌∙◌, drop, length}
use Rattle.std.proofs.lemmas.List.{take_at}
use Rattle.lb_outcome.specs.Cells.{cells}
use Rattle.lb_outcome.specs.Ram.{with_bytes}
use Rattle.lb_outcome.proofs.ram.Ram.set_word.Goals as goal

pub returns : goal.returns
returns c =
    let new = c.write_word.new.bytes in
    let items = c.self.inside.bytes.items in
    ap cells (take_at new (drop (length new) items) c.self.inside.bytes.len (c.write_word.ensures.len ∙ c.deref_mut.ensures.len))
    ∙ c.write_word.ensures.cells ∙ ap (λ xs. with_bytes 4 c.args.at c.args.value (cells xs)) (c.deref_mut.ensures.value ∙ c.self.view_is)
