use Rattle.std.proofs.Common.{append_assoc}
use Rattle.lb_printing.proofs.command.add_alloc_line.Goals as goal

pub returns-clause-printed : goal.returns-clause-printed
returns-clause-printed c =
    rw (
      c.in_ok-extend_from_slice-3.ensures.items,
      c.in_ok-add_name.ensures.printed,
      c.in_ok-extend_from_slice-2.ensures.items,
      c.in_ok-add_number.ensures.printed,
      c.in_ok-extend_from_slice.ensures.items,
      c.in_ok-add_indent.ensures,
    ) (simp append_assoc)
