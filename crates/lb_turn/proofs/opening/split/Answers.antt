use Rattle.std.proofs.Common.{sym, ap, subst}
use Rattle.atomic_table.specs.Table.{Splits}
use Rattle.lb_turn.specs.Rule.{IsKept}
use Rattle.lb_turn.specs.Steps.{split_owner, split_off}
use Rattle.lb_turn.proofs.OpeningLemmas.{splits}
use Rattle.lb_turn.proofs.opening.split.Goals as goal

pub split_seat-requires : goal.split_seat-requires
split_seat-requires g c = let h = c.requires.ready in (
  c.requires.here.0,
  c.requires.here.1,
  subst (λ v. Splits (IsKept g.M.Acts.entries g.M.Acts.fixed g.M.Acts.why c.args.table.now.key) c.args.owner.now.id v
      (split_owner v) (split_off v)) (sym (ap (λ m. m.0) h.1))
      (splits g.M.Acts.entries g.M.Acts.fixed g.M.Acts.why c.args.table.now.key c.args.owner.now.id h.0 h.2),
)
