use Rattle.std.proofs.Common.{arith, sym, ap, ◌∙◌, subst}
use Rattle.atomic_table.specs.Table.{Joins}
use Rattle.lb_turn.specs.declared.table.View.{View}
use Rattle.lb_turn.specs.Rule.{IsKept}
use Rattle.lb_turn.specs.Steps.{joined, spent}
use Rattle.lb_turn.proofs.ClosingLemmas.{joins}
use Rattle.lb_turn.proofs.CallLemmas.{taken}
use Rattle.lb_turn.proofs.closing.join.Goals as goal

pub join_seat-requires : goal.join_seat-requires
join_seat-requires g c =
    let h = c.requires.ready in
    let w = c.requires.here.0.1 in
    let p = ap (λ m. m.0) h.1.1 in
    let q = ap (λ m. m.0) c.seat.invariant.me in (
      c.requires.here.0.0,
      ap (λ s. s.turn) c.seat.view_is ∙ c.requires.here.1,
      ap (λ m. m.1) c.seat.invariant.me,
      omega arith,
      subst (λ (z : View g.row.M-Fixed.Denot g.row.M-Why.Denot × View g.row.M-Fixed.Denot g.row.M-Why.Denot).
          Joins (IsKept g.M.Acts.entries g.M.Acts.fixed g.M.Acts.why c.args.table.now.key) c.args.owner.now.id z.0
          c.seat.inside.place.id z.1 (joined z.0 z.1) spent)
          (λ i. (sym p i, sym q i))
          (joins g.M.Acts.entries g.M.Acts.fixed g.M.Acts.why c.args.table.now.key _ _ _ _ _ _ _ _ _),
    )

pub returns-clause-joined : goal.returns-clause-joined
returns-clause-joined g c = λ js h. (
  h.0,
  taken _ _ _ c.args.total c.seat.inside.number h.0 js c.args.owner.now.me
      c.join_seat.new.seat.me c.seat.inside.place.me c.args.seat h.1 c.seat.invariant.me
      (ap (λ s. s.number) c.seat.view_is) (ap (λ s. s.history) c.seat.view_is) c.join_seat.ensures.2,
)
