use Rattle.std.proofs.Common.{rules, arith, ℕ, ◌≡◌, ◌<◌, List, [], ◌∷◌, Bool, true, false, zero, suc, Some, None, set, get_or, sym, ap, ◌∙◌, subst, refl}
use Rattle.std.proofs.lemmas.List.Elements.{recursion_from_All}
use Rattle.std.specs.Slots.{slots_filled, slots_len}
use Rattle.lb_turn.specs.Seats.{turn_view}
use Rattle.lb_turn.specs.Closing.{Among, Closes}
use Rattle.lb_turn.proofs.ClosingLemmas.{given_back}
use Rattle.lb_turn.proofs.closing.take_value.Goals as goal

none_left : (xs : List Bool) (k n : ℕ) → n ≡ 1 → k < n → get_or (set xs 0 false) k false ≡ false
none_left [] k n e h = refl
none_left (x ∷ xs) zero n e h = refl
none_left (x ∷ xs) (suc k) n e h = absurd (omega arith)

pub join_all-requires-clause-ready : goal.join_all-requires-clause-ready
join_all-requires-clause-ready g c = c.requires.opened.me

pub take-held-requires : goal.take-held-requires
take-held-requires g c =
    let n = c.close_with-closed.ensures.counts.1 in
    let one = c.requires.opened.slots in
    let near : 0 < slots_len c.close_with-closed.result.slots = omega arith in
    (near, c.close_with-closed.ensures.values.1 0 (omega arith) near)

pub free-requires : goal.free-requires
free-requires g c = λ k h.
    let o = c.take-held.ensures.others in
    let n = c.close_with-closed.ensures.counts.1 in
    let one = c.requires.opened.slots in
    subst (λ fs. get_or fs k false ≡ false) (sym o.1)
    (none_left (slots_filled c.close_with-closed.result.slots) k (slots_len c.take-held.new.self.slots)
    (o.2 ∙ (n ∙ one)) h)

pub unreachable-requires : goal.unreachable-requires
unreachable-requires g c =
    let t = c.join_all.ensures.joined in
    let b = given_back g.M.Acts.entries g.M.Acts.fixed g.M.Acts.why c.args.table.shared.key _ c.args.total t.1.0 t.0
    c.args.seats.items (turn_view c.args.total c.args.table.shared.table_id c.args.table.shared.key) _ _ _
    c.take-held.result (ap (λ m. m.0) t.1.1) c.close_with-closed.ensures.values.2 refl refl
    (recursion_from_All (λ u. Among (u.number, u.history) t.0) c.args.seats.items t.2) c.requires.complete c.take-held.ensures.value in
    c.in_default.not-Some b.0 b.1

abbrev value_or : {A : Type 0} → A → Rattle.std.proofs.Common.Option A → A
value_or d (Some x) = x
value_or d None = d

pub returns : goal.returns
returns g c =
    let t = c.join_all.ensures.joined in
    let b = given_back g.M.Acts.entries g.M.Acts.fixed g.M.Acts.why c.args.table.shared.key _ c.args.total t.1.0 t.0
    c.args.seats.items (turn_view c.args.total c.args.table.shared.table_id c.args.table.shared.key) _ _ _
    c.take-held.result (ap (λ m. m.0) t.1.1) c.close_with-closed.ensures.values.2 refl refl
    (recursion_from_All (λ u. Among (u.number, u.history) t.0) c.args.seats.items t.2) c.requires.complete c.take-held.ensures.value in
    subst (λ x. Closes g.M.Acts.entries g.M.Acts.fixed g.M.Acts.why
    (turn_view c.args.total c.args.table.shared.table_id c.args.table.shared.key) c.args.seats.items x.value)
    (ap (value_or b.0) (sym b.1 ∙ c.in-Some.is)) b.2
