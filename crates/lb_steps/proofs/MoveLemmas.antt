-- Moves of a machine, counted.
use Rattle.std.proofs.Common.{◌≡◌, ℕ, ◌+◌, ◌-◌, ◌<◌, ◌≤◌, inl, inr, Option, Some, None, refl, sym, ap, ◌∙◌, arith}
use Rattle.std.proofs.lemmas.Bool.{cases_lt}
use Rattle.lb_steps.specs.Runs.{run}
use Rattle.lb_steps.proofs.RunLemmas.{run-add, run-longer, run-moves, run-still_after}

-- exactly n moves lead from c to d, none of which stands still
pub record Moves {C : Type 0} (move : C → Option C) (n : ℕ) (c d : C) : Type 0 where
  pub goes : run move n c ≡ d
  pub moving : (k : ℕ) → k < n → ¬ (move (run move k c) ≡ None)

-- one move leads to where P holds
pub record LeadsTo {C : Type 0} (move : C → Option C) (P : C → Type 0) (c : C) : Type 0 where
  pub next : C
  pub moves : move c ≡ Some next
  pub stands : P next

-- at most `most` moves do
pub record LeadsWithin {C : Type 0} (move : C → Option C) (P : C → Type 0) (most : ℕ) (c : C) : Type 0 where
  pub steps : ℕ
  pub few : steps ≤ most
  pub there : C
  pub goes : Moves move steps c there
  pub stands : P there

pub Moves-none : {C : Type 0} (move : C → Option C) (c : C) → Moves move 0 c c
Moves-none move c = record { goes = refl; moving = λ k lt. absurd (omega arith) }

pub Moves-one : {C : Type 0} {move : C → Option C} {c d : C} → move c ≡ Some d → Moves move 1 c d
Moves-one {move = move} {c = c} {d = d} h = record {
  goes = run-moves move 0 c d h;
  moving = λ k lt none. let first : k ≡ 0 = omega arith in cc (ap (λ j. move (run move j c)) first, none, h);
}

-- moves, and then others
pub Moves-then : {C : Type 0} {move : C → Option C} {m n : ℕ} {c d e : C} → Moves move m c d → Moves move n d e → Moves move (m + n) c e
Moves-then {move = move} {m = m} {n = n} {c = c} {d = d} {e = e} p q = record {
  goes = run-add move m n c ∙ ap (run move n) p.goes ∙ q.goes;
  moving = λ k lt none. elim (cases_lt k m) [
    | inl before ↦ p.moving k before none
    | inr past ↦ q.moving (k - m) (omega (arith, lt, past)) (ap move (sym (run-longer move m k c past ∙ ap (run move (k - m)) p.goes)) ∙ none)
  ];
}

-- a run that is longer than one which comes to stand still ends there too
pub Moves-still : {C : Type 0} {move : C → Option C} {c d : C} {m n : ℕ} → Moves move m c d → move d ≡ None → m ≤ n → run move n c ≡ d
Moves-still {move = move} {c = c} {m = m} {n = n} p none h = run-still_after move m n c (ap move p.goes ∙ none) h ∙ p.goes

pub LeadsTo-within : {C : Type 0} {move : C → Option C} {P : C → Type 0} {n : ℕ} {c : C} → 1 ≤ n → LeadsTo move P c → LeadsWithin move P n c
LeadsTo-within h l = record { steps = 1; few = h; there = l.next; goes = Moves-one l.moves; stands = l.stands }
