-- How runs count, what they keep, and how they end.
use Rattle.std.proofs.Common.{◌≡◌, ◌≢◌, ◌≤◌, ◌<◌, ℕ, zero, suc, ◌+◌, ◌-◌, List, Option, Some, None, refl, ap, ◌∙◌, arith, slice_get, if◌then◌else◌}
use Rattle.std.specs.Option.{option_map_or}
use Rattle.std.proofs.lemmas.Bool.{eq-eqb, ne_eqb}
use Rattle.lb_steps.specs.Runs.{run}
use Rattle.lb_steps.proofs.RunLemmas.{run-moves}
use Rattle.lb_isa.specs.declared.runner.Ending.TheVariants.{Running}
use Rattle.lb_isa.specs.State.{RunState, with_more}
use Rattle.lb_isa.specs.Moves.{move, next_answer}
use Rattle.lb_isa.specs.Runs.{ending_before, ending_after}
use Rattle.lb_isa.proofs.MoveLemmas.{move_committed, move_more}

at_most_after : (code : List ℕ) (n : ℕ) (s : RunState) (o : Option RunState) → move code s ≡ o
    → ((t : RunState) → (run (move code) n t).committed ≤ t.committed + n) → (option_map_or (run (move code) n) o s).committed ≤ s.committed + suc n
at_most_after code n s None h go = omega arith
at_most_after code n s (Some t) h go = omega (arith, go t, move_committed code s t h)

-- at most n instructions are committed
pub run_at_most : (code : List ℕ) (n : ℕ) (s : RunState) → (run (move code) n s).committed ≤ s.committed + n
run_at_most code zero s = omega arith
run_at_most code (suc n) s = at_most_after code n s (move code s) refl (run_at_most code n)

fewer_after : (code : List ℕ) (n : ℕ) (s : RunState) (o : Option RunState) → move code s ≡ o
    → ((t : RunState) → (run (move code) n t).committed ≢ t.committed + n → move code (run (move code) n t) ≡ None)
    → (option_map_or (run (move code) n) o s).committed ≢ s.committed + suc n → move code (option_map_or (run (move code) n) o s) ≡ None
fewer_after code n s None h go few = h
fewer_after code n s (Some t) h go few = go t (λ same. few (omega (arith, same, move_committed code s t h)))

-- where fewer were committed, nothing moves
pub run_fewer : (code : List ℕ) (n : ℕ) (s : RunState) → (run (move code) n s).committed ≢ s.committed + n → move code (run (move code) n s) ≡ None
run_fewer code zero s few = let none : s.committed ≡ s.committed + 0 = omega arith in absurd (few none)
run_fewer code (suc n) s few = fewer_after code n s (move code s) refl (run_fewer code n) few

more_after : (more code : List ℕ) (n : ℕ) (s : RunState) (o : Option RunState) → move code s ≡ o
    → ((t : RunState) → (run (move code) n t).committed ≡ t.committed + n → run (move code) n (with_more more t) ≡ with_more more (run (move code) n t))
    → (option_map_or (run (move code) n) o s).committed ≡ s.committed + suc n
    → run (move code) (suc n) (with_more more s) ≡ with_more more (option_map_or (run (move code) n) o s)
more_after more code n s None h go whole = absurd (omega (arith, whole))
more_after more code n s (Some t) h go whole =
    let left : (run (move code) n t).committed ≡ t.committed + n = omega (arith, whole, move_committed code s t h) in
    run-moves (move code) n (with_more more s) (with_more more t) (move_more more code s t h) ∙ go t left

-- a run that committed as many instructions as it was to does the same with more replies
pub run_more : (more code : List ℕ) (n : ℕ) (s : RunState) → (run (move code) n s).committed ≡ s.committed + n
    → run (move code) n (with_more more s) ≡ with_more more (run (move code) n s)
run_more more code zero s whole = refl
run_more more code (suc n) s whole = more_after more code n s (move code s) refl (run_more more code n) whole

-- ---- the run of a code of at most this many instructions, in code

-- the moves that are left after one of a run that is to commit this many
pub run_moves_on : (code : List ℕ) (limit : ℕ) (s t : RunState) → s.committed < limit → move code s ≡ Some t
    → run (move code) (limit - s.committed) s ≡ run (move code) (limit - t.committed) t
run_moves_on code limit s t below h =
    let one : limit - s.committed ≡ suc (limit - t.committed) = omega (arith, move_committed code s t h, below) in
    ap (λ n. run (move code) n s) one ∙ run-moves (move code) (limit - t.committed) s t h

-- the ending of a run that committed as many instructions as it was to
pub ending_after_whole : (code : List ℕ) (n : ℕ) (s : RunState) → s.committed ≡ n → ending_after code n s ≡ Running
ending_after_whole code n s h =
    ap (λ b. if b then Running else ending_before (next_answer code (slice_get s.replies 0) s.processor)) (eq-eqb s.committed n h)

-- the ending of a run that committed fewer
pub ending_after_fewer : (code : List ℕ) (n : ℕ) (s : RunState) → s.committed < n
    → ending_after code n s ≡ ending_before (next_answer code (slice_get s.replies 0) s.processor)
ending_after_fewer code n s h =
    ap (λ b. if b then Running else ending_before (next_answer code (slice_get s.replies 0) s.processor))
    (ne_eqb s.committed n (λ same. omega (arith, h, same)))
