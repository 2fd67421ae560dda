-- Runs that compose, and runs that stand still.
use Rattle.std.proofs.Common.{◌≡◌, ◌≤◌, ℕ, zero, suc, ◌+◌, ◌-◌, Option, Some, None, refl, sym, ap, ◌∙◌, arith}
use Rattle.std.specs.Option.{option_map_or}
use Rattle.lb_steps.specs.Runs.{run}

-- a run from where there is no move
pub run-still : {S : Type 0} (move : S → Option S) (n : ℕ) (s : S) → move s ≡ None → run move n s ≡ s
run-still move zero s h = refl
run-still move (suc n) s h = ap (λ o. option_map_or (run move n) o s) h

-- a run from where there is a move
pub run-moves : {S : Type 0} (move : S → Option S) (n : ℕ) (s t : S) → move s ≡ Some t → run move (suc n) s ≡ run move n t
run-moves move n s t h = ap (λ o. option_map_or (run move n) o s) h

after_first : {S : Type 0} (move : S → Option S) (m n : ℕ) (s : S) (o : Option S) → move s ≡ o
    → ((t : S) → run move (m + n) t ≡ run move n (run move m t))
    → option_map_or (run move (m + n)) o s ≡ run move n (option_map_or (run move m) o s)
after_first move m n s None h go = sym (run-still move n s h)
after_first move m n s (Some t) h go = go t

-- m + n moves are m moves and then n
pub run-add : {S : Type 0} (move : S → Option S) (m n : ℕ) (s : S) → run move (m + n) s ≡ run move n (run move m s)
run-add move zero n s = let none : 0 + n ≡ n = omega arith in ap (λ k. run move k s) none
run-add move (suc m) n s =
    let one : suc m + n ≡ suc (m + n) = omega arith in
    ap (λ k. run move k s) one ∙ after_first move m n s (move s) refl (run-add move m n)

-- a longer run is a shorter one and then the moves that are left
pub run-longer : {S : Type 0} (move : S → Option S) (m n : ℕ) (s : S) → m ≤ n → run move n s ≡ run move (n - m) (run move m s)
run-longer move m n s h =
    let split : n ≡ m + (n - m) = omega arith in ap (λ k. run move k s) split ∙ run-add move m (n - m) s

-- one more move at the end
pub run-one_more : {S : Type 0} (move : S → Option S) (n : ℕ) (s t : S) → move (run move n s) ≡ Some t → run move (n + 1) s ≡ t
run-one_more move n s t h = run-add move n 1 s ∙ run-moves move 0 (run move n s) t h

-- a run longer than one that has come to stand still
pub run-still_after : {S : Type 0} (move : S → Option S) (m n : ℕ) (s : S) → move (run move m s) ≡ None → m ≤ n → run move n s ≡ run move m s
run-still_after move m n s still h = run-longer move m n s h ∙ run-still move (n - m) (run move m s) still
