-- What calling `loop` for ever keeps.
use Rattle.std.proofs.Common.{◌≡◌, ℕ, zero, suc, ◌≤◌, ◌<◌, List, [], Result, Ok, Err, sym, ap, ◌∙◌, arith}
use Rattle.std.specs.Prelude.{codes, IfOk}
use Rattle.lb_source.specs.declared.ends.SourceRun.{SourceRun}
use Rattle.lb_source.specs.declared.ends.SourceEnd.{SourceEnd}
use Rattle.lb_source.specs.declared.ends.SourceEnd.TheVariants.{Spent}
use Rattle.lb_source.specs.Run.{Outcome, Callable, callee, run}
use Rattle.lb_source.specs.Source.{call_of, to_end, for_ever}
use Rattle.lb_source.specs.InternalMachine.{state_of, FollowsCall, FollowsEver, FollowsWhole}
use Rattle.lb_source.specs.declared.machine.Machine.{Machine}
use Rattle.lb_source.specs.declared.machine.Flow.TheVariants.{On, End}
use Rattle.lb_source.proofs.Bounds.{enter_none}

-- what is left to do from m comes to what all comes to from m0
pub record LeavesEver (p : List Callable) (m0 m : Machine) : Type 0 where
  pub fuel : m.fuel ≤ m0.fuel
  pub stack : m.stack ≡ m0.stack
  pub rest : (n k0 : ℕ) (r : SourceRun) → m0.fuel ≤ k0 → k0 ≤ n → ((k : ℕ) → m.fuel ≤ k → k ≤ n → for_ever k (call_of p n (codes "loop")) (state_of m) ≡ r) → for_ever k0 (call_of p n (codes "loop")) (state_of m0) ≡ r

abbrev run_of : Outcome → SourceRun
run_of o = to_end o (λ s. record { trace = s.trace; end = Spent })

module _ (p : List Callable) (m0 m m' : Machine) (l : LeavesEver p m0 m) where
  pub ever_next : FollowsCall p (codes "loop") [] [] m On m' → m'.fuel < m.fuel → m'.stack ≡ m.stack → LeavesEver p m0 m'
  ever_next f less same = record {
    fuel = omega (arith, l.fuel);
    stack = same ∙ l.stack;
    rest = λ n k0 r le lt go. l.rest n k0 r le lt (at n r lt go);
  }
    where
      at : (n : ℕ) (r : SourceRun) {k0 : ℕ} → k0 ≤ n → ((k : ℕ) → m'.fuel ≤ k → k ≤ n → for_ever k (call_of p n (codes "loop")) (state_of m') ≡ r) → (k : ℕ) → m.fuel ≤ k → k ≤ n → for_ever k (call_of p n (codes "loop")) (state_of m) ≡ r
      at n r lt go zero lk ln = absurd (omega arith)
      at n r lt go (suc k) lk ln = ap (λ q. to_end q (for_ever k (call_of p n (codes "loop")))) (f (suc n) (omega arith)) ∙ go k (omega arith) (omega arith)

  pub ever_ends : (e : SourceEnd) → FollowsCall p (codes "loop") [] [] m (End e) m' → FollowsEver p m0 e m'
  ever_ends e f = λ n k0 le lt. l.rest n k0 (record { trace = m'.trace.items; end = e }) le lt (at n)
    where
      at : (n k : ℕ) → m.fuel ≤ k → k ≤ n → for_ever k (call_of p n (codes "loop")) (state_of m) ≡ record { trace = m'.trace.items; end = e }
      at n zero lk ln = ap run_of (sym (enter_none (callee p (codes "loop")) (run p n) [] [] (state_of m) (omega arith)) ∙ f (suc n) (omega arith))
      at n (suc k) lk ln = ap (λ q. to_end q (for_ever k (call_of p n (codes "loop")))) (f (suc n) (omega arith))

module _ (p : List Callable) (m m1 : Machine) where
  pub whole_ends : (e : SourceEnd) → FollowsCall p (codes "init") [] [] m (End e) m1 → FollowsWhole p m e m1
  whole_ends e f = λ n le. ap (λ q. to_end q (for_ever n (call_of p n (codes "loop")))) (f (suc n) (omega arith))

  pub whole_goes : {E : Type 0} (r : Result SourceEnd E) (m2 : Machine) → FollowsCall p (codes "init") [] [] m On m1 → m1.fuel ≤ m.fuel → IfOk r (λ e. FollowsEver p m1 e m2) → IfOk r (λ e. FollowsWhole p m e m2)
  whole_goes (Err e) m2 f fuel g = tt
  whole_goes (Ok e) m2 f fuel g = λ n le. ap (λ q. to_end q (for_ever n (call_of p n (codes "loop")))) (f (suc n) (omega arith)) ∙ g n n (omega arith) (omega arith)
