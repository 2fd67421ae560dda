-- Each bound that is as great as the fuel gives the same run.
use Rattle.std.proofs.Common.{◌≡◌, ℕ, zero, suc, ◌-◌, ◌≤◌, List, [], Option, Some, None, refl, sym, ap, ◌∙◌, drop, length, arith}
use Rattle.std.specs.Prelude.{codes}
use Rattle.lb_syntax.specs.Names.{Text}
use Rattle.lb_syntax.specs.Tree.{Term}
use Rattle.lb_syntax.specs.Tree.{Command, Skips, Sets, Unsets, Stores, Allocates, Chooses, Repeats, Calls, Interacts, Ends, Then}
use Rattle.lb_syntax.specs.Needs.{sites}
use Rattle.lb_source.specs.declared.ends.SourceRun.{SourceRun}
use Rattle.lb_source.specs.declared.ends.SourceEnd.TheVariants.{Spent}
use Rattle.lb_source.specs.Run.{State, Outcome, Goes, Stops, then_do, spend, value_in, values_in, block_at, allocated, released, turns, Caller, run_with, Callable, callee, entered, enter, calls, run}
use Rattle.lb_source.specs.Source.{callables, start, call_of, to_end, for_ever, whole}
use Rattle.lb_source.specs.Laws.{AnyBoundServes}
use Rattle.lb_source.proofs.OutcomeLemmas.{value_same, zero_same, spend_same}
use Rattle.lb_source.proofs.Onward.{fuel_of, Onward, CallsOnward, run_with_onward, enter_spends, calls_onward, run_onward}

then_both : (k : ℕ) (o : Outcome) (f g : State → Outcome) → fuel_of o ≤ k → ((u : State) → u.fuel ≤ k → f u ≡ g u) → then_do o f ≡ then_do o g
then_both k (Goes s) f g le h = h s le
then_both k (Stops t e) f g le h = refl

then_same : (k : ℕ) (o p : Outcome) (f g : State → Outcome) → o ≡ p → fuel_of o ≤ k → ((u : State) → u.fuel ≤ k → f u ≡ g u) → then_do o f ≡ then_do p g
then_same k o p f g e le h = then_both k o f g le h ∙ ap (λ q. then_do q g) e

pub spend_none : (n : ℕ) (s : State) (go : State → Outcome) → n ≡ 0 → spend n s go ≡ Stops s.trace Spent
spend_none n s go e = ap (λ f. spend f s go) e

turns_same : (n m k : ℕ) (e : Term) (f g : State → Outcome) (s : State) → s.fuel ≤ n → s.fuel ≤ m → s.fuel ≤ k → ((u : State) → u.fuel ≤ k → f u ≡ g u) → ((u : State) → Onward u.trace u.fuel (f u)) → turns n e f s ≡ turns m e g s
turns_same zero zero k e f g s ln lm lk h on = refl
turns_same zero (suc m) k e f g s ln lm lk h on =
    value_same (value_in s e) s _ _ (λ v. zero_same v _ _ _ _ refl (sym (spend_none s.fuel s (λ t. then_do (g t) (turns m e g)) (omega arith))))
turns_same (suc n) zero k e f g s ln lm lk h on =
    value_same (value_in s e) s _ _ (λ v. zero_same v _ _ _ _ refl (spend_none s.fuel s (λ t. then_do (f t) (turns n e f)) (omega arith)))
turns_same (suc n) (suc m) k e f g s ln lm lk h on =
    value_same (value_in s e) s _ _ (λ v. zero_same v _ _ _ _ refl (spend_same s.fuel s (λ t. then_do (f t) (turns n e f)) (λ t. then_do (g t) (turns m e g)) (λ q eq.
    let t = record s { fuel = q } in
    let falls = (on t).falls in
    then_same q (f t) (g t) (turns n e f) (turns m e g) (h t (omega arith)) falls (λ u lu. turns_same n m k e f g u (omega arith) (omega arith) (omega arith) h on))))

module _ (call more : Caller) (k : ℕ) (calls : (f : Text) (vs : List ℕ) (xs : List Text) (s : State) → s.fuel ≤ k → call f vs xs s ≡ more f vs xs s) (onward : CallsOnward call) (n m : ℕ) (kn : k ≤ n) (km : k ≤ m) where
  run_with_same : (os : List ℕ) (c : Command) (s : State) → s.fuel ≤ k → run_with call n os c s ≡ run_with more m os c s
  run_with_same os Skips s le = refl
  run_with_same os (Sets x e) s le = refl
  run_with_same os (Unsets x) s le = refl
  run_with_same os (Stores w a e) s le = refl
  run_with_same os (Allocates j x b) s le =
      let base = block_at s.stack os in
      let t = allocated base j x s in
      let falls = (run_with_onward call onward n (drop 1 os) b t).falls in
      then_same k (run_with call n (drop 1 os) b t) (run_with more m (drop 1 os) b t) (released base j) (released base j) (run_with_same (drop 1 os) b t le) (omega arith) (λ u lu. refl)
  run_with_same os (Chooses e b d) s le =
      value_same (value_in s e) s _ _ (λ v. zero_same v _ _ _ _ (run_with_same (drop (length (sites b)) os) d s le) (run_with_same os b s le))
  run_with_same os (Repeats e b) s le = turns_same n m k e (run_with call n os b) (run_with more m os b) s (omega arith) (omega arith) le (run_with_same os b) (run_with_onward call onward n os b)
  run_with_same os (Calls xs f es) s le = value_same (values_in s es) s _ _ (λ vs. calls f vs xs s le)
  run_with_same os (Interacts xs j es) s le = refl
  run_with_same os Ends s le = refl
  run_with_same os (Then a b) s le =
      let falls = (run_with_onward call onward n os a s).falls in
      then_same k (run_with call n os a s) (run_with more m os a s) (run_with call n (drop (length (sites a)) os) b) (run_with more m (drop (length (sites a)) os) b) (run_with_same os a s le) (omega arith) (run_with_same (drop (length (sites a)) os) b)

-- without fuel a call is spent at once
pub enter_none : (o : Option Callable) (body : List ℕ → Command → State → Outcome) (vs : List ℕ) (xs : List Text) (s : State) → s.fuel ≡ 0 → enter o body vs xs s ≡ Stops s.trace Spent
enter_none None body vs xs s e = refl
enter_none (Some g) body vs xs s e = spend_none s.fuel s _ e

module _ (body more : List ℕ → Command → State → Outcome) (k : ℕ) (same : (h : ℕ) → suc h ≤ k → (os : List ℕ) (c : Command) (s : State) → s.fuel ≤ h → body os c s ≡ more os c s) (onward : (os : List ℕ) (c : Command) (s : State) → Onward s.trace s.fuel (body os c s)) where
  enter_same : (o : Option Callable) (vs : List ℕ) (xs : List Text) (s : State) → s.fuel ≤ k → enter o body vs xs s ≡ enter o more vs xs s
  enter_same None vs xs s le = refl
  enter_same (Some g) vs xs s le = spend_same s.fuel s _ _ (λ h e.
      let t = entered g vs (record s { fuel = h }) in
      let falls = (onward g.offsets g.body t).falls in
      then_same h (body g.offsets g.body t) (more g.offsets g.body t) _ _ (same h (omega arith) g.offsets g.body t (omega arith)) falls (λ u lu. refl))

calls_same : (p : List Callable) (n m k : ℕ) → k ≤ n → k ≤ m → (f : Text) (vs : List ℕ) (xs : List Text) (s : State) → s.fuel ≤ k → calls p n f vs xs s ≡ calls p m f vs xs s
calls_same p zero zero k kn km f vs xs s le = refl
calls_same p zero (suc m) k kn km f vs xs s le = sym (enter_none (callee p f) (run p m) vs xs s (omega arith))
calls_same p (suc n) zero k kn km f vs xs s le = enter_none (callee p f) (run p n) vs xs s (omega arith)
calls_same p (suc n) (suc m) k kn km f vs xs s le =
    enter_same (run p n) (run p m) k (λ h lh. run_with_same (calls p n) (calls p m) h (calls_same p n m h (omega arith) (omega arith)) (calls_onward p n) n m (omega arith) (omega arith)) (run_onward p n) (callee p f) vs xs s le

run_same : (p : List Callable) (n m k : ℕ) → k ≤ n → k ≤ m → (os : List ℕ) (c : Command) (s : State) → s.fuel ≤ k → run p n os c s ≡ run p m os c s
run_same p n m k kn km = run_with_same (calls p n) (calls p m) k (calls_same p n m k kn km) (calls_onward p n) n m kn km

end_both : (k : ℕ) (o : Outcome) (f g : State → SourceRun) → fuel_of o ≤ k → ((u : State) → u.fuel ≤ k → f u ≡ g u) → to_end o f ≡ to_end o g
end_both k (Goes s) f g le h = h s le
end_both k (Stops t e) f g le h = refl

end_same : (k : ℕ) (o p : Outcome) (f g : State → SourceRun) → o ≡ p → fuel_of o ≤ k → ((u : State) → u.fuel ≤ k → f u ≡ g u) → to_end o f ≡ to_end p g
end_same k o p f g e le h = end_both k o f g le h ∙ ap (λ q. to_end q g) e

call_same : (p : List Callable) (n m : ℕ) (f : Text) (s : State) → s.fuel ≤ n → s.fuel ≤ m → call_of p n f s ≡ call_of p m f s
call_same p n m f s ln lm =
    enter_same (run p n) (run p m) s.fuel (λ h lh. run_same p n m h (omega arith) (omega arith)) (run_onward p n) (callee p f) [] [] s (omega arith)

ever_same : (i j k : ℕ) (f g : State → Outcome) (s : State) → s.fuel ≤ i → s.fuel ≤ j → s.fuel ≤ k → ((u : State) → u.fuel ≤ k → f u ≡ g u) → ((u : State) → fuel_of (f u) ≤ u.fuel - 1) → ((u : State) → u.fuel ≡ 0 → f u ≡ Stops u.trace Spent) → for_ever i f s ≡ for_ever j g s
ever_same zero zero k f g s li lj lk h falls ends = refl
ever_same zero (suc j) k f g s li lj lk h falls ends = sym (ap (λ q. to_end q (for_ever j g)) (sym (h s lk) ∙ ends s (omega arith)))
ever_same (suc i) zero k f g s li lj lk h falls ends = ap (λ q. to_end q (for_ever i f)) (ends s (omega arith))
ever_same (suc i) (suc j) k f g s li lj lk h falls ends =
    end_same (s.fuel - 1) (f s) (g s) (for_ever i f) (for_ever j g) (h s lk) (falls s) (λ u lu. ever_same i j k f g u (omega arith) (omega arith) (omega arith) h falls ends)

pub whole_same : (p : List Callable) (n m : ℕ) (s : State) → s.fuel ≤ n → s.fuel ≤ m → whole p n s ≡ whole p m s
whole_same p n m s ln lm =
    let first = (enter_spends (run p n) (run_onward p n) (callee p (codes "init")) [] [] s).falls in
    end_same s.fuel (call_of p n (codes "init") s) (call_of p m (codes "init") s) (for_ever n (call_of p n (codes "loop"))) (for_ever m (call_of p m (codes "loop"))) (call_same p n m (codes "init") s ln lm) (omega arith)
    (λ u lu. ever_same n m s.fuel (call_of p n (codes "loop")) (call_of p m (codes "loop")) u (omega arith) (omega arith) lu (λ w lw. call_same p n m (codes "loop") w (omega arith) (omega arith)) (λ w. (enter_spends (run p n) (run_onward p n) (callee p (codes "loop")) [] [] w).falls) (λ w e. enter_none (callee p (codes "loop")) (run p n) [] [] w e))

pub any_bound_serves : AnyBoundServes
any_bound_serves p layout fuel bound replies h = whole_same (callables p layout.frames) bound fuel (start fuel replies) h (omega arith)
