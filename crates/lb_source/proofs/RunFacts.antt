-- What loops of the interpreter keep.
use Rattle.std.proofs.Common.{◌≡◌, ℕ, zero, suc, ◌-◌, ◌≤◌, ◌≢◌, List, drop, length, Result, Ok, Err, sym, ap, ◌∙◌, arith}
use Rattle.lb_syntax.specs.Tree.{Term, Command, Then, Ends}
use Rattle.lb_syntax.specs.Needs.{sites}
use Rattle.lb_source.specs.declared.ends.Reason.{Reason}
use Rattle.lb_source.specs.declared.ends.SourceEnd.{SourceEnd}
use Rattle.lb_source.specs.declared.ends.SourceEnd.TheVariants.{Spent, Undefined}
use Rattle.lb_source.specs.Run.{State, Outcome, Goes, Stops, then_do, with_value, at_zero, spend, value_in, Callable, run, turns}
use Rattle.lb_source.specs.InternalMachine.{state_of, Follows, FollowsTurns}
use Rattle.lb_source.specs.declared.machine.Machine.{Machine}
use Rattle.lb_source.specs.declared.machine.Flow.TheVariants.{On, End}

-- what is left to do from m comes to what all comes to from m0
pub record Leaves (p : List Callable) (os0 : List ℕ) (c0 : Command) (m0 : Machine) (os : List ℕ) (c : Command) (m : Machine) : Type 0 where
  pub fuel : m.fuel ≤ m0.fuel
  pub stack : m.stack ≡ m0.stack
  pub rest : (n : ℕ) → m0.fuel ≤ n → run p n os0 c0 (state_of m0) ≡ run p n os c (state_of m)

module _ (p : List Callable) (os0 os : List ℕ) (c0 c rest : Command) (m0 m m' : Machine) (l : Leaves p os0 c0 m0 os (Then c rest) m) where
  pub leaves_next : Follows p os c m On m' → m'.fuel ≤ m.fuel → m'.stack ≡ m.stack → Leaves p os0 c0 m0 (drop (length (sites c)) os) rest m'
  leaves_next f le same = record {
    fuel = omega (arith, l.fuel);
    stack = same ∙ l.stack;
    rest = λ n h. l.rest n h ∙ ap (λ q. then_do q (run p n (drop (length (sites c)) os) rest)) (f n (omega (arith, l.fuel)));
  }

  pub leaves_end : (e : SourceEnd) → Follows p os c m (End e) m' → Follows p os0 c0 m0 (End e) m'
  leaves_end e f = λ n h. l.rest n h ∙ ap (λ q. then_do q (run p n (drop (length (sites c)) os) rest)) (f n (omega (arith, l.fuel)))

pub leaves_done : (p : List Callable) (os0 os : List ℕ) (c0 : Command) (m0 m : Machine) → Leaves p os0 c0 m0 os Ends m → Follows p os0 c0 m0 On m
leaves_done p os0 os c0 m0 m l = λ n h. l.rest n h

-- the same between two turns of a loop
pub record LeavesTurns (p : List Callable) (os : List ℕ) (e : Term) (b : Command) (m0 m : Machine) : Type 0 where
  pub fuel : m.fuel ≤ m0.fuel
  pub stack : m.stack ≡ m0.stack
  pub rest : (n k0 : ℕ) (o : Outcome) → m0.fuel ≤ k0 → k0 ≤ n → ((k : ℕ) → m.fuel ≤ k → k ≤ n → turns k e (run p n os b) (state_of m) ≡ o) → turns k0 e (run p n os b) (state_of m0) ≡ o

-- a turn by what its test gives
turn_wrong : (e : Term) (body : State → Outcome) (s : State) (r : Reason) (k : ℕ) → value_in s e ≡ Err r → turns k e body s ≡ Stops s.trace (Undefined r)
turn_wrong e body s r zero h = ap (λ q. with_value q s (λ v. at_zero v (Goes s) (Stops s.trace Spent))) h
turn_wrong e body s r (suc k) h = ap (λ q. with_value q s (λ v. at_zero v (Goes s) (spend s.fuel s (λ t. then_do (body t) (turns k e body))))) h

turn_over : (e : Term) (body : State → Outcome) (s : State) (k : ℕ) → value_in s e ≡ Ok 0 → turns k e body s ≡ Goes s
turn_over e body s zero h = ap (λ q. with_value q s (λ v. at_zero v (Goes s) (Stops s.trace Spent))) h
turn_over e body s (suc k) h = ap (λ q. with_value q s (λ v. at_zero v (Goes s) (spend s.fuel s (λ t. then_do (body t) (turns k e body))))) h

turn_spent : (e : Term) (body : State → Outcome) (s : State) (k v : ℕ) → value_in s e ≡ Ok (suc v) → s.fuel ≡ 0 → turns k e body s ≡ Stops s.trace Spent
turn_spent e body s zero v h z = ap (λ q. with_value q s (λ v. at_zero v (Goes s) (Stops s.trace Spent))) h
turn_spent e body s (suc k) v h z =
    ap (λ q. with_value q s (λ v. at_zero v (Goes s) (spend s.fuel s (λ t. then_do (body t) (turns k e body))))) h
    ∙ ap (λ f. spend f s (λ t. then_do (body t) (turns k e body))) z

turn_on : (e : Term) (body : State → Outcome) (s : State) (k v f : ℕ) → value_in s e ≡ Ok (suc v) → s.fuel ≡ suc f → turns (suc k) e body s ≡ then_do (body (record s { fuel = f })) (turns k e body)
turn_on e body s k v f h z =
    ap (λ q. with_value q s (λ v. at_zero v (Goes s) (spend s.fuel s (λ t. then_do (body t) (turns k e body))))) h
    ∙ ap (λ f. spend f s (λ t. then_do (body t) (turns k e body))) z

module _ (p : List Callable) (os : List ℕ) (e : Term) (b : Command) (m0 m : Machine) (l : LeavesTurns p os e b m0 m) where
  pub loop_wrong : (r : Reason) → value_in (state_of m) e ≡ Err r → FollowsTurns p os e b m0 (End (Undefined r)) m
  loop_wrong r h = λ n k le lt. l.rest n k (Stops m.trace.items (Undefined r)) le lt (λ j _ _. turn_wrong e (run p n os b) (state_of m) r j h)

  pub loop_over : value_in (state_of m) e ≡ Ok 0 → FollowsTurns p os e b m0 On m
  loop_over h = λ n k le lt. l.rest n k (Goes (state_of m)) le lt (λ j _ _. turn_over e (run p n os b) (state_of m) j h)

  pub loop_spent : (v : ℕ) → value_in (state_of m) e ≡ Ok (suc v) → m.fuel ≡ 0 → FollowsTurns p os e b m0 (End Spent) m
  loop_spent v h z = λ n k le lt. l.rest n k (Stops m.trace.items Spent) le lt (λ j _ _. turn_spent e (run p n os b) (state_of m) j v h z)

  -- from a turn to what its body leaves
  after_turn : (v f : ℕ) (o : Outcome) (m1 : Machine) → value_in (state_of m) e ≡ Ok (suc v) → m.fuel ≡ suc f → state_of m1 ≡ record (state_of m) { fuel = f } → (n k0 : ℕ) → m0.fuel ≤ k0 → k0 ≤ n → ((k : ℕ) → f ≤ k → k ≤ n → then_do (run p n os b (state_of m1)) (turns k e (run p n os b)) ≡ o) → turns k0 e (run p n os b) (state_of m0) ≡ o
  after_turn v f o m1 h z same n k0 le lt go = l.rest n k0 o le lt at
    where
      at : (k : ℕ) → m.fuel ≤ k → k ≤ n → turns k e (run p n os b) (state_of m) ≡ o
      at zero lk ln = absurd (omega arith)
      at (suc k) lk ln = turn_on e (run p n os b) (state_of m) k v f h z ∙ ap (λ t. then_do (run p n os b t) (turns k e (run p n os b))) (sym same) ∙ go k (omega arith) (omega arith)

  pub loop_next : (v f : ℕ) (m1 m' : Machine) → value_in (state_of m) e ≡ Ok (suc v) → m.fuel ≡ suc f → state_of m1 ≡ record (state_of m) { fuel = f } → Follows p os b m1 On m' → m'.fuel ≤ f → m'.stack ≡ m.stack → LeavesTurns p os e b m0 m'
  loop_next v f m1 m' h z same body le' still = record {
    fuel = omega (arith, l.fuel);
    stack = still ∙ l.stack;
    rest = λ n k0 o le lt go. after_turn v f o m1 h z same n k0 le lt (λ k lk ln. ap (λ q. then_do q (turns k e (run p n os b))) (body n (let same_fuel : m1.fuel ≡ f = ap (λ (s : State). s.fuel) same in omega arith)) ∙ go k (omega arith) ln);
  }

  pub loop_end : (v f : ℕ) (m1 m' : Machine) (end : SourceEnd) → value_in (state_of m) e ≡ Ok (suc v) → m.fuel ≡ suc f → state_of m1 ≡ record (state_of m) { fuel = f } → Follows p os b m1 (End end) m' → FollowsTurns p os e b m0 (End end) m'
  loop_end v f m1 m' end h z same body =
      λ n k0 le lt. after_turn v f (Stops m'.trace.items end) m1 h z same n k0 le lt (λ k lk ln. ap (λ q. then_do q (turns k e (run p n os b))) (body n (let same_fuel : m1.fuel ≡ f = ap (λ (s : State). s.fuel) same in omega arith)))

pub is_suc : (n : ℕ) → (n ≡ 0 → ⊥) → n ≡ suc (n - 1)
is_suc n h = let ne : n ≢ 0 = h in omega arith

-- a value other than 0
pub is_more : (r : Result ℕ Reason) (n : ℕ) → (n ≡ 0 → ⊥) → r ≡ Ok n → r ≡ Ok (suc (n - 1))
is_more r n h e = e ∙ ap Ok (is_suc n h)
