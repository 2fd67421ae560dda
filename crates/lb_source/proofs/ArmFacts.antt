-- What each command comes to, from what its parts come to.
use Rattle.std.proofs.Common.{◌≡◌, ℕ, zero, suc, ◌+◌, ◌-◌, ◌≤◌, List, [], ◌∷◌, drop, take, length, get_or, Some, None, Result, Ok, Err, refl, sym, ap, subst, ◌∙◌, arith}
use Rattle.std.specs.Prelude.{map, IfOk}
use Rattle.std.proofs.lemmas.List.{take_all}
use Rattle.lb_syntax.specs.Names.{Text}
use Rattle.lb_syntax.specs.Tree.{Term, Variable, procedure_of, block_of}
use Rattle.lb_syntax.specs.Tree.{Command, Sets, Stores, Allocates, Chooses}
use Rattle.lb_syntax.specs.Needs.{sites}
use Rattle.lb_syntax.specs.declared.tree.Function.{Function}
use Rattle.lb_syntax.specs.declared.tree.Width.{Width}
use Rattle.lb_syntax.specs.declared.layout.FrameLayout.{FrameLayout}
use Rattle.lb_source.specs.Maps.{Variables, Memory, with_range}
use Rattle.lb_source.specs.declared.ends.Reason.{Reason}
use Rattle.lb_source.specs.declared.ends.SourceEnd.{SourceEnd}
use Rattle.lb_source.specs.Run.{State, Outcome, Goes, Stops, then_do, with_value, at_zero, spend, value_in, values_in, set_all, allocated, released, Callable, callee, entered, returned, enter, calls, run}
use Rattle.lb_source.specs.Source.{callable}
use Rattle.lb_source.specs.InternalMachine.{state_of, outcome_of, variables_of, memory_of, Follows, FollowsEntry, FollowsReturn, FollowsSet, FollowsStore}
use Rattle.lb_source.specs.declared.machine.Machine.{Machine}
use Rattle.lb_source.specs.declared.machine.Flow.{Flow}
use Rattle.lb_source.specs.declared.machine.Flow.TheVariants.{On, End}
use Rattle.lb_source.specs.declared.variables.Entry.{Entry}

module _ {E : Type 0} (r : Result Flow E) (p : List Callable) (os : List ℕ) (m m' : Machine) where
  -- the same outcome, read from the other side
  turned : (c : Command) (o : Outcome) → ((n : ℕ) → run p n os c (state_of m) ≡ o) → IfOk r (λ flow. outcome_of flow m' ≡ o) → IfOk r (λ flow. Follows p os c m flow m')
  turned c o same h = turn r h
    where
      turn : (q : Result Flow E) → IfOk q (λ flow. outcome_of flow m' ≡ o) → IfOk q (λ flow. Follows p os c m flow m')
      turn (Ok flow) k = λ n le. same n ∙ sym k
      turn (Err e) k = tt

  pub set_follows : (x : Text) (e : Term) → IfOk r (λ flow. FollowsSet x e m flow m') → IfOk r (λ flow. Follows p os (Sets x e) m flow m')
  set_follows x e = turned (Sets x e) (run p 0 os (Sets x e) (state_of m)) (λ n. refl)

  pub store_follows : (w : Width) (a e : Term) → IfOk r (λ flow. FollowsStore w a e m flow m') → IfOk r (λ flow. Follows p os (Stores w a e) m flow m')
  store_follows w a e = turned (Stores w a e) (run p 0 os (Stores w a e) (state_of m)) (λ n. refl)

  -- one branch
  branch : (c d : Command) (qs : List ℕ) → ((n : ℕ) → run p n os c (state_of m) ≡ run p n qs d (state_of m)) → IfOk r (λ flow. Follows p qs d m flow m') → IfOk r (λ flow. Follows p os c m flow m')
  branch c d qs same h = turn r h
    where
      turn : (q : Result Flow E) → IfOk q (λ flow. Follows p qs d m flow m') → IfOk q (λ flow. Follows p os c m flow m')
      turn (Ok flow) k = λ n le. same n ∙ k n le
      turn (Err e) k = tt

  pub no_follows : (e : Term) (b d : Command) → value_in (state_of m) e ≡ Ok 0 → IfOk r (λ flow. Follows p (drop (length (sites b)) os) d m flow m') → IfOk r (λ flow. Follows p os (Chooses e b d) m flow m')
  no_follows e b d h =
      branch (Chooses e b d) d (drop (length (sites b)) os) (λ n. ap (λ q. with_value q (state_of m) (λ v. at_zero v (run p n (drop (length (sites b)) os) d (state_of m)) (run p n os b (state_of m)))) h)

  pub yes_follows : (e : Term) (b d : Command) (v : ℕ) → value_in (state_of m) e ≡ Ok (suc v) → IfOk r (λ flow. Follows p os b m flow m') → IfOk r (λ flow. Follows p os (Chooses e b d) m flow m')
  yes_follows e b d v h =
      branch (Chooses e b d) b os (λ n. ap (λ q. with_value q (state_of m) (λ v. at_zero v (run p n (drop (length (sites b)) os) d (state_of m)) (run p n os b (state_of m)))) h)

-- a block, allocated round a body
module _ (p : List Callable) (os rest : List ℕ) (offset k : ℕ) (x : Text) (b : Command) (m m1 m2 : Machine) (e : os ≡ offset ∷ rest) (fuel : m1.fuel ≡ m.fuel) (begins : state_of m1 ≡ allocated (m.stack + offset) k x (state_of m)) where
  inside : (n : ℕ) (o : Outcome) → run p n rest b (state_of m1) ≡ o → run p n os (Allocates k x b) (state_of m) ≡ then_do o (released (m.stack + offset) k)
  inside n o h =
      ap (λ q. run p n q (Allocates k x b) (state_of m)) e
      ∙ ap (λ t. then_do (run p n rest b t) (released (m.stack + offset) k)) (sym begins)
      ∙ ap (λ q. then_do q (released (m.stack + offset) k)) h

  pub allocated_ends : (end : SourceEnd) → Follows p rest b m1 (End end) m2 → Follows p os (Allocates k x b) m (End end) m2
  allocated_ends end f = λ n le. inside n (Stops m2.trace.items end) (f n (omega (arith, fuel)))

  pub allocated_goes : (m3 : Machine) → Follows p rest b m1 On m2 → state_of m3 ≡ record (state_of m2) { memory = with_range (m.stack + offset) k None (memory_of m2.bytes) } → Follows p os (Allocates k x b) m On m3
  allocated_goes m3 f same = λ n le. inside n (Goes (state_of m2)) (f n (omega (arith, fuel))) ∙ sym (ap Goes same)

-- a machine's state by its variables and its memory
pub remade : (m : Machine) (vars : Variables) (memory : Memory) → variables_of m.variables.items ≡ vars → memory_of m.bytes ≡ memory → state_of m ≡ record (state_of m) { variables = vars; memory = memory }
remade m vars memory e f = λ i. record (state_of m) { variables = e i; memory = f i }

pub first_and_rest : (os : List ℕ) → 1 ≤ length os → os ≡ get_or os 0 0 ∷ take (length os - 1) (drop 1 os)
first_and_rest [] h = absurd (omega arith)
first_and_rest (o ∷ os) h = let enough : length os ≤ length (o ∷ os) - 1 = omega arith in ap (λ l. o ∷ l) (sym (take_all (length (o ∷ os) - 1) os enough))

-- a value that two states go on with, of the same trace
same_value : {A : Type 0} (r : Result A Reason) (s t : State) (f g : A → Outcome) → s.trace ≡ t.trace → ((v : A) → f v ≡ g v) → with_value r s f ≡ with_value r t g
same_value (Ok v) s t f g e h = h v
same_value (Err reason) s t f g e h = ap (λ l. Stops l (Rattle.lb_source.specs.declared.ends.SourceEnd.TheVariants.Undefined reason)) e

-- a call, entered
module _ (p : List Callable) (name : Text) (vs : List ℕ) (xs : List Text) (f : Function) (frame : FrameLayout) (m m1 m2 : Machine) (is : callee p name ≡ Some (callable (procedure_of f) frame)) (h : ℕ) (some : m.fuel ≡ suc h) (fuel : m1.fuel ≡ h) (begins : state_of m1 ≡ entered (callable (procedure_of f) frame) vs (record (state_of m) { fuel = h })) where
  -- goes back to the caller
  abbrev back : State → Outcome
  back u = with_value (values_in u (map Variable f.results)) u (λ rs. Goes (returned xs rs (state_of m) u))

  entry : (n : ℕ) (o : Outcome) → m.fuel ≤ n → ((k : ℕ) → h ≤ k → run p k frame.sites (block_of f.body) (state_of m1) ≡ o) → calls p n name vs xs (state_of m) ≡ then_do o back
  entry zero o le go = absurd (omega (arith, some))
  entry (suc n) o le go =
      ap (λ q. enter q (run p n) vs xs (state_of m)) is
      ∙ ap (λ q. spend q (state_of m) (λ t. then_do (run p n frame.sites (block_of f.body) (entered (callable (procedure_of f) frame) vs t)) back)) some
      ∙ ap (λ t. then_do (run p n frame.sites (block_of f.body) t) back) (sym begins)
      ∙ ap (λ q. then_do q back) (go n (omega (arith, some)))

  pub entry_ends : (end : SourceEnd) → Follows p frame.sites (block_of f.body) m1 (End end) m2 → FollowsEntry p name vs xs m (End end) m2
  entry_ends end k = λ n le. entry n (Stops m2.trace.items end) le (λ j lj. k j (omega (arith, fuel)))

  pub entry_goes : {E : Type 0} (r : Result Flow E) (m3 m4 : Machine) (caller : List Entry) → Follows p frame.sites (block_of f.body) m1 On m2 → variables_of caller ≡ variables_of m.variables.items → state_of m3 ≡ record (state_of m2) { stack = m.stack } → IfOk r (λ flow. FollowsReturn f.results xs caller m3 flow m4) → IfOk r (λ flow. FollowsEntry p name vs xs m flow m4)
  entry_goes (Err e) m3 m4 caller k own same l = tt
  entry_goes (Ok flow) m3 m4 caller k own same l = λ n le.
      entry n (Goes (state_of m2)) le (λ j lj. k j (omega (arith, fuel)))
      ∙ same_value (values_in (state_of m2) (map Variable f.results)) (state_of m2) (record (state_of m2) { stack = m.stack }) _ (λ rs. Goes (record (state_of m2) { variables = set_all xs rs (variables_of caller); stack = m.stack })) refl (λ rs. ap (λ v. Goes (record (state_of m2) { variables = set_all xs rs v; stack = m.stack })) (sym own))
      ∙ ap (λ (s : State). with_value (values_in s (map Variable f.results)) s (λ rs. Goes (record s { variables = set_all xs rs (variables_of caller) }))) (sym same)
      ∙ sym l

-- what a command says, by what it is
pub arm : {E : Type 0} (r : Result Flow E) (p : List Callable) (os : List ℕ) (m m' : Machine) (a b : Command) → a ≡ b → IfOk r (λ flow. Follows p os b m flow m') → IfOk r (λ flow. Follows p os a m flow m')
arm r p os m m' a b e h = subst (λ (q : Command). IfOk r (λ flow. Follows p os q m flow m')) (sym e) h
