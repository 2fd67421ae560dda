-- The outcomes of placed code, as what a part of any program comes to, and the simulation of each way in which placed code goes on.
use Rattle.std.proofs.Common.{◌≡◌, ℕ, zero, suc, ◌+◌, ◌*◌, ◌≤◌, List, [], ◌∷◌, Option, Some, None, Result, Ok, Err, refl, sym, ap, subst, arith}
use Rattle.lb_trace.specs.declared.Event.{Event}
use Rattle.lb_steps.proofs.Behavior.{Behavior}
use Rattle.lb_steps.proofs.Behavior as behavior
use Rattle.lb_steps.proofs.MoveLemmas.{Moves-then, LeadsTo}
use Rattle.lb_steps.proofs.Simulation.{Tests, Comes, undefined}
use Rattle.lb_steps.proofs.Simulation as simulation
use Rattle.lb_source.specs.declared.ends.SourceEnd.{SourceEnd}
use Rattle.lb_source.specs.declared.ends.SourceEnd.TheVariants.{Spent, Starved, Undefined}
use Rattle.lb_source.specs.declared.ends.SourceRun.{SourceRun}
use Rattle.lb_source.specs.declared.ends.Reason.{Reason}
use Rattle.lb_source.specs.Value.{or_unset, before}
use Rattle.lb_source.proofs.ImplementLemmas.{ended, ended-then, Finishes}
use Rattle.lb_flat.specs.Cells.{Cells}
use Rattle.lb_flat.specs.Run.{World, Outcome, Goes, Stops, then_do, with_value, at_zero, spend, unless, turns}
use Rattle.lb_flat.specs.Whole.{to_end, for_ever}

-- ---- outcomes

-- an outcome, with what is at hand
abbrev pub view : {V : Type 0} → Outcome V → Behavior (V × World) Event
view (Goes v w) = behavior.Goes (v, w)
view (Stops shown end) = ended shown end

-- a run
abbrev pub view_run : {S : Type 0} → SourceRun → Behavior S Event
view_run r = ended r.trace r.end

abbrev pub fuel_of : {V : Type 0} → V × World → ℕ
fuel_of s = s.1.fuel

abbrev pub shown_by : {V : Type 0} → V × World → List Event
shown_by s = s.1.trace

-- ---- each way to go on is the general one

then-same : {V : Type 0} (o : Outcome V) (go : V → World → Outcome V) (next : V × World → Behavior (V × World) Event)
    → ((v : V) (w : World) → view (go v w) ≡ next (v, w)) → view (then_do o go) ≡ behavior.then_do (view o) next
then-same (Goes v w) go next same = same v w
then-same (Stops shown end) go next same = ended-then shown end next

end-same : {V : Type 0} (o : Outcome V) (go : World → SourceRun) (next : V × World → Behavior (V × World) Event)
    → ((v : V) (w : World) → view_run (go w) ≡ next (v, w)) → view_run (to_end o go) ≡ behavior.then_do (view o) next
end-same (Goes v w) go next same = same v w
end-same (Stops shown end) go next same = ended-then shown end next

zero-same : {V : Type 0} (v : ℕ) (a b : Outcome V) → view (at_zero v a b) ≡ behavior.at_zero v (view a) (view b)
zero-same zero a b = refl
zero-same (suc v) a b = refl

spend-same : {V : Type 0} (f : ℕ) (w : World) (go : World → Outcome V) → view (spend f w go) ≡ behavior.spend f w.trace (λ g. view (go (record w { fuel = g })))
spend-same zero w go = refl
spend-same (suc f) w go = refl

-- the test of a loop that makes no more turns
last-same : (r : Result ℕ Reason) (c : Cells) (w : World) → view (with_value r w (λ v. at_zero v (Goes c w) (Stops w.trace Spent)))
    ≡ behavior.with_value r (λ v. behavior.at_zero v (behavior.Goes (c, w)) (behavior.Spent w.trace))
last-same (Ok zero) c w = refl
last-same (Ok (suc v)) c w = refl
last-same (Err reason) c w = refl

-- and of one that goes on
turn-same : (r : Result ℕ Reason) (f : ℕ) (c : Cells) (w : World) (go : World → Outcome Cells) (next : ℕ → Behavior (Cells × World) Event)
    → ((g : ℕ) → view (go (record w { fuel = g })) ≡ next g)
    → view (with_value r w (λ v. at_zero v (Goes c w) (spend f w go)))
    ≡ behavior.with_value r (λ v. behavior.at_zero v (behavior.Goes (c, w)) (behavior.spend f w.trace next))
turn-same (Ok zero) f c w go next same = refl
turn-same (Ok (suc v)) zero c w go next same = refl
turn-same (Ok (suc v)) (suc f) c w go next same = same f
turn-same (Err reason) f c w go next same = refl

turns-same : (k : ℕ) (test : Cells → Option ℕ) (head body : Cells → World → Outcome Cells) (s : Cells × World) → view (turns k test head body s.0 s.1)
    ≡ behavior.turns fuel_of shown_by (λ t. view (head t.0 t.1)) (λ t. or_unset (test t.0)) (λ t f. view (body t.0 (record t.1 { fuel = f }))) k s
turns-same zero test head body s = then-same (head s.0 s.1) _ _ (λ c w. last-same (or_unset (test c)) c w)
turns-same (suc k) test head body s =
    then-same (head s.0 s.1) _ _ (λ c w. turn-same (or_unset (test c)) w.fuel c w (λ t. then_do (body c t) (turns k test head body)) _
    (λ f. then-same (body c (record w { fuel = f })) (turns k test head body) _ (λ d u. turns-same k test head body (d, u))))

-- fuel that is to be spent, and then the rest of the run
begun-same : {V : Type 0} (f : ℕ) (w : World) (go : World → Outcome V) (rest : World → SourceRun) (next : V × World → Behavior (V × World) Event)
    → ((v : V) (t : World) → view_run (rest t) ≡ next (v, t))
    → view_run (to_end (spend f w go) rest) ≡ behavior.spend f w.trace (λ g. behavior.then_do (view (go (record w { fuel = g }))) next)
begun-same zero w go rest next same = refl
begun-same (suc f) w go rest next same = end-same (go (record w { fuel = f })) rest next same

ever-same : {V : Type 0} (turn : World → World → Outcome V) (k : ℕ) (s : V × World) → view_run (for_ever k (λ t. spend t.fuel t (turn t)) s.1)
    ≡ behavior.for_ever fuel_of shown_by (λ t f. view (turn t.1 (record t.1 { fuel = f }))) k s
ever-same turn zero s = refl
ever-same turn (suc k) s = begun-same s.1.fuel s.1 (turn s.1) (for_ever k (λ t. spend t.fuel t (turn t))) _ (λ v w. ever-same turn k (v, w))

-- ---- the simulation

module _ {C : Type 0} (move : C → Option C) (trace : C → List Event) (Waits : C → Type 0) (need : ℕ) where
  -- from c the machine comes to what placed code comes to with this much fuel, and T holds where that goes on
  abbrev pub FlatComes : {V : Type 0} → (V × World → C → Type 0) → ℕ → C → ℕ → Outcome V → Type 0
  FlatComes T len c fuel o = Comes move trace Waits need fuel_of T len c fuel (view o)

  -- it comes to what a whole run comes to
  abbrev pub RunComes : Type 0 → ℕ → C → ℕ → SourceRun → Type 0
  RunComes V = Finishes {S = V × World} move trace Waits need fuel_of

module _ {C : Type 0} {move : C → Option C} {trace : C → List Event} {Waits : C → Type 0} {need : ℕ} where
  -- from where the machine arrived
  joined : {V U : Type 0} {T : V × World → C → Type 0} {R : U × World → C → Type 0} {la lb len given : ℕ} {c : C} {s : V × World} {o : Behavior (U × World) Event}
      → la + lb ≤ len → (a : Comes move trace Waits need fuel_of T la c given (behavior.Goes s))
      → Comes move trace Waits need fuel_of R lb a.there (fuel_of s) o → Comes move trace Waits need fuel_of R len c given o
  joined le a b = record {
    left = b.left;
    steps = a.steps + b.steps;
    there = b.there;
    goes = Moves-then a.goes b.goes;
    meets = b.meets;
    falls = omega (arith, a.falls, a.meets.1, b.falls);
    least = omega (arith, a.least, a.meets.1, b.least);
    most = omega (arith, a.most, ap (λ n. n * need) a.meets.1, b.most, le);
  }

  -- what has ended stays so, whatever were at hand
  stopped : {V U : Type 0} {T : V × World → C → Type 0} {R : U × World → C → Type 0} {la len given : ℕ} {c : C} (shown : List Event) (end : SourceEnd) → la ≤ len
      → Comes move trace Waits need fuel_of T la c given (ended shown end) → Comes move trace Waits need fuel_of R len c given (ended shown end)
  stopped shown Spent le a = record { left = a.left; steps = a.steps; there = a.there; goes = a.goes; meets = a.meets; falls = a.falls; least = a.least; most = omega (arith, a.most, le) }
  stopped shown Starved le a = record { left = a.left; steps = a.steps; there = a.there; goes = a.goes; meets = a.meets; falls = a.falls; least = a.least; most = omega (arith, a.most, le) }
  stopped shown (Undefined reason) le a = undefined

  -- one after the other
  pub seq_comes : {V U : Type 0} {T : V × World → C → Type 0} {R : U × World → C → Type 0} {la lb len fuel : ℕ} {c : C} (o : Outcome V) (go : V → World → Outcome U) → la + lb ≤ len
      → FlatComes move trace Waits need T la c fuel o
      → ((v : V) (w : World) (d : C) → T (v, w) d → w.fuel ≤ fuel → FlatComes move trace Waits need R lb d w.fuel (go v w))
      → FlatComes move trace Waits need R len c fuel (then_do o go)
  seq_comes (Goes v w) go le a next = joined le a (next v w a.there a.meets.0 (omega (arith, a.falls, a.meets.1)))
  seq_comes (Stops shown end) go le a next = stopped shown end (omega (arith, le)) a

  -- a part, and then what is left of the run
  pub end_comes : {V U : Type 0} {T : V × World → C → Type 0} {la lb len fuel : ℕ} {c : C} (o : Outcome V) (rest : World → SourceRun) → la + lb ≤ len
      → FlatComes move trace Waits need T la c fuel o
      → ((v : V) (w : World) (d : C) → T (v, w) d → w.fuel ≤ fuel → RunComes move trace Waits need U lb d w.fuel (rest w))
      → RunComes move trace Waits need U len c fuel (to_end o rest)
  end_comes (Goes v w) rest le a next = joined le a (next v w a.there a.meets.0 (omega (arith, a.falls, a.meets.1)))
  end_comes (Stops shown end) rest le a next = stopped shown end (omega (arith, le)) a

  -- where a value is needed: one that is undefined owes nothing
  pub value_comes : {A V : Type 0} {T : V × World → C → Type 0} {len fuel : ℕ} {c : C} (r : Result A Reason) (w : World) (go : A → Outcome V)
      → ((v : A) → r ≡ Ok v → FlatComes move trace Waits need T len c fuel (go v)) → FlatComes move trace Waits need T len c fuel (with_value r w go)
  value_comes (Ok v) w go next = next v refl
  value_comes (Err reason) w go next = undefined

  -- a choice: one or the other
  pub branch_comes : {V : Type 0} {T : V × World → C → Type 0} {Zero Other : C → Type 0} {test la lb len fuel : ℕ} {c : C} {shown : List Event} (value : ℕ) (a b : Outcome V)
      → test + 2 + la ≤ len → test + 1 + lb ≤ len → Tests move trace Zero Other test c value shown
      → ((d : C) → Zero d → FlatComes move trace Waits need T la d fuel a) → ((d : C) → Other d → FlatComes move trace Waits need T lb d fuel b)
      → FlatComes move trace Waits need T len c fuel (at_zero value a b)
  branch_comes {T = T} {len = len} {fuel = fuel} {c = c} value a b le le2 t first second =
      subst (Comes move trace Waits need fuel_of T len c fuel) (sym (zero-same value a b)) (simulation.branch_comes value (view a) (view b) le le2 t first second)

  -- a loop: `Top` holds before its head, `Mid` before its test, `In` before its body, `Back` behind it, and `T` where the loop has ended
  module _ (T Top Mid In Back : Cells × World → C → Type 0) (test : Cells → Option ℕ) (head body : Cells → World → Outcome Cells) (bound la lt lb : ℕ) (room : la + lt + lb + 2 ≤ need)
      (leads : (s : Cells × World) (c : C) → Top s c → s.1.fuel ≤ bound → FlatComes move trace Waits need Mid la c s.1.fuel (head s.0 s.1))
      (tests : (s : Cells × World) (c : C) (v : ℕ) → Mid s c → or_unset (test s.0) ≡ Ok v → Tests move trace (T s) (In s) lt c v s.1.trace)
      (turn : (s : Cells × World) (c : C) (f : ℕ) → In s c → s.1.fuel ≡ suc f → f ≤ bound → FlatComes move trace Waits need Back lb c f (body s.0 (record s.1 { fuel = f })))
      (again : (s : Cells × World) (c : C) → Back s c → LeadsTo move (Top s) c) where
    pub loop_comes : (k : ℕ) (s : Cells × World) (c : C) → s.1.fuel ≤ k → s.1.fuel ≤ bound → Top s c
        → FlatComes move trace Waits need T (la + lt + 2) c s.1.fuel (turns k test head body s.0 s.1)
    loop_comes k s c low few here =
        subst (Comes move trace Waits need fuel_of T (la + lt + 2) c s.1.fuel) (sym (turns-same k test head body s))
        (simulation.loop_comes T Top Mid In Back shown_by (λ t. view (head t.0 t.1)) (λ t. or_unset (test t.0)) (λ t f. view (body t.0 (record t.1 { fuel = f }))) bound la lt lb room leads tests turn again k s c low few here)

  -- fuel that is to be spent, by a move
  pub spend_comes : {V : Type 0} {T : V × World → C → Type 0} {la lb : ℕ} {c d : C} (fuel : ℕ) (w : World) (go : World → Outcome V) → trace c ≡ w.trace → move c ≡ Some d → 1 + la ≤ lb + need
      → ((f : ℕ) → fuel ≡ suc f → FlatComes move trace Waits need T la d f (go (record w { fuel = f }))) → FlatComes move trace Waits need T lb c fuel (spend fuel w go)
  spend_comes {T = T} {lb = lb} {c = c} fuel w go shows m le next =
      subst (Comes move trace Waits need fuel_of T lb c fuel) (sym (spend-same fuel w go)) (simulation.spend_comes fuel w.trace (λ f. view (go (record w { fuel = f }))) shows m le next)

  -- again and again, each time by a move that spends one fuel: `Before` holds before that move, and `In` behind it
  module _ {V : Type 0} (Before In : V × World → C → Type 0) (turn : World → World → Outcome V) (bound lb : ℕ) (room : lb + 1 ≤ need)
      (shows : (s : V × World) (c : C) → Before s c → trace c ≡ s.1.trace)
      (begins : (s : V × World) (c : C) → Before s c → LeadsTo move (In s) c)
      (turns : (s : V × World) (c : C) (f : ℕ) → In s c → s.1.fuel ≡ suc f → f ≤ bound → FlatComes move trace Waits need Before lb c f (turn s.1 (record s.1 { fuel = f }))) where
    pub ever_comes : (k : ℕ) (s : V × World) (c : C) → s.1.fuel ≤ k → s.1.fuel ≤ bound → Before s c
        → RunComes move trace Waits need V 0 c s.1.fuel (for_ever k (λ t. spend t.fuel t (turn t)) s.1)
    ever_comes k s c low few here =
        subst (Comes move trace Waits need fuel_of (λ t d. ⊥) 0 c s.1.fuel) (sym (ever-same turn k s))
        (simulation.ever_comes (λ t d. ⊥) Before In shown_by (λ t f. view (turn t.1 (record t.1 { fuel = f }))) bound lb room shows begins turns k s c low few here)

  -- where a value is needed of a list of one
  pub one_value_comes : {V : Type 0} {T : V × World → C → Type 0} {len fuel : ℕ} {c : C} (r : Result ℕ Reason) (w : World) (go : List ℕ → Outcome V)
      → ((v : ℕ) → r ≡ Ok v → FlatComes move trace Waits need T len c fuel (go (v ∷ []))) → FlatComes move trace Waits need T len c fuel (with_value (before r (Ok [])) w go)
  one_value_comes (Ok v) w go next = next v refl
  one_value_comes (Err reason) w go next = undefined

  -- and of a list of two
  pub two_values_comes : {V : Type 0} {T : V × World → C → Type 0} {len fuel : ℕ} {c : C} (q r : Result ℕ Reason) (w : World) (go : List ℕ → Outcome V)
      → ((u v : ℕ) → q ≡ Ok u → r ≡ Ok v → FlatComes move trace Waits need T len c fuel (go (u ∷ v ∷ [])))
      → FlatComes move trace Waits need T len c fuel (with_value (before q (before r (Ok []))) w go)
  two_values_comes (Ok u) (Ok v) w go next = next u v refl refl
  two_values_comes (Ok u) (Err reason) w go next = undefined
  two_values_comes (Err reason) r w go next = undefined

  -- where a value is needed ahead of more
  pub value_then_comes : {A V U : Type 0} {T : U × World → C → Type 0} {len fuel : ℕ} {c : C} (r : Result A Reason) (w : World) (go : A → Outcome V) (rest : V → World → Outcome U)
      → ((v : A) → r ≡ Ok v → FlatComes move trace Waits need T len c fuel (then_do (go v) rest)) → FlatComes move trace Waits need T len c fuel (then_do (with_value r w go) rest)
  value_then_comes (Ok v) w go rest next = next v refl
  value_then_comes (Err reason) w go rest next = undefined

  -- where a fault is undefined, ahead of more
  pub unless_then_comes : {V U : Type 0} {T : U × World → C → Type 0} {len fuel : ℕ} {c : C} (fault : Option Reason) (w : World) (o : Outcome V) (rest : V → World → Outcome U)
      → (fault ≡ None → FlatComes move trace Waits need T len c fuel (then_do o rest)) → FlatComes move trace Waits need T len c fuel (then_do (unless fault w o) rest)
  unless_then_comes None w o rest next = next refl
  unless_then_comes (Some reason) w o rest next = undefined
