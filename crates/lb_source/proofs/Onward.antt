-- A run only adds to its trace and only spends fuel.
use Rattle.std.proofs.Common.{◌≡◌, ℕ, zero, suc, ◌-◌, ◌≤◌, List, [], ◌∷◌, Option, Some, None, Result, Ok, Err, drop, length, arith}
use Rattle.std.specs.Prelude.{map}
use Rattle.lb_syntax.specs.Names.{Text}
use Rattle.lb_syntax.specs.Tree.{Term, Variable}
use Rattle.lb_syntax.specs.Tree.{Command, Skips, Sets, Unsets, Stores, Allocates, Chooses, Repeats, Calls, Interacts, Ends, Then}
use Rattle.lb_syntax.specs.Needs.{sites}
use Rattle.lb_syntax.specs.declared.tree.Action.{Action}
use Rattle.lb_syntax.specs.declared.tree.Action.TheVariants.{Read, Write}
use Rattle.lb_trace.specs.Prefix.{IsPrefix}
use Rattle.lb_trace.proofs.PrefixLemmas.{IsPrefix-refl, IsPrefix-trans, IsPrefix-append}
use Rattle.lb_trace.specs.declared.Event.{Event}
use Rattle.lb_trace.specs.declared.Event.TheVariants.{Ld, St}
use Rattle.lb_source.specs.declared.ends.Reason.{Reason}
use Rattle.lb_source.specs.Value.{byte_count}
use Rattle.lb_source.specs.Run.{State, Outcome, Goes, Stops, then_do, with_value, at_zero, spend, ask, unless, value_in, values_in, set, block_at, allocated, released, address_fault, access, store, turns, Caller, run_with, Callable, callee, entered, returned, enter, calls, run}

-- the trace so far, or at the end
abbrev pub trace_of : Outcome → List Event
trace_of (Goes s) = s.trace
trace_of (Stops trace end) = trace

-- the fuel that is left
abbrev pub fuel_of : Outcome → ℕ
fuel_of (Goes s) = s.fuel
fuel_of (Stops trace end) = 0

-- from this trace and this fuel
pub record Onward (trace : List Event) (fuel : ℕ) (o : Outcome) : Type 0 where
  pub prefix : IsPrefix trace (trace_of o)
  pub falls : fuel_of o ≤ fuel

pub goes_onward : (s : State) → Onward s.trace s.fuel (Goes s)
goes_onward s = record { prefix = IsPrefix-refl s.trace; falls = omega arith }

pub stops_onward : (t : List Event) (f : ℕ) (e : Rattle.lb_source.specs.declared.ends.SourceEnd.SourceEnd) → Onward t f (Stops t e)
stops_onward t f e = record { prefix = IsPrefix-refl t; falls = omega arith }

pub then_onward : (t : List Event) (f : ℕ) (o : Outcome) (go : State → Outcome) → Onward t f o → ((s : State) → Onward s.trace s.fuel (go s)) → Onward t f (then_do o go)
then_onward t f (Goes s) go h k = record { prefix = IsPrefix-trans h.prefix (k s).prefix; falls = let a = (k s).falls in let b = h.falls in omega (arith, a, b) }
then_onward t f (Stops u e) go h k = h

pub value_onward : {A : Type 0} (r : Result A Reason) (s : State) (go : A → Outcome) → ((v : A) → Onward s.trace s.fuel (go v)) → Onward s.trace s.fuel (with_value r s go)
value_onward (Ok v) s go h = h v
value_onward (Err e) s go h = stops_onward s.trace s.fuel _

pub zero_onward : (t : List Event) (f v : ℕ) (a b : Outcome) → Onward t f a → Onward t f b → Onward t f (at_zero v a b)
zero_onward t f zero a b h k = h
zero_onward t f (suc v) a b h k = k

less : (t : List Event) (f : ℕ) (o : Outcome) → Onward t f o → Onward t (suc f) o
less t f o h = record { prefix = h.prefix; falls = let a = h.falls in omega (arith, a) }

pub spend_onward : (f : ℕ) (s : State) (go : State → Outcome) → ((u : State) → Onward u.trace u.fuel (go u)) → Onward s.trace f (spend f s go)
spend_onward zero s go h = stops_onward s.trace 0 _
spend_onward (suc f) s go h = less s.trace f _ (h (record s { fuel = f }))

unless_onward : (o : Option Reason) (s : State) (go : Outcome) → Onward s.trace s.fuel go → Onward s.trace s.fuel (unless o s go)
unless_onward None s go h = h
unless_onward (Some e) s go h = stops_onward s.trace s.fuel _

read_onward : (rs : List ℕ) (a : ℕ) (x : Text) (s : State) → Onward s.trace s.fuel (ask rs a s (λ v t. Goes (set x v t)))
read_onward [] a x s = stops_onward s.trace s.fuel _
read_onward (r ∷ rs) a x s = record { prefix = IsPrefix-append s.trace (Ld a r ∷ []); falls = omega arith }

access_onward : (k : Action) (xs : List Text) (vs : List ℕ) (s : State) → Onward s.trace s.fuel (access k xs vs s)
access_onward Read [] vs s = goes_onward s
access_onward Read (x ∷ []) [] s = goes_onward s
access_onward Read (x ∷ []) (a ∷ []) s = unless_onward (address_fault a) s _ (read_onward s.replies a x s)
access_onward Read (x ∷ []) (a ∷ v ∷ vs) s = goes_onward s
access_onward Read (x ∷ y ∷ xs) vs s = goes_onward s
access_onward Write [] [] s = goes_onward s
access_onward Write [] (a ∷ []) s = goes_onward s
access_onward Write [] (a ∷ v ∷ []) s = unless_onward (address_fault a) s _ (record { prefix = IsPrefix-append s.trace (St a v ∷ []); falls = omega arith })
access_onward Write [] (a ∷ v ∷ w ∷ vs) s = goes_onward s
access_onward Write (x ∷ xs) vs s = goes_onward s

pub turns_onward : (n : ℕ) (e : Term) (body : State → Outcome) (s : State) → ((u : State) → Onward u.trace u.fuel (body u)) → Onward s.trace s.fuel (turns n e body s)
turns_onward zero e body s h = value_onward (value_in s e) s _ (λ v. zero_onward s.trace s.fuel v _ _ (goes_onward s) (stops_onward s.trace s.fuel _))
turns_onward (suc n) e body s h =
    value_onward (value_in s e) s _ (λ v. zero_onward s.trace s.fuel v _ _ (goes_onward s) (spend_onward s.fuel s _ (λ u. then_onward u.trace u.fuel (body u) _ (h u) (λ w. turns_onward n e body w h))))

abbrev pub CallsOnward : Caller → Type 0
CallsOnward call = (f : Text) (vs : List ℕ) (xs : List Text) (s : State) → Onward s.trace s.fuel (call f vs xs s)

module _ (call : Caller) (calls : CallsOnward call) (n : ℕ) where
  pub run_with_onward : (os : List ℕ) (c : Command) (s : State) → Onward s.trace s.fuel (run_with call n os c s)
  run_with_onward os Skips s = goes_onward s
  run_with_onward os (Sets x e) s = value_onward (value_in s e) s _ (λ v. goes_onward (set x v s))
  run_with_onward os (Unsets x) s = record { prefix = IsPrefix-refl s.trace; falls = omega arith }
  run_with_onward os (Stores w a e) s = value_onward (value_in s a) s _ (λ p. value_onward (value_in s e) s _ (λ v. value_onward (store (byte_count w) p v s.memory) s _ (λ m. record { prefix = IsPrefix-refl s.trace; falls = omega arith })))
  run_with_onward os (Allocates k x b) s =
      let base = block_at s.stack os in
      then_onward s.trace s.fuel (run_with call n (drop 1 os) b (allocated base k x s)) (released base k) (run_with_onward (drop 1 os) b (allocated base k x s)) (λ u. record { prefix = IsPrefix-refl u.trace; falls = omega arith })
  run_with_onward os (Chooses e b d) s = value_onward (value_in s e) s _ (λ v. zero_onward s.trace s.fuel v _ _ (run_with_onward (drop (length (sites b)) os) d s) (run_with_onward os b s))
  run_with_onward os (Repeats e b) s = turns_onward n e _ s (run_with_onward os b)
  run_with_onward os (Calls xs f es) s = value_onward (values_in s es) s _ (λ vs. calls f vs xs s)
  run_with_onward os (Interacts xs k es) s = value_onward (values_in s es) s _ (λ vs. access_onward k xs vs s)
  run_with_onward os Ends s = goes_onward s
  run_with_onward os (Then a b) s = then_onward s.trace s.fuel (run_with call n os a s) (run_with call n (drop (length (sites a)) os) b) (run_with_onward os a s) (run_with_onward (drop (length (sites a)) os) b)

-- a call spends one fuel
module _ (body : List ℕ → Command → State → Outcome) (onward : (os : List ℕ) (c : Command) (s : State) → Onward s.trace s.fuel (body os c s)) where
  inside : (g : Callable) (vs : List ℕ) (xs : List Text) (s t : State) → Onward t.trace t.fuel (then_do (body g.offsets g.body (entered g vs t)) (λ u. with_value (values_in u (map Variable g.results)) u (λ rs. Goes (returned xs rs s u))))
  inside g vs xs s t = then_onward t.trace t.fuel (body g.offsets g.body (entered g vs t)) _ (onward g.offsets g.body (entered g vs t)) (λ u. value_onward (values_in u (map Variable g.results)) u _ (λ rs. record { prefix = IsPrefix-refl u.trace; falls = omega arith }))

  spends : (f : ℕ) (s : State) (go : State → Outcome) → ((u : State) → Onward u.trace u.fuel (go u)) → Onward s.trace (f - 1) (spend f s go)
  spends zero s go h = stops_onward s.trace _ _
  spends (suc f) s go h = let same : f ≡ suc f - 1 = omega arith in let a = h (record s { fuel = f }) in record { prefix = a.prefix; falls = let le = a.falls in omega (arith, le) }

  pub enter_spends : (o : Option Callable) (vs : List ℕ) (xs : List Text) (s : State) → Onward s.trace (s.fuel - 1) (enter o body vs xs s)
  enter_spends None vs xs s = stops_onward s.trace _ _
  enter_spends (Some g) vs xs s = spends s.fuel s _ (inside g vs xs s)

  pub enter_onward : (o : Option Callable) (vs : List ℕ) (xs : List Text) (s : State) → Onward s.trace s.fuel (enter o body vs xs s)
  enter_onward o vs xs s = let a = enter_spends o vs xs s in record { prefix = a.prefix; falls = let le = a.falls in omega (arith, le) }

pub calls_onward : (p : List Callable) (n : ℕ) → CallsOnward (calls p n)
calls_onward p zero f vs xs s = stops_onward s.trace s.fuel _
calls_onward p (suc n) f vs xs s = enter_onward (run p n) (run_with_onward (calls p n) (calls_onward p n) n) (callee p f) vs xs s

pub run_onward : (p : List Callable) (n : ℕ) (os : List ℕ) (c : Command) (s : State) → Onward s.trace s.fuel (run p n os c s)
run_onward p n = run_with_onward (calls p n) (calls_onward p n) n
