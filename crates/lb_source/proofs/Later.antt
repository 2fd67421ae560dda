-- More fuel lengthens a spent run and changes no other.
use Rattle.std.proofs.Common.{◌≡◌, ℕ, zero, suc, ◌+◌, ◌-◌, List, [], ◌∷◌, Option, Some, None, Result, Ok, Err, refl, sym, ap, ◌∙◌, subst, drop, length, arith}
use Rattle.std.specs.Prelude.{map, codes}
use Rattle.lb_syntax.specs.Names.{Text}
use Rattle.lb_syntax.specs.Tree.{Term, Variable, Procedure}
use Rattle.lb_syntax.specs.Tree.{Command, Skips, Sets, Unsets, Stores, Allocates, Chooses, Repeats, Calls, Interacts, Ends, Then}
use Rattle.lb_syntax.specs.Needs.{sites}
use Rattle.lb_syntax.specs.declared.layout.Layout.{Layout}
use Rattle.lb_syntax.specs.declared.tree.Action.{Action}
use Rattle.lb_syntax.specs.declared.tree.Action.TheVariants.{Read, Write}
use Rattle.lb_trace.specs.Prefix.{IsPrefix}
use Rattle.lb_trace.proofs.PrefixLemmas.{IsPrefix-refl, IsPrefix-trans}
use Rattle.lb_trace.specs.declared.Event.{Event}
use Rattle.lb_source.specs.declared.ends.Reason.{Reason}
use Rattle.lb_source.specs.declared.ends.SourceRun.{SourceRun}
use Rattle.lb_source.specs.declared.ends.SourceEnd.TheVariants.{Spent, Starved, Undefined}
use Rattle.lb_source.specs.Value.{byte_count}
use Rattle.lb_source.specs.Run.{State, Outcome, Goes, Stops, then_do, with_value, at_zero, spend, ask, unless, value_in, values_in, set, block_at, allocated, released, address_fault, access, store, turns, Caller, run_with, Callable, callee, entered, returned, enter, calls, run}
use Rattle.lb_source.specs.Source.{callables, start, call_of, to_end, for_ever, whole, src}
use Rattle.lb_source.specs.Laws.{GoesOn, MoreFuelGoesOn}
use Rattle.lb_source.proofs.Onward.{trace_of, Onward, then_onward, value_onward, spend_onward, turns_onward, CallsOnward, run_with_onward, enter_onward, calls_onward, run_onward}

abbrev with_more : State → State
with_more s = record s { fuel = suc s.fuel }

-- with one fuel more: what goes on goes on with it, what was spent has a longer trace, another end stays
abbrev Later : Outcome → Outcome → Type 0
Later (Goes s) o = o ≡ Goes (with_more s)
Later (Stops trace Spent) o = IsPrefix trace (trace_of o)
Later (Stops trace Starved) o = o ≡ Stops trace Starved
Later (Stops trace (Undefined e)) o = o ≡ Stops trace (Undefined e)

then_prefix : (t : List Event) (o : Outcome) (go : State → Outcome) → IsPrefix t (trace_of o) → ((s : State) → Onward s.trace s.fuel (go s)) → IsPrefix t (trace_of (then_do o go))
then_prefix t (Goes s) go h k = IsPrefix-trans h (k s).prefix
then_prefix t (Stops u e) go h k = h

then_later : (o p : Outcome) (f g : State → Outcome) → Later o p → ((s : State) → Later (f s) (g (with_more s))) → ((s : State) → Onward s.trace s.fuel (g s)) → Later (then_do o f) (then_do p g)
then_later (Goes s) p f g h k m = subst (λ q. Later (f s) (then_do q g)) (sym h) (k s)
then_later (Stops t Spent) p f g h k m = then_prefix t p g h m
then_later (Stops t Starved) p f g h k m = ap (λ q. then_do q g) h
then_later (Stops t (Undefined e)) p f g h k m = ap (λ q. then_do q g) h

value_later : {A : Type 0} (r : Result A Reason) (s : State) (f g : A → Outcome) → ((v : A) → Later (f v) (g v)) → Later (with_value r s f) (with_value r (with_more s) g)
value_later (Ok v) s f g h = h v
value_later (Err e) s f g h = refl

zero_later : (v : ℕ) (a b c d : Outcome) → Later a c → Later b d → Later (at_zero v a b) (at_zero v c d)
zero_later zero a b c d h k = h
zero_later (suc v) a b c d h k = k

spend_later : (n : ℕ) (s : State) (f g : State → Outcome) → ((t : State) → Later (f t) (g (with_more t))) → ((t : State) → Onward t.trace t.fuel (g t)) → Later (spend n s f) (spend (suc n) (with_more s) g)
spend_later zero s f g h m = (m (record s { fuel = 0 })).prefix
spend_later (suc n) s f g h m = h (record s { fuel = n })

unless_later : (o : Option Reason) (s : State) (a b : Outcome) → Later a b → Later (unless o s a) (unless o (with_more s) b)
unless_later None s a b h = h
unless_later (Some e) s a b h = refl

ask_later : (rs : List ℕ) (a : ℕ) (x : Text) (s : State) → Later (ask rs a s (λ v t. Goes (set x v t))) (ask rs a (with_more s) (λ v t. Goes (set x v t)))
ask_later [] a x s = refl
ask_later (r ∷ rs) a x s = refl

access_later : (k : Action) (xs : List Text) (vs : List ℕ) (s : State) → Later (access k xs vs s) (access k xs vs (with_more s))
access_later Read [] vs s = refl
access_later Read (x ∷ []) [] s = refl
access_later Read (x ∷ []) (a ∷ []) s = unless_later (address_fault a) s _ _ (ask_later s.replies a x s)
access_later Read (x ∷ []) (a ∷ v ∷ vs) s = refl
access_later Read (x ∷ y ∷ xs) vs s = refl
access_later Write [] [] s = refl
access_later Write [] (a ∷ []) s = refl
access_later Write [] (a ∷ v ∷ []) s = unless_later (address_fault a) s _ _ refl
access_later Write [] (a ∷ v ∷ w ∷ vs) s = refl
access_later Write (x ∷ xs) vs s = refl

turn_onward : (n : ℕ) (e : Term) (g : State → Outcome) → ((u : State) → Onward u.trace u.fuel (g u)) → (t : State) → Onward t.trace t.fuel (then_do (g t) (turns n e g))
turn_onward n e g m t = then_onward t.trace t.fuel (g t) (turns n e g) (m t) (λ w. turns_onward n e g w m)

turns_later : (n : ℕ) (e : Term) (f g : State → Outcome) (s : State) → ((u : State) → Later (f u) (g (with_more u))) → ((u : State) → Onward u.trace u.fuel (g u)) → Later (turns n e f s) (turns (suc n) e g (with_more s))
turns_later zero e f g s h m =
    value_later (value_in s e) s _ _ (λ v. zero_later v _ _ _ _ refl (spend_onward (suc s.fuel) (with_more s) (λ t. then_do (g t) (turns 0 e g)) (turn_onward 0 e g m)).prefix)
turns_later (suc n) e f g s h m =
    value_later (value_in s e) s _ _ (λ v. zero_later v _ _ _ _ refl (spend_later s.fuel s (λ t. then_do (f t) (turns n e f)) (λ t. then_do (g t) (turns (suc n) e g)) (λ t. then_later (f t) (g (with_more t)) (turns n e f) (turns (suc n) e g) (h t) (λ u. turns_later n e f g u h m) (λ u. turns_onward (suc n) e g u m)) (turn_onward (suc n) e g m)))

module _ (call more : Caller) (calls : (f : Text) (vs : List ℕ) (xs : List Text) (s : State) → Later (call f vs xs s) (more f vs xs (with_more s))) (onward : CallsOnward more) (n : ℕ) where
  run_with_later : (os : List ℕ) (c : Command) (s : State) → Later (run_with call n os c s) (run_with more (suc n) os c (with_more s))
  run_with_later os Skips s = refl
  run_with_later os (Sets x e) s = value_later (value_in s e) s _ _ (λ v. refl)
  run_with_later os (Unsets x) s = refl
  run_with_later os (Stores w a e) s = value_later (value_in s a) s _ _ (λ p. value_later (value_in s e) s _ _ (λ v. value_later (store (byte_count w) p v s.memory) s _ _ (λ m. refl)))
  run_with_later os (Allocates k x b) s =
      let base = block_at s.stack os in
      then_later (run_with call n (drop 1 os) b (allocated base k x s)) (run_with more (suc n) (drop 1 os) b (with_more (allocated base k x s))) (released base k) (released base k) (run_with_later (drop 1 os) b (allocated base k x s)) (λ u. refl) (λ u. record { prefix = IsPrefix-refl u.trace; falls = omega arith })
  run_with_later os (Chooses e b d) s =
      value_later (value_in s e) s _ _ (λ v. zero_later v _ _ _ _ (run_with_later (drop (length (sites b)) os) d s) (run_with_later os b s))
  run_with_later os (Repeats e b) s = turns_later n e (run_with call n os b) (run_with more (suc n) os b) s (run_with_later os b) (run_with_onward more onward (suc n) os b)
  run_with_later os (Calls xs f es) s = value_later (values_in s es) s _ _ (λ vs. calls f vs xs s)
  run_with_later os (Interacts xs k es) s = value_later (values_in s es) s _ _ (λ vs. access_later k xs vs s)
  run_with_later os Ends s = refl
  run_with_later os (Then a b) s =
      then_later (run_with call n os a s) (run_with more (suc n) os a (with_more s)) (run_with call n (drop (length (sites a)) os) b) (run_with more (suc n) (drop (length (sites a)) os) b) (run_with_later os a s) (run_with_later (drop (length (sites a)) os) b) (run_with_onward more onward (suc n) (drop (length (sites a)) os) b)

module _ (body more : List ℕ → Command → State → Outcome) (h : (os : List ℕ) (c : Command) (s : State) → Later (body os c s) (more os c (with_more s))) (m : (os : List ℕ) (c : Command) (s : State) → Onward s.trace s.fuel (more os c s)) where
  enter_later : (o : Option Callable) (vs : List ℕ) (xs : List Text) (s : State) → Later (enter o body vs xs s) (enter o more vs xs (with_more s))
  enter_later None vs xs s = IsPrefix-refl s.trace
  enter_later (Some g) vs xs s =
      let back = λ (u : State). with_value (values_in u (map Variable g.results)) u (λ rs. Goes (returned xs rs s u)) in
      let on : (u : State) → Onward u.trace u.fuel (back u) = λ u. value_onward (values_in u (map Variable g.results)) u _ (λ rs. record { prefix = IsPrefix-refl u.trace; falls = omega arith }) in
      spend_later s.fuel s (λ t. then_do (body g.offsets g.body (entered g vs t)) back) (λ t. then_do (more g.offsets g.body (entered g vs t)) back)
      (λ t. then_later (body g.offsets g.body (entered g vs t)) (more g.offsets g.body (with_more (entered g vs t))) back back (h g.offsets g.body (entered g vs t)) (λ u. value_later (values_in u (map Variable g.results)) u _ _ (λ rs. refl)) on)
      (λ t. let a = m g.offsets g.body (entered g vs t) in then_onward t.trace t.fuel (more g.offsets g.body (entered g vs t)) back (record { prefix = a.prefix; falls = a.falls }) on)

calls_later : (p : List Callable) (n : ℕ) (f : Text) (vs : List ℕ) (xs : List Text) (s : State) → Later (calls p n f vs xs s) (calls p (suc n) f vs xs (with_more s))
calls_later p zero f vs xs s = (enter_onward (run p zero) (run_onward p zero) (callee p f) vs xs (with_more s)).prefix
calls_later p (suc n) f vs xs s = enter_later (run p n) (run p (suc n)) (run_with_later (calls p n) (calls p (suc n)) (calls_later p n) (calls_onward p (suc n)) n) (run_onward p (suc n)) (callee p f) vs xs s

run_later : (p : List Callable) (n : ℕ) (os : List ℕ) (c : Command) (s : State) → Later (run p n os c s) (run p (suc n) os c (with_more s))
run_later p n = run_with_later (calls p n) (calls p (suc n)) (calls_later p n) (calls_onward p (suc n)) n

call_later : (p : List Callable) (n : ℕ) (f : Text) (s : State) → Later (call_of p n f s) (call_of p (suc n) f (with_more s))
call_later p n f s = enter_later (run p n) (run p (suc n)) (run_later p n) (run_onward p (suc n)) (callee p f) [] [] s

end_prefix : (t : List Event) (o : Outcome) (go : State → SourceRun) → IsPrefix t (trace_of o) → ((s : State) → IsPrefix s.trace (go s).trace) → IsPrefix t (to_end o go).trace
end_prefix t (Goes s) go h k = IsPrefix-trans h (k s)
end_prefix t (Stops u e) go h k = h

pub ever_prefix : (n : ℕ) (g : State → Outcome) (s : State) → ((u : State) → IsPrefix u.trace (trace_of (g u))) → IsPrefix s.trace (for_ever n g s).trace
ever_prefix zero g s h = IsPrefix-refl s.trace
ever_prefix (suc n) g s h = end_prefix s.trace (g s) (for_ever n g) (h s) (λ u. ever_prefix n g u h)

goes_refl : (r : SourceRun) → GoesOn r r
goes_refl r = record { prefix = IsPrefix-refl r.trace; stays = λ h. refl }

end_later : (o p : Outcome) (f g : State → SourceRun) → Later o p → ((s : State) → GoesOn (f s) (g (with_more s))) → ((s : State) → IsPrefix s.trace (g s).trace) → GoesOn (to_end o f) (to_end p g)
end_later (Goes s) p f g h k m = subst (λ q. GoesOn (f s) (to_end q g)) (sym h) (k s)
end_later (Stops t Spent) p f g h k m = record { prefix = end_prefix t p g h m; stays = λ no. absurd (no refl) }
end_later (Stops t Starved) p f g h k m = subst (λ q. GoesOn (record { trace = t; end = Starved }) (to_end q g)) (sym h) (goes_refl _)
end_later (Stops t (Undefined e)) p f g h k m = subst (λ q. GoesOn (record { trace = t; end = Undefined e }) (to_end q g)) (sym h) (goes_refl _)

ever_later : (n : ℕ) (f g : State → Outcome) (s : State) → ((u : State) → Later (f u) (g (with_more u))) → ((u : State) → IsPrefix u.trace (trace_of (g u))) → GoesOn (for_ever n f s) (for_ever (suc n) g (with_more s))
ever_later zero f g s h m = record { prefix = ever_prefix 1 g (with_more s) m; stays = λ no. absurd (no refl) }
ever_later (suc n) f g s h m = end_later (f s) (g (with_more s)) (for_ever n f) (for_ever (suc n) g) (h s) (λ u. ever_later n f g u h m) (λ u. ever_prefix (suc n) g u m)

whole_later : (p : List Callable) (n : ℕ) (s : State) → GoesOn (whole p n s) (whole p (suc n) (with_more s))
whole_later p n s =
    let on : (u : State) → IsPrefix u.trace (trace_of (call_of p (suc n) (codes "loop") u)) = λ u. (enter_onward (run p (suc n)) (run_onward p (suc n)) (callee p (codes "loop")) [] [] u).prefix in
    end_later (call_of p n (codes "init") s) (call_of p (suc n) (codes "init") (with_more s)) (for_ever n (call_of p n (codes "loop"))) (for_ever (suc n) (call_of p (suc n) (codes "loop"))) (call_later p n (codes "init") s)
    (λ u. ever_later n (call_of p n (codes "loop")) (call_of p (suc n) (codes "loop")) u (call_later p n (codes "loop")) on) (λ u. ever_prefix (suc n) (call_of p (suc n) (codes "loop")) u on)

goes_trans : (a b c : SourceRun) → GoesOn a b → GoesOn b c → GoesOn a c
goes_trans a b c h k = record {
  prefix = IsPrefix-trans h.prefix k.prefix;
  stays = λ no. let e = h.stays no in k.stays (λ spent. no (sym (ap (λ (r : SourceRun). r.end) e) ∙ spent)) ∙ e;
}

some_more : (p : List Procedure) (layout : Layout) (rs : List ℕ) (f d g : ℕ) → f + d ≡ g → GoesOn (src p layout f rs) (src p layout g rs)
some_more p layout rs f zero g e = let same : f ≡ g = omega arith in subst (λ q. GoesOn (src p layout f rs) (src p layout q rs)) same (goes_refl _)
some_more p layout rs f (suc d) zero e = absurd (omega arith)
some_more p layout rs f (suc d) (suc g) e =
    goes_trans _ _ _ (some_more p layout rs f d g (omega arith)) (whole_later (callables p layout.frames) g (start g rs))

pub more_fuel_goes_on : MoreFuelGoesOn
more_fuel_goes_on p layout fuel more rs le = some_more p layout rs fuel (more - fuel) more (omega arith)
