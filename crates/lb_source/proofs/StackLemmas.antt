-- The stack pointer of a program that keeps the rules stays above the floor.
use Rattle.std.proofs.Common.{◌≡◌, ℕ, zero, suc, ◌+◌, ◌-◌, ◌≤◌, Bool, true, false, if◌then◌else◌, List, [], ◌∷◌, ◌++◌, Option, Some, None, Result, Ok, Err, map, length, drop, codes, refl, sym, ap, ◌∙◌, subst, arith, le-leb, Contains}
use Rattle.std.specs.Str.{bytes_eq}
use Rattle.std.proofs.lemmas.List.Elements.{Contains-append_left, Contains-append_right}
use Rattle.std.proofs.lemmas.List.Sums.{sum_by-cons}
use Rattle.lb_memory.specs.declared.TheConstants.{STACK_TOP}
use Rattle.lb_syntax.specs.Names.{Text}
use Rattle.lb_syntax.proofs.DistinctLemmas.{bytes_eq-same}
use Rattle.lb_syntax.specs.Tree.{Procedure, Term, Variable}
use Rattle.lb_syntax.specs.Tree.{Command, Skips, Sets, Unsets, Stores, Allocates, Chooses, Repeats, Calls, Interacts, Ends, Then}
use Rattle.lb_syntax.specs.Needs.{sites, frame_need}
use Rattle.lb_syntax.specs.Calls.{CallSite, call_sites, callees, IsCallPath, path_need}
use Rattle.lb_syntax.specs.Rules.{KeepsRules}
use Rattle.lb_syntax.specs.Layouts.{AreFramesOf}
use Rattle.lb_syntax.specs.declared.layout.FrameLayout.{FrameLayout}
use Rattle.lb_syntax.specs.declared.tree.Action.{Action}
use Rattle.lb_syntax.specs.declared.tree.Action.TheVariants.{Read, Write}
use Rattle.lb_source.specs.declared.ends.Reason.{Reason}
use Rattle.lb_source.specs.declared.ends.SourceRun.{SourceRun}
use Rattle.lb_source.specs.Maps.{Memory}
use Rattle.lb_source.specs.Value.{byte_count}
use Rattle.lb_source.specs.Run.{State, Outcome, Goes, Stops, then_do, with_value, at_zero, spend, ask, unless, value_in, values_in, block_at, allocated, released, address_fault, access, store, turns, returned, Caller, run_with, Callable, callee, entered, enter, calls, run}
use Rattle.lb_source.specs.Source.{callable, callables, start, call_of, to_end, for_ever}
use Rattle.lb_source.proofs.OutcomeLemmas.{value_same, zero_same, spend_same}
use Rattle.lb_source.specs.Stack.{enter_above, calls_above, call_of_above, stack_floor, StackStaysAbove}

-- ---- what a part of a program leaves of the stack pointer

-- where it goes on, the stack pointer is k
abbrev StaysAt : ℕ → Outcome → Type 0
StaysAt k (Goes s) = s.stack ≡ k
StaysAt k (Stops t e) = Unit {0}

value_stays : {A : Type 0} (k : ℕ) (r : Result A Reason) (s : State) (go : A → Outcome) → ((v : A) → StaysAt k (go v)) → StaysAt k (with_value r s go)
value_stays k (Ok v) s go h = h v
value_stays k (Err e) s go h = tt

zero_stays : (k v : ℕ) (a b : Outcome) → StaysAt k a → StaysAt k b → StaysAt k (at_zero v a b)
zero_stays k zero a b h l = h
zero_stays k (suc v) a b h l = l

then_stays : (k : ℕ) (o : Outcome) (go : State → Outcome) → StaysAt k o → ((u : State) → u.stack ≡ k → StaysAt k (go u)) → StaysAt k (then_do o go)
then_stays k (Goes s) go h l = l s h
then_stays k (Stops t e) go h l = tt

spend_stays : (k n : ℕ) (s : State) (go : State → Outcome) → ((f : ℕ) → StaysAt k (go (record s { fuel = f }))) → StaysAt k (spend n s go)
spend_stays k zero s go h = tt
spend_stays k (suc n) s go h = h n

unless_stays : (k : ℕ) (r : Option Reason) (s : State) (o : Outcome) → StaysAt k o → StaysAt k (unless r s o)
unless_stays k None s o h = h
unless_stays k (Some r) s o h = tt

ask_stays : (k : ℕ) (rs : List ℕ) (a : ℕ) (s : State) (go : ℕ → State → Outcome) → s.stack ≡ k → ((v : ℕ) (u : State) → u.stack ≡ k → StaysAt k (go v u)) → StaysAt k (ask rs a s go)
ask_stays k [] a s go e h = tt
ask_stays k (v ∷ vs) a s go e h = h v _ e

access_stays : (k : Action) (xs : List Text) (vs : List ℕ) (s : State) → StaysAt s.stack (access k xs vs s)
access_stays Read (x ∷ []) (a ∷ []) s = unless_stays s.stack (address_fault a) s _ (ask_stays s.stack s.replies a s _ refl (λ v u e. e))
access_stays Write [] (a ∷ v ∷ []) s = unless_stays s.stack (address_fault a) s _ refl
access_stays k xs vs s = refl

turns_stays : (k n : ℕ) (e : Term) (body : State → Outcome) (s : State) → s.stack ≡ k → ((u : State) → u.stack ≡ k → StaysAt k (body u)) → StaysAt k (turns n e body s)
turns_stays k zero e body s here h = value_stays k (value_in s e) s _ (λ v. zero_stays k v _ _ here tt)
turns_stays k (suc n) e body s here h =
    value_stays k (value_in s e) s _ (λ v. zero_stays k v _ _ here (spend_stays k s.fuel s _ (λ f. then_stays k _ _ (h (record s { fuel = f }) here) (λ u at. turns_stays k n e body u at h))))

-- a call leaves it
abbrev CallsStay : Caller → Type 0
CallsStay call = (f : Text) (vs : List ℕ) (xs : List Text) (s : State) → StaysAt s.stack (call f vs xs s)

module _ (call : Caller) (stays : CallsStay call) (n : ℕ) where
  run_stays : (k : ℕ) (os : List ℕ) (c : Command) (s : State) → s.stack ≡ k → StaysAt k (run_with call n os c s)
  run_stays k os Skips s here = here
  run_stays k os (Sets x e) s here = value_stays k (value_in s e) s _ (λ v. here)
  run_stays k os (Unsets x) s here = here
  run_stays k os (Stores w a e) s here = value_stays k (value_in s a) s _ (λ p. value_stays k (value_in s e) s _ (λ v.
      value_stays {A = Memory} k (store (byte_count w) p v s.memory) s (λ memory. Goes (record s { memory = memory })) (λ m. here)))
  run_stays k os (Allocates j x b) s here =
      then_stays k _ (released (block_at s.stack os) j) (run_stays k (drop 1 os) b (allocated (block_at s.stack os) j x s) here) (λ u at. at)
  run_stays k os (Chooses e b d) s here = value_stays k (value_in s e) s _ (λ v. zero_stays k v _ _ (run_stays k (drop (length (sites b)) os) d s here) (run_stays k os b s here))
  run_stays k os (Repeats e b) s here = turns_stays k n e (run_with call n os b) s here (λ u at. run_stays k os b u at)
  run_stays k os (Calls xs f es) s here = value_stays k (values_in s es) s _ (λ vs. subst (λ j. StaysAt j (call f vs xs s)) here (stays f vs xs s))
  run_stays k os (Interacts xs j es) s here = value_stays k (values_in s es) s _ (λ vs. subst (λ i. StaysAt i (access j xs vs s)) here (access_stays j xs vs s))
  run_stays k os Ends s here = here
  run_stays k os (Then a b) s here = then_stays k _ _ (run_stays k os a s here) (λ u at. run_stays k (drop (length (sites a)) os) b u at)

return_stays : (g : Callable) (xs : List Text) (s : State) (o : Outcome)
    → StaysAt s.stack (then_do o (λ u. with_value (values_in u (map Variable g.results)) u (λ rs. Goes (returned xs rs s u))))
return_stays g xs s (Goes u) = value_stays s.stack (values_in u (map Variable g.results)) u (λ rs. Goes (returned xs rs s u)) (λ rs. refl)
return_stays g xs s (Stops t e) = tt

enter_stays : (o : Option Callable) (body : List ℕ → Command → State → Outcome) (vs : List ℕ) (xs : List Text) (s : State) → StaysAt s.stack (enter o body vs xs s)
enter_stays None body vs xs s = tt
enter_stays (Some g) body vs xs s = spend_stays s.stack s.fuel s _ (λ f. return_stays g xs s (body g.offsets g.body (entered g vs (record s { fuel = f }))))

calls_stay : (p : List Callable) (n : ℕ) → CallsStay (calls p n)
calls_stay p zero f vs xs s = tt
calls_stay p (suc n) f vs xs s = enter_stays (callee p f) (run p n) vs xs s

-- ---- the same run where the calls are the same

-- what holds of the functions that a command calls
abbrev Within : (Text → Type 0) → Command → Type 0
Within P (Allocates n x b) = Within P b
Within P (Chooses e b d) = Within P b × Within P d
Within P (Repeats e b) = Within P b
Within P (Calls xs f es) = P f
Within P (Then c b) = Within P c × Within P b
Within P _ = Unit {0}

-- the names that a command calls
abbrev names : Command → List Text
names c = map (λ (site : CallSite). site.function) (call_sites c)

map_both : (xs ys : List CallSite) → map (λ (site : CallSite). site.function) (xs ++ ys) ≡ map (λ (site : CallSite). site.function) xs ++ map (λ (site : CallSite). site.function) ys
map_both [] ys = refl
map_both (x ∷ xs) ys = ap (λ ns. x.function ∷ ns) (map_both xs ys)

left_of : (c b : Command) (x : Text) → Contains (names c) x → Contains (map (λ (site : CallSite). site.function) (call_sites c ++ call_sites b)) x
left_of c b x h = subst (λ ns. Contains ns x) (sym (map_both (call_sites c) (call_sites b))) (Contains-append_left (names c) (names b) x h)

right_of : (c b : Command) (x : Text) → Contains (names b) x → Contains (map (λ (site : CallSite). site.function) (call_sites c ++ call_sites b)) x
right_of c b x h = subst (λ ns. Contains ns x) (sym (map_both (call_sites c) (call_sites b))) (Contains-append_right (names c) (names b) x h)

within : (P : Text → Type 0) (c : Command) → ((x : Text) → Contains (names c) x → P x) → Within P c
within P (Allocates n x b) h = within P b h
within P (Chooses e b d) h = (within P b (λ x m. h x (left_of b d x m)), within P d (λ x m. h x (right_of b d x m)))
within P (Repeats e b) h = within P b h
within P (Calls xs f es) h = h f (0, omega arith, refl)
within P (Then c b) h = (within P c (λ x m. h x (left_of c b x m)), within P b (λ x m. h x (right_of c b x m)))
within P _ h = tt

then_both : (k : ℕ) (o : Outcome) (f g : State → Outcome) → StaysAt k o → ((u : State) → u.stack ≡ k → f u ≡ g u) → then_do o f ≡ then_do o g
then_both k (Goes s) f g at h = h s at
then_both k (Stops t e) f g at h = refl

then_same : (k : ℕ) (o p : Outcome) (f g : State → Outcome) → o ≡ p → StaysAt k p → ((u : State) → u.stack ≡ k → f u ≡ g u) → then_do o f ≡ then_do p g
then_same k o p f g e at h = ap (λ q. then_do q f) e ∙ then_both k p f g at h

turns_same : (k n : ℕ) (e : Term) (f g : State → Outcome) (s : State) → s.stack ≡ k → ((u : State) → u.stack ≡ k → f u ≡ g u) → ((u : State) → u.stack ≡ k → StaysAt k (g u)) → turns n e f s ≡ turns n e g s
turns_same k zero e f g s here h stays = refl
turns_same k (suc n) e f g s here h stays =
    value_same (value_in s e) s _ _ (λ v. zero_same v _ _ _ _ refl (spend_same s.fuel s _ _ (λ q eq.
    let t = record s { fuel = q } in
    then_same k (f t) (g t) (turns n e f) (turns n e g) (h t here) (stays t here) (λ u at. turns_same k n e f g u at h stays))))

module _ (call more : Caller) (P : Text → Type 0) (k : ℕ) (same : (f : Text) (vs : List ℕ) (xs : List Text) (s : State) → P f → s.stack ≡ k → call f vs xs s ≡ more f vs xs s) (stays : CallsStay more) (n : ℕ) where
  run_same : (os : List ℕ) (c : Command) (s : State) → Within P c → s.stack ≡ k → run_with call n os c s ≡ run_with more n os c s
  run_same os Skips s w here = refl
  run_same os (Sets x e) s w here = refl
  run_same os (Unsets x) s w here = refl
  run_same os (Stores j a e) s w here = refl
  run_same os (Allocates j x b) s w here =
      ap (λ o. then_do o (released (block_at s.stack os) j)) (run_same (drop 1 os) b (allocated (block_at s.stack os) j x s) w here)
  run_same os (Chooses e b d) s w here = value_same (value_in s e) s _ _ (λ v. zero_same v _ _ _ _ (run_same (drop (length (sites b)) os) d s w.1 here) (run_same os b s w.0 here))
  run_same os (Repeats e b) s w here = turns_same k n e (run_with call n os b) (run_with more n os b) s here (λ u at. run_same os b u w at) (λ u at. run_stays more stays n k os b u at)
  run_same os (Calls xs f es) s w here = value_same (values_in s es) s _ _ (λ vs. same f vs xs s w here)
  run_same os (Interacts xs j es) s w here = refl
  run_same os Ends s w here = refl
  run_same os (Then a b) s w here =
      then_same k (run_with call n os a s) (run_with more n os a s) (run_with call n (drop (length (sites a)) os) b) (run_with more n (drop (length (sites a)) os) b)
      (run_same os a s w.0 here) (run_stays more stays n k os a s here) (λ u at. run_same (drop (length (sites a)) os) b u w.1 at)

-- ---- paths of calls

-- a function of the program behind a callable that was found
record IsOf (p : List Procedure) (x : Text) (g : Callable) : Type 0 where
  procedure : Procedure
  member : Contains p procedure
  named : procedure.name ≡ x
  body : g.body ≡ procedure.body
  frame : g.frame ≤ frame_need procedure

abbrev FoundOf : List Procedure → Text → Option Callable → Type 0
FoundOf p x None = Unit {0}
FoundOf p x (Some g) = IsOf p x g

there : (p : List Procedure) (f h : Procedure) → Contains p h → Contains (f ∷ p) h
there p f h m = (suc m.0, omega (arith, m.1), m.2)

found_there : (f : Procedure) (fs : List Procedure) (x : Text) (o : Option Callable) → FoundOf fs x o → FoundOf (f ∷ fs) x o
found_there f fs x None h = tt
found_there f fs x (Some g) h = record { procedure = h.procedure; member = there fs f h.procedure h.member; named = h.named; body = h.body; frame = h.frame }

found_step : (b : Bool) (f : Procedure) (fs : List Procedure) (frame : FrameLayout) (x : Text) (o : Option Callable) → bytes_eq f.name x ≡ b → frame.size ≤ frame_need f → FoundOf fs x o
    → FoundOf (f ∷ fs) x (if b then Some (callable f frame) else o)
found_step true f fs frame x o e small h = record { procedure = f; member = (0, omega arith, refl); named = bytes_eq-same f.name x e; body = refl; frame = small }
found_step false f fs frame x o e small h = found_there f fs x o h

-- the callable that is found is of a function of the program
found : (fs : List Procedure) (frames : List FrameLayout) (x : Text) → AreFramesOf frames fs → FoundOf fs x (callee (callables fs frames) x)
found [] frames x fit = tt
found (f ∷ fs) [] x fit = absurd fit
found (f ∷ fs) (frame ∷ frames) x fit =
    found_step (bytes_eq f.name x) f fs frame x (callee (callables fs frames) x) refl fit.0.small (found fs frames x fit.1)

-- a path, and a function that its last one calls
extend : (p path : List Procedure) (f h : Procedure) → IsCallPath p (path ++ f ∷ []) → Contains (callees f) h.name → Contains p h → IsCallPath p ((path ++ f ∷ []) ++ h ∷ [])
extend p [] f h is called m = (is, called, m)
extend p (a ∷ []) f h is called m = (is.0, is.1, extend p [] f h is.2 called m)
extend p (a ∷ b ∷ path) f h is called m = (is.0, is.1, extend p (b ∷ path) f h is.2 called m)

need_snoc : (path : List Procedure) (h : Procedure) → path_need (path ++ h ∷ []) ≡ path_need path + frame_need h
need_snoc [] h = omega arith
need_snoc (f ∷ path) h =
    omega (arith, need_snoc path h, sum_by-cons (λ n. n) (frame_need f) (map frame_need (path ++ h ∷ [])), sum_by-cons (λ n. n) (frame_need f) (map frame_need path))

-- ---- the run

module _ (p : List Procedure) (rules : KeepsRules p) (ps : List Callable) (finds : (x : Text) → FoundOf p x (callee ps x)) (below : State → Outcome) where
  -- behind a path of calls that have room, a further one has room, and does the same
  enter_agrees : (call more : Caller) (n : ℕ) (path : List Procedure) (x : Text) → CallsStay more
      → ((h : Procedure) → Contains p h → h.name ≡ x → IsCallPath p (path ++ h ∷ []))
      → ((h : Procedure) → IsCallPath p (path ++ h ∷ []) → (y : Text) (vs : List ℕ) (xs : List Text) (s : State) → Contains (callees h) y → STACK_TOP ≤ s.stack + path_need (path ++ h ∷ []) → call y vs xs s ≡ more y vs xs s)
      → (o : Option Callable) → FoundOf p x o → (vs : List ℕ) (xs : List Text) (s : State) → STACK_TOP ≤ s.stack + path_need path
      → enter_above stack_floor below o (run_with call n) vs xs s ≡ enter o (run_with more n) vs xs s
  enter_agrees call more n path x stays ends agree None o vs xs s room = refl
  enter_agrees call more n path x stays ends agree (Some g) o vs xs s room =
      let h = o.procedure in
      let is = ends h o.member o.named in
      let need = rules.stack (path ++ h ∷ []) is in
      let more_need = need_snoc path h in
      let small = o.frame in
      let fits : stack_floor + g.frame ≤ s.stack = omega (arith, room, need, more_need, small) in
      let calls_them : (y : Text) → Type 0 = λ y. Contains (callees h) y in
      ap (λ b. if b then enter (Some g) (run_with call n) vs xs s else below s) (le-leb (stack_floor + g.frame) s.stack fits)
      ∙ spend_same s.fuel s _ _ (λ q eq.
      ap (λ r. then_do r (λ u. with_value (values_in u (map Variable g.results)) u (λ rs. Goes (returned xs rs s u))))
      (run_same call more calls_them (s.stack - g.frame) (λ y ws ys u m at. agree h is y ws ys u m (omega (arith, at, room, more_need, small, fits))) stays n g.offsets g.body (entered g vs (record s { fuel = q }))
      (subst (Within calls_them) (sym o.body) (within calls_them h.body (λ y m. m))) refl))

  calls_agree : (n : ℕ) (path : List Procedure) (f : Procedure) → IsCallPath p (path ++ f ∷ []) → (x : Text) (vs : List ℕ) (xs : List Text) (s : State) → Contains (callees f) x
      → STACK_TOP ≤ s.stack + path_need (path ++ f ∷ []) → calls_above stack_floor below ps n x vs xs s ≡ calls ps n x vs xs s
  calls_agree zero path f is x vs xs s m room = refl
  calls_agree (suc n) path f is x vs xs s m room =
      enter_agrees (calls_above stack_floor below ps n) (calls ps n) n (path ++ f ∷ []) x (calls_stay ps n)
      (λ h mh e. extend p path f h is (subst (Contains (callees f)) (sym e) m) mh) (calls_agree n (path ++ f ∷ [])) (callee ps x) (finds x) vs xs s room

  call_agrees : (n : ℕ) (x : Text) (s : State) → s.stack ≡ STACK_TOP → call_of_above stack_floor below ps n x s ≡ call_of ps n x s
  call_agrees n x s at =
      enter_agrees (calls_above stack_floor below ps n) (calls ps n) n [] x (calls_stay ps n) (λ h m e. m) (calls_agree n []) (callee ps x) (finds x) [] [] s (omega (arith, at))

call_stays : (ps : List Callable) (n : ℕ) (x : Text) (s : State) → s.stack ≡ STACK_TOP → StaysAt STACK_TOP (call_of ps n x s)
call_stays ps n x s at = subst (λ k. StaysAt k (call_of ps n x s)) at (enter_stays (callee ps x) (run ps n) [] [] s)

end_both : (k : ℕ) (o : Outcome) (f g : State → SourceRun) → StaysAt k o → ((u : State) → u.stack ≡ k → f u ≡ g u) → to_end o f ≡ to_end o g
end_both k (Goes s) f g at h = h s at
end_both k (Stops t e) f g at h = refl

ever_same : (i : ℕ) (f g : State → Outcome) (s : State) → s.stack ≡ STACK_TOP → ((u : State) → u.stack ≡ STACK_TOP → f u ≡ g u) → ((u : State) → u.stack ≡ STACK_TOP → StaysAt STACK_TOP (g u)) → for_ever i f s ≡ for_ever i g s
ever_same zero f g s at h stays = refl
ever_same (suc i) f g s at h stays =
    ap (λ o. to_end o (for_ever i f)) (h s at) ∙ end_both STACK_TOP (g s) (for_ever i f) (for_ever i g) (stays s at) (λ u here. ever_same i f g u here h stays)

pub stack_stays_above : StackStaysAbove
stack_stays_above p layout fuel replies below rules valid =
    let ps = callables p layout.frames in
    let s = start fuel replies in
    let agrees = call_agrees p rules ps (λ x. found p layout.frames x valid) below fuel in
    ap (λ o. to_end o (for_ever fuel (call_of_above stack_floor below ps fuel (codes "loop")))) (agrees (codes "init") s refl)
    ∙ end_both STACK_TOP (call_of ps fuel (codes "init") s) (for_ever fuel (call_of_above stack_floor below ps fuel (codes "loop"))) (for_ever fuel (call_of ps fuel (codes "loop"))) (call_stays ps fuel (codes "init") s refl)
    (λ u at. ever_same fuel (call_of_above stack_floor below ps fuel (codes "loop")) (call_of ps fuel (codes "loop")) u at (agrees (codes "loop")) (call_stays ps fuel (codes "loop")))
