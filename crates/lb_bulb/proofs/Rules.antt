-- Rules for the runs of commands.
use Rattle.std.proofs.Common.{◌≡◌, ℕ, zero, suc, List, [], ◌∷◌, ◌++◌, Option, Some, None, Result, Ok, refl, sym, ap, ◌∙◌, subst, append_assoc}
use Rattle.lb_syntax.specs.Names.{Text}
use Rattle.lb_syntax.specs.Tree.{Term, Variable}
use Rattle.lb_syntax.specs.WellFormed.{IsWord}
use Rattle.lb_syntax.specs.declared.tree.Action.TheVariants.{Read}
use Rattle.lb_trace.specs.declared.Event.{Event}
use Rattle.lb_trace.specs.declared.Event.TheVariants.{Ld}
use Rattle.lb_source.specs.declared.ends.Reason.{Reason}
use Rattle.lb_source.specs.declared.ends.SourceEnd.TheVariants.{Spent}
use Rattle.lb_source.specs.Value.{or_unset}
use Rattle.lb_source.specs.Run.{State, Outcome, Goes, Stops, then_do, with_value, at_zero, spend, ask, unless, access, address_fault, value_in, turns, set, set_all}
use Rattle.lb_bulb.proofs.Does.{AreWords, Does, goes, stops, Returns, returns, breaks}

-- what a state and a list can be, and what a list that stops can be
abbrev pub Whole : Type 1
Whole = State → List Event → Type 0

abbrev pub Part : Type 1
Part = List Event → Type 0

-- ---- the trace grows

pub longer : {s : List Event} → (t l m : List Event) → s ≡ t ++ l → s ++ m ≡ t ++ (l ++ m)
longer t l m e = ap (λ (q : List Event). q ++ m) e ∙ append_assoc t l m

-- ---- a run within a larger one

pub weaker : (t : List Event) (w v : Whole) (p q : Part) (o : Outcome) → ((s : State) (l : List Event) → w s l → v s l) → ((l : List Event) → p l → q l) → Does t w p o → Does t v q o
weaker t w v p q (Goes s) f g (goes l e ws h) = goes l e ws (f s l h)
weaker t w v p q (Stops u end) f g (stops l e h d) = stops l e (g l h) d

-- from a later trace
pub rebase : (t u base : List Event) (w v : Whole) (p q : Part) (o : Outcome) → u ≡ t ++ base → ((s : State) (m : List Event) → w s m → v s (base ++ m)) → ((m : List Event) → p m → q (base ++ m)) → Does u w p o → Does t v q o
rebase t u base w v p q (Goes s) z f g (goes l e ws h) = goes (base ++ l) (e ∙ longer t base l z) ws (f s l h)
rebase t u base w v p q (Stops x end) z f g (stops l e h d) = stops (base ++ l) (e ∙ longer t base l z) (g l h) d

-- one run, and then another
pub then_does : (t : List Event) (w1 w : Whole) (p : Part) (o : Outcome) (go : State → Outcome)
    → ((u : State) (l : List Event) → u.trace ≡ t ++ l → AreWords u.replies → w1 u l → Does t w p (go u)) → Does t w1 p o → Does t w p (then_do o go)
then_does t w1 w p (Goes u) go k (goes l e ws i) = k u l e ws i
then_does t w1 w p (Stops u end) go k (stops l e i d) = stops l e i d

-- one run that begins here, and then another
pub part_does : (t u base : List Event) (w1 w : Whole) (p1 p : Part) (o : Outcome) (go : State → Outcome) → u ≡ t ++ base → ((m : List Event) → p1 m → p (base ++ m))
    → ((x : State) (m : List Event) → x.trace ≡ t ++ (base ++ m) → AreWords x.replies → w1 x m → Does t w p (go x)) → Does u w1 p1 o → Does t w p (then_do o go)
part_does t u base w1 w p1 p (Goes x) go z g k (goes l e ws i) = k x l (e ∙ longer t base l z) ws i
part_does t u base w1 w p1 p (Stops x end) go z g k (stops l e i d) = stops (base ++ l) (e ∙ longer t base l z) (g l i) d

-- the end of a block
pub end_does : (t : List Event) (w : Whole) (p : Part) (o : Outcome) → Does t w p o → Does t w p (then_do o (λ u. Goes u))
end_does t w p (Goes u) (goes l e ws i) = goes l e ws i
end_does t w p (Stops u end) (stops l e i d) = stops l e i d

-- ---- single commands

pub value_does : {A : Type 0} → (r : Result A Reason) (v : A) (s : State) (t : List Event) (w : Whole) (p : Part) (go : A → Outcome) → r ≡ Ok v → Does t w p (go v) → Does t w p (with_value r s go)
value_does {A} r v s t w p go e h = subst (λ (q : Result A Reason). Does t w p (with_value q s go)) (sym e) h

-- the same before the rest of a block
pub value_then : {A : Type 0} → (r : Result A Reason) (v : A) (s : State) (t : List Event) (w : Whole) (p : Part) (go : A → Outcome) (rest : State → Outcome) → r ≡ Ok v → Does t w p (then_do (go v) rest) → Does t w p (then_do (with_value r s go) rest)
value_then {A} r v s t w p go rest e h = subst (λ (q : Result A Reason). Does t w p (then_do (with_value q s go) rest)) (sym e) h

pub zero_does : (v : ℕ) (t : List Event) (w : Whole) (p : Part) (a b : Outcome) → (v ≡ 0 → Does t w p a) → ((k : ℕ) → v ≡ suc k → Does t w p b) → Does t w p (at_zero v a b)
zero_does zero t w p a b h k = h refl
zero_does (suc v) t w p a b h k = k v refl

pub zero_then : (v : ℕ) (t : List Event) (w : Whole) (p : Part) (a b : Outcome) (rest : State → Outcome) → (v ≡ 0 → Does t w p (then_do a rest)) → ((k : ℕ) → v ≡ suc k → Does t w p (then_do b rest)) → Does t w p (then_do (at_zero v a b) rest)
zero_then zero t w p a b rest h k = h refl
zero_then (suc v) t w p a b rest h k = k v refl

pub spend_does : (f : ℕ) (s : State) (t l : List Event) (w : Whole) (p : Part) (go : State → Outcome) → s.trace ≡ t ++ l → p l → ((g : ℕ) → Does t w p (go (record s { fuel = g }))) → Does t w p (spend f s go)
spend_does zero s t l w p go e h k = stops l e h tt
spend_does (suc f) s t l w p go e h k = k f

ask_then : (rs : List ℕ) (x : Text) (a : ℕ) (s : State) (t l : List Event) (w : Whole) (p : Part) (rest : State → Outcome) → s.trace ≡ t ++ l → AreWords rs → p l
    → ((v : ℕ) (qs : List ℕ) → IsWord v → AreWords qs → Does t w p (rest (set x v (record s { replies = qs; trace = s.trace ++ Ld a v ∷ [] }))))
    → Does t w p (then_do (ask rs a s (λ v u. Goes (set x v u))) rest)
ask_then [] x a s t l w p rest e ws h k = stops l e h tt
ask_then (v ∷ vs) x a s t l w p rest e ws h k = k v vs ws.0 ws.1

-- a device's register is read
pub read_then : (x : Text) (a : ℕ) (s : State) (t l : List Event) (w : Whole) (p : Part) (rest : State → Outcome) → address_fault a ≡ None → s.trace ≡ t ++ l → AreWords s.replies → p l
    → ((v : ℕ) (qs : List ℕ) → IsWord v → AreWords qs → Does t w p (rest (set x v (record s { replies = qs; trace = s.trace ++ Ld a v ∷ [] }))))
    → Does t w p (then_do (access Read (x ∷ []) (a ∷ []) s) rest)
read_then x a s t l w p rest f e ws h k =
    subst (λ (o : Option Reason). Does t w p (then_do (unless o s (ask s.replies a s (λ v u. Goes (set x v u)))) rest)) (sym f) (ask_then s.replies x a s t l w p rest e ws h k)

-- a call, and then the rest
pub call_then : (s : State) (xs : List Text) (w1 : List ℕ → List Event → Type 0) (p1 : Part) (o : Outcome) (rest : State → Outcome) (t l : List Event) (w : Whole) (p : Part) → s.trace ≡ t ++ l
    → ((m : List Event) → p1 m → p (l ++ m))
    → ((vs : List ℕ) (m : List Event) (qs : List ℕ) (f : ℕ) → AreWords qs → w1 vs m → s.trace ++ m ≡ t ++ (l ++ m) → Does t w p (rest (record s { variables = set_all xs vs s.variables; replies = qs; trace = s.trace ++ m; fuel = f })))
    → Returns s xs w1 p1 o → Does t w p (then_do o rest)
call_then s xs w1 p1 _ rest t l w p e g k (returns vs m qs f ws i) = k vs m qs f ws i (longer t l m e)
call_then s xs w1 p1 _ rest t l w p e g k (breaks m z i d) = stops (l ++ m) (z ∙ longer t l m e) (g m i) d

-- ---- loops

-- `inv` holds of a state and of what was added so far, whenever the condition is tested
module _ (t : List Event) (e : Term) (body : State → Outcome) (inv w : Whole) (p : Part)
    (test : (u : State) (l : List Event) → inv u l → ℕ)
    (tests : (u : State) (l : List Event) (i : inv u l) → value_in u e ≡ Ok (test u l i))
    (spent : (u : State) (l : List Event) (i : inv u l) (k : ℕ) → test u l i ≡ suc k → p l)
    (done : (u : State) (l : List Event) (i : inv u l) → test u l i ≡ 0 → w u l)
    (turn : (u : State) (l : List Event) (i : inv u l) (g k : ℕ) → u.trace ≡ t ++ l → AreWords u.replies → test u l i ≡ suc k → Does t inv p (body (record u { fuel = g }))) where
  pub loop_does : (n : ℕ) (u : State) (l : List Event) → u.trace ≡ t ++ l → AreWords u.replies → inv u l → Does t w p (turns n e body u)
  loop_does zero u l q ws i =
      value_does (value_in u e) (test u l i) u t w p (λ v. at_zero v (Goes u) (Stops u.trace Spent)) (tests u l i)
      (zero_does (test u l i) t w p (Goes u) (Stops u.trace Spent) (λ z. goes l q ws (done u l i z)) (λ k z. stops l q (spent u l i k z) tt))
  loop_does (suc n) u l q ws i =
      value_does (value_in u e) (test u l i) u t w p (λ v. at_zero v (Goes u) (spend u.fuel u (λ x. then_do (body x) (turns n e body)))) (tests u l i)
      (zero_does (test u l i) t w p (Goes u) (spend u.fuel u (λ x. then_do (body x) (turns n e body))) (λ z. goes l q ws (done u l i z))
      (λ k z. spend_does u.fuel u t l w p (λ x. then_do (body x) (turns n e body)) q (spent u l i k z)
      (λ g. then_does t inv w p (body (record u { fuel = g })) (turns n e body) (λ x m y ys j. loop_does n x m y ys j) (turn u l i g k q ws z))))

-- a loop that doesn't turn
pub loop_ends : (n : ℕ) (e : Term) (body : State → Outcome) (u : State) → value_in u e ≡ Ok 0 → turns n e body u ≡ Goes u
loop_ends zero e body u h = ap (λ (r : Result ℕ Reason). with_value r u (λ v. at_zero v (Goes u) (Stops u.trace Spent))) h
loop_ends (suc n) e body u h = ap (λ (r : Result ℕ Reason). with_value r u (λ v. at_zero v (Goes u) (spend u.fuel u (λ x. then_do (body x) (turns n e body))))) h

-- a loop that turns for ever: nothing is added, until the fuel is spent
spends : (f : ℕ) (u : State) (go : State → Outcome) → ((g : ℕ) → go (record u { fuel = g }) ≡ Stops u.trace Spent) → spend f u go ≡ Stops u.trace Spent
spends zero u go h = refl
spends (suc f) u go h = h f

pub stands : (n : ℕ) (x : Text) (u : State) (k : ℕ) → u.variables x ≡ Some (suc k) → turns n (Variable x) (λ s. Goes s) u ≡ Stops u.trace Spent
stands zero x u k h = ap (λ (o : Option ℕ). with_value (or_unset o) u (λ v. at_zero v (Goes u) (Stops u.trace Spent))) h
stands (suc n) x u k h =
    ap (λ (o : Option ℕ). with_value (or_unset o) u (λ v. at_zero v (Goes u) (spend u.fuel u (λ s. turns n (Variable x) (λ s. Goes s) s)))) h
    ∙ spends u.fuel u (λ s. turns n (Variable x) (λ s. Goes s) s) (λ g. stands n x (record u { fuel = g }) k h)
