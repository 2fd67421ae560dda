-- The calls of the supplied program.
use Rattle.std.proofs.Common.{◌≡◌, ℕ, zero, suc, ◌-◌, map, inl, List, [], ◌∷◌, ◌++◌, Result, refl, sym, subst, append-nil}
use Rattle.lb_syntax.specs.Names.{Text}
use Rattle.lb_syntax.specs.Tree.{Variable}
use Rattle.lb_syntax.specs.declared.layout.FrameLayout.{FrameLayout}
use Rattle.lb_trace.specs.declared.Event.{Event}
use Rattle.lb_source.specs.Maps.{Memory}
use Rattle.lb_source.specs.declared.ends.Reason.{Reason}
use Rattle.lb_source.specs.Source.{callables}
use Rattle.lb_source.specs.Run.{State, Outcome, Goes, Stops, then_do, with_value, spend, values_in, set_all, returned, Callable, calls}
use Rattle.lb_grammar.specs.Forms.{Begins}
use Rattle.lb_grammar.specs.Grammar.{no_rd, no_wr}
use Rattle.lb_bulb.proofs.FormLemmas.{nothing_begins_no_xchg}
use Rattle.lb_bulb.specs.Supplied.{e_, r_, v_, supplied}
use Rattle.lb_bulb.proofs.Does.{AreWords, Does, goes, stops, Returns, returns, breaks, Gives, Exchange, Cut, within, before, XchgOk, Reading, ReadOk, Writing, WriteOk}
use Rattle.lb_bulb.proofs.XchgRuns.{xchg_runs}
use Rattle.lb_bulb.proofs.ReadRuns.{read_runs}
use Rattle.lb_bulb.proofs.WriteRuns.{write_runs}

-- the caller's state again
back : (s : State) (xs : List Text) (whole : List ℕ → List Event → Type 0) (part : List Event → Type 0) (vs : List ℕ) (l : List Event) (m : Memory) (t : List Event) (qs : List ℕ) (f : ℕ)
    → AreWords qs → whole vs l → m ≡ s.memory → t ≡ s.trace ++ l
    → Returns s xs whole part (Goes (record { variables = set_all xs vs s.variables; memory = m; stack = s.stack; replies = qs; trace = t; fuel = f }))
back s xs whole part vs l m t qs f ws h e g =
    subst (λ (n : Memory). Returns s xs whole part (Goes (record { variables = set_all xs vs s.variables; memory = n; stack = s.stack; replies = qs; trace = t; fuel = f }))) (sym e)
    (subst (λ (u : List Event). Returns s xs whole part (Goes (record { variables = set_all xs vs s.variables; memory = s.memory; stack = s.stack; replies = qs; trace = u; fuel = f }))) (sym g)
    (returns vs l qs f ws h))

-- what a body did, seen by its caller
pub comes_back : (s : State) (xs results : List Text) (whole : List ℕ → List Event → Type 0) (part : List Event → Type 0) (o : Outcome) → Does s.trace (Gives results whole s.memory) part o
    → Returns s xs whole part (then_do o (λ u. with_value (values_in u (map Variable results)) u (λ rs. Goes (returned xs rs s u))))
comes_back s xs results whole part (Goes u) (goes l e ws g) =
    subst (λ (r : Result (List ℕ) Reason). Returns s xs whole part (with_value r u (λ rs. Goes (returned xs rs s u)))) (sym g.given)
    (back s xs whole part g.values l u.memory u.trace u.replies u.fuel ws g.is g.memory e)
comes_back s xs results whole part (Stops u end) (stops l e g d) = breaks l e g d

-- a call spends, and then the body runs
pub entering : (s : State) (xs : List Text) (whole : List ℕ → List Event → Type 0) (part : List Event → Type 0) (f : ℕ) (go : State → Outcome) → part []
    → ((k : ℕ) → Returns s xs whole part (go (record s { fuel = k }))) → Returns s xs whole part (spend f s go)
entering s xs whole part zero go h k = breaks [] (sym (append-nil s.trace)) h tt
entering s xs whole part (suc f) go h k = k f

cut_now : (b e : ℕ) → Cut b e []
cut_now b zero = within (nothing_begins_no_xchg b)
cut_now b (suc e) = before refl

pub read_starts : (a : ℕ) → Begins (no_rd a) []
read_starts a = inl (inl refl)

pub write_starts : (a v : ℕ) → Begins (no_wr a v) []
write_starts a v = inl (inl refl)

module _ (f1 f2 f3 f4 f5 : FrameLayout) where
  abbrev pub program : List Callable
  program = callables supplied (f1 ∷ f2 ∷ f3 ∷ f4 ∷ f5 ∷ [])

  pub xchg_ok : (n : ℕ) → XchgOk (calls program n)
  xchg_ok zero b e x s ws = breaks [] (sym (append-nil s.trace)) (cut_now b e) tt
  xchg_ok (suc n) b e x s ws =
      entering s (x ∷ e_ ∷ []) (Exchange b e) (Cut b e) s.fuel _ (cut_now b e) (λ k.
      comes_back s (x ∷ e_ ∷ []) (r_ ∷ e_ ∷ []) (Exchange b e) (Cut b e) _ (xchg_runs (calls program n) n f1.sites b e (record s { stack = s.stack - f1.size; fuel = k }) ws))

  pub read_ok : (n : ℕ) → ReadOk (calls program n)
  read_ok zero a x s ws = breaks [] (sym (append-nil s.trace)) (read_starts a) tt
  read_ok (suc n) a x s ws =
      entering s (x ∷ []) (Reading a) (Begins (no_rd a)) s.fuel _ (read_starts a) (λ k.
      comes_back s (x ∷ []) (v_ ∷ []) (Reading a) (Begins (no_rd a)) _ (read_runs (calls program n) (xchg_ok n) n f2.sites a (record s { stack = s.stack - f2.size; fuel = k }) ws))

  pub write_ok : (n : ℕ) → WriteOk (calls program n)
  write_ok zero a v s h ws = breaks [] (sym (append-nil s.trace)) (write_starts a v) tt
  write_ok (suc n) a v s h ws =
      entering s [] (Writing a v) (Begins (no_wr a v)) s.fuel _ (write_starts a v) (λ k.
      comes_back s [] [] (Writing a v) (Begins (no_wr a v)) _ (write_runs (calls program n) (xchg_ok n) n f3.sites a v (record s { stack = s.stack - f3.size; fuel = k }) h ws))
