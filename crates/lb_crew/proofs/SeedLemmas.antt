-- A seed decides all that worker 0 alone adds.
use Rattle.std.proofs.Common.{◌≡◌, ◌<◌, ◌≤◌, ◌⊎◌, inl, inr, ℕ, zero, suc, true, List, [], ◌∷◌, ◌++◌, length, take, slice_get, All, Option, Some, None, refl, sym, ap, ap₂, ◌∙◌, subst, ⊎_elim, arith}
use Rattle.std.proofs.lemmas.List.{length-append, take_all}
use Rattle.std.proofs.lemmas.List.Elements.{All-head, All-tail}
use Rattle.lb_trace.specs.declared.Entry.{Entry}
use Rattle.lb_trace.specs.declared.Kind.{Kind}
use Rattle.lb_rv.specs.declared.instr.Cause.{Cause}
use Rattle.lb_draws.specs.Draws.{draw}
use Rattle.lb_machine.specs.State.{Job, MachineView}
use Rattle.lb_machine.specs.Logs.{may_fire, replay}
use Rattle.lb_machine.specs.Machines.{IsReplay, MachineContent}
use Rattle.lb_machine.specs.Refusals.{FixedContent, halted_after}
use Rattle.lb_machine.proofs.EnabledLemmas.{enabled_goes}
use Rattle.lb_crew.specs.Drawn.{AreDrawn, HasFewer, IsDone, IsFirstEnabled, kind_behind, kind_of}
use Rattle.lb_crew.specs.Laws.{RunsAlone, SeedDecides}

-- of two numbers neither is below the other
same_number : (m n : ℕ) → (m < n → ⊥) → (n < m → ⊥) → m ≡ n
same_number zero zero a b = refl
same_number zero (suc n) a b = absurd (a (omega arith))
same_number (suc m) zero a b = absurd (b (omega arith))
same_number (suc m) (suc n) a b = ap suc (same_number m n (λ h. a (omega (arith, h))) (λ h. b (omega (arith, h))))

-- ---- the first kind that may be fired

not_before : (job : Job) (log : List Entry) (first k l : Kind) (a : IsFirstEnabled job log first k) (b : IsFirstEnabled job log first l)
    → a.places < b.places → ⊥
not_before job log first k l a b lt =
    let none = b.others a.places lt in
    let fires = subst (λ x. may_fire job log x ≡ true) a.stands a.enabled in
    cc

one_kind : (job : Job) (log : List Entry) (first k l : Kind) → IsFirstEnabled job log first k → IsFirstEnabled job log first l → k ≡ l
one_kind job log first k l a b =
    let places : a.places ≡ b.places = same_number a.places b.places (not_before job log first k l a b) (not_before job log first l k b a) in
    a.stands ∙ ap (kind_behind first) places ∙ sym b.stands

-- ---- what stands at a place

module _ {A : Type 0} where
  at : (l : List A) (n : ℕ) → n < length l → (x : A) × (slice_get l n ≡ Some x)
  at [] n lt = absurd (omega (arith, lt))
  at (x ∷ l) zero lt = (x, refl)
  at (x ∷ l) (suc n) lt = at l n (omega (arith, lt))

  take_one_more : (l : List A) (n : ℕ) (x : A) → slice_get l n ≡ Some x → take (suc n) l ≡ take n l ++ x ∷ []
  take_one_more [] n x e = absurd cc
  take_one_more (y ∷ l) zero x e = let same : y ≡ x = cc in ap (λ z. z ∷ []) same
  take_one_more (y ∷ l) (suc n) x e = ap (λ t. y ∷ t) (take_one_more l n x e)

  holds_at : (P : A → Type 0) (l : List A) (n : ℕ) (x : A) → All P l → slice_get l n ≡ Some x → P x
  holds_at P [] n x all e = absurd cc
  holds_at P (y ∷ l) zero x all e = let same : y ≡ x = cc in subst P same (All-head P y l all)
  holds_at P (y ∷ l) (suc n) x all e = holds_at P l n x (All-tail P y l all) e

same_entry : (d e : Entry) → d.worker ≡ e.worker → d.kind ≡ e.kind → d ≡ e
same_entry d e w k = ap₂ (λ x y. record { worker = x; kind = y }) w k

-- ---- what is drawn behind a log

module _ (seed : ℕ) (job : Job) (old a b : List Entry) (p : AreDrawn seed job old a) (q : AreDrawn seed job old b) where
  same_front : (n : ℕ) → n ≤ length a → n ≤ length b → take n a ≡ take n b
  same_front zero la lb = refl
  same_front (suc n) la lb =
      let x = at a n (omega (arith, la)) in
      let y = at b n (omega (arith, lb)) in
      let d : Entry = x.0 in
      let e : Entry = y.0 in
      let front = same_front n (omega (arith, la)) (omega (arith, lb)) in
      let first = kind_of (draw seed 0 n) in
      let kind = one_kind job (old ++ take n a) first d.kind e.kind (p.kinds n d x.1)
      (subst (λ (t : List Entry). IsFirstEnabled job (old ++ t) first e.kind) (sym front) (q.kinds n e y.1)) in
      let Zero : Entry → Type 0 = λ z. z.worker ≡ 0 in
      let worker = holds_at Zero a n d p.workers x.1 ∙ sym (holds_at Zero b n e q.workers y.1) in
      take_one_more a n d x.1 ∙ ap₂ (λ t z. t ++ z ∷ []) front (same_entry d e worker kind) ∙ sym (take_one_more b n e y.1)

-- the log is full, the core is halted after it, or the trace after it has enough events
abbrev Stops : Option ℕ → FixedContent → List Entry → Type 0
Stops events c log =
    (length log ≡ c.max_events)
    ⊎ (((cause : Cause) × (halted_after c.job log ≡ Some cause)) ⊎ (HasFewer events (replay c.job log).trace → ⊥))

-- these entries are what a run adds behind the log
record Adds (events : Option ℕ) (seed : ℕ) (c : FixedContent) (old added : List Entry) : Type 0 where
  drawn : AreDrawn seed c.job old added
  fits : length (old ++ added) ≤ c.max_events
  stops : Stops events c (old ++ added)
  fewer : (n : ℕ) → n < length added → HasFewer events (replay c.job (old ++ take n added)).trace

module _ (events : Option ℕ) (seed : ℕ) (c : FixedContent) (old : List Entry) where
  not_longer : (a b : List Entry) → Adds events seed c old a → Adds events seed c old b → length a < length b → ⊥
  not_longer a b p q lt =
      let front : take (length a) b ≡ a =
      sym (same_front seed c.job old a b p.drawn q.drawn (length a) (omega arith) (omega (arith, lt))) ∙ take_all (length a) a (omega arith) in
      let y = at b (length a) lt in
      let e : Entry = y.0 in
      let k = q.drawn.kinds (length a) e y.1 in
      let fires : may_fire c.job (old ++ a) e.kind ≡ true =
      subst (λ (t : List Entry). may_fire c.job (old ++ t) e.kind ≡ true) front k.enabled in
      let few = subst (λ (t : List Entry). HasFewer events (replay c.job (old ++ t)).trace) front (q.fewer (length a) lt) in
      let fits = q.fits in
      let la = length-append old a in
      let lb = length-append old b in
      ⊎_elim (λ full. omega (arith, full, fits, lt, la, lb))
      (λ stopped. ⊎_elim
      (λ halted. (let goes = enabled_goes (replay c.job (old ++ a)) e.kind fires in let h = halted.1 in cc (h, goes)))
      (λ enough. enough few) stopped)
      p.stops

  one_added : (a b : List Entry) → Adds events seed c old a → Adds events seed c old b → a ≡ b
  one_added a b p q =
      let len : length a ≡ length b = same_number (length a) (length b) (not_longer a b p q) (not_longer b a q p) in
      sym (take_all (length a) a (omega arith)) ∙ same_front seed c.job old a b p.drawn q.drawn (length a) (omega arith) (omega (arith, len))
      ∙ take_all (length a) b (omega (arith, len))

-- ---- runs

replayed_trace : (m : MachineContent) (c : FixedContent) → m.fixed ≡ c → IsReplay m → m.trace ≡ (replay c.job m.log).trace
replayed_trace m c same r = ap (λ (s : MachineView). s.trace) r.state ∙ ap (λ (d : FixedContent). (replay d.job m.log).trace) same

stops_done : (events : Option ℕ) (m : MachineContent) → IsReplay m → IsDone events m → Stops events m.fixed m.log
stops_done None m r h = ⊎_elim inl (λ e. inr (inl e)) h
stops_done (Some events) m r h =
    ⊎_elim (λ end. ⊎_elim inl (λ e. inr (inl e)) end)
    (λ enough. inr (inr (λ few. (let same = ap length (replayed_trace m m.fixed refl r) in omega (arith, enough, few, same))))) h

module _ (events : Option ℕ) (seed : ℕ) (c : FixedContent) (log : List Entry) (old new : MachineContent) (fixed : old.fixed ≡ c)
    (begun : old.log ≡ log) (run : RunsAlone events seed old new) where
  new_log : new.log ≡ log ++ run.drawn.added
  new_log = run.drawn.begins ∙ ap (λ (l : List Entry). l ++ run.drawn.added) begun

  adds : Adds events seed c log run.drawn.added
  adds =
      let d = run.drawn in
      record {
        drawn = subst (λ (x : FixedContent). AreDrawn seed x.job log d.added) fixed
            (subst (λ (l : List Entry). AreDrawn seed old.fixed.job l d.added) begun d.drawn);
        fits = subst (λ (l : List Entry). length l ≤ c.max_events) new_log
            (subst (λ (x : FixedContent). length new.log ≤ x.max_events) fixed d.fits);
        stops = subst (λ (l : List Entry). Stops events c l) new_log
            (subst (λ (x : FixedContent). Stops events x new.log) (run.fixed ∙ fixed) (stops_done events new run.replay d.ended));
        fewer = λ n b. subst (λ (l : List Entry). HasFewer events (replay c.job (l ++ take n d.added)).trace) begun
            (subst (λ (x : FixedContent). HasFewer events (replay x.job (old.log ++ take n d.added)).trace) fixed (d.fewer n b));
      }

pub seed_decides : SeedDecides
seed_decides events seed old new other second fixed begun p q =
    let c = old.fixed in
    let same = one_added events seed c old.log q.drawn.added p.drawn.added (adds events seed c old.log other second fixed begun q)
    (adds events seed c old.log old new refl refl p) in
    let log : second.log ≡ new.log =
    new_log events seed c old.log other second fixed begun q ∙ ap (λ (l : List Entry). old.log ++ l) same ∙ sym p.drawn.begins in
    let trace = replayed_trace second c (q.fixed ∙ fixed) q.replay ∙ ap (λ (l : List Entry). (replay c.job l).trace) log
    ∙ sym (replayed_trace new c p.fixed p.replay) in
    (log, trace)
