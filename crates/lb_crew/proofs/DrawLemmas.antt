-- What one worker alone adds, entry by entry.
use Rattle.std.proofs.Common.{◌≡◌, ◌≤◌, ◌<◌, ◌⊎◌, ℕ, suc, ◌+◌, false, List, [], ◌∷◌, ◌++◌, length, take, All, Option, Some, None, refl, sym, ap, ◌∙◌, subst, ⊎_elim, inl, inr, arith}
use Rattle.std.proofs.lemmas.List.{append-nil, append_assoc, length-append, take-append-le}
use Rattle.std.proofs.lemmas.List.Elements.{All-append, All-cons, All-nil}
use Rattle.std.proofs.Math.Nat.{lt_of_not-le}
use Rattle.std.proofs.Math.Seq.{take-append_seam}
use Rattle.lb_trace.specs.declared.Entry.{Entry}
use Rattle.lb_trace.specs.declared.Event.{Event}
use Rattle.lb_trace.specs.declared.Kind.{Kind}
use Rattle.lb_draws.specs.Draws.{draw, next_state, state_after}
use Rattle.lb_turn.specs.Entries.{added, entry}
use Rattle.lb_machine.specs.Laws.{MakesProgress}
use Rattle.lb_machine.specs.Logs.{may_fire, replay}
use Rattle.lb_machine.specs.Machines.{IsReplay, MachineContent}
use Rattle.lb_machine.specs.declared.fault.NotFired.TheVariants.{GuardFalse}
use Rattle.lb_machine.specs.Refusals.{FixedContent, Refuses, halted_after}
use Rattle.lb_machine.specs.State.{Job, MachineView}
use Rattle.lb_machine.proofs.LogLemmas.{logs_go_on}
use Rattle.lb_crew.specs.Crews.{Finishes}
use Rattle.lb_crew.specs.Drawn.{AreDrawn, HasEnded, HasFewer, IsDone, IsDrawn, IsDrawnWithin, IsFirstEnabled, kind_behind, kind_of}
use Rattle.lb_crew.specs.InternalDraws.{FiresFirst}
use Rattle.lb_crew.proofs.KindLemmas.{of_all}
use Rattle.lb_crew.proofs.ListLemmas.{at_one_more, below_one_more, slice_within}

-- ---- what is drawn

pub none_drawn : (seed : ℕ) (job : Job) (old : List Entry) → AreDrawn seed job old []
none_drawn seed job old = record { workers = All-nil (λ e. e.worker ≡ 0); kinds = λ n e s. absurd (cc s) }

module _ (seed : ℕ) (job : Job) (old l : List Entry) (kind : Kind) where
  drawn_more : AreDrawn seed job old l → IsFirstEnabled job (old ++ l) (kind_of (draw seed 0 (length l))) kind → AreDrawn seed job old (added l 0 kind)
  drawn_more d f =
      let x = entry 0 kind in
      let P : Entry → Type 0 = λ e. e.worker ≡ 0 in
      record {
        workers = All-append P l (x ∷ []) d.workers (All-cons P x [] refl (All-nil P));
        kinds = λ n e s. ⊎_elim
            (λ there. subst (λ (t : List Entry). IsFirstEnabled job (old ++ t) (kind_of (draw seed 0 n)) e.kind)
            (sym (take-append-le n l (x ∷ []) (slice_within l e n there))) (d.kinds n e there))
            (λ last. subst (λ (m : ℕ). IsFirstEnabled job (old ++ take m (l ++ x ∷ [])) (kind_of (draw seed 0 m)) e.kind) (sym last.0)
            (subst (λ (t : List Entry). IsFirstEnabled job (old ++ t) (kind_of (draw seed 0 (length l))) e.kind)
            (sym (take-append_seam l (x ∷ [])))
            (subst (λ (y : Entry). IsFirstEnabled job (old ++ l) (kind_of (draw seed 0 (length l))) y.kind) last.1 f)))
            (at_one_more l x e n s);
      }

-- ---- the search for a kind

-- none of nine kinds in a row may be fired: the core is halted
pub some_enabled : (job : Job) (log : List Entry) (first : Kind) → halted_after job log ≡ None
    → ((n : ℕ) → n < 9 → may_fire job log (kind_behind first n) ≡ false) → ⊥
some_enabled job log first goes none =
    let go : MakesProgress job log = logs_go_on job log goes in
    cc (go.2, of_all (λ (k : Kind). may_fire job log k ≡ false) first none go.0)

-- one kind more that may not be fired
pub one_more_refused : (job : Job) (log : List Entry) (first : Kind) (m : ℕ)
    → ((n : ℕ) → n < m → may_fire job log (kind_behind first n) ≡ false) → may_fire job log (kind_behind first m) ≡ false
    → (n : ℕ) → n < m + 1 → may_fire job log (kind_behind first n) ≡ false
one_more_refused job log first m before this n b =
    ⊎_elim (before n) (λ (e : n ≡ m). subst (λ (k : ℕ). may_fire job log (kind_behind first k) ≡ false) (sym e) this)
    (below_one_more n m b)

-- the kind of place m was refused by its guard, as all before it were
pub searched_on : (old now : MachineContent) (first kind : Kind) (m : ℕ) → now ≡ old → kind ≡ kind_behind first m
    → ((n : ℕ) → n < m → may_fire old.fixed.job old.log (kind_behind first n) ≡ false)
    → Refuses now.fixed now.log kind GuardFalse
    → ((n : ℕ) → n < m + 1 → may_fire old.fixed.job old.log (kind_behind first n) ≡ false) × (halted_after old.fixed.job old.log ≡ None)
searched_on old now first kind m same is before r =
    let there : Refuses old.fixed old.log (kind_behind first m) GuardFalse =
    subst (λ (k : Kind). Refuses old.fixed old.log k GuardFalse) is
    (subst (λ (x : MachineContent). Refuses x.fixed x.log kind GuardFalse) same r) in
    (one_more_refused old.fixed.job old.log first m before there.2, there.0)

-- ---- the loop over entries

-- worker 0 alone went on from the old machine, and the trace had fewer events than asked for
pub record Going (events : Option ℕ) (seed : ℕ) (old now : MachineContent) (state : ℕ) : Type 0 where
  pub fixed : now.fixed ≡ old.fixed
  pub added : List Entry
  pub begins : now.log ≡ old.log ++ added
  pub drawn : AreDrawn seed old.fixed.job old.log added
  pub state_is : state ≡ state_after seed 0 (length added)
  pub fewer : (n : ℕ) → n < length added → HasFewer events (replay old.fixed.job (old.log ++ take n added)).trace

pub begun : (events : Option ℕ) (seed : ℕ) (m : MachineContent) → Going events seed m m (state_after seed 0 0)
begun events seed m = record {
  fixed = refl;
  added = [];
  begins = sym (append-nil m.log);
  drawn = none_drawn seed m.fixed.job m.log;
  state_is = refl;
  fewer = λ n b. absurd (omega (arith, b));
}

module _ (events : Option ℕ) (seed : ℕ) (old now new : MachineContent) (state : ℕ) where
  pub went_on : Going events seed old now state → IsReplay now → HasFewer events now.trace
      → new.fixed ≡ now.fixed → FiresFirst (kind_of (next_state state)) now new → Going events seed old new (next_state state)
  went_on g r few same f =
      let x = entry 0 f.kind in
      let l = g.added in
      let job = old.fixed.job in
      let one_more : length (l ++ x ∷ []) ≡ suc (length l) = length-append l (x ∷ []) ∙ omega arith in
      let first : IsFirstEnabled job (old.log ++ l) (kind_of (draw seed 0 (length l))) f.kind =
      subst (λ (s : ℕ). IsFirstEnabled job (old.log ++ l) (kind_of (next_state s)) f.kind) g.state_is
      (subst (λ (log : List Entry). IsFirstEnabled job log (kind_of (next_state state)) f.kind) g.begins
      (subst (λ (c : FixedContent). IsFirstEnabled c.job now.log (kind_of (next_state state)) f.kind) g.fixed f.is_first)) in
      let events_now : HasFewer events (replay job (old.log ++ l)).trace =
      subst (λ (log : List Entry). HasFewer events (replay job log).trace) g.begins
      (subst (λ (c : FixedContent). HasFewer events (replay c.job now.log).trace) g.fixed
      (subst (λ (t : List Event). HasFewer events t) (ap (λ (s : MachineView). s.trace) r.state) few)) in
      record {
        fixed = same ∙ g.fixed;
        added = added l 0 f.kind;
        begins = f.log ∙ (ap (λ (log : List Entry). log ++ x ∷ []) g.begins ∙ append_assoc old.log l (x ∷ []));
        drawn = drawn_more seed job old.log l f.kind g.drawn first;
        state_is = ap next_state g.state_is ∙ ap (state_after seed 0) (sym one_more);
        fewer = λ n b. ⊎_elim
            (λ h. subst (λ (t : List Entry). HasFewer events (replay job (old.log ++ t)).trace)
            (sym (take-append-le n l (x ∷ []) (omega (arith, h)))) (g.fewer n h))
            (λ (e : n ≡ length l). subst (λ (m : ℕ). HasFewer events (replay job (old.log ++ take m (l ++ x ∷ []))).trace) (sym e)
            (subst (λ (t : List Entry). HasFewer events (replay job (old.log ++ t)).trace)
            (sym (take-append_seam l (x ∷ []))) events_now))
            (below_one_more n (length l) (omega (arith, b, one_more)));
      }

-- ---- the end

done : (events : Option ℕ) (m : MachineContent) → HasEnded m ⊎ (HasFewer events m.trace → ⊥) → IsDone events m
done None m h = ⊎_elim (λ e. e) (λ e. absurd (e tt)) h
done (Some events) m h =
    ⊎_elim inl (λ none. (let few : events < suc (length m.trace) = lt_of_not-le none in inr (omega (arith, few)))) h

pub stopped : (events : Option ℕ) (seed : ℕ) (old now : MachineContent) (state : ℕ) → Going events seed old now state → IsReplay now
    → HasEnded now ⊎ (HasFewer events now.trace → ⊥) → IsDrawnWithin events seed old now
stopped events seed old now state g r e = record {
  added = g.added;
  begins = g.begins;
  drawn = g.drawn;
  fits = subst (λ (c : FixedContent). length now.log ≤ c.max_events) g.fixed r.fits;
  ended = done events now e;
  fewer = g.fewer;
}

-- ---- a crew of one

-- the entries of worker 0 are of workers below any number of them
below : (workers : ℕ) (l : List Entry) → 1 ≤ workers → All (λ e. e.worker ≡ 0) l → All (λ e. e.worker < workers) l
below workers l some zeros k d b = let h = zeros k d b in omega (arith, some, h)

pub finished_alone : (seed workers : ℕ) (old new : MachineContent) → 1 ≤ workers → new.fixed ≡ old.fixed → IsReplay new
    → IsDrawn seed old new → Finishes seed workers old new
finished_alone seed workers old new some same r d = record {
  fixed = same;
  added = d.added;
  begins = d.begins;
  workers_below = below workers d.added some d.drawn.workers;
  ended = d.ended;
  replay = r;
  drawn = λ one. d;
}
