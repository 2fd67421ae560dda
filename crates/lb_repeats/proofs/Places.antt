-- What is first stands at one place.
use Rattle.std.proofs.Common.{◌≡◌, ◌<◌, ◌≤◌, ◌⊎◌, inl, inr, ℕ, zero, suc, true, List, [], ◌∷◌, ◌++◌, take, Some, refl, ap, ◌∙◌, subst, ⊎_elim, append_assoc, arith}
use Rattle.std.specs.Prelude.{slice_get}
use Rattle.lb_trace.specs.declared.Event.{Event}
use Rattle.lb_trace.specs.declared.Entry.{Entry}
use Rattle.lb_trace.specs.Prefix.{IsPrefix}
use Rattle.lb_board.specs.Rows.{by_bytes}
use Rattle.lb_machine.specs.State.{Job, MachineState, booted_machine}
use Rattle.lb_machine.specs.Rows.{after, is_enabled}
use Rattle.lb_machine.specs.Logs.{IsFirstRefused, IsLegalFrom, replayed_from}
use Rattle.lb_grammar.specs.Forms.{Begins}
use Rattle.lb_grammar.specs.Grammar.{good}
use Rattle.lb_grammar.specs.Prefixes.{IsBegun, PrefixLaw}
use Rattle.lb_grammar.specs.Rounds.{RoundsLaw, TellsPlace}
use Rattle.lb_grammar.specs.declared.Verdict.{Verdict}
use Rattle.lb_grammar.specs.declared.Verdict.TheVariants.{Prefix, Leaves}
use Rattle.lb_system.specs.MachineReport.{IsVerdict}

-- numbers are in order, or the same
pub in_order : (m n : ℕ) → (m < n) ⊎ ((m ≡ n) ⊎ (n < m))
in_order zero zero = inr (inl refl)
in_order zero (suc n) = inl (omega arith)
in_order (suc m) zero = inr (inr (omega arith))
in_order (suc m) (suc n) =
    ⊎_elim (λ h. inl (omega (arith, h)))
    (λ k. ⊎_elim (λ e. inr (inl (ap suc e))) (λ h. inr (inr (omega (arith, h)))) k) (in_order m n)

-- of two places neither is before the other
pub same_place : (m n : ℕ) → (m < n → ⊥) → (n < m → ⊥) → m ≡ n
same_place m n before behind = ⊎_elim (λ h. absurd (before h)) (λ k. ⊎_elim (λ e. e) (λ h. absurd (behind h)) k) (in_order m n)

-- ---- the first entry that can't be fired

-- an entry of a legal log could be fired
could_be_fired : (s : MachineState) (log : List Entry) (m n : ℕ) (e : Entry) → m < n → slice_get log m ≡ Some e → IsLegalFrom s (take n log)
    → is_enabled by_bytes (replayed_from s (take m log)) e.kind ≡ true
could_be_fired s log m zero e lt at legal = absurd (omega (arith, lt))
could_be_fired s [] m (suc n) e lt at legal = absurd cc
could_be_fired s (x ∷ log) zero (suc n) e lt at legal = let same : x ≡ e = cc in subst (λ y. is_enabled by_bytes s y.kind ≡ true) same legal.0
could_be_fired s (x ∷ log) (suc m) (suc n) e lt at legal = could_be_fired (after by_bytes s x.kind) log m n e (omega (arith, lt)) at legal.1

not_before : (job : Job) (log : List Entry) (m n : ℕ) → IsFirstRefused job log m → IsFirstRefused job log n → m < n → ⊥
not_before job log m n a b lt =
    let fires = could_be_fired (booted_machine job) log m n a.entry lt a.stands b.legal in
    let refused = a.refused in
    cc

pub one_refused : (job : Job) (log : List Entry) (m n : ℕ) → IsFirstRefused job log m → IsFirstRefused job log n → m ≡ n
one_refused job log m n a b = same_place m n (not_before job log m n a b) (not_before job log n m b a)

-- ---- the first event that leaves the grammar

module _ (law : PrefixLaw) where
  -- what begins a prefix is one
  begins_less : (xs ys : List Event) → IsPrefix xs ys → Begins good ys → Begins good xs
  begins_less xs ys p h =
      let is = law.whole in
      let m : IsBegun good ys = (is ys).0 h in
      (is xs).1 (record {
        member = m.member;
        is = m.is;
        prefix = record { rest = p.rest ++ m.prefix.rest; whole = m.prefix.whole ∙ ap (λ l. l ++ m.prefix.rest) p.whole ∙ append_assoc xs p.rest m.prefix.rest };
      })

  front_of : (m n : ℕ) (l : List Event) → m ≤ n → IsPrefix (take m l) (take n l)
  front_of zero n l le = record { rest = take n l; whole = refl }
  front_of (suc m) zero l le = absurd (omega (arith, le))
  front_of (suc m) (suc n) [] le = record { rest = []; whole = refl }
  front_of (suc m) (suc n) (x ∷ l) le =
      let p = front_of m n l (omega (arith, le)) in
      record { rest = p.rest; whole = ap (λ t. x ∷ t) p.whole }

  not_left_before : (l : List Event) (m n : ℕ) → TellsPlace l (Leaves m) → TellsPlace l (Leaves n) → m < n → ⊥
  not_left_before l m n a b lt = a.1 (begins_less (take (suc m) l) (take n l) (front_of (suc m) n l (omega (arith, lt))) b.0)

  one_leaving : (l : List Event) (m n : ℕ) → TellsPlace l (Leaves m) → TellsPlace l (Leaves n) → m ≡ n
  one_leaving l m n a b = same_place m n (not_left_before l m n a b) (not_left_before l n m b a)

  pub one_verdict : RoundsLaw → (l : List Event) (v w : Verdict) → IsVerdict l v → IsVerdict l w → v ≡ w
  one_verdict rounds l (Prefix m) (Prefix n) a b = ap (λ k. Prefix k) (rounds.unique m n l a.rounds b.rounds)
  one_verdict rounds l (Prefix m) (Leaves n) a b = absurd (b.prefix.1 (a.prefix.0 tt))
  one_verdict rounds l (Leaves m) (Prefix n) a b = absurd (a.prefix.1 (b.prefix.0 tt))
  one_verdict rounds l (Leaves m) (Leaves n) a b = ap (λ k. Leaves k) (one_leaving l m n a.place b.place)
