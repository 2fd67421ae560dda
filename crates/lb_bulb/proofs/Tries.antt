-- A register is read until it has a value, at most 1,000 times.
use Rattle.std.proofs.Common.{◌≡◌, ℕ, suc, ◌≤◌, List, [], ◌∷◌, ◌++◌, Option, Some, Ok, refl, sym, ap, subst, arith, bit_and, append-nil}
use Rattle.lb_word.specs.Word.{ltu_of, sub_of}
use Rattle.lb_syntax.specs.Tree.{Term, Variable, Command, chain}
use Rattle.lb_syntax.specs.WellFormed.{IsWord}
use Rattle.lb_syntax.specs.declared.tree.Op.TheVariants.{Sub}
use Rattle.lb_trace.specs.declared.Event.{Event}
use Rattle.lb_source.specs.Maps.{Memory, put}
use Rattle.lb_source.specs.Value.{or_unset, operated}
use Rattle.lb_source.specs.Run.{State, Outcome, Goes, Caller, run_with, value_in, then_do, set, set_all, turns}
use Rattle.lb_grammar.specs.Forms.{Form, Sequence, Exactly, at_most, none, Is, Begins}
use Rattle.lb_grammar.specs.Grammar.{rd, no_rd}
use Rattle.lb_bulb.proofs.FormLemmas.{count_test, then_begins}
use Rattle.lb_bulb.specs.Supplied.{bad_, n_, v_, goes_on, count_down, read_in, until}
use Rattle.lb_bulb.proofs.Does.{AreWords, Does, goes, stops, Reading, read, ReadOk}
use Rattle.lb_bulb.proofs.Rules.{Whole, Part, value_then, call_then, loop_does, loop_ends, stands}
use Rattle.lb_bulb.proofs.Patience.{Patient, waits, Waits, still_waits, Waited, in_vain, served, has_waited, one_turn}
use Rattle.lb_bulb.proofs.Calls.{read_starts}

-- while a register is tried
pub record Trying (again end : Form) (m : Memory) (u : State) (l : List Event) : Type 0 where
  pub flag : ℕ
  pub count : ℕ
  pub patient : Patient again end flag count l
  pub bad : u.variables bad_ ≡ Some flag
  pub left : u.variables n_ ≡ Some count
  pub memory : u.memory ≡ m

-- after it
pub record Tried (again end : Form) (m : Memory) (u : State) (l : List Event) : Type 0 where
  pub flag : ℕ
  pub waited : Waited again end flag l
  pub bad : u.variables bad_ ≡ Some flag
  pub memory : u.memory ≡ m

module _ (call : Caller) (ok : ReadOk call) (bound : ℕ) (os : List ℕ) (a : ℕ) (e : Term) (flag_of : ℕ → ℕ) (again end : Form) (m : Memory)
    (computes : (u : State) (v : ℕ) → u.variables v_ ≡ Some v → value_in u e ≡ Ok (flag_of v))
    (small : (v : ℕ) → IsWord v → flag_of v ≤ 1)
    (is_again : (v : ℕ) (k : List Event) → IsWord v → Is (rd a v) k → flag_of v ≡ 1 → Is again k)
    (is_end : (v : ℕ) (k : List Event) → IsWord v → Is (rd a v) k → flag_of v ≡ 0 → Is end k) where
  abbrev body : State → Outcome
  body = run_with call bound os (chain (read_in v_ a ∷ Sets_bad ∷ count_down ∷ []))
    where
      Sets_bad : Command
      Sets_bad = Rattle.lb_syntax.specs.Tree.Sets bad_ e

  abbrev part : Part
  part = Begins (Sequence (at_most 999 again) (no_rd a))

  abbrev test : (u : State) (l : List Event) → Trying again end m u l → ℕ
  test u l i = bit_and i.flag (ltu_of 0 i.count)

  tests : (u : State) (l : List Event) (i : Trying again end m u l) → value_in u (goes_on (Variable bad_)) ≡ Ok (test u l i)
  tests u l i = rw (i.bad, i.left) refl

  -- stopped in a turn
  cut : (flag n : ℕ) (l k : List Event) → Waits again flag n l → Begins (no_rd a) k → part (l ++ k)
  cut flag n l k w h = let few : w.count ≤ 999 = omega (arith, w.sum, w.left) in then_begins (at_most 999 again) (no_rd a) l k (w.count, count_test w.count 999 few, w.turns) h

  spent : (u : State) (l : List Event) (i : Trying again end m u l) (k : ℕ) → test u l i ≡ suc k → part l
  spent u l i k z = subst part (append-nil l) (cut i.flag i.count l [] (still_waits again end i.flag i.count k l i.patient z) (read_starts a))

  done : (u : State) (l : List Event) (i : Trying again end m u l) → test u l i ≡ 0 → Tried again end m u l
  done u l i z = record { flag = i.flag; waited = has_waited again end i.flag i.count l i.patient z; bad = i.bad; memory = i.memory }

  -- after the read
  was_read : (t : List Event) (u : State) (l : List Event) (i : Trying again end m u l) (vs : List ℕ) (k : List Event) (qs : List ℕ) (f : ℕ) → Waits again 1 i.count l → AreWords qs → Reading a vs k → u.trace ++ k ≡ t ++ (l ++ k)
      → Does t (Trying again end m) part (run_with call bound os (chain (Rattle.lb_syntax.specs.Tree.Sets bad_ e ∷ count_down ∷ [])) (record u { variables = set_all (v_ ∷ []) vs u.variables; replies = qs; trace = u.trace ++ k; fuel = f }))
  was_read t u l i vs k qs f w ws (read {v = v} h r) z =
      let x : State = record u { variables = put v_ (Some v) u.variables; replies = qs; trace = u.trace ++ k; fuel = f } in
      value_then (value_in x e) (flag_of v) x t (Trying again end m) part (λ c. Goes (set bad_ c x)) _ (computes x v refl)
      (value_then (operated Sub (or_unset (u.variables n_)) (Ok 1)) (sub_of i.count 1) (set bad_ (flag_of v) x) t (Trying again end m) part (λ c. Goes (set n_ c (set bad_ (flag_of v) x))) (λ y. Goes y)
      (ap (λ (o : Option ℕ). operated Sub (or_unset o) (Ok 1)) i.left)
      (goes (l ++ k) z ws (record {
        flag = flag_of v;
        count = sub_of i.count 1;
        patient = one_turn again end (flag_of v) i.count l k w (small v h) (is_again v k h r) (is_end v k h r);
        bad = refl;
        left = refl;
        memory = i.memory;
      })))

  turn : (t : List Event) (u : State) (l : List Event) (i : Trying again end m u l) (g k : ℕ) → u.trace ≡ t ++ l → AreWords u.replies → test u l i ≡ suc k → Does t (Trying again end m) part (body (record u { fuel = g }))
  turn t u l i g k q ws z =
      let w : Waits again i.flag i.count l = still_waits again end i.flag i.count k l i.patient z in
      let w1 : Waits again 1 i.count l = record { count = w.count; sum = w.sum; left = w.left; turns = w.turns; set = refl } in
      call_then (record u { fuel = g }) (v_ ∷ []) (Reading a) (Begins (no_rd a)) _ _ t l (Trying again end m) part q
      (λ k h. cut i.flag i.count l k w h)
      (λ vs k qs f qw r y. was_read t (record u { fuel = g }) l (record { flag = i.flag; count = i.count; patient = i.patient; bad = i.bad; left = i.left; memory = i.memory }) vs k qs f w1 qw r y)
      (ok a v_ (record u { fuel = g }) ws)

  pub tries_do : (u : State) → AreWords u.replies → u.variables n_ ≡ Some 1000 → u.variables bad_ ≡ Some 1 → u.memory ≡ m
      → Does u.trace (Tried again end m) part (run_with call bound os (until a e) u)
  tries_do u ws en eb em =
      loop_does u.trace (goes_on (Variable bad_)) body (Trying again end m) (Tried again end m) part test tests spent done (turn u.trace) bound u [] (sym (append-nil u.trace)) ws
      (record { flag = 1; count = 1000; patient = waits 0 refl (none refl); bad = eb; left = en; memory = em })

-- the wait is over, or the appliance stands still
pub wait_over : (n : ℕ) (t l k : List Event) (u : State) (flag : ℕ) (again end : Form) (w : Whole) (p : Part) (rest : State → Outcome) → u.trace ≡ t ++ (l ++ k) → u.variables bad_ ≡ Some flag → Waited again end flag k
    → (Is (Exactly 1000 again) k → p (l ++ k)) → (Is (Sequence (at_most 999 again) end) k → Does t w p (rest u)) → Does t w p (then_do (turns n (Variable bad_) (λ s. Goes s) u) rest)
wait_over n t l k u flag again end w p rest z eb (in_vain h) f g =
    subst (λ (o : Outcome). Does t w p (then_do o rest)) (sym (stands n bad_ u 0 eb)) (stops (l ++ k) z (f h) tt)
wait_over n t l k u flag again end w p rest z eb (served h) f g =
    subst (λ (o : Outcome). Does t w p (then_do o rest)) (sym (loop_ends n (Variable bad_) (λ s. Goes s) u (ap (λ (o : Option ℕ). or_unset o) eb))) (g h)
