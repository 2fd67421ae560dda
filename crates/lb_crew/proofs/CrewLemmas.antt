-- What the workers of a crew leave, and what the turn gives back.
use Rattle.std.proofs.Common.{◌≡◌, ◌<◌, ℕ, zero, suc, List, [], ◌∷◌, ◌++◌, length, take, slice_index_or, All, Contains, Err, refl, sym, ◌∙◌, subst, ⊎_elim, arith}
use Rattle.std.proofs.lemmas.List.{get_or_append_left, length-append}
use Rattle.std.proofs.Math.Seq.{get_or-append_seam}
use Rattle.atomic_table.specs.Seated.{TableId}
use Rattle.lb_trace.specs.declared.Kind.{Kind}
use Rattle.lb_turn.specs.declared.turn.CloseFault.{CloseFault}
use Rattle.lb_turn.specs.declared.turn.CloseFault.TheVariants.{Missing}
use Rattle.lb_turn.specs.declared.seat.TurnFault.TheVariants.{NotFired as NotFiredAt}
use Rattle.lb_turn.specs.CloseFaults.{Refuses as RefusesToClose}
use Rattle.lb_turn.specs.Closing.{Closes}
use Rattle.lb_turn.specs.Histories.{IsRefused}
use Rattle.lb_turn.specs.Seats.{Answers, IsOf, Opens, SeatView, TurnView, new_seat, new_seats}
use Rattle.lb_machine.specs.declared.fault.NotFired.{NotFired}
use Rattle.lb_machine.specs.Machines.{IsReplay, MachineContent}
use Rattle.lb_machine.specs.Refusals.{FixedContent, Refuses}
use Rattle.lb_crew.specs.Crews.{Finishes}
use Rattle.lb_crew.specs.InternalCrew.{AllHaveWorked, HasWorked, IsEnd, SawEnd}
use Rattle.lb_crew.proofs.EndLemmas.{ended_by}
use Rattle.lb_crew.proofs.ListLemmas.{below_one_more, there_at}

-- ---- the seats at the opening

module _ (turn : TableId) (seats count : ℕ) where
  new_seats_length : (n : ℕ) → length (new_seats {W = NotFired} turn seats count n) ≡ n
  new_seats_length zero = refl
  new_seats_length (suc n) =
      let e = new_seats_length n in
      length-append (new_seats turn seats count n) (new_seat turn seats count n ∷ []) ∙ omega (arith, e)

  new_seat_at : (n k : ℕ) (d : SeatView NotFired) → k < n
      → slice_index_or (new_seats turn seats count n) k d ≡ new_seat turn seats count k
  new_seat_at zero k d b = absurd (omega (arith, b))
  new_seat_at (suc n) k d b =
      let before : List (SeatView NotFired) = new_seats turn seats count n in
      let x : SeatView NotFired = new_seat turn seats count n in
      let len = new_seats_length n in
      ⊎_elim
      (λ h. get_or_append_left before (x ∷ []) d k (omega (arith, h, len)) ∙ new_seat_at n k d h)
      (λ (e : k ≡ n). subst (λ (j : ℕ). slice_index_or (before ++ x ∷ []) j d ≡ new_seat turn seats count j) (sym e)
      (subst (λ (j : ℕ). slice_index_or (before ++ x ∷ []) j d ≡ x) len (get_or-append_seam before x [] d)))
      (below_one_more k n (omega (arith, b)))

module _ (value : MachineContent) (workers : ℕ) (o : TurnView MachineContent) (list : List (SeatView NotFired))
    (opens : Opens (λ (m : MachineContent). m.log) value workers o list) where
  pub all_opened : All (IsOf o) list
  all_opened =
      let count = length value.log in
      let fresh : All (IsOf o) (new_seats o.turn workers count workers) =
      λ k d b. let len = new_seats_length o.turn workers count workers in
      subst (λ (s : SeatView NotFired). IsOf o s) (sym (new_seat_at o.turn workers count workers k d (omega (arith, b, len))))
      (refl, sym opens.1) in
      subst (λ (l : List (SeatView NotFired)). All (IsOf o) l) (sym opens.2) fresh

  -- these seats are those of the numbers below that of the seats
  pub all_worked : (after : List (SeatView NotFired)) → AllHaveWorked list after
      → AllHaveWorked (new_seats o.turn o.seats (length o.value.log) o.seats) after
  all_worked after w =
      subst (λ (v : MachineContent). AllHaveWorked (new_seats o.turn o.seats (length v.log) o.seats) after) (sym opens.0)
      (subst (λ (n : ℕ). AllHaveWorked (new_seats o.turn n (length value.log) n) after) (sym opens.1)
      (subst (λ (l : List (SeatView NotFired)). AllHaveWorked l after) opens.2 w))

  pub finished_by_many : (seed : ℕ) (new : MachineContent) → (workers ≡ 1 → ⊥)
      → ((s : ℕ) → (o.seats ≡ 1 → ⊥) → Finishes s o.seats o.value new) → Finishes seed workers value new
  finished_by_many seed new many f =
      let of_value : (workers ≡ 1 → ⊥) → Finishes seed workers value new =
      subst (λ (n : ℕ). (n ≡ 1 → ⊥) → Finishes seed n value new) opens.1
      (subst (λ (v : MachineContent). (o.seats ≡ 1 → ⊥) → Finishes seed o.seats v new) opens.0 (f seed)) in
      of_value many

-- ---- the end of a worker's work

-- a refusal that says so tells the seat that the machine has ended
pub saw_end : (s : SeatView NotFired) (kind : Kind) (seen : ℕ) (why : NotFired) (after : SeatView NotFired) → IsEnd why
    → Answers s kind (Err (NotFiredAt seen why)) after → SawEnd after
saw_end s kind seen why after e a =
    let x : ℕ × Kind × NotFired = (seen, kind, why) in
    let refusals = s.history.refusals in
    let len = length-append refusals (x ∷ []) in
    let told : Contains (refusals ++ x ∷ []) x = (length refusals, omega (arith, len), get_or-append_seam refusals x [] x) in
    subst SawEnd (sym a.1) (record { seen = seen; kind = kind; why = why; is_end = e; told = told })

-- ---- the seats behind the work

module _ (o : TurnView MachineContent) (count : ℕ) (after : List (SeatView NotFired))
    (w : AllHaveWorked (new_seats o.turn o.seats count o.seats) after) where
  seat_back : (k : ℕ) (d : SeatView NotFired) → k < o.seats
      → HasWorked (new_seat o.turn o.seats count k) (slice_index_or after k d)
  seat_back k d b =
      let len = new_seats_length o.turn o.seats count o.seats in
      subst (λ (s : SeatView NotFired). HasWorked s (slice_index_or after k d)) (new_seat_at o.turn o.seats count o.seats k d b)
      (w.each k d (omega (arith, b, len)))

  as_many : length after ≡ o.seats
  as_many = w.as_many ∙ new_seats_length o.turn o.seats count o.seats

  pub all_of : All (IsOf o) after
  all_of k d b =
      let len = as_many in
      let h = seat_back k d (omega (arith, b, len)) in (h.0.0, h.0.1)

  -- no seat is missing
  pub none_missing : (e : CloseFault MachineContent FixedContent NotFired) → RefusesToClose o after e → ⊥
  none_missing (Missing turn seats number) r =
      let len = as_many in
      let b = r.2.0 in
      let d : SeatView NotFired = new_seat o.turn o.seats count number in
      let h = seat_back number d b in
      r.2.1 (slice_index_or after number d, (number, there_at after number d (omega (arith, b, len))), h.0.2)

  -- the first seat was told that the machine has ended, so it has
  pub goes_to_end : (m : MachineContent) → 0 < o.seats → IsReplay m
      → Closes (λ (x : MachineContent). x.log) (λ (x : MachineContent). x.fixed) Refuses o after m
      → (seed : ℕ) → (o.seats ≡ 1 → ⊥) → Finishes seed o.seats o.value m
  goes_to_end m positive r c seed many =
      let len = as_many in
      let d : SeatView NotFired = new_seat o.turn o.seats count 0 in
      let saw : SawEnd (slice_index_or after 0 d) = (seat_back 0 d positive).1 in
      let x : ℕ × Kind × NotFired = (saw.seen, saw.kind, saw.why) in
      let refused : IsRefused Refuses o.value.fixed m.log x =
      subst (IsRefused Refuses o.value.fixed m.log) saw.told.2
      (c.refusals 0 d (omega (arith, positive, len)) saw.told.0 x saw.told.1) in
      record {
        fixed = c.same;
        added = c.rest;
        begins = c.goes_on;
        workers_below = c.named;
        ended = ended_by m saw.seen saw.kind saw.why r saw.is_end refused.0
            (subst (λ (f : FixedContent). Refuses f (take saw.seen m.log) saw.kind saw.why) (sym c.same) refused.1);
        replay = r;
        drawn = λ one. absurd (many one);
      }
