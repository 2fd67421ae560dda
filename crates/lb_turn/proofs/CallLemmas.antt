-- Between the place of a seat and what contracts see of it.
use Rattle.std.proofs.Common.{◌≡◌, ℕ, ◌≤◌, List, [], ◌∷◌, sym, refl, ap, ◌∙◌, subst, Option, Some, Result, Ok, Err, ◌+◌, ◌++◌, length, length-append, arith}
use Rattle.std.specs.Prelude.{IfOk, IfErr, MatchResult}
use Rattle.lb_trace.specs.declared.Entry.{Entry}
use Rattle.lb_trace.specs.declared.Kind.{Kind}
use Rattle.lb_turn.specs.declared.table.History.{History}
use Rattle.lb_turn.specs.declared.table.Role.TheVariants.{Owner, Idle, Holding, Published}
use Rattle.lb_turn.specs.declared.table.View.{View}
use Rattle.lb_turn.specs.declared.table.Held.{Held}
use Rattle.lb_turn.specs.declared.seat.TurnFault.TheVariants.{NotFired}
use Rattle.lb_turn.specs.Entries.{entry}
use Rattle.lb_turn.specs.Histories.{answered_by}
use Rattle.lb_turn.specs.Steps.{Self, view, number_in, history_in, entries_in, joined, Wins, Publishes}
use Rattle.lb_turn.specs.Seats.{Place, IsIdle, SeatView, seat_view, IsSameSeat, GoesOn, Answers}
use Rattle.lb_turn.specs.InternalSeats.{ActsOn, IsHolder}

module _ (M F W : Type 0) where
  -- the seat idles again, with another history
  pub again : (number : ℕ) (m m' : Self M F W) (h' : History W)
      → m ≡ (view m.0.total (Idle number (history_in m.0.role)), [])
      → m' ≡ (view m.0.total (Idle (number_in m.0.role) h'), m.1) → m' ≡ (view m.0.total (Idle number h'), [])
  again number m m' h' is e = e ∙ (λ i. (
    view m.0.total
        (Idle (ap (λ (z : Self M F W). number_in z.0.role) is i) h'),
    ap (λ (z : Self M F W). z.1) is i,
  ))

  pub idles : (number seen : ℕ) (s s' : Place M F W) (h' : History W) → IsIdle number seen s
      → s'.me ≡ (view s.me.0.total (Idle number h'), []) → (seen' : ℕ) → seen' ≡ h'.seen → IsIdle number seen' s'
  idles number seen s s' h' old e seen' is =
      let total : s'.me.0.total ≡ s.me.0.total = ap (λ (z : Self M F W). z.0.total) e in
      let b = old.below in
      let f = old.few in
      record {
        me = subst (λ (z : Self M F W). z ≡ (view z.0.total (Idle number (history_in z.0.role)), [])) (sym e) refl;
        seen_is = is ∙ sym (ap (λ (z : Self M F W). (history_in z.0.role).seen) e);
        below = (omega arith);
        few = (omega arith);
      }

  pub goes : (number seen : ℕ) (s s' : Place M F W) (h' : History W) → IsIdle number seen s
      → s'.table_id ≡ s.table_id → s'.me ≡ (view s.me.0.total (Idle number h'), [])
      → GoesOn (seat_view s) (seat_view s') h'
  goes number seen s s' h' old same e = λ i. record {
    turn = same i;
    seats = ap (λ (z : Self M F W). z.0.total) e i;
    number = (ap (λ (z : Self M F W). number_in z.0.role) e
        ∙ sym (ap (λ (z : Self M F W). number_in z.0.role) old.me)) i;
    history = ap (λ (z : Self M F W). history_in z.0.role) e i;
  }

  -- the value that was published is the one in the slot
  abbrev first_or : Held M W → List (ℕ × Option (Held M W)) → Held M W
  first_or d ((i, Some x) ∷ xs) = x
  first_or d _ = d

  pub published_is : (entries : M → List Entry) (fixed : M → F) (m m' : Self M F W) (x y : Held M W) → m.1 ≡ (0, Some x) ∷ []
      → Publishes entries fixed m m' x → m.1 ≡ (0, Some y) ∷ [] → Publishes entries fixed m m' y
  published_is entries fixed m m' x y has is there =
      subst (λ (z : Held M W). Publishes entries fixed m m' z) (ap (first_or x) (sym has ∙ there)) is

  -- the seat idles at the end of an act
  pub finishes : (number : ℕ) (kind k : Kind) (answer a : Result ℕ W) (o m p q : Self M F W) (l : List Entry) (f : F)
      (c : List (ℕ × Option (Held M W))) → m.0 ≡ o.0 → number_in o.0.role ≡ number
      → p ≡ (
        view m.0.total (Published (number_in m.0.role)
            (answered_by (history_in m.0.role) (length (entries_in m.0.role)) k a) l f),
        c,
      )
      → q ≡ (view p.0.total (Idle (number_in p.0.role) (history_in p.0.role)), []) → k ≡ kind → a ≡ answer
      → q ≡ (
        view o.0.total
            (Idle number (answered_by (history_in o.0.role) (length (entries_in o.0.role)) kind answer)),
        [],
      )
  finishes number kind k answer a o m p q l f c same num here then ek ea = then
      ∙ ((λ i. (view (here i).0.total (Idle (number_in (here i).0.role) (history_in (here i).0.role)), []))
      ∙ (λ i. (
        view (same i).total (Idle ((ap (λ (v : View F W). number_in v.role) same ∙ num) i)
            (answered_by (history_in (same i).role) (length (entries_in (same i).role)) (ek i) (ea i))),
        [],
      )))

  -- from the seat at the start of a call, through the turn, to the end of the act
  pub fired : (entries : M → List Entry) (fixed : M → F) (number : ℕ) (kind : Kind) (answer : Result ℕ W)
      (s p q : Place M F W) (x : Held M W) → Wins entries fixed s.me p.me x
      → q.me ≡ (
        view p.me.0.total
            (Idle number (answered_by (history_in p.me.0.role) (length (entries_in p.me.0.role)) kind answer)),
        [],
      )
      → q.me ≡ (
        view s.me.0.total
            (Idle number (answered_by (history_in s.me.0.role) (length (entries_in p.me.0.role)) kind answer)),
        [],
      )
  fired entries fixed number kind answer s p q x e then = then
      ∙ (λ i. (
        view (ap (λ (m : Self M F W). m.0.total) e i)
            (Idle number (answered_by (ap (λ (m : Self M F W). history_in m.0.role) e i)
            (length (entries_in p.me.0.role)) kind answer)),
        [],
      ))

  -- the seat that won the turn has the value
  pub wins : (entries : M → List Entry) (fixed : M → F) (number : ℕ) (s s' : Place M F W) (x : Held M W)
      → s.me ≡ (view s.me.0.total (Idle number (history_in s.me.0.role)), []) → Wins entries fixed s.me s'.me x
      → IsHolder entries fixed number s'
  wins entries fixed number s s' x is e = (
    history_in s.me.0.role,
    x,
    e
        ∙ (λ i. (
          view (ap (λ (m : Self M F W). m.0.total) (sym e) i)
              (Holding (ap (λ (m : Self M F W). number_in m.0.role) is i) (history_in s.me.0.role)
              (entries x.value) (fixed x.value)),
          (0, Some x) ∷ ap (λ (m : Self M F W). m.1) is i,
        )),
  )

  -- the owner has joined a seat
  pub taken : (total number count : ℕ) (js : List (ℕ × History W)) (m m' o : Self M F W) (s : SeatView W)
      → m ≡ (view total (Owner total count js), []) → o ≡ (view o.0.total (Idle number (history_in o.0.role)), [])
      → number_in o.0.role ≡ s.number → history_in o.0.role ≡ s.history → m' ≡ (joined m.0 o.0, m.1)
      → m' ≡ (view total (Owner total count (js ++ (s.number, s.history) ∷ [])), [])
  taken total number count js m m' o s is at n h e =
      let n' : number ≡ s.number = sym (ap (λ (z : Self M F W). number_in z.0.role) at) ∙ n in
      e ∙ ((λ i. (joined (is i).0 (at i).0, (is i).1))
      ∙ (λ i. (view total (Owner total count (js ++ (n' i, h i) ∷ [])), [])))

module _ (M F W : Type 0) (entries : M → List Entry) (fixed : M → F) (why : F → List Entry → Kind → W → Type 0) where
  pub acts_on : (n : ℕ) (l : List Entry) (g : F) (kind : Kind) (answer : Result ℕ W) (y : M) → fixed y ≡ g
      → IfOk answer (λ p. p ≡ length l) → IfOk answer (λ p. entries y ≡ l ++ entry n kind ∷ [])
      → IfErr answer (λ w. entries y ≡ l) → IfErr answer (λ w. why g l kind w)
      → ActsOn entries fixed why n l g kind answer y
  acts_on n l g kind (Ok p) y same place ok err reason = (ok, same, place)
  acts_on n l g kind (Err w) y same place ok err reason = (err, same, reason)

  pub counts : (n : ℕ) (l : List Entry) (g : F) (kind : Kind) (answer : Result ℕ W) (y : M) (count : ℕ)
      (at : List Entry) → ActsOn entries fixed why n l g kind answer y → count ≡ length (entries y) → at ≡ l
      → MatchResult answer (λ p. (p ≡ length at) × (count ≡ p + 1)) (λ w. count ≡ length at)
  counts n l g kind (Ok p) y count at did is same =
      let a = length-append l (entry n kind ∷ []) in
      let b : length (entries y) ≡ length (l ++ entry n kind ∷ []) = ap length did.0 in
      let c : length at ≡ length l = ap length same in
      let d : p ≡ length l = did.2 in
      (omega arith, omega arith)
  counts n l g kind (Err w) y count at did is same = is ∙ ap length (did.0 ∙ sym same)

module _ (W : Type 0) where
  pub same_seat : (s s' : SeatView W) (h : History W) → GoesOn s s' h → IsSameSeat s s'
  same_seat s s' h e = (
    ap (λ (u : SeatView W). u.turn) e,
    ap (λ (u : SeatView W). u.seats) e,
    ap (λ (u : SeatView W). u.number) e,
  )

  abbrev Counted : List Entry → ℕ → Result ℕ W → Type 0
  Counted at count a = MatchResult a (λ p. (p ≡ length at) × (count ≡ p + 1)) (λ w. count ≡ length at)

  -- the history after an answer has seen as many as the call counted
  pub seen_after : (h : History W) (at : List Entry) (kind : Kind) (answer : Result ℕ W) (count : ℕ)
      → Counted at count answer → count ≡ (answered_by h (length at) kind answer).seen
  seen_after h at kind (Ok p) count e = e.1 ∙ ap (λ (n : ℕ). n + 1) e.0
  seen_after h at kind (Err w) count e = e

  pub answers_ok : (s s' : SeatView W) (kind : Kind) (answer : Result ℕ W) (l : List Entry) (place count : ℕ)
      → answer ≡ Ok place → Counted l count answer → s.history.seen ≤ length l
      → GoesOn s s' (answered_by s.history (length l) kind answer) → Answers s kind (Ok place) s'
  answers_ok s s' kind answer l place count is counted seen told =
      let m : (place ≡ length l) × (count ≡ place + 1) = subst (Counted l count) is counted in (
        subst (λ (z : ℕ). s.history.seen ≤ z) (sym m.0) seen,
        subst (λ (z : ℕ × Result ℕ W). GoesOn s s' (answered_by s.history z.0 kind z.1)) (λ i. (sym m.0 i, is i)) told,
      )

  pub answers_err : (s s' : SeatView W) (kind : Kind) (answer : Result ℕ W) (l : List Entry) (why : W) (count : ℕ)
      → answer ≡ Err why → Counted l count answer → s.history.seen ≤ length l
      → GoesOn s s' (answered_by s.history (length l) kind answer) → Answers s kind (Err (NotFired count why)) s'
  answers_err s s' kind answer l why count is counted seen told =
      let m : count ≡ length l = subst (Counted l count) is counted in (
        subst (λ (z : ℕ). s.history.seen ≤ z) (sym m) seen,
        subst (λ (z : ℕ × Result ℕ W). GoesOn s s' (answered_by s.history z.0 kind z.1)) (λ i. (sym m i, is i)) told,
      )
