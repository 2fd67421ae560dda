-- The rule where a seat is joined, and what it says once all are.
use Rattle.std.proofs.Common.{◌≡◌, ◌≢◌, ℕ, zero, suc, ◌<◌, ◌≤◌, List, [], ◌∷◌, ◌++◌, length, set, sym, refl, ap, ◌∙◌, subst, ⊎_elim, inl, inr, arith, Option, Some, length-set}
use Rattle.std.proofs.lemmas.List.Elements.{All-from_recursion}
use Rattle.std.specs.List.{AllByRecursion}
use Rattle.std.specs.Prelude.{All}
use mathlib.Core.Logic.{dite}
use mathlib.Core.Option.{some, none, some-injective}
use mathlib.Core.Option as maybe
use native.Mathlib.Decide.{ℕ_discrete}
use lib.ListN.{get_elem?}
use Rattle.atomic_table.specs.Table.{State, Joins, Final, Seen}
use Rattle.atomic_table.proofs.Lists.{at_set, set_here, set_else}
use Rattle.lb_trace.specs.declared.Entry.{Entry}
use Rattle.lb_trace.specs.declared.Kind.{Kind}
use Rattle.lb_turn.specs.declared.table.History.{History}
use Rattle.lb_turn.specs.declared.table.Role.{Role}
use Rattle.lb_turn.specs.declared.table.Role.TheVariants.{Spent, Owner, Idle, Holding, Published}
use Rattle.lb_turn.specs.declared.table.View.{View}
use Rattle.lb_turn.specs.declared.table.Held.{Held}
use Rattle.lb_turn.specs.declared.table.Key.{Key}
use Rattle.lb_turn.specs.Entries.{receipts_of}
use Rattle.lb_turn.specs.Histories.{HasActed, IsRefused}
use Rattle.lb_turn.specs.Steps.{view, spent, joined}
use Rattle.lb_turn.specs.Rule.{HasHeld, Knows, IsJoined, HasValue, IsSlot, IsKept}
use Rattle.lb_turn.specs.Seats.{SeatView, TurnView}
use Rattle.lb_turn.specs.Closing.{Among, IsComplete, IsHolderSeen, Closes}
use Rattle.lb_turn.proofs.ListLemmas.{each_append, each_map, each_at, below_length}

module _ {M F W : Type 0} (entries : M → List Entry) (fixed : M → F) (why : F → List Entry → Kind → W → Type 0)
    (key : Key M) where
  abbrev S : Type 0
  S = Option (Held M W)

  abbrev V : Type 0
  V = View F W

  abbrev base : List Entry
  base = entries key.opened.value

  abbrev f : F
  f = fixed key.opened.value

  abbrev Ruled : State S V → Type 0
  Ruled = IsKept entries fixed why key

  -- what a seat knows stays so where the owner joins another one
  joined_knows : (turn : ℕ) (list : List Entry) (all : List (History W)) (views views' : List V) (p total : ℕ)
      → p ≢ 0 → (r : Role F W) → Knows key.seats turn list f all views p total r
      → Knows key.seats turn list f all views' p total r
  joined_knows turn list all views views' p total other Spent k = tt
  joined_knows turn list all views views' p total other (Owner split count joined) k = absurd (other k.0)
  joined_knows turn list all views views' p total other (Idle n u) k = k
  joined_knows turn list all views views' p total other (Holding n u l g) k = k
  joined_knows turn list all views views' p total other (Published n u l g) k = k

  joined_slot : (homes : List (maybe.Option S)) (views : List V) (v w : V) (n : ℕ) (list : List Entry) (many turn : ℕ)
      → turn ≢ suc n → IsSlot entries fixed homes views f list many turn
      → IsSlot entries fixed homes (set (set views 0 v) (suc n) w) f list many turn
  joined_slot homes views v w n list many zero away slot = slot
  joined_slot homes views v w n list many (suc k) away slot = (
    slot.0,
    slot.1,
    (
      slot.2.0,
      set_else (set views 0 v) (suc n) (suc k) w (λ e. away e)
          ∙ (set_else views 0 (suc k) v (λ e. omega arith) ∙ slot.2.1),
      slot.2.2,
    ),
  )

  abbrev joiner : ℕ → ℕ → ℕ → List (ℕ × History W) → V
  joiner total split count js = view total (Owner split count js)

  pub joins : (id other total split count n : ℕ) (js : List (ℕ × History W)) (h : History W) (total' : ℕ)
      → Joins Ruled id (joiner total split count js) other (view total' (Idle n h))
      (joined (joiner total split count js) (view total' (Idle n h))) spent
  joins id other total split count n js h total' s r at apart there =
      let v : V = joiner total split count js in
      let x : V = view total' (Idle n h) in
      let w : V = joiner total split count (js ++ (n, h) ∷ []) in
      let k = r.each_view id v at in
      let there' : get_elem? s.views other ≡ some x = sym (set_else s.views id other w apart) ∙ there in
      let kx = r.each_view other x there' in
      let id_is : id ≡ 0 = k.0 in
      let other_is : other ≡ suc n = kx.0.0 in
      let list : List Entry = base ++ r.rest in
      let views : List V = set (set s.views 0 w) (suc n) spent in
      let room : suc n < length (set s.views 0 w) =
      (let l = length-set s.views 0 w in let b = below_length s.views other x there' in omega arith) in
      let gone : get_elem? views (suc n) ≡ some spent = set_here (set s.views 0 w) (suc n) spent room in
      subst (λ (z : ℕ × ℕ). Ruled record { words = s.words; homes = s.homes; views = set (set s.views z.0 w) z.1 spent })
      (λ i. (sym id_is i, sym other_is i)) record {
        rest = r.rest;
        turn = r.turn;
        all = r.all;
        words = r.words;
        as_many = length-set (set s.views 0 w) (suc n) spent ∙ (length-set s.views 0 w ∙ r.as_many);
        few = r.few;
        named = r.named;
        slot = joined_slot s.homes s.views w spent n list (length r.all) r.turn kx.1 r.slot;
        each_view = λ p u e. ⊎_elim
            (λ (q : (p ≡ suc n) × (spent ≡ u)). subst
            (λ (z : V). Knows key.seats r.turn list f r.all views p z.total z.role) q.1 tt)
            (λ (q : (p ≢ suc n) × (get_elem? (set s.views 0 w) p ≡ some u)). ⊎_elim
            (λ (o : (p ≡ 0) × (w ≡ u)). subst
            (λ (z : ℕ × V). Knows key.seats r.turn list f r.all views z.0 z.1.total z.1.role)
            (λ i. (sym o.0 i, o.1 i)) (
              refl,
              k.1,
              k.2,
              each_append _ js ((n, h) ∷ [])
                  (each_map _ _ (λ y a. (
                    a.0,
                    dite (ℕ_discrete y.0 n)
                        (λ e. ap (λ (i : ℕ). get_elem? views (suc i)) e ∙ gone)
                        (λ ne. set_else (set s.views 0 w) (suc n) (suc y.0) spent (λ e. ne (omega arith))
                        ∙ (set_else s.views 0 (suc y.0) w (λ e. omega arith) ∙ a.1)),
                  )) js k.3)
                  ((kx.0.2, gone), tt),
            ))
            (λ (o : (p ≢ 0) × (get_elem? s.views p ≡ some u)).
            joined_knows r.turn list r.all s.views views p u.total o.0 u.role (r.each_view p u o.1))
            (at_set s.views 0 p w u q.1))
            (at_set (set s.views 0 w) (suc n) p spent u e);
        each_history = r.each_history;
      }

  has_no_value : (v : V) → v ≡ spent → HasValue v.role → ⊥
  has_no_value v e has = subst (λ (z : V). HasValue z.role) e has

  -- where each seat is spent, the value is in its slot
  at_home : (homes : List (maybe.Option S)) (views : List V) (list : List Entry) (n turn : ℕ)
      → ((k : ℕ) → k < n → get_elem? views (suc k) ≡ some spent) → IsSlot entries fixed homes views f list n turn
      → (x : Held M W) × ((homes ≡ some (Some x) ∷ []) × (entries x.value ≡ list) × (fixed x.value ≡ f)) × (turn ≡ 0)
  at_home homes views list n zero all_spent slot = (slot.0, (slot.1, slot.2, slot.3), refl)
  at_home homes views list n (suc k) all_spent slot = absurd (has_no_value slot.2.0
      (some-injective slot.2.0 spent (sym slot.2.1 ∙ all_spent k slot.1)) slot.2.2)

  has_acted : (all : List (History W)) (turn k : ℕ) (h : History W) → turn ≡ 0 → get_elem? all k ≡ some h
      → HasHeld all turn k → HasActed h
  has_acted all turn k h z e (inl is) = absurd (omega arith)
  has_acted all turn k h z e (inr y) = subst HasActed (some-injective y.0 h (sym y.1 ∙ e)) y.2

  -- what the rule says once the owner has joined all
  settles : (id seats count : ℕ) (js : List (ℕ × History W)) (list : List (SeatView W)) (o : TurnView M) (s : State S V)
      (r : Ruled s) → get_elem? s.views id ≡ some (view seats (Owner seats count js)) → o.value ≡ key.opened.value
      → o.seats ≡ seats → AllByRecursion (λ (u : SeatView W). Among (u.number, u.history) js) list
      → IsComplete seats list
      → (x : Held M W) × (get_elem? s.homes 0 ≡ some (some (Some x))) × Closes entries fixed why o list x.value
  settles id seats count js list o s r at value many taken complete =
      let k = r.each_view id (view seats (Owner seats count js)) at in
      let total : seats ≡ length r.all = k.2 in
      let log : List Entry = base ++ r.rest in
      let held : AllByRecursion (λ (u : SeatView W). IsJoined key.seats r.turn log f r.all s.views id seats (u.number, u.history)) list =
      each_map _ _ (λ u a. each_at _ js a.0 (u.number, u.history) k.3 a.1) list taken in
      let home = at_home s.homes s.views log (length r.all) r.turn
      (λ i b. let q = complete i (omega arith) in
      subst (λ (i : ℕ). get_elem? s.views (suc i) ≡ some spent) q.2 (each_at _ list q.1.0 q.0 held q.1.1).1) r.slot in
      let x : Held M W = home.0 in
      let same : entries x.value ≡ log = home.1.1 in (
        x,
        ap (λ hs. get_elem? hs 0) home.1.0,
        record {
          same = home.1.2 ∙ ap fixed (sym value);
          rest = r.rest;
          goes_on = same ∙ ap (λ v. entries v ++ r.rest) (sym value);
          complete = subst (λ z. IsComplete z list) (sym many) complete;
          named = All-from_recursion (λ e. e.worker < o.seats) r.rest (each_map _ _ (λ e p. omega arith) r.rest r.named);
          seen = All-from_recursion (λ u. u.history.seen ≤ length (entries x.value)) list (each_map _ _
              (λ u a. subst (λ (z : List Entry). u.history.seen ≤ length z) (sym same)
              (r.each_history u.number u.history a.0).seen) list held);
          receipts = All-from_recursion
              (λ u. u.history.receipts ≡ receipts_of u.number (length (entries o.value)) r.rest) list (each_map _ _
              (λ u a. (r.each_history u.number u.history a.0).receipts
              ∙ ap (λ v. receipts_of u.number (length (entries v)) r.rest) (sym value)) list held);
          refusals = All-from_recursion
              (λ u. All (IsRefused why (fixed o.value) (entries x.value)) u.history.refusals) list (each_map _ _
              (λ u a. All-from_recursion (IsRefused why (fixed o.value) (entries x.value)) u.history.refusals
              (subst (λ (z : M × List Entry). AllByRecursion (IsRefused why (fixed z.0) z.1) u.history.refusals)
              (λ i. (sym value i, sym same i)) (r.each_history u.number u.history a.0).refusals)) list held);
          met = All-from_recursion (λ u. All (IsHolderSeen list u) u.history.met) list (each_map _ _
              (λ u a. All-from_recursion (IsHolderSeen list u) u.history.met (each_map _ _
              (λ i p. (
                p.1,
                let b = p.0 in let q = complete i (omega arith) in (
                  q.0,
                  q.1,
                  q.2,
                  has_acted r.all r.turn i q.0.history home.2
                      (subst (λ (i : ℕ). get_elem? r.all i ≡ some q.0.history) q.2 (each_at _ list q.1.0 q.0 held q.1.1).0)
                      p.2,
                ),
              ))
              u.history.met (r.each_history u.number u.history a.0).met)) list held);
        },
      )

  -- the value that is found in the slot at the end
  pub given_back : (id seats count : ℕ) (js : List (ℕ × History W)) (list : List (SeatView W)) (o : TurnView M) (m : V)
      (ws : List ℕ) (xs : List S) (found : S) → m ≡ view seats (Owner seats count js) → Final (Seen Ruled id m) ws xs
      → o.value ≡ key.opened.value → o.seats ≡ seats
      → AllByRecursion (λ (u : SeatView W). Among (u.number, u.history) js) list → IsComplete seats list
      → get_elem? xs 0 ≡ some found → (x : Held M W) × (found ≡ Some x) × Closes entries fixed why o list x.value
  given_back id seats count js list o m ws xs found is end value many taken complete here =
      let t = settles id seats count js list o end.0 end.1.0 (end.1.1 ∙ ap some is) value many taken complete in
      (t.0, some-injective found (Some t.0) (sym here ∙ end.4 0 (Some t.0) t.1), t.2)
