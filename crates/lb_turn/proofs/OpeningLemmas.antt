-- The rule where a turn is opened, and where a seat is split off.
use Rattle.std.proofs.Common.{◌≡◌, ◌≢◌, ℕ, zero, suc, ◌+◌, ◌<◌, List, [], ◌∷◌, ◌++◌, length, set, sym, refl, ap, ◌∙◌, subst, ⊎_elim, inl, inr, arith, Option, Some, length-set, length-append, append-nil}
use mathlib.Core.Option.{some, some-injective, some-ne-none}
use mathlib.Core.Option as maybe
use lib.ListN.{get_elem?}
use Rattle.atomic_table.specs.Table.{State, Splits, opening}
use Rattle.atomic_table.proofs.Lists.{at_set, set_else, at_longer, at_last}
use Rattle.lb_trace.specs.declared.Entry.{Entry}
use Rattle.lb_trace.specs.declared.Kind.{Kind}
use Rattle.lb_turn.specs.declared.table.History.{History}
use Rattle.lb_turn.specs.declared.table.Role.{Role}
use Rattle.lb_turn.specs.declared.table.Role.TheVariants.{Spent, Owner, Idle, Holding, Published}
use Rattle.lb_turn.specs.declared.table.View.{View}
use Rattle.lb_turn.specs.declared.table.Held.{Held}
use Rattle.lb_turn.specs.declared.table.Key.{Key}
use Rattle.lb_turn.specs.Histories.{fresh}
use Rattle.lb_turn.specs.Steps.{view, split_owner, split_off}
use Rattle.lb_turn.specs.Rule.{HasHeld, IsTrueHistory, Knows, IsSlot, IsKept, first_view}
use Rattle.lb_turn.proofs.ListLemmas.{each_map, at_one_more, receipts_none}

module _ {M F W : Type 0} (entries : M → List Entry) (fixed : M → F) (why : F → List Entry → Kind → W → Type 0)
    (key : Key M) where
  abbrev S : Type 0
  S = Option (Held M W)

  abbrev V : Type 0
  V = View F W

  abbrev base : List Entry
  base = entries key.opened.value

  abbrev f : F
  f = fixed key.opened.value

  abbrev Ruled : State S V → Type 0
  Ruled = IsKept entries fixed why key

  abbrev first : V
  first = first_view entries fixed key

  pub opens : (count : ℕ) (x : Held M W) → count ≡ length base → key.opened.value ≡ x.value
      → Ruled (opening (0 ∷ count ∷ []) (Some x ∷ []) (first_view entries fixed key))
  opens count x is same = record {
    rest = [];
    turn = 0;
    all = [];
    words = ap (λ z. 0 ∷ z ∷ []) (is ∙ ap length (sym (append-nil base)));
    as_many = refl;
    few = omega arith;
    named = tt;
    slot = (x, refl, ap entries (sym same) ∙ sym (append-nil base), ap fixed (sym same));
    each_view = λ p v e. only p v e;
    each_history = λ n h e. absurd (some-ne-none h (sym e));
  }
    where
      only : (p : ℕ) (v : V) → get_elem? (first ∷ []) p ≡ some v
          → Knows key.seats 0 (base ++ []) f [] (first ∷ []) p v.total v.role
      only zero v e = subst (λ (z : V). Knows key.seats 0 (base ++ []) f [] (first ∷ []) 0 z.total z.role)
          (some-injective first v e) (refl, refl, refl, tt)
      only (suc p) v e = absurd (some-ne-none v (sym e))

  turn_below : (homes : List (maybe.Option S)) (views : List V) (list : List Entry) (n turn k : ℕ) → turn ≡ suc k
      → IsSlot entries fixed homes views f list n turn → k < n
  turn_below homes views list n zero k e slot = absurd (omega arith)
  turn_below homes views list n (suc j) k e slot = let b = slot.1 in omega arith

  longer_slot : (homes : List (maybe.Option S)) (views : List V) (w x : V) (list : List Entry) (n turn : ℕ)
      → IsSlot entries fixed homes views f list n turn
      → IsSlot entries fixed homes (set views 0 w ++ x ∷ []) f list (n + 1) turn
  longer_slot homes views w x list n zero slot = slot
  longer_slot homes views w x list n (suc k) slot = let b = slot.1 in (
    slot.0,
    omega arith,
    (
      slot.2.0,
      at_longer (set views 0 w) (x ∷ []) (suc k) slot.2.0
          (set_else views 0 (suc k) w (λ e. omega arith) ∙ slot.2.1),
      slot.2.2,
    ),
  )

  -- what a seat knows stays so where another one comes
  longer_knows : (turn : ℕ) (list : List Entry) (all : List (History W)) (h : History W) (views views' : List V)
      (p total : ℕ) → p ≢ 0 → (r : Role F W) → Knows key.seats turn list f all views p total r
      → Knows key.seats turn list f (all ++ h ∷ []) views' p total r
  longer_knows turn list all h views views' p total other Spent k = tt
  longer_knows turn list all h views views' p total other (Owner split count joined) k = absurd (other k.0)
  longer_knows turn list all h views views' p total other (Idle n u) k =
      ((k.0.0, k.0.1, at_longer all (h ∷ []) n u k.0.2), k.1)
  longer_knows turn list all h views views' p total other (Holding n u l g) k =
      ((k.0.0, k.0.1, at_longer all (h ∷ []) n u k.0.2), k.1, k.2, k.3)
  longer_knows turn list all h views views' p total other (Published n u l g) k =
      ((k.0.0, k.0.1, at_longer all (h ∷ []) n u k.0.2), k.1, k.2, k.3, k.4)

  longer_held : (all : List (History W)) (h : History W) (turn k : ℕ) → HasHeld all turn k
      → HasHeld (all ++ h ∷ []) turn k
  longer_held all h turn k (inl e) = inl e
  longer_held all h turn k (inr x) = inr (x.0, at_longer all (h ∷ []) k x.0 x.1, x.2)

  -- the owner that has split off n seats
  abbrev splitter : ℕ → V
  splitter n = view key.seats (Owner n (length base) [])

  pub splits : (id n : ℕ) → n < key.seats
      → Splits Ruled id (splitter n) (split_owner (splitter n)) (split_off (splitter n))
  splits id n room s r at =
      let v : V = splitter n in
      let w : V = splitter (n + 1) in
      let h : History W = fresh (length base) in
      let x : V = view key.seats (Idle n h) in
      let k = r.each_view id v at in
      let here : id ≡ 0 = k.0 in
      let many : n ≡ length r.all = k.2 in
      let list : List Entry = base ++ r.rest in
      let views : List V = set s.views 0 w ++ x ∷ [] in
      let long = length-set s.views 0 w in
      let as_many = r.as_many in
      let all : List (History W) = r.all ++ h ∷ [] in
      let more : length all ≡ length r.all + 1 = length-append r.all (h ∷ []) in
      subst (λ i. Ruled record { words = s.words; homes = s.homes; views = set s.views i w ++ x ∷ [] }) (sym here) record {
        rest = r.rest;
        turn = r.turn;
        all = all;
        words = r.words;
        as_many = (let l = length-append (set s.views 0 w) (x ∷ []) in omega arith);
        few = (omega arith);
        named = each_map _ _ (λ e p. omega arith) r.rest r.named;
        slot = subst (λ z. IsSlot entries fixed s.homes views f list z r.turn) (sym more)
            (longer_slot s.homes s.views w x list (length r.all) r.turn r.slot);
        each_view = λ p u e. ⊎_elim
            (λ (old : get_elem? (set s.views 0 w) p ≡ some u). ⊎_elim
            (λ (q : (p ≡ 0) × (w ≡ u)). subst
            (λ (z : ℕ × V). Knows key.seats r.turn list f all views z.0 z.1.total z.1.role)
            (λ i. (sym q.0 i, q.1 i)) (refl, refl, (omega arith), tt))
            (λ (q : (p ≢ 0) × (get_elem? s.views p ≡ some u)).
            longer_knows r.turn list r.all h s.views views p u.total q.0 u.role (r.each_view p u q.1))
            (at_set s.views 0 p w u old))
            (λ (q : (p ≡ length (set s.views 0 w)) × (x ≡ u)). subst
            (λ (z : ℕ × V). Knows key.seats r.turn list f all views z.0 z.1.total z.1.role)
            (λ i. (sym q.0 i, q.1 i)) (
              ((omega arith), refl, at_last r.all h n (sym many)),
              λ e. let b = turn_below s.homes s.views list (length r.all) r.turn n e r.slot in omega arith,
            ))
            (at_one_more (set s.views 0 w) x u p e);
        each_history = λ i u e. ⊎_elim
            (λ (old : get_elem? r.all i ≡ some u). let ok = r.each_history i u old in record {
              seen = ok.seen;
              receipts = ok.receipts;
              refusals = ok.refusals;
              met = each_map _ _ (λ j p. let b = p.0 in (omega arith, p.1, longer_held r.all h r.turn j p.2)) u.met ok.met;
            })
            (λ (q : (i ≡ length r.all) × (h ≡ u)). subst
            (λ (z : ℕ × History W). IsTrueHistory why f list (length base) r.rest r.turn all z.0 z.1)
            (λ i. (sym q.0 i, q.1 i)) record {
              seen = (let l = length-append base r.rest in omega arith);
              receipts = sym (receipts_none (length r.all) (length base) r.rest
                  (each_map _ _ (λ e p g. omega arith) r.rest r.named));
              refusals = tt;
              met = tt;
            })
            (at_one_more r.all h u i e);
      }
