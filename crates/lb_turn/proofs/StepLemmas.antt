-- A step of the seat of one number leaves what is known of the others.
use Rattle.std.proofs.Common.{◌≡◌, ◌≢◌, ◌⊎◌, ℕ, zero, suc, ◌+◌, ◌<◌, ◌≤◌, List, [], ◌∷◌, ◌++◌, length, set, sym, refl, ap, ◌∙◌, subst, ⊎_elim, inl, inr, arith, Option, length-set, length-append, append-nil}
use Rattle.std.proofs.lemmas.List.{take-append-le, append_assoc}
use Rattle.std.specs.List.{AllByRecursion}
use mathlib.Core.Logic.{dite}
use mathlib.Core.Option.{some, some-injective}
use mathlib.Core.Option as maybe
use native.Mathlib.Decide.{ℕ_discrete}
use lib.ListN.{get_elem?}
use Rattle.atomic_table.specs.Table.{State}
use Rattle.atomic_table.proofs.Lists.{at_set, set_here, set_else}
use Rattle.lb_trace.specs.declared.Entry.{Entry}
use Rattle.lb_trace.specs.declared.Kind.{Kind}
use Rattle.lb_turn.specs.declared.table.History.{History}
use Rattle.lb_turn.specs.declared.table.Role.{Role}
use Rattle.lb_turn.specs.declared.table.Role.TheVariants.{Spent, Owner, Idle, Holding, Published}
use Rattle.lb_turn.specs.declared.table.View.{View}
use Rattle.lb_turn.specs.declared.table.Held.{Held}
use Rattle.lb_turn.specs.declared.table.Key.{Key}
use Rattle.lb_turn.specs.Entries.{receipts_of}
use Rattle.lb_turn.specs.Histories.{HasActed, IsRefused}
use Rattle.lb_turn.specs.Steps.{spent}
use Rattle.lb_turn.specs.Rule.{HasHeld, IsMet, IsTrueHistory, Knows, IsSlot, IsKept}
use Rattle.lb_turn.proofs.ListLemmas.{each_append, each_map, below_length, receipts_append, receipts_none}

-- the seat of number n leaves the view v, its history goes from h to h', the turn to turn', and the list grows by more
pub record Goes {F W : Type 0} (all : List (History W)) (views : List (View F W)) (turn turn' n : ℕ) (more : List Entry)
    (h h' : History W) (v : View F W) : Type 0 where
  pub here : get_elem? all n ≡ some h
  pub there : get_elem? views (suc n) ≡ some v
  pub live : v ≡ spent → ⊥
  pub acted : HasActed h → HasActed h'
  pub back : (k : ℕ) → k ≢ n → turn' ≡ suc k → turn ≡ suc k
  pub on : (k : ℕ) → k ≢ n → turn ≡ suc k → (turn' ≡ suc k) × (more ≡ [])
  pub mine : turn ≡ suc n → (turn' ≡ suc n) ⊎ HasActed h'
  pub own : AllByRecursion (λ e. e.worker ≡ n) more

module _ {F W : Type 0} where
  abbrev is_spent : Role F W → Type 0
  is_spent Spent = Unit {0}
  is_spent _ = ⊥

  pub never_spent : (v : View F W) → (is_spent v.role → ⊥) → v ≡ spent → ⊥
  never_spent v live e = live (subst (λ (z : View F W). is_spent z.role) (sym e) tt)

  -- a seat that leaves the turn and the list as they are
  pub goes_by : (all : List (History W)) (views : List (View F W)) (turn n : ℕ) (h h' : History W) (v : View F W)
      → get_elem? all n ≡ some h → get_elem? views (suc n) ≡ some v → (v ≡ spent → ⊥)
      → (HasActed h → HasActed h') → Goes all views turn turn n [] h h' v
  goes_by all views turn n h h' v here there live acted = record {
    here = here;
    there = there;
    live = live;
    acted = acted;
    back = λ k ne e. e;
    on = λ k ne e. (e, refl);
    mine = λ e. inl e;
    own = tt;
  }

  -- the seat that has the turn goes on, and keeps or releases it
  pub goes_on : (all : List (History W)) (views : List (View F W)) (turn turn' n : ℕ) (more : List Entry)
      (h h' : History W) (v : View F W)
      → get_elem? all n ≡ some h → get_elem? views (suc n) ≡ some v → (v ≡ spent → ⊥) → HasActed h'
      → turn ≡ suc n → ((k : ℕ) → k ≢ n → turn' ≡ suc k → ⊥) → AllByRecursion (λ e. e.worker ≡ n) more
      → Goes all views turn turn' n more h h' v
  goes_on all views turn turn' n more h h' v here there live acted holds no_other own = record {
    here = here;
    there = there;
    live = live;
    acted = λ _. acted;
    back = λ k ne e. absurd (no_other k ne e);
    on = λ k ne e. absurd (ne (omega arith));
    mine = λ e. inr acted;
    own = own;
  }

module _ {F W : Type 0} (all : List (History W)) (views : List (View F W)) (turn turn' n : ℕ) (more : List Entry)
    (h h' : History W) (v : View F W) (g : Goes all views turn turn' n more h h' v) where
  own_at : (k : ℕ) → k ≡ n → get_elem? (set all n h') k ≡ some h'
  own_at k e = subst (λ i. get_elem? (set all n h') i ≡ some h') (sym e) (set_here all n h' (below_length all n h g.here))

  -- who has had the turn still has
  held_still : (k : ℕ) → HasHeld all turn k → HasHeld (set all n h') turn' k
  held_still k (inl is) = dite (ℕ_discrete k n)
      (λ e. ⊎_elim (λ on. inl (on ∙ ap suc (sym e))) (λ a. inr (h', own_at k e, a)) (g.mine (is ∙ ap suc e)))
      (λ ne. inl (g.on k ne is).0)
  held_still k (inr x) = dite (ℕ_discrete k n)
      (λ e. let same : x.0 ≡ h = some-injective x.0 h (sym x.1 ∙ (ap (get_elem? all) e ∙ g.here)) in
      inr (h', own_at k e, g.acted (subst HasActed same x.2)))
      (λ ne. inr (x.0, set_else all n k h' ne ∙ x.1, x.2))

  pub met_still : (i : ℕ) (met : List ℕ) → AllByRecursion (IsMet all turn i) met
      → AllByRecursion (IsMet (set all n h') turn' i) met
  met_still i = each_map (IsMet all turn i) (IsMet (set all n h') turn' i)
      (λ k p. (subst (λ z. k < z) (sym (length-set all n h')) p.0, p.1, held_still k p.2))

  -- what another seat knows stays so
  others_know : (seats : ℕ) (list : List Entry) (f : F) (w : View F W) (place total : ℕ) → place ≢ suc n → (r : Role F W)
      → Knows seats turn list f all views place total r
      → Knows seats turn' (list ++ more) f (set all n h') (set views (suc n) w) place total r
  others_know seats list f w place total other Spent k = tt
  others_know seats list f w place total other (Owner split count joined) k = (
    k.0,
    k.1,
    k.2 ∙ sym (length-set all n h'),
    each_map _ _ (λ x q. (let apart = still_apart x.0 q.1 in
        (set_else all n x.0 h' apart ∙ q.0, set_else views (suc n) (suc x.0) w (λ e. apart (omega arith)) ∙ q.1)))
        joined k.3,
  )
    where
      still_apart : (i : ℕ) → get_elem? views (suc i) ≡ some spent → i ≢ n
      still_apart i q e = g.live (some-injective v spent (sym g.there ∙ (ap (λ i. get_elem? views (suc i)) (sym e) ∙ q)))
  others_know seats list f w place total other (Idle i u) k =
      let at = k.0.0 in let apart : i ≢ n = (λ e. other (at ∙ ap suc e)) in
      ((k.0.0, k.0.1, set_else all n i h' apart ∙ k.0.2), λ e. k.1 (g.back i apart e))
  others_know seats list f w place total other (Holding i u l fixed) k =
      let at = k.0.0 in let apart : i ≢ n = (λ e. other (at ∙ ap suc e)) in let o = g.on i apart k.1 in (
        (k.0.0, k.0.1, set_else all n i h' apart ∙ k.0.2),
        o.0,
        k.2 ∙ (sym (append-nil list) ∙ ap (λ z. list ++ z) (sym o.1)),
        k.3,
      )
  others_know seats list f w place total other (Published i u l fixed) k =
      let at = k.0.0 in let apart : i ≢ n = (λ e. other (at ∙ ap suc e)) in let o = g.on i apart k.1 in (
        (k.0.0, k.0.1, set_else all n i h' apart ∙ k.0.2),
        o.0,
        k.2 ∙ (sym (append-nil list) ∙ ap (λ z. list ++ z) (sym o.1)),
        k.3,
        k.4,
      )

module _ {F W : Type 0} (why : F → List Entry → Kind → W → Type 0) (f : F) (list more : List Entry) where
  -- what was refused still holds
  pub refused_still : (rs : List (ℕ × Kind × W)) → AllByRecursion (IsRefused why f list) rs
      → AllByRecursion (IsRefused why f (list ++ more)) rs
  refused_still = each_map (IsRefused why f list) (IsRefused why f (list ++ more))
      (λ r p. (let l = length-append list more in let b : r.0 ≤ length list = p.0 in
      (omega arith, subst (λ z. why f z r.1 r.2) (sym (take-append-le r.0 list more b)) p.1)))

  -- the history of another number stays true
  others_true : (start : ℕ) (rest : List Entry) (all : List (History W)) (views : List (View F W)) (turn turn' n : ℕ)
      (h h' : History W) (v : View F W) → Goes all views turn turn' n more h h' v → (i : ℕ) (u : History W) → i ≢ n
      → IsTrueHistory why f list start rest turn all i u
      → IsTrueHistory why f (list ++ more) start (rest ++ more) turn' (set all n h') i u
  others_true start rest all views turn turn' n h h' v g i u other ok = record {
    seen = (let l = length-append list more in let b = ok.seen in omega arith);
    receipts = ok.receipts ∙ (sym (append-nil (receipts_of i start rest))
        ∙ (ap (λ z. receipts_of i start rest ++ z)
        (sym (receipts_none i (start + length rest) more (each_map _ _ (λ e p q. other (sym q ∙ p)) more g.own)))
        ∙ sym (receipts_append i start rest more)));
    refusals = refused_still u.refusals ok.refusals;
    met = met_still all views turn turn' n more h h' v g i u.met ok.met;
  }

module _ {M F W : Type 0} (entries : M → List Entry) (fixed : M → F) (why : F → List Entry → Kind → W → Type 0)
    (key : Key M) where
  abbrev S : Type 0
  S = Option (Held M W)

  abbrev V : Type 0
  V = View F W

  abbrev base : List Entry
  base = entries key.opened.value

  abbrev f : F
  f = fixed key.opened.value

  abbrev Ruled : State S V → Type 0
  Ruled = IsKept entries fixed why key

  -- the rule after a step of the seat of number n, which has the view w then
  pub moved : (s : State S V) (r : Ruled s) (n : ℕ) (h h' : History W) (v w : V) (turn' : ℕ) (more : List Entry)
      (ws : List ℕ) (homes : List (maybe.Option S)) → Goes r.all s.views r.turn turn' n more h h' v
      → ws ≡ turn' ∷ length (base ++ r.rest ++ more) ∷ []
      → IsSlot entries fixed homes (set s.views (suc n) w) f (base ++ r.rest ++ more) (length (set r.all n h')) turn'
      → Knows key.seats turn' (base ++ r.rest ++ more) f (set r.all n h') (set s.views (suc n) w) (suc n) w.total w.role
      → IsTrueHistory why f (base ++ r.rest ++ more) (length base) (r.rest ++ more) turn' (set r.all n h') n h'
      → Ruled record { words = ws; homes = homes; views = set s.views (suc n) w }
  moved s r n h h' v w turn' more ws homes g words slot knows true_now =
      let list : List Entry = base ++ r.rest in
      let all : List (History W) = set r.all n h' in
      let views : List V = set s.views (suc n) w in
      let same : list ++ more ≡ base ++ (r.rest ++ more) = append_assoc base r.rest more in
      let longer = length-set r.all n h' in
      record {
        rest = r.rest ++ more;
        turn = turn';
        all = all;
        words = words ∙ ap (λ z. turn' ∷ length z ∷ []) same;
        as_many = (let l = length-set s.views (suc n) w in let a = r.as_many in omega arith);
        few = (let a = r.few in omega arith);
        named = each_append _ r.rest more (each_map _ _ (λ e p. omega arith) r.rest r.named)
            (each_map _ _ (λ e p. let b = below_length r.all n h g.here in omega arith) more g.own);
        slot = subst (λ z. IsSlot entries fixed homes views f z (length all) turn') same slot;
        each_view = λ p u e. subst (λ z. Knows key.seats turn' z f all views p u.total u.role) same
            (⊎_elim
            (λ (q : (p ≡ suc n) × (w ≡ u)). subst
            (λ (z : ℕ × V). Knows key.seats turn' (list ++ more) f all views z.0 z.1.total z.1.role)
            (λ i. (sym q.0 i, q.1 i)) knows)
            (λ (q : (p ≢ suc n) × (get_elem? s.views p ≡ some u)).
            others_know r.all s.views r.turn turn' n more h h' v g key.seats list f w p u.total q.0 u.role
            (r.each_view p u q.1))
            (at_set s.views (suc n) p w u e));
        each_history = λ i u e. subst (λ z. IsTrueHistory why f z (length base) (r.rest ++ more) turn' all i u) same
            (⊎_elim
            (λ (q : (i ≡ n) × (h' ≡ u)). subst
            (λ (z : ℕ × History W). IsTrueHistory why f (list ++ more) (length base) (r.rest ++ more) turn' all z.0 z.1)
            (λ j. (sym q.0 j, q.1 j)) true_now)
            (λ (q : (i ≢ n) × (get_elem? r.all i ≡ some u)).
            others_true why f list more (length base) r.rest r.all s.views r.turn turn' n h h' v g i u q.0
            (r.each_history i u q.1))
            (at_set r.all n i h' u e));
      }

  -- the same where the list stays
  pub stayed : (s : State S V) (r : Ruled s) (n : ℕ) (h h' : History W) (v w : V) (turn' : ℕ) (ws : List ℕ)
      (homes : List (maybe.Option S)) → Goes r.all s.views r.turn turn' n [] h h' v
      → ws ≡ turn' ∷ length (base ++ r.rest) ∷ []
      → IsSlot entries fixed homes (set s.views (suc n) w) f (base ++ r.rest) (length (set r.all n h')) turn'
      → Knows key.seats turn' (base ++ r.rest) f (set r.all n h') (set s.views (suc n) w) (suc n) w.total w.role
      → IsTrueHistory why f (base ++ r.rest) (length base) r.rest turn' (set r.all n h') n h'
      → Ruled record { words = ws; homes = homes; views = set s.views (suc n) w }
  stayed s r n h h' v w turn' ws homes g words slot knows true_now =
      let all : List (History W) = set r.all n h' in
      let views : List V = set s.views (suc n) w in
      let whole : base ++ r.rest ++ [] ≡ base ++ r.rest = append-nil (base ++ r.rest) in
      let part : r.rest ++ [] ≡ r.rest = append-nil r.rest in
      moved s r n h h' v w turn' [] ws homes g
      (words ∙ ap (λ z. turn' ∷ length z ∷ []) (sym whole))
      (subst (λ z. IsSlot entries fixed homes views f z (length all) turn') (sym whole) slot)
      (subst (λ z. Knows key.seats turn' z f all views (suc n) w.total w.role) (sym whole) knows)
      (subst (λ (z : List Entry × List Entry). IsTrueHistory why f z.0 (length base) z.1 turn' all n h')
      (λ i. (sym whole i, sym part i)) true_now)

  -- the slot stays where the seat that steps neither has the value nor takes it
  pub slot_stays : (s : State S V) (r : Ruled s) (n : ℕ) (h' : History W) (w : V) → r.turn ≢ suc n
      → (turn : ℕ) → r.turn ≡ turn → IsSlot entries fixed s.homes s.views f (base ++ r.rest) (length r.all) turn
      → IsSlot entries fixed s.homes (set s.views (suc n) w) f (base ++ r.rest) (length (set r.all n h')) turn
  slot_stays s r n h' w away zero is x = x
  slot_stays s r n h' w away (suc k) is x = (
    x.0,
    subst (λ z. k < z) (sym (length-set r.all n h')) x.1,
    (x.2.0, set_else s.views (suc n) (suc k) w (λ e. away (is ∙ e)) ∙ x.2.1, x.2.2),
  )
