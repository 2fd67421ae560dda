-- Each step of a seat keeps the rule, and tells what it is to tell.
use Rattle.std.proofs.Common.{◌≡◌, ◌≢◌, ℕ, zero, suc, ◌+◌, ◌-◌, ◌<◌, ◌≤◌, eqb, List, [], ◌∷◌, ◌++◌, length, take, get_or, set, sym, refl, ap, ◌∙◌, subst, inl, arith, Option, Some, Result, Ok, Err, length-set, length-append, ne_eqb}
use Rattle.std.proofs.lemmas.List.{take_all}
use mathlib.Core.Option.{some, none}
use lib.ListN.{get_elem?}
use prog.Atomic.{either}
use Rattle.atomic_table.specs.Table.{State, Me, step, Act, keeps, takes, gives, stepped, Valid, carried_after, Allows}
use Rattle.atomic_table.proofs.Lists.{set_here}
use Rattle.lb_trace.specs.declared.Entry.{Entry}
use Rattle.lb_trace.specs.declared.Kind.{Kind}
use Rattle.lb_turn.specs.declared.table.History.{History}
use Rattle.lb_turn.specs.declared.table.Role.TheVariants.{Idle, Holding, Published}
use Rattle.lb_turn.specs.declared.table.View.{View}
use Rattle.lb_turn.specs.declared.table.Held.{Held}
use Rattle.lb_turn.specs.declared.table.Key.{Key}
use Rattle.lb_turn.specs.Entries.{entry, receipts_of}
use Rattle.lb_turn.specs.Histories.{HasActed, met_by, loaded_by, answered_by}
use Rattle.lb_turn.specs.Steps.{view, tried, published, released, loaded}
use Rattle.lb_turn.specs.Rule.{Knows, IsSlot, IsKept}
use Rattle.lb_turn.specs.InternalSeats.{ActsOn}
use Rattle.lb_turn.proofs.ListLemmas.{each_append, below_length, receipts_append, receipts_one}
use Rattle.lb_turn.proofs.StepLemmas.{Goes, goes_by, goes_on, never_spent, met_still, refused_still, moved, stayed, slot_stays}

module _ {M F W : Type 0} (entries : M → List Entry) (fixed : M → F) (why : F → List Entry → Kind → W → Type 0)
    (key : Key M) where
  abbrev S : Type 0
  S = Option (Held M W)

  abbrev V : Type 0
  V = View F W

  abbrev base : List Entry
  base = entries key.opened.value

  abbrev f : F
  f = fixed key.opened.value

  abbrev Ruled : State S V → Type 0
  Ruled = IsKept entries fixed why key

  abbrev idle : ℕ → ℕ → History W → V
  idle total n h = view total (Idle n h)

  abbrev holding : ℕ → ℕ → History W → List Entry → F → V
  holding total n h l g = view total (Holding n h l g)

  loads_idle : (slots id total n : ℕ) (h : History W)
      → Allows Ruled slots id (idle total n h, []) 1 (λ x. x) (loaded (step slots 1 0 0 none) (idle total n h, []))
  loads_idle slots id total n h s r wide at small =
      let k = r.each_view id (idle total n h) at in
      let here : id ≡ suc n = k.0.0 in
      let count : get_or s.words 1 0 ≡ length (base ++ r.rest) = ap (λ ws. get_or ws 1 0) r.words in
      let old = r.each_history n h k.0.2 in
      let h' : History W = loaded_by h (get_or s.words 1 0) in
      let w : V = idle total n h' in
      let at' : get_elem? s.views (suc n) ≡ some (idle total n h) =
      subst (λ i. get_elem? s.views i ≡ some (idle total n h)) here at in
      let g : Goes r.all s.views r.turn r.turn n [] h h' (idle total n h) =
      goes_by r.all s.views r.turn n h h' (idle total n h) k.0.2 at' (never_spent (idle total n h) (λ x. x)) (λ a. a) in (
        w,
        keeps,
        tt,
        subst (λ i. Ruled record { words = set s.words 1 (get_or s.words 1 0); homes = s.homes; views = set s.views i w })
            (sym here)
            (stayed entries fixed why key s r n h h' (idle total n h) w r.turn (set s.words 1 (get_or s.words 1 0)) s.homes g
            (ap (λ ws. set ws 1 (get_or ws 1 0)) r.words)
            (slot_stays entries fixed why key s r n h' w k.1 r.turn refl r.slot)
            ((refl, k.0.1, set_here r.all n h' (below_length r.all n h k.0.2)), k.1)
            record {
              seen = (let c = count in omega arith);
              receipts = old.receipts;
              refusals = old.refusals;
              met = met_still _ _ _ _ _ _ _ _ _ g n h.met old.met;
            }),
        ((let c = count in let b = old.seen in omega arith), refl),
      )

  -- a load of the count, for a seat whose view is told by an equation
  pub loads : (slots id : ℕ) (m : Me S V) (total n : ℕ) (h : History W) → m ≡ (idle total n h, [])
      → Allows Ruled slots id m 1 (λ x. x) (loaded (step slots 1 0 0 none) m)
  loads slots id m total n h is = subst
      (λ z. Allows Ruled slots id z 1 (λ x. x) (loaded (step slots 1 0 0 none) z)) (sym is)
      (loads_idle slots id total n h)

  -- the rule after a try that found this turn, and what it tells
  abbrev TriedBy : ℕ → ℕ → ℕ → ℕ → History W → State S V → ℕ → Type 0
  TriedBy slots id total n h s turn = (w : V) × (a : Act S) × Valid s.homes [] a
      × Ruled (stepped s 0 (either (eqb turn 0) (n + 1) turn) id [] w a)
      × tried entries fixed (step slots 0 0 (n + 1) none) (idle total n h, []) turn (w, carried_after [] a)

  tries_by : (slots id total n : ℕ) (h : History W) (s : State S V) (r : Ruled s)
      → get_elem? s.views id ≡ some (idle total n h) → (turn : ℕ) → r.turn ≡ turn
      → IsSlot entries fixed s.homes s.views f (base ++ r.rest) (length r.all) turn → TriedBy slots id total n h s turn
  tries_by slots id total n h s r at zero is slot =
      let k = r.each_view id (idle total n h) at in
      let here : id ≡ suc n = k.0.0 in
      let old = r.each_history n h k.0.2 in
      let bound : n < length r.all = below_length r.all n h k.0.2 in
      let x : Held M W = slot.0 in
      let w : V = holding total n h (entries x.value) (fixed x.value) in
      let at' : get_elem? s.views (suc n) ≡ some (idle total n h) =
      subst (λ i. get_elem? s.views i ≡ some (idle total n h)) here at in
      let g : Goes r.all s.views r.turn (suc n) n [] h h (idle total n h) = record {
        here = k.0.2;
        there = at';
        live = never_spent (idle total n h) (λ x. x);
        acted = λ a. a;
        back = λ k ne e. absurd (ne (omega arith));
        on = λ k ne e. absurd (omega arith);
        mine = λ e. inl refl;
        own = tt;
      } in (
        w,
        takes 0 (Some x),
        ap (λ hs. get_elem? hs 0) slot.1,
        subst (λ i. Ruled record { words = set s.words 0 (n + 1); homes = set s.homes 0 none; views = set s.views i w })
            (sym here)
            (stayed entries fixed why key s r n h h (idle total n h) w (suc n) (set s.words 0 (n + 1)) (set s.homes 0 none) g
            (ap (λ ws. set ws 0 (n + 1)) r.words ∙ ap (λ (z : ℕ). z ∷ length (base ++ r.rest) ∷ []) (omega arith)) (
              ap (λ hs. set hs 0 none) slot.1,
              subst (λ z. n < z) (sym (length-set r.all n h)) bound,
              (w, set_here s.views (suc n) w (below_length s.views (suc n) _ at'), tt),
            )
            ((refl, k.0.1, set_here r.all n h bound), refl, slot.2, slot.3)
            record {
              seen = old.seen;
              receipts = old.receipts;
              refusals = old.refusals;
              met = met_still _ _ _ _ _ _ _ _ _ g n h.met old.met;
            }),
        ((λ _. (x, refl, subst (λ z. h.seen ≤ length z) (sym slot.2) old.seen)), (λ ne. absurd (ne refl))),
      )
  tries_by slots id total n h s r at (suc j) is slot =
      let k = r.each_view id (idle total n h) at in
      let here : id ≡ suc n = k.0.0 in
      let old = r.each_history n h k.0.2 in
      let back : suc j - 1 ≡ j = omega arith in
      let h' : History W = met_by h (suc j - 1) in
      let w : V = idle total n h' in
      let apart : j ≢ n = (λ e. k.1 (is ∙ ap suc e)) in
      let b : j < length r.all = slot.1 in
      let few = r.few in
      let seats : total ≡ key.seats = k.0.1 in
      let at' : get_elem? s.views (suc n) ≡ some (idle total n h) =
      subst (λ i. get_elem? s.views i ≡ some (idle total n h)) here at in
      let g : Goes r.all s.views r.turn r.turn n [] h h' (idle total n h) =
      goes_by r.all s.views r.turn n h h' (idle total n h) k.0.2 at' (never_spent (idle total n h) (λ x. x)) (λ a. a) in (
        w,
        keeps,
        tt,
        subst (λ b. Ruled (stepped s 0 (either b (n + 1) (suc j)) id [] w keeps)) (sym (ne_eqb (suc j) 0 (λ e. omega arith)))
            (subst (λ i. Ruled record { words = set s.words 0 (suc j); homes = s.homes; views = set s.views i w }) (sym here)
            (stayed entries fixed why key s r n h h' (idle total n h) w r.turn (set s.words 0 (suc j)) s.homes g
            (ap (λ ws. set ws 0 (suc j)) r.words ∙ ap (λ z. z ∷ length (base ++ r.rest) ∷ []) (sym is))
            (slot_stays entries fixed why key s r n h' w k.1 r.turn refl r.slot)
            ((refl, k.0.1, set_here r.all n h' (below_length r.all n h k.0.2)), k.1)
            record {
              seen = old.seen;
              receipts = old.receipts;
              refusals = old.refusals;
              met = each_append _ h.met ((suc j - 1) ∷ []) (met_still _ _ _ _ _ _ _ _ _ g n h.met old.met) (
                (
                  subst (λ z. suc j - 1 < z) (sym (length-set r.all n h')) (omega arith),
                  (λ e. apart (omega arith)),
                  inl (is ∙ ap suc (sym back)),
                ),
                tt,
              );
            })),
        ((λ e. absurd (omega arith)), (λ _. (refl, omega arith, (λ e. apart (omega arith))))),
      )

  -- a try of the turn
  pub tries : (slots id : ℕ) (m : Me S V) (total n : ℕ) (h : History W) → m ≡ (idle total n h, [])
      → Allows Ruled slots id m 0 (λ x. either (eqb x 0) (n + 1) x) (tried entries fixed (step slots 0 0 (n + 1) none) m)
  tries slots id m total n h is = subst
      (λ z. Allows Ruled slots id z 0 (λ x. either (eqb x 0) (n + 1) x) (tried entries fixed (step slots 0 0 (n + 1) none) z))
      (sym is)
      (λ s r wide at small. subst (TriedBy slots id total n h s) (sym (ap (λ ws. get_or ws 0 0) r.words))
      (tries_by slots id total n h s r at r.turn refl r.slot))

  -- the rule after the publication of an act that was answered so
  publishes_by : (total n : ℕ) (h : History W) (l : List Entry) (fx : F) (kind : Kind) (answer : Result ℕ W) (y : M)
      (count : ℕ) → ActsOn entries fixed why n l fx kind answer y → count ≡ length (entries y)
      → (s : State S V) (r : Ruled s) → get_elem? s.views (suc n) ≡ some (holding total n h l fx)
      → Knows key.seats r.turn (base ++ r.rest) f r.all s.views (suc n) total (Holding n h l fx)
      → Ruled record {
        words = set s.words 1 count;
        homes = s.homes;
        views = set s.views (suc n)
            (view total (Published n (answered_by h (length l) kind answer) (entries y) (fixed y)));
      }
  publishes_by total n h l fx kind (Ok place) y count did is s r there k =
      let old = r.each_history n h k.0.2 in
      let bound : n < length r.all = below_length r.all n h k.0.2 in
      let list : List Entry = base ++ r.rest in
      let more : List Entry = entry n kind ∷ [] in
      let h' : History W = answered_by h (length l) kind (Ok place) in
      let w : V = view total (Published n h' (entries y) (fixed y)) in
      let grown : entries y ≡ list ++ more = did.0 ∙ ap (λ z. z ++ more) k.2 in
      let long : length l ≡ length list = ap length k.2 in
      let both = length-append base r.rest in
      let last = length-append list more in
      let slot = subst (λ z. IsSlot entries fixed s.homes s.views f list (length r.all) z) k.1 r.slot in
      let acted : HasActed h' = (let a = length-append h.receipts ((length l, kind) ∷ []) in omega arith) in
      let g : Goes r.all s.views r.turn (suc n) n more h h' (holding total n h l fx) =
      goes_on r.all s.views r.turn (suc n) n more h h' (holding total n h l fx) k.0.2 there
      (never_spent (holding total n h l fx) (λ x. x)) acted k.1 (λ j ne e. ne (omega arith)) (refl, tt) in
      moved entries fixed why key s r n h h' (holding total n h l fx) w (suc n) more (set s.words 1 count) s.homes g
      (ap (λ ws. set ws 1 count) r.words ∙ (λ i. k.1 i ∷ (is ∙ ap length grown) i ∷ [])) (
        slot.0,
        subst (λ z. n < z) (sym (length-set r.all n h')) bound,
        (w, set_here s.views (suc n) w (below_length s.views (suc n) _ there), tt),
      )
      ((refl, k.0.1, set_here r.all n h' bound), refl, grown, did.1 ∙ k.3, acted)
      record {
        seen = (omega arith);
        receipts = (let end : length base + length r.rest ≡ length l = omega arith in
            (λ i. old.receipts i ++ sym (receipts_one n (length l) (entry n kind) refl) i)
            ∙ (ap (λ z. receipts_of n (length base) r.rest ++ receipts_of n z more) (sym end)
            ∙ sym (receipts_append n (length base) r.rest more)));
        refusals = refused_still why f list more h.refusals old.refusals;
        met = met_still _ _ _ _ _ _ _ _ _ g n h.met old.met;
      }
  publishes_by total n h l fx kind (Err v) y count did is s r there k =
      let old = r.each_history n h k.0.2 in
      let bound : n < length r.all = below_length r.all n h k.0.2 in
      let list : List Entry = base ++ r.rest in
      let h' : History W = answered_by h (length l) kind (Err v) in
      let w : V = view total (Published n h' (entries y) (fixed y)) in
      let same : entries y ≡ list = did.0 ∙ k.2 in
      let long : length l ≡ length list = ap length k.2 in
      let slot = subst (λ z. IsSlot entries fixed s.homes s.views f list (length r.all) z) k.1 r.slot in
      let acted : HasActed h' = (let a = length-append h.refusals ((length l, kind, v) ∷ []) in omega arith) in
      let held : take (length l) list ≡ l = take_all (length l) list (omega arith) ∙ sym k.2 in
      let g : Goes r.all s.views r.turn (suc n) n [] h h' (holding total n h l fx) =
      goes_on r.all s.views r.turn (suc n) n [] h h' (holding total n h l fx) k.0.2 there
      (never_spent (holding total n h l fx) (λ x. x)) acted k.1 (λ j ne e. ne (omega arith)) tt in
      stayed entries fixed why key s r n h h' (holding total n h l fx) w (suc n) (set s.words 1 count) s.homes g
      (ap (λ ws. set ws 1 count) r.words ∙ (λ i. k.1 i ∷ (is ∙ ap length same) i ∷ [])) (
        slot.0,
        subst (λ z. n < z) (sym (length-set r.all n h')) bound,
        (w, set_here s.views (suc n) w (below_length s.views (suc n) _ there), tt),
      )
      ((refl, k.0.1, set_here r.all n h' bound), refl, same, did.1 ∙ k.3, acted)
      record {
        seen = (omega arith);
        receipts = old.receipts;
        refusals = each_append _ h.refusals ((length l, kind, v) ∷ []) old.refusals
            ((omega arith, subst (λ (z : F × List Entry). why z.0 z.1 kind v) (λ i. (k.3 i, sym held i)) did.2), tt);
        met = met_still _ _ _ _ _ _ _ _ _ g n h.met old.met;
      }

  abbrev first_or : Held M W → List (ℕ × S) → Held M W
  first_or d ((i, Some x) ∷ xs) = x
  first_or d _ = d

  -- the publication, the value being x
  pub publishes : (slots id : ℕ) (m : Me S V) (total n : ℕ) (h : History W) (l : List Entry) (fx : F) (x : Held M W)
      (count : ℕ) → m ≡ (holding total n h l fx, (0, Some x) ∷ [])
      → ActsOn entries fixed why n l fx x.last.value.kind x.last.value.answer x.value → count ≡ length (entries x.value)
      → Allows Ruled slots id m 1 (λ _. count) (λ _. published entries fixed (step slots 1 count 0 none) m count)
  publishes slots id m total n h l fx x count is did counted = subst
      (λ z. Allows Ruled slots id z 1 (λ _. count) (λ _. published entries fixed (step slots 1 count 0 none) z count))
      (sym is)
      (λ s r wide at small.
      let k = r.each_view id (holding total n h l fx) at in
      let here : id ≡ suc n = k.0.0 in
      let at' : get_elem? s.views (suc n) ≡ some (holding total n h l fx) =
      subst (λ i. get_elem? s.views i ≡ some (holding total n h l fx)) here at in
      let w : Held M W → V = λ y. view total (Published n
      (answered_by h (length l) y.last.value.kind y.last.value.answer) (entries y.value) (fixed y.value)) in (
        w x,
        keeps,
        tt,
        subst (λ i. Ruled record { words = set s.words 1 count; homes = s.homes; views = set s.views i (w x) }) (sym here)
            (publishes_by total n h l fx x.last.value.kind x.last.value.answer x.value count did counted s r at'
            ((refl, k.0.1, k.0.2), k.1, k.2, k.3)),
        (tt, x, refl, refl),
      ))

  -- the release
  pub releases : (slots id : ℕ) (m : Me S V) (total n : ℕ) (h : History W) (l : List Entry) (fx : F) (x : Held M W)
      → m ≡ (view total (Published n h l fx), (0, Some x) ∷ []) → entries x.value ≡ l → fixed x.value ≡ fx
      → Allows Ruled slots id m 0 (λ _. 0) (λ _. released (step slots 0 0 0 none) m 0)
  releases slots id m total n h l fx x is listed same = subst
      (λ z. Allows Ruled slots id z 0 (λ _. 0) (λ _. released (step slots 0 0 0 none) z 0)) (sym is)
      (λ s r wide at small.
      let v : V = view total (Published n h l fx) in
      let k = r.each_view id v at in
      let here : id ≡ suc n = k.0.0 in
      let old = r.each_history n h k.0.2 in
      let w : V = idle total n h in
      let slot = subst (λ z. IsSlot entries fixed s.homes s.views f (base ++ r.rest) (length r.all) z) k.1 r.slot in
      let at' : get_elem? s.views (suc n) ≡ some v = subst (λ i. get_elem? s.views i ≡ some v) here at in
      let g : Goes r.all s.views r.turn 0 n [] h h v = goes_on r.all s.views r.turn 0 n [] h h v k.0.2 at'
      (never_spent v (λ x. x)) k.4 k.1 (λ j ne e. omega arith) tt in (
        w,
        gives,
        tt,
        subst (λ i. Ruled record { words = set s.words 0 0; homes = set s.homes 0 (some (Some x)); views = set s.views i w })
            (sym here)
            (stayed entries fixed why key s r n h h v w 0 (set s.words 0 0) (set s.homes 0 (some (Some x))) g
            (ap (λ ws. set ws 0 0) r.words)
            (x, ap (λ hs. set hs 0 (some (Some x))) slot.0, listed ∙ k.2, same ∙ k.3)
            ((refl, k.0.1, set_here r.all n h (below_length r.all n h k.0.2)), λ e. omega arith)
            record {
              seen = old.seen;
              receipts = old.receipts;
              refusals = old.refusals;
              met = met_still _ _ _ _ _ _ _ _ _ g n h.met old.met;
            }),
        (tt, refl),
      ))
