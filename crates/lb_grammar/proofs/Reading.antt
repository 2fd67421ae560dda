-- What machines read: one event, and a machine within another.
use Rattle.std.proofs.Common.{◌≡◌, ℕ, ◌&&◌, ◌==◌, Bool, true, false, List, [], ◌∷◌, refl, sym, ap, ◌∙◌, subst, arith, if◌then◌else◌}
use Rattle.std.proofs.lemmas.Bool.Decides.{nat_tests}
use Rattle.lb_trace.specs.declared.Event.{Event}
use Rattle.lb_trace.specs.declared.Event.TheVariants.{Ld, St}
use Rattle.lb_grammar.specs.declared.progress.Progress.{Progress}
use Rattle.lb_grammar.specs.declared.progress.Progress.TheVariants.{Within, Done, Off}
use Rattle.lb_grammar.specs.Forms.{One, Lists}
use Rattle.lb_grammar.specs.InternalMachine.{inside, Reads, Nowhere}
use Rattle.lb_grammar.proofs.Same.{Same}
use Rattle.lb_grammar.proofs.Followed.{Followed}

pub equal : (a b : ℕ) → (a == b) ≡ true → a ≡ b
equal a b h = grind (arith, nat_tests)

pub equals_itself : (a : ℕ) → (a == a) ≡ true
equals_itself a = grind (arith, nat_tests)

both_equal : (a b v w : ℕ) → (a == b && v == w) ≡ true → St a v ≡ St b w
both_equal a b v w h =
    let first : a ≡ b = grind (arith, nat_tests) in
    let second : v ≡ w = grind (arith, nat_tests) in
    ap (λ x. St x v) first ∙ ap (λ x. St b x) second

both_themselves : (a v : ℕ) → (a == a && v == v) ≡ true
both_themselves a v = grind (arith, nat_tests)

-- ---- a state in which one store is awaited

module _ {S X : Type 0} (step : S → Event → Progress S X) (stops : S → Type 0) (next : X → Lists) (s : S) (a v : ℕ) (p : Progress S X) (never : stops s → ⊥)
    (loads : (b w : ℕ) → step s (Ld b w) ≡ Off) (stores : (b w : ℕ) → step s (St b w) ≡ (if b == a && w == v then p else Off)) where
  abbrev R : Progress S X → Lists
  R = Reads step stops next

  by_test : (b w : ℕ) (l : List Event) (t : Bool) → (b == a && w == v) ≡ t → R (if t then p else Off) l → Followed (One (St a v)) (R p) (St b w ∷ l)
  by_test b w l true e h = (both_equal b a w v e, h)
  by_test b w l false e h = absurd h

  to : (l : List Event) → R (Within s) l → Followed (One (St a v)) (R p) l
  to [] h = never h
  to (Ld b w ∷ l) h = absurd (subst (λ q. R q l) (loads b w) h)
  to (St b w ∷ l) h = by_test b w l (b == a && w == v) refl (subst (λ q. R q l) (stores b w) h)

  from : (l : List Event) → Followed (One (St a v)) (R p) l → R (Within s) l
  from [] h = absurd h
  from (d ∷ l) h =
      let moved : step s (St a v) ≡ p = stores a v ∙ ap (λ (t : Bool). if t then p else Off) (both_themselves a v) in
      subst (λ x. R (step s x) l) (sym h.0) (subst (λ q. R q l) (sym moved) h.1)

  pub store_same : Same (R (Within s)) (Followed (One (St a v)) (R p))
  store_same = record { to = to; from = from }

-- ---- a machine within another

module _ {S X T Y : Type 0} (inner : S → Event → Progress S X) (outer : T → Event → Progress T Y) (into : S → T) (onto : X → Progress T Y) (stops : T → Type 0) (next : Y → Lists)
    (steps : (s : S) (e : Event) → outer (into s) e ≡ inside into onto (inner s e)) (never : (s : S) → stops (into s) → ⊥) where
  abbrev O : Progress T Y → Lists
  O = Reads outer stops next

  abbrev I : Progress S X → Lists
  I = Reads inner Nowhere (λ x. O (onto x))

  inside_to : (p : Progress S X) (l : List Event) → O (inside into onto p) l → I p l
  inside_to (Within s) [] h = never s h
  inside_to (Within s) (e ∷ l) h = inside_to (inner s e) l (subst (λ q. O q l) (steps s e) h)
  inside_to (Done x) l h = h
  inside_to Off l h = absurd h

  inside_from : (p : Progress S X) (l : List Event) → I p l → O (inside into onto p) l
  inside_from (Within s) [] h = absurd h
  inside_from (Within s) (e ∷ l) h = subst (λ q. O q l) (sym (steps s e)) (inside_from (inner s e) l h)
  inside_from (Done x) l h = h
  inside_from Off l h = absurd h

  pub inside_same : (p : Progress S X) → Same (O (inside into onto p)) (I p)
  inside_same p = record { to = inside_to p; from = inside_from p }
