-- The prefixes of a form by cases are the prefixes of its members.
use Rattle.std.proofs.Common.{◌≡◌, ℕ, zero, suc, ◌+◌, ◌-◌, ◌⊎◌, inl, inr, List, [], ◌∷◌, ◌++◌, refl, sym, ap, ◌∙◌, subst, arith, append_assoc, append-nil}
use Rattle.lb_trace.specs.declared.Event.{Event}
use Rattle.lb_grammar.specs.Forms.{Form, Nothing, One, Sequence, Exactly, Any, AnyList, Either, Lists, Concat, Repeated, none, more, Fewer, Is, Begins}
use Rattle.lb_grammar.specs.Prefixes.{CanEnd, IsBegun, AreItsPrefixes}

-- ---- a prefix of a member begins it

empty_front : (l rest : List Event) → l ++ rest ≡ [] → l ≡ []
empty_front [] rest h = refl
empty_front (x ∷ l) rest h = absurd (let z : ⊥ = cc in z)

one_front : (e : Event) (l rest : List Event) → l ++ rest ≡ e ∷ [] → (l ≡ []) ⊎ (l ≡ e ∷ [])
one_front e [] rest h = inl refl
one_front e (x ∷ l) rest h =
    let head : x ≡ e = cc in
    let tail : l ++ rest ≡ [] = cc in
    inr (ap (λ m. x ∷ m) (empty_front l rest tail) ∙ ap (λ y. y ∷ []) head)

-- where the first of two lists ends, as against another pair with the same whole
data Cut (l rest front back : List Event) : Type 0 where
  within : (r : List Event) → front ≡ l ++ r → Cut l rest front back
  past : (m : List Event) → l ≡ front ++ m → back ≡ m ++ rest → Cut l rest front back

one_longer : (x : Event) {l rest front back : List Event} → Cut l rest front back → Cut (x ∷ l) rest (x ∷ front) back
one_longer x (within r e) = within r (ap (λ m. x ∷ m) e)
one_longer x (past m e f) = past m (ap (λ k. x ∷ k) e) f

cut : (l rest front back : List Event) → l ++ rest ≡ front ++ back → Cut l rest front back
cut [] rest front back e = within front refl
cut (x ∷ l) rest [] back e = past (x ∷ l) refl (sym e)
cut (x ∷ l) rest (y ∷ front) back e =
    let head : x ≡ y = cc in
    let tail : l ++ rest ≡ front ++ back = cc in
    subst (λ z. Cut (x ∷ l) rest (z ∷ front) back) head (one_longer x (cut l rest front back tail))

concat_begins : {P Q P' Q' : Lists} (f : (t r : List Event) → P (t ++ r) → P' t) (g : (t r : List Event) → Q (t ++ r) → Q' t) (l rest : List Event) → Concat P Q (l ++ rest) → P' l ⊎ Concat P Q' l
concat_begins {P} {Q} {P'} {Q'} f g l rest j = by_cut (cut l rest j.front j.back j.whole)
  where
    by_cut : Cut l rest j.front j.back → P' l ⊎ Concat P Q' l
    by_cut (within r e) = inl (f l r (subst P e j.first))
    by_cut (past m e z) = inr (record { front = j.front; back = m; first = j.first; second = g m rest (subst Q z j.second); whole = e })

repeated_begins : {P P' : Lists} (f : (t r : List Event) → P (t ++ r) → P' t) (n : ℕ) (l rest : List Event) → Repeated P n (l ++ rest) → Repeated P n l ⊎ Fewer n P P' l
repeated_begins f zero l rest (none e) = inl (none (empty_front l rest e))
repeated_begins {P} {P'} f (suc n) l rest (more front back h t e) = by_cut (λ m u. repeated_begins f n m rest u) (cut l rest front back e)
  where
    longer : (m : List Event) → l ≡ front ++ m → Repeated P n m ⊎ Fewer n P P' m → Repeated P (suc n) l ⊎ Fewer (suc n) P P' l
    longer m z (inl u) = inl (more front m h u z)
    longer m z (inr w) = inr (record {
      count = suc w.count;
      below = omega (arith, w.below);
      parts = record {
        front = front ++ w.parts.front;
        back = w.parts.back;
        first = more front w.parts.front h w.parts.first refl;
        second = w.parts.second;
        whole = z ∙ ap (λ k. front ++ k) w.parts.whole ∙ sym (append_assoc front w.parts.front w.parts.back);
      };
    })

    by_cut : ((m : List Event) → Repeated P n (m ++ rest) → Repeated P n m ⊎ Fewer n P P' m) → Cut l rest front back → Repeated P (suc n) l ⊎ Fewer (suc n) P P' l
    by_cut again (within r z) = inr (record {
      count = zero;
      below = omega arith;
      parts = record { front = []; back = l; first = none refl; second = f l r (subst P z h); whole = refl };
    })
    by_cut again (past m z y) = longer m z (again m (subst (Repeated P n) y t))

pub begins : (form : Form) (l rest : List Event) → Is form (l ++ rest) → Begins form l
begins Nothing l rest h = empty_front l rest h
begins (One e) l rest h = one_front e l rest h
begins (Sequence a b) l rest h = concat_begins (begins a) (begins b) l rest h
begins (Exactly n a) l rest h = repeated_begins (begins a) n l rest h
begins (Any test form) l rest h = (h.0, h.1, begins (form h.0) l rest h.2)
begins (AnyList test form) l rest h = (h.0, h.1, begins (form h.0) l rest h.2)
begins (Either a b) l rest (inl h) = inl (begins a l rest h)
begins (Either a b) l rest (inr h) = inr (begins b l rest h)

-- ---- what begins a member can be brought to its end

-- what is left of a member
abbrev Left : Lists → Lists
Left P l = (rest : List Event) × P (l ++ rest)

nothing_left : (P : Lists) (l : List Event) → P l → Left P l
nothing_left P l h = ([], subst P (sym (append-nil l)) h)

pub repeat : {P : Lists} (n : ℕ) (m : List Event) → P m → (l : List Event) × Repeated P n l
repeat zero m h = ([], none refl)
repeat {P} (suc n) m h = let g : (l : List Event) × Repeated P n l = repeat n m h in (m ++ g.0, more m g.0 h g.1 refl)

-- k of them, one, and n more
repeated_around : {P : Lists} (k n : ℕ) (l m r : List Event) → Repeated P k l → P m → Repeated P n r → Repeated P (k + suc n) (l ++ (m ++ r))
repeated_around {P} zero n l m r (none e) h t =
    let count : suc n ≡ 0 + suc n = omega arith in
    subst (λ q. Repeated P q (l ++ (m ++ r))) count (more m r h t (ap (λ q. q ++ (m ++ r)) e))
repeated_around {P} (suc k) n l m r (more front back f u e) h t =
    let count : suc (k + suc n) ≡ suc k + suc n = omega arith in
    subst (λ q. Repeated P q (l ++ (m ++ r))) count
    (more front (back ++ (m ++ r)) f (repeated_around k n back m r u h t) (ap (λ q. q ++ (m ++ r)) e ∙ append_assoc front back (m ++ r)))

repeated_extends : {P P' : Lists} (n : ℕ) (l m : List Event) → P m → ((t : List Event) → P' t → Left P t) → Repeated P n l ⊎ Fewer n P P' l → Left (Repeated P n) l
repeated_extends {P} n l m h f (inl t) = nothing_left (Repeated P n) l t
repeated_extends {P} {P'} n l m h f (inr w) =
    let k : ℕ = w.count in
    let j : Concat (Repeated P k) P' l = w.parts in
    let g : Left P j.back = f j.back j.second in
    let others : (q : List Event) × Repeated P (n - suc k) q = repeat (n - suc k) m h in
    let all : Repeated P (k + suc (n - suc k)) (j.front ++ ((j.back ++ g.0) ++ others.0)) = repeated_around k (n - suc k) j.front (j.back ++ g.0) others.0 j.first g.1 others.1 in
    let count : k + suc (n - suc k) ≡ n = omega (arith, w.below) in
    let same : j.front ++ ((j.back ++ g.0) ++ others.0) ≡ l ++ (g.0 ++ others.0) =
    ap (λ q. j.front ++ q) (append_assoc j.back g.0 others.0) ∙ sym (append_assoc j.front j.back (g.0 ++ others.0)) ∙ ap (λ q. q ++ (g.0 ++ others.0)) (sym j.whole) in
    (g.0 ++ others.0, subst (Repeated P n) same (subst (λ q. Repeated P q (j.front ++ ((j.back ++ g.0) ++ others.0))) count all))

pub extends : (form : Form) → CanEnd form → (l : List Event) → Begins form l → Left (Is form) l
extends Nothing c l h = nothing_left (Is Nothing) l h
extends (One e) c l (inl h) = (e ∷ [], ap (λ m. m ++ e ∷ []) h)
extends (One e) c l (inr h) = nothing_left (Is (One e)) l h
extends (Sequence a b) c l (inl h) =
    let g : Left (Is a) l = extends a c.0 l h in
    (g.0 ++ c.2.0, record { front = l ++ g.0; back = c.2.0; first = g.1; second = c.2.1; whole = sym (append_assoc l g.0 c.2.0) })
extends (Sequence a b) c l (inr j) =
    let g : Left (Is b) j.back = extends b c.1 j.back j.second in
    (g.0, record { front = j.front; back = j.back ++ g.0; first = j.first; second = g.1; whole = ap (λ m. m ++ g.0) j.whole ∙ append_assoc j.front j.back g.0 })
extends (Exactly n a) c l h = repeated_extends n l c.1.0 c.1.1 (extends a c.0) h
extends (Any test form) c l h = let g : Left (Is (form h.0)) l = extends (form h.0) (c h.0 h.1) l h.2 in (g.0, (h.0, h.1, g.1))
extends (AnyList test form) c l h = let g : Left (Is (form h.0)) l = extends (form h.0) (c h.0 h.1) l h.2 in (g.0, (h.0, h.1, g.1))
extends (Either a b) c l (inl h) = let g : Left (Is a) l = extends a c.0 l h in (g.0, inl g.1)
extends (Either a b) c l (inr h) = let g : Left (Is b) l = extends b c.1 l h in (g.0, inr g.1)

pub are_its_prefixes : (form : Form) → CanEnd form → AreItsPrefixes form
are_its_prefixes form c l = (to, from)
  where
    to : Begins form l → IsBegun form l
    to h = let g : Left (Is form) l = extends form c l h in record { member = l ++ g.0; is = g.1; prefix = record { rest = g.0; whole = refl } }

    from : IsBegun form l → Begins form l
    from g = begins form l g.prefix.rest (subst (Is form) g.prefix.whole g.is)
