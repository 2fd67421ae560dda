-- What a search marks, one node after another.
use Rattle.std.proofs.Common.{◌≡◌, ℕ, zero, suc, ◌+◌, ◌<◌, ◌≤◌, ◌⊎◌, ◌↔◌, inl, inr, Bool, true, false, cond, List, [], ◌∷◌, ◌++◌, length, set, get_or, refl, sym, ◌∙◌, ap, subst, arith, length-append, length-set, get_or-set_same, get_or-set_other}
use Rattle.std.specs.List.{Contains, slice_index, count_by}
use Rattle.std.proofs.lemmas.Bool.{cases_lt}
use Rattle.std.proofs.lemmas.Bool.Decides.{eqb_tells}
use Rattle.std.proofs.lemmas.List.Elements.{Contains-append_left, Contains-append_right, Contains-append_cases}
use Rattle.std.proofs.lemmas.List.Sums.{count_by-le-length, sum_by-set}
use Rattle.std.proofs.lemmas.List.{get_or_append_left, get_or_default}
use Rattle.std.proofs.lemmas.Grind.{get_or_default_zero}
use Rattle.std.proofs.Math.ListN.{get_or-eq_default}
use Rattle.std.proofs.Math.Seq.{get_or-append_seam}
use Rattle.lb_graph.specs.Paths.{successors, LeadsTo}
use Rattle.lb_graph.specs.InternalSearch.{IsMarked, IsOrderOf, Adds}
use Rattle.lb_graph.proofs.PathLemmas.{edge_leads, then_edge, closed_holds}

none_in : (v : ℕ) → Contains [] v → ⊥
none_in v (k, b, e) = omega arith

pub one_in : (x v : ℕ) → Contains (x ∷ []) v → x ≡ v
one_in x v (zero, b, e) = e
one_in x v (suc k, b, e) = absurd (omega arith)

is_in_one : (x v : ℕ) → v ≡ x → Contains (x ∷ []) v
is_in_one x v e = (0, omega arith, sym e)

-- what is marked is a node
pub marked_node : (marks : List Bool) (v : ℕ) → IsMarked marks v → v < length marks
marked_node marks v h = elim (cases_lt v (length marks)) [ inl b ↦ b | inr b ↦ let e = get_or-eq_default marks false b in cc ]

-- what a read of an unmarked place tells: the mark b there is false
pub unmarked_at : (m : List Bool) (at x : ℕ) (b : Bool) → b ≡ get_or m at b → b ≡ false → at ≡ x → get_or m x false ≡ false
unmarked_at m at x true e f same = cc
unmarked_at m at x false e f same = let P : ℕ → Type 0 = λ y. get_or m y false ≡ false in subst P same (sym e)

-- what a read of the list at v tells
pub read_at : (g calls : List (List ℕ)) (v : ℕ) (item xs : List ℕ) → calls ≡ g → item ≡ get_or calls v item → xs ≡ item → v < length g
    → xs ≡ successors g v
read_at g calls v item xs same e f b =
    f ∙ e ∙ ap (λ (h : List (List ℕ)). get_or h v item) same ∙ get_or_default g v item [] b

-- nothing more
pub adds_none : (m : List Bool) (o : List ℕ) → IsOrderOf m o → Adds [] m o m o
adds_none m o is_order = record {
  as_long = refl;
  is_order = is_order;
  longer = omega arith;
  same_order = λ k b. refl;
  kept = λ v h. h;
  reached = λ v c b. absurd (none_in v c);
  only = λ v h. inl h;
}

-- what is no node, or is marked, adds nothing
pub adds_same : (m : List Bool) (o : List ℕ) (x : ℕ) → IsOrderOf m o → (x < length m → IsMarked m x) → Adds (x ∷ []) m o m o
adds_same m o x is_order known = record {
  as_long = refl;
  is_order = is_order;
  longer = omega arith;
  same_order = λ k b. refl;
  kept = λ v h. h;
  reached = λ v c b. let e = one_in x v c in let P : ℕ → Type 0 = λ y. IsMarked m y in subst P e (known (omega arith));
  only = λ v h. inl h;
}

marked_at : (m : List Bool) (x v : ℕ) → x < length m → v ≡ x → IsMarked (set m x true) v
marked_at m x v b e = let P : ℕ → Type 0 = λ y. IsMarked (set m x true) y in subst P (sym e) (get_or-set_same m x true false b)

mark_kept : (m : List Bool) (x v : ℕ) → x < length m → IsMarked m v → IsMarked (set m x true) v
mark_kept m x v b h = elim (eqb_tells v x) [
  | inl t ↦ marked_at m x v b t.1
  | inr t ↦ get_or-set_other m x v true false t.1 ∙ h
]

mark_before : (m : List Bool) (x v : ℕ) → IsMarked (set m x true) v → IsMarked m v ⊎ (v ≡ x)
mark_before m x v h = elim (eqb_tells v x) [ inl t ↦ inr t.1 | inr t ↦ inl (sym (get_or-set_other m x v true false t.1) ∙ h) ]

new_marked : (m : List Bool) (o : List ℕ) (x : ℕ) → IsOrderOf m o → x < length m
    → (k : ℕ) → k < length (o ++ x ∷ []) → IsMarked (set m x true) (slice_index (o ++ x ∷ []) k)
new_marked m o x h b k lt = elim (cases_lt k (length o)) [
  | inl c ↦ mark_kept m x (slice_index (o ++ x ∷ []) k) b (let P : ℕ → Type 0 = λ y. IsMarked m y in subst P (sym (get_or_append_left o (x ∷ []) 0 k c)) (h.marked k c))
  | inr c ↦
      let last : k ≡ length o = omega (arith, length-append o (x ∷ [])) in
      marked_at m x (slice_index (o ++ x ∷ []) k) b (ap (λ i. get_or (o ++ x ∷ []) i 0) last ∙ get_or-append_seam o x [] 0)
]

new_count : (m : List Bool) (o : List ℕ) (x : ℕ) → IsOrderOf m o → x < length m → get_or m x false ≡ false
    → count_by (λ b. b) (set m x true) ≡ length (o ++ x ∷ [])
new_count m o x h b unmarked =
    let e = sum_by-set (λ (b : Bool). cond b 1 0) m x true false b in
    let f : Bool → ℕ = λ b. cond b 1 0 in
    let z : f (get_or m x false) ≡ 0 = ap f unmarked in
    omega (arith, e, z, h.count, length-append o (x ∷ []))

-- a node that isn't marked yet
pub adds_one : (m : List Bool) (o : List ℕ) (x : ℕ) → IsOrderOf m o → x < length m → get_or m x false ≡ false
    → Adds (x ∷ []) m o (set m x true) (o ++ x ∷ [])
adds_one m o x h b unmarked = record {
  as_long = length-set m x true;
  is_order = record {
    marked = new_marked m o x h b;
    listed = λ v k. elim (mark_before m x v k) [
      | inl old ↦ Contains-append_left o (x ∷ []) v (h.listed v old)
      | inr e ↦ Contains-append_right o (x ∷ []) v (is_in_one x v e)
    ];
    count = new_count m o x h b unmarked;
  };
  longer = omega (arith, length-append o (x ∷ []));
  same_order = λ k c. get_or_append_left o (x ∷ []) 0 k c;
  kept = λ v k. mark_kept m x v b k;
  reached = λ v c d. marked_at m x v b (sym (one_in x v c));
  only = λ v k. elim (mark_before m x v k) [ inl old ↦ inl old | inr e ↦ inr (is_in_one x v e) ];
}

only_both : (calls : List ℕ) (x v : ℕ) (M : Type 0) → M ⊎ Contains calls v → M ⊎ Contains (calls ++ x ∷ []) v
only_both calls x v M (inl h) = inl h
only_both calls x v M (inr h) = inr (Contains-append_left calls (x ∷ []) v h)

-- one more
pub adds_more : (calls : List ℕ) (x : ℕ) (m m1 m2 : List Bool) (o o1 o2 : List ℕ)
    → Adds calls m o m1 o1 → Adds (x ∷ []) m1 o1 m2 o2 → Adds (calls ++ x ∷ []) m o m2 o2
adds_more calls x m m1 m2 o o1 o2 a b = record {
  as_long = b.as_long ∙ a.as_long;
  is_order = b.is_order;
  longer = omega (arith, a.longer, b.longer);
  same_order = λ k c. b.same_order k (omega (arith, a.longer)) ∙ a.same_order k c;
  kept = λ v h. b.kept v (a.kept v h);
  reached = λ v c d. elim (Contains-append_cases calls (x ∷ []) v c) [
    | inl h ↦ b.kept v (a.reached v h d)
    | inr h ↦ b.reached v h (omega (arith, a.as_long))
  ];
  only = λ v h. elim (b.only v h) [
    | inl k ↦ only_both calls x v (IsMarked m v) (a.only v k)
    | inr k ↦ inr (Contains-append_right calls (x ∷ []) v k)
  ];
}

-- the search from start has marked what it led to, and those that the first nodes of its order lead to
pub record IsSearch (g : List (List ℕ)) (start done : ℕ) (marks : List Bool) (order : List ℕ) : Type 0 where
  pub as_long : length marks ≡ length g
  pub is_order : IsOrderOf marks order
  pub few_done : done ≤ length order
  pub sound : (v : ℕ) → IsMarked marks v → LeadsTo g start v
  pub begun : (v : ℕ) → Contains (successors g start) v → v < length g → IsMarked marks v
  pub followed : (k : ℕ) → k < done → (v : ℕ) → Contains (successors g (slice_index order k)) v → v < length g → IsMarked marks v

-- the search begins with what start leads to
pub search_begins : (g : List (List ℕ)) (start : ℕ) (m m1 : List Bool) (o o1 : List ℕ) → length m ≡ length g → start < length g
    → ((v : ℕ) → ¬ (IsMarked m v)) → Adds (successors g start) m o m1 o1 → IsSearch g start 0 m1 o1
search_begins g start m m1 o o1 long b none a = record {
  as_long = a.as_long ∙ long;
  is_order = a.is_order;
  few_done = omega arith;
  sound = λ v h. elim (a.only v h) [
    | inl k ↦ absurd (none v k)
    | inr c ↦ edge_leads g start v b c (omega (arith, marked_node m1 v h, a.as_long, long))
  ];
  begun = λ v c d. a.reached v c (omega (arith, long));
  followed = λ k c. absurd (omega arith);
}

followed_more : (g : List (List ℕ)) (done : ℕ) (m m1 : List Bool) (o o1 : List ℕ) → length m ≡ length g → done < length o
    → ((k : ℕ) → k < done → (v : ℕ) → Contains (successors g (slice_index o k)) v → v < length g → IsMarked m v)
    → Adds (successors g (slice_index o done)) m o m1 o1
    → (k : ℕ) → k < done + 1 → (v : ℕ) → Contains (successors g (slice_index o1 k)) v → v < length g → IsMarked m1 v
followed_more g done m m1 o o1 long b before a k c v h d =
    let P : ℕ → Type 0 = λ y. Contains (successors g y) v in
    let h' = subst P (a.same_order k (omega arith)) h in
    elim (cases_lt k done) [
      | inl e ↦ a.kept v (before k e v h' d)
      | inr e ↦
          let last : k ≡ done = omega arith in
          let Q : ℕ → Type 0 = λ i. Contains (successors g (slice_index o i)) v in
          a.reached v (subst Q last h') (omega (arith, long))
    ]

-- and goes on with what the next node of the order leads to
pub search_goes : (g : List (List ℕ)) (start done : ℕ) (m m1 : List Bool) (o o1 : List ℕ) → IsSearch g start done m o
    → done < length o → Adds (successors g (slice_index o done)) m o m1 o1 → IsSearch g start (done + 1) m1 o1
search_goes g start done m m1 o o1 s b a = record {
  as_long = a.as_long ∙ s.as_long;
  is_order = a.is_order;
  few_done = omega (arith, a.longer);
  sound = λ v h. elim (a.only v h) [
    | inl k ↦ s.sound v k
    | inr c ↦ then_edge g start (slice_index o done) v (s.sound (slice_index o done) (s.is_order.marked done b)) c
        (omega (arith, marked_node m1 v h, a.as_long, s.as_long))
  ];
  begun = λ v c d. a.kept v (s.begun v c d);
  followed = followed_more g done m m1 o o1 s.as_long b s.followed a;
}

closed_at_end : (g : List (List ℕ)) (start done : ℕ) (m : List Bool) (o : List ℕ) → IsSearch g start done m o → length o ≤ done
    → (v : ℕ) → IsMarked m v → (w : ℕ) → Contains (successors g v) w → w < length g → IsMarked m w
closed_at_end g start done m o s b v h w c d =
    let (k, lt, e) = s.is_order.listed v h in
    let P : ℕ → Type 0 = λ y. Contains (successors g y) w in
    s.followed k (omega arith) w (subst P (sym e ∙ get_or_default_zero o k v lt) c) d

-- where the whole order is followed, the marks stand exactly where start leads
pub search_ends : (g : List (List ℕ)) (start done : ℕ) (m : List Bool) (o : List ℕ) → IsSearch g start done m o → length o ≤ done
    → (v : ℕ) → IsMarked m v ↔ LeadsTo g start v
search_ends g start done m o s b v =
    (s.sound v, closed_holds g (λ y. IsMarked m y) (closed_at_end g start done m o s b) start s.begun v)

-- the order is no longer than the graph
pub search_order-le : (g : List (List ℕ)) (start done : ℕ) (m : List Bool) (o : List ℕ) → IsSearch g start done m o → length o ≤ length g
search_order-le g start done m o s = omega (arith, s.is_order.count, s.as_long, count_by-le-length (λ (b : Bool). b) m)
