-- Greatest weights, one edge after another.
use Rattle.std.proofs.Common.{◌≡◌, ℕ, ◌+◌, ◌*◌, ◌^◌, ◌<◌, ◌≤◌, ◌⊎◌, inl, inr, max, List, [], ◌∷◌, ◌++◌, length, map, get_or, refl, sym, ◌∙◌, ap, subst, arith, length-append}
use Rattle.std.specs.List.{Contains, slice_index}
use Rattle.std.proofs.lemmas.Bool.{cases_lt}
use Rattle.std.proofs.lemmas.List.Elements.{Contains-append_left, Contains-append_right, Contains-append_cases}
use Rattle.std.proofs.lemmas.List.Sums.{sum_by-cons}
use Rattle.std.proofs.lemmas.List.{get_or_append_left}
use Rattle.std.proofs.Math.ListN.{get_or-eq_default}
use Rattle.std.proofs.Math.Seq.{get_or-append_seam}
use Rattle.lb_graph.specs.Paths.{successors, IsPath, IsAcyclic, path_weight, IsGreatestWeight}
use Rattle.lb_graph.specs.InternalBest.{IsGreatestAmong, IsGreatest, IsStep, IsBest}
use Rattle.lb_graph.proofs.PathLemmas.{path-le-nodes}
use Rattle.lb_graph.proofs.SearchLemmas.{one_in}

-- at each node the weight of a path from there, and none of at most k edges has more
pub record IsBestUpTo (g : List (List ℕ)) (weights : List ℕ) (k : ℕ) (best : List ℕ) : Type 0 where
  pub as_long : length best ≡ length g
  pub reached : (v : ℕ) → v < length g → (path : List ℕ) × IsPath g (v ∷ path) × (path_weight weights (v ∷ path) ≡ slice_index best v)
  pub greatest : (v : ℕ) (path : List ℕ) → IsPath g (v ∷ path) → length path ≤ k → path_weight weights (v ∷ path) ≤ slice_index best v
  pub small : (v : ℕ) → slice_index best v < (k + 1) * 2 ^ 32

-- a path's weight is its first node's and that of the rest
weight-cons : (weights : List ℕ) (v : ℕ) (path : List ℕ) → path_weight weights (v ∷ path) ≡ slice_index weights v + path_weight weights path
weight-cons weights v path = sum_by-cons (λ (x : ℕ). x) (slice_index weights v) (map (slice_index weights) path)

-- the place behind a list has what is put there, and those behind it nothing
at_end : (xs : List ℕ) (x v : ℕ) → length xs ≤ v → (v ≡ length xs) × (slice_index (xs ++ x ∷ []) v ≡ x) ⊎ (slice_index (xs ++ x ∷ []) v ≡ 0)
at_end xs x v b = elim (cases_lt (length xs) v) [
  | inl c ↦ inr (get_or-eq_default (xs ++ x ∷ []) 0 (omega (arith, length-append xs (x ∷ []))))
  | inr c ↦
      let last : v ≡ length xs = omega arith in
      inl (last, ap (λ i. get_or (xs ++ x ∷ []) i 0) last ∙ get_or-append_seam xs x [] 0)
]

pub greatest_none : IsGreatest [] 0
greatest_none = record { upper = λ v. omega arith; reached = inl refl }

greatest_reached : (xs : List ℕ) (n x : ℕ)
    → (n ≡ 0) ⊎ ((v : ℕ) × (v < length xs) × (slice_index xs v ≡ n))
    → (max n x ≡ 0) ⊎ ((v : ℕ) × (v < length (xs ++ x ∷ [])) × (slice_index (xs ++ x ∷ []) v ≡ max n x))
greatest_reached xs n x h = elim (cases_lt x n) [
  | inl c ↦
      let e : n ≡ max n x = omega arith in
      elim h [
        | inl z ↦ absurd (omega arith)
        | inr k ↦ inr (k.0, omega (arith, k.1, length-append xs (x ∷ [])), get_or_append_left xs (x ∷ []) 0 k.0 k.1 ∙ k.2 ∙ e)
      ]
  | inr c ↦
      let e : x ≡ max n x = omega arith in
      inr (length xs, omega (arith, length-append xs (x ∷ [])), get_or-append_seam xs x [] 0 ∙ e)
]

-- one number more
pub greatest_more : (xs : List ℕ) (n x : ℕ) → IsGreatest xs n → IsGreatest (xs ++ x ∷ []) (max n x)
greatest_more xs n x h = record {
  upper = λ v. elim (cases_lt v (length xs)) [
    | inl c ↦ omega (arith, get_or_append_left xs (x ∷ []) 0 v c, h.upper v)
    | inr c ↦ elim (at_end xs x v c) [ inl e ↦ omega (arith, e.1) | inr e ↦ omega (arith, e) ]
  ];
  reached = greatest_reached xs n x h.reached;
}

pub among_none : (best : List ℕ) → IsGreatestAmong best [] 0
among_none best = record { upper = λ c (k, b, e). absurd (omega arith); reached = inl refl }

among_reached : (best calls : List ℕ) (n x : ℕ)
    → (n ≡ 0) ⊎ ((c : ℕ) × Contains calls c × (c < length best) × (slice_index best c ≡ n))
    → (max n (slice_index best x) ≡ 0) ⊎ ((c : ℕ) × Contains (calls ++ x ∷ []) c × (c < length best) × (slice_index best c ≡ max n (slice_index best x)))
among_reached best calls n x h = elim (cases_lt (slice_index best x) n) [
  | inl c ↦
      let e : n ≡ max n (slice_index best x) = omega arith in
      elim h [
        | inl z ↦ absurd (omega arith)
        | inr k ↦ inr (k.0, Contains-append_left calls (x ∷ []) k.0 k.1, k.2, k.3 ∙ e)
      ]
  | inr c ↦
      let e : slice_index best x ≡ max n (slice_index best x) = omega arith in
      elim (cases_lt x (length best)) [
        | inl d ↦ inr (x, Contains-append_right calls (x ∷ []) x (0, omega arith, refl), d, e)
        | inr d ↦ inl (sym e ∙ get_or-eq_default best 0 d)
      ]
]

-- one place more
pub among_more : (best calls : List ℕ) (n x : ℕ) → IsGreatestAmong best calls n → IsGreatestAmong best (calls ++ x ∷ []) (max n (slice_index best x))
among_more best calls n x h = record {
  upper = λ v c. elim (Contains-append_cases calls (x ∷ []) v c) [
    | inl k ↦ omega (arith, h.upper v k)
    | inr k ↦ let e = ap (λ i. slice_index best i) (one_in x v k) in omega (arith, e)
  ];
  reached = among_reached best calls n x h.reached;
}

-- what is reached is no more than the greatest of all
pub among-le : (best calls : List ℕ) (n limit : ℕ) → IsGreatestAmong best calls n → ((v : ℕ) → slice_index best v ≤ limit) → n ≤ limit
among-le best calls n limit h all = elim h.reached [ inl e ↦ omega (arith, e) | inr k ↦ omega (arith, k.3, all k.0) ]

pub step_none : (g : List (List ℕ)) (weights best : List ℕ) → IsStep g weights best 0 []
step_none g weights best = record { as_long = refl; value = λ v b. absurd (omega arith) }

-- one node more
pub step_more : (g : List (List ℕ)) (weights best next : List ℕ) (v n : ℕ) → IsStep g weights best v next
    → IsGreatestAmong best (successors g v) n → IsStep g weights best (v + 1) (next ++ (slice_index weights v + n) ∷ [])
step_more g weights best next v n s h = record {
  as_long = length-append next ((slice_index weights v + n) ∷ []) ∙ ap (λ k. k + 1) s.as_long;
  value = λ w b. elim (cases_lt w v) [
    | inl c ↦
        let (m, a, e) = s.value w c in
        (m, a, get_or_append_left next ((slice_index weights v + n) ∷ []) 0 w (omega (arith, s.as_long)) ∙ e)
    | inr c ↦
        let P : ℕ → Type 0 = λ i. (m : ℕ) × IsGreatestAmong best (successors g i) m × (slice_index (next ++ (slice_index weights v + n) ∷ []) i ≡ slice_index weights i + m) in
        let Q : ℕ → Type 0 = λ i. slice_index (next ++ (slice_index weights v + n) ∷ []) i ≡ slice_index weights v + n in
        let last : v ≡ w = omega arith in
        subst P last (n, h, subst Q s.as_long (get_or-append_seam next (slice_index weights v + n) [] 0))
  ];
}

none_shorter : (g : List (List ℕ)) (weights : List ℕ) (v : ℕ) (path : List ℕ) → IsPath g (v ∷ path) → length path ≤ 0
    → path_weight weights (v ∷ path) ≤ slice_index weights v
none_shorter g weights v [] p b = omega (arith, weight-cons weights v [])
none_shorter g weights v (w ∷ path) p b = absurd (omega arith)

-- a node's own weight is that of the path of it alone
pub best_begins : (g : List (List ℕ)) (weights : List ℕ) → length weights ≡ length g → ((v : ℕ) → slice_index weights v < 2 ^ 32)
    → IsBestUpTo g weights 0 weights
best_begins g weights long small = record {
  as_long = long;
  reached = λ v b. ([], b, omega (arith, weight-cons weights v []));
  greatest = none_shorter g weights;
  small = λ v. omega (arith, small v);
}

goes_on : (g : List (List ℕ)) (weights best next : List ℕ) (k : ℕ) → IsBestUpTo g weights k best → (v : ℕ) → v < length g
    → (n : ℕ) → IsGreatestAmong best (successors g v) n → slice_index next v ≡ slice_index weights v + n
    → (path : List ℕ) × IsPath g (v ∷ path) × (path_weight weights (v ∷ path) ≡ slice_index next v)
goes_on g weights best next k h v b n a e = elim a.reached [
  | inl z ↦ ([], b, weight-cons weights v [] ∙ ap (λ m. slice_index weights v + m) (sym z) ∙ sym e)
  | inr r ↦
      let (path, p, w) = h.reached r.0 (omega (arith, h.as_long, r.2)) in
      (r.0 ∷ path, (b, r.1, p), weight-cons weights v (r.0 ∷ path) ∙ ap (λ m. slice_index weights v + m) (w ∙ r.3) ∙ sym e)
]

-- a path of one edge more
no_more : (g : List (List ℕ)) (weights best next : List ℕ) → IsStep g weights best (length g) next
    → (v : ℕ) (path : List ℕ) → IsPath g (v ∷ path) → ((w : ℕ) (rest : List ℕ) → path ≡ w ∷ rest → path_weight weights (w ∷ rest) ≤ slice_index best w)
    → path_weight weights (v ∷ path) ≤ slice_index next v
no_more g weights best next s v [] p rest =
    let (n, a, e) = s.value v p in omega (arith, e, weight-cons weights v [])
no_more g weights best next s v (w ∷ path) p rest =
    let (n, a, e) = s.value v p.0 in
    omega (arith, e, weight-cons weights v (w ∷ path), rest w path refl, a.upper w p.1)

step_small : (g : List (List ℕ)) (weights best next : List ℕ) (k : ℕ) → ((v : ℕ) → slice_index weights v < 2 ^ 32)
    → IsBestUpTo g weights k best → IsStep g weights best (length g) next → (v : ℕ) → slice_index next v < (k + 1 + 1) * 2 ^ 32
step_small g weights best next k small h s v = elim (cases_lt v (length g)) [
  | inl c ↦
      let (n, a, e) = s.value v c in
      elim a.reached [ inl z ↦ omega (arith, e, z, small v) | inr r ↦ omega (arith, e, r.3, small v, h.small r.0) ]
  | inr c ↦ let z : slice_index next v ≡ 0 = get_or-eq_default next 0 (omega (arith, s.as_long)) in omega (arith, z)
]

-- what is best up to k edges is, a step further, best up to one more
pub best_goes : (g : List (List ℕ)) (weights best next : List ℕ) (k : ℕ) → ((v : ℕ) → slice_index weights v < 2 ^ 32)
    → IsBestUpTo g weights k best → IsStep g weights best (length g) next → IsBestUpTo g weights (k + 1) next
best_goes g weights best next k small h s = record {
  as_long = s.as_long;
  reached = λ v b. let (n, a, e) = s.value v b in goes_on g weights best next k h v b n a e;
  greatest = λ v path p b. no_more g weights best next s v path p (λ w rest e.
      h.greatest w rest
      (let P : List ℕ → Type 0 = λ path. IsPath g (v ∷ path) in (subst P e p).2)
      (let q = ap (λ (xs : List ℕ). length xs) e in omega (arith, q)));
  small = step_small g weights best next k small h s;
}

none_above : (g : List (List ℕ)) (weights best : List ℕ) → IsStep g weights best (length g) best
    → (v : ℕ) (path : List ℕ) → IsPath g (v ∷ path) → path_weight weights (v ∷ path) ≤ slice_index best v
none_above g weights best s v [] p = no_more g weights best best s v [] p (λ w rest e. absurd (cc))
none_above g weights best s v (x ∷ path) p =
    let (n, a, e) = s.value v p.0 in
    omega (arith, e, weight-cons weights v (x ∷ path), none_above g weights best s x path p.2, a.upper x p.1)

-- where a step changes nothing, no path has more
pub best_settles : (g : List (List ℕ)) (weights best : List ℕ) (k : ℕ) → IsBestUpTo g weights k best → IsStep g weights best (length g) best
    → IsBest g weights best
best_settles g weights best k h s = record { as_long = h.as_long; reached = h.reached; greatest = none_above g weights best s }

-- no path without cycles has more edges than the graph has nodes
pub best_ends : (g : List (List ℕ)) (weights best : List ℕ) → IsAcyclic g → IsBestUpTo g weights (length g) best → IsBest g weights best
best_ends g weights best acyclic h = record {
  as_long = h.as_long;
  reached = h.reached;
  greatest = λ v path p. h.greatest v path p (omega (arith, path-le-nodes g acyclic (v ∷ path) p));
}

none_heavier : (g : List (List ℕ)) (weights best : List ℕ) (n : ℕ) → IsBest g weights best → IsGreatest best n
    → (path : List ℕ) → IsPath g path → path_weight weights path ≤ n
none_heavier g weights best n h a [] p = omega arith
none_heavier g weights best n h a (v ∷ path) p = omega (arith, h.greatest v path p, a.upper v)

-- the greatest of the best from each node
pub best_of_all : (g : List (List ℕ)) (weights best : List ℕ) (n : ℕ) → IsBest g weights best → IsGreatest best n → IsGreatestWeight g weights n
best_of_all g weights best n h a = elim a.reached [
  | inl z ↦ record { path = []; is_path = tt; weight = sym z; greatest = none_heavier g weights best n h a }
  | inr r ↦
      let (path, p, w) = h.reached r.0 (omega (arith, h.as_long, r.1)) in
      record { path = r.0 ∷ path; is_path = p; weight = w ∙ r.2; greatest = none_heavier g weights best n h a }
]
