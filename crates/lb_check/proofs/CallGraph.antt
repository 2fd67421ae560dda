-- Paths of calls, as paths of the graph of calls.
use Rattle.std.proofs.Common.{◌≡◌, ℕ, zero, suc, ◌+◌, ◌<◌, ◌≤◌, Bool, true, false, ◌⊎◌, inl, inr, List, [], ◌∷◌, ◌++◌, length, map, sum, get_or, take, drop, refl, sym, ap, ◌∙◌, subst, arith, zero-add, All, Contains, length-take}
use Rattle.std.specs.Prelude.{flat_map, slice_index, if◌then◌else◌}
use Rattle.std.specs.Str.{bytes_eq}
use Rattle.std.proofs.lemmas.List.{get_or-map, get_or_default, get_or-take, take-append-drop, drop_more, map-append, length-map}
use Rattle.std.proofs.lemmas.List.Elements.{Contains-append_left, Contains-append_right, Contains-append_cases}
use Rattle.lb_syntax.specs.Names.{Text}
use Rattle.lb_syntax.proofs.DistinctLemmas.{bytes_eq-same, bytes_eq-refl}
use Rattle.lb_syntax.specs.Tree.{Procedure, Ends}
use Rattle.lb_syntax.specs.Needs.{frame_need}
use Rattle.lb_syntax.specs.Calls.{CallSite, call_sites, callees, IsCallPath, IsRecursive, path_need, IsStackNeed}
use Rattle.lb_graph.specs.Paths.{successors, IsPath, IsOnCycle, IsAcyclic, path_weight, IsGreatestWeight}
use Rattle.lb_check.specs.InternalCallGraph.{places_from, called, call_graph}
use Rattle.lb_check.specs.Verdict.{IsFirstRecursive}

-- f stands at place v
pub record IsAt (p : List Procedure) (v : ℕ) (f : Procedure) : Type 0 where
  pub inside : v < length p
  pub is : get_or p v f ≡ f

-- the functions at these places
abbrev AreAt : List Procedure → List ℕ → List Procedure → Type 0
AreAt p [] [] = Unit {0}
AreAt p (v ∷ vs) (f ∷ fs) = IsAt p v f × AreAt p vs fs
AreAt p _ _ = ⊥

-- a function that stands nowhere
abbrev nothing : Procedure
nothing = record { name = []; params = []; results = []; body = Ends }

-- a function found in the text stands at some place
place_of : (p : List Procedure) (f : Procedure) → Contains p f → (v : ℕ) × IsAt p v f
place_of p f (v, lt, is) = (v, record { inside = lt; is = is })

at_contains : (p : List Procedure) (v : ℕ) (f : Procedure) → IsAt p v f → Contains p f
at_contains p v f a = (v, a.inside, a.is)

at_place : (p : List Procedure) (v : ℕ) → v < length p → IsAt p v (get_or p v nothing)
at_place p v lt = record { inside = lt; is = get_or_default p v (get_or p v nothing) nothing lt }

same_at : (p : List Procedure) (v : ℕ) (f g : Procedure) → IsAt p v f → IsAt p v g → f ≡ g
same_at p v f g a b = sym a.is ∙ get_or_default p v f g a.inside ∙ b.is

-- where the places of a name are
found_step : (b : Bool) (f : Procedure) (k : ℕ) (ks : List ℕ) (name : Text) (w : ℕ) → b ≡ bytes_eq f.name name → Contains (if b then k ∷ ks else ks) w
    → ((w ≡ k) × (f.name ≡ name)) ⊎ Contains ks w
found_step true f k ks name w e (zero, lt, is) = inl (sym is, bytes_eq-same f.name name (sym e))
found_step true f k ks name w e (suc j, lt, is) = inr (j, (omega (arith, lt)), is)
found_step false f k ks name w e h = inr h

named_cases : (f : Procedure) (fs : List Procedure) (k : ℕ) (name : Text) (w : ℕ) → ((w ≡ k) × (f.name ≡ name)) ⊎ Contains (places_from (k + 1) fs name) w
    → (Contains (places_from (k + 1) fs name) w → (j : ℕ) × (w ≡ k + 1 + j) × ((g : Procedure) → IsAt fs j g → g.name ≡ name) × (j < length fs))
    → (j : ℕ) × (w ≡ k + j) × ((g : Procedure) → IsAt (f ∷ fs) j g → g.name ≡ name) × (j < length (f ∷ fs))
named_cases f fs k name w (inl h) later = (0, (omega (arith, h.0)), (λ g a. ap (λ (x : Procedure). x.name) (sym a.is) ∙ h.1), (omega arith))
named_cases f fs k name w (inr h) later =
    let r = later h in
    (suc r.0, (omega (arith, r.1)), (λ g a. r.2 g (record { inside = omega (arith, a.inside); is = a.is })), (omega (arith, r.3)))

here_step : (b : Bool) (k : ℕ) (ks : List ℕ) → b ≡ true → Contains (if b then k ∷ ks else ks) (k + 0)
here_step true k ks e = (0, (omega arith), (omega arith))
here_step false k ks e = cc

there_step : (b : Bool) (k : ℕ) (ks : List ℕ) (w u : ℕ) → w ≡ u → Contains ks w → Contains (if b then k ∷ ks else ks) u
there_step true k ks w u e (i, lt, is) = (suc i, (omega (arith, lt)), (get_or_default ks i u w lt ∙ is ∙ e))
there_step false k ks w u e h = subst (Contains ks) e h

place_named : (p : List Procedure) (k : ℕ) (name : Text) (w : ℕ) → Contains (places_from k p name) w → (j : ℕ) × (w ≡ k + j) × ((f : Procedure) → IsAt p j f → f.name ≡ name) × (j < length p)
place_named [] k name w (i, lt, is) = absurd (omega arith)
place_named (f ∷ fs) k name w h = named_cases f fs k name w (found_step (bytes_eq f.name name) f k (places_from (k + 1) fs name) name w refl h) (place_named fs (k + 1) name w)

named_place : (p : List Procedure) (k : ℕ) (name : Text) (j : ℕ) (f : Procedure) → IsAt p j f → f.name ≡ name → Contains (places_from k p name) (k + j)
named_place [] k name j f a e = let lt = a.inside in absurd (omega arith)
named_place (g ∷ fs) k name zero f a e = here_step (bytes_eq g.name name) k (places_from (k + 1) fs name) (ap (λ (h : Procedure). bytes_eq h.name name) a.is ∙ ap (λ (x : Text). bytes_eq x name) e ∙ bytes_eq-refl name)
named_place (g ∷ fs) k name (suc j) f a e =
    there_step (bytes_eq g.name name) k (places_from (k + 1) fs name) (k + 1 + j) (k + suc j) (omega arith)
    (named_place fs (k + 1) name j f (record { inside = omega (arith, a.inside); is = a.is }) e)

-- the calls of one function to another
site_cases : (p : List Procedure) (s : CallSite) (sites : List CallSite) (w : ℕ)
    → Contains (places_from 0 p s.function) w ⊎ Contains (flat_map (λ site. places_from 0 p site.function) sites) w
    → (Contains (flat_map (λ site. places_from 0 p site.function) sites) w → (w < length p) × ((f : Procedure) → IsAt p w f → Contains (map (λ (site : CallSite). site.function) sites) f.name))
    → (w < length p) × ((f : Procedure) → IsAt p w f → Contains (map (λ (site : CallSite). site.function) (s ∷ sites)) f.name)
site_cases p s sites w (inl h) later =
    let r = place_named p 0 s.function w h in
    let e : w ≡ r.0 = omega (arith, r.1) in
    ((omega (arith, e, r.3)), λ f a. (0, (omega arith), sym (r.2 f (subst (λ k. IsAt p k f) e a))))
site_cases p s sites w (inr h) later =
    let r = later h in (r.0, λ f a. let c = r.1 f a in (suc c.0, (omega (arith, c.1)), c.2))

site_named : (p : List Procedure) (sites : List CallSite) (w : ℕ) → Contains (flat_map (λ site. places_from 0 p site.function) sites) w
    → (w < length p) × ((f : Procedure) → IsAt p w f → Contains (map (λ (site : CallSite). site.function) sites) f.name)
site_named p [] w (i, lt, is) = absurd (omega arith)
site_named p (s ∷ sites) w h =
    site_cases p s sites w (Contains-append_cases (places_from 0 p s.function) (flat_map (λ site. places_from 0 p site.function) sites) w h) (site_named p sites w)

named_site : (p : List Procedure) (sites : List CallSite) (w : ℕ) (f : Procedure) → IsAt p w f → Contains (map (λ (site : CallSite). site.function) sites) f.name
    → Contains (flat_map (λ site. places_from 0 p site.function) sites) w
named_site p [] w f a (i, lt, is) = absurd (omega arith)
named_site p (s ∷ sites) w f a (zero, lt, is) =
    Contains-append_left (places_from 0 p s.function) (flat_map (λ site. places_from 0 p site.function) sites) w
    (subst (Contains (places_from 0 p s.function)) (zero-add w) (named_place p 0 s.function w f a (sym is)))
named_site p (s ∷ sites) w f a (suc i, lt, is) =
    Contains-append_right (places_from 0 p s.function) (flat_map (λ site. places_from 0 p site.function) sites) w
    (named_site p sites w f a (i, (omega (arith, lt)), is))

-- an edge is a call
row : (p : List Procedure) (v : ℕ) (f : Procedure) → IsAt p v f → successors (call_graph p) v ≡ called p f.body
row p v f a = get_or-map (λ (g : Procedure). called p g.body) p v f [] a.inside ∙ ap (λ (g : Procedure). called p g.body) a.is

nodes : (p : List Procedure) → length (call_graph p) ≡ length p
nodes p = length-map p (λ (g : Procedure). called p g.body)

call_edge : (p : List Procedure) (v w : ℕ) (f g : Procedure) → IsAt p v f → IsAt p w g → Contains (callees f) g.name → Contains (successors (call_graph p) v) w
call_edge p v w f g a b h = subst (λ (ws : List ℕ). Contains ws w) (sym (row p v f a)) (named_site p (call_sites f.body) w g b h)

edge_call : (p : List Procedure) (v w : ℕ) (f g : Procedure) → IsAt p v f → IsAt p w g → Contains (successors (call_graph p) v) w → Contains (callees f) g.name
edge_call p v w f g a b h = (site_named p (call_sites f.body) w (subst (λ (ws : List ℕ). Contains ws w) (row p v f a) h)).1 g b

-- a path of the graph is a path of calls
inside : (p : List Procedure) (v : ℕ) → v < length (call_graph p) → v < length p
inside p v h = subst (λ n. v < n) (nodes p) h

outside : (p : List Procedure) (v : ℕ) → v < length p → v < length (call_graph p)
outside p v h = subst (λ n. v < n) (sym (nodes p)) h

abbrev functions_at : List Procedure → List ℕ → List Procedure
functions_at p vs = map (λ v. get_or p v nothing) vs

path_calls : (p : List Procedure) (vs : List ℕ) → IsPath (call_graph p) vs → IsCallPath p (functions_at p vs) × AreAt p vs (functions_at p vs)
path_calls p [] h = (tt, tt)
path_calls p (v ∷ []) h = let a = at_place p v (inside p v h) in (at_contains p v (get_or p v nothing) a, (a, tt))
path_calls p (v ∷ w ∷ vs) h =
    let a = at_place p v (inside p v h.0) in
    let r = path_calls p (w ∷ vs) h.2 in
    ((at_contains p v (get_or p v nothing) a, edge_call p v w (get_or p v nothing) (get_or p w nothing) a r.1.0 h.1, r.0), (a, r.1))

-- a path of calls is a path of the graph
first_in : (p : List Procedure) (f : Procedure) (fs : List Procedure) → IsCallPath p (f ∷ fs) → Contains p f
first_in p f [] h = h
first_in p f (g ∷ fs) h = h.0

calls_path : (p : List Procedure) (v : ℕ) (f : Procedure) (fs : List Procedure) → IsAt p v f → IsCallPath p (f ∷ fs) → (vs : List ℕ) × IsPath (call_graph p) (v ∷ vs) × AreAt p (v ∷ vs) (f ∷ fs)
calls_path p v f [] a h = ([], outside p v a.inside, (a, tt))
calls_path p v f (g ∷ fs) a h =
    let w = place_of p g (first_in p g fs h.2) in
    let r = calls_path p w.0 g fs w.1 h.2 in
    (w.0 ∷ r.0, (outside p v a.inside, call_edge p v w.0 f g a w.1 h.1, r.1), (a, r.2))

calls_cycle : (p : List Procedure) (v k : ℕ) (f h : Procedure) (fs : List Procedure) → IsAt p v f → IsAt p k h → IsCallPath p (f ∷ fs ++ h ∷ []) → (vs : List ℕ) × IsPath (call_graph p) (v ∷ vs ++ k ∷ [])
calls_cycle p v k f h [] a b c = ([], (outside p v a.inside, call_edge p v k f h a b c.1, outside p k b.inside))
calls_cycle p v k f h (g ∷ fs) a b c =
    let w = place_of p g (first_in p g (fs ++ h ∷ []) c.2) in
    let r = calls_cycle p w.0 k g h fs w.1 b c.2 in
    (w.0 ∷ r.0, (outside p v a.inside, call_edge p v w.0 f g a w.1 c.1, r.1))

recursive_cycle : (p : List Procedure) (v : ℕ) (f : Procedure) → IsAt p v f → IsRecursive p f → IsOnCycle (call_graph p) v
recursive_cycle p v f a (fs, c) = calls_cycle p v v f f fs a a c

cycle_recursive : (p : List Procedure) (v : ℕ) (f : Procedure) → IsAt p v f → IsOnCycle (call_graph p) v → IsRecursive p f
cycle_recursive p v f a (vs, h) =
    let c = (path_calls p (v ∷ vs ++ v ∷ []) h).0 in
    let here = same_at p v (get_or p v nothing) f (at_place p v a.inside) a in (
      functions_at p vs,
      subst (λ (g : Procedure). IsCallPath p (g ∷ functions_at p vs ++ g ∷ [])) here
          (subst (λ (gs : List Procedure). IsCallPath p (get_or p v nothing ∷ gs)) (map-append (λ u. get_or p u nothing) vs (v ∷ [])) c),
    )

-- no function is recursive where no node is on a cycle
pub none_recursive : (p : List Procedure) (g : List (List ℕ)) → g ≡ call_graph p → IsAcyclic g → All (λ f. ¬ (IsRecursive p f)) p
none_recursive p g e acyclic v d lt r =
    let a : IsAt p v (get_or p v d) = record { inside = lt; is = get_or_default p v (get_or p v d) d lt } in
    acyclic v (subst (λ (h : List (List ℕ)). IsOnCycle h v) (sym e) (recursive_cycle p v (get_or p v d) a r))

-- the function at the first node on a cycle is the first recursive one
pub first_recursive : (p : List Procedure) (g : List (List ℕ)) (v : ℕ) (f : Procedure) → g ≡ call_graph p → v < length p → f ≡ get_or p v f
    → IsOnCycle g v → ((w : ℕ) → w < v → ¬ (IsOnCycle g w)) → IsFirstRecursive p f
first_recursive p g v f e lt is cycle least =
    let a : IsAt p v f = record { inside = lt; is = sym is } in record {
      earlier = take v p;
      later = drop (v + 1) p;
      order = sym (take-append-drop v p) ∙ ap (λ (fs : List Procedure). take v p ++ fs) (drop_more p v f lt ∙ ap (λ (h : Procedure). h ∷ drop (v + 1) p) (sym is));
      none_earlier = λ w d h r.
          let below : w < v = omega (arith, h, length-take v p) in
          let there : get_or (take v p) w d ≡ get_or p w d = get_or-take v p w d below in
          let b : IsAt p w (get_or p w d) = record { inside = omega (arith, below, lt); is = get_or_default p w (get_or p w d) d (omega (arith, below, lt)) } in
          least w below (subst (λ (h : List (List ℕ)). IsOnCycle h w) (sym e) (recursive_cycle p w (get_or p w d) b (subst (IsRecursive p) there r)));
      recursive = cycle_recursive p v f a (subst (λ (h : List (List ℕ)). IsOnCycle h v) e cycle);
    }

-- the weights of a path are the frames of its functions
same_weights : (p : List Procedure) (vs : List ℕ) (fs : List Procedure) → AreAt p vs fs → map (slice_index (map frame_need p)) vs ≡ map frame_need fs
same_weights p [] [] h = refl
same_weights p [] (f ∷ fs) h = absurd h
same_weights p (v ∷ vs) [] h = absurd h
same_weights p (v ∷ vs) (f ∷ fs) h =
    ap (λ n. n ∷ map (slice_index (map frame_need p)) vs) (get_or-map frame_need p v f 0 h.0.inside ∙ ap frame_need h.0.is)
    ∙ ap (λ (ns : List ℕ). frame_need f ∷ ns) (same_weights p vs fs h.1)

need_within : (p : List Procedure) (n : ℕ) → ((vs : List ℕ) → IsPath (call_graph p) vs → path_weight (map frame_need p) vs ≤ n)
    → (fs : List Procedure) → IsCallPath p fs → path_need fs ≤ n
need_within p n most [] h = omega arith
need_within p n most (f ∷ fs) h =
    let w = place_of p f (first_in p f fs h) in
    let r = calls_path p w.0 f fs w.1 h in
    subst (λ k. k ≤ n) (ap sum (same_weights p (w.0 ∷ r.0) (f ∷ fs) r.2)) (most (w.0 ∷ r.0) r.1)

is_stack_need : (p : List Procedure) (n : ℕ) → IsGreatestWeight (call_graph p) (map frame_need p) n → IsStackNeed p n
is_stack_need p n w =
    let r = path_calls p w.path w.is_path in record {
      path = functions_at p w.path;
      is_path = r.0;
      taken = ap sum (sym (same_weights p w.path (functions_at p w.path) r.1)) ∙ w.weight;
      greatest = need_within p n w.greatest;
    }

pub stack_need : (p : List Procedure) (g : List (List ℕ)) (ws : List ℕ) (n : ℕ) → g ≡ call_graph p → ws ≡ map frame_need p → IsGreatestWeight g ws n → IsStackNeed p n
stack_need p g ws n e f w =
    is_stack_need p n (subst (λ (h : List (List ℕ)). IsGreatestWeight h (map frame_need p) n) e (subst (λ (vs : List ℕ). IsGreatestWeight g vs n) f w))

on_inside : (g : List (List ℕ)) (v : ℕ) → IsOnCycle g v → v < length g
on_inside g v ([], h) = h.0
on_inside g v (w ∷ ws, h) = h.0

-- a node on a cycle is the place of a function
pub cycle_inside : (p : List Procedure) (g : List (List ℕ)) (v : ℕ) → g ≡ call_graph p → IsOnCycle g v → v < length p
cycle_inside p g v e h = inside p v (subst (λ (k : List (List ℕ)). v < length k) e (on_inside g v h))
