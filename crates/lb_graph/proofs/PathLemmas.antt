-- Paths: what they lead to, and how long they are where there is no cycle.
use Rattle.std.proofs.Common.{◌≡◌, ℕ, ◌<◌, ◌≤◌, Bool, true, false, ◌||◌, eqb, List, [], ◌∷◌, ◌++◌, length, refl, sym, subst}
use Rattle.std.specs.List.{Contains, IsDistinct, AllByRecursion, list_any}
use Rattle.std.proofs.lemmas.Bool.{eqb-true}
use Rattle.std.proofs.lemmas.Map.Steps.{length-le_from_distinct_below}
use Rattle.lb_graph.specs.Paths.{successors, IsPath, LeadsTo, IsAcyclic}

-- a path begins at a node
pub head_node : (g : List (List ℕ)) (v : ℕ) (path : List ℕ) → IsPath g (v ∷ path) → v < length g
head_node g v [] h = h
head_node g v (w ∷ path) h = h.0

tail_path : (g : List (List ℕ)) (v : ℕ) (path : List ℕ) → IsPath g (v ∷ path) → IsPath g path
tail_path g v [] h = tt
tail_path g v (w ∷ path) h = h.2

-- a node of a cycle is a node of the graph
pub leads_from_node : (g : List (List ℕ)) (v w : ℕ) → LeadsTo g v w → v < length g
leads_from_node g v w (path, h) = head_node g v (path ++ w ∷ []) h

-- an edge is a path
pub edge_leads : (g : List (List ℕ)) (v w : ℕ) → v < length g → Contains (successors g v) w → w < length g → LeadsTo g v w
edge_leads g v w a e b = ([], (a, e, b))

extended : (g : List (List ℕ)) (u : ℕ) (path : List ℕ) (v w : ℕ) → IsPath g (u ∷ path ++ v ∷ [])
    → Contains (successors g v) w → w < length g → IsPath g (u ∷ (path ++ v ∷ []) ++ w ∷ [])
extended g u [] v w h e b = (h.0, h.1, (h.2, e, b))
extended g u (x ∷ path) v w h e b = (h.0, h.1, extended g x path v w h.2 e b)

-- a path goes on by an edge
pub then_edge : (g : List (List ℕ)) (u v w : ℕ) → LeadsTo g u v → Contains (successors g v) w → w < length g → LeadsTo g u w
then_edge g u v w (path, h) e b = (path ++ v ∷ [], extended g u path v w h e b)

closed_along : (g : List (List ℕ)) (P : ℕ → Type 0)
    → ((v : ℕ) → P v → (w : ℕ) → Contains (successors g v) w → w < length g → P w)
    → (u : ℕ) (path : List ℕ) (v : ℕ) → ((w : ℕ) → Contains (successors g u) w → w < length g → P w)
    → IsPath g (u ∷ path ++ v ∷ []) → P v
closed_along g P closed u [] v from h = from v h.1 h.2
closed_along g P closed u (x ∷ path) v from h =
    closed_along g P closed x path v (closed x (from x h.1 (head_node g x (path ++ v ∷ []) h.2))) h.2

-- what holds where u leads by an edge, and goes on along edges, holds wherever u leads
pub closed_holds : (g : List (List ℕ)) (P : ℕ → Type 0)
    → ((v : ℕ) → P v → (w : ℕ) → Contains (successors g v) w → w < length g → P w)
    → (u : ℕ) → ((w : ℕ) → Contains (successors g u) w → w < length g → P w)
    → (v : ℕ) → LeadsTo g u v → P v
closed_holds g P closed u from v (path, h) = closed_along g P closed u path v from h

-- b: the test whether v is the first node behind u
again_by_test : (g : List (List ℕ)) (u v w : ℕ) (rest : Bool) (path : List ℕ) (b : Bool) → eqb v w ≡ b
    → IsPath g (u ∷ w ∷ path) → (rest ≡ true → LeadsTo g w v) → (b || rest) ≡ true → LeadsTo g u v
again_by_test g u v w rest path true t h more e =
    let same : w ≡ v = sym (eqb-true v w t) in
    let P : ℕ → Type 0 = λ x. LeadsTo g u x in
    subst P same (edge_leads g u w h.0 h.1 (head_node g w path h.2))
again_by_test g u v w rest path false t h more e = let (q, k) = more e in (w ∷ q, (h.0, h.1, k))

-- a path leads to each node that it has behind its first
leads_to_member : (g : List (List ℕ)) (u v : ℕ) (path : List ℕ) → IsPath g (u ∷ path) → list_any (eqb v) path ≡ true → LeadsTo g u v
leads_to_member g u v [] h e = cc
leads_to_member g u v (w ∷ path) h e =
    again_by_test g u v w (list_any (eqb v) path) path (eqb v w) refl h (leads_to_member g w v path h.2) e

member_by_test : (g : List (List ℕ)) (v w : ℕ) (rest b : Bool) → eqb v w ≡ b → w < length g
    → (rest ≡ true → v < length g) → (b || rest) ≡ true → v < length g
member_by_test g v w rest true t h more e = let P : ℕ → Type 0 = λ x. x < length g in subst P (sym (eqb-true v w t)) h
member_by_test g v w rest false t h more e = more e

-- a path has nodes alone
member_node : (g : List (List ℕ)) (path : List ℕ) → IsPath g path → (v : ℕ) → list_any (eqb v) path ≡ true → v < length g
member_node g [] h v e = cc
member_node g (w ∷ path) h v e =
    member_by_test g v w (list_any (eqb v) path) (eqb v w) refl (head_node g w path h) (member_node g path (tail_path g w path h) v) e

apart_by_test : (a b : Bool) → (a || b) ≡ false → (a ≡ false) × (b ≡ false)
apart_by_test true b e = cc
apart_by_test false b e = (refl, e)

all_apart : (v : ℕ) (path : List ℕ) → list_any (eqb v) path ≡ false → AllByRecursion (λ w. eqb v w ≡ false) path
all_apart v [] e = tt
all_apart v (w ∷ path) e =
    let (a, b) = apart_by_test (eqb v w) (list_any (eqb v) path) e in
    (a, all_apart v path b)

not_true : (b : Bool) → ¬ (b ≡ true) → b ≡ false
not_true true h = absurd (h refl)
not_true false _ = refl

distinct_path : (g : List (List ℕ)) → IsAcyclic g → (path : List ℕ) → IsPath g path → IsDistinct eqb path
unfolding IsDistinct
distinct_path g acyclic [] h = tt
distinct_path g acyclic (v ∷ path) h = (
  all_apart v path (not_true (list_any (eqb v) path) (λ e. acyclic v (leads_to_member g v v path h e))),
  distinct_path g acyclic path (tail_path g v path h),
)

-- where no node lies on a cycle, a path has each node once at most
pub path-le-nodes : (g : List (List ℕ)) → IsAcyclic g → (path : List ℕ) → IsPath g path → length path ≤ length g
path-le-nodes g acyclic path h = length-le_from_distinct_below path (length g) (distinct_path g acyclic path h) (member_node g path h)
