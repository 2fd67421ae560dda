-- The greatest weights of the paths that begin at each node. Only contracts of private functions cite it.
use Rattle.std.specs.Prelude.{◌≡◌, ℕ, ◌+◌, ◌<◌, ◌≤◌, ◌⊎◌, List, ◌∷◌, length, slice_index, Contains}
use Rattle.lb_graph.specs.Paths.{successors, IsPath, path_weight}

-- the greatest of what the list best has at these places, 0 where they are none
pub record IsGreatestAmong (best calls : List ℕ) (n : ℕ) : Type 0 where
  pub upper : (c : ℕ) → Contains calls c → slice_index best c ≤ n
  pub reached : (n ≡ 0) ⊎ ((c : ℕ) × Contains calls c × (c < length best) × (slice_index best c ≡ n))

-- the greatest number of the list, 0 where it has none
pub record IsGreatest (best : List ℕ) (n : ℕ) : Type 0 where
  pub upper : (v : ℕ) → slice_index best v ≤ n
  pub reached : (n ≡ 0) ⊎ ((v : ℕ) × (v < length best) × (slice_index best v ≡ n))

-- for each of the first nodes its own weight and the greatest that best has where it leads to
pub record IsStep (g : List (List ℕ)) (weights best : List ℕ) (nodes : ℕ) (next : List ℕ) : Type 0 where
  pub as_long : length next ≡ nodes
  pub value : (v : ℕ) → v < nodes → (n : ℕ) × IsGreatestAmong best (successors g v) n × (slice_index next v ≡ slice_index weights v + n)

-- the same for all nodes of the graph
abbrev pub IsWholeStep : List (List ℕ) → List ℕ → List ℕ → List ℕ → Type 0
IsWholeStep g weights best next = IsStep g weights best (length g) next

-- at each node the greatest weight of a path from there
pub record IsBest (g : List (List ℕ)) (weights best : List ℕ) : Type 0 where
  pub as_long : length best ≡ length g
  pub reached : (v : ℕ) → v < length g → (path : List ℕ) × IsPath g (v ∷ path) × (path_weight weights (v ∷ path) ≡ slice_index best v)
  pub greatest : (v : ℕ) (path : List ℕ) → IsPath g (v ∷ path) → path_weight weights (v ∷ path) ≤ slice_index best v
