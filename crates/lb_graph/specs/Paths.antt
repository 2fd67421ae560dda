-- The paths of a graph, whose node v leads to the nodes in the list at v, and the weights of paths.
use Rattle.std.specs.Prelude.{◌≡◌, ℕ, ◌<◌, ◌≤◌, List, [], ◌∷◌, ◌++◌, length, map, sum, slice_index, slice_index_or, Contains}

-- the nodes that v leads to; what isn't a node of the graph leads nowhere
abbrev pub successors : List (List ℕ) → ℕ → List ℕ
successors g v = slice_index_or g v []

-- nodes of the graph, each of which leads to the next
abbrev pub IsPath : List (List ℕ) → List ℕ → Type 0
IsPath g [] = Unit {0}
IsPath g (v ∷ []) = v < length g
IsPath g (v ∷ w ∷ path) = (v < length g) × Contains (successors g v) w × IsPath g (w ∷ path)

-- a path of one or more edges leads from v to w
abbrev pub LeadsTo : List (List ℕ) → ℕ → ℕ → Type 0
LeadsTo g v w = (path : List ℕ) × IsPath g (v ∷ path ++ w ∷ [])

-- a path of one or more edges leads from v back to it
abbrev pub IsOnCycle : List (List ℕ) → ℕ → Type 0
IsOnCycle g v = LeadsTo g v v

-- no node below v lies on a cycle
abbrev pub NoneBelowOnCycle : List (List ℕ) → ℕ → Type 0
NoneBelowOnCycle g v = (w : ℕ) → w < v → ¬ (IsOnCycle g w)

-- no node lies on a cycle
abbrev pub IsAcyclic : List (List ℕ) → Type 0
IsAcyclic g = (v : ℕ) → ¬ (IsOnCycle g v)

-- the sum of the weights of a path's nodes, each as often as the path has it; the weight of node v is the one at v
abbrev pub path_weight : List ℕ → List ℕ → ℕ
path_weight weights path = sum (map (slice_index weights) path)

-- some path has the weight n, and none a greater one. The empty path has the weight 0
pub record IsGreatestWeight (g : List (List ℕ)) (weights : List ℕ) (n : ℕ) : Type 0 where
  pub path : List ℕ
  pub is_path : IsPath g path
  pub weight : path_weight weights path ≡ n
  pub greatest : (other : List ℕ) → IsPath g other → path_weight weights other ≤ n
