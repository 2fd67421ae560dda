-- What a search marks, and the order in which it finds it. Only contracts of private functions cite it.
use Rattle.std.specs.Prelude.{◌≡◌, ℕ, ◌<◌, ◌≤◌, ◌⊎◌, ◌↔◌, List, Bool, true, false, length, slice_index, slice_index_or, Contains, count_by}
use Rattle.lb_graph.specs.Paths.{LeadsTo}
use Rattle.lb_graph.specs.declared.cycle.Found.{Found}

-- node v is marked; what isn't a node never is
abbrev pub IsMarked : List Bool → ℕ → Type 0
IsMarked marks v = slice_index_or marks v false ≡ true

-- exactly those nodes are marked that a path of one or more edges leads to from start
abbrev pub MarksReached : List (List ℕ) → ℕ → List Bool → Type 0
MarksReached g start marks = (v : ℕ) → IsMarked marks v ↔ LeadsTo g start v

-- the order has the marked nodes, each once
pub record IsOrderOf (marks : List Bool) (order : List ℕ) : Type 0 where
  pub marked : (k : ℕ) → k < length order → IsMarked marks (slice_index order k)
  pub listed : (v : ℕ) → IsMarked marks v → Contains order v
  pub count : count_by (λ b. b) marks ≡ length order

-- these nodes are marked too, and follow at the end of the order
pub record Adds (calls : List ℕ) (marks : List Bool) (order : List ℕ) (marks' : List Bool) (order' : List ℕ) : Type 0 where
  pub as_long : length marks' ≡ length marks
  pub is_order : IsOrderOf marks' order'
  pub longer : length order ≤ length order'
  pub same_order : (k : ℕ) → k < length order → slice_index order' k ≡ slice_index order k
  pub kept : (v : ℕ) → IsMarked marks v → IsMarked marks' v
  pub reached : (v : ℕ) → Contains calls v → v < length marks → IsMarked marks' v
  pub only : (v : ℕ) → IsMarked marks' v → IsMarked marks v ⊎ Contains calls v

-- the search has then found these nodes too
abbrev pub Finds : List ℕ → Found → Found → Type 0
Finds calls before after = Adds calls before.marks.items before.order.items after.marks.items after.order.items
