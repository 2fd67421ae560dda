-- Frames whose blocks stand one after another.
use Rattle.std.specs.Prelude.{◌≡◌, ℕ, ◌+◌, List, [], ◌∷◌, map, sum}
use Rattle.lb_syntax.specs.Tree.{Procedure}
use Rattle.lb_syntax.specs.Needs.{sites}
use Rattle.lb_syntax.specs.declared.layout.FrameLayout.{FrameLayout}
use Rattle.lb_syntax.specs.declared.layout.Layout.{Layout}

-- blocks of these sizes, one after another from a place on: where each begins
abbrev pub starts : ℕ → List ℕ → List ℕ
starts place [] = []
starts place (n ∷ ns) = place ∷ starts (place + n) ns

-- a frame of these blocks and nothing else
abbrev pub packed : List ℕ → FrameLayout
packed sizes = record { size = sum sizes; sites = starts 0 sizes }

-- the frames of these functions
abbrev pub packed_frames : List Procedure → List FrameLayout
packed_frames p = map (λ f. packed (sites f.body)) p

-- the layout has these frames for the functions
abbrev pub IsPackedLayout : Layout → List Procedure → Type 0
IsPackedLayout layout p = layout.frames ≡ packed_frames p
