-- Which layouts are valid for a program.
use Rattle.std.specs.Prelude.{◌≡◌, ℕ, ◌+◌, ◌%◌, ◌<◌, ◌≤◌, ◌⊎◌, List, [], ◌∷◌, length, slice_index, All}
use Rattle.lb_syntax.specs.Tree.{Procedure}
use Rattle.lb_syntax.specs.Needs.{sites, frame_need}
use Rattle.lb_syntax.specs.declared.layout.FrameLayout.{FrameLayout}
use Rattle.lb_syntax.specs.declared.layout.Layout.{Layout}

-- bytes of a frame from an offset on
pub record Span : Type 0 where
  pub offset : ℕ
  pub size : ℕ

-- where the block of a site stands, given the offsets and the sizes of all sites
abbrev pub span_at : List ℕ → List ℕ → ℕ → Span
span_at offsets sizes k = record { offset = slice_index offsets k; size = slice_index sizes k }

-- the span ends at or before this place
abbrev pub EndsBy : Span → ℕ → Type 0
EndsBy s place = s.offset + s.size ≤ place

-- no byte is in both: one of them has none, or one ends before the other begins
abbrev pub AreApart : Span → Span → Type 0
AreApart s t = (s.size ≡ 0) ⊎ (t.size ≡ 0) ⊎ EndsBy s t.offset ⊎ EndsBy t s.offset

-- a frame that fits a function whose blocks have these sizes, and that asks for so many bytes: whole words, no more than it asks for,
-- and its blocks inside and apart
pub record IsFrameFor (frame : FrameLayout) (sizes : List ℕ) (need : ℕ) : Type 0 where
  pub offset_each : length frame.sites ≡ length sizes
  pub whole : frame.size % 4 ≡ 0
  pub small : frame.size ≤ need
  pub aligned : All (λ offset. offset % 4 ≡ 0) frame.sites
  pub inside : (k : ℕ) → k < length sizes → EndsBy (span_at frame.sites sizes k) frame.size
  pub apart : (j k : ℕ) → j < k → k < length sizes → AreApart (span_at frame.sites sizes j) (span_at frame.sites sizes k)

-- a frame for each of these functions of any form, in order, where `sizes` and `need` say what a function asks for
abbrev pub AreFramesFor : {F : Type 0} → (F → List ℕ) → (F → ℕ) → List FrameLayout → List F → Type 0
AreFramesFor sizes need [] [] = Unit {0}
AreFramesFor sizes need (frame ∷ frames) (f ∷ fs) = IsFrameFor frame (sizes f) (need f) × AreFramesFor sizes need frames fs
AreFramesFor sizes need _ _ = ⊥

-- a frame that fits a function
abbrev pub IsFrameOf : FrameLayout → Procedure → Type 0
IsFrameOf frame f = IsFrameFor frame (sites f.body) (frame_need f)

-- a frame for each function, in order
abbrev pub AreFramesOf : List FrameLayout → List Procedure → Type 0
AreFramesOf = AreFramesFor (λ f. sites f.body) frame_need

-- a layout that is valid for a program
abbrev pub IsValidLayout : Layout → List Procedure → Type 0
IsValidLayout layout p = AreFramesOf layout.frames p
