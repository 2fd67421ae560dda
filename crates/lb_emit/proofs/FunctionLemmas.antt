-- Functions and their frames, one by one.
use Rattle.std.proofs.Common.{◌≡◌, ℕ, ◌+◌, ◌<◌, List, [], ◌∷◌, ◌++◌, drop, get_or, length, map, refl, sym, ap, ◌∙◌, append_assoc, arith}
use Rattle.std.proofs.lemmas.List.{at_drop_more, length-map}
use Rattle.lb_rv.specs.declared.instr.Instr.{Instr}
use Rattle.lb_flat.specs.declared.places.Place.{Place}
use Rattle.lb_flat.specs.declared.placed.PlacedFunction.{PlacedFunction}
use Rattle.lb_flat.specs.Code.{Routine}
use Rattle.lb_flat.specs.Placed.{placed_routine}
use Rattle.lb_emit_laws.specs.Frames.{frame_of, frame_layout, offsets_of}
use Rattle.lb_emit_laws.specs.Code.{routine_code, routine_words, routines_code}
use Rattle.lb_syntax.specs.declared.layout.FrameLayout.{FrameLayout}
use Rattle.lb_emit.specs.declared.frame.Frame.{Frame}
use Rattle.lb_emit.specs.InternalFrame.{Framed, framed_in, framed_of}

-- the functions from place i on
pub functions_at : (hs : List PlacedFunction) (i : ℕ) (h : PlacedFunction) → i < length hs → h ≡ get_or hs i h
    → map placed_routine (drop i hs) ≡ placed_routine h ∷ map placed_routine (drop (i + 1) hs)
functions_at hs i h lt is =
    at_drop_more (λ (xs : List PlacedFunction). map placed_routine xs) hs i h lt ∙ ap (λ (x : PlacedFunction). placed_routine x ∷ map placed_routine (drop (i + 1) hs)) (sym is)

-- the frames from place i on
pub frames_at : (ds : List Frame) (i : ℕ) (d : Frame) → i < length ds → d ≡ get_or ds i d → map framed_in (drop i ds) ≡ framed_in d ∷ map framed_in (drop (i + 1) ds)
frames_at ds i d lt is =
    at_drop_more (λ (xs : List Frame). map framed_in xs) ds i d lt ∙ ap (λ (x : Frame). framed_in x ∷ map framed_in (drop (i + 1) ds)) (sym is)

-- there are as many frames as functions
pub frames_length : (ds : List Frame) (hs : List PlacedFunction) → map framed_in ds ≡ map framed_of (map placed_routine hs) → length ds ≡ length hs
frames_length ds hs e =
    let all = ap (λ (l : List Framed). length l) e in
    omega (arith, all, length-map ds framed_in, length-map (map placed_routine hs) framed_of, length-map hs placed_routine)

-- the frame at a place is that of the function there, and so for those behind
pub record FramedAt (d : Frame) (h : PlacedFunction) (ds : List Frame) (hs : List PlacedFunction) : Type 0 where
  pub here : framed_in d ≡ framed_of (placed_routine h)
  pub behind : map framed_in ds ≡ map framed_of (map placed_routine hs)

same_parts : (x y : Framed) (xs ys : List Framed) → x ∷ xs ≡ y ∷ ys → (x ≡ y) × (xs ≡ ys)
same_parts x y xs ys e = (cc, cc)

pub framed_at : (ds : List Frame) (hs : List PlacedFunction) (i : ℕ) (d : Frame) (h : PlacedFunction) → i < length ds → i < length hs → d ≡ get_or ds i d → h ≡ get_or hs i h
    → map framed_in (drop i ds) ≡ map framed_of (map placed_routine (drop i hs)) → FramedAt d h (drop (i + 1) ds) (drop (i + 1) hs)
framed_at ds hs i d h l m is at e =
    let both = same_parts (framed_in d) (framed_of (placed_routine h)) (map framed_in (drop (i + 1) ds)) (map framed_of (map placed_routine (drop (i + 1) hs)))
    (sym (frames_at ds i d l is) ∙ e ∙ ap (map framed_of) (functions_at hs i h m at)) in
    record { here = both.0; behind = both.1 }

abbrev layout_in : Framed → FrameLayout
layout_in x = record { size = x.frame.size; sites = x.offsets }

-- the layouts of the frames are those of the functions
pub layouts_are : (ds : List Frame) (hs : List (Routine Place)) → map framed_in ds ≡ map framed_of hs → map (λ (d : Frame). d.layout) ds ≡ map frame_layout hs
layouts_are [] [] e = refl
layouts_are [] (h ∷ hs) e = cc
layouts_are (d ∷ ds) [] e = cc
layouts_are (d ∷ ds) (h ∷ hs) e =
    let both = same_parts (framed_in d) (framed_of h) (map framed_in ds) (map framed_of hs) e in
    ap (λ (x : Framed). layout_in x ∷ map (λ (k : Frame). k.layout) ds) both.0 ∙ ap (λ l. frame_layout h ∷ l) (layouts_are ds hs both.1)

-- the code of one function more
pub functions_more : (entry : ℕ → ℕ) (old new : List Instr) (h : Routine Place) (hs : List (Routine Place)) → new ≡ old ++ routine_code (frame_of h) entry (offsets_of h) (length old) h
    → length new ≡ length old + routine_words (frame_of h) h → new ++ routines_code entry (length new) hs ≡ old ++ routines_code entry (length old) (h ∷ hs)
functions_more entry old new h hs e long =
    ap (λ n. new ++ routines_code entry n hs) long
    ∙ ap (λ l. l ++ routines_code entry (length old + routine_words (frame_of h) h) hs) e
    ∙ append_assoc old (routine_code (frame_of h) entry (offsets_of h) (length old) h) (routines_code entry (length old + routine_words (frame_of h) h) hs)
