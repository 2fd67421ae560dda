-- The frame of a placed function. From the stack pointer up it has the registers that the function saves; then the slots; then the
-- blocks, one behind the other.
use Rattle.std.specs.Prelude.{ℕ, zero, suc, ◌+◌, ◌*◌, Bool, false, ◌==◌, ◌||◌, if◌then◌else◌, List, [], ◌∷◌, ◌++◌, length, map, sum}
use Rattle.lb_syntax.specs.declared.layout.FrameLayout.{FrameLayout}
use Rattle.lb_syntax.specs.declared.layout.Layout.{Layout}
use Rattle.lb_flat.specs.declared.places.Place.{Place}
use Rattle.lb_flat.specs.declared.places.Place.TheVariants.{Register, Slot}
use Rattle.lb_flat.specs.Calls.{callees}
use Rattle.lb_flat.specs.Code.{Code, Plain, Reserve, Branch, Loop, Nothing, Sequence, sites, Routine, Executable}

-- ---- the registers that a function saves

-- one of the places is the register
abbrev pub sets_in_places : List Place → ℕ → Bool
sets_in_places [] r = false
sets_in_places (Register q ∷ ps) r = (q == r) || sets_in_places ps r
sets_in_places (Slot k ∷ ps) r = sets_in_places ps r

-- a command or a block may set the register
abbrev pub sets_in : Code Place → ℕ → Bool
sets_in (Plain o xs ys) r = sets_in_places ys r
sets_in (Reserve n y b) r = sets_in_places (y ∷ []) r || sets_in b r
sets_in (Branch x b d) r = sets_in b r || sets_in d r
sets_in (Loop b x d) r = sets_in b r || sets_in d r
sets_in Nothing r = false
sets_in (Sequence c d) r = sets_in c r || sets_in d r

-- a function may
abbrev pub sets_in_routine : Routine Place → ℕ → Bool
sets_in_routine f r = sets_in_places f.params r || sets_in f.body r

-- n registers from one on
abbrev pub registers_from : ℕ → ℕ → List ℕ
registers_from r zero = []
registers_from r (suc n) = r ∷ registers_from (r + 1) n

-- those of these registers for which the test holds
abbrev pub only : (ℕ → Bool) → List ℕ → List ℕ
only test [] = []
only test (r ∷ rs) = if test r then r ∷ only test rs else only test rs

-- register 1, which has the address to return to, where there are calls: they set it
abbrev pub link_register : List ℕ → List ℕ
link_register [] = []
link_register (g ∷ gs) = 1 ∷ []

-- register 1 of a function that calls, and each of the registers 18 to 31, those of placed code, that the function may set
unfoldable pub saved_registers : Routine Place → List ℕ
saved_registers f = link_register (callees f.body) ++ only (sets_in_routine f) (registers_from 18 14)

-- ---- frames

-- the registers that are saved, how many slots there are, and how many bytes in all
pub record Frame : Type 0 where
  pub saved : List ℕ
  pub slots : ℕ
  pub size : ℕ

-- the offset of a slot
abbrev pub slot_offset : Frame → ℕ → ℕ
slot_offset f k = 4 * (length f.saved + k)

-- the bytes below the blocks
abbrev pub blocks_offset : Routine Place → ℕ
blocks_offset f = 4 * (length (saved_registers f) + f.variables)

-- the offsets of blocks of these sizes, one behind the other from an offset on
abbrev pub offsets_from : ℕ → List ℕ → List ℕ
offsets_from o [] = []
offsets_from o (n ∷ ns) = o ∷ offsets_from (o + n) ns

-- a function's frame
abbrev pub frame_of : Routine Place → Frame
frame_of f = record { saved = saved_registers f; slots = f.variables; size = blocks_offset f + sum (sites f.body) }

-- the offsets of its blocks, in text order
abbrev pub offsets_of : Routine Place → List ℕ
offsets_of f = offsets_from (blocks_offset f) (sites f.body)

-- its place in the layout
abbrev pub frame_layout : Routine Place → FrameLayout
frame_layout f = record { size = (frame_of f).size; sites = offsets_of f }

-- the layout of a program
abbrev pub layout_of : Executable Place → Layout
layout_of p = record { frames = map frame_layout p.routines }
