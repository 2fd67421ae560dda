-- Placed code that fits its frame and its program: what the simulation asks for, command by command.
use Rattle.std.specs.Prelude.{◌≡◌, ◌≢◌, ℕ, ◌+◌, ◌*◌, ◌^◌, ◌<◌, ◌≤◌, ◌⊎◌, Bool, true, false, ◌==◌, ◌||◌, List, [], ◌∷◌, drop, length, slice_get, Some, Contains}
use Rattle.lb_syntax.specs.declared.tree.Action.TheVariants.{Read, Write}
use Rattle.lb_flat.specs.declared.places.Place.{Place}
use Rattle.lb_flat.specs.declared.places.Place.TheVariants.{Register, Slot}
use Rattle.lb_flat.specs.Code.{Operation, Constant, Copy, Compute, Load, Store, Call, Access}
use Rattle.lb_flat.specs.Code.{Code, Plain, Reserve, Branch, Loop, Nothing, Sequence, sites, Routine}
use Rattle.lb_flat.specs.Calls.{callees, IsCallPath, path_need}
use Rattle.lb_emit_laws.specs.Frames.{Frame, frame_of, offsets_of}

-- the register is among these
abbrev pub is_in : ℕ → List ℕ → Bool
is_in r [] = false
is_in r (x ∷ xs) = (x == r) || is_in r xs

-- a register that is placed code's
pub record IsRegister (r : ℕ) : Type 0 where
  pub from : 18 ≤ r
  pub below : r < 32

-- one that the function may set, so that it is saved
pub record IsTarget (f : Frame) (r : ℕ) : Type 0 where
  pub from : 18 ≤ r
  pub below : r < 32
  pub saved : is_in r f.saved ≡ true

abbrev pub IsSource : Frame → Place → Type 0
IsSource f (Register r) = IsRegister r
IsSource f (Slot k) = k < f.slots

abbrev pub AreSources : Frame → List Place → Type 0
AreSources f [] = Unit {0}
AreSources f (p ∷ ps) = IsSource f p × AreSources f ps

abbrev pub IsPlaceTarget : Frame → Place → Type 0
IsPlaceTarget f (Register r) = IsTarget f r
IsPlaceTarget f (Slot k) = k < f.slots

abbrev pub ArePlaceTargets : Frame → List Place → Type 0
ArePlaceTargets f [] = Unit {0}
ArePlaceTargets f (p ∷ ps) = IsPlaceTarget f p × ArePlaceTargets f ps

-- ---- calls

-- so many bytes of stack are enough for a call of this function, whatever it calls
abbrev pub Budget : List (Routine Place) → ℕ → ℕ → Type 0
Budget fs room g = (path : List ℕ) → IsCallPath fs (g ∷ path) → path_need fs (g ∷ path) ≤ room

-- a call that finds its function, with as many arguments and targets, and is allowed
pub record Called (fs : List (Routine Place)) (Allowed : ℕ → Type 0) (g arguments targets : ℕ) : Type 0 where
  pub callee : Routine Place
  pub is : slice_get fs g ≡ Some callee
  pub arity : length callee.params ≡ arguments
  pub answers : length callee.results ≡ targets
  pub allowed : Allowed g

-- ---- code

-- the block of the next site lies in the frame, behind the slots
abbrev pub HasBlock : Frame → ℕ → List ℕ → Type 0
HasBlock f n [] = ⊥
HasBlock f n (o ∷ os) = (4 * (length f.saved + f.slots) ≤ o) × (o + n ≤ f.size)

-- a condition
abbrev pub IsRegisterSource : Place → Type 0
IsRegisterSource (Register r) = IsRegister r
IsRegisterSource (Slot k) = ⊥

-- what holds the address of a block
abbrev pub IsRegisterTarget : Frame → Place → Type 0
IsRegisterTarget f (Register r) = IsTarget f r
IsRegisterTarget f (Slot k) = ⊥

module _ (fs : List (Routine Place)) (Allowed : ℕ → Type 0) (f : Frame) where
  abbrev pub IsPlainInOrder : Operation → List Place → List Place → Type 0
  IsPlainInOrder (Constant v) [] (Register y ∷ []) = IsTarget f y × (v < 2 ^ 32)
  IsPlainInOrder Copy (Register x ∷ []) (Register y ∷ []) = IsRegister x × IsTarget f y
  IsPlainInOrder Copy (Slot k ∷ []) (Register y ∷ []) = (k < f.slots) × IsTarget f y
  IsPlainInOrder Copy (Register x ∷ []) (Slot k ∷ []) = IsRegister x × (k < f.slots)
  IsPlainInOrder (Compute op) (Register l ∷ Register r ∷ []) (Register y ∷ []) = IsRegister l × IsRegister r × IsTarget f y
  IsPlainInOrder (Load w) (Register a ∷ []) (Register y ∷ []) = IsRegister a × IsTarget f y
  IsPlainInOrder (Store w) (Register a ∷ Register x ∷ []) [] = IsRegister a × IsRegister x
  IsPlainInOrder (Call g) xs ys = AreSources f xs × ArePlaceTargets f ys × (length xs ≤ 8) × (length ys ≤ 8) × (is_in 1 f.saved ≡ true) × Called fs Allowed g (length xs) (length ys)
  IsPlainInOrder (Access Read) (a ∷ []) (y ∷ []) = IsSource f a × IsPlaceTarget f y
  IsPlainInOrder (Access Write) (a ∷ x ∷ []) [] = IsSource f a × IsSource f x
  IsPlainInOrder o xs ys = ⊥

  -- a command or a block, whose blocks of memory have these offsets
  abbrev pub InOrder : List ℕ → Code Place → Type 0
  InOrder os (Plain o xs ys) = IsPlainInOrder o xs ys
  InOrder os (Reserve n y b) = IsRegisterTarget f y × HasBlock f n os × InOrder (drop 1 os) b
  InOrder os (Branch x b d) = IsRegisterSource x × InOrder os b × InOrder (drop (length (sites b)) os) d
  InOrder os (Loop b x d) = IsRegisterSource x × InOrder os b × InOrder (drop (length (sites b)) os) d
  InOrder os Nothing = Unit {0}
  InOrder os (Sequence c d) = InOrder os c × InOrder (drop (length (sites c)) os) d

-- ---- functions

-- a register that a function may save: neither the stack pointer nor one that passes values, nor the code's own
pub record IsSaved (r : ℕ) : Type 0 where
  pub positive : 1 ≤ r
  pub below : r < 32
  pub apart : r ≢ 2
  pub free : r < 5 ⊎ 18 ≤ r

abbrev pub AreSaved : List ℕ → Type 0
AreSaved [] = Unit {0}
AreSaved (r ∷ rs) = IsSaved r × AreSaved rs

-- a function in its frame
pub record FitsFrame (fs : List (Routine Place)) (g : Routine Place) : Type 0 where
  pub few : length (frame_of g).saved ≤ 15
  pub saved : AreSaved (frame_of g).saved
  pub params : ArePlaceTargets (frame_of g) g.params
  pub results : AreSources (frame_of g) g.results
  pub param_count : length g.params ≤ 8
  pub result_count : length g.results ≤ 8
  pub body : InOrder fs (Contains (callees g.body)) (frame_of g) (offsets_of g) g.body
