-- What the code of a function is written by, and what its commands must keep for that.
use Rattle.std.specs.Prelude.{ℕ, ◌+◌, ◌*◌, ◌^◌, ◌<◌, ◌≤◌, List, [], ◌∷◌, ◌++◌, drop, length, slice_index}
use Rattle.lb_rv.specs.declared.instr.Instr.{Instr}
use Rattle.lb_syntax.specs.declared.limits.TheConstants.{MOST_WORDS}
use Rattle.lb_flat.specs.declared.places.Place.{Place}
use Rattle.lb_flat.specs.declared.places.Place.TheVariants.{Register, Slot}
use Rattle.lb_flat.specs.Code.{Access, Call}
use Rattle.lb_flat.specs.Code.{Code, Plain, Reserve, Branch, Loop, Nothing, Sequence, Routine}
use Rattle.lb_emit_laws.specs.Frames.{Frame}
use Rattle.lb_emit.specs.InternalFrame.{Framed}
use Rattle.lb_emit_laws.specs.Code.{command_code, routine_code}

-- ---- what it is written by

-- the function's frame, the offsets of its blocks of memory, and the number of the instruction at
-- which each function begins
pub record Setting : Type 0 where
  pub frame : Frame
  pub offsets : List ℕ
  pub entries : List ℕ

abbrev pub setting_of : Framed → List ℕ → Setting
setting_of f entries = record { frame = f.frame; offsets = f.offsets; entries = entries }

-- offsets of slots are words
abbrev pub HasNumberedSlots : Frame → Type 0
HasNumberedSlots f = 4 * (length f.saved + f.slots) < 2 ^ 32

-- numbers of instructions, at most as many as there may be words
abbrev pub AreEntries : List ℕ → Type 0
AreEntries [] = Unit {0}
AreEntries (e ∷ es) = (e ≤ MOST_WORDS) × AreEntries es

-- the code, and behind it that of a command or a block, whose first block of memory is the one of this
-- number
abbrev pub with_command : Setting → List Instr → ℕ → Code Place → List Instr
with_command s code next c =
    code ++ command_code s.frame (λ g. slice_index s.entries g) (drop next s.offsets) (length code) c

-- the code, and behind it that of a function
abbrev pub with_function : Setting → List Instr → Routine Place → List Instr
with_function s code f =
    code ++ routine_code s.frame (λ g. slice_index s.entries g) s.offsets (length code) f

-- ---- what commands must keep

-- the slots are below this number
abbrev pub HaveSlots : ℕ → List Place → Type 0
HaveSlots slots [] = Unit {0}
HaveSlots slots (Register r ∷ ps) = HaveSlots slots ps
HaveSlots slots (Slot k ∷ ps) = (k < slots) × HaveSlots slots ps

-- places that can be passed: there are at most 8
abbrev pub CanPass : ℕ → List Place → Type 0
CanPass slots ps = (length ps ≤ 8) × HaveSlots slots ps

-- slots that are there, of a function that has so many
abbrev pub NamesSlots : ℕ → Code Place → Type 0
NamesSlots slots (Plain o xs ys) = CanPass slots xs × CanPass slots ys
NamesSlots slots (Reserve n y b) = NamesSlots slots b
NamesSlots slots (Branch x b d) = NamesSlots slots b × NamesSlots slots d
NamesSlots slots (Loop b x d) = NamesSlots slots b × NamesSlots slots d
NamesSlots slots Nothing = Unit {0}
NamesSlots slots (Sequence c d) = NamesSlots slots c × NamesSlots slots d

-- functions that are there, where there are so many
abbrev pub CallsFunctions : ℕ → Code Place → Type 0
CallsFunctions count (Plain (Call g) xs ys) = g < count
CallsFunctions count (Plain o xs ys) = Unit {0}
CallsFunctions count (Reserve n y b) = CallsFunctions count b
CallsFunctions count (Branch x b d) = CallsFunctions count b × CallsFunctions count d
CallsFunctions count (Loop b x d) = CallsFunctions count b × CallsFunctions count d
CallsFunctions count Nothing = Unit {0}
CallsFunctions count (Sequence c d) = CallsFunctions count c × CallsFunctions count d

-- places that can be passed and slots that are there, all over a function
pub record IsFunctionPart (slots : ℕ) (f : Routine Place) : Type 0 where
  pub params : CanPass slots f.params
  pub results : CanPass slots f.results
  pub body : NamesSlots slots f.body

-- a command without blocks, but no call and no access
abbrev pub IsSimple : Code Place → Type 0
IsSimple (Plain (Call g) xs ys) = ⊥
IsSimple (Plain (Access k) xs ys) = ⊥
IsSimple (Plain o xs ys) = Unit {0}
IsSimple c = ⊥
