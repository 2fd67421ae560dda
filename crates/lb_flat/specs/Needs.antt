-- What flat and placed programs ask for, counted on their own trees: bytes of frames, words of code, and words of code that are loads
-- or stores.
use Rattle.std.specs.Prelude.{ℕ, ◌+◌, ◌*◌, nat_le, Bool, true, false, if◌then◌else◌, List, ◌++◌, length, map, sum}
use Rattle.lb_syntax.specs.declared.tree.Op.{Op}
use Rattle.lb_syntax.specs.declared.tree.Op.TheVariants.{Eq}
use Rattle.lb_syntax.specs.declared.limits.TheConstants.{NEAR_FRAME}
use Rattle.lb_syntax.specs.Needs.{greatest}
use Rattle.lb_flat.specs.declared.registers.TheConstants.{MOST_SAVED}
use Rattle.lb_flat.specs.declared.places.Place.{Place}
use Rattle.lb_flat.specs.declared.places.Place.TheVariants.{Register, Slot}
use Rattle.lb_flat.specs.Code.{Operation, Constant, Copy, Compute, Load, Store, Forget, Call, Access}
use Rattle.lb_flat.specs.Code.{Code, Plain, Reserve, Branch, Loop, Nothing, Sequence, sites, Routine}
use Rattle.lb_flat.specs.Counts.{loads, stores, accesses, arguments, targets, slot_moves}

-- ---- frames

-- the bytes of a function's frame: its blocks, a word for each variable, as if each had a slot (of placed code: for each slot), and
-- the registers that it may save
abbrev pub frame_need : {X : Type 0} → Routine X → ℕ
frame_need f = sum (sites f.body) + 4 * (f.variables + MOST_SAVED)

-- each slot of the frame is within reach of an instruction's own immediate
abbrev pub is_near : {X : Type 0} → Routine X → Bool
is_near f = nat_le (frame_need f) NEAR_FRAME

-- ---- words of flat code

-- the words of a plain command: 6 where it computes a value, else 8, and 4 for each argument and target of a call or an access
abbrev pub plain_words : Operation → List ℕ → List ℕ → ℕ
plain_words (Constant v) xs ys = 6
plain_words Copy xs ys = 6
plain_words (Compute op) xs ys = 6
plain_words (Load k) xs ys = 6
plain_words (Store k) xs ys = 8
plain_words Forget xs ys = 8
plain_words (Call f) xs ys = 8 + 4 * length xs + 4 * length ys
plain_words (Access k) xs ys = 8 + 4 * length xs + 4 * length ys

-- the words of a command or a block
abbrev pub flat_words : Code ℕ → ℕ
flat_words (Plain o xs ys) = plain_words o xs ys
flat_words (Reserve n y b) = 8 + flat_words b
flat_words (Branch x b d) = 8 + (flat_words b + flat_words d)
flat_words (Loop b x d) = 8 + (flat_words b + flat_words d)
flat_words Nothing = 0
flat_words (Sequence c d) = flat_words c + flat_words d

-- by how much a function's words are multiplied: in a larger frame a slot may take more instructions
abbrev pub far_factor : Routine ℕ → ℕ
far_factor f = if is_near f then 1 else 2

-- the words of a function
abbrev pub flat_routine_words : Routine ℕ → ℕ
flat_routine_words f = far_factor f * (80 + 4 * length f.params + 4 * length f.results + flat_words f.body)

-- ---- words of placed code: here each number is that of the instructions that the machine code takes

-- a load or a store of a slot: its address is computed first where it is out of reach
abbrev pub slot_words : Bool → ℕ
slot_words true = 1
slot_words false = 3

-- a value from a place to a register, or back
abbrev pub place_words : Bool → Place → ℕ
place_words near (Register r) = 1
place_words near (Slot s) = slot_words near

abbrev pub places_words : Bool → List Place → ℕ
places_words near ps = sum (map (place_words near) ps)

-- an operation; a test for equality takes a subtraction first
abbrev pub operation_words : Op → ℕ
operation_words Eq = 2
operation_words op = 1

-- a plain command. A copy has a register at one end or both, and takes what its further end takes
abbrev pub placed_plain_words : Bool → Operation → List Place → List Place → ℕ
placed_plain_words near (Constant v) ps qs = 2
placed_plain_words near Copy ps qs = greatest (map (place_words near) (ps ++ qs))
placed_plain_words near (Compute op) ps qs = operation_words op
placed_plain_words near (Load k) ps qs = 1
placed_plain_words near (Store k) ps qs = 1
placed_plain_words near Forget ps qs = 0
placed_plain_words near (Call f) ps qs = 1 + (places_words near ps + places_words near qs)
placed_plain_words near (Access k) ps qs = 1 + (places_words near ps + places_words near qs)

-- a command or a block: the address of a block of memory takes 3, a condition 2, a jump 1
abbrev pub placed_words : Bool → Code Place → ℕ
placed_words near (Plain o ps qs) = placed_plain_words near o ps qs
placed_words near (Reserve n q b) = 3 + placed_words near b
placed_words near (Branch p b d) = 3 + (placed_words near b + placed_words near d)
placed_words near (Loop b p d) = 3 + (placed_words near b + placed_words near d)
placed_words near Nothing = 0
placed_words near (Sequence c d) = placed_words near c + placed_words near d

-- a function: 3 to move the stack pointer down, 3 to move it up and 1 to return, 2 for each register that it may save, and its
-- parameters and results
abbrev pub placed_routine_words : Routine Place → ℕ
placed_routine_words f =
    7 + 2 * MOST_SAVED + (places_words (is_near f) f.params + places_words (is_near f) f.results) + placed_words (is_near f) f.body

-- ---- whole programs

-- the words of a program, where this says those of a function: 16 begin and call its functions
abbrev pub code_need : {X : Type 0} → (Routine X → ℕ) → List (Routine X) → ℕ
code_need words fs = 16 + sum (map words fs)

-- ---- loads and stores among them

-- of a command or a block: 1 for each load, store and access, and 4 for each argument and target
abbrev pub memory_words : {X : Type 0} → Code X → ℕ
memory_words c = loads c + stores c + accesses c + 4 * arguments c + 4 * targets c

-- of placed code: 1 more for each move from or to a slot
abbrev pub placed_memory_words : Code Place → ℕ
placed_memory_words c = memory_words c + slot_moves c

-- of a function, where this says those of its body
abbrev pub routine_memory_words : {X : Type 0} → (Code X → ℕ) → Routine X → ℕ
routine_memory_words count f = 80 + 4 * length f.params + 4 * length f.results + count f.body

-- of a flat program
abbrev pub flat_accesses_need : List (Routine ℕ) → ℕ
flat_accesses_need fs = 16 + sum (map (routine_memory_words memory_words) fs)

-- of a placed program
abbrev pub placed_accesses_need : List (Routine Place) → ℕ
placed_accesses_need fs = 16 + sum (map (routine_memory_words placed_memory_words) fs)
