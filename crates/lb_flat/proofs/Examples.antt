-- Small programs, run and counted by the definitions alone: each lemma compares a run, or counts, with what they must be.
use Rattle.std.proofs.Common.{◌≡◌, ℕ, ◌+◌, ◌*◌, List, [], ◌∷◌, refl}
use Rattle.lb_trace.specs.declared.Event.{Event}
use Rattle.lb_trace.specs.declared.Event.TheVariants.{Ld, St}
use Rattle.lb_syntax.specs.declared.tree.Op.TheVariants.{Add, Divu, Remu, Ltu}
use Rattle.lb_syntax.specs.declared.tree.Width.TheVariants.{Four}
use Rattle.lb_syntax.specs.declared.tree.Action.TheVariants.{Read, Write}
use Rattle.lb_syntax.specs.declared.layout.FrameLayout.{FrameLayout}
use Rattle.lb_syntax.specs.declared.layout.Layout.{Layout}
use Rattle.lb_source.specs.declared.ends.Reason.TheVariants.{UnsetVariable, UnsetByte, NotOwned, OutOfRange}
use Rattle.lb_source.specs.declared.ends.SourceEnd.{SourceEnd}
use Rattle.lb_source.specs.declared.ends.SourceEnd.TheVariants.{Spent, Starved, Undefined}
use Rattle.lb_source.specs.declared.ends.SourceRun.{SourceRun}
use Rattle.lb_flat.specs.declared.places.Place.{Place}
use Rattle.lb_flat.specs.declared.places.Place.TheVariants.{Register, Slot}
use Rattle.lb_flat.specs.Code.{Constant, Copy, Compute, Load, Store, Forget, Call, Access}
use Rattle.lb_flat.specs.Code.{Code, Plain, Reserve, Branch, Loop, Nothing, chain, Routine, Executable}
use Rattle.lb_flat.specs.Whole.{flat_run, located_run, placed_run}
use Rattle.lb_flat.specs.Needs.{frame_need, flat_routine_words, placed_routine_words, code_need, flat_accesses_need, placed_accesses_need}

-- ---- programs

abbrev routine : {X : Type 0} → ℕ → List X → List X → List (Code X) → Routine X
routine n params results cs = record { variables = n; params = params; results = results; body = chain cs }

abbrev idle : {X : Type 0} → Routine X
idle = record { variables = 0; params = []; results = []; body = Nothing }

-- `init`, an empty `loop`, and more functions
abbrev executable : {X : Type 0} → Routine X → List (Routine X) → Executable X
executable f more = record { routines = f ∷ idle ∷ more; init = 0; again = 1 }

abbrev frame : ℕ → List ℕ → FrameLayout
frame size sites = record { size = size; sites = sites }

-- three frames, the first with a block
abbrev frames : Layout
frames = record { frames = frame 68 (60 ∷ []) ∷ frame 60 [] ∷ frame 72 [] ∷ [] }

abbrev ends : List Event → SourceEnd → SourceRun
ends trace end = record { trace = trace; end = end }

abbrev pins : ℕ
pins = 0x1001200C

abbrev bus : ℕ
bus = 0x10024048

-- an access that writes
abbrev writes : {X : Type 0} → X → X → Code X
writes a x = Plain (Access Write) (a ∷ x ∷ []) []

-- ---- flat runs

-- a quotient and a remainder by 0
abbrev divides : Executable ℕ
divides = executable (routine 4 [] [] (
    Plain (Constant pins) [] (0 ∷ []) ∷ Plain (Constant 7) [] (1 ∷ []) ∷ Plain (Constant 0) [] (2 ∷ [])
    ∷ Plain (Compute Divu) (1 ∷ 2 ∷ []) (3 ∷ []) ∷ writes 0 3 ∷ Plain (Compute Remu) (1 ∷ 2 ∷ []) (3 ∷ []) ∷ writes 0 3 ∷ [])) []

division : flat_run divides frames 1 [] ≡ ends (St pins 0xFFFFFFFF ∷ St pins 7 ∷ []) Spent
division = refl

no_fuel : flat_run divides frames 0 [] ≡ ends [] Spent
no_fuel = refl

-- a variable that was never set, and one that is no longer so
unset : flat_run (executable (routine 2 [] [] (Plain Copy (0 ∷ []) (1 ∷ []) ∷ [])) []) frames 9 [] ≡ ends [] (Undefined UnsetVariable)
unset = refl

forgotten : flat_run (executable (routine 1 [] [] (Plain (Constant pins) [] (0 ∷ []) ∷ writes 0 0 ∷ Plain Forget [] (0 ∷ []) ∷ writes 0 0 ∷ [])) []) frames 9 []
    ≡ ends (St pins pins ∷ []) (Undefined UnsetVariable)
forgotten = refl

-- replies, of which the second is missing
abbrev reads : Routine ℕ
reads = routine 2 [] [] (Plain (Constant bus) [] (0 ∷ []) ∷ Plain (Access Read) (0 ∷ []) (1 ∷ []) ∷ [])

starved : flat_run (record { routines = reads ∷ reads ∷ []; init = 0; again = 1 }) frames 99 (0 ∷ []) ≡ ends (Ld bus 0 ∷ []) Starved
starved = refl

-- a block of 8 bytes: a load of its second word, which was stored or wasn't, and one that reaches beyond its end
abbrev in_block : List (Code ℕ) → Executable ℕ
in_block cs = executable (routine 5 [] [] (Reserve 8 0 (chain (Plain (Constant 4) [] (1 ∷ []) ∷ Plain (Compute Add) (0 ∷ 1 ∷ []) (2 ∷ []) ∷ cs)) ∷ [])) []

abbrev loads_second : Code ℕ
loads_second = Plain (Load Four) (2 ∷ []) (3 ∷ [])

unset_byte : flat_run (in_block (Plain (Store Four) (0 ∷ 1 ∷ []) [] ∷ loads_second ∷ [])) frames 9 [] ≡ ends [] (Undefined UnsetByte)
unset_byte = refl

set_byte : flat_run (in_block (Plain (Store Four) (2 ∷ 1 ∷ []) [] ∷ loads_second ∷ Plain (Constant pins) [] (4 ∷ []) ∷ writes 4 3 ∷ [])) frames 9 [] ≡ ends (St pins 4 ∷ []) Spent
set_byte = refl

not_owned : flat_run (in_block (Plain (Compute Add) (2 ∷ 1 ∷ []) (2 ∷ []) ∷ loads_second ∷ [])) frames 9 [] ≡ ends [] (Undefined NotOwned)
not_owned = refl

-- the block stands above the lowered stack pointer by its offset
block_address : flat_run (in_block (Plain (Constant pins) [] (4 ∷ []) ∷ writes 4 0 ∷ [])) frames 1 [] ≡ ends (St pins 262136 ∷ []) Spent
block_address = refl

-- a loop of three turns, each of which spends fuel
abbrev counts : Executable ℕ
counts = executable (routine 5 [] [] (
    Plain (Constant 0) [] (0 ∷ []) ∷ Plain (Constant 1) [] (1 ∷ []) ∷ Plain (Constant 3) [] (2 ∷ []) ∷ Plain (Constant pins) [] (4 ∷ [])
    ∷ Loop (Plain (Compute Ltu) (0 ∷ 2 ∷ []) (3 ∷ [])) 3 (chain (writes 4 0 ∷ Plain (Compute Add) (0 ∷ 1 ∷ []) (0 ∷ []) ∷ [])) ∷ writes 4 2 ∷ [])) []

loop_ends : flat_run counts frames 4 [] ≡ ends (St pins 0 ∷ St pins 1 ∷ St pins 2 ∷ St pins 3 ∷ []) Spent
loop_ends = refl

loop_is_spent : flat_run counts frames 3 [] ≡ ends (St pins 0 ∷ St pins 1 ∷ []) Spent
loop_is_spent = refl

-- a call that gives its two arguments back the other way round, and whose own variables are no longer there
abbrev swap : Routine ℕ
swap = routine 3 (0 ∷ 1 ∷ []) (1 ∷ 0 ∷ []) (Plain (Constant 9) [] (2 ∷ []) ∷ [])

abbrev swaps : Executable ℕ
swaps = executable (routine 3 [] [] (
    Plain (Constant pins) [] (0 ∷ []) ∷ Plain (Constant 5) [] (1 ∷ []) ∷ Plain (Call 2) (0 ∷ 1 ∷ []) (0 ∷ 1 ∷ []) ∷ writes 1 0
    ∷ Branch 0 (writes 1 1) Nothing ∷ writes 0 2 ∷ [])) (swap ∷ [])

call_swaps : flat_run swaps frames 9 [] ≡ ends (St pins 5 ∷ St pins pins ∷ []) (Undefined UnsetVariable)
call_swaps = refl

-- ---- located runs

-- the divisor and the quotient share a register, one variable has a slot
located : located_run ((Register 18 ∷ Slot 0 ∷ Register 19 ∷ Register 20 ∷ []) ∷ [] ∷ []) divides frames 1 [] ≡ flat_run divides frames 1 []
located = refl

-- where two variables that are live together share a place, the run is another one
clash : located_run ((Register 18 ∷ Slot 0 ∷ Register 18 ∷ Register 20 ∷ []) ∷ [] ∷ []) divides frames 1 [] ≡ ends [] (Undefined OutOfRange)
clash = refl

-- ---- placed runs

-- the same call with slots, which the code gets and puts
abbrev placed_swaps : Executable Place
placed_swaps = executable (routine 2 [] [] (
    Plain (Constant pins) [] (Register 18 ∷ []) ∷ Plain (Constant 5) [] (Register 30 ∷ []) ∷ Plain Copy (Register 30 ∷ []) (Slot 1 ∷ [])
    ∷ Plain (Call 2) (Register 18 ∷ Slot 1 ∷ []) (Slot 0 ∷ Register 18 ∷ []) ∷ Plain Copy (Slot 0 ∷ []) (Register 31 ∷ []) ∷ writes (Register 18) (Register 31) ∷ writes (Register 18) (Register 30) ∷ []))
    (routine 1 (Slot 0 ∷ Register 18 ∷ []) (Register 18 ∷ Slot 0 ∷ []) [] ∷ [])

placed_call : placed_run placed_swaps frames 2 [] ≡ ends (St pins 5 ∷ St pins 5 ∷ []) Spent
placed_call = refl

-- ---- counts

abbrev empty_routine : Routine ℕ
empty_routine = idle

abbrev empty : Executable ℕ
empty = executable empty_routine []

empty_words : code_need flat_routine_words empty.routines ≡ 176
empty_words = refl

empty_frame : frame_need empty_routine ≡ 60
empty_frame = refl

placed_empty_words : code_need placed_routine_words (idle ∷ idle ∷ []) ≡ 90
placed_empty_words = refl

-- 493 variables fill a near frame, and one more makes each word count twice
near_words : flat_routine_words (routine 493 [] [] []) ≡ 80
near_words = refl

far_words : flat_routine_words (routine 494 [] [] []) ≡ 160
far_words = refl

swaps_words : code_need flat_routine_words swaps.routines ≡ 16 + (80 + (6 + 6 + (8 + 8 + 8) + 16 + (8 + 16) + 16)) + 80 + (80 + 8 + 8 + 6)
swaps_words = refl

swaps_accesses : flat_accesses_need swaps.routines ≡ 16 + (80 + (4 * 4 + 3 * (1 + 8))) + 80 + (80 + 8 + 8)
swaps_accesses = refl

placed_swaps_words : code_need placed_routine_words placed_swaps.routines ≡ 16 + (37 + (2 + 2 + 1 + 5 + 1 + 3 + 3)) + 37 + (37 + 4)
placed_swaps_words = refl

placed_swaps_accesses : placed_accesses_need placed_swaps.routines ≡ 16 + (80 + (4 * 4 + 2 * (1 + 8) + 2)) + 80 + (80 + 8 + 8)
placed_swaps_accesses = refl
