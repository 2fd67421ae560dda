-- The code of a placed program. Arguments and results pass in the registers 10 to 17, in order. The code of a command or a function
-- depends on the number of the instruction at which it begins, since jumps lead by distances.
use Rattle.std.specs.Prelude.{ℕ, ◌+◌, ◌*◌, ◌==◌, Bool, true, false, List, [], ◌∷◌, ◌++◌, drop, length, map, slice_index}
use Rattle.lb_syntax.specs.declared.tree.Action.{Action}
use Rattle.lb_syntax.specs.declared.tree.Action.TheVariants.{Read, Write}
use Rattle.lb_syntax.specs.declared.tree.Width.TheVariants.{Four}
use Rattle.lb_rv.specs.declared.instr.Instr.{Instr}
use Rattle.lb_rv.specs.declared.instr.Instr.TheVariants as instr
use Rattle.lb_rv.specs.Table.{word_of}
use Rattle.lb_flat.specs.declared.places.Place.{Place}
use Rattle.lb_flat.specs.declared.places.Place.TheVariants.{Register, Slot}
use Rattle.lb_flat.specs.Code.{Operation, Constant, Copy, Compute, Load, Store, Call, Access}
use Rattle.lb_flat.specs.Code.{Code, Plain, Reserve, Branch, Loop, Nothing, Sequence, sites, Routine, Executable}
use Rattle.lb_flat.specs.Needs.{operation_words}
use Rattle.lb_emit_laws.specs.Instructions.{immediate, jump, skip_unless_zero, literal_code, literal_words, copy_code, reach_words, get_code, put_code, address_code, down_code, up_code, saves_code, loads_code, op_code, load_instr, store_instr}
use Rattle.lb_emit_laws.specs.Frames.{Frame, slot_offset, frame_of, offsets_of}

-- ---- values from and to places

-- the instructions of a value from a place to a register, or back
abbrev pub place_words : Frame → Place → ℕ
place_words f (Register r) = 1
place_words f (Slot k) = reach_words (slot_offset f k)

abbrev pub places_words : Frame → List Place → ℕ
places_words f [] = 0
places_words f (p ∷ ps) = place_words f p + places_words f ps

-- rd becomes what a place holds
abbrev pub get_place : Frame → ℕ → Place → List Instr
get_place f rd (Register r) = copy_code rd r
get_place f rd (Slot k) = get_code rd (slot_offset f k)

-- a place becomes what rs holds
abbrev pub put_place : Frame → Place → ℕ → List Instr
put_place f (Register r) rs = copy_code r rs
put_place f (Slot k) rs = put_code (slot_offset f k) rs

-- the registers from number i on become what places hold
abbrev pub gets_code : Frame → ℕ → List Place → List Instr
gets_code f i [] = []
gets_code f i (p ∷ ps) = get_place f i p ++ gets_code f (i + 1) ps

-- and back, in turn
abbrev pub puts_code : Frame → List Place → ℕ → List Instr
puts_code f [] i = []
puts_code f (p ∷ ps) i = put_place f p i ++ puts_code f ps (i + 1)

-- ---- accesses of devices

-- the register that has the value of a place: its own, or register i where the place is a slot
abbrev pub value_register : ℕ → Place → ℕ
value_register i (Register r) = r
value_register i (Slot k) = i

-- the value comes there
abbrev pub fetch_code : Frame → ℕ → Place → List Instr
fetch_code f i (Register r) = []
fetch_code f i (Slot k) = get_code i (slot_offset f k)

-- and back to its place
abbrev pub keep_code : Frame → Place → ℕ → List Instr
keep_code f (Register r) i = []
keep_code f (Slot k) i = put_code (slot_offset f k) i

-- how many instructions either has
abbrev pub fetch_words : Frame → Place → ℕ
fetch_words f (Register r) = 0
fetch_words f (Slot k) = reach_words (slot_offset f k)

-- an access is a load or a store of a word, at the address in a register
abbrev pub access_code : Frame → Action → List Place → List Place → List Instr
access_code f Read (a ∷ []) (y ∷ []) =
    fetch_code f 10 a ++ load_instr Four (value_register 10 y) (value_register 10 a) ∷ keep_code f y 10
access_code f Write (a ∷ x ∷ []) [] =
    fetch_code f 10 a ++ (fetch_code f 11 x ++ store_instr Four (value_register 10 a) (value_register 11 x) ∷ [])
access_code f k xs ys = []

-- how many instructions it has
abbrev pub access_words : Frame → Action → List Place → List Place → ℕ
access_words f Read (a ∷ []) (y ∷ []) = fetch_words f a + (1 + fetch_words f y)
access_words f Write (a ∷ x ∷ []) [] = fetch_words f a + fetch_words f x + 1
access_words f k xs ys = 0

-- ---- plain commands, of the forms that placed programs in order have

-- how many instructions a plain command has
abbrev pub plain_words : Frame → Operation → List Place → List Place → ℕ
plain_words f (Constant v) [] (Register y ∷ []) = literal_words v
plain_words f Copy (Register x ∷ []) (Register y ∷ []) = 1
plain_words f Copy (Slot k ∷ []) (Register y ∷ []) = reach_words (slot_offset f k)
plain_words f Copy (Register x ∷ []) (Slot k ∷ []) = reach_words (slot_offset f k)
plain_words f (Compute op) (Register l ∷ Register r ∷ []) (Register y ∷ []) = operation_words op
plain_words f (Load w) (Register a ∷ []) (Register y ∷ []) = 1
plain_words f (Store w) (Register a ∷ Register x ∷ []) [] = 1
plain_words f (Call g) xs ys = places_words f xs + (1 + places_words f ys)
plain_words f (Access k) xs ys = access_words f k xs ys
plain_words f o xs ys = 0

-- its code from instruction number i on, where each function has its entry
abbrev pub plain_code : Frame → (ℕ → ℕ) → ℕ → Operation → List Place → List Place → List Instr
plain_code f entry i (Constant v) [] (Register y ∷ []) = literal_code y v
plain_code f entry i Copy (Register x ∷ []) (Register y ∷ []) = copy_code y x
plain_code f entry i Copy (Slot k ∷ []) (Register y ∷ []) = get_code y (slot_offset f k)
plain_code f entry i Copy (Register x ∷ []) (Slot k ∷ []) = put_code (slot_offset f k) x
plain_code f entry i (Compute op) (Register l ∷ Register r ∷ []) (Register y ∷ []) = op_code op y l r
plain_code f entry i (Load w) (Register a ∷ []) (Register y ∷ []) = load_instr w y a ∷ []
plain_code f entry i (Store w) (Register a ∷ Register x ∷ []) [] = store_instr w a x ∷ []
plain_code f entry i (Call g) xs ys = gets_code f 10 xs ++ jump 1 (i + places_words f xs) (entry g) ∷ puts_code f ys 10
plain_code f entry i (Access k) xs ys = access_code f k xs ys
plain_code f entry i o xs ys = []

-- ---- commands and blocks

-- the register that a condition or the address of a block has; a slot has none, and no program in order names one there
abbrev pub register_of : Place → ℕ
register_of (Register r) = r
register_of (Slot k) = 0

-- from instruction number i over a block of n instructions: a jump, or nothing where there is nothing to go over
abbrev pub over_by : Bool → ℕ → ℕ → List Instr
over_by true i n = []
over_by false i n = jump 0 i (i + 1 + n) ∷ []

abbrev pub over_code : ℕ → ℕ → List Instr
over_code i n = over_by (n == 0) i n

-- how many instructions that are
abbrev pub over_words_by : Bool → ℕ
over_words_by true = 0
over_words_by false = 1

abbrev pub over_words : ℕ → ℕ
over_words n = over_words_by (n == 0)

-- how many instructions a command or a block has
abbrev pub code_words : Frame → Code Place → ℕ
code_words f (Plain o xs ys) = plain_words f o xs ys
code_words f (Reserve n y b) = 3 + code_words f b
code_words f (Branch x b d) = 2 + (code_words f b + (over_words (code_words f d) + code_words f d))
code_words f (Loop b x d) = code_words f b + (2 + (code_words f d + 1))
code_words f Nothing = 0
code_words f (Sequence c d) = code_words f c + code_words f d

-- its code from instruction number i on, where the blocks of memory have these offsets. A condition goes over a jump, which
-- leads to the other block or behind the loop; a loop's last instruction leads back to its head
abbrev pub command_code : Frame → (ℕ → ℕ) → List ℕ → ℕ → Code Place → List Instr
command_code f entry os i (Plain o xs ys) = plain_code f entry i o xs ys
command_code f entry [] i (Reserve n y b) = address_code (register_of y) 0 ++ command_code f entry [] (i + 3) b
command_code f entry (o ∷ os) i (Reserve n y b) = address_code (register_of y) o ++ command_code f entry os (i + 3) b
command_code f entry os i (Branch x b d) =
    skip_unless_zero (register_of x) ∷ jump 0 (i + 1) (i + 2 + code_words f b + over_words (code_words f d))
    ∷ (command_code f entry os (i + 2) b ++ (over_code (i + 2 + code_words f b) (code_words f d)
    ++ command_code f entry (drop (length (sites b)) os) (i + 2 + code_words f b + over_words (code_words f d)) d))
command_code f entry os i (Loop b x d) =
    command_code f entry os i b
    ++ skip_unless_zero (register_of x) ∷ jump 0 (i + code_words f b + 1) (i + code_words f b + 2 + code_words f d + 1)
    ∷ (command_code f entry (drop (length (sites b)) os) (i + code_words f b + 2) d
    ++ jump 0 (i + code_words f b + 2 + code_words f d) i ∷ [])
command_code f entry os i Nothing = []
command_code f entry os i (Sequence c d) =
    command_code f entry os i c ++ command_code f entry (drop (length (sites c)) os) (i + code_words f c) d

-- ---- functions

-- the number of the instruction at which the body of a function begins that itself begins at number i
abbrev pub body_place : Frame → Routine Place → ℕ → ℕ
body_place f g i = i + reach_words f.size + length f.saved + places_words f g.params

-- the stack pointer down, registers saved, parameters set; the body; results passed, registers loaded, the stack pointer up,
-- and back
abbrev pub routine_code : Frame → (ℕ → ℕ) → List ℕ → ℕ → Routine Place → List Instr
routine_code f entry os i g =
    down_code f.size ++ (saves_code 0 f.saved ++ (puts_code f g.params 10 ++ (command_code f entry os (body_place f g i) g.body
    ++ (gets_code f 10 g.results ++ (loads_code 0 f.saved ++ (up_code f.size ++ instr.Jalr 0 1 (immediate 0) ∷ []))))))

-- how many instructions that are
abbrev pub routine_words : Frame → Routine Place → ℕ
routine_words f g =
    2 * reach_words f.size + 1 + 2 * length f.saved + places_words f g.params + code_words f g.body + places_words f g.results

-- ---- programs

-- the stack pointer at RAM's end; `init` once, and then `loop` again and again
abbrev pub boot_code : (ℕ → ℕ) → ℕ → ℕ → List Instr
boot_code entry init again = instr.Lui 2 0x40000 ∷ jump 1 1 (entry init) ∷ jump 1 2 (entry again) ∷ jump 0 3 2 ∷ []

-- the number of the instruction at which each function begins, the first one at number i
abbrev pub entries_from : ℕ → List (Routine Place) → List ℕ
entries_from i [] = []
entries_from i (g ∷ gs) = i ∷ entries_from (i + routine_words (frame_of g) g) gs

-- that of a function by its number, behind the four instructions that begin a program
abbrev pub entry_of : List (Routine Place) → ℕ → ℕ
entry_of gs k = slice_index (entries_from 4 gs) k

-- the functions one behind the other, the first one at number i
abbrev pub routines_code : (ℕ → ℕ) → ℕ → List (Routine Place) → List Instr
routines_code entry i [] = []
routines_code entry i (g ∷ gs) =
    routine_code (frame_of g) entry (offsets_of g) i g ++ routines_code entry (i + routine_words (frame_of g) g) gs

-- the instructions of a program
abbrev pub program_code : Executable Place → List Instr
program_code p = boot_code (entry_of p.routines) p.init p.again ++ routines_code (entry_of p.routines) 4 p.routines

-- their words
abbrev pub program_words : Executable Place → List ℕ
program_words p = map word_of (program_code p)

-- the address at which a program begins
abbrev pub program_entry : ℕ
program_entry = 0
