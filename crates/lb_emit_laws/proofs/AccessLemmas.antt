-- How many loads and stores the code has.
use Rattle.std.proofs.Common.{◌≡◌, ℕ, ◌+◌, ◌≤◌, Bool, true, false, List, [], ◌∷◌, ◌++◌, drop, length, map, Some, refl, ap, arith}
use Rattle.std.proofs.lemmas.List.Sums.{sum_by-cons}
use Rattle.std.specs.Prelude.{◌==◌, sum}
use Rattle.lb_syntax.specs.declared.tree.Op.{Op}
use Rattle.lb_syntax.specs.declared.tree.Op.TheVariants.{Add, Sub, Mul, Mulhuu, Divu, Remu, And, Or, Xor, Sru, Slu, Srs, Lts, Ltu, Eq}
use Rattle.lb_syntax.specs.declared.tree.Width.{Width}
use Rattle.lb_syntax.specs.declared.tree.Width.TheVariants.{One, Two, Four}
use Rattle.lb_syntax.specs.declared.tree.Action.{Action}
use Rattle.lb_syntax.specs.declared.tree.Action.TheVariants.{Read, Write}
use Rattle.lb_rv.specs.declared.instr.Instr.{Instr}
use Rattle.lb_rv.specs.declared.instr.Instr.TheVariants as instr
use Rattle.lb_rv.specs.Decoding.{instruction_of}
use Rattle.lb_rv.specs.Table.{word_of}
use Rattle.lb_rv.proofs.DecodingLemmas.{instruction_of_word}
use Rattle.lb_flat.specs.declared.places.Place.{Place}
use Rattle.lb_flat.specs.declared.places.Place.TheVariants.{Register, Slot}
use Rattle.lb_flat.specs.Code.{Operation, Constant, Copy, Compute, Load, Store, Call, Access}
use Rattle.lb_flat.specs.Code.{Code, Plain, Reserve, Branch, Loop, Nothing, Sequence, sites, Routine, Executable}
use Rattle.lb_flat.specs.Needs.{placed_memory_words, routine_memory_words, placed_accesses_need}
use Rattle.lb_emit_laws.specs.Instructions.{immediate, jump, skip_unless_zero, is_short, is_upper, literal_by, is_reached, get_by, put_by, down_by, down_code, up_by, up_code, address_code, saves_code, loads_code, op_code, load_instr, store_instr}
use Rattle.lb_emit_laws.specs.Frames.{Frame, slot_offset, frame_of, offsets_of}
use Rattle.lb_emit_laws.specs.Code.{places_words, get_place, put_place, gets_code, puts_code, value_register, fetch_code, keep_code, access_code, plain_code, register_of, over_by, over_code, over_words, code_words, command_code, body_place, routine_code, routine_words, entry_of, boot_code, routines_code, program_code}
use Rattle.lb_emit_laws.specs.Correct.{memory_access, memory_accesses}
use Rattle.lb_emit_laws.proofs.Places.{AreInRange}
use Rattle.lb_emit_laws.proofs.SavedLemmas.{saved_few}

-- how many of these instructions are loads or stores
abbrev count : List Instr → ℕ
count [] = 0
count (x ∷ xs) = memory_access (Some x) + count xs

count_append : (a b : List Instr) → count (a ++ b) ≡ count a + count b
count_append [] b = omega arith
count_append (x ∷ a) b = let rest = count_append a b in omega (arith, rest)

-- ---- pieces

literal_by_count : (short upper : Bool) (rd n : ℕ) → count (literal_by short upper rd n) ≡ 0
literal_by_count true upper rd n = refl
literal_by_count false true rd n = refl
literal_by_count false false rd n = refl

get_by_count : (near : Bool) (rd n : ℕ) → count (get_by near rd n) ≤ 1
get_by_count true rd n = omega arith
get_by_count false rd n = omega arith

put_by_count : (near : Bool) (n rs : ℕ) → count (put_by near n rs) ≤ 1
put_by_count true n rs = omega arith
put_by_count false n rs = omega arith

down_by_count : (near : Bool) (n : ℕ) → count (down_by near n) ≡ 0
down_by_count true n = refl
down_by_count false n = refl

up_by_count : (near : Bool) (n : ℕ) → count (up_by near n) ≡ 0
up_by_count true n = refl
up_by_count false n = refl

op_count : (op : Op) (r a b : ℕ) → count (op_code op r a b) ≡ 0
op_count Add r a b = refl
op_count Sub r a b = refl
op_count Mul r a b = refl
op_count Mulhuu r a b = refl
op_count Divu r a b = refl
op_count Remu r a b = refl
op_count And r a b = refl
op_count Or r a b = refl
op_count Xor r a b = refl
op_count Sru r a b = refl
op_count Slu r a b = refl
op_count Srs r a b = refl
op_count Lts r a b = refl
op_count Ltu r a b = refl
op_count Eq r a b = refl

load_count : (w : Width) (rd rs : ℕ) → memory_access (Some (load_instr w rd rs)) ≡ 1
load_count One rd rs = refl
load_count Two rd rs = refl
load_count Four rd rs = refl

store_count : (w : Width) (a b : ℕ) → memory_access (Some (store_instr w a b)) ≡ 1
store_count One a b = refl
store_count Two a b = refl
store_count Four a b = refl

saves_count : (j : ℕ) (rs : List ℕ) → count (saves_code j rs) ≡ length rs
saves_count j [] = refl
saves_count j (r ∷ rs) = let rest = saves_count (j + 1) rs in omega (arith, rest)

loads_count : (j : ℕ) (rs : List ℕ) → count (loads_code j rs) ≡ length rs
loads_count j [] = refl
loads_count j (r ∷ rs) = let rest = loads_count (j + 1) rs in omega (arith, rest)

-- ---- places

get_place_count : (f : Frame) (rd : ℕ) (q : Place) → count (get_place f rd q) ≤ 1
get_place_count f rd (Register r) = omega arith
get_place_count f rd (Slot k) = get_by_count (is_reached (slot_offset f k)) rd (slot_offset f k)

put_place_count : (f : Frame) (q : Place) (rs : ℕ) → count (put_place f q rs) ≤ 1
put_place_count f (Register r) rs = omega arith
put_place_count f (Slot k) rs = put_by_count (is_reached (slot_offset f k)) (slot_offset f k) rs

gets_count : (f : Frame) (i : ℕ) (qs : List Place) → count (gets_code f i qs) ≤ length qs
gets_count f i [] = omega arith
gets_count f i (q ∷ qs) = omega (arith, count_append (get_place f i q) (gets_code f (i + 1) qs), get_place_count f i q, gets_count f (i + 1) qs)

puts_count : (f : Frame) (qs : List Place) (i : ℕ) → count (puts_code f qs i) ≤ length qs
puts_count f [] i = omega arith
puts_count f (q ∷ qs) i = omega (arith, count_append (put_place f q i) (puts_code f qs (i + 1)), put_place_count f q i, puts_count f qs (i + 1))

fetch_count : (f : Frame) (i : ℕ) (q : Place) → count (fetch_code f i q) ≤ 1
fetch_count f i (Register r) = omega arith
fetch_count f i (Slot k) = get_by_count (is_reached (slot_offset f k)) i (slot_offset f k)

keep_count : (f : Frame) (q : Place) (i : ℕ) → count (keep_code f q i) ≤ 1
keep_count f (Register r) i = omega arith
keep_count f (Slot k) i = put_by_count (is_reached (slot_offset f k)) (slot_offset f k) i

access_count : (f : Frame) (k : Action) (xs ys : List Place) → count (access_code f k xs ys) ≤ 1 + length xs + length ys
access_count f Read (a ∷ []) (y ∷ []) =
    let all = count_append (fetch_code f 10 a) (load_instr Four (value_register 10 y) (value_register 10 a) ∷ keep_code f y 10) in
    omega (arith, all, fetch_count f 10 a, load_count Four (value_register 10 y) (value_register 10 a), keep_count f y 10)
access_count f Write (a ∷ x ∷ []) [] =
    let last : List Instr = store_instr Four (value_register 10 a) (value_register 11 x) ∷ [] in
    let all = count_append (fetch_code f 10 a) (fetch_code f 11 x ++ last) in
    let rest = count_append (fetch_code f 11 x) last in
    omega (arith, all, rest, fetch_count f 10 a, fetch_count f 11 x, store_count Four (value_register 10 a) (value_register 11 x))
access_count f k xs ys = omega arith

-- ---- commands

over_by_count : (none : Bool) (i n : ℕ) → count (over_by none i n) ≡ 0
over_by_count true i n = refl
over_by_count false i n = refl

over_count : (i n : ℕ) → count (over_code i n) ≡ 0
over_count i n = over_by_count (n == 0) i n

module _ (f : Frame) (entry : ℕ → ℕ) where
  plain_count : (i : ℕ) (o : Operation) (xs ys : List Place) → count (plain_code f entry i o xs ys) ≤ placed_memory_words (Plain o xs ys)
  plain_count i (Constant v) [] (Register y ∷ []) = omega (arith, literal_by_count (is_short v) (is_upper v) y v)
  plain_count i Copy (Register x ∷ []) (Register y ∷ []) = omega arith
  plain_count i Copy (Slot k ∷ []) (Register y ∷ []) = get_by_count (is_reached (slot_offset f k)) y (slot_offset f k)
  plain_count i Copy (Register x ∷ []) (Slot k ∷ []) = put_by_count (is_reached (slot_offset f k)) (slot_offset f k) x
  plain_count i (Compute op) (Register l ∷ Register r ∷ []) (Register y ∷ []) = omega (arith, op_count op y l r)
  plain_count i (Load w) (Register a ∷ []) (Register y ∷ []) = omega (arith, load_count w y a)
  plain_count i (Store w) (Register a ∷ Register x ∷ []) [] = omega (arith, store_count w a x)
  plain_count i (Call g) xs ys =
      omega (arith, count_append (gets_code f 10 xs) (jump 1 (i + places_words f xs) (entry g) ∷ puts_code f ys 10), gets_count f 10 xs, puts_count f ys 10)
  plain_count i (Access k) xs ys = omega (arith, access_count f k xs ys)
  plain_count i o xs ys = omega arith

  command_count : (os : List ℕ) (i : ℕ) (c : Code Place) → count (command_code f entry os i c) ≤ placed_memory_words c
  command_count os i (Plain o xs ys) = plain_count i o xs ys
  command_count [] i (Reserve n y b) = omega (arith, count_append (address_code (register_of y) 0) (command_code f entry [] (i + 3) b), command_count [] (i + 3) b)
  command_count (o ∷ os) i (Reserve n y b) = omega (arith, count_append (address_code (register_of y) o) (command_code f entry os (i + 3) b), command_count os (i + 3) b)
  command_count os i (Branch x b d) =
      let j = i + 2 + code_words f b in
      let wd = code_words f d in
      let first = command_code f entry os (i + 2) b in
      let second = command_code f entry (drop (length (sites b)) os) (j + over_words wd) d in
      let all = count_append first (over_code j wd ++ second) in
      let behind = count_append (over_code j wd) second in
      let left = command_count os (i + 2) b in
      let right = command_count (drop (length (sites b)) os) (j + over_words wd) d in
      omega (arith, all, behind, over_count j wd, left, right)
  command_count os i (Loop b x d) =
      let j = i + code_words f b in
      let head = command_code f entry os i b in
      let body = command_code f entry (drop (length (sites b)) os) (j + 2) d in
      let last = jump 0 (j + 2 + code_words f d) i ∷ [] in
      let all = count_append head (skip_unless_zero (register_of x) ∷ jump 0 (j + 1) (j + 2 + code_words f d + 1) ∷ (body ++ last)) in
      let inner = count_append body last in
      let left = command_count os i b in
      let right = command_count (drop (length (sites b)) os) (j + 2) d in
      omega (arith, all, inner, left, right)
  command_count os i Nothing = omega arith
  command_count os i (Sequence c d) =
      let all = count_append (command_code f entry os i c) (command_code f entry (drop (length (sites c)) os) (i + code_words f c) d) in
      let left = command_count os i c in
      let right = command_count (drop (length (sites c)) os) (i + code_words f c) d in
      omega (arith, all, left, right)

-- ---- functions and programs

routine_count : (entry : ℕ → ℕ) (i : ℕ) (h : Routine Place) → count (routine_code (frame_of h) entry (offsets_of h) i h) ≤ routine_memory_words placed_memory_words h
routine_count entry i h =
    let f = frame_of h in
    let body = command_code f entry (offsets_of h) (body_place f h i) h.body in
    let back : List Instr = instr.Jalr 0 1 (immediate 0) ∷ [] in
    let last = loads_code 0 f.saved ++ (up_code f.size ++ back) in
    let rest = gets_code f 10 h.results ++ last in
    let behind = puts_code f h.params 10 ++ (body ++ rest) in
    let e1 = count_append (down_code f.size) (saves_code 0 f.saved ++ behind) in
    let e2 = count_append (saves_code 0 f.saved) behind in
    let e3 = count_append (puts_code f h.params 10) (body ++ rest) in
    let e4 = count_append body rest in
    let e5 = count_append (gets_code f 10 h.results) last in
    let e6 = count_append (loads_code 0 f.saved) (up_code f.size ++ back) in
    let e7 = count_append (up_code f.size) back in
    let l0 = down_by_count (is_reached f.size) f.size in
    let l1 = saves_count 0 f.saved in
    let l2 = puts_count f h.params 10 in
    let l3 = command_count f entry (offsets_of h) (body_place f h i) h.body in
    let l4 = gets_count f 10 h.results in
    let l5 = loads_count 0 f.saved in
    let l6 = up_by_count (is_reached f.size) f.size in
    let few = saved_few h in
    omega (arith, e1, e2, e3, e4, e5, e6, e7, l0, l1, l2, l3, l4, l5, l6, few)

need_cons : (h : Routine Place) (hs : List (Routine Place)) → sum (map (routine_memory_words placed_memory_words) (h ∷ hs)) ≡ routine_memory_words placed_memory_words h + sum (map (routine_memory_words placed_memory_words) hs)
need_cons h hs = sum_by-cons (λ x. x) (routine_memory_words placed_memory_words h) (map (routine_memory_words placed_memory_words) hs)

routines_count : (entry : ℕ → ℕ) (i : ℕ) (hs : List (Routine Place)) → count (routines_code entry i hs) ≤ sum (map (routine_memory_words placed_memory_words) hs)
routines_count entry i [] = omega arith
routines_count entry i (h ∷ hs) =
    let n = routine_words (frame_of h) h in
    let all = count_append (routine_code (frame_of h) entry (offsets_of h) i h) (routines_code entry (i + n) hs) in
    let first = routine_count entry i h in
    let rest = routines_count entry (i + n) hs in
    omega (arith, all, first, rest, need_cons h hs)

-- the words of instructions in range
counted : (xs : List Instr) → AreInRange xs → memory_accesses (map word_of xs) ≡ count xs
counted [] h = refl
counted (x ∷ xs) h =
    let split = sum_by-cons (λ n. n) (memory_access (instruction_of (word_of x))) (map (λ w. memory_access (instruction_of w)) (map word_of xs)) in
    let first = ap memory_access (instruction_of_word x h.0) in
    let rest = counted xs h.1 in
    omega (arith, split, first, rest)

pub program_lean : (p : Executable Place) → AreInRange (program_code p) → memory_accesses (map word_of (program_code p)) ≤ placed_accesses_need p.routines
program_lean p h =
    let all = count_append (boot_code (entry_of p.routines) p.init p.again) (routines_code (entry_of p.routines) 4 p.routines) in
    let rest = routines_count (entry_of p.routines) 4 p.routines in
    let words = counted (program_code p) h in
    omega (arith, all, rest, words)
