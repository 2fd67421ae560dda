-- How many instructions the code has.
use Rattle.std.proofs.Common.{◌≡◌, ℕ, ◌+◌, ◌≤◌, Bool, true, false, List, [], ◌∷◌, ◌++◌, drop, length, refl, ◌∙◌, arith, length-append}
use Rattle.std.specs.Prelude.{◌==◌}
use Rattle.lb_syntax.specs.declared.tree.Op.{Op}
use Rattle.lb_syntax.specs.declared.tree.Op.TheVariants.{Add, Sub, Mul, Mulhuu, Divu, Remu, And, Or, Xor, Sru, Slu, Srs, Lts, Ltu, Eq}
use Rattle.lb_syntax.specs.declared.tree.Action.{Action}
use Rattle.lb_syntax.specs.declared.tree.Action.TheVariants.{Read, Write}
use Rattle.lb_syntax.specs.declared.tree.Width.TheVariants.{Four}
use Rattle.lb_rv.specs.declared.instr.Instr.TheVariants as instr
use Rattle.lb_flat.specs.declared.places.Place.{Place}
use Rattle.lb_flat.specs.declared.places.Place.TheVariants.{Register, Slot}
use Rattle.lb_flat.specs.Code.{Operation, Constant, Copy, Compute, Load, Store, Call, Access}
use Rattle.lb_flat.specs.Code.{Code, Plain, Reserve, Branch, Loop, Nothing, Sequence, sites, Routine}
use Rattle.lb_flat.specs.Needs.{slot_words, operation_words}
use Rattle.lb_emit_laws.specs.Instructions.{immediate, jump, skip_unless_zero, is_short, is_upper, literal_by, literal_code, literal_words_by, literal_words, is_reached, reach_words, get_by, get_code, put_by, put_code, address_code, down_by, down_code, up_by, up_code, saves_code, loads_code, op_code, load_instr, store_instr}
use Rattle.lb_emit_laws.specs.Frames.{Frame, slot_offset}
use Rattle.lb_emit_laws.specs.Code.{place_words, places_words, get_place, put_place, gets_code, puts_code, value_register, fetch_code, keep_code, fetch_words, access_code, access_words, plain_words, plain_code, register_of, over_by, over_code, over_words_by, over_words, code_words, command_code, body_place, routine_code, routine_words}

-- ---- pieces

literal_by_length : (short upper : Bool) (rd n : ℕ) → length (literal_by short upper rd n) ≡ literal_words_by short upper
literal_by_length true upper rd n = refl
literal_by_length false true rd n = refl
literal_by_length false false rd n = refl

pub literal_length : (rd n : ℕ) → length (literal_code rd n) ≡ literal_words n
literal_length rd n = literal_by_length (is_short n) (is_upper n) rd n

get_by_length : (near : Bool) (rd offset : ℕ) → length (get_by near rd offset) ≡ slot_words near
get_by_length true rd offset = refl
get_by_length false rd offset = refl

put_by_length : (near : Bool) (offset rs : ℕ) → length (put_by near offset rs) ≡ slot_words near
put_by_length true offset rs = refl
put_by_length false offset rs = refl

pub get_length : (rd offset : ℕ) → length (get_code rd offset) ≡ reach_words offset
get_length rd offset = get_by_length (is_reached offset) rd offset

pub put_length : (offset rs : ℕ) → length (put_code offset rs) ≡ reach_words offset
put_length offset rs = put_by_length (is_reached offset) offset rs

down_by_length : (near : Bool) (size : ℕ) → length (down_by near size) ≡ slot_words near
down_by_length true size = refl
down_by_length false size = refl

pub down_length : (size : ℕ) → length (down_code size) ≡ reach_words size
down_length size = down_by_length (is_reached size) size

up_by_length : (near : Bool) (size : ℕ) → length (up_by near size) ≡ slot_words near
up_by_length true size = refl
up_by_length false size = refl

pub up_length : (size : ℕ) → length (up_code size) ≡ reach_words size
up_length size = up_by_length (is_reached size) size

pub saves_length : (j : ℕ) (rs : List ℕ) → length (saves_code j rs) ≡ length rs
saves_length j [] = refl
saves_length j (r ∷ rs) = let e = saves_length (j + 1) rs in omega (arith, e)

pub loads_length : (j : ℕ) (rs : List ℕ) → length (loads_code j rs) ≡ length rs
loads_length j [] = refl
loads_length j (r ∷ rs) = let e = loads_length (j + 1) rs in omega (arith, e)

pub op_length : (op : Op) (r a b : ℕ) → length (op_code op r a b) ≡ operation_words op
op_length Add r a b = refl
op_length Sub r a b = refl
op_length Mul r a b = refl
op_length Mulhuu r a b = refl
op_length Divu r a b = refl
op_length Remu r a b = refl
op_length And r a b = refl
op_length Or r a b = refl
op_length Xor r a b = refl
op_length Sru r a b = refl
op_length Slu r a b = refl
op_length Srs r a b = refl
op_length Lts r a b = refl
op_length Ltu r a b = refl
op_length Eq r a b = refl

-- ---- places

pub get_place_length : (f : Frame) (rd : ℕ) (p : Place) → length (get_place f rd p) ≡ place_words f p
get_place_length f rd (Register r) = refl
get_place_length f rd (Slot k) = get_length rd (slot_offset f k)

pub put_place_length : (f : Frame) (p : Place) (rs : ℕ) → length (put_place f p rs) ≡ place_words f p
put_place_length f (Register r) rs = refl
put_place_length f (Slot k) rs = put_length (slot_offset f k) rs

pub gets_length : (f : Frame) (i : ℕ) (ps : List Place) → length (gets_code f i ps) ≡ places_words f ps
gets_length f i [] = refl
gets_length f i (p ∷ ps) = length-append (get_place f i p) (gets_code f (i + 1) ps) ∙ omega (arith, get_place_length f i p, gets_length f (i + 1) ps)

pub puts_length : (f : Frame) (ps : List Place) (i : ℕ) → length (puts_code f ps i) ≡ places_words f ps
puts_length f [] i = refl
puts_length f (p ∷ ps) i = length-append (put_place f p i) (puts_code f ps (i + 1)) ∙ omega (arith, put_place_length f p i, puts_length f ps (i + 1))

pub fetch_length : (f : Frame) (i : ℕ) (p : Place) → length (fetch_code f i p) ≡ fetch_words f p
fetch_length f i (Register r) = refl
fetch_length f i (Slot k) = get_length i (slot_offset f k)

pub keep_length : (f : Frame) (p : Place) (i : ℕ) → length (keep_code f p i) ≡ fetch_words f p
keep_length f (Register r) i = refl
keep_length f (Slot k) i = put_length (slot_offset f k) i

access_length : (f : Frame) (k : Action) (xs ys : List Place) → length (access_code f k xs ys) ≡ access_words f k xs ys
access_length f Read (a ∷ []) (y ∷ []) =
    length-append (fetch_code f 10 a) (load_instr Four (value_register 10 y) (value_register 10 a) ∷ keep_code f y 10) ∙ omega (arith, fetch_length f 10 a, keep_length f y 10)
access_length f Write (a ∷ x ∷ []) [] =
    let last = store_instr Four (value_register 10 a) (value_register 11 x) ∷ [] in
    length-append (fetch_code f 10 a) (fetch_code f 11 x ++ last) ∙ omega (arith, length-append (fetch_code f 11 x) last, fetch_length f 10 a, fetch_length f 11 x)
access_length f k xs ys = refl

-- ---- commands

over_by_length : (none : Bool) (i n : ℕ) → length (over_by none i n) ≡ over_words_by none
over_by_length true i n = refl
over_by_length false i n = refl

pub over_length : (i n : ℕ) → length (over_code i n) ≡ over_words n
over_length i n = over_by_length (n == 0) i n

over_by_at_most : (none : Bool) → over_words_by none ≤ 1
over_by_at_most true = omega arith
over_by_at_most false = omega arith

pub over_at_most : (n : ℕ) → over_words n ≤ 1
over_at_most n = over_by_at_most (n == 0)

pub plain_length : (f : Frame) (entry : ℕ → ℕ) (i : ℕ) (o : Operation) (xs ys : List Place) → length (plain_code f entry i o xs ys) ≡ plain_words f o xs ys
plain_length f entry i (Constant v) [] (Register y ∷ []) = literal_length y v
plain_length f entry i Copy (Register x ∷ []) (Register y ∷ []) = refl
plain_length f entry i Copy (Slot k ∷ []) (Register y ∷ []) = get_length y (slot_offset f k)
plain_length f entry i Copy (Register x ∷ []) (Slot k ∷ []) = put_length (slot_offset f k) x
plain_length f entry i (Compute op) (Register l ∷ Register r ∷ []) (Register y ∷ []) = op_length op y l r
plain_length f entry i (Load w) (Register a ∷ []) (Register y ∷ []) = refl
plain_length f entry i (Store w) (Register a ∷ Register x ∷ []) [] = refl
plain_length f entry i (Call g) xs ys =
    length-append (gets_code f 10 xs) (jump 1 (i + places_words f xs) (entry g) ∷ puts_code f ys 10) ∙ omega (arith, gets_length f 10 xs, puts_length f ys 10)
plain_length f entry i (Access k) xs ys = access_length f k xs ys
plain_length f entry i o xs ys = refl

pub command_length : (f : Frame) (entry : ℕ → ℕ) (os : List ℕ) (i : ℕ) (c : Code Place) → length (command_code f entry os i c) ≡ code_words f c
command_length f entry os i (Plain o xs ys) = plain_length f entry i o xs ys
command_length f entry [] i (Reserve n y b) =
    length-append (address_code (register_of y) 0) (command_code f entry [] (i + 3) b) ∙ omega (arith, command_length f entry [] (i + 3) b)
command_length f entry (o ∷ os) i (Reserve n y b) =
    length-append (address_code (register_of y) o) (command_code f entry os (i + 3) b) ∙ omega (arith, command_length f entry os (i + 3) b)
command_length f entry os i (Branch x b d) =
    let j = i + 2 + code_words f b in
    let wd = code_words f d in
    let first = command_code f entry os (i + 2) b in
    let second = command_code f entry (drop (length (sites b)) os) (j + over_words wd) d in
    let all = length-append first (over_code j wd ++ second) in
    let behind = length-append (over_code j wd) second in
    let left = command_length f entry os (i + 2) b in
    let right = command_length f entry (drop (length (sites b)) os) (j + over_words wd) d in
    omega (arith, all, behind, over_length j wd, left, right)
command_length f entry os i (Loop b x d) =
    let head = command_code f entry os i b in
    let body = command_code f entry (drop (length (sites b)) os) (i + code_words f b + 2) d in
    let last = jump 0 (i + code_words f b + 2 + code_words f d) i ∷ [] in
    let rest = skip_unless_zero (register_of x) ∷ jump 0 (i + code_words f b + 1) (i + code_words f b + 2 + code_words f d + 1) ∷ (body ++ last) in
    let all = length-append head rest in
    let inner = length-append body last in
    let left = command_length f entry os i b in
    let right = command_length f entry (drop (length (sites b)) os) (i + code_words f b + 2) d in
    omega (arith, all, inner, left, right)
command_length f entry os i Nothing = refl
command_length f entry os i (Sequence c d) =
    length-append (command_code f entry os i c) (command_code f entry (drop (length (sites c)) os) (i + code_words f c) d)
    ∙ omega (arith, command_length f entry os i c, command_length f entry (drop (length (sites c)) os) (i + code_words f c) d)

-- ---- functions

pub routine_length : (f : Frame) (entry : ℕ → ℕ) (os : List ℕ) (i : ℕ) (g : Routine Place) → length (routine_code f entry os i g) ≡ routine_words f g
routine_length f entry os i g =
    let down = down_code f.size in
    let saves = saves_code 0 f.saved in
    let params = puts_code f g.params 10 in
    let body = command_code f entry os (body_place f g i) g.body in
    let results = gets_code f 10 g.results in
    let loads = loads_code 0 f.saved in
    let up = up_code f.size in
    let last = instr.Jalr 0 1 (immediate 0) ∷ [] in
    let e1 = length-append down (saves ++ (params ++ (body ++ (results ++ (loads ++ (up ++ last)))))) in
    let e2 = length-append saves (params ++ (body ++ (results ++ (loads ++ (up ++ last))))) in
    let e3 = length-append params (body ++ (results ++ (loads ++ (up ++ last)))) in
    let e4 = length-append body (results ++ (loads ++ (up ++ last))) in
    let e5 = length-append results (loads ++ (up ++ last)) in
    let e6 = length-append loads (up ++ last) in
    let e7 = length-append up last in
    let l1 = down_length f.size in
    let l2 = saves_length 0 f.saved in
    let l3 = puts_length f g.params 10 in
    let l4 = command_length f entry os (body_place f g i) g.body in
    let l5 = gets_length f 10 g.results in
    let l6 = loads_length 0 f.saved in
    let l7 = up_length f.size in
    omega (arith, e1, e2, e3, e4, e5, e6, e7, l1, l2, l3, l4, l5, l6, l7)
