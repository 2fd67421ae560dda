-- Each instruction of the code is in range, so that its word has it.
use Rattle.std.proofs.Common.{◌≡◌, ℕ, zero, suc, ◌+◌, ◌-◌, ◌*◌, ◌%◌, ◌^◌, ◌<◌, ◌≤◌, ◌⊎◌, inl, inr, negsuc, pos, Bool, true, false, List, [], ◌∷◌, ◌++◌, length, drop, Some, refl, sym, ap, ◌∙◌, subst, arith}
use Rattle.std.proofs.lemmas.Bool.{cases_lt, ltb-true, eqb-true}
use Rattle.std.proofs.lemmas.Int.{ints, of_z-to_z}
use Rattle.std.proofs.Math.Facts.{to_z-neg}
use Rattle.std.specs.Int.{w32}
use Rattle.std.specs.Prelude.{◌==◌, slice_get}
use Rattle.lb_syntax.specs.declared.tree.Op.{Op}
use Rattle.lb_syntax.specs.declared.tree.Op.TheVariants.{Add, Sub, Mul, Mulhuu, Divu, Remu, And, Or, Xor, Sru, Slu, Srs, Lts, Ltu, Eq}
use Rattle.lb_syntax.specs.declared.tree.Width.{Width}
use Rattle.lb_syntax.specs.declared.tree.Width.TheVariants.{One, Two, Four}
use Rattle.lb_syntax.specs.declared.tree.Action.TheVariants.{Read, Write}
use Rattle.lb_rv.specs.declared.instr.Instr.{Instr}
use Rattle.lb_rv.specs.declared.instr.Instr.TheVariants as instr
use Rattle.lb_rv.specs.Formats.{IsSignedOf, IsEven}
use Rattle.lb_rv.specs.Table.{IsInRange}
use Rattle.lb_flat.specs.declared.places.Place.{Place}
use Rattle.lb_flat.specs.declared.places.Place.TheVariants.{Register, Slot}
use Rattle.lb_flat.specs.Code.{Operation, Constant, Copy, Compute, Load, Store, Call, Access}
use Rattle.lb_flat.specs.Code.{Code, Plain, Reserve, Branch, Loop, Nothing, Sequence, sites, Routine}
use Rattle.lb_emit_laws.specs.Instructions.{immediate, minus, upper_part, lower_part, between, jump, skip_unless_zero, is_short, is_upper, literal_by, copy_code, address_code, is_reached, get_by, put_by, down_by, down_code, up_by, up_code, saves_code, loads_code, op_code, load_instr, store_instr}
use Rattle.lb_emit_laws.specs.Frames.{Frame, slot_offset, frame_of, offsets_of}
use Rattle.lb_emit_laws.specs.Code.{places_words, get_place, put_place, gets_code, puts_code, value_register, fetch_code, keep_code, plain_words, plain_code, over_by, over_code, over_words_by, over_words, code_words, command_code, body_place, routine_code, routine_words}
use Rattle.lb_emit_laws.proofs.Ordered.{IsSource, AreSources, IsPlaceTarget, ArePlaceTargets, IsPlainInOrder, InOrder, AreSaved, FitsFrame}
use Rattle.lb_emit_laws.proofs.Places.{AreInRange}

-- ---- immediates

-- a number above 0 by its word
positive_is : (n : ℕ) → n < 2 ^ 31 → immediate n ≡ pos n
positive_is n h = omega (arith, ints)

-- a number below 0 by its word
minus_is : (m : ℕ) → m < 2 ^ 31 → immediate (minus (suc m)) ≡ negsuc m
minus_is m h =
    let e : minus (suc m) ≡ 2 ^ 32 - suc m = omega arith in ap immediate e ∙ to_z-neg w32 m h

low_signed : (n : ℕ) → n < 2048 → IsSignedOf 12 (immediate n)
low_signed n h = subst (IsSignedOf 12) (sym (positive_is n (omega (arith, h)))) (omega (arith, h))

high_signed : (n m : ℕ) → n ≡ minus (suc m) → m < 2048 → IsSignedOf 12 (immediate n)
high_signed n m e h = subst (λ (k : ℕ). IsSignedOf 12 (immediate k)) (sym e) (subst (IsSignedOf 12) (sym (minus_is m (omega (arith, h)))) (omega (arith, h)))

-- a word from -2048 to 2047, read with a sign
ends_signed : (n : ℕ) → n < 2 ^ 32 → (n < 2048) ⊎ (2 ^ 32 - 2048 ≤ n) → IsSignedOf 12 (immediate n)
ends_signed n h (inl s) = low_signed n s
ends_signed n h (inr g) = high_signed n (2 ^ 32 - 1 - n) (omega arith) (omega arith)

lower_ends : (n : ℕ) → n < 2 ^ 32 → (lower_part n < 2048) ⊎ (2 ^ 32 - 2048 ≤ lower_part n)
lower_ends n h = grind arith

lower_signed : (n : ℕ) → n < 2 ^ 32 → IsSignedOf 12 (immediate (lower_part n))
lower_signed n h = ends_signed (lower_part n) (omega arith) (lower_ends n h)

short_ends : (n : ℕ) → n < 2 ^ 32 → (n + 2048) % 2 ^ 32 < 4096 → (n < 2048) ⊎ (2 ^ 32 - 2048 ≤ n)
short_ends n h s = elim (cases_lt n 2048) [ inl less ↦ inl less | inr more ↦ inr (omega (arith, h, s, more)) ]

minus_signed : (n : ℕ) → n < 2048 → IsSignedOf 12 (immediate (minus n))
minus_signed zero h = low_signed 0 (omega arith)
minus_signed (suc m) h = high_signed (minus (suc m)) m refl (omega (arith, h))

upper_fits : (n : ℕ) → (upper_part n % 4096 ≡ 0) × (upper_part n < 2 ^ 32)
upper_fits n = (omega arith, omega arith)

even_word : (n : ℕ) → n < 2 ^ 32 → n % 2 ≡ 0 → IsEven (immediate n)
even_word n h e = ap (λ k. k % 2) (of_z-to_z w32 n h) ∙ e

jump_signed : (i j : ℕ) → i ≤ 32768 → j ≤ 32768 → IsSignedOf 21 (immediate (between i j))
jump_signed i j h k = elim (cases_lt j i) [
  | inl less ↦ back (between i j) (4 * (i - j) - 1) (omega arith) (omega arith)
  | inr more ↦ ahead (between i j) (omega arith)
]
  where
    back : (n m : ℕ) → n ≡ minus (suc m) → m < 2 ^ 20 → IsSignedOf 21 (immediate n)
    back n m e lt = subst (λ (k : ℕ). IsSignedOf 21 (immediate k)) (sym e) (subst (IsSignedOf 21) (sym (minus_is m (omega (arith, lt)))) (omega (arith, lt)))

    ahead : (n : ℕ) → n < 2 ^ 20 → IsSignedOf 21 (immediate n)
    ahead n lt = subst (IsSignedOf 21) (sym (positive_is n (omega (arith, lt)))) (omega (arith, lt))

pub jump_in_range : (rd i j : ℕ) → rd < 32 → i ≤ 32768 → j ≤ 32768 → IsInRange (jump rd i j)
jump_in_range rd i j r h k = (r, jump_signed i j h k, even_word (between i j) (omega arith) (omega (arith, h, k)))

skip_in_range : (r : ℕ) → r < 32 → IsInRange (skip_unless_zero r)
skip_in_range r h = (h, omega arith, omega arith, refl)

-- ---- pieces

pub append_in_range : (a b : List Instr) → AreInRange a → AreInRange b → AreInRange (a ++ b)
append_in_range [] b h k = k
append_in_range (i ∷ a) b h k = (h.0, append_in_range a b h.1 k)

literal_by_in_range : (short upper : Bool) (rd n : ℕ) → short ≡ is_short n → upper ≡ is_upper n → rd < 32 → n < 2 ^ 32 → AreInRange (literal_by short upper rd n)
literal_by_in_range true upper rd n e d r h = ((r, omega arith, ends_signed n h (short_ends n h (ltb-true ((n + 2048) % 2 ^ 32) 4096 (sym e)))), tt)
literal_by_in_range false true rd n e d r h = ((r, eqb-true (n % 4096) 0 (sym d), h), tt)
literal_by_in_range false false rd n e d r h = ((r, (upper_fits n).0, (upper_fits n).1), ((r, r, lower_signed n h), tt))

zero_signed : IsSignedOf 12 (immediate 0)
zero_signed = low_signed 0 (omega arith)

copy_in_range : (rd rs : ℕ) → rd < 32 → rs < 32 → AreInRange (copy_code rd rs)
copy_in_range rd rs r h = ((r, h, zero_signed), tt)

address_in_range : (rd n : ℕ) → rd < 32 → n < 2 ^ 32 → AreInRange (address_code rd n)
address_in_range rd n r h = ((r, (upper_fits n).0, (upper_fits n).1), ((r, r, lower_signed n h), ((r, r, omega arith), tt)))

get_by_in_range : (near : Bool) (rd n : ℕ) → near ≡ is_reached n → rd < 32 → n < 2 ^ 32 → AreInRange (get_by near rd n)
get_by_in_range true rd n e r h = ((r, omega arith, low_signed n (ltb-true n 2048 (sym e))), tt)
get_by_in_range false rd n e r h = ((omega arith, (upper_fits n).0, (upper_fits n).1), ((omega arith, omega arith, omega arith), ((r, omega arith, lower_signed n h), tt)))

put_by_in_range : (near : Bool) (n rs : ℕ) → near ≡ is_reached n → rs < 32 → n < 2 ^ 32 → AreInRange (put_by near n rs)
put_by_in_range true n rs e r h = ((omega arith, r, low_signed n (ltb-true n 2048 (sym e))), tt)
put_by_in_range false n rs e r h = ((omega arith, (upper_fits n).0, (upper_fits n).1), ((omega arith, omega arith, omega arith), ((omega arith, r, lower_signed n h), tt)))

down_by_in_range : (near : Bool) (n : ℕ) → near ≡ is_reached n → n < 2 ^ 32 → AreInRange (down_by near n)
down_by_in_range true n e h = ((omega arith, omega arith, minus_signed n (ltb-true n 2048 (sym e))), tt)
down_by_in_range false n e h = ((omega arith, (upper_fits n).0, (upper_fits n).1), ((omega arith, omega arith, lower_signed n h), ((omega arith, omega arith, omega arith), tt)))

up_by_in_range : (near : Bool) (n : ℕ) → near ≡ is_reached n → n < 2 ^ 32 → AreInRange (up_by near n)
up_by_in_range true n e h = ((omega arith, omega arith, low_signed n (ltb-true n 2048 (sym e))), tt)
up_by_in_range false n e h = ((omega arith, (upper_fits n).0, (upper_fits n).1), ((omega arith, omega arith, lower_signed n h), ((omega arith, omega arith, omega arith), tt)))

three : {A B C : Type 0} → A → B → C → A × B × C
three a b c = (a, b, c)

op_in_range : (op : Op) (r a b : ℕ) → r < 32 → a < 32 → b < 32 → AreInRange (op_code op r a b)
op_in_range Add r a b h k l = (three h k l, tt)
op_in_range Sub r a b h k l = (three h k l, tt)
op_in_range Mul r a b h k l = (three h k l, tt)
op_in_range Mulhuu r a b h k l = (three h k l, tt)
op_in_range Divu r a b h k l = (three h k l, tt)
op_in_range Remu r a b h k l = (three h k l, tt)
op_in_range And r a b h k l = (three h k l, tt)
op_in_range Or r a b h k l = (three h k l, tt)
op_in_range Xor r a b h k l = (three h k l, tt)
op_in_range Sru r a b h k l = (three h k l, tt)
op_in_range Slu r a b h k l = (three h k l, tt)
op_in_range Srs r a b h k l = (three h k l, tt)
op_in_range Lts r a b h k l = (three h k l, tt)
op_in_range Ltu r a b h k l = (three h k l, tt)
op_in_range Eq r a b h k l = (three h k l, (three h h (low_signed 1 (omega arith)), tt))

load_in_range : (w : Width) (rd rs : ℕ) → rd < 32 → rs < 32 → IsInRange (load_instr w rd rs)
load_in_range One rd rs h k = (h, k, zero_signed)
load_in_range Two rd rs h k = (h, k, zero_signed)
load_in_range Four rd rs h k = (h, k, zero_signed)

store_in_range : (w : Width) (a b : ℕ) → a < 32 → b < 32 → IsInRange (store_instr w a b)
store_in_range One a b h k = (h, k, zero_signed)
store_in_range Two a b h k = (h, k, zero_signed)
store_in_range Four a b h k = (h, k, zero_signed)

saves_in_range : (j : ℕ) (rs : List ℕ) → AreSaved rs → j + length rs ≤ 15 → AreInRange (saves_code j rs)
saves_in_range j [] h few = tt
saves_in_range j (r ∷ rs) h few = ((omega arith, h.0.below, low_signed (4 * j) (omega (arith, few))), saves_in_range (j + 1) rs h.1 (omega (arith, few)))

loads_in_range : (j : ℕ) (rs : List ℕ) → AreSaved rs → j + length rs ≤ 15 → AreInRange (loads_code j rs)
loads_in_range j [] h few = tt
loads_in_range j (r ∷ rs) h few = ((h.0.below, omega arith, low_signed (4 * j) (omega (arith, few))), loads_in_range (j + 1) rs h.1 (omega (arith, few)))

-- ---- commands

over_by_in_range : (none : Bool) (i n : ℕ) → i ≤ 32768 → i + over_words_by none + n ≤ 32768 → AreInRange (over_by none i n)
over_by_in_range true i n h k = tt
over_by_in_range false i n h k = (jump_in_range 0 i (i + 1 + n) (omega arith) h k, tt)

module _ (f : Frame) (fit : 4 * (length f.saved + f.slots) ≤ f.size) (bounded : f.size ≤ 65536) where
  slot_word : (k : ℕ) → k < f.slots → slot_offset f k < 2 ^ 32
  slot_word k lt = omega (arith, fit, bounded, lt)

  get_place_in_range : (rd : ℕ) (q : Place) → rd < 32 → IsSource f q → AreInRange (get_place f rd q)
  get_place_in_range rd (Register r) h s = copy_in_range rd r h s.below
  get_place_in_range rd (Slot k) h s = get_by_in_range (is_reached (slot_offset f k)) rd (slot_offset f k) refl h (slot_word k s)

  put_place_in_range : (q : Place) (rs : ℕ) → rs < 32 → IsPlaceTarget f q → AreInRange (put_place f q rs)
  put_place_in_range (Register r) rs h t = copy_in_range r rs t.below h
  put_place_in_range (Slot k) rs h t = put_by_in_range (is_reached (slot_offset f k)) (slot_offset f k) rs refl h (slot_word k t)

  gets_in_range : (i : ℕ) (qs : List Place) → i + length qs ≤ 32 → AreSources f qs → AreInRange (gets_code f i qs)
  gets_in_range i [] h s = tt
  gets_in_range i (q ∷ qs) h s = append_in_range (get_place f i q) (gets_code f (i + 1) qs) (get_place_in_range i q (omega (arith, h)) s.0) (gets_in_range (i + 1) qs (omega (arith, h)) s.1)

  puts_in_range : (qs : List Place) (i : ℕ) → i + length qs ≤ 32 → ArePlaceTargets f qs → AreInRange (puts_code f qs i)
  puts_in_range [] i h s = tt
  puts_in_range (q ∷ qs) i h s = append_in_range (put_place f q i) (puts_code f qs (i + 1)) (put_place_in_range q i (omega (arith, h)) s.0) (puts_in_range qs (i + 1) (omega (arith, h)) s.1)

  fetch_in_range : (i : ℕ) (q : Place) → i < 32 → IsSource f q → AreInRange (fetch_code f i q)
  fetch_in_range i (Register r) h s = tt
  fetch_in_range i (Slot k) h s = get_by_in_range (is_reached (slot_offset f k)) i (slot_offset f k) refl h (slot_word k s)

  keep_in_range : (q : Place) (i : ℕ) → i < 32 → IsPlaceTarget f q → AreInRange (keep_code f q i)
  keep_in_range (Register r) i h t = tt
  keep_in_range (Slot k) i h t = put_by_in_range (is_reached (slot_offset f k)) (slot_offset f k) i refl h (slot_word k t)

  source_register : (i : ℕ) (q : Place) → i < 32 → IsSource f q → value_register i q < 32
  source_register i (Register r) h s = s.below
  source_register i (Slot k) h s = h

  target_register : (i : ℕ) (q : Place) → i < 32 → IsPlaceTarget f q → value_register i q < 32
  target_register i (Register r) h t = t.below
  target_register i (Slot k) h t = h

  module _ (fs : List (Routine Place)) (A : ℕ → Type 0) (entry : ℕ → ℕ) (near : (g : ℕ) (h : Routine Place) → slice_get fs g ≡ Some h → entry g ≤ 32768) where
    plain_in_range : (i : ℕ) (o : Operation) (xs ys : List Place) → IsPlainInOrder fs A f o xs ys → i + plain_words f o xs ys ≤ 32768 → AreInRange (plain_code f entry i o xs ys)
    plain_in_range i (Constant v) [] (Register y ∷ []) h low = literal_by_in_range (is_short v) (is_upper v) y v refl refl h.0.below h.1
    plain_in_range i Copy (Register x ∷ []) (Register y ∷ []) h low = copy_in_range y x h.1.below h.0.below
    plain_in_range i Copy (Slot k ∷ []) (Register y ∷ []) h low = get_by_in_range (is_reached (slot_offset f k)) y (slot_offset f k) refl h.1.below (slot_word k h.0)
    plain_in_range i Copy (Register x ∷ []) (Slot k ∷ []) h low = put_by_in_range (is_reached (slot_offset f k)) (slot_offset f k) x refl h.0.below (slot_word k h.1)
    plain_in_range i (Compute op) (Register l ∷ Register r ∷ []) (Register y ∷ []) h low = op_in_range op y l r h.2.below h.0.below h.1.below
    plain_in_range i (Load w) (Register a ∷ []) (Register y ∷ []) h low = (load_in_range w y a h.1.below h.0.below, tt)
    plain_in_range i (Store w) (Register a ∷ Register x ∷ []) [] h low = (store_in_range w a x h.0.below h.1.below, tt)
    plain_in_range i (Call g) xs ys h low =
        append_in_range (gets_code f 10 xs) (jump 1 (i + places_words f xs) (entry g) ∷ puts_code f ys 10) (gets_in_range 10 xs (omega (arith, h.2)) h.0)
        (jump_in_range 1 (i + places_words f xs) (entry g) (omega arith) (omega (arith, low)) (near g h.5.callee h.5.is), puts_in_range ys 10 (omega (arith, h.3)) h.1)
    plain_in_range i (Access Read) (a ∷ []) (y ∷ []) h low =
        append_in_range (fetch_code f 10 a) (load_instr Four (value_register 10 y) (value_register 10 a) ∷ keep_code f y 10) (fetch_in_range 10 a (omega arith) h.0)
        (load_in_range Four (value_register 10 y) (value_register 10 a) (target_register 10 y (omega arith) h.1) (source_register 10 a (omega arith) h.0), keep_in_range y 10 (omega arith) h.1)
    plain_in_range i (Access Write) (a ∷ x ∷ []) [] h low =
        let last : List Instr = store_instr Four (value_register 10 a) (value_register 11 x) ∷ [] in
        append_in_range (fetch_code f 10 a) (fetch_code f 11 x ++ last) (fetch_in_range 10 a (omega arith) h.0)
        (append_in_range (fetch_code f 11 x) last (fetch_in_range 11 x (omega arith) h.1)
        (store_in_range Four (value_register 10 a) (value_register 11 x) (source_register 10 a (omega arith) h.0) (source_register 11 x (omega arith) h.1), tt))
    plain_in_range i o xs ys h low = absurd h

    command_in_range : (os : List ℕ) (i : ℕ) (c : Code Place) → InOrder fs A f os c → i + code_words f c ≤ 32768 → AreInRange (command_code f entry os i c)
    command_in_range os i (Plain o xs ys) h low = plain_in_range i o xs ys h low
    command_in_range [] i (Reserve n y b) h low = absurd h.1
    command_in_range (o ∷ os) i (Reserve n (Register r) b) h low =
        append_in_range (address_code r o) (command_code f entry os (i + 3) b) (address_in_range r o h.0.below (omega (arith, h.1.1, bounded))) (command_in_range os (i + 3) b h.2 (omega (arith, low)))
    command_in_range (o ∷ os) i (Reserve n (Slot k) b) h low = absurd h.0
    command_in_range os i (Branch (Register r) b d) h low =
        let os2 = drop (length (sites b)) os in
        let j = i + 2 + code_words f b in
        let wd = code_words f d in
        let k = j + over_words wd in (
          skip_in_range r h.0.below,
          (
            jump_in_range 0 (i + 1) k (omega arith) (omega (arith, low)) (omega (arith, low)),
            append_in_range (command_code f entry os (i + 2) b) (over_code j wd ++ command_code f entry os2 k d)
                (command_in_range os (i + 2) b h.1 (omega (arith, low)))
                (append_in_range (over_code j wd) (command_code f entry os2 k d) (over_by_in_range (wd == 0) j wd (omega (arith, low)) (omega (arith, low))) (command_in_range os2 k d h.2 (omega (arith, low)))),
          ),
        )
    command_in_range os i (Branch (Slot k) b d) h low = absurd h.0
    command_in_range os i (Loop b (Register r) d) h low =
        let os2 = drop (length (sites b)) os in
        let j = i + code_words f b in
        let last = jump 0 (j + 2 + code_words f d) i ∷ [] in
        append_in_range (command_code f entry os i b) (skip_unless_zero r ∷ jump 0 (j + 1) (j + 2 + code_words f d + 1) ∷ (command_code f entry os2 (j + 2) d ++ last))
        (command_in_range os i b h.1 (omega (arith, low))) (
          skip_in_range r h.0.below,
          (
            jump_in_range 0 (j + 1) (j + 2 + code_words f d + 1) (omega arith) (omega (arith, low)) (omega (arith, low)),
            append_in_range (command_code f entry os2 (j + 2) d) last (command_in_range os2 (j + 2) d h.2 (omega (arith, low)))
                (jump_in_range 0 (j + 2 + code_words f d) i (omega arith) (omega (arith, low)) (omega (arith, low)), tt),
          ),
        )
    command_in_range os i (Loop b (Slot k) d) h low = absurd h.0
    command_in_range os i Nothing h low = tt
    command_in_range os i (Sequence c d) h low =
        append_in_range (command_code f entry os i c) (command_code f entry (drop (length (sites c)) os) (i + code_words f c) d)
        (command_in_range os i c h.0 (omega (arith, low))) (command_in_range (drop (length (sites c)) os) (i + code_words f c) d h.1 (omega (arith, low)))

-- ---- functions

pub routine_in_range : (fs : List (Routine Place)) (entry : ℕ → ℕ) (near : (g : ℕ) (h : Routine Place) → slice_get fs g ≡ Some h → entry g ≤ 32768) (i : ℕ) (g : Routine Place)
    → FitsFrame fs g → (frame_of g).size ≤ 65536 → i + routine_words (frame_of g) g ≤ 32768 → AreInRange (routine_code (frame_of g) entry (offsets_of g) i g)
routine_in_range fs entry near i g fits bounded low =
    let f = frame_of g in
    let fit : 4 * (length f.saved + f.slots) ≤ f.size = omega arith in
    let body = command_code f entry (offsets_of g) (body_place f g i) g.body in
    let back : List Instr = instr.Jalr 0 1 (immediate 0) ∷ [] in
    let last = loads_code 0 f.saved ++ (up_code f.size ++ back) in
    let rest = gets_code f 10 g.results ++ last in
    let word : f.size < 2 ^ 32 = omega (arith, bounded) in
    append_in_range (down_code f.size) _ (down_by_in_range (is_reached f.size) f.size refl word)
    (append_in_range (saves_code 0 f.saved) _ (saves_in_range 0 f.saved fits.saved (omega (arith, fits.few)))
    (append_in_range (puts_code f g.params 10) (body ++ rest) (puts_in_range f fit bounded g.params 10 (omega (arith, fits.param_count)) fits.params)
    (append_in_range body rest (command_in_range f fit bounded fs _ entry near (offsets_of g) (body_place f g i) g.body fits.body (omega (arith, low)))
    (append_in_range (gets_code f 10 g.results) last (gets_in_range f fit bounded 10 g.results (omega (arith, fits.result_count)) fits.results)
    (append_in_range (loads_code 0 f.saved) (up_code f.size ++ back) (loads_in_range 0 f.saved fits.saved (omega (arith, fits.few)))
    (append_in_range (up_code f.size) back (up_by_in_range (is_reached f.size) f.size refl word) ((omega arith, omega arith, zero_signed), tt)))))))
