-- What is found as the instruction of a word has the word.
use Rattle.std.proofs.Common.{◌≡◌, ℕ, ◌+◌, ◌*◌, ◌%◌, ◌^◌, ◌<◌, List, [], ◌∷◌, refl, subst, arith, Bool, true, false, inl, inr}
use Rattle.std.proofs.lemmas.Bool.Decides.{nat_tests}
use Rattle.std.specs.Prelude.{◌==◌, ◌&&◌, ◌⊎◌, Option, Some, map, if◌then◌else◌}
use Rattle.lb_rv.specs.declared.shape.Shape.{Shape}
use Rattle.lb_rv.specs.declared.shape.Shape.TheVariants.{Upper, Jump, Immediate, Address, Store, Branch, Register, Shift, MemoryOrder, Whole}
use Rattle.lb_rv.specs.declared.instr.Instr.{Instr}
use Rattle.lb_rv.specs.Formats.{bits, columns, HasColumns, IsShapeInRange, immediate_word}
use Rattle.lb_rv.specs.Table.{shape, IsInRange}
use Rattle.lb_rv.specs.Decoding.{Fields, fields_of, candidates, is_of_shape, first_of_shape, instruction_of, jump_of, low_of, store_of, branch_of}
use Rattle.lb_rv.proofs.ImmediateLemmas.{signed_range_12, signed_range_13, signed_range_21, signed_word_12, signed_word_13, signed_word_21}

test_eq : (a b : ℕ) → (a == b) ≡ true → a ≡ b
test_eq a b h = grind (arith, nat_tests)

both : (a b : Bool) → (a && b) ≡ true → (a ≡ true) × (b ≡ true)
both true b h = (refl, h)
both false b h = cc

two : (a b c d : ℕ) → (a == b && c == d) ≡ true → (a ≡ b) × (c ≡ d)
two a b c d h = let e = both (a == b) (c == d) h in (test_eq a b e.0, test_eq c d e.1)

three : (a b c d x y : ℕ) → (a == b && c == d && x == y) ≡ true → (a ≡ b) × (c ≡ d) × (x ≡ y)
three a b c d x y h =
    let e = both (a == b && c == d) (x == y) h in
    let k = two a b c d e.0 in (k.0, k.1, test_eq x y e.1)

-- ---- the columns of immediates, in the word that they come from

low_bits : (w m : ℕ) → m % 2 ^ 12 ≡ bits w 31 20 → bits w 31 20 ≡ bits m 11 0
low_bits w m h = omega arith

store_bits : (w m : ℕ) → m % 2 ^ 12 ≡ bits w 31 25 * 2 ^ 5 + bits w 11 7 → (bits w 31 25 ≡ bits m 11 5) × (bits w 11 7 ≡ bits m 4 0)
store_bits w m h = (omega arith, omega arith)

branch_bits : (w m : ℕ) → m % 2 ^ 13 ≡ bits w 31 31 * 2 ^ 12 + bits w 7 7 * 2 ^ 11 + bits w 30 25 * 2 ^ 5 + bits w 11 8 * 2 →
    (bits w 31 31 ≡ bits m 12 12) × (bits w 30 25 ≡ bits m 10 5) × (bits w 11 8 ≡ bits m 4 1) × (bits w 7 7 ≡ bits m 11 11) × (m % 2 ≡ 0)
branch_bits w m h = (omega arith, omega arith, omega arith, omega arith, omega arith)

jump_bits : (w m : ℕ) → m % 2 ^ 21 ≡ bits w 31 31 * 2 ^ 20 + bits w 19 12 * 2 ^ 12 + bits w 20 20 * 2 ^ 11 + bits w 30 21 * 2 →
    (bits w 31 31 ≡ bits m 20 20) × (bits w 30 21 ≡ bits m 10 1) × (bits w 20 20 ≡ bits m 11 11) × (bits w 19 12 ≡ bits m 19 12) × (m % 2 ≡ 0)
jump_bits w m h = (omega arith, omega arith, omega arith, omega arith, omega arith)

-- ---- a shape with the fields of a word

-- the same fixed bits, and the fields of the word
abbrev refilled : Shape → Fields → Shape
refilled (Upper o d n) f = Upper o f.rd f.imm_u
refilled (Jump o d z) f = Jump o f.rd f.imm_j
refilled (Immediate o p d s z) f = Immediate o p f.rd f.rs1 f.imm_i
refilled (Address o p d s z) f = Address o p f.rd f.rs1 f.imm_i
refilled (Store o p s t z) f = Store o p f.rs1 f.rs2 f.imm_s
refilled (Branch o p s t z) f = Branch o p f.rs1 f.rs2 f.imm_b
refilled (Register o p q d s t) f = Register o p q f.rd f.rs1 f.rs2
refilled (Shift o p q d s n) f = Shift o p q f.rd f.rs1 f.rs2
refilled (MemoryOrder o p d s n) f = MemoryOrder o p f.rd f.rs1 f.imm_fence
refilled (Whole n) f = Whole n

abbrev Fits : ℕ → Shape → Type 0
Fits w s = IsShapeInRange s × HasColumns w (columns s)

immediate_fits : (w o p : ℕ) → bits w 6 0 ≡ o → bits w 14 12 ≡ p → Fits w (Immediate o p (bits w 11 7) (bits w 19 15) (low_of w))
immediate_fits w o p ho hp =
    let n = bits w 31 20 in
    let e = low_bits w (immediate_word (low_of w)) (signed_word_12 n (omega arith)) in
    ((omega arith, omega arith, signed_range_12 n (omega arith)), (e, (refl, (hp, (refl, (ho, tt))))))

store_fits : (w o p : ℕ) → bits w 6 0 ≡ o → bits w 14 12 ≡ p → Fits w (Store o p (bits w 19 15) (bits w 24 20) (store_of w))
store_fits w o p ho hp =
    let n = bits w 31 25 * 2 ^ 5 + bits w 11 7 in
    let e = store_bits w (immediate_word (store_of w)) (signed_word_12 n (omega arith)) in
    ((omega arith, omega arith, signed_range_12 n (omega arith)), (e.0, (refl, (refl, (hp, (e.1, (ho, tt)))))))

branch_fits : (w o p : ℕ) → bits w 6 0 ≡ o → bits w 14 12 ≡ p → Fits w (Branch o p (bits w 19 15) (bits w 24 20) (branch_of w))
branch_fits w o p ho hp =
    let n = bits w 31 31 * 2 ^ 12 + bits w 7 7 * 2 ^ 11 + bits w 30 25 * 2 ^ 5 + bits w 11 8 * 2 in
    let e = branch_bits w (immediate_word (branch_of w)) (signed_word_13 n (omega arith)) in
    ((omega arith, omega arith, signed_range_13 n (omega arith), e.4), (e.0, (e.1, (refl, (refl, (hp, (e.2, (e.3, (ho, tt)))))))))

jump_fits : (w o : ℕ) → bits w 6 0 ≡ o → Fits w (Jump o (bits w 11 7) (jump_of w))
jump_fits w o ho =
    let n = bits w 31 31 * 2 ^ 20 + bits w 19 12 * 2 ^ 12 + bits w 20 20 * 2 ^ 11 + bits w 30 21 * 2 in
    let e = jump_bits w (immediate_word (jump_of w)) (signed_word_21 n (omega arith)) in
    ((omega arith, signed_range_21 n (omega arith), e.4), (e.0, (e.1, (e.2, (e.3, (refl, (ho, tt)))))))

fits : (w : ℕ) (s : Shape) → w < 2 ^ 32 → is_of_shape (fields_of w) s ≡ true → Fits w (refilled s (fields_of w))
fits w (Upper o d n) b h =
    let k = test_eq (bits w 6 0) o h in
    ((omega arith, omega arith, omega arith), (omega arith, (refl, (k, tt))))
fits w (Jump o d z) b h = jump_fits w o (test_eq (bits w 6 0) o h)
fits w (Immediate o p d s z) b h = let k = two (bits w 6 0) o (bits w 14 12) p h in immediate_fits w o p k.0 k.1
fits w (Address o p d s z) b h = let k = two (bits w 6 0) o (bits w 14 12) p h in immediate_fits w o p k.0 k.1
fits w (Store o p s t z) b h = let k = two (bits w 6 0) o (bits w 14 12) p h in store_fits w o p k.0 k.1
fits w (Branch o p s t z) b h = let k = two (bits w 6 0) o (bits w 14 12) p h in branch_fits w o p k.0 k.1
fits w (Register o p q d s t) b h =
    let k = three (bits w 6 0) o (bits w 14 12) p (bits w 31 25) q h in
    ((omega arith, omega arith, omega arith), (k.2, (refl, (refl, (k.1, (refl, (k.0, tt)))))))
fits w (Shift o p q d s n) b h =
    let k = three (bits w 6 0) o (bits w 14 12) p (bits w 31 25) q h in
    ((omega arith, omega arith, omega arith), (k.2, (refl, (refl, (k.1, (refl, (k.0, tt)))))))
fits w (MemoryOrder o p d s n) b h =
    let k = two (bits w 6 0) o (bits w 14 12) p h in
    ((omega arith, omega arith, omega arith), (refl, (refl, (k.1, (refl, (k.0, tt))))))
fits w (Whole n) b h = let k = test_eq w n h in (tt, (omega arith, tt))

-- ---- the candidates are shapes with the fields of the word

abbrev AreRefilled : Fields → List Instr → Type 0
AreRefilled f is = map (λ i. refilled (shape i) f) is ≡ map shape is

refilled_candidates : (f : Fields) → AreRefilled f (candidates f)
refilled_candidates f = refl

first_equal : (s t : Shape) (ss ts : List Shape) → s ∷ ss ≡ t ∷ ts → (s ≡ t) × (ss ≡ ts)
first_equal s t ss ts h = (cc, cc)

-- the instruction i, or the one that is found behind it
chosen : (b : Bool) (i j : Instr) (o : Option Instr) → (if b then Some i else o) ≡ Some j → ((b ≡ true) × (i ≡ j)) ⊎ (o ≡ Some j)
chosen true i j o h = inl (refl, cc)
chosen false i j o h = inr h

found_fits : (w : ℕ) (is : List Instr) (j : Instr) → w < 2 ^ 32 → AreRefilled (fields_of w) is → first_of_shape (fields_of w) is ≡ Some j → Fits w (shape j)
found_fits w [] j b r h = cc
found_fits w (i ∷ is) j b r h =
    let e = first_equal (refilled (shape i) (fields_of w)) (shape i) (map (λ i'. refilled (shape i') (fields_of w)) is) (map shape is) r in
    elim (chosen (is_of_shape (fields_of w) (shape i)) i j (first_of_shape (fields_of w) is) h) [
      | inl k ↦ subst (λ (i' : Instr). Fits w (shape i')) k.1 (subst (λ (s : Shape). Fits w s) e.0 (fits w (shape i) b k.0))
      | inr k ↦ found_fits w is j b e.1 k
    ]

pub encoded-instruction_of : (w : ℕ) (j : Instr) → w < 2 ^ 32 → instruction_of w ≡ Some j → IsInRange j × HasColumns w (columns (shape j))
unfolding instruction_of
encoded-instruction_of w j b h = found_fits w (candidates (fields_of w)) j b (refilled_candidates (fields_of w)) h
