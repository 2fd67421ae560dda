-- The instruction of a word is the one that has it.
use Rattle.std.proofs.Common.{◌≡◌, ℕ, ◌+◌, ◌*◌, ◌%◌, ◌^◌, ◌<◌, refl, sym, ◌∙◌, ap, subst, arith}
use Rattle.std.specs.Prelude.{ℤ, Option, Some, None, IfSome}
use Rattle.lb_rv.specs.declared.shape.Shape.{Shape}
use Rattle.lb_rv.specs.declared.shape.Shape.TheVariants.{Upper, Jump, Immediate, Address, Store, Branch, Register, Shift, MemoryOrder, Whole}
use Rattle.lb_rv.specs.declared.instr.Instr.{Instr}
use Rattle.lb_rv.specs.declared.instr.Instr.TheVariants.{Lui}
use Rattle.lb_rv.specs.Formats.{bits, columns, HasColumns, IsShapeInRange, immediate_word}
use Rattle.lb_rv.specs.Table.{shape, word_of, IsInRange}
use Rattle.lb_rv.specs.Decoding.{Fields, fields_of, candidates, first_of_shape, instruction_of, Decodes, sign_extended, upper_of, low_of}
use Rattle.lb_rv.proofs.TableLemmas.{columns-word_of, word_of-columns, word_of_below}
use Rattle.lb_rv.proofs.FoundLemmas.{encoded-instruction_of}
use Rattle.lb_rv.proofs.ImmediateLemmas.{signed_again_12, signed_again_13, signed_again_21}

-- ---- the fields of a word that has the columns of a shape are the shape's

-- what a shape fixes of a word's fields
abbrev filled : Shape → Fields → Fields
filled (Upper o d n) f = record f { opcode = o; rd = d; imm_u = n }
filled (Jump o d z) f = record f { opcode = o; rd = d; imm_j = z }
filled (Immediate o p d s z) f = record f { opcode = o; funct3 = p; rd = d; rs1 = s; imm_i = z }
filled (Address o p d s z) f = record f { opcode = o; funct3 = p; rd = d; rs1 = s; imm_i = z }
filled (Store o p s t z) f = record f { opcode = o; funct3 = p; rs1 = s; rs2 = t; imm_s = z }
filled (Branch o p s t z) f = record f { opcode = o; funct3 = p; rs1 = s; rs2 = t; imm_b = z }
filled (Register o p q d s t) f = record f { opcode = o; funct3 = p; funct7 = q; rd = d; rs1 = s; rs2 = t }
filled (Shift o p q d s n) f = record f { opcode = o; funct3 = p; funct7 = q; rd = d; rs1 = s; rs2 = n }
filled (MemoryOrder o p d s n) f = record f { opcode = o; funct3 = p; rd = d; rs1 = s; imm_fence = n }
filled (Whole n) f = record f { word = n; opcode = n % 128 }

jump_fits : (w m : ℕ) → bits w 31 31 ≡ bits m 20 20 → bits w 30 21 ≡ bits m 10 1 → bits w 20 20 ≡ bits m 11 11 → bits w 19 12 ≡ bits m 19 12 → m % 2 ≡ 0 →
    bits w 31 31 * 2 ^ 20 + bits w 19 12 * 2 ^ 12 + bits w 20 20 * 2 ^ 11 + bits w 30 21 * 2 ≡ m % 2 ^ 21
jump_fits w m a b c d e = rw (a, b, c, d) (omega (arith, e))

branch_fits : (w m : ℕ) → bits w 31 31 ≡ bits m 12 12 → bits w 30 25 ≡ bits m 10 5 → bits w 11 8 ≡ bits m 4 1 → bits w 7 7 ≡ bits m 11 11 → m % 2 ≡ 0 →
    bits w 31 31 * 2 ^ 12 + bits w 7 7 * 2 ^ 11 + bits w 30 25 * 2 ^ 5 + bits w 11 8 * 2 ≡ m % 2 ^ 13
branch_fits w m a b c d e = rw (a, b, c, d) (omega (arith, e))

store_fits : (w m : ℕ) → bits w 31 25 ≡ bits m 11 5 → bits w 11 7 ≡ bits m 4 0 → bits w 31 25 * 2 ^ 5 + bits w 11 7 ≡ m % 2 ^ 12
store_fits w m a b = rw (a, b) (omega arith)

low_fits : (w m : ℕ) → bits w 31 20 ≡ bits m 11 0 → bits w 31 20 ≡ m % 2 ^ 12
low_fits w m a = omega arith

upper_fits : (w n : ℕ) → bits w 31 12 ≡ bits n 31 12 → n % 4096 ≡ 0 → n < 2 ^ 32 → upper_of w ≡ n
upper_fits w n a b c = omega arith

whole_fits : (w n : ℕ) → w < 2 ^ 32 → bits w 31 0 ≡ n → w ≡ n
whole_fits w n a b = omega arith

low_again : (w : ℕ) (z : ℤ) → bits w 31 20 ≡ bits (immediate_word z) 11 0 → sign_extended 12 (immediate_word z % 2 ^ 12) ≡ z → z ≡ low_of w
low_again w z h e = sym (ap (sign_extended 12) (low_fits w (immediate_word z) h) ∙ e)

filled-fields_of : (w : ℕ) (s : Shape) → w < 2 ^ 32 → IsShapeInRange s → HasColumns w (columns s) → filled s (fields_of w) ≡ fields_of w
filled-fields_of w (Upper o d n) b r h =
    let e = sym (upper_fits w n h.0 r.1 r.2) in
    λ i. record (fields_of w) { opcode = sym h.1.1.0 i; rd = sym h.1.0 i; imm_u = e i }
filled-fields_of w (Jump o d z) b r h =
    let e = sym (ap (sign_extended 21) (jump_fits w (immediate_word z) h.0 h.1.0 h.1.1.0 h.1.1.1.0 r.2) ∙ signed_again_21 z r.1) in
    λ i. record (fields_of w) { opcode = sym h.1.1.1.1.1.0 i; rd = sym h.1.1.1.1.0 i; imm_j = e i }
filled-fields_of w (Immediate o p d s z) b r h =
    let e = low_again w z h.0 (signed_again_12 z r.2) in
    λ i. record (fields_of w) { opcode = sym h.1.1.1.1.0 i; funct3 = sym h.1.1.0 i; rd = sym h.1.1.1.0 i; rs1 = sym h.1.0 i; imm_i = e i }
filled-fields_of w (Address o p d s z) b r h =
    let e = low_again w z h.0 (signed_again_12 z r.2) in
    λ i. record (fields_of w) { opcode = sym h.1.1.1.1.0 i; funct3 = sym h.1.1.0 i; rd = sym h.1.1.1.0 i; rs1 = sym h.1.0 i; imm_i = e i }
filled-fields_of w (Store o p s t z) b r h =
    let e = sym (ap (sign_extended 12) (store_fits w (immediate_word z) h.0 h.1.1.1.1.0) ∙ signed_again_12 z r.2) in
    λ i. record (fields_of w) { opcode = sym h.1.1.1.1.1.0 i; funct3 = sym h.1.1.1.0 i; rs1 = sym h.1.1.0 i; rs2 = sym h.1.0 i; imm_s = e i }
filled-fields_of w (Branch o p s t z) b r h =
    let e = sym (ap (sign_extended 13) (branch_fits w (immediate_word z) h.0 h.1.0 h.1.1.1.1.1.0 h.1.1.1.1.1.1.0 r.3) ∙ signed_again_13 z r.2) in
    λ i. record (fields_of w) { opcode = sym h.1.1.1.1.1.1.1.0 i; funct3 = sym h.1.1.1.1.0 i; rs1 = sym h.1.1.1.0 i; rs2 = sym h.1.1.0 i; imm_b = e i }
filled-fields_of w (Register o p q d s t) b r h =
    λ i. record (fields_of w) { opcode = sym h.1.1.1.1.1.0 i; funct3 = sym h.1.1.1.0 i; funct7 = sym h.0 i; rd = sym h.1.1.1.1.0 i; rs1 = sym h.1.1.0 i; rs2 = sym h.1.0 i }
filled-fields_of w (Shift o p q d s n) b r h =
    λ i. record (fields_of w) { opcode = sym h.1.1.1.1.1.0 i; funct3 = sym h.1.1.1.0 i; funct7 = sym h.0 i; rd = sym h.1.1.1.1.0 i; rs1 = sym h.1.1.0 i; rs2 = sym h.1.0 i }
filled-fields_of w (MemoryOrder o p d s n) b r h =
    λ i. record (fields_of w) { opcode = sym h.1.1.1.1.0 i; funct3 = sym h.1.1.0 i; rd = sym h.1.1.1.0 i; rs1 = sym h.1.0 i; imm_fence = sym h.0 i }
filled-fields_of w (Whole n) b r h =
    let e = sym (whole_fits w n b h.0) in
    let o : n % 128 ≡ bits w 6 0 = omega arith in
    λ i. record (fields_of w) { word = e i; opcode = o i }

-- ---- what is found is the instruction with these fields

found : (i : Instr) (f : Fields) → first_of_shape (filled (shape i) f) (candidates (filled (shape i) f)) ≡ Some i
found (Lui d n) f = refl
found i f = refl

pub instruction_of-encoded : (w : ℕ) (i : Instr) → w < 2 ^ 32 → IsInRange i → HasColumns w (columns (shape i)) → instruction_of w ≡ Some i
unfolding instruction_of
instruction_of-encoded w i b r h =
    subst (λ (f : Fields). first_of_shape f (candidates f) ≡ Some i) (filled-fields_of w (shape i) b r h) (found i (fields_of w))

-- ---- the laws of decoding

found_or_none : (w : ℕ) (o : Option Instr) → w < 2 ^ 32 → instruction_of w ≡ o → Decodes w None → None ≡ o
found_or_none w None b e d = refl
found_or_none w (Some j) b e d = let k = encoded-instruction_of w j b e in absurd (d j k.0 k.1)

-- what decodes a word is its instruction
pub Decodes-instruction_of : (w : ℕ) (r : Option Instr) → w < 2 ^ 32 → Decodes w r → r ≡ instruction_of w
Decodes-instruction_of w None b d = found_or_none w (instruction_of w) b refl d
Decodes-instruction_of w (Some i) b d = sym (instruction_of-encoded w i b d.0 d.1)

-- the instruction has the word
pub Decodes-word : (w : ℕ) (r : Option Instr) → w < 2 ^ 32 → Decodes w r → IfSome r (λ i. IsInRange i × (word_of i ≡ w))
Decodes-word w None b d = tt
Decodes-word w (Some i) b d = (d.0, word_of-columns w i b d.1)

pub instruction_of-word_of : (w : ℕ) (i : Instr) → w < 2 ^ 32 → IsInRange i → word_of i ≡ w → instruction_of w ≡ Some i
instruction_of-word_of w i b r e = instruction_of-encoded w i b r (subst (λ (v : ℕ). HasColumns v (columns (shape i))) e (columns-word_of i r))

-- no other instruction in range has the word
pub Decodes-only : (w : ℕ) (r : Option Instr) → w < 2 ^ 32 → Decodes w r → (i : Instr) → IsInRange i → word_of i ≡ w → r ≡ Some i
Decodes-only w r b d i k e = Decodes-instruction_of w r b d ∙ instruction_of-word_of w i b k e

-- the word of an instruction in range is that instruction's
pub instruction_of_word : (i : Instr) → IsInRange i → instruction_of (word_of i) ≡ Some i
instruction_of_word i r = instruction_of-word_of (word_of i) i (word_of_below i r) r refl
