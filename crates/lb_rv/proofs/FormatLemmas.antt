-- The word of a shape has the shape's columns, and no other word has them.
use Rattle.std.proofs.Common.{◌≡◌, ℕ, ◌+◌, ◌*◌, ◌^◌, ◌<◌, List, [], ◌∷◌, refl, sym, ◌∙◌, arith}
use Rattle.lb_rv.specs.declared.shape.Shape.{Shape}
use Rattle.lb_rv.specs.declared.shape.Shape.TheVariants.{Upper, Jump, Immediate, Address, Store, Branch, Register, Shift, MemoryOrder, Whole}
use Rattle.lb_rv.specs.Formats.{bits, Column, column, columns, HasColumns, word_of_columns, immediate_word, immediate_columns, register_columns, branch_columns, jump_columns, IsShapeInRange, HasFixedBits}

-- ---- the word of the columns has them

pub register_word_has : (o p q d s t : ℕ) → o < 128 → p < 8 → q < 128 → d < 32 → s < 32 → t < 32 →
    HasColumns (word_of_columns (register_columns o p q d s t)) (register_columns o p q d s t)
register_word_has o p q d s t ho hp hq hd hs ht = (omega arith, (omega arith, (omega arith, (omega arith, (omega arith, (omega arith, tt))))))

pub immediate_word_has : (o p d s n : ℕ) → o < 128 → p < 8 → d < 32 → s < 32 → n < 4096 →
    HasColumns (word_of_columns (immediate_columns o p d s n)) (immediate_columns o p d s n)
immediate_word_has o p d s n ho hp hd hs hn = (omega arith, (omega arith, (omega arith, (omega arith, (omega arith, tt)))))

-- the immediate's bits as numbers of their own: a 1, b 6, c 4 and d 1 of them
branch_has : (o p s t a b c e : ℕ) → o < 128 → p < 8 → s < 32 → t < 32 → a < 2 → b < 64 → c < 16 → e < 2 →
    let cs = column 31 31 a ∷ column 30 25 b ∷ column 24 20 t ∷ column 19 15 s ∷ column 14 12 p ∷ column 11 8 c ∷ column 7 7 e ∷ column 6 0 o ∷ [] in
    HasColumns (word_of_columns cs) cs
branch_has o p s t a b c e ho hp hs ht ha hb hc he =
    (omega arith, (omega arith, (omega arith, (omega arith, (omega arith, (omega arith, (omega arith, (omega arith, tt))))))))

branch_word_has : (o p s t n : ℕ) → o < 128 → p < 8 → s < 32 → t < 32 →
    HasColumns (word_of_columns (branch_columns o p s t n)) (branch_columns o p s t n)
branch_word_has o p s t n ho hp hs ht =
    branch_has o p s t (bits n 12 12) (bits n 10 5) (bits n 4 1) (bits n 11 11) ho hp hs ht (omega arith) (omega arith) (omega arith) (omega arith)

jump_has : (o d a b c e : ℕ) → o < 128 → d < 32 → a < 2 → b < 1024 → c < 2 → e < 256 →
    let cs = column 31 31 a ∷ column 30 21 b ∷ column 20 20 c ∷ column 19 12 e ∷ column 11 7 d ∷ column 6 0 o ∷ [] in
    HasColumns (word_of_columns cs) cs
jump_has o d a b c e ho hd ha hb hc he = (omega arith, (omega arith, (omega arith, (omega arith, (omega arith, (omega arith, tt))))))

jump_word_has : (o d n : ℕ) → o < 128 → d < 32 → HasColumns (word_of_columns (jump_columns o d n)) (jump_columns o d n)
jump_word_has o d n ho hd =
    jump_has o d (bits n 20 20) (bits n 10 1) (bits n 11 11) (bits n 19 12) ho hd (omega arith) (omega arith) (omega arith) (omega arith)

-- ---- the columns are all of a word

-- what the word has in the places of the columns
abbrev read_columns : ℕ → List Column → ℕ
read_columns w [] = 0
read_columns w (c ∷ cs) = bits w c.high c.low * 2 ^ c.low + read_columns w cs

word_of_columns-read : (w : ℕ) (cs : List Column) → HasColumns w cs → word_of_columns cs ≡ read_columns w cs
word_of_columns-read w [] h = refl
word_of_columns-read w (c ∷ cs) h = λ i. sym h.0 i * 2 ^ c.low + word_of_columns-read w cs h.1 i

read_all : (w : ℕ) (s : Shape) → w < 2 ^ 32 → read_columns w (columns s) ≡ w
read_all w (Upper o d n) h = omega arith
read_all w (Jump o d n) h = omega arith
read_all w (Immediate o p d s n) h = omega arith
read_all w (Address o p d s n) h = omega arith
read_all w (Store o p s t n) h = omega arith
read_all w (Branch o p s t n) h = omega arith
read_all w (Register o p q d s t) h = omega arith
read_all w (Shift o p q d s n) h = omega arith
read_all w (MemoryOrder o p d s n) h = omega arith
read_all w (Whole n) h = omega arith

-- a word that has the columns is the word of the columns
pub word_of_columns-has : (w : ℕ) (s : Shape) → w < 2 ^ 32 → HasColumns w (columns s) → word_of_columns (columns s) ≡ w
word_of_columns-has w s h k = word_of_columns-read w (columns s) k ∙ read_all w s h

-- the word of a shape in range has its columns
pub has-word_of_columns : (s : Shape) → HasFixedBits s → IsShapeInRange s → HasColumns (word_of_columns (columns s)) (columns s)
has-word_of_columns (Upper o d n) f r = (omega arith, (omega arith, (omega arith, tt)))
has-word_of_columns (Jump o d z) f r = jump_word_has o d (immediate_word z) f r.0
has-word_of_columns (Immediate o p d s z) f r = immediate_word_has o p d s (bits (immediate_word z) 11 0) f.0 f.1 r.0 r.1 (omega arith)
has-word_of_columns (Address o p d s z) f r = immediate_word_has o p d s (bits (immediate_word z) 11 0) f.0 f.1 r.0 r.1 (omega arith)
has-word_of_columns (Store o p s t z) f r =
    let n = immediate_word z in
    let h = register_word_has o p (bits n 11 5) (bits n 4 0) s t f.0 f.1 (omega arith) (omega arith) r.0 r.1 in h
has-word_of_columns (Branch o p s t z) f r = branch_word_has o p s t (immediate_word z) f.0 f.1 r.0 r.1
has-word_of_columns (Register o p q d s t) f r = register_word_has o p q d s t f.0 f.1 f.2 r.0 r.1 r.2
has-word_of_columns (Shift o p q d s n) f r = register_word_has o p q d s n f.0 f.1 f.2 r.0 r.1 r.2
has-word_of_columns (MemoryOrder o p d s n) f r = immediate_word_has o p d s n f.0 f.1 r.0 r.1 r.2
has-word_of_columns (Whole n) f r = (omega arith, tt)

-- the word of a shape in range is a word of 32 bits
pub word_of_columns_below : (s : Shape) → HasFixedBits s → IsShapeInRange s → word_of_columns (columns s) < 2 ^ 32
word_of_columns_below (Upper o d n) f r = omega arith
word_of_columns_below (Jump o d z) f r = omega arith
word_of_columns_below (Immediate o p d s z) f r = omega arith
word_of_columns_below (Address o p d s z) f r = omega arith
word_of_columns_below (Store o p s t z) f r = omega arith
word_of_columns_below (Branch o p s t z) f r = omega arith
word_of_columns_below (Register o p q d s t) f r = omega arith
word_of_columns_below (Shift o p q d s n) f r = omega arith
word_of_columns_below (MemoryOrder o p d s n) f r = omega arith
word_of_columns_below (Whole n) f r = omega arith
