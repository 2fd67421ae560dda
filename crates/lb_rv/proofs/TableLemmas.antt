-- The rows of the table.
use Rattle.std.proofs.Common.{◌≡◌, ℕ, ◌<◌, ◌^◌, ap, arith, rules}
use Rattle.lb_rv.specs.declared.shape.Shape.{Shape}
use Rattle.lb_rv.specs.declared.instr.Instr.{Instr}
use Rattle.lb_rv.specs.declared.instr.Instr.TheVariants.{Lui}
use Rattle.lb_rv.specs.Formats.{HasFixedBits, HasColumns, columns, word_of_columns}
use Rattle.lb_rv.specs.Table.{shape, word_of, IsInRange, IsEncodedBy}
use Rattle.lb_rv.proofs.FormatLemmas.{has-word_of_columns, word_of_columns-has, word_of_columns_below}

-- the fixed bits of each row are in range
pub fixed_bits : (i : Instr) → HasFixedBits (shape i)
fixed_bits (Lui d n) = omega arith
fixed_bits i = search rules

-- the word of an instruction has its columns
pub columns-word_of : (i : Instr) → IsInRange i → HasColumns (word_of i) (columns (shape i))
unfolding word_of
columns-word_of i r = has-word_of_columns (shape i) (fixed_bits i) r

pub IsEncodedBy-word_of : (i : Instr) → IsInRange i → IsEncodedBy i (word_of i)
unfolding IsEncodedBy
IsEncodedBy-word_of i r = columns-word_of i r

pub word_of_below : (i : Instr) → IsInRange i → word_of i < 2 ^ 32
unfolding word_of
word_of_below i r = word_of_columns_below (shape i) (fixed_bits i) r

-- a word that has the columns is the instruction's
pub word_of-columns : (w : ℕ) (i : Instr) → w < 2 ^ 32 → HasColumns w (columns (shape i)) → word_of i ≡ w
unfolding word_of
word_of-columns w i b h = word_of_columns-has w (shape i) b h

pub word_of-shape : (i : Instr) (s : Shape) → s ≡ shape i → word_of_columns (columns s) ≡ word_of i
unfolding word_of
word_of-shape i s e = ap (λ (t : Shape). word_of_columns (columns t)) e
