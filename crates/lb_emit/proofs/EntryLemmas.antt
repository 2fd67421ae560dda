-- Numbers of instructions are within the code.
use Rattle.std.proofs.Common.{ℕ, zero, suc, ◌<◌, ◌≤◌, List, [], ◌∷◌, length, slice_index_or, arith}
use Rattle.lb_syntax.specs.declared.limits.TheConstants.{MOST_WORDS}
use Rattle.lb_emit.specs.InternalEmit.{AreEntries}

pub entry_within : (es : List ℕ) (g : ℕ) → AreEntries es → g < length es → slice_index_or es g 0 ≤ MOST_WORDS
entry_within [] g h lt = absurd (omega (arith, lt))
entry_within (e ∷ es) zero h lt = h.0
entry_within (e ∷ es) (suc g) h lt = entry_within es g h.1 (omega (arith, lt))
