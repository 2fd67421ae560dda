-- What private contracts cite: what a port answers to what its reader or writer of std answered.
use Rattle.std.specs.Prelude.{◌≡◌, ℕ, List, IsErr, Result, Ok, MatchResult}
use Rattle.lb_ports.specs.Faults.{TakesNothing, next_count}

-- a source passes on the number of bytes, fails where its reader fails, and counts the failures
abbrev pub IsReadAnswer : {E F : Type 0} → Result ℕ E → ℕ → Result ℕ F → ℕ → Type 0
IsReadAnswer given before answer after =
    MatchResult given (λ count. (answer ≡ Ok count) × (after ≡ before))
    (λ _. IsErr answer × (after ≡ next_count before))

-- A sink passes on the number of bytes, and fails where its writer fails. It counts the writes that
-- failed or took nothing of a piece that isn't empty.
pub record IsWriteAnswer {E F : Type 0} (taken : Result ℕ E) (piece : List ℕ) (before : ℕ)
    (answer : Result ℕ F) (after : ℕ) : Type 0 where
  pub passed : MatchResult taken (λ count. answer ≡ Ok count) (λ _. IsErr answer)
  pub counted : TakesNothing taken piece → after ≡ next_count before
  pub uncounted : ¬ TakesNothing taken piece → after ≡ before
