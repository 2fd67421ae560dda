-- What a run of reads or writes did to the known bytes.
use Rattle.std.specs.Prelude.{◌≡◌, ℕ, ◌≤◌, ◌<◌, List, ◌++◌, length}
use Rattle.std.specs.declared.option.Option.{Option}
use Rattle.std.specs.Io.KnownBytes.{Appends, Consumes, IsAtEnd}

-- these bytes are all that were left
abbrev pub ReadsAll : Option (List ℕ) → Option (List ℕ) → List ℕ → Type 0
ReadsAll old new bytes = Consumes old new bytes × IsAtEnd new

-- at most this many of the bytes left were read
abbrev pub ReadsUpTo : Option (List ℕ) → Option (List ℕ) → ℕ → Type 0
ReadsUpTo old new limit = (bytes : List ℕ) × Consumes old new bytes × (length bytes ≤ limit)

-- more than this many of the bytes left were read
abbrev pub ReadsMoreThan : Option (List ℕ) → Option (List ℕ) → ℕ → Type 0
ReadsMoreThan old new limit = (bytes : List ℕ) × Consumes old new bytes × (limit < length bytes)

-- a front of the bytes was appended, and not all of them
abbrev pub AppendsPrefix : Option (List ℕ) → Option (List ℕ) → List ℕ → Type 0
AppendsPrefix old new bytes =
    (front : List ℕ) × (rest : List ℕ) × (bytes ≡ front ++ rest) × (0 < length rest)
    × Appends old new front
