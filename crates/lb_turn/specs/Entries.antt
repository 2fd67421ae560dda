-- Entries, and those of one number.
use Rattle.std.specs.Prelude.{ℕ, ◌+◌, ◌==◌, if◌then◌else◌, List, [], ◌∷◌, ◌++◌}
use Rattle.lb_trace.specs.declared.Entry.{Entry}
use Rattle.lb_trace.specs.declared.Kind.{Kind}

-- an entry of a worker
abbrev pub entry : ℕ → Kind → Entry
entry worker kind = record { worker = worker; kind = kind }

-- a list with one entry more
abbrev pub added : List Entry → ℕ → Kind → List Entry
added list worker kind = list ++ entry worker kind ∷ []

-- the places and kinds of the entries of number n, in a list whose first entry has the place given
abbrev pub receipts_of : ℕ → ℕ → List Entry → List (ℕ × Kind)
receipts_of n place [] = []
receipts_of n place (e ∷ es) =
    if e.worker == n
    then (place, e.kind) ∷ receipts_of n (place + 1) es
    else receipts_of n (place + 1) es
