-- The cells of a running function, in which its variables are kept: registers and slots of its own.
use Rattle.std.specs.Prelude.{ℕ, Bool, false, ◌==◌, if◌then◌else◌, List, [], ◌∷◌, Option, Some, None}
use Rattle.lb_flat.specs.declared.places.Place.{Place}
use Rattle.lb_flat.specs.declared.places.Place.TheVariants.{Register, Slot}

-- what each cell holds, if anything
abbrev pub Cells : Type 0
Cells = Place → Option ℕ

abbrev pub no_cells : Cells
no_cells = λ p. None

-- both are one place
abbrev pub same_place : Place → Place → Bool
same_place (Register r) (Register s) = r == s
same_place (Register r) (Slot j) = false
same_place (Slot i) (Register s) = false
same_place (Slot i) (Slot j) = i == j

-- the same but for one cell: a value sets it, none unsets it
abbrev pub put : Place → Option ℕ → Cells → Cells
put p value cells = λ q. if same_place p q then value else cells q

-- variables set in turn, each in its cell; one for which no value is left is unset
abbrev pub set_all : {X : Type 0} → (X → Place) → List X → List ℕ → Cells → Cells
set_all cell [] vs cells = cells
set_all cell (x ∷ xs) [] cells = set_all cell xs [] (put (cell x) None cells)
set_all cell (x ∷ xs) (v ∷ vs) cells = set_all cell xs vs (put (cell x) (Some v) cells)
