-- Each call of a `Board`, whatever script and steps it stands for.
use Rattle.std.specs.Prelude.{◌≡◌, ℕ, Bool, true, List, [], ◌∷◌, ◌++◌}
use Rattle.lb_trace.specs.declared.Kind.{Kind}
use Rattle.lb_trace.specs.Frame.{FrameContent}
use Rattle.lb_board.specs.Registers.{register_at, value_in, is_lit}
use Rattle.lb_board.specs.Rows.{by_bytes, is_enabled, shifted_in}
use Rattle.lb_board.specs.Steps.{Step, BoardView, board, arrivals, view_of}
use Rattle.lb_board.specs.Pins.{is_pin_register, last_written}

-- the step is done behind all others
abbrev pub Does : BoardView → Step → BoardView → Type 0
Does old x new =
    (fs : List FrameContent) (xs : List Step) → old ≡ view_of (board fs xs) → new ≡ view_of (board fs (xs ++ x ∷ []))

-- a read of the address gives the value
abbrev pub Tells : BoardView → ℕ → ℕ → Type 0
Tells now a v =
    (fs : List FrameContent) (xs : List Step) → now ≡ view_of (board fs xs) → v ≡ value_in (register_at a) (board fs xs)

-- at a register of the pins the value is the one that was last written there
abbrev pub TellsLastWritten : BoardView → ℕ → ℕ → Type 0
TellsLastWritten now a v =
    (fs : List FrameContent) (xs : List Step) → now ≡ view_of (board fs xs)
    → is_pin_register a ≡ true → v ≡ last_written a xs

-- whether the action may be done
abbrev pub Guards : BoardView → Kind → Bool → Type 0
Guards now k b =
    (fs : List FrameContent) (xs : List Step) → now ≡ view_of (board fs xs) → b ≡ is_enabled by_bytes k (board fs xs)

-- the byte that a shift puts into the receive FIFO
abbrev pub ShiftsIn : BoardView → ℕ → Type 0
ShiftsIn now b =
    (fs : List FrameContent) (xs : List Step) → now ≡ view_of (board fs xs) → b ≡ shifted_in by_bytes (board fs xs)

-- whether the lamp is on, by what was last written to output_val
abbrev pub Shines : BoardView → Bool → Type 0
Shines now lit =
    (fs : List FrameContent) (xs : List Step) → now ≡ view_of (board fs xs) → lit ≡ is_lit (last_written 0x1001200C xs)

-- the script is the one that the board was booted with
abbrev pub TellsScript : BoardView → List FrameContent → Type 0
TellsScript now frames = (fs : List FrameContent) (xs : List Step) → now ≡ view_of (board fs xs) → frames ≡ fs

-- as many frames have arrived as the steps have arrivals
abbrev pub CountsArrivals : BoardView → ℕ → Type 0
CountsArrivals now n = (fs : List FrameContent) (xs : List Step) → now ≡ view_of (board fs xs) → n ≡ arrivals xs
