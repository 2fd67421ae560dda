-- Each call of a `Lan`, whatever chip, transaction and kept value it stands for.
use Rattle.std.specs.Prelude.{◌≡◌, ℕ}
use Rattle.lb_trace.specs.Frame.{FrameContent}
use Rattle.lb_lan.specs.Frames.{woken, arrived}
use Rattle.lb_lan.specs.Transaction.{LanState, exchanged, answer_to, released, with_chip}
use Rattle.lb_lan.specs.Phases.{LanView, view_of}

-- it stands for what comes of all that the old one stands for
abbrev pub Becomes : (LanState → LanState) → LanView → LanView → Type 0
Becomes step old new = (s : LanState) → old ≡ view_of s → new ≡ view_of (step s)

-- the byte is added to the transaction
abbrev pub TakesByte : LanView → ℕ → LanView → Type 0
TakesByte old byte new = Becomes (exchanged byte) old new

-- the answer to the byte
abbrev pub Answers : LanView → ℕ → ℕ → Type 0
Answers now byte answer = (s : LanState) → now ≡ view_of s → answer ≡ answer_to byte s

-- the transaction ends
abbrev pub Releases : LanView → LanView → Type 0
Releases old new = Becomes released old new

-- the chip awakes, within the same transaction
abbrev pub Wakes : LanView → LanView → Type 0
Wakes old new = Becomes (λ s. with_chip (woken s.chip) s) old new

-- the frame arrives, within the same transaction
abbrev pub Receives : LanView → FrameContent → LanView → Type 0
Receives old frame new = Becomes (λ s. with_chip (arrived frame s.chip) s) old new
