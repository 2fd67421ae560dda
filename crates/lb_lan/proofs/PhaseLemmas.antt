-- What the phase says of the next byte is what the list of bytes says.
use Rattle.std.proofs.Common.{◌≡◌, ℕ, List, [], ◌∷◌, ◌++◌, refl, ap, ◌∙◌}
use Rattle.lb_trace.specs.Frame.{FrameContent}
use Rattle.lb_lan.specs.declared.phase.Phase.{Phase}
use Rattle.lb_lan.specs.Registers.{Chip}
use Rattle.lb_lan.specs.Frames.{woken, arrived}
use Rattle.lb_lan.specs.Transaction.{Instruction, Reads, Writes, Ignored, instruction, access_in, answer_in, after_access, kept_after, LanState, exchanged, answer_to}
use Rattle.lb_lan.specs.Phases.{phase_in, first_phase, next_phase, next_chip, phase_answer, LanView, view_of, view_exchanged, view_answer, view_released, view_with_chip}
use Rattle.lb_lan.specs.Calls.{TakesByte, Answers, Releases, Wakes, Receives}

-- one more byte behind the instruction and the bytes t
record ByteAdded (i : Instruction) (t : List ℕ) (kept b : ℕ) (c : Chip) : Type 0 where
  pub phase : next_phase (phase_in i t kept) b c ≡ phase_in i (t ++ b ∷ []) (kept_after (access_in i (t ++ b ∷ [])) c kept)
  pub chip : next_chip (phase_in i t kept) b c ≡ after_access (access_in i (t ++ b ∷ [])) c
  pub answer : phase_answer (phase_in i t kept) c ≡ answer_in i (t ++ b ∷ []) (kept_after (access_in i (t ++ b ∷ [])) c kept)

byte_added : (i : Instruction) (t : List ℕ) (kept b : ℕ) (c : Chip) → ByteAdded i t kept b c
byte_added Reads [] kept b c = record { phase = refl; chip = refl; answer = refl }
byte_added Reads (_ ∷ []) kept b c = record { phase = refl; chip = refl; answer = refl }
byte_added Reads (_ ∷ _ ∷ []) kept b c = record { phase = refl; chip = refl; answer = refl }
byte_added Reads (_ ∷ _ ∷ _ ∷ []) kept b c = record { phase = refl; chip = refl; answer = refl }
byte_added Reads (_ ∷ _ ∷ _ ∷ _ ∷ []) kept b c = record { phase = refl; chip = refl; answer = refl }
byte_added Reads (_ ∷ _ ∷ _ ∷ _ ∷ _ ∷ []) kept b c = record { phase = refl; chip = refl; answer = refl }
byte_added Reads (_ ∷ _ ∷ _ ∷ _ ∷ _ ∷ _ ∷ []) kept b c = record { phase = refl; chip = refl; answer = refl }
byte_added Reads (_ ∷ _ ∷ _ ∷ _ ∷ _ ∷ _ ∷ _ ∷ []) kept b c = record { phase = refl; chip = refl; answer = refl }
byte_added Reads (_ ∷ _ ∷ _ ∷ _ ∷ _ ∷ _ ∷ _ ∷ _ ∷ t) kept b c = record { phase = refl; chip = refl; answer = refl }
byte_added Writes [] kept b c = record { phase = refl; chip = refl; answer = refl }
byte_added Writes (_ ∷ []) kept b c = record { phase = refl; chip = refl; answer = refl }
byte_added Writes (_ ∷ _ ∷ []) kept b c = record { phase = refl; chip = refl; answer = refl }
byte_added Writes (_ ∷ _ ∷ _ ∷ []) kept b c = record { phase = refl; chip = refl; answer = refl }
byte_added Writes (_ ∷ _ ∷ _ ∷ _ ∷ []) kept b c = record { phase = refl; chip = refl; answer = refl }
byte_added Writes (_ ∷ _ ∷ _ ∷ _ ∷ _ ∷ []) kept b c = record { phase = refl; chip = refl; answer = refl }
byte_added Writes (_ ∷ _ ∷ _ ∷ _ ∷ _ ∷ _ ∷ []) kept b c = record { phase = refl; chip = refl; answer = refl }
byte_added Writes (_ ∷ _ ∷ _ ∷ _ ∷ _ ∷ _ ∷ _ ∷ t) kept b c = record { phase = refl; chip = refl; answer = refl }
byte_added Ignored t kept b c = record { phase = refl; chip = refl; answer = refl }

-- the instruction itself
record Begun (i : Instruction) (kept : ℕ) (c : Chip) : Type 0 where
  pub phase : first_phase i ≡ phase_in i [] (kept_after (access_in i []) c kept)
  pub chip : c ≡ after_access (access_in i []) c
  pub answer : 0xFF ≡ answer_in i [] (kept_after (access_in i []) c kept)

begun : (i : Instruction) (kept : ℕ) (c : Chip) → Begun i kept c
begun Reads kept c = record { phase = refl; chip = refl; answer = refl }
begun Writes kept c = record { phase = refl; chip = refl; answer = refl }
begun Ignored kept c = record { phase = refl; chip = refl; answer = refl }

abbrev lan_view : Chip → Phase → LanView
lan_view c p = record { chip = c; phase = p }

same_view : {c d : Chip} {p q : Phase} → c ≡ d → p ≡ q → lan_view c p ≡ lan_view d q
same_view {d = d} {p = p} e f = ap (λ (x : Chip). lan_view x p) e ∙ ap (λ (x : Phase). lan_view d x) f

-- ---- views

exchanged_by_list : (t : List ℕ) (kept b : ℕ) (c : Chip)
    → view_exchanged b (view_of (record { chip = c; bytes = t; kept = kept })) ≡ view_of (exchanged b (record { chip = c; bytes = t; kept = kept }))
exchanged_by_list [] kept b c = let e = begun (instruction b) kept c in same_view e.chip e.phase
exchanged_by_list (a ∷ t) kept b c = let e = byte_added (instruction a) t kept b c in same_view e.chip e.phase

answer_by_list : (t : List ℕ) (kept b : ℕ) (c : Chip)
    → view_answer (view_of (record { chip = c; bytes = t; kept = kept })) ≡ answer_to b (record { chip = c; bytes = t; kept = kept })
answer_by_list [] kept b c = (begun (instruction b) kept c).answer
answer_by_list (a ∷ t) kept b c = (byte_added (instruction a) t kept b c).answer

pub view_exchanged-view_of : (b : ℕ) (s : LanState) → view_exchanged b (view_of s) ≡ view_of (exchanged b s)
view_exchanged-view_of b s = exchanged_by_list s.bytes s.kept b s.chip

pub view_answer-view_of : (b : ℕ) (s : LanState) → view_answer (view_of s) ≡ answer_to b s
view_answer-view_of b s = answer_by_list s.bytes s.kept b s.chip

-- ---- the calls

pub takes_byte : (old : LanView) (b : ℕ) → TakesByte old b (view_exchanged b old)
takes_byte old b s e = ap (view_exchanged b) e ∙ view_exchanged-view_of b s

pub answers : (now : LanView) (b : ℕ) → Answers now b (view_answer now)
answers now b s e = ap view_answer e ∙ view_answer-view_of b s

pub releases : (old : LanView) → Releases old (view_released old)
releases old s e = ap view_released e

pub wakes : (old : LanView) → Wakes old (view_with_chip (woken old.chip) old)
wakes old s e = ap (λ (l : LanView). view_with_chip (woken l.chip) l) e

pub receives : (old : LanView) (f : FrameContent) → Receives old f (view_with_chip (arrived f old.chip) old)
receives old f s e = ap (λ (l : LanView). view_with_chip (arrived f l.chip) l) e
