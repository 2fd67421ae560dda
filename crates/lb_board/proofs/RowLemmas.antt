-- What the rows say of the chip's phase is what they say of its bytes.
use Rattle.std.proofs.Common.{◌≡◌, ℕ, ◌+◌, ◌%◌, ◌==◌, Bool, true, false, if◌then◌else◌, List, [], ◌∷◌, ◌++◌, Option, Some, None, slice_get, slice_index, refl, sym, ap, ◌∙◌}
use Rattle.lb_trace.specs.declared.Kind.{Kind}
use Rattle.lb_trace.specs.declared.Kind.TheVariants.{Fetch, Decode, Execute, Ram, Mmio, Writeback, Boot, Shift, Arrive}
use Rattle.lb_trace.specs.Frame.{FrameContent}
use Rattle.lb_lan.specs.Transaction.{LanState}
use Rattle.lb_lan.specs.Phases.{LanView}
use Rattle.lb_lan.specs.Phases.{view_of as lan_view_of}
use Rattle.lb_lan.proofs.PhaseLemmas.{view_exchanged-view_of, view_answer-view_of}
use Rattle.lb_board.specs.declared.registers.Register.{Register}
use Rattle.lb_board.specs.declared.registers.Register.TheVariants.{OutputEn, OutputVal, IofEn, CsMode, TxData, RxData, Unused}
use Rattle.lb_board.specs.Registers.{register_at, value_in, read_in}
use Rattle.lb_board.specs.Rows.{by_bytes, by_phase, written_in, can_arrive, is_enabled, shifted_in, with_frame, acted}
use Rattle.lb_board.specs.Steps.{BoardState, BoardView, Step, Reads, Writes, Acts, stepped, after_steps, board, booted, view_of}
use Rattle.lb_board.specs.Calls.{Does, Guards, ShiftsIn}

-- ---- the chip on the bus

view_selected : (t : Bool) (l : LanState) → (if t then lan_view_of l else by_phase.released (lan_view_of l)) ≡ lan_view_of (if t then l else by_bytes.released l)
view_selected true l = refl
view_selected false l = refl

view_byte_out : (t : Bool) (b : ℕ) (l : LanState) → (if t then by_phase.exchanged b (lan_view_of l) else lan_view_of l) ≡ lan_view_of (if t then by_bytes.exchanged b l else l)
view_byte_out true b l = view_exchanged-view_of b l
view_byte_out false b l = refl

view_byte_back : (t : Bool) (b : ℕ) (l : LanState) → (if t then by_phase.answer b (lan_view_of l) else 0xFF) ≡ (if t then by_bytes.answer b l else 0xFF)
view_byte_back true b l = view_answer-view_of b l
view_byte_back false b l = refl

view_with_frame : (f : Option FrameContent) (l : LanState) → with_frame by_phase f (lan_view_of l) ≡ lan_view_of (with_frame by_bytes f l)
view_with_frame None l = refl
view_with_frame (Some f) l = refl

view_can_arrive : (f : Option FrameContent) (l : LanState) → can_arrive by_phase f (lan_view_of l) ≡ can_arrive by_bytes f l
view_can_arrive None l = refl
view_can_arrive (Some f) l = refl

-- ---- rows

pub value_in-view_of : (r : Register) (s : BoardState) → value_in r (view_of s) ≡ value_in r s
value_in-view_of OutputEn s = refl
value_in-view_of OutputVal s = refl
value_in-view_of IofEn s = refl
value_in-view_of CsMode s = refl
value_in-view_of TxData s = refl
value_in-view_of RxData s = refl
value_in-view_of Unused s = refl

pub read_in-view_of : (r : Register) (s : BoardState) → read_in r (view_of s) ≡ view_of (read_in r s)
read_in-view_of OutputEn s = refl
read_in-view_of OutputVal s = refl
read_in-view_of IofEn s = refl
read_in-view_of CsMode s = refl
read_in-view_of TxData s = refl
read_in-view_of RxData s = refl
read_in-view_of Unused s = refl

pub written_in-view_of : (r : Register) (v : ℕ) (s : BoardState) → written_in by_phase r v (view_of s) ≡ view_of (written_in by_bytes r v s)
written_in-view_of OutputEn v s = refl
written_in-view_of OutputVal v s = refl
written_in-view_of IofEn v s = refl
written_in-view_of CsMode v s = ap (λ (l : LanView). record (view_of s) { csmode = v % 4; lan = l }) (view_selected (v % 4 == 2) s.lan)
written_in-view_of TxData v s = refl
written_in-view_of RxData v s = refl
written_in-view_of Unused v s = refl

pub is_enabled-view_of : (k : Kind) (s : BoardState) → is_enabled by_phase k (view_of s) ≡ is_enabled by_bytes k s
is_enabled-view_of Boot s = refl
is_enabled-view_of Shift s = refl
is_enabled-view_of Arrive s = view_can_arrive (slice_get s.frames s.arrived) s.lan
is_enabled-view_of Fetch s = refl
is_enabled-view_of Decode s = refl
is_enabled-view_of Execute s = refl
is_enabled-view_of Ram s = refl
is_enabled-view_of Mmio s = refl
is_enabled-view_of Writeback s = refl

pub shifted_in-view_of : (s : BoardState) → shifted_in by_phase (view_of s) ≡ shifted_in by_bytes s
shifted_in-view_of s = view_byte_back (s.csmode == 2) (slice_index s.send_fifo 0) s.lan

pub acted-view_of : (k : Kind) (s : BoardState) → acted by_phase k (view_of s) ≡ view_of (acted by_bytes k s)
acted-view_of Boot s = refl
acted-view_of Shift s =
    ap (λ (b : ℕ). record (acted by_phase Shift (view_of s)) { receive_fifo = s.receive_fifo ++ b ∷ [] }) (shifted_in-view_of s)
    ∙ ap (λ (l : LanView). record (view_of (acted by_bytes Shift s)) { lan = l }) (view_byte_out (s.csmode == 2) (slice_index s.send_fifo 0) s.lan)
acted-view_of Arrive s =
    ap (λ (l : LanView). record (view_of s) { lan = l; arrived = s.arrived + 1 }) (view_with_frame (slice_get s.frames s.arrived) s.lan)
acted-view_of Fetch s = refl
acted-view_of Decode s = refl
acted-view_of Execute s = refl
acted-view_of Ram s = refl
acted-view_of Mmio s = refl
acted-view_of Writeback s = refl

-- a step of what contracts see is one of what it stands for
pub stepped-view_of : (x : Step) (s : BoardState) → stepped by_phase x (view_of s) ≡ view_of (stepped by_bytes x s)
stepped-view_of (Reads a) s = read_in-view_of (register_at a) s
stepped-view_of (Writes a v) s = written_in-view_of (register_at a) v s
stepped-view_of (Acts k) s = acted-view_of k s

-- ---- lists

pub after_steps-append : (s : BoardState) (xs : List Step) (x : Step) → after_steps (xs ++ x ∷ []) s ≡ stepped by_bytes x (after_steps xs s)
after_steps-append s [] x = refl
after_steps-append s (y ∷ xs) x = after_steps-append (stepped by_bytes y s) xs x

-- ---- the calls

pub does : (x : Step) (old : BoardView) → Does old x (stepped by_phase x old)
does x old fs xs e =
    ap (stepped by_phase x) e ∙ stepped-view_of x (board fs xs) ∙ ap view_of (sym (after_steps-append (booted fs) xs x))

pub guards : (now : BoardView) (k : Kind) → Guards now k (is_enabled by_phase k now)
guards now k fs xs e = ap (is_enabled by_phase k) e ∙ is_enabled-view_of k (board fs xs)

pub shifts_in : (now : BoardView) → ShiftsIn now (shifted_in by_phase now)
shifts_in now fs xs e = ap (shifted_in by_phase) e ∙ shifted_in-view_of (board fs xs)
