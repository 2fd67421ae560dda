-- What every step keeps, and so every legal log.
use Rattle.std.proofs.Common.{◌≡◌, ◌≤◌, ℕ, ◌+◌, ◌*◌, Bool, true, false, is_none, List, [], ◌∷◌, ◌++◌, length, refl, ap, ◌∙◌, subst, arith}
use Rattle.std.proofs.lemmas.Bool.{and_parts}
use Rattle.lb_trace.specs.declared.Entry.{Entry}
use Rattle.lb_trace.specs.declared.Kind.{Kind}
use Rattle.lb_trace.specs.declared.Kind.TheVariants.{Fetch, Decode, Execute, Ram, Mmio, Writeback, Boot, Shift, Arrive}
use Rattle.lb_core.specs.Potential.{Fits, credit, debt, one_if, rise}
use Rattle.lb_core.specs.Rows.{answered, demanded}
use Rattle.lb_core.specs.Rows.{is_enabled as is_enabled_in_core}
use Rattle.lb_core.specs.Stands.{Stands}
use Rattle.lb_core.proofs.FrontRows.{booted_stands}
use Rattle.lb_core.proofs.PotentialLemmas.{booted_fits, potential_is_bounded, potential_rises, rows_fit}
use Rattle.lb_core.proofs.Rows.{never_stuck, program_kept, rows_stand}
use Rattle.lb_board.specs.Rows.{acted, by_bytes}
use Rattle.lb_board.specs.Rows.{is_enabled as is_enabled_on_board}
use Rattle.lb_board.specs.Steps.{BoardState}
use Rattle.lb_machine.specs.State.{Job, MachineState, booted_machine}
use Rattle.lb_machine.specs.Rows.{accessed, after, core_fired, is_enabled, reply_to}
use Rattle.lb_machine.specs.Logs.{IsLegal, IsLegalFrom, replay, replayed_from}
use Rattle.lb_machine.specs.Laws.{EntriesAreBounded, EventsAreFew, LogsFit, LogsGoOn, LogsStand}
use Rattle.lb_machine.proofs.BoardLemmas.{Acts, Leaves, access_leaves, arrive_acts, boot_acts, shift_acts}
use Rattle.lb_machine.proofs.CoreLemmas.{grows, length_with_event, weight}

-- ---- one entry more

pub replayed_snoc : (s : MachineState) (es : List Entry) (e : Entry) → replayed_from s (es ++ e ∷ []) ≡ after by_bytes (replayed_from s es) e.kind
replayed_snoc s [] e = refl
replayed_snoc s (x ∷ es) e = replayed_snoc (after by_bytes s x.kind) es e

pub legal_snoc : (s : MachineState) (es : List Entry) (e : Entry) → IsLegalFrom s es → is_enabled by_bytes (replayed_from s es) e.kind ≡ true
    → IsLegalFrom s (es ++ e ∷ [])
legal_snoc s [] e l on = (on, tt)
legal_snoc s (x ∷ es) e l on = (l.0, legal_snoc (after by_bytes s x.kind) es e l.1 on)

-- ---- what holds after n entries

pub record Holds (job : Job) (n : ℕ) (s : MachineState) : Type 0 where
  pub stands : Stands s.core s.trace
  pub fits : Fits s.core
  pub code : s.core.code ≡ job.code
  pub frames : s.board.frames ≡ job.frames
  pub retired : s.core.retired ≤ n
  pub arrived : s.board.arrived ≤ length s.board.frames
  pub events : 4 * length s.trace + weight s.core ≤ n
  -- each entry raises the credit of the core less its debt, or leaves the board with one thing less to do
  pub potential : n + debt s.core + length s.board.send_fifo ≤ credit s.core + one_if s.board.lan.chip.awake + s.board.arrived

booted_holds : (job : Job) → Holds job 0 (booted_machine job)
booted_holds job = record {
  stands = booted_stands job.code job.entry;
  fits = booted_fits job.code job.entry;
  code = refl;
  frames = refl;
  retired = omega arith;
  arrived = omega arith;
  events = omega arith;
  potential = omega arith;
}

-- a row of the core, while the board does an access
core_holds : (job : Job) (n : ℕ) (s : MachineState) (k : Kind) (reply : ℕ) (d : BoardState) (more : ℕ) → is_enabled_in_core s.core k ≡ true
    → more + 1 ≤ rise k → Leaves s.board d more → Holds job n s → Holds job (n + 1) (record (core_fired k reply s) { board = d })
core_holds job n s k reply d more on least b h =
    let g = grows s.core k reply in
    let g0 = g.retired in
    let g1 = g.weight in
    let up = potential_rises s.core k reply h.fits on in
    let t = length_with_event s.trace (answered s.core k reply) in
    let awake = ap one_if b.awake in
    let h0 = h.retired in
    let h1 = h.events in
    let h2 = h.potential in
    let h3 = h.arrived in
    let b0 = b.arrived in
    let b1 = ap length b.frames in
    let b2 = b.send in
    record {
      stands = rows_stand s.core k reply on s.trace h.stands;
      fits = rows_fit s.core k reply h.fits on;
      code = (program_kept s.core k reply).code ∙ h.code;
      frames = b.frames ∙ h.frames;
      retired = omega (arith, g0, h0);
      arrived = omega (arith, h3, b0, b1);
      events = omega (arith, g1, t, h1);
      potential = omega (arith, up, awake, h2, b0, b2, least);
    }

same_board : (b : BoardState) → Leaves b b 0
same_board b = record { frames = refl; arrived = refl; awake = refl; send = omega arith }

-- an action of the board
board_holds : (job : Job) (n : ℕ) (s : MachineState) (d : BoardState) → Acts s.board d → Holds job n s → Holds job (n + 1) (record s { board = d })
board_holds job n s d a h =
    let h0 = h.retired in
    let h1 = h.events in
    let h2 = h.potential in
    let up = a.rises in
    record {
      stands = h.stands;
      fits = h.fits;
      code = h.code;
      frames = a.frames ∙ h.frames;
      retired = omega (arith, h0);
      arrived = a.arrived h.arrived;
      events = omega (arith, h1);
      potential = omega (arith, h2, up);
    }

step_holds : (job : Job) (n : ℕ) (s : MachineState) (k : Kind) → is_enabled by_bytes s k ≡ true → Holds job n s → Holds job (n + 1) (after by_bytes s k)
step_holds job n s Fetch on h = core_holds job n s Fetch 0 s.board 0 on (omega arith) (same_board s.board) h
step_holds job n s Decode on h = core_holds job n s Decode 0 s.board 0 on (omega arith) (same_board s.board) h
step_holds job n s Execute on h = core_holds job n s Execute 0 s.board 0 on (omega arith) (same_board s.board) h
step_holds job n s Ram on h = core_holds job n s Ram 0 s.board 0 on (omega arith) (same_board s.board) h
step_holds job n s Mmio on h =
    core_holds job n s Mmio (reply_to (demanded s.core) s.board) (accessed by_bytes (demanded s.core) s.board) 1 on (omega arith)
    (access_leaves (demanded s.core) s.board) h
step_holds job n s Writeback on h = core_holds job n s Writeback 0 s.board 0 on (omega arith) (same_board s.board) h
step_holds job n s Boot on h =
    board_holds job n s (acted by_bytes Boot s.board)
    (boot_acts s.board (and_parts (is_none s.core.halted) (is_enabled_on_board by_bytes Boot s.board) on).1) h
step_holds job n s Shift on h =
    board_holds job n s (acted by_bytes Shift s.board)
    (shift_acts s.board (and_parts (is_none s.core.halted) (is_enabled_on_board by_bytes Shift s.board) on).1) h
step_holds job n s Arrive on h =
    board_holds job n s (acted by_bytes Arrive s.board)
    (arrive_acts s.board (and_parts (is_none s.core.halted) (is_enabled_on_board by_bytes Arrive s.board) on).1) h

log_holds : (job : Job) (es : List Entry) (n : ℕ) (s : MachineState) → IsLegalFrom s es → Holds job n s → Holds job (n + length es) (replayed_from s es)
log_holds job [] n s l h = let e : n ≡ n + 0 = omega arith in subst (λ (m : ℕ). Holds job m s) e h
log_holds job (x ∷ es) n s l h =
    let e : n + 1 + length es ≡ n + length (x ∷ es) = omega arith in
    subst (λ (m : ℕ). Holds job m (replayed_from (after by_bytes s x.kind) es)) e
    (log_holds job es (n + 1) (after by_bytes s x.kind) l.1 (step_holds job n s x.kind l.0 h))

pub holds : (job : Job) (log : List Entry) → IsLegal job log → Holds job (length log) (replay job log)
holds job log l =
    let e : 0 + length log ≡ length log = omega arith in
    subst (λ (n : ℕ). Holds job n (replay job log)) e (log_holds job log 0 (booted_machine job) l (booted_holds job))

-- ---- the laws

pub logs_stand : LogsStand
logs_stand job log l = (holds job log l).stands

pub logs_fit : LogsFit
logs_fit job log l = (holds job log l).fits

pub events_are_few : EventsAreFew
events_are_few job log l = let h = (holds job log l).events in omega (arith, h)

one_most : (b : Bool) → one_if b ≤ 1
one_most true = omega arith
one_most false = omega arith

pub entries_are_bounded : EntriesAreBounded
entries_are_bounded job log l =
    let h = holds job log l in
    let s = replay job log in
    let potential = h.potential in
    let bound = potential_is_bounded s.core h.fits in
    let awake = one_most s.board.lan.chip.awake in
    let arrived = h.arrived in
    let frames = ap length h.frames in omega (arith, potential, bound, awake, arrived, frames)

false_true : false ≡ true → ⊥
false_true e = cc

-- the machine's guard is the core's
core_enabled : (s : MachineState) (k : Kind) → is_enabled_in_core s.core k ≡ true → is_enabled by_bytes s k ≡ true
core_enabled s Fetch on = on
core_enabled s Decode on = on
core_enabled s Execute on = on
core_enabled s Ram on = on
core_enabled s Mmio on = on
core_enabled s Writeback on = on
core_enabled s Boot on = absurd (false_true (and_parts (is_none s.core.halted) false on).1)
core_enabled s Shift on = absurd (false_true (and_parts (is_none s.core.halted) false on).1)
core_enabled s Arrive on = absurd (false_true (and_parts (is_none s.core.halted) false on).1)

goes_on : (s : MachineState) → (k : Kind) × (is_enabled_in_core s.core k ≡ true)
    → (k : Kind) × (is_enabled_in_core s.core k ≡ true) × (is_enabled by_bytes s k ≡ true)
goes_on s found = (found.0, found.1, core_enabled s found.0 found.1)

pub logs_go_on : LogsGoOn
logs_go_on job log n = goes_on (replay job log) (never_stuck (replay job log).core n)
