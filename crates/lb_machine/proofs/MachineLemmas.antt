-- What a machine keeps while an entry is added, and what follows of it.
use Rattle.std.proofs.Common.{◌≡◌, ◌≢◌, ◌≤◌, ◌<◌, ℕ, zero, suc, ◌+◌, ◌*◌, ◌^◌, ◌-◌, Bool, true, false, ◌&&◌, is_none, List, [], ◌∷◌, ◌++◌, length, take, slice_get, Option, Some, None, sym, ap, ◌∙◌, subst, refl, arith}
use Rattle.std.proofs.lemmas.List.{length-take-le}
use Rattle.std.proofs.lemmas.List.Elements.{All-append, All-cons, All-nil}
use Rattle.lb_trace.specs.declared.Entry.{Entry}
use Rattle.std.proofs.lemmas.Option.{slice_get_within}
use Rattle.lb_trace.specs.declared.Kind.{Kind}
use Rattle.lb_trace.specs.declared.Kind.TheVariants.{Fetch, Decode, Execute, Ram, Mmio, Writeback, Boot, Shift, Arrive}
use Rattle.lb_trace.specs.Frame.{FrameContent}
use Rattle.lb_core.specs.Stands.{Stands}
use Rattle.lb_core.specs.Rows.{guard}
use Rattle.lb_core.specs.State.{state_of}
use Rattle.lb_rv.specs.declared.instr.Cause.{Cause}
use Rattle.lb_board.specs.Rows.{by_bytes, by_phase}
use Rattle.lb_board.specs.Rows.{is_enabled as is_enabled_on_board}
use Rattle.lb_machine.specs.State.{Job, MachineState, MachineView, booted_machine, view_of}
use Rattle.lb_machine.specs.Rows.{after, is_enabled}
use Rattle.lb_machine.specs.Logs.{HasWorker, HaveWorkers, IsFirstRefused, IsLegal, IsLegalFrom, may_fire, most_entries, replay, replayed_from}
use Rattle.lb_machine.specs.Refusals.{FixedContent, Fires, Refuses}
use Rattle.lb_machine.specs.declared.fault.NotFired.{NotFired}
use Rattle.lb_machine.specs.declared.fault.NotFired.TheVariants.{Halted, Full, GuardFalse}
use Rattle.lb_machine.specs.Machines.{IsJob, IsReplay, MachineContent, replayed, state_in}
use Rattle.lb_machine.specs.InternalSteps.{IsKept, SystemContent, content_of, fixed_of, system_state}
use Rattle.lb_machine.proofs.LogLemmas.{events_are_few, holds, legal_snoc, logs_stand, replayed_snoc}
use Rattle.lb_machine.proofs.RowLemmas.{after-view_of, is_enabled-view_of}

-- the guard of the state is that of the replay
pub enabled_after_log : (m : MachineContent) (k : Kind) → IsReplay m → is_enabled by_phase (state_in m) k ≡ may_fire m.fixed.job m.log k
enabled_after_log m k r = ap (λ (s : MachineView). is_enabled by_phase s k) r.state ∙ is_enabled-view_of (replayed m) k

-- the core stands for the trace
pub machine_stands : (m : MachineContent) → IsReplay m → Stands (state_of m.core) m.trace
machine_stands m r = subst (λ (s : MachineView). Stands s.core s.trace) (sym r.state) (logs_stand m.fixed.job m.log r.legal)

-- its accesses are few
pub machine_events : (m : MachineContent) → IsReplay m → 4 * length m.trace ≤ length m.log
machine_events m r =
    let few = events_are_few m.fixed.job m.log r.legal in
    let same = ap (λ (s : MachineView). length s.trace) r.state in omega (arith, few, same)

-- fewer instructions are retired than would overflow
pub machine_retired : (m : MachineContent) → IsReplay m → m.core.retired ≤ length m.log
machine_retired m r =
    let few = (holds m.fixed.job m.log r.legal).retired in
    let same = ap (λ (s : MachineView). s.core.retired) r.state in omega (arith, few, same)

-- one entry more, that could be fired
module _ (job : Job) (log : List Entry) (e : Entry) (legal : IsLegal job log) (on : may_fire job log e.kind ≡ true) where
  pub legal_after : IsLegal job (log ++ e ∷ [])
  legal_after = legal_snoc (booted_machine job) log e legal on

  -- the state after the row is the longer log's
  pub state_after : (s t : MachineView) → s ≡ view_of (replay job log) → t ≡ after by_phase s e.kind → t ≡ view_of (replay job (log ++ e ∷ []))
  state_after s t is row =
      row
      ∙ ap (λ (x : MachineView). after by_phase x e.kind) is
      ∙ after-view_of (replay job log) e.kind
      ∙ ap view_of (sym (replayed_snoc (booted_machine job) log e))

  -- so code and frames are the job's
  pub code_after : (t : MachineView) → t ≡ view_of (replay job (log ++ e ∷ [])) → t.core.code ≡ job.code
  code_after t is = ap (λ (x : MachineView). x.core.code) is ∙ (holds job (log ++ e ∷ []) legal_after).code

  pub frames_after : (t : MachineView) → t ≡ view_of (replay job (log ++ e ∷ [])) → t.board.frames ≡ job.frames
  frames_after t is = ap (λ (x : MachineView). x.board.frames) is ∙ (holds job (log ++ e ∷ []) legal_after).frames

length_after : (log : List Entry) (e : Entry) → length (log ++ e ∷ []) ≡ length log + 1
length_after [] e = refl
length_after (x ∷ log) e = let h = length_after log e in omega (arith, h)

-- a machine whose job is this one
replay_of : (job : Job) (m : MachineContent) → m.fixed.job ≡ job → IsJob job → IsLegal job m.log → length m.log ≤ m.fixed.max_events
    → m.fixed.max_events ≤ most_entries → HaveWorkers m.log → state_in m ≡ view_of (replay job m.log) → IsReplay m
replay_of job m same is legal fits most workers state = record {
  job = subst IsJob (sym same) is;
  legal = subst (λ (j : Job). IsLegal j m.log) (sym same) legal;
  fits = fits;
  most = most;
  workers = workers;
  state = state ∙ ap (λ (j : Job). view_of (replay j m.log)) (sym same);
}

module _ (s : SystemContent) (entry max_events room : ℕ) (log : List Entry) (e : Entry)
    (kept : IsKept s entry max_events log room)
    (fires : Fires (fixed_of s.core.code entry s.board.frames max_events) log e.kind) where
  -- there is room for an access, and for an instruction
  pub room_left : length s.trace < s.room
  room_left =
      let few = machine_events (content_of s entry max_events log) kept.replay in
      let below = fires.0 in
      let trace_room = kept.trace_room in omega (arith, few, below, trace_room)

  pub retired_left : s.core.retired < 2 ^ 64 - 2
  retired_left =
      let few = machine_retired (content_of s entry max_events log) kept.replay in
      let below = fires.0 in
      let most = kept.replay.most in omega (arith, few, below, most)

  pub enabled_there : is_enabled by_phase (system_state s) e.kind ≡ true
  enabled_there = enabled_after_log (content_of s entry max_events log) e.kind kept.replay ∙ fires.1

module _ (s t : SystemContent) (entry max_events room : ℕ) (log : List Entry) (e : Entry)
    (kept : IsKept s entry max_events log room)
    (fires : Fires (fixed_of s.core.code entry s.board.frames max_events) log e.kind)
    (row : system_state t ≡ after by_phase (system_state s) e.kind) where
  pub state_added : system_state t ≡ view_of (replay (content_of s entry max_events log).fixed.job (log ++ e ∷ []))
  state_added =
      state_after (content_of s entry max_events log).fixed.job log e kept.replay.legal fires.1 (system_state s) (system_state t) kept.replay.state row

  -- nothing of the job changes
  pub same_fixed : fixed_of t.core.code entry t.board.frames max_events ≡ fixed_of s.core.code entry s.board.frames max_events
  same_fixed =
      let job = (content_of s entry max_events log).fixed.job in
      ap (λ (code : List ℕ). fixed_of code entry t.board.frames max_events)
      (code_after job log e kept.replay.legal fires.1 (system_state t) state_added)
      ∙ ap (λ (frames : List FrameContent). fixed_of s.core.code entry frames max_events)
      (frames_after job log e kept.replay.legal fires.1 (system_state t) state_added)

  pub kept_added : HasWorker e → t.room ≡ s.room → IsKept t entry max_events (log ++ e ∷ []) room
  kept_added worker same_room =
      let r = kept.replay in
      let job = (content_of s entry max_events log).fixed.job in
      let l = length_after log e in
      let below = fires.0 in
      let trace_room = kept.trace_room in
      record {
        replay =
            replay_of job (content_of t entry max_events (log ++ e ∷ [])) (ap (λ (f : FixedContent). f.job) same_fixed) r.job
            (legal_after job log e r.legal fires.1) (omega (arith, l, below)) r.most
            (All-append HasWorker log (e ∷ []) r.workers (All-cons HasWorker e [] worker (All-nil HasWorker))) state_added;
        log_room = kept.log_room;
        trace_room = omega (arith, trace_room, same_room);
      }

-- ---- refusals

-- the core isn't halted and the log isn't full, so the guard refuses
pub guard_refuses : (m : MachineContent) (k : Kind) → IsReplay m → m.core.halted ≡ None → length m.log ≢ m.fixed.max_events
    → may_fire m.fixed.job m.log k ≡ false → Refuses m.fixed m.log k GuardFalse
guard_refuses m k r running not_full off =
    let fits = r.fits in (
      sym (ap (λ (s : MachineView). s.core.halted) r.state) ∙ running,
      omega (arith, fits, not_full),
      off,
    )

-- a halted core fires nothing
halted_not_enabled : (s : MachineState) (k : Kind) (cause : Cause) → s.core.halted ≡ Some cause → is_enabled by_bytes s k ≡ false
halted_not_enabled s Fetch cause e = ap (λ (h : Option Cause). is_none h && guard s.core Fetch) e
halted_not_enabled s Decode cause e = ap (λ (h : Option Cause). is_none h && guard s.core Decode) e
halted_not_enabled s Execute cause e = ap (λ (h : Option Cause). is_none h && guard s.core Execute) e
halted_not_enabled s Ram cause e = ap (λ (h : Option Cause). is_none h && guard s.core Ram) e
halted_not_enabled s Mmio cause e = ap (λ (h : Option Cause). is_none h && guard s.core Mmio) e
halted_not_enabled s Writeback cause e = ap (λ (h : Option Cause). is_none h && guard s.core Writeback) e
halted_not_enabled s Boot cause e = ap (λ (h : Option Cause). is_none h && is_enabled_on_board by_bytes Boot s.board) e
halted_not_enabled s Shift cause e = ap (λ (h : Option Cause). is_none h && is_enabled_on_board by_bytes Shift s.board) e
halted_not_enabled s Arrive cause e = ap (λ (h : Option Cause). is_none h && is_enabled_on_board by_bytes Arrive s.board) e

-- what is refused while there is room may not be fired
refused_by : (fixed : FixedContent) (log : List Entry) (k : Kind) (why : NotFired) → length log < fixed.max_events
    → Refuses fixed log k why → may_fire fixed.job log k ≡ false
refused_by fixed log k (Halted cause) room why = halted_not_enabled (replay fixed.job log) k cause why
refused_by fixed log k Full room why = let full = why.1 in absurd (omega (arith, room, full))
refused_by fixed log k GuardFalse room why = why.2

-- the first entries of a list are made, and the next one is refused
pub first_refused : (m : MachineContent) (fixed : FixedContent) (entries : List Entry) (i : ℕ) (e : Entry) (why : NotFired) → IsReplay m
    → m.fixed ≡ fixed → m.log ≡ take i entries → slice_get entries i ≡ Some e → length entries ≤ fixed.max_events
    → Refuses m.fixed m.log e.kind why → IsFirstRefused fixed.job entries (length m.log)
first_refused m fixed entries i e why r same made next room refuses =
    let within = slice_get_within entries i e next in
    let count = ap length made ∙ length-take-le i entries (omega (arith, within)) in
    let most = ap (λ (f : FixedContent). f.max_events) same in
    let cut : take (length m.log) entries ≡ m.log = ap (λ (n : ℕ). take n entries) count ∙ sym made in
    record {
      entry = e;
      stands = ap (λ (n : ℕ). slice_get entries n) count ∙ next;
      legal = subst (λ (l : List Entry). IsLegal fixed.job l) (sym cut) (subst (λ (f : FixedContent). IsLegal f.job m.log) same r.legal);
      refused =
          ap (λ (l : List Entry). may_fire fixed.job l e.kind) cut
          ∙ ap (λ (f : FixedContent). may_fire f.job m.log e.kind) (sym same)
          ∙ refused_by m.fixed m.log e.kind why (omega (arith, count, within, room, most)) refuses;
    }

-- no entry of a legal log is refused
legal_fires : (s : MachineState) (es : List Entry) (n : ℕ) (e : Entry) → IsLegalFrom s es → slice_get es n ≡ Some e
    → is_enabled by_bytes (replayed_from s (take n es)) e.kind ≡ true
legal_fires s [] n e l at = absurd (cc at)
legal_fires s (x ∷ es) zero e l at = let same : x ≡ e = cc in subst (λ (y : Entry). is_enabled by_bytes s y.kind ≡ true) same l.0
legal_fires s (x ∷ es) (suc n) e l at = legal_fires (after by_bytes s x.kind) es n e l.1 at

true_or_false : (b : Bool) → b ≡ true → b ≡ false → ⊥
true_or_false true t f = cc
true_or_false false t f = cc

pub never_refused : (job : Job) (log : List Entry) (n : ℕ) → IsLegal job log → IsFirstRefused job log n → ⊥
never_refused job log n l r =
    true_or_false (may_fire job (take n log) r.entry.kind) (legal_fires (booted_machine job) log n r.entry l r.stands) r.refused

-- two machines with one log and what never changes the same are in one state
pub same_state : (m w : MachineContent) → IsReplay m → IsReplay w → m.fixed ≡ w.fixed → m.log ≡ w.log → state_in m ≡ state_in w
same_state m w r q fixed log =
    r.state
    ∙ ap (λ (f : FixedContent). view_of (replay f.job m.log)) fixed
    ∙ ap (λ (l : List Entry). view_of (replay w.fixed.job l)) log
    ∙ sym q.state
