-- What the machine's devices reply are words, after every legal log.
use Rattle.std.proofs.Common.{◌≡◌, ℕ, ◌^◌, ◌<◌, ◌==◌, nat_lt, true, false, List, [], ◌∷◌, ◌++◌, length, Option, Some, None, refl, sym, ap, ◌∙◌, subst, arith, append-nil, drop, slice_index}
use Rattle.std.specs.List.{AllByRecursion}
use Rattle.lb_trace.specs.declared.Entry.{Entry}
use Rattle.lb_trace.specs.declared.Event.{Event}
use Rattle.lb_trace.specs.declared.Event.TheVariants.{Ld, St}
use Rattle.lb_trace.specs.declared.Kind.{Kind}
use Rattle.lb_trace.specs.declared.Kind.TheVariants.{Fetch, Decode, Execute, Ram, Mmio, Writeback, Boot, Shift, Arrive}
use Rattle.lb_trace.specs.Trace.{reply_values}
use Rattle.lb_trace.proofs.ReplyLemmas.{reply_values-Ld, reply_values-St}
use Rattle.lb_syntax.specs.WellFormed.{IsWord}
use Rattle.lb_source.specs.Correct.{AreWords}
use Rattle.lb_rv.specs.declared.instr.Cause.{Cause}
use Rattle.lb_outcome.specs.declared.types.Outcome.{Outcome}
use Rattle.lb_outcome.specs.declared.types.Outcome.TheVariants.{Plain, Load, Store, Halt}
use Rattle.lb_isa.specs.State.{RunState}
use Rattle.lb_isa.specs.Moves.{upcoming}
use Rattle.lb_core.specs.declared.demand.Demand.{Demand}
use Rattle.lb_core.specs.declared.demand.Demand.TheVariants.{Read, Write}
use Rattle.lb_core.specs.State.{CoreState}
use Rattle.lb_core.specs.Laws.{BootedStands, RowsStand}
use Rattle.lb_core.specs.Rows.{answered, demanded, device_demand, event_of, unless_halted}
use Rattle.lb_core.specs.Rows.{is_enabled as is_enabled_in_core}
use Rattle.lb_core.specs.Stands.{Ahead, Behind, Stands, run_of, with_event}
use Rattle.lb_core.proofs.Rows.{program_kept}
use Rattle.lb_lan.specs.Queue.{front_or}
use Rattle.lb_lan.specs.Transaction.{Instruction, Reads, Writes, Ignored, answer_in, answer_of, answer_to, instruction, kept_after, next_access}
use Rattle.lb_board.specs.declared.registers.Register.{Register}
use Rattle.lb_board.specs.declared.registers.Register.TheVariants.{OutputEn, OutputVal, IofEn, CsMode, TxData, RxData, Unused}
use Rattle.lb_board.specs.Registers.{fifo_size, read_in, register_at, value_in}
use Rattle.lb_board.specs.Rows.{acted, by_bytes, shifted_in, written_in}
use Rattle.lb_board.specs.Steps.{BoardState}
use Rattle.lb_machine.specs.State.{Job, MachineState, booted_machine}
use Rattle.lb_machine.specs.Rows.{accessed, after, core_fired, is_enabled, reply_to}
use Rattle.lb_machine.specs.Logs.{IsLegal, IsLegalFrom, replay, replayed_from}
use Rattle.lb_correctness.proofs.WordLemmas.{HasWords, chosen_below, isa_words, upcoming_words}

-- ---- lists of words

words_snoc : (vs : List ℕ) (v : ℕ) → AreWords vs → v < 2 ^ 32 → AreWords (vs ++ v ∷ [])
words_snoc [] v h k = (k, tt)
words_snoc (x ∷ vs) v h k = (h.0, words_snoc vs v h.1 k)

words_behind : (vs : List ℕ) → AreWords vs → AreWords (drop 1 vs)
words_behind [] h = tt
words_behind (v ∷ vs) h = h.1

front_word : (vs : List ℕ) → AreWords vs → front_or (2 ^ 31) vs < 2 ^ 32
front_word [] h = omega arith
front_word (v ∷ vs) h = h.0

-- ---- the board

-- what the registers hold are words, and the bytes that wait to be read are
pub record AreHeld (enabled value given mode : ℕ) (bytes : List ℕ) : Type 0 where
  pub output_en : enabled < 2 ^ 32
  pub output_val : value < 2 ^ 32
  pub iof_en : given < 2 ^ 32
  pub csmode : mode < 2 ^ 32
  pub received : AreWords bytes

abbrev pub OnBoard : BoardState → Type 0
OnBoard b = AreHeld b.output_en b.output_val b.iof_en b.csmode b.receive_fifo

value_below : (r : Register) (b : BoardState) → OnBoard b → value_in r b < 2 ^ 32
value_below OutputEn b h = h.output_en
value_below OutputVal b h = h.output_val
value_below IofEn b h = h.iof_en
value_below CsMode b h = h.csmode
value_below TxData b h = chosen_below (2 ^ 32) (nat_lt (length b.send_fifo) fifo_size) 0 (2 ^ 31) (omega arith) (omega arith)
value_below RxData b h = front_word b.receive_fifo h.received
value_below Unused b h = omega arith

reply_below : (d : Option Demand) (b : BoardState) → OnBoard b → reply_to d b < 2 ^ 32
reply_below (Some (Read a)) b h = value_below (register_at a) b h
reply_below (Some (Write a v)) b h = omega arith
reply_below None b h = omega arith

read_words : (r : Register) (b : BoardState) → OnBoard b → OnBoard (read_in r b)
read_words OutputEn b h = h
read_words OutputVal b h = h
read_words IofEn b h = h
read_words CsMode b h = h
read_words TxData b h = h
read_words RxData b h =
    record { output_en = h.output_en; output_val = h.output_val; iof_en = h.iof_en; csmode = h.csmode; received = words_behind b.receive_fifo h.received }
read_words Unused b h = h

written_words : (r : Register) (v : ℕ) (b : BoardState) → v < 2 ^ 32 → OnBoard b → OnBoard (written_in by_bytes r v b)
written_words OutputEn v b k h = record { output_en = k; output_val = h.output_val; iof_en = h.iof_en; csmode = h.csmode; received = h.received }
written_words OutputVal v b k h = record { output_en = h.output_en; output_val = k; iof_en = h.iof_en; csmode = h.csmode; received = h.received }
written_words IofEn v b k h = record { output_en = h.output_en; output_val = h.output_val; iof_en = k; csmode = h.csmode; received = h.received }
written_words CsMode v b k h = record { output_en = h.output_en; output_val = h.output_val; iof_en = h.iof_en; csmode = omega arith; received = h.received }
written_words TxData v b k h = h
written_words RxData v b k h = h
written_words Unused v b k h = h

accessed_words : (d : Option Demand) (b : BoardState) → ((a v : ℕ) → d ≡ Some (Write a v) → v < 2 ^ 32) → OnBoard b → OnBoard (accessed by_bytes d b)
accessed_words (Some (Read a)) b f h = read_words (register_at a) b h
accessed_words (Some (Write a v)) b f h = written_words (register_at a) v b (f a v refl) h
accessed_words None b f h = h

-- the chip's answers are bytes
answer_words : (i : Instruction) (bytes : List ℕ) (kept : ℕ) → answer_in i bytes kept < 2 ^ 32
answer_words Reads [] kept = omega arith
answer_words Reads (a ∷ []) kept = omega arith
answer_words Reads (a ∷ b ∷ []) kept = omega arith
answer_words Reads (a ∷ b ∷ c ∷ []) kept = omega arith
answer_words Reads (a ∷ b ∷ c ∷ d ∷ []) kept = omega arith
answer_words Reads (a ∷ b ∷ c ∷ d ∷ e ∷ []) kept = omega arith
answer_words Reads (a ∷ b ∷ c ∷ d ∷ e ∷ f ∷ []) kept = omega arith
answer_words Reads (a ∷ b ∷ c ∷ d ∷ e ∷ f ∷ g ∷ []) kept = omega arith
answer_words Reads (a ∷ b ∷ c ∷ d ∷ e ∷ f ∷ g ∷ h ∷ bytes) kept = omega arith
answer_words Writes bytes kept = omega arith
answer_words Ignored bytes kept = omega arith

answer_word : (bytes : List ℕ) (kept : ℕ) → answer_of bytes kept < 2 ^ 32
answer_word [] kept = omega arith
answer_word (b ∷ bytes) kept = answer_words (instruction b) bytes kept

shift_words : (b : BoardState) → OnBoard b → OnBoard (acted by_bytes Shift b)
shift_words b h =
    let sent = slice_index b.send_fifo 0 in
    let answer = answer_word (b.lan.bytes ++ sent ∷ []) (kept_after (next_access sent b.lan) b.lan.chip b.lan.kept) in
    record {
      output_en = h.output_en;
      output_val = h.output_val;
      iof_en = h.iof_en;
      csmode = h.csmode;
      received = words_snoc b.receive_fifo (shifted_in by_bytes b) h.received (chosen_below (2 ^ 32) (b.csmode == 2) (answer_to sent b.lan) 0xFF answer (omega arith));
    }

-- ---- what the core stores in a device

abbrev value_of : Option Demand → ℕ
value_of (Some (Read a)) = 0
value_of (Some (Write a v)) = v
value_of None = 0

front_demand : (code : List ℕ) (os : List Outcome) (s : RunState) (Rest : RunState → Type 0) (a v : ℕ) → Ahead code os s Rest
    → HasWords (upcoming code s.processor).outcome → device_demand os ≡ Some (Write a v) → v < 2 ^ 32
front_demand code [] s Rest a v h w e = absurd (cc e)
front_demand code (Plain rd x ∷ os) s Rest a v h w e = absurd (cc e)
front_demand code (Load i b true None ∷ os) s Rest a v h w e = absurd (cc e)
front_demand code (Load i b true (Some x) ∷ os) s Rest a v h w e = absurd (cc e)
front_demand code (Load i b false served ∷ os) s Rest a v h w e = absurd (cc e)
front_demand code (Store i b x true false ∷ os) s Rest a v h w e =
    let stored : x < 2 ^ 32 = subst HasWords (sym h.0) w in
    subst (λ (n : ℕ). n < 2 ^ 32) (ap value_of e) stored
front_demand code (Store i b x true true ∷ os) s Rest a v h w e = absurd (cc e)
front_demand code (Store i b x false served ∷ os) s Rest a v h w e = absurd (cc e)
front_demand code (Halt cause ∷ os) s Rest a v h w e = absurd (cc e)

demand_in : (h : Option Cause) (d : Option Demand) (x : Demand) → unless_halted h d ≡ Some x → d ≡ Some x
demand_in None d x e = e
demand_in (Some cause) d x e = absurd (cc e)

demanded_word : (c : CoreState) (t : List Event) → Stands c t → AllByRecursion IsWord c.code → AreWords (reply_values t) → (a v : ℕ)
    → demanded c ≡ Some (Write a v) → v < 2 ^ 32
demanded_word c t stands code words a v e =
    let replies = reply_values t ++ [] in
    let same : replies ≡ reply_values t = append-nil (reply_values t) in
    let run = run_of c replies c.retired in
    let held = isa_words c.code c.entry replies c.retired code (subst AreWords (sym same) words) in
    front_demand c.code c.outcomes run (Behind c) a v (stands.ahead []) (upcoming_words c.code run.processor code held.holds)
    (demand_in c.halted (device_demand c.outcomes) (Write a v) e)

-- ---- the trace

abbrev IsReplyWord : Option Event → Type 0
IsReplyWord None = Unit {0}
IsReplyWord (Some (Ld a v)) = v < 2 ^ 32
IsReplyWord (Some (St a v)) = Unit {0}

demand_word : (d : Option Demand) (reply : ℕ) → reply < 2 ^ 32 → IsReplyWord (event_of d reply)
demand_word None reply h = tt
demand_word (Some (Read a)) reply h = h
demand_word (Some (Write a v)) reply h = tt

answered_word : (c : CoreState) (k : Kind) (reply : ℕ) → reply < 2 ^ 32 → IsReplyWord (answered c k reply)
answered_word c Fetch reply h = tt
answered_word c Decode reply h = tt
answered_word c Execute reply h = tt
answered_word c Ram reply h = tt
answered_word c Mmio reply h = demand_word (device_demand c.outcomes) reply h
answered_word c Writeback reply h = tt
answered_word c Boot reply h = tt
answered_word c Shift reply h = tt
answered_word c Arrive reply h = tt

event_words : (t : List Event) (o : Option Event) → IsReplyWord o → AreWords (reply_values t) → AreWords (reply_values (with_event t o))
event_words t None h ws = ws
event_words t (Some (Ld a v)) h ws = subst AreWords (sym (reply_values-Ld t a v)) (words_snoc (reply_values t) v ws h)
event_words t (Some (St a v)) h ws = subst AreWords (sym (reply_values-St t a v)) ws

-- ---- logs

-- what holds of the machine after each legal log
pub record RunsJob (job : Job) (s : MachineState) : Type 0 where
  pub stands : Stands s.core s.trace
  pub code : s.core.code ≡ job.code
  pub entry : s.core.entry ≡ job.entry
  pub replied : AreWords (reply_values s.trace)
  pub board : OnBoard s.board

module _ (booted_stands : BootedStands) (rows_stand : RowsStand) where
  booted_runs : (job : Job) → RunsJob job (booted_machine job)
  booted_runs job = record {
    stands = booted_stands job.code job.entry;
    code = refl;
    entry = refl;
    replied = tt;
    board = record { output_en = omega arith; output_val = omega arith; iof_en = omega arith; csmode = omega arith; received = tt };
  }

  -- a row of the core, while the board becomes another
  core_runs : (job : Job) (s : MachineState) (k : Kind) (reply : ℕ) (b : BoardState) → is_enabled_in_core s.core k ≡ true → reply < 2 ^ 32 → OnBoard b
      → RunsJob job s → RunsJob job (record (core_fired k reply s) { board = b })
  core_runs job s k reply b on word held h = record {
    stands = rows_stand s.core k reply on s.trace h.stands;
    code = (program_kept s.core k reply).code ∙ h.code;
    entry = (program_kept s.core k reply).entry ∙ h.entry;
    replied = event_words s.trace (answered s.core k reply) (answered_word s.core k reply word) h.replied;
    board = held;
  }

  -- an action of the board
  board_runs : (job : Job) (s : MachineState) (b : BoardState) → OnBoard b → RunsJob job s → RunsJob job (record s { board = b })
  board_runs job s b held h = record { stands = h.stands; code = h.code; entry = h.entry; replied = h.replied; board = held }

  step_runs : (job : Job) (s : MachineState) (k : Kind) → AllByRecursion IsWord job.code → is_enabled by_bytes s k ≡ true → RunsJob job s
      → RunsJob job (after by_bytes s k)
  step_runs job s Fetch words on h = core_runs job s Fetch 0 s.board on (omega arith) h.board h
  step_runs job s Decode words on h = core_runs job s Decode 0 s.board on (omega arith) h.board h
  step_runs job s Execute words on h = core_runs job s Execute 0 s.board on (omega arith) h.board h
  step_runs job s Ram words on h = core_runs job s Ram 0 s.board on (omega arith) h.board h
  step_runs job s Mmio words on h =
      let code : AllByRecursion IsWord s.core.code = subst (AllByRecursion IsWord) (sym h.code) words in
      core_runs job s Mmio (reply_to (demanded s.core) s.board) (accessed by_bytes (demanded s.core) s.board) on
      (reply_below (demanded s.core) s.board h.board)
      (accessed_words (demanded s.core) s.board (demanded_word s.core s.trace h.stands code h.replied) h.board) h
  step_runs job s Writeback words on h = core_runs job s Writeback 0 s.board on (omega arith) h.board h
  step_runs job s Boot words on h = board_runs job s (acted by_bytes Boot s.board) h.board h
  step_runs job s Shift words on h = board_runs job s (acted by_bytes Shift s.board) (shift_words s.board h.board) h
  step_runs job s Arrive words on h = board_runs job s (acted by_bytes Arrive s.board) h.board h

  log_runs : (job : Job) (es : List Entry) (s : MachineState) → AllByRecursion IsWord job.code → IsLegalFrom s es → RunsJob job s → RunsJob job (replayed_from s es)
  log_runs job [] s words l h = h
  log_runs job (e ∷ es) s words l h = log_runs job es (after by_bytes s e.kind) words l.1 (step_runs job s e.kind words l.0 h)

  pub runs_job : (job : Job) (log : List Entry) → AllByRecursion IsWord job.code → IsLegal job log → RunsJob job (replay job log)
  runs_job job log words l = log_runs job log (booted_machine job) words l (booted_runs job)
