-- Accesses and writeback keep what the core stands for.
use Rattle.std.proofs.Common.{◌≡◌, ℕ, ◌+◌, Bool, true, false, List, [], ◌∷◌, ◌++◌, slice_get, Some, None, IfSome, sym, ap, ◌∙◌, subst, append-nil}
use Rattle.std.proofs.lemmas.List.{append_assoc}
use Rattle.lb_trace.specs.declared.Event.{Event}
use Rattle.lb_trace.specs.declared.Event.TheVariants.{Ld, St}
use Rattle.lb_trace.specs.Trace.{reply_values}
use Rattle.lb_trace.proofs.ReplyLemmas.{reply_values-Ld, reply_values-St}
use Rattle.lb_rv.specs.declared.instr.Instr.{Instr}
use Rattle.lb_rv.specs.Effects.{destination}
use Rattle.lb_outcome.specs.declared.types.Outcome.{Outcome}
use Rattle.lb_outcome.specs.declared.types.Outcome.TheVariants.{Plain, Load, Store, Halt}
use Rattle.lb_outcome.specs.Ram.{loaded, stored}
use Rattle.lb_outcome.specs.Registers.{with_register}
use Rattle.lb_isa.specs.State.{ProcessorState, RunState, with_more}
use Rattle.lb_isa.specs.Moves.{after, answer, commit, goes_on, move, moved, upcoming}
use Rattle.lb_isa.specs.Runs.{IsHaltedBy}
use Rattle.lb_isa.proofs.MoveLemmas.{move_committed, move_more}
use Rattle.lb_core.specs.State.{CoreState}
use Rattle.lb_core.specs.Rows.{after_device, after_end, after_ram, count_done, device_demand, event_of}
use Rattle.lb_core.specs.Stands.{IsServedRight, Ahead, Behind, run_of, Stands, with_event}
use Rattle.lb_core.proofs.Tools.{some_is}
use Rattle.lb_core.proofs.RunLemmas.{isa_last, isa_next, isa_none_left, processor_or}
use Rattle.lb_core.proofs.ScoreboardLemmas.{unserved_front, unserved_marks}
use Rattle.lb_core.proofs.FrontRows.{retired_commits, retired_more}

-- the outcomes are ahead of the run that has no more replies
ahead_now : (c : CoreState) (t : List Event) → Stands c t → Ahead c.code c.outcomes (run_of c (reply_values t) c.retired) (Behind c)
ahead_now c t s = subst (λ (rs : List ℕ). Ahead c.code c.outcomes (run_of c rs c.retired) (Behind c)) (append-nil (reply_values t)) (s.ahead [])

-- the run's next instruction commits as its outcome says
commits_as : (code : List ℕ) (o : Outcome) (s : RunState) → o ≡ (upcoming code s.processor).outcome
    → move code s ≡ commit o (upcoming code s.processor).next s
commits_as code o s h = ap (λ q. commit q (upcoming code s.processor).next s) (sym h)

-- a run after one more instruction that leads to this processor with this trace
abbrev one_more : ProcessorState → List Event → RunState → RunState
one_more p trace s = record { processor = p; replies = s.replies; trace = trace; committed = s.committed + 1 }

-- ---- accesses of RAM

pub ram_stands : (c : CoreState) (l : List Outcome) (t : List Event) → Stands (record c { outcomes = l }) t → Stands (after_ram l (record c { outcomes = l })) t
ram_stands c (Load i a false None ∷ os) t s =
    let at = run_of c (reply_values t) c.retired in
    let old : CoreState = record c { outcomes = Load i a false None ∷ os } in
    let p = goes_on (upcoming c.code at.processor).next (with_register (destination i) (loaded i a at.processor.ram) at.processor.registers) at.processor.ram in
    let n : run_of c (reply_values t) (c.retired + 1) ≡ one_more p at.trace at =
    isa_next c.code c.entry (reply_values t) c.retired (one_more p at.trace at) (commits_as c.code (Load i a false None) at (ahead_now old t s).0) in
    record {
      commits = ap (λ (u : RunState). u.committed) n ∙ ap (λ k. k + 1) s.commits;
      trace = ap (λ (u : RunState). u.trace) n ∙ s.trace;
      ram = ap (λ (u : RunState). u.processor.ram) n ∙ s.ram;
      registers = s.registers;
      halted = s.halted;
      in_order = record { words = s.in_order.words; instructions = s.in_order.instructions; ordered = s.in_order.ordered; marks = s.in_order.marks; clear = s.in_order.clear; apart = s.in_order.apart };
      ahead = λ more. (
        (s.ahead more).0,
        ap (loaded i a) (sym (ap (λ (u : RunState). u.processor.ram) (retired_more old t more s) ∙ s.ram)),
        (s.ahead more).2,
      );
    }
ram_stands c (Store i a v false false ∷ os) t s =
    let at = run_of c (reply_values t) c.retired in
    let old : CoreState = record c { outcomes = Store i a v false false ∷ os } in
    let p = goes_on (upcoming c.code at.processor).next at.processor.registers (stored i a v at.processor.ram) in
    let n : run_of c (reply_values t) (c.retired + 1) ≡ one_more p at.trace at =
    isa_next c.code c.entry (reply_values t) c.retired (one_more p at.trace at) (commits_as c.code (Store i a v false false) at (ahead_now old t s).0) in
    record {
      commits = ap (λ (u : RunState). u.committed) n ∙ ap (λ k. k + 1) s.commits;
      trace = ap (λ (u : RunState). u.trace) n ∙ s.trace;
      ram = ap (λ (u : RunState). u.processor.ram) n ∙ ap (stored i a v) s.ram;
      registers = s.registers;
      halted = s.halted;
      in_order = record { words = s.in_order.words; instructions = s.in_order.instructions; ordered = s.in_order.ordered; marks = s.in_order.marks; clear = s.in_order.clear; apart = s.in_order.apart };
      ahead = λ more. ((s.ahead more).0, tt, (s.ahead more).2);
    }
ram_stands c l t s = s

-- ---- accesses of devices

module _ (c : CoreState) (i : Instr) (a : ℕ) (os : List Outcome) (reply : ℕ) (t : List Event) (s : Stands (record c { outcomes = Load i a true None ∷ os }) t) where
  none_left : (run_of c (reply_values t) c.retired).replies ≡ []
  none_left = isa_none_left c.code c.entry t c.retired s.trace

  -- the reply is one more that is to be read
  with_reply : run_of c (reply_values (t ++ Ld a reply ∷ [])) c.retired ≡ with_more (reply ∷ []) (run_of c (reply_values t) c.retired)
  with_reply = ap (λ rs. run_of c rs c.retired) (reply_values-Ld t a reply) ∙ retired_more (record c { outcomes = Load i a true None ∷ os }) t (reply ∷ []) s

  abbrev taken : RunState
  taken = record {
    processor = goes_on (upcoming c.code (run_of c (reply_values t) c.retired).processor).next
        (with_register (destination i) reply (run_of c (reply_values t) c.retired).processor.registers) (run_of c (reply_values t) c.retired).processor.ram;
    replies = [];
    trace = (run_of c (reply_values t) c.retired).trace ++ Ld a reply ∷ [];
    committed = (run_of c (reply_values t) c.retired).committed + 1;
  }

  next_run : run_of c (reply_values (t ++ Ld a reply ∷ [])) (c.retired + 1) ≡ taken
  next_run =
      let at = run_of c (reply_values t) c.retired in
      isa_next c.code c.entry (reply_values (t ++ Ld a reply ∷ [])) c.retired taken
      (ap (move c.code) with_reply
      ∙ commits_as c.code (Load i a true None) (with_more (reply ∷ []) at) (ahead_now (record c { outcomes = Load i a true None ∷ os }) t s).0
      ∙ ap (λ rs. commit (Load i a true None) (upcoming c.code at.processor).next
      (record { processor = at.processor; replies = rs ++ reply ∷ []; trace = at.trace; committed = at.committed })) none_left)

  more_replies : (more : List ℕ) → reply_values (t ++ Ld a reply ∷ []) ++ more ≡ reply_values t ++ reply ∷ more
  more_replies more = ap (λ rs. rs ++ more) (reply_values-Ld t a reply) ∙ append_assoc (reply_values t) (reply ∷ []) more

  read_stands : Stands (record c { outcomes = Load i a true (Some reply) ∷ os }) (t ++ Ld a reply ∷ [])
  read_stands = record {
    commits = ap (λ (u : RunState). u.committed) next_run ∙ ap (λ k. k + 1) s.commits;
    trace = ap (λ (u : RunState). u.trace) next_run ∙ ap (λ (l : List Event). l ++ Ld a reply ∷ []) s.trace;
    ram = ap (λ (u : RunState). u.processor.ram) next_run ∙ s.ram;
    registers = ap (λ (u : RunState). u.processor.registers) with_reply ∙ s.registers;
    halted = subst (λ (p : ProcessorState). IfSome c.halted (λ cause. (upcoming c.code p).outcome ≡ Halt cause))
        (sym (ap (λ (u : RunState). u.processor) with_reply)) s.halted;
    in_order = record { words = s.in_order.words; instructions = s.in_order.instructions; ordered = s.in_order.ordered; marks = s.in_order.marks; clear = s.in_order.clear; apart = s.in_order.apart };
    ahead = λ more. (
        let h = subst (λ (rs : List ℕ). Ahead c.code (Load i a true None ∷ os) (run_of c rs c.retired) (Behind c)) (sym (more_replies more)) (s.ahead (reply ∷ more)) in (
          h.0,
          ap (λ (rs : List ℕ). slice_get (run_of c rs c.retired).replies 0) (more_replies more)
              ∙ ap (λ (u : RunState). slice_get u.replies 0) (retired_more (record c { outcomes = Load i a true None ∷ os }) t (reply ∷ more) s)
              ∙ ap (λ (rs : List ℕ). slice_get (rs ++ reply ∷ more) 0) none_left,
          h.2,
        ));
  }

module _ (c : CoreState) (i : Instr) (a v : ℕ) (os : List Outcome) (t : List Event) (s : Stands (record c { outcomes = Store i a v true false ∷ os }) t) where
  same_replies : (n : ℕ) → run_of c (reply_values (t ++ St a v ∷ [])) n ≡ run_of c (reply_values t) n
  same_replies n = ap (λ rs. run_of c rs n) (reply_values-St t a v)

  abbrev written : RunState
  written =
      let at = run_of c (reply_values t) c.retired in
      one_more (goes_on (upcoming c.code at.processor).next at.processor.registers at.processor.ram) (at.trace ++ St a v ∷ []) at

  next_written : run_of c (reply_values (t ++ St a v ∷ [])) (c.retired + 1) ≡ written
  next_written =
      let at = run_of c (reply_values t) c.retired in
      same_replies (c.retired + 1)
      ∙ isa_next c.code c.entry (reply_values t) c.retired written
      (commits_as c.code (Store i a v true false) at (ahead_now (record c { outcomes = Store i a v true false ∷ os }) t s).0)

  write_stands : Stands (record c { outcomes = Store i a v true true ∷ os }) (t ++ St a v ∷ [])
  write_stands = record {
    commits = ap (λ (u : RunState). u.committed) next_written ∙ ap (λ k. k + 1) s.commits;
    trace = ap (λ (u : RunState). u.trace) next_written ∙ ap (λ (l : List Event). l ++ St a v ∷ []) s.trace;
    ram = ap (λ (u : RunState). u.processor.ram) next_written ∙ s.ram;
    registers = ap (λ (u : RunState). u.processor.registers) (same_replies c.retired) ∙ s.registers;
    halted = subst (λ (p : ProcessorState). IfSome c.halted (λ cause. (upcoming c.code p).outcome ≡ Halt cause))
        (sym (ap (λ (u : RunState). u.processor) (same_replies c.retired))) s.halted;
    in_order = record { words = s.in_order.words; instructions = s.in_order.instructions; ordered = s.in_order.ordered; marks = s.in_order.marks; clear = s.in_order.clear; apart = s.in_order.apart };
    ahead = λ more. (
        let h = subst (λ (rs : List ℕ). Ahead c.code (Store i a v true false ∷ os) (run_of c (rs ++ more) c.retired) (Behind c)) (sym (reply_values-St t a v)) (s.ahead more) in
        (h.0, tt, h.2));
  }

pub device_stands : (c : CoreState) (l : List Outcome) (reply : ℕ) (t : List Event) → Stands (record c { outcomes = l }) t
    → Stands (after_device l reply (record c { outcomes = l })) (with_event t (event_of (device_demand l) reply))
device_stands c (Load i a true None ∷ os) reply t s = read_stands c i a os reply t s
device_stands c (Store i a v true false ∷ os) reply t s = write_stands c i a v os t s
device_stands c [] reply t s = s
device_stands c (Plain rd v ∷ os) reply t s = s
device_stands c (Load i a false served ∷ os) reply t s = s
device_stands c (Load i a true (Some v) ∷ os) reply t s = s
device_stands c (Store i a v false served ∷ os) reply t s = s
device_stands c (Store i a v true true ∷ os) reply t s = s
device_stands c (Halt cause ∷ os) reply t s = s

-- ---- writeback

-- the oldest outcome ends where the run's next instruction leads
ended : (c : CoreState) (o : Outcome) (os : List Outcome) (registers : ℕ → ℕ) (t : List Event) (s : Stands (record c { outcomes = o ∷ os }) t) (v : RunState)
    → c.halted ≡ None → move c.code (run_of c (reply_values t) c.retired) ≡ Some v → v.processor.registers ≡ registers → v.trace ≡ t
    → v.processor.ram ≡ c.ram → Stands (record c { outcomes = os; registers = registers; retired = c.retired + 1 }) t
ended c o os registers t s v none m regs trace ram =
    let old : CoreState = record c { outcomes = o ∷ os } in
    let at = run_of c (reply_values t) c.retired in
    let n = isa_next c.code c.entry (reply_values t) c.retired v m in
    let d : count_done _ (c.retired + 1) ≡ c.retired + 1 = ap (λ b. count_done b (c.retired + 1)) (unserved_front os s.in_order.marks) in
    record {
      commits = ap (λ k. (run_of c (reply_values t) k).committed) d ∙ ap (λ (u : RunState). u.committed) n ∙ move_committed c.code at v m
          ∙ ap (λ k. k + 1) (retired_commits old t s) ∙ sym d;
      trace = ap (λ k. (run_of c (reply_values t) k).trace) d ∙ ap (λ (u : RunState). u.trace) n ∙ trace;
      ram = ap (λ k. (run_of c (reply_values t) k).processor.ram) d ∙ ap (λ (u : RunState). u.processor.ram) n ∙ ram;
      registers = ap (λ (u : RunState). u.processor.registers) n ∙ regs;
      halted = subst (λ h. IfSome h (λ cause. IsHaltedBy cause c.code (run_of c (reply_values t) (c.retired + 1)))) (sym none) tt;
      in_order = record { words = s.in_order.words; instructions = s.in_order.instructions; ordered = s.in_order.ordered; marks = unserved_marks os s.in_order.marks; clear = s.in_order.clear.1; apart = s.in_order.apart };
      ahead = λ more. (
          let here = run_of c (reply_values t ++ more) c.retired in
          let mm : move c.code here ≡ Some (with_more more v) = ap (move c.code) (retired_more old t more s) ∙ move_more more c.code at v m in
          subst (λ (q : RunState). Ahead c.code os q (Behind c)) (sym (isa_next c.code c.entry (reply_values t ++ more) c.retired (with_more more v) mm))
          (some_is (move c.code here) (λ q. Ahead c.code os q (Behind c)) (with_more more v) mm (s.ahead more).2));
    }

load_registers : (mmio : Bool) (i : Instr) (a next v : ℕ) (s t : RunState) → IsServedRight (Load i a mmio (Some v)) s
    → commit (Load i a mmio None) next s ≡ Some t → t.processor.registers ≡ with_register (destination i) v s.processor.registers
load_registers false i a next v s t h m =
    sym (ap (λ o. (processor_or s.processor o).registers) m) ∙ ap (λ x. with_register (destination i) x s.processor.registers) (sym h)
load_registers true i a next v s t h m =
    let r : commit (Load i a true None) next s ≡ moved (answer (Load i a true None) (Some v)) (after (Load i a true None) next (Some v) s.processor) s =
    ap (λ r. moved (answer (Load i a true None) r) (after (Load i a true None) next r s.processor) s) h in
    sym (ap (λ o. (processor_or s.processor o).registers) (sym r ∙ m))

store_registers : (mmio : Bool) (i : Instr) (a next v : ℕ) (s t : RunState) → commit (Store i a v mmio false) next s ≡ Some t
    → t.processor.registers ≡ s.processor.registers
store_registers false i a next v s t m = sym (ap (λ o. (processor_or s.processor o).registers) m)
store_registers true i a next v s t m = sym (ap (λ o. (processor_or s.processor o).registers) m)

pub end_stands : (c : CoreState) (l : List Outcome) (t : List Event) → c.halted ≡ None → Stands (record c { outcomes = l }) t
    → Stands (after_end l (record c { outcomes = l })) t
end_stands c [] t n s = s
end_stands c (Plain rd v ∷ os) t n s =
    let at = run_of c (reply_values t) c.retired in
    let p = goes_on (upcoming c.code at.processor).next (with_register rd v at.processor.registers) at.processor.ram in
    ended c (Plain rd v) os (with_register rd v c.registers) t s (one_more p at.trace at) n
    (commits_as c.code (Plain rd v) at (ahead_now (record c { outcomes = Plain rd v ∷ os }) t s).0) (ap (with_register rd v) s.registers) s.trace s.ram
end_stands c (Load i a mmio None ∷ os) t n s = s
end_stands c (Load i a mmio (Some v) ∷ os) t n s =
    let at = run_of c (reply_values t) c.retired in
    let now = run_of c (reply_values t) (c.retired + 1) in
    let h = ahead_now (record c { outcomes = Load i a mmio (Some v) ∷ os }) t s in
    let m = isa_last c.code c.entry (reply_values t) c.retired s.commits in
    ended c (Load i a mmio (Some v)) os (with_register (destination i) v c.registers) t s now n m
    (load_registers mmio i a (upcoming c.code at.processor).next v at now h.1 (sym (commits_as c.code (Load i a mmio None) at h.0) ∙ m)
    ∙ ap (with_register (destination i) v) s.registers) s.trace s.ram
end_stands c (Store i a v mmio false ∷ os) t n s = s
end_stands c (Store i a v mmio true ∷ os) t n s =
    let at = run_of c (reply_values t) c.retired in
    let now = run_of c (reply_values t) (c.retired + 1) in
    let h = ahead_now (record c { outcomes = Store i a v mmio true ∷ os }) t s in
    let m = isa_last c.code c.entry (reply_values t) c.retired s.commits in
    ended c (Store i a v mmio true) os c.registers t s now n m
    (store_registers mmio i a (upcoming c.code at.processor).next v at now (sym (commits_as c.code (Store i a v mmio false) at h.0) ∙ m) ∙ s.registers)
    s.trace s.ram
end_stands c (Halt cause ∷ os) t n s = record {
  commits = s.commits;
  trace = s.trace;
  ram = s.ram;
  registers = s.registers;
  halted = sym (ahead_now (record c { outcomes = Halt cause ∷ os }) t s).0;
  in_order = record { words = s.in_order.words; instructions = s.in_order.instructions; ordered = s.in_order.ordered; marks = s.in_order.marks; clear = s.in_order.clear; apart = s.in_order.apart };
  ahead = s.ahead;
}
