-- Boot, and that fetch, decode and execute keep what the core stands for.
use Rattle.std.proofs.Common.{◌≡◌, ℕ, ◌*◌, Bool, true, false, not, ◌&&◌, ◌==◌, List, [], ◌∷◌, ◌++◌, map, length, None, IfSome, refl, sym, ap, ◌∙◌, subst}
use Rattle.std.proofs.lemmas.List.{append_assoc}
use Rattle.std.proofs.lemmas.Bool.{and_parts, eqb-true}
use Rattle.std.specs.List.{AllByRecursion}
use Rattle.lb_trace.specs.declared.Event.{Event}
use Rattle.lb_trace.specs.Trace.{reply_values}
use Rattle.lb_outcome.specs.declared.types.Executed.{Executed}
use Rattle.lb_outcome.specs.Fetching.{left_source, right_source}
use Rattle.lb_front.specs.declared.item.FetchItem.{FetchItem}
use Rattle.lb_front.specs.Prediction.{FrontContent, fetched_item, redirected}
use Rattle.lb_exec.specs.declared.item.DecodeItem.{DecodeItem}
use Rattle.lb_exec.specs.Execution.{execution}
use Rattle.lb_isa.specs.State.{RunState, with_more}
use Rattle.lb_isa.specs.Moves.{move, upcoming}
use Rattle.lb_core.specs.State.{CoreState, has_room}
use Rattle.lb_core.specs.Scoreboard.{item_destination, outcome_destination, uses}
use Rattle.lb_core.specs.Rows.{after_decode, after_execute, after_fetch, after_item, after_prediction, booted_core, can_decode, count_done, decoded_item, is_front_served, is_halt, is_mispredicted, same_epoch}
use Rattle.lb_core.specs.Stands.{IsUnserved, Ahead, fetched_part, waiting, HasWord, HasInstruction, IsCurrent, Ordered, Follows, HasOperands, HaveOperands, Behind, NoneUses, run_of, Stands, StandsAfter}
use Rattle.lb_core.proofs.Tools.{by_test_true, by_test_false, if_some, some_is, all_map, all_snoc}
use Rattle.lb_core.proofs.RunLemmas.{commit_pc, commit_runs, executed_unserved, executed_clear, execution_is, isa_before, isa_more}
use Rattle.lb_core.proofs.EpochLemmas.{same_same, follows_fetched, ordered_fetched, current_ordered, flipped_ordered, flipped_follows, waiting_decoded}
use Rattle.lb_core.proofs.AheadLemmas.{ahead_map, ahead_snoc, ahead_operands, unserved_right, flipped_operands, operands_decoded}
use Rattle.lb_core.proofs.ScoreboardLemmas.{free_of_outcomes, free_of_rest, free_of_items, clear_decoded, apart_decoded, front_snoc, marks_snoc}

pub booted_stands : (code : List ℕ) (entry : ℕ) → Stands (booted_core code entry) []
booted_stands code entry = record {
  commits = refl;
  trace = refl;
  ram = refl;
  registers = refl;
  halted = tt;
  in_order = record { words = tt; instructions = tt; ordered = tt; marks = tt; clear = tt; apart = tt };
  ahead = λ more. record { follows = refl; operands = tt };
}

-- ---- the run of the retired instructions

counted : (c : CoreState) (rs : List ℕ) (b : Bool) → (run_of c rs (count_done b c.retired)).committed ≡ count_done b c.retired
    → (run_of c rs c.retired).committed ≡ c.retired
counted c rs true h = isa_before c.code c.entry rs c.retired h
counted c rs false h = h

-- it commits them all
pub retired_commits : (c : CoreState) (t : List Event) → Stands c t → (run_of c (reply_values t) c.retired).committed ≡ c.retired
retired_commits c t s = counted c (reply_values t) (is_front_served c.outcomes) s.commits

-- and does the same with more replies
pub retired_more : (c : CoreState) (t : List Event) (more : List ℕ) → Stands c t
    → run_of c (reply_values t ++ more) c.retired ≡ with_more more (run_of c (reply_values t) c.retired)
retired_more c t more s = isa_more c.code c.entry (reply_values t) more c.retired (retired_commits c t s)

-- ---- fetch

pub fetch_stands : (c : CoreState) → StandsAfter c (after_fetch c) None
fetch_stands c t s =
    let it = fetched_item c.front c.code in
    let e = c.front.epoch in
    let w : map fetched_part c.decoded ++ c.fetched ++ it ∷ [] ≡ waiting (after_fetch c) = append_assoc (map fetched_part c.decoded) c.fetched (it ∷ []) in
    record {
      commits = s.commits;
      trace = s.trace;
      ram = s.ram;
      registers = s.registers;
      halted = s.halted;
      in_order = record {
        words = all_snoc (HasWord c.code) c.fetched it s.in_order.words refl;
        instructions = s.in_order.instructions;
        ordered = subst (Ordered c.front.epoch) w (ordered_fetched c.front.epoch (waiting c) it (same_same c.front.epoch) s.in_order.ordered);
        marks = s.in_order.marks;
        clear = s.in_order.clear;
        apart = s.in_order.apart;
      };
      ahead = λ more. ahead_map c.code c.outcomes (run_of c (reply_values t ++ more) c.retired) (Behind c) (Behind (after_fetch c)) (λ u b. record {
        follows = subst (λ (l : List FetchItem). Follows c.front.epoch l u.processor.pc it.predicted) w
            (follows_fetched c.front.epoch (waiting c) it u.processor.pc c.front.pc (same_same c.front.epoch) refl b.follows);
        operands = b.operands;
      }) (s.ahead more);
    }

-- ---- decode

pub decode_stands : (c : CoreState) (f : List FetchItem) (t : List Event) → can_decode f c ≡ true → Stands (record c { fetched = f }) t
    → Stands (after_decode f (record c { fetched = f })) t
decode_stands c [] t g s = s
decode_stands c (it ∷ its) t g s =
    let new = decoded_item it c.registers in
    let w = waiting_decoded c.decoded it its c.registers in
    let free = (and_parts (has_room c.decoded) _ g).1 in
    let f_os = free_of_outcomes new.instruction c.outcomes (map item_destination c.decoded) free in
    let f_ds = free_of_items new.instruction c.decoded (free_of_rest new.instruction c.outcomes (map item_destination c.decoded) free) in
    let c2 : CoreState = after_decode (it ∷ its) (record c { fetched = it ∷ its }) in
    record {
      commits = s.commits;
      trace = s.trace;
      ram = s.ram;
      registers = s.registers;
      halted = s.halted;
      in_order = record {
        words = s.in_order.words.1;
        instructions = all_snoc (HasInstruction c.code) c.decoded new s.in_order.instructions (s.in_order.words.0, refl);
        ordered = subst (Ordered c.front.epoch) w s.in_order.ordered;
        marks = s.in_order.marks;
        clear = clear_decoded c.outcomes c.decoded new s.in_order.clear f_os;
        apart = apart_decoded c.decoded new s.in_order.apart f_ds;
      };
      ahead = λ more. (
          let r : (run_of c (reply_values t ++ more) c.retired).processor.registers ≡ c.registers =
          ap (λ (u : RunState). u.processor.registers) (retired_more (record c { fetched = it ∷ its }) t more s) ∙ s.registers in
          ahead_operands c.code new.instruction c.registers c.outcomes (run_of c (reply_values t ++ more) c.retired)
          (Behind (record c { fetched = it ∷ its })) (Behind c2) f_os
          (record {
            left = ap (λ (g : ℕ → ℕ). g (left_source new.instruction)) r;
            right = ap (λ (g : ℕ → ℕ). g (right_source new.instruction)) r;
          })
          (λ u q b. record {
            follows = subst (λ (l : List FetchItem). Follows c.front.epoch l u.processor.pc c.front.pc) w b.follows;
            operands = operands_decoded c.code c.front.epoch new c.registers c.decoded (it ∷ its) c.front.pc u s.in_order.instructions f_ds
                (refl, refl) q b.follows b.operands;
          }) (s.ahead more));
    }

-- ---- execute

predicted_right : (h : Bool) (x y : ℕ) → (not h && not (x == y)) ≡ false → h ≡ false → x ≡ y
predicted_right h x y e f = eqb-true x y (same (x == y) (ap (λ b. not b && not (x == y)) (sym f) ∙ e))
  where
    same : (b : Bool) → not b ≡ false → b ≡ true
    same true e = refl
    same false e = absurd (cc e)

module _ (c : CoreState) (d : DecodeItem) (ds : List DecodeItem) (t : List Event) (s : Stands (record c { decoded = d ∷ ds }) t) where
  -- an item of the other epoch
  dropped : same_epoch d.epoch c.front.epoch ≡ false → Stands (record c { decoded = ds }) t
  dropped h = record {
    commits = s.commits;
    trace = s.trace;
    ram = s.ram;
    registers = s.registers;
    halted = s.halted;
    in_order = record {
      words = s.in_order.words;
      instructions = s.in_order.instructions.1;
      ordered = by_test_false _ _ (same_epoch d.epoch c.front.epoch) h s.in_order.ordered;
      marks = s.in_order.marks;
      clear = all_map (λ o. NoneUses (outcome_destination o) (d ∷ ds)) (λ o. NoneUses (outcome_destination o) ds) c.outcomes (λ o q. q.1) s.in_order.clear;
      apart = s.in_order.apart.1;
    };
    ahead = λ more. ahead_map c.code c.outcomes (run_of c (reply_values t ++ more) c.retired) (Behind (record c { decoded = d ∷ ds }))
        (Behind (record c { decoded = ds })) (λ u b. record {
          follows = by_test_false _ _ (same_epoch d.epoch c.front.epoch) h b.follows;
          operands = by_test_false _ _ (same_epoch d.epoch c.front.epoch) h b.operands;
        }) (s.ahead more);
  }

  fresh : IsUnserved (execution d (4 * length c.code)).outcome
  fresh = executed_unserved (4 * length c.code) d.pc d.word d.instruction d.left d.right

  -- what the run behind the item has to do with it
  record Executes (v : RunState) : Type 0 where
    pc : v.processor.pc ≡ (execution d (4 * length c.code)).next
    runs : is_halt (execution d (4 * length c.code)).outcome ≡ false
    follows : Follows c.front.epoch (map fetched_part ds ++ c.fetched) d.predicted c.front.pc
    operands : v.processor.pc ≡ d.predicted → HaveOperands c.code c.front.epoch ds v

  -- the item's outcome is the run's
  one_more : (Q : RunState → Type 0) → same_epoch d.epoch c.front.epoch ≡ true → ((v : RunState) → Executes v → Q v) → (u : RunState)
      → Behind (record c { decoded = d ∷ ds }) u → Ahead c.code ((execution d (4 * length c.code)).outcome ∷ []) u Q
  one_more Q h go u b =
      let f = by_test_true ((d.pc ≡ u.processor.pc) × Follows c.front.epoch (map fetched_part ds ++ c.fetched) d.predicted c.front.pc)
      (Follows c.front.epoch (map fetched_part ds ++ c.fetched) u.processor.pc c.front.pc) (same_epoch d.epoch c.front.epoch) h b.follows in
      let o = by_test_true
      (HasOperands d u.processor.registers × IfSome (move c.code u) (λ v. v.processor.pc ≡ d.predicted → HaveOperands c.code c.front.epoch ds v))
      (HaveOperands c.code c.front.epoch ds u) (same_epoch d.epoch c.front.epoch) h b.operands in
      let e = execution_is c.code d u.processor f.0 s.in_order.instructions.0.0 s.in_order.instructions.0.1 o.0 in (
        fresh ∙ ap (λ (z : Executed). z.outcome) e,
        unserved_right (execution d (4 * length c.code)).outcome u fresh,
        if_some (move c.code u) Q (λ v m. go v (record {
          pc = commit_pc (upcoming c.code u.processor).outcome (upcoming c.code u.processor).next u v m ∙ sym (ap (λ (z : Executed). z.next) e);
          runs = ap (λ (z : Executed). is_halt z.outcome) e ∙ commit_runs (upcoming c.code u.processor).outcome (upcoming c.code u.processor).next u v m;
          follows = f.1;
          operands = some_is (move c.code u) (λ w. w.processor.pc ≡ d.predicted → HaveOperands c.code c.front.epoch ds w) v m o.1;
        })),
      )

  all_current : same_epoch d.epoch c.front.epoch ≡ true → AllByRecursion (IsCurrent c.front.epoch) (map fetched_part ds ++ c.fetched)
  all_current h = by_test_true _ (Ordered c.front.epoch (map fetched_part ds ++ c.fetched)) (same_epoch d.epoch c.front.epoch) h s.in_order.ordered

  clear_behind : AllByRecursion (λ o. NoneUses (outcome_destination o) ds) (c.outcomes ++ (execution d (4 * length c.code)).outcome ∷ [])
  clear_behind =
      all_snoc (λ o. NoneUses (outcome_destination o) ds) c.outcomes (execution d (4 * length c.code)).outcome
      (all_map (λ o. NoneUses (outcome_destination o) (d ∷ ds)) (λ o. NoneUses (outcome_destination o) ds) c.outcomes (λ o q. q.1) s.in_order.clear)
      (all_map (λ y. uses y.instruction (item_destination d) ≡ false)
      (λ y. uses y.instruction (outcome_destination (execution d (4 * length c.code)).outcome) ≡ false) ds
      (λ y q. executed_clear y.instruction (4 * length c.code) d.pc d.word d.instruction d.left d.right q) s.in_order.apart.0)

  -- the outcome isn't served, so as much is done as before
  done_same : count_done (is_front_served (c.outcomes ++ (execution d (4 * length c.code)).outcome ∷ [])) c.retired
      ≡ count_done (is_front_served c.outcomes) c.retired
  done_same = ap (λ b. count_done b c.retired) (front_snoc c.outcomes (execution d (4 * length c.code)).outcome fresh)

  -- the core once the outcome is there, with fetch at this place
  abbrev with_outcome : FrontContent → CoreState
  with_outcome front = record c { decoded = ds; outcomes = c.outcomes ++ (execution d (4 * length c.code)).outcome ∷ []; front = front }

  -- an item of this epoch
  executed_stands : (front : FrontContent) → same_epoch d.epoch c.front.epoch ≡ true → ((v : RunState) → Executes v → Behind (with_outcome front) v)
      → Ordered front.epoch (map fetched_part ds ++ c.fetched) → Stands (with_outcome front) t
  executed_stands front h go ordered = record {
    commits = ap (λ n. (run_of c (reply_values t) n).committed) done_same ∙ s.commits ∙ sym done_same;
    trace = ap (λ n. (run_of c (reply_values t) n).trace) done_same ∙ s.trace;
    ram = ap (λ n. (run_of c (reply_values t) n).processor.ram) done_same ∙ s.ram;
    registers = s.registers;
    halted = s.halted;
    in_order = record {
      words = s.in_order.words;
      instructions = s.in_order.instructions.1;
      ordered = ordered;
      marks = marks_snoc c.outcomes (execution d (4 * length c.code)).outcome fresh s.in_order.marks;
      clear = clear_behind;
      apart = s.in_order.apart.1;
    };
    ahead = λ more. ahead_snoc c.code c.outcomes (execution d (4 * length c.code)).outcome (run_of c (reply_values t ++ more) c.retired)
        (Behind (with_outcome front))
        (ahead_map c.code c.outcomes (run_of c (reply_values t ++ more) c.retired) (Behind (record c { decoded = d ∷ ds })) _
        (λ u b. one_more (Behind (with_outcome front)) h go u b) (s.ahead more));
  }

  by_prediction : (b : Bool) → is_mispredicted (execution d (4 * length c.code)) d ≡ b → same_epoch d.epoch c.front.epoch ≡ true
      → Stands (after_prediction b (execution d (4 * length c.code)) d (with_outcome c.front)) t
  by_prediction true r h =
      executed_stands (redirected c.front d.pc (execution d (4 * length c.code)).next) h (λ v q. record {
        follows = flipped_follows c.front.epoch (map fetched_part ds ++ c.fetched) v.processor.pc _ (sym q.pc) (all_current h);
        operands = flipped_operands c.code c.front.epoch ds c.fetched v (all_current h);
      }) (flipped_ordered c.front.epoch (map fetched_part ds ++ c.fetched) (all_current h))
  by_prediction false r h =
      executed_stands c.front h (λ v q. (
      let p : v.processor.pc ≡ d.predicted =
      q.pc ∙ predicted_right (is_halt (execution d (4 * length c.code)).outcome) (execution d (4 * length c.code)).next d.predicted r q.runs in
      record {
        follows = subst (λ (n : ℕ). Follows c.front.epoch (map fetched_part ds ++ c.fetched) n c.front.pc) (sym p) q.follows;
        operands = q.operands p;
      })) (current_ordered c.front.epoch (map fetched_part ds ++ c.fetched) (all_current h))

  by_epoch : (b : Bool) → same_epoch d.epoch c.front.epoch ≡ b → Stands (after_item b (execution d (4 * length c.code)) d (record c { decoded = ds })) t
  by_epoch true h = by_prediction (is_mispredicted (execution d (4 * length c.code)) d) refl h
  by_epoch false h = dropped h

pub execute_stands : (c : CoreState) (l : List DecodeItem) (t : List Event) → Stands (record c { decoded = l }) t
    → Stands (after_execute l (record c { decoded = l })) t
execute_stands c [] t s = s
execute_stands c (d ∷ ds) t s = by_epoch c d ds t s (same_epoch d.epoch c.front.epoch) refl
