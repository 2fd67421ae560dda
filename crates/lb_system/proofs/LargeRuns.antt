-- The code of a large program on the instruction machine.
use Rattle.std.proofs.Common.{◌≡◌, ◌≤◌, ◌⊎◌, inl, inr, ℕ, ◌+◌, List, [], ◌∷◌, ◌++◌, length, length-append, Option, Some, None, refl, sym, ap, subst, ◌∙◌, arith, slice_get, drop}
use Rattle.std.specs.Prelude.{min}
use Rattle.std.proofs.Math.Nat.{min-eq_left, min-eq_right}
use Rattle.std.proofs.lemmas.Option.{same_Some}
use Rattle.lb_trace.specs.declared.Event.TheVariants.{Ld, St}
use Rattle.lb_trace.specs.Prefix.{IsPrefix}
use Rattle.lb_steps.proofs.RunLemmas.{run-one_more, run-still_after}
use Rattle.lb_steps.proofs.GrowthLemmas.{run-longer_extends}
use Rattle.lb_isa.specs.State.{IsaContent, ProcessorState, RunState, processor_of}
use Rattle.lb_isa.specs.Moves.{move, moved, next_answer, next_processor}
use Rattle.lb_isa.specs.Runs.{isa, start, booted}
use Rattle.lb_isa.specs.declared.processor.Stepped.{Stepped}
use Rattle.lb_isa.specs.declared.processor.Stepped.TheVariants.{Committed, WantsReply, Halted}
use Rattle.lb_isa.proofs.MoveLemmas.{move_extends}
use Rattle.lb_system.specs.InternalLarge.{events_of, IsAt, IsBehind}

-- ---- the code on the instruction machine

-- before the first instruction
pub nothing_done : (code : List ℕ) (entry : ℕ) (m : IsaContent) → m.code ≡ code → processor_of m ≡ booted code entry → IsBehind code entry 0 m 0
nothing_done code entry m same at = record { code = same; at = record { processor = at; replies = refl; events = refl } }

-- the run's next move is what a step of its processor without a reply answers
move_as : (code : List ℕ) (s : RunState) (m : IsaContent) (events : ℕ) → m.code ≡ code → IsAt m events s
    → move code s ≡ moved (next_answer m.code None (processor_of m)) (next_processor m.code None (processor_of m)) s
move_as code s m events same at =
    let go : List ℕ → ProcessorState → List ℕ → Option RunState = λ c p rs. moved (next_answer c (slice_get rs 0) p) (next_processor c (slice_get rs 0) p) s in
    ap (λ rs. go code s.processor rs) at.replies ∙ ap (λ p. go code p []) (sym at.processor) ∙ ap (λ c. go c (processor_of m) []) (sym same)

-- where the step was done, the run moves so
moved_to : (r : Stepped) (m : IsaContent) (k events : ℕ) (s : RunState) → events_of r ≡ Some k → s.replies ≡ [] → events ≡ length s.trace
    → (t : RunState) × (moved r (processor_of m) s ≡ Some t) × IsAt m (events + k) t
moved_to (Committed None) m k events s is replies count =
    let none : 0 ≡ k = same_Some 0 k is in
    let t : RunState = record { processor = processor_of m; replies = s.replies; trace = s.trace; committed = s.committed + 1 } in
    (t, refl, record { processor = refl; replies = replies; events = omega (arith, none, count) })
moved_to (Committed (Some (Ld a v))) m k events s is replies count =
    let one : 1 ≡ k = same_Some 1 k is in
    let rest : List ℕ = drop 1 s.replies in
    let t : RunState = record { processor = processor_of m; replies = rest; trace = s.trace ++ Ld a v ∷ []; committed = s.committed + 1 } in
    (t, refl, record { processor = refl; replies = ap (drop 1) replies; events = omega (arith, one, count, length-append s.trace (Ld a v ∷ [])) })
moved_to (Committed (Some (St a v))) m k events s is replies count =
    let one : 1 ≡ k = same_Some 1 k is in
    let t : RunState = record { processor = processor_of m; replies = s.replies; trace = s.trace ++ St a v ∷ []; committed = s.committed + 1 } in
    (t, refl, record { processor = refl; replies = replies; events = omega (arith, one, count, length-append s.trace (St a v ∷ [])) })
moved_to WantsReply m k events s is replies count = absurd cc
moved_to (Halted cause) m k events s is replies count = absurd cc

-- one more instruction is done
pub one_done : (code : List ℕ) (entry n : ℕ) (m m' : IsaContent) (r : Stepped) (k events : ℕ) → IsBehind code entry n m events → r ≡ next_answer m.code None (processor_of m)
    → processor_of m' ≡ next_processor m.code None (processor_of m) → m'.code ≡ m.code → events_of r ≡ Some k → IsBehind code entry (n + 1) m' (events + k)
one_done code entry n m m' r k events b answer processor same is =
    let s : RunState = isa code entry [] n in
    let to = moved_to r m' k events s is b.at.replies b.at.events in
    let t : RunState = to.0 in
    let moves : move code s ≡ Some t = move_as code s m events b.code b.at
    ∙ ap (λ a. moved a (next_processor m.code None (processor_of m)) s) (sym answer) ∙ ap (λ p. moved r p s) (sym processor) ∙ to.1 in
    let next : isa code entry [] (n + 1) ≡ t = run-one_more (move code) n (start code entry []) t moves in
    record { code = same ∙ b.code; at = subst (IsAt m' (events + k)) (sym next) to.2 }

-- where the step wasn't done, the run stands still
stays : (r : Stepped) (p : ProcessorState) (s : RunState) → events_of r ≡ None → moved r p s ≡ None
stays (Committed None) p s is = absurd cc
stays (Committed (Some event)) p s is = absurd cc
stays WantsReply p s is = refl
stays (Halted cause) p s is = refl

-- the most that is counted, of the run that is done or made as much
whole_count : (most events n : ℕ) → events ≡ n → events ≤ most → events ≡ min most n
whole_count most events n same few =
    let below : n ≤ most = omega (arith, same, few) in same ∙ sym (min-eq_right below)

-- no further instruction can be done
pub count_stopped : (code : List ℕ) (entry n limit most : ℕ) (m : IsaContent) (r : Stepped) (events : ℕ) → IsBehind code entry n m events
    → r ≡ next_answer m.code None (processor_of m) → events_of r ≡ None → n ≤ limit → events ≤ most → events ≡ min most (length (isa code entry [] limit).trace)
count_stopped code entry n limit most m r events b answer is within few =
    let s : RunState = isa code entry [] n in
    let still : move code s ≡ None = move_as code s m events b.code b.at
    ∙ ap (λ a. moved a (next_processor m.code None (processor_of m)) s) (sym answer) ∙ stays r (next_processor m.code None (processor_of m)) s is in
    let same : isa code entry [] limit ≡ s = run-still_after (move code) n limit (start code entry []) still within in
    whole_count most events (length (isa code entry [] limit).trace) (b.at.events ∙ ap (λ (u : RunState). length u.trace) (sym same)) few

-- all instructions are done, or there are as many events as are counted
pub count_done : (code : List ℕ) (entry n limit most : ℕ) (m : IsaContent) (events : ℕ) → IsBehind code entry n m events → n ≤ limit → events ≤ most
    → (limit ≤ n) ⊎ (most ≤ events) → events ≡ min most (length (isa code entry [] limit).trace)
count_done code entry n limit most m events b within few (inl whole) =
    let same : n ≡ limit = omega (arith, within, whole) in
    whole_count most events (length (isa code entry [] limit).trace) (b.at.events ∙ ap (λ k. length (isa code entry [] k).trace) same) few
count_done code entry n limit most m events b within few (inr full) =
    let longer : IsPrefix (isa code entry [] n).trace (isa code entry [] limit).trace =
    run-longer_extends (move code) (λ (u : RunState). u.trace) (move_extends code) n limit (start code entry []) within in
    let size = ap length longer.whole ∙ length-append (isa code entry [] n).trace longer.rest in
    let enough : most ≤ length (isa code entry [] limit).trace = omega (arith, size, b.at.events, full) in
    let is : events ≡ most = omega (arith, few, full) in
    is ∙ sym (min-eq_left enough)
