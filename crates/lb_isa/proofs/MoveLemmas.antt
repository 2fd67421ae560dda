-- What one instruction of a run changes.
use Rattle.std.proofs.Common.{◌≡◌, ℕ, ◌+◌, ◌==◌, ◌&&◌, nat_lt, Bool, true, false, if◌then◌else◌, List, [], ◌∷◌, ◌++◌, Option, Some, None, refl, sym, ap, ◌∙◌, subst, append_assoc}
use Rattle.std.specs.Option.{option_map}
use Rattle.std.proofs.lemmas.Bool.{eqb-true}
use Rattle.lb_trace.specs.declared.Event.{Event}
use Rattle.lb_trace.specs.declared.Event.TheVariants.{Ld, St}
use Rattle.lb_trace.specs.Prefix.{IsPrefix}
use Rattle.lb_trace.specs.Trace.{reply_values}
use Rattle.lb_trace.proofs.PrefixLemmas.{IsPrefix-refl, IsPrefix-append}
use Rattle.lb_trace.proofs.ReplyLemmas.{reply_values-Ld, reply_values-St}
use Rattle.lb_rv.specs.declared.instr.Cause.{Cause}
use Rattle.lb_rv.specs.Effects.{destination}
use Rattle.lb_outcome.specs.declared.types.Outcome.{Outcome}
use Rattle.lb_outcome.specs.declared.types.Outcome.TheVariants.{Plain, Load, Store, Halt}
use Rattle.lb_outcome.specs.Ram.{loaded}
use Rattle.lb_outcome.specs.Registers.{is_written, with_register}
use Rattle.lb_isa.specs.declared.processor.Stepped.{Stepped}
use Rattle.lb_isa.specs.declared.processor.Stepped.TheVariants.{Committed, WantsReply, Halted}
use Rattle.lb_isa.specs.State.{ProcessorState, RunState, with_more}
use Rattle.lb_isa.specs.Moves.{after, commit, move, moved, upcoming}
use Rattle.lb_isa.specs.Runs.{IsHaltedBy}

-- a run of these parts
abbrev pub run_with : ProcessorState → List ℕ → List Event → ℕ → RunState
run_with p replies trace n = record { processor = p; replies = replies; trace = trace; committed = n }

-- ---- what every instruction that commits does

abbrev count_of : Option RunState → ℕ
count_of None = 0
count_of (Some t) = t.committed

abbrev trace_of : Option RunState → List Event
trace_of None = []
trace_of (Some t) = t.trace

abbrev processor_in : ProcessorState → Option RunState → ProcessorState
processor_in p None = p
processor_in p (Some t) = t.processor

moved_committed : (r : Stepped) (p : ProcessorState) (s t : RunState) → moved r p s ≡ Some t → t.committed ≡ s.committed + 1
moved_committed (Committed None) p s t h = sym (ap count_of h)
moved_committed (Committed (Some (Ld a v))) p s t h = sym (ap count_of h)
moved_committed (Committed (Some (St a v))) p s t h = sym (ap count_of h)
moved_committed WantsReply p s t h = cc
moved_committed (Halted cause) p s t h = cc

moved_extends : (r : Stepped) (p : ProcessorState) (s t : RunState) → moved r p s ≡ Some t → IsPrefix s.trace t.trace
moved_extends (Committed None) p s t h = subst (λ o. IsPrefix s.trace (trace_of o)) h (IsPrefix-refl s.trace)
moved_extends (Committed (Some (Ld a v))) p s t h = subst (λ o. IsPrefix s.trace (trace_of o)) h (IsPrefix-append s.trace (Ld a v ∷ []))
moved_extends (Committed (Some (St a v))) p s t h = subst (λ o. IsPrefix s.trace (trace_of o)) h (IsPrefix-append s.trace (St a v ∷ []))
moved_extends WantsReply p s t h = absurd (cc h)
moved_extends (Halted cause) p s t h = absurd (cc h)

moved_processor : (r : Stepped) (p : ProcessorState) (s t : RunState) → moved r p s ≡ Some t → t.processor ≡ p
moved_processor (Committed None) p s t h = sym (ap (processor_in p) h)
moved_processor (Committed (Some (Ld a v))) p s t h = sym (ap (processor_in p) h)
moved_processor (Committed (Some (St a v))) p s t h = sym (ap (processor_in p) h)
moved_processor WantsReply p s t h = absurd (cc h)
moved_processor (Halted cause) p s t h = absurd (cc h)

-- one more instruction is committed
pub move_committed : (code : List ℕ) (s t : RunState) → move code s ≡ Some t → t.committed ≡ s.committed + 1
move_committed code s t h = moved_committed _ _ s t h

-- the trace only grows
pub move_extends : (code : List ℕ) (s t : RunState) → move code s ≡ Some t → IsPrefix s.trace t.trace
move_extends code s t h = moved_extends _ _ s t h

-- ---- replies

abbrev replies_in : Option RunState → List ℕ
replies_in None = []
replies_in (Some t) = reply_values t.trace ++ t.replies

commit_reads : (o : Outcome) (next : ℕ) (p : ProcessorState) (rs : List ℕ) (trace : List Event) (n : ℕ) (t : RunState)
    → commit o next (run_with p rs trace n) ≡ Some t → reply_values t.trace ++ t.replies ≡ reply_values trace ++ rs
commit_reads (Plain rd v) next p rs trace n t h = sym (ap replies_in h)
commit_reads (Load i a false served) next p rs trace n t h = sym (ap replies_in h)
commit_reads (Load i a true served) next p [] trace n t h = absurd (cc h)
commit_reads (Load i a true served) next p (v ∷ vs) trace n t h =
    sym (ap replies_in h) ∙ ap (λ l. l ++ vs) (reply_values-Ld trace a v) ∙ append_assoc (reply_values trace) (v ∷ []) vs
commit_reads (Store i a v false served) next p rs trace n t h = sym (ap replies_in h)
commit_reads (Store i a v true served) next p rs trace n t h = sym (ap replies_in h) ∙ ap (λ l. l ++ rs) (reply_values-St trace a v)
commit_reads (Halt cause) next p rs trace n t h = absurd (cc h)

-- what was read and what is left are what they were together
pub move_reads : (code : List ℕ) (s t : RunState) → move code s ≡ Some t → reply_values t.trace ++ t.replies ≡ reply_values s.trace ++ s.replies
move_reads code s t h = commit_reads (upcoming code s.processor).outcome (upcoming code s.processor).next s.processor s.replies s.trace s.committed t h

commit_more : (more : List ℕ) (o : Outcome) (next : ℕ) (p : ProcessorState) (rs : List ℕ) (trace : List Event) (n : ℕ) (t : RunState)
    → commit o next (run_with p rs trace n) ≡ Some t → commit o next (run_with p (rs ++ more) trace n) ≡ Some (with_more more t)
commit_more more (Plain rd v) next p rs trace n t h = ap (option_map (with_more more)) h
commit_more more (Load i a false served) next p rs trace n t h = ap (option_map (with_more more)) h
commit_more more (Load i a true served) next p [] trace n t h = absurd (cc h)
commit_more more (Load i a true served) next p (v ∷ vs) trace n t h = ap (option_map (with_more more)) h
commit_more more (Store i a v false served) next p rs trace n t h = ap (option_map (with_more more)) h
commit_more more (Store i a v true served) next p rs trace n t h = ap (option_map (with_more more)) h
commit_more more (Halt cause) next p rs trace n t h = absurd (cc h)

-- with more replies behind the others the same is done
pub move_more : (more code : List ℕ) (s t : RunState) → move code s ≡ Some t → move code (with_more more s) ≡ Some (with_more more t)
move_more more code s t h = commit_more more (upcoming code s.processor).outcome (upcoming code s.processor).next s.processor s.replies s.trace s.committed t h

-- ---- x0

both_and_no : (x y : Bool) → x && y && false ≡ false
both_and_no true true = refl
both_and_no true false = refl
both_and_no false true = refl
both_and_no false false = refl

zero_written : (r : ℕ) (b : Bool) → (r == 0) ≡ b → is_written r 0 ≡ false
zero_written r true e = ap (λ k. is_written k 0) (eqb-true r 0 e)
zero_written r false e = ap (λ b. nat_lt 0 r && nat_lt r 32 && b) e ∙ both_and_no (nat_lt 0 r) (nat_lt r 32)

-- a write of a register leaves x0
pub zero_kept : (r v : ℕ) (registers : ℕ → ℕ) → registers 0 ≡ 0 → with_register r v registers 0 ≡ 0
zero_kept r v registers h = ap (λ b. if b then v else registers 0) (zero_written r (r == 0) refl) ∙ h

after_zero : (o : Outcome) (next : ℕ) (reply : Option ℕ) (p : ProcessorState) → p.registers 0 ≡ 0 → (after o next reply p).registers 0 ≡ 0
after_zero (Plain rd v) next reply p h = zero_kept rd v p.registers h
after_zero (Load i a false served) next reply p h = zero_kept (destination i) (loaded i a p.ram) p.registers h
after_zero (Load i a true served) next None p h = h
after_zero (Load i a true served) next (Some v) p h = zero_kept (destination i) v p.registers h
after_zero (Store i a v false served) next reply p h = h
after_zero (Store i a v true served) next reply p h = h
after_zero (Halt cause) next reply p h = h

pub move_zero : (code : List ℕ) (s t : RunState) → move code s ≡ Some t → s.processor.registers 0 ≡ 0 → t.processor.registers 0 ≡ 0
move_zero code s t h z =
    ap (λ (p : ProcessorState). p.registers 0) (moved_processor _ _ s t h)
    ∙ after_zero (upcoming code s.processor).outcome (upcoming code s.processor).next _ s.processor z

-- ---- where nothing moves

-- a processor that a cause halts
pub halted_stays : (cause : Cause) (code : List ℕ) (s : RunState) → IsHaltedBy cause code s → move code s ≡ None
halted_stays cause code s h = ap (λ o. commit o (upcoming code s.processor).next s) h
