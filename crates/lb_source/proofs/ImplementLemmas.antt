-- What a machine owes to a program, from a simulation that counts.
use Rattle.std.proofs.Common.{◌≡◌, ℕ, suc, ◌+◌, ◌*◌, ◌≤◌, List, Option, None, refl, arith}
use Rattle.std.proofs.Math.Nat.{mul-le-mul_left}
use Rattle.lb_trace.specs.declared.Event.{Event}
use Rattle.lb_steps.specs.Runs.{run, OnlyExtends}
use Rattle.lb_steps.proofs.Behavior.{Behavior, EndsWith, then_do}
use Rattle.lb_steps.proofs.Behavior as behavior
use Rattle.lb_steps.proofs.Simulation.{Comes, agrees, stands_to_wait, reaches}
use Rattle.lb_source.specs.Defined.{IsDefined}
use Rattle.lb_source.specs.Correct.{AreWords, Implements}
use Rattle.lb_source.specs.declared.ends.SourceRun.{SourceRun}
use Rattle.lb_source.specs.declared.ends.SourceEnd.{SourceEnd}
use Rattle.lb_source.specs.declared.ends.SourceEnd.TheVariants.{Spent, Starved, Undefined}

-- a run that has ended, as what a part of any program comes to
abbrev pub ended : {S : Type 0} → List Event → SourceEnd → Behavior S Event
ended shown Spent = behavior.Spent shown
ended shown Starved = behavior.Starved shown
ended shown (Undefined reason) = behavior.Undefined

-- nothing comes after it
pub ended-then : {S : Type 0} (shown : List Event) (end : SourceEnd) (go : S → Behavior S Event) → ended shown end ≡ then_do (ended shown end) go
ended-then shown Spent go = refl
ended-then shown Starved go = refl
ended-then shown (Undefined reason) go = refl

-- where it did nothing undefined, it shows its trace
ended-with : (S : Type 0) (shown : List Event) (end : SourceEnd) → IsDefined end → EndsWith shown (ended {S = S} shown end)
ended-with S shown Spent ok = refl
ended-with S shown Starved ok = refl
ended-with S shown (Undefined reason) ok = ok

-- the machine comes to what a whole run comes to
abbrev pub Finishes : {C S : Type 0} → (C → Option C) → (C → List Event) → (C → Type 0) → ℕ → (S → ℕ) → ℕ → C → ℕ → SourceRun → Type 0
Finishes move trace Waits need fuel len c given r = Comes move trace Waits need fuel (λ s d. ⊥) len c given (ended r.trace r.end)

-- a machine that from boot comes to what each run comes to: its first move stands for one fuel more
module _ {C S : Type 0} (move : C → Option C) (trace : C → List Event) (Waits IsHalted : C → Type 0) (words : ℕ) (fuel : S → ℕ)
    (extends : OnlyExtends move trace) (stops : (c : C) → Waits c → move c ≡ None) (halts : (c : C) → IsHalted c → move c ≡ None) (apart : (c : C) → Waits c → ¬ (IsHalted c))
    (boot : List ℕ → C) (does : ℕ → List ℕ → SourceRun)
    (finishes : (replies : List ℕ) (n : ℕ) → AreWords replies → Finishes move trace Waits words fuel 0 (boot replies) (suc n) (does n replies)) where
  pub implements : (need : ℕ) → words ≤ need
      → Implements does need (λ replies n. trace (run move n (boot replies))) (λ replies n. IsHalted (run move n (boot replies)))
  implements need few = record {
    refines = record {
      agrees = λ replies n are_words ok. let r = does n replies in
          agrees extends stops r.trace (ended r.trace r.end) (omega arith) (ended-with S r.trace r.end ok) (finishes replies n are_words);
      runs = λ replies n are_words ok halted. let r = does n replies in let c = run move n (boot replies) in
          apart c (stands_to_wait extends stops r.trace (ended r.trace r.end) (omega arith) (ended-with S r.trace r.end ok) (finishes replies n are_words) (halts c halted)) halted;
    };
    progresses = record {
      comes = λ replies n are_words ok. let r = does n replies in
          let enough : 0 + suc n * words ≤ (n + 1) * need = omega (arith, mul-le-mul_left (n + 1) few) in
          reaches extends stops r.trace (ended r.trace r.end) enough (ended-with S r.trace r.end ok) (finishes replies n are_words);
    };
  }
