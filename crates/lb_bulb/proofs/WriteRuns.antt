-- lan_write writes a register, or never comes back.
use Rattle.std.proofs.Common.{◌≡◌, ℕ, ◌/◌, ◌%◌, List, [], ◌∷◌, ◌++◌, Option, Some, refl, sym, ap, subst, arith, bit_and}
use Rattle.lb_syntax.specs.Tree.{Variable}
use Rattle.lb_syntax.specs.WellFormed.{IsWord}
use Rattle.lb_trace.specs.declared.Event.{Event}
use Rattle.lb_trace.specs.declared.Event.TheVariants.{St}
use Rattle.lb_source.specs.Maps.{Memory, put, no_variables}
use Rattle.lb_source.specs.Value.{or_unset}
use Rattle.lb_source.specs.Run.{State, Outcome, Goes, then_do, turns}
use Rattle.lb_grammar.specs.Forms.{Is, Begins}
use Rattle.lb_grammar.specs.Grammar.{csmode, free_xchgs, broken_off, write_bytes, no_wr}
use Rattle.lb_bulb.proofs.FormLemmas.{member_begins}
use Rattle.lb_bulb.specs.Supplied.{a_, e_, v_, x_, spi_xchg}
use Rattle.lb_bulb.proofs.Does.{AreWords, Does, goes, stops, Returns, Gives, Exchange, Cut, Writing, wrote}
use Rattle.lb_bulb.proofs.Statements.{WriteLaw}
use Rattle.lb_bulb.proofs.Rules.{Whole, Part, longer, loop_ends, stands}
use Rattle.lb_bulb.proofs.Bytes.{low_byte_is}
use Rattle.lb_bulb.proofs.Transactions.{Progress, fine, vain, transaction_is, transaction_begins, exchange_then, free_more}

abbrev next : State → ℕ → ℕ → List Event → List ℕ → ℕ → State
next s r d m qs f = record s { variables = put e_ (Some d) (put x_ (Some r) s.variables); replies = qs; trace = s.trace ++ m; fuel = f }

module _ (n : ℕ) (t : List Event) (m : Memory) (a v : ℕ) where
  abbrev whole : Whole
  whole = Gives [] (Writing a v) m

  -- the end of the transaction
  ending : (u : State) (l : List Event) (d : ℕ) → u.trace ≡ t ++ (St csmode 2 ∷ l) → AreWords u.replies → u.variables e_ ≡ Some d → u.memory ≡ m → Progress (free_xchgs (write_bytes a v)) (write_bytes a v) d l
      → Does t whole (Begins (no_wr a v)) (then_do (turns n (Variable e_) (λ s. Goes s) (record u { trace = u.trace ++ St csmode 0 ∷ [] })) (λ s. Goes s))
  ending u l d z ws ed em (fine h) =
      let x : State = record u { trace = u.trace ++ St csmode 0 ∷ [] } in
      subst (λ (o : Outcome). Does t whole (Begins (no_wr a v)) (then_do o (λ s. Goes s))) (sym (loop_ends n (Variable e_) (λ s. Goes s) x (ap (λ (o : Option ℕ). or_unset o) ed)))
      (goes (St csmode 2 ∷ (l ++ St csmode 0 ∷ [])) (longer t (St csmode 2 ∷ l) (St csmode 0 ∷ []) z) ws
      (record { values = []; is = wrote (transaction_is (free_xchgs (write_bytes a v)) l h); given = refl; memory = em }))
  ending u l d z ws ed em (vain h) =
      let x : State = record u { trace = u.trace ++ St csmode 0 ∷ [] } in
      let no : Is (no_wr a v) (St csmode 2 ∷ (l ++ St csmode 0 ∷ [])) = transaction_is (broken_off (write_bytes a v)) l h in
      subst (λ (o : Outcome). Does t whole (Begins (no_wr a v)) (then_do o (λ s. Goes s))) (sym (stands n e_ x 0 ed))
      (stops (St csmode 2 ∷ (l ++ St csmode 0 ∷ [])) (longer t (St csmode 2 ∷ l) (St csmode 0 ∷ []) z) (member_begins (no_wr a v) _ no) tt)

high_byte_is : (v : ℕ) → IsWord v → v / 16777216 ≡ v / 16777216 % 256
high_byte_is v h = omega (arith, h)

pub write_runs : WriteLaw
write_runs call ok n os a v s small ws =
    let m : Memory = s.memory in
    let t : List Event = s.trace in
    let w : Whole = Gives [] (Writing a v) m in
    let p : Part = Begins (no_wr a v) in
    let base : List Event = St csmode 2 ∷ [] in
    let part : (k : List Event) → Begins (broken_off (write_bytes a v)) k → p (base ++ k) = λ k h. transaction_begins (broken_off (write_bytes a v)) k h in
    let b4 : ℕ = v % 256 in
    let b5 : ℕ = v / 256 % 256 in
    let b6 : ℕ = v / 65536 % 256 in
    let b7 : ℕ = v / 16777216 % 256 in
    let is_byte : (b c : ℕ) (d : ℕ) (u : State) → b ≡ c → AreWords u.replies → Returns u (x_ ∷ e_ ∷ []) (Exchange c d) (Cut c d) (call spi_xchg (b ∷ d ∷ []) (x_ ∷ e_ ∷ []) u) =
    λ b c d u e h. subst (λ (q : ℕ). Returns u (x_ ∷ e_ ∷ []) (Exchange q d) (Cut q d) (call spi_xchg (b ∷ d ∷ []) (x_ ∷ e_ ∷ []) u)) e (ok b d x_ u h) in
    let s0 : State = record s { variables = put v_ (Some v) (put a_ (Some a) no_variables); trace = s.trace ++ base } in
    exchange_then t base s0 x_ 2 0 (free_xchgs []) (λ r. free_xchgs (2 ∷ [])) [] (a / 256 ∷ a % 256 ∷ b4 ∷ b5 ∷ b6 ∷ b7 ∷ []) [] w p _ (λ k h. h) (free_more [] 2) part
    (λ r1 d1 m1 q1 f1 w1 z1 g1.
    let s1 : State = next s0 r1 d1 m1 q1 f1 in
    exchange_then t base s1 x_ (a / 256) d1 (free_xchgs (2 ∷ [])) (λ r. free_xchgs (2 ∷ a / 256 ∷ [])) (2 ∷ []) (a % 256 ∷ b4 ∷ b5 ∷ b6 ∷ b7 ∷ []) ([] ++ m1) w p _ (λ k h. h) (free_more (2 ∷ []) (a / 256)) part
    (λ r2 d2 m2 q2 f2 w2 z2 g2.
    let s2 : State = next s1 r2 d2 m2 q2 f2 in
    exchange_then t base s2 x_ (a % 256) d2 (free_xchgs (2 ∷ a / 256 ∷ [])) (λ r. free_xchgs (2 ∷ a / 256 ∷ a % 256 ∷ [])) (2 ∷ a / 256 ∷ []) (b4 ∷ b5 ∷ b6 ∷ b7 ∷ []) (([] ++ m1) ++ m2) w p _ (λ k h. h) (free_more (2 ∷ a / 256 ∷ []) (a % 256)) part
    (λ r3 d3 m3 q3 f3 w3 z3 g3.
    let s3 : State = next s2 r3 d3 m3 q3 f3 in
    exchange_then t base s3 x_ b4 d3 (free_xchgs (2 ∷ a / 256 ∷ a % 256 ∷ [])) (λ r. free_xchgs (2 ∷ a / 256 ∷ a % 256 ∷ b4 ∷ [])) (2 ∷ a / 256 ∷ a % 256 ∷ []) (b5 ∷ b6 ∷ b7 ∷ []) ((([] ++ m1) ++ m2) ++ m3) w p _ (λ k h. h) (free_more (2 ∷ a / 256 ∷ a % 256 ∷ []) b4) part
    (λ r4 d4 m4 q4 f4 w4 z4 g4.
    let s4 : State = next s3 r4 d4 m4 q4 f4 in
    exchange_then t base s4 x_ b5 d4 (free_xchgs (2 ∷ a / 256 ∷ a % 256 ∷ b4 ∷ [])) (λ r. free_xchgs (2 ∷ a / 256 ∷ a % 256 ∷ b4 ∷ b5 ∷ [])) (2 ∷ a / 256 ∷ a % 256 ∷ b4 ∷ []) (b6 ∷ b7 ∷ []) (((([] ++ m1) ++ m2) ++ m3) ++ m4) w p _ (λ k h. h) (free_more (2 ∷ a / 256 ∷ a % 256 ∷ b4 ∷ []) b5) part
    (λ r5 d5 m5 q5 f5 w5 z5 g5.
    let s5 : State = next s4 r5 d5 m5 q5 f5 in
    exchange_then t base s5 x_ b6 d5 (free_xchgs (2 ∷ a / 256 ∷ a % 256 ∷ b4 ∷ b5 ∷ [])) (λ r. free_xchgs (2 ∷ a / 256 ∷ a % 256 ∷ b4 ∷ b5 ∷ b6 ∷ [])) (2 ∷ a / 256 ∷ a % 256 ∷ b4 ∷ b5 ∷ []) (b7 ∷ []) ((((([] ++ m1) ++ m2) ++ m3) ++ m4) ++ m5) w p _ (λ k h. h) (free_more (2 ∷ a / 256 ∷ a % 256 ∷ b4 ∷ b5 ∷ []) b6) part
    (λ r6 d6 m6 q6 f6 w6 z6 g6.
    let s6 : State = next s5 r6 d6 m6 q6 f6 in
    exchange_then t base s6 x_ b7 d6 (free_xchgs (2 ∷ a / 256 ∷ a % 256 ∷ b4 ∷ b5 ∷ b6 ∷ [])) (λ r. free_xchgs (write_bytes a v)) (2 ∷ a / 256 ∷ a % 256 ∷ b4 ∷ b5 ∷ b6 ∷ []) [] (((((([] ++ m1) ++ m2) ++ m3) ++ m4) ++ m5) ++ m6) w p _ (λ k h. h) (free_more (2 ∷ a / 256 ∷ a % 256 ∷ b4 ∷ b5 ∷ b6 ∷ []) b7) part
    (λ r7 d7 m7 q7 f7 w7 z7 g7.
    let s7 : State = next s6 r7 d7 m7 q7 f7 in
    ending n t m a v s7 ((((((([] ++ m1) ++ m2) ++ m3) ++ m4) ++ m5) ++ m6) ++ m7) d7 z7 w7 refl refl g7)
    _ z6 g6 (is_byte (v / 16777216) b7 d6 s6 (high_byte_is v small) w6))
    _ z5 g5 (is_byte (bit_and (v / 65536) 255) b6 d5 s5 (low_byte_is (v / 65536)) w5))
    _ z4 g4 (is_byte (bit_and (v / 256) 255) b5 d4 s4 (low_byte_is (v / 256)) w4))
    _ z3 g3 (is_byte (bit_and v 255) b4 d3 s3 (low_byte_is v) w3))
    _ z2 g2 (is_byte (bit_and a 255) (a % 256) d2 s2 (low_byte_is a) w2))
    _ z1 g1 (ok (a / 256) d1 x_ s1 w1))
    _ refl (fine refl) (ok 2 0 x_ s0 ws)
