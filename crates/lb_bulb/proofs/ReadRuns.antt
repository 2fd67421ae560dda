-- lan_read reads a register, or never comes back.
use Rattle.std.proofs.Common.{◌≡◌, ℕ, ◌+◌, ◌*◌, ◌/◌, ◌%◌, ◌<◌, List, [], ◌∷◌, ◌++◌, Option, Some, Ok, refl, sym, ap, ◌∙◌, subst, arith, bit_and, bit_or}
use Rattle.lb_word.specs.Word.{slu_of}
use Rattle.lb_word.specs.Bytes.{bytes_of_word}
use Rattle.lb_syntax.specs.Names.{Text}
use Rattle.lb_syntax.specs.Tree.{Variable}
use Rattle.lb_syntax.specs.WellFormed.{IsWord}
use Rattle.lb_trace.specs.declared.Event.{Event}
use Rattle.lb_trace.specs.declared.Event.TheVariants.{St}
use Rattle.lb_source.specs.Maps.{Memory, put, no_variables}
use Rattle.lb_source.specs.Value.{or_unset}
use Rattle.lb_source.specs.Run.{State, Outcome, Goes, then_do, set, Caller, turns}
use Rattle.lb_grammar.specs.Forms.{Sequence, Is, Begins}
use Rattle.lb_grammar.specs.Grammar.{csmode, free_xchgs, answers, broken_off, read_head, no_rd}
use Rattle.lb_bulb.proofs.FormLemmas.{answer_byte}
use Rattle.lb_bulb.proofs.FormLemmas.{member_begins}
use Rattle.lb_bulb.specs.Supplied.{a_, e_, v_, x_, spi_xchg}
use Rattle.lb_bulb.proofs.Does.{AreWords, Does, goes, stops, Returns, Gives, Exchange, Cut, Reading, read}
use Rattle.lb_bulb.proofs.Statements.{ReadLaw}
use Rattle.lb_bulb.proofs.Rules.{Whole, Part, longer, loop_ends, stands}
use Rattle.lb_bulb.proofs.Bytes.{low_byte_is, joined_word, word_bytes}
use Rattle.lb_bulb.proofs.Transactions.{Progress, fine, vain, transaction_is, transaction_begins, exchange_then, free_more, partly, partly_free, partly_more, last_free_more}

abbrev rest_of : ℕ → List ℕ
rest_of a = a / 256 ∷ a % 256 ∷ 0 ∷ 0 ∷ 0 ∷ 0 ∷ 0 ∷ []

abbrev all_of : ℕ → List ℕ
all_of a = 0x0B ∷ rest_of a

-- the state after an exchange
abbrev next : State → Text → ℕ → ℕ → List Event → List ℕ → ℕ → State
next s x r d m qs f = record s { variables = put e_ (Some d) (put x (Some r) s.variables); replies = qs; trace = s.trace ++ m; fuel = f }

is_read : (a b0 b1 b2 b3 w : ℕ) (l : List Event) → w ≡ bit_or (bit_or (bit_or b0 (slu_of b1 8)) (slu_of b2 16)) (slu_of b3 24) → Is (partly (read_head a) (b0 ∷ b1 ∷ b2 ∷ b3 ∷ [])) l
    → Reading a (w ∷ []) (St csmode 2 ∷ (l ++ St csmode 0 ∷ []))
is_read a b0 b1 b2 b3 w l e j =
    let as_ : Is (answers (b0 ∷ b1 ∷ b2 ∷ b3 ∷ [])) j.back = j.second in
    let h0 : b0 < 256 = answer_byte 0 b0 as_.front as_.first in
    let h1 : b1 < 256 = answer_byte 0 b1 as_.second.front as_.second.first in
    let h2 : b2 < 256 = answer_byte 0 b2 as_.second.second.front as_.second.second.first in
    let h3 : b3 < 256 = answer_byte 0 b3 as_.second.second.second.front as_.second.second.second.first in
    let z : w ≡ b0 + 256 * b1 + 65536 * b2 + 16777216 * b3 = e ∙ joined_word b0 b1 b2 b3 h0 h1 h2 h3 in
    let below : IsWord w = omega (arith, z) in
    let y : bytes_of_word w ≡ b0 ∷ b1 ∷ b2 ∷ b3 ∷ [] = word_bytes b0 b1 b2 b3 w h0 h1 h2 h3 z in
    read below (transaction_is (Sequence (free_xchgs (read_head a)) (answers (bytes_of_word w))) l (subst (λ (bs : List ℕ). Is (partly (read_head a) bs) l) (sym y) j))

module _ (call : Caller) (n : ℕ) (t : List Event) (m : Memory) (a : ℕ) where
  abbrev whole : Whole
  whole = Gives (v_ ∷ []) (Reading a) m

  -- the end of the transaction
  ending : (u : State) (l : List Event) (d b0 b1 b2 b3 w : ℕ) → u.trace ≡ t ++ (St csmode 2 ∷ l) → AreWords u.replies → u.variables e_ ≡ Some d → u.variables v_ ≡ Some w → u.memory ≡ m
      → w ≡ bit_or (bit_or (bit_or b0 (slu_of b1 8)) (slu_of b2 16)) (slu_of b3 24) → Progress (partly (read_head a) (b0 ∷ b1 ∷ b2 ∷ b3 ∷ [])) (all_of a) d l
      → Does t whole (Begins (no_rd a)) (then_do (turns n (Variable e_) (λ s. Goes s) (record u { trace = u.trace ++ St csmode 0 ∷ [] })) (λ s. Goes s))
  ending u l d b0 b1 b2 b3 w z ws ed ev em ew (fine h) =
      let x : State = record u { trace = u.trace ++ St csmode 0 ∷ [] } in
      subst (λ (o : Outcome). Does t whole (Begins (no_rd a)) (then_do o (λ s. Goes s))) (sym (loop_ends n (Variable e_) (λ s. Goes s) x (ap (λ (o : Option ℕ). or_unset o) ed)))
      (goes (St csmode 2 ∷ (l ++ St csmode 0 ∷ [])) (longer t (St csmode 2 ∷ l) (St csmode 0 ∷ []) z) ws
      (record { values = w ∷ []; is = is_read a b0 b1 b2 b3 w l ew h; given = ap (λ (o : Option ℕ). Rattle.lb_source.specs.Value.before (or_unset o) (Ok [])) ev; memory = em }))
  ending u l d b0 b1 b2 b3 w z ws ed ev em ew (vain h) =
      let x : State = record u { trace = u.trace ++ St csmode 0 ∷ [] } in
      let no : Is (no_rd a) (St csmode 2 ∷ (l ++ St csmode 0 ∷ [])) = transaction_is (broken_off (all_of a)) l h in
      subst (λ (o : Outcome). Does t whole (Begins (no_rd a)) (then_do o (λ s. Goes s))) (sym (stands n e_ x 0 ed))
      (stops (St csmode 2 ∷ (l ++ St csmode 0 ∷ [])) (longer t (St csmode 2 ∷ l) (St csmode 0 ∷ []) z) (member_begins (no_rd a) _ no) tt)

pub read_runs : ReadLaw
read_runs call ok n os a s ws =
    let m : Memory = s.memory in
    let t : List Event = s.trace in
    let w : Whole = Gives (v_ ∷ []) (Reading a) m in
    let p : Part = Begins (no_rd a) in
    let base : List Event = St csmode 2 ∷ [] in
    let part : (k : List Event) → Begins (broken_off (all_of a)) k → p (base ++ k) = λ k h. transaction_begins (broken_off (all_of a)) k h in
    let four : List ℕ = read_head a in
    let s0 : State = record s { variables = put a_ (Some a) no_variables; trace = s.trace ++ base } in
    exchange_then t base s0 x_ 11 0 (free_xchgs []) (λ r. free_xchgs (11 ∷ [])) [] (rest_of a) [] w p _ (λ k h. h) (λ r k l h i. free_more [] 11 r k l h i) part
    (λ r1 d1 m1 q1 f1 w1 z1 g1.
    let s1 : State = next s0 x_ r1 d1 m1 q1 f1 in
    exchange_then t base s1 x_ (a / 256) d1 (free_xchgs (11 ∷ [])) (λ r. free_xchgs (11 ∷ a / 256 ∷ [])) (11 ∷ []) (a % 256 ∷ 0 ∷ 0 ∷ 0 ∷ 0 ∷ 0 ∷ []) ([] ++ m1) w p _ (λ k h. h) (λ r k l h i. free_more (11 ∷ []) (a / 256) r k l h i) part
    (λ r2 d2 m2 q2 f2 w2 z2 g2.
    let s2 : State = next s1 x_ r2 d2 m2 q2 f2 in
    exchange_then t base s2 x_ (a % 256) d2 (free_xchgs (11 ∷ a / 256 ∷ [])) (λ r. free_xchgs (11 ∷ a / 256 ∷ a % 256 ∷ [])) (11 ∷ a / 256 ∷ []) (0 ∷ 0 ∷ 0 ∷ 0 ∷ 0 ∷ []) (([] ++ m1) ++ m2) w p _ (λ k h. h) (λ r k l h i. free_more (11 ∷ a / 256 ∷ []) (a % 256) r k l h i) part
    (λ r3 d3 m3 q3 f3 w3 z3 g3.
    let s3 : State = next s2 x_ r3 d3 m3 q3 f3 in
    exchange_then t base s3 x_ 0 d3 (free_xchgs (11 ∷ a / 256 ∷ a % 256 ∷ [])) (λ r. partly four []) (11 ∷ a / 256 ∷ a % 256 ∷ []) (0 ∷ 0 ∷ 0 ∷ 0 ∷ []) ((([] ++ m1) ++ m2) ++ m3) w p _ (λ k h. h) (λ r k l h i. last_free_more (11 ∷ a / 256 ∷ a % 256 ∷ []) 0 r k l h i) part
    (λ r4 d4 m4 q4 f4 w4 z4 g4.
    let s4 : State = next s3 x_ r4 d4 m4 q4 f4 in
    exchange_then t base s4 v_ 0 d4 (partly four []) (λ r. partly four (r ∷ [])) four (0 ∷ 0 ∷ 0 ∷ []) (((([] ++ m1) ++ m2) ++ m3) ++ m4) w p _ (partly_free four []) (partly_more four []) part
    (λ b0 d5 m5 q5 f5 w5 z5 g5.
    let s5 : State = next s4 v_ b0 d5 m5 q5 f5 in
    exchange_then t base s5 x_ 0 d5 (partly four (b0 ∷ [])) (λ r. partly four (b0 ∷ r ∷ [])) (11 ∷ a / 256 ∷ a % 256 ∷ 0 ∷ 0 ∷ []) (0 ∷ 0 ∷ []) ((((([] ++ m1) ++ m2) ++ m3) ++ m4) ++ m5) w p _ (partly_free four (b0 ∷ [])) (partly_more four (b0 ∷ [])) part
    (λ b1 d6 m6 q6 f6 w6 z6 g6.
    let s6 : State = set v_ (bit_or b0 (slu_of b1 8)) (next s5 x_ b1 d6 m6 q6 f6) in
    exchange_then t base s6 x_ 0 d6 (partly four (b0 ∷ b1 ∷ [])) (λ r. partly four (b0 ∷ b1 ∷ r ∷ [])) (11 ∷ a / 256 ∷ a % 256 ∷ 0 ∷ 0 ∷ 0 ∷ []) (0 ∷ []) (((((([] ++ m1) ++ m2) ++ m3) ++ m4) ++ m5) ++ m6) w p _ (partly_free four (b0 ∷ b1 ∷ [])) (partly_more four (b0 ∷ b1 ∷ [])) part
    (λ b2 d7 m7 q7 f7 w7 z7 g7.
    let s7 : State = set v_ (bit_or (bit_or b0 (slu_of b1 8)) (slu_of b2 16)) (next s6 x_ b2 d7 m7 q7 f7) in
    exchange_then t base s7 x_ 0 d7 (partly four (b0 ∷ b1 ∷ b2 ∷ [])) (λ r. partly four (b0 ∷ b1 ∷ b2 ∷ r ∷ [])) (11 ∷ a / 256 ∷ a % 256 ∷ 0 ∷ 0 ∷ 0 ∷ 0 ∷ []) [] ((((((([] ++ m1) ++ m2) ++ m3) ++ m4) ++ m5) ++ m6) ++ m7) w p _ (partly_free four (b0 ∷ b1 ∷ b2 ∷ [])) (partly_more four (b0 ∷ b1 ∷ b2 ∷ [])) part
    (λ b3 d8 m8 q8 f8 w8 z8 g8.
    let v : ℕ = bit_or (bit_or (bit_or b0 (slu_of b1 8)) (slu_of b2 16)) (slu_of b3 24) in
    let s8 : State = set v_ v (next s7 x_ b3 d8 m8 q8 f8) in
    ending call n t m a s8 (((((((([] ++ m1) ++ m2) ++ m3) ++ m4) ++ m5) ++ m6) ++ m7) ++ m8) d8 b0 b1 b2 b3 v z8 w8 refl refl refl refl g8)
    _ z7 g7 (ok 0 d7 x_ s7 w7))
    _ z6 g6 (ok 0 d6 x_ s6 w6))
    _ z5 g5 (ok 0 d5 x_ s5 w5))
    _ z4 g4 (ok 0 d4 v_ s4 w4))
    _ z3 g3 (ok 0 d3 x_ s3 w3))
    _ z2 g2 (subst (λ (b : ℕ). Returns s2 (x_ ∷ e_ ∷ []) (Exchange b d2) (Cut b d2) (call spi_xchg (bit_and a 255 ∷ d2 ∷ []) (x_ ∷ e_ ∷ []) s2)) (low_byte_is a) (ok (bit_and a 255) d2 x_ s2 w2)))
    _ z1 g1 (ok (a / 256) d1 x_ s1 w1))
    _ refl (fine refl) (ok 11 0 x_ s0 ws)
