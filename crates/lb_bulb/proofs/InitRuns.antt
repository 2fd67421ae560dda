-- init boots the appliance, or never comes back.
use Rattle.std.proofs.Common.{◌≡◌, ℕ, ◌≤◌, ◌<◌, ◌^◌, ◌/◌, ◌==◌, ◌&&◌, not, IsTrue, inl, inr, List, [], ◌∷◌, ◌++◌, Option, Some, Ok, refl, ap, subst, arith, append_assoc}
use Rattle.std.proofs.lemmas.Bool.Decides.{nat_tests}
use Rattle.lb_word.specs.Word.{eq_of}
use Rattle.lb_syntax.specs.WellFormed.{IsWord}
use Rattle.lb_syntax.specs.declared.tree.Op.TheVariants.{Eq, Sru}
use Rattle.lb_trace.specs.declared.Event.{Event}
use Rattle.lb_trace.specs.declared.Event.TheVariants.{St}
use Rattle.lb_source.specs.Maps.{Memory, no_variables}
use Rattle.lb_source.specs.Value.{or_unset, operated}
use Rattle.lb_source.specs.Run.{State, Goes, Caller, run_with, value_in, then_do, set}
use Rattle.lb_grammar.specs.Forms.{Form, One, Sequence, Exactly, Any, at_most, Is, Begins}
use Rattle.lb_grammar.specs.Grammar.{is_word, is_ready, rd, no_rd, wr, no_wr, pins, vain, busy, found, set_up, no_boot}
use Rattle.lb_bulb.proofs.FormLemmas.{busy_test, ready_test, then_is, then_begins, assoc_is, assoc_begins}
use Rattle.lb_bulb.proofs.FormLemmas.{member_begins}
use Rattle.lb_bulb.specs.Supplied.{bad_, n_, v_, is_vain, shifted, init_body}
use Rattle.lb_bulb.proofs.Does.{AreWords, Does, goes, Gives, ReadOk, Writing, wrote, WriteOk}
use Rattle.lb_bulb.proofs.Statements.{Booted, InitLaw}
use Rattle.lb_bulb.proofs.Rules.{Whole, part_does, call_then}
use Rattle.lb_bulb.proofs.Tries.{Tried, tries_do, wait_over}

-- ---- the two tests

abbrev vain_flag : ℕ → ℕ
vain_flag v = eq_of (eq_of v 0x8765_4321) 0

vain_computes : (u : State) (v : ℕ) → u.variables v_ ≡ Some v → value_in u is_vain ≡ Ok (vain_flag v)
vain_computes u v h = ap (λ (o : Option ℕ). operated Eq (operated Eq (or_unset o) (Ok 0x8765_4321)) (Ok 0)) h

vain_small : (v : ℕ) → IsWord v → vain_flag v ≤ 1
vain_small v h = grind (arith, nat_tests)

vain_test : (v : ℕ) → IsWord v → vain_flag v ≡ 1 → IsTrue (is_word v && not (v == 0x8765_4321))
vain_test v h e = grind (arith, nat_tests)

found_value : (v : ℕ) → vain_flag v ≡ 0 → v ≡ 0x8765_4321
found_value v e = grind (arith, nat_tests)

is_vain_read : (v : ℕ) (k : List Event) → IsWord v → Is (rd 0x64 v) k → vain_flag v ≡ 1 → Is vain k
is_vain_read v k h r e = (v, vain_test v h e, r)

is_found_read : (v : ℕ) (k : List Event) → IsWord v → Is (rd 0x64 v) k → vain_flag v ≡ 0 → Is (rd 0x64 0x8765_4321) k
is_found_read v k h r e = subst (λ (x : ℕ). Is (rd 0x64 x) k) (found_value v e) r

abbrev busy_flag : ℕ → ℕ
busy_flag v = v / 2 ^ 31

busy_computes : (u : State) (v : ℕ) → u.variables v_ ≡ Some v → value_in u (shifted v_ 31) ≡ Ok (busy_flag v)
busy_computes u v h = ap (λ (o : Option ℕ). operated Sru (or_unset o) (Ok 31)) h

busy_small : (v : ℕ) → IsWord v → busy_flag v ≤ 1
busy_small v h = omega (arith, h)

is_busy_read : (v : ℕ) (k : List Event) → IsWord v → Is (rd 0xA4 v) k → busy_flag v ≡ 1 → Is busy k
is_busy_read v k h r e = let i : 2 ^ 31 ≤ v = omega (arith, e) in (v, busy_test v i h, r)

is_ready_read : (v : ℕ) (k : List Event) → IsWord v → Is (rd 0xA4 v) k → busy_flag v ≡ 0 → Is (Any is_ready (rd 0xA4)) k
is_ready_read v k h r e = let i : v < 2 ^ 31 = omega (arith, e) in (v, ready_test v i, r)

was_written : (a v : ℕ) (vs : List ℕ) (l : List Event) → Writing a v vs l → Is (wr a v) l
was_written a v vs l (wrote h) = h

-- ---- the three writes

abbrev w1 : Form
w1 = wr 0x74 0x10_0000

abbrev w2 : Form
w2 = wr 0xA8 0x0C

abbrev w3 : Form
w3 = wr 0xA4 0x8000_0001

abbrev found1 : Form
found1 = Sequence found w1

abbrev found2 : Form
found2 = Sequence found1 w2

set_is : (l : List Event) → Is (Sequence found2 w3) l → Is set_up l
set_is l h = assoc_is found w1 (Sequence w2 w3) l (assoc_is found1 w2 w3 l h)

module _ (call : Caller) (reads : ReadOk call) (writes : WriteOk call) (n : ℕ) (os : List ℕ) (t : List Event) (m : Memory) where
  abbrev whole : Whole
  whole = Gives [] Booted m

  -- the last wait, in a state that is set up
  last_wait : (u : State) (l : List Event) → u.trace ≡ t ++ l → AreWords u.replies → u.variables n_ ≡ Some 1000 → u.variables bad_ ≡ Some 1 → u.memory ≡ m → Is set_up l
      → Does t whole (Begins no_boot) (then_do (run_with call n os (Rattle.lb_bulb.specs.Supplied.until 0xA4 (shifted v_ 31)) u) (λ x. then_do (run_with call n os (Rattle.lb_bulb.specs.Supplied.stands_still bad_) x) (λ y. Goes y)))
  last_wait u l z ws en eb em h =
      part_does t u.trace l (Tried busy (Any is_ready (rd 0xA4)) m) whole (Begins (Sequence (at_most 999 busy) (no_rd 0xA4))) (Begins no_boot) _ _ z
      (λ k c. inr (inr (inr (inr (inr (inl (then_begins set_up (Sequence (at_most 999 busy) (no_rd 0xA4)) l k h c)))))))
      (λ x k q hs f.
      wait_over n t l k x f.flag busy (Any is_ready (rd 0xA4)) whole (Begins no_boot) (λ y. Goes y) q f.bad f.waited
      (λ c. inr (inr (inr (inr (inr (inr (member_begins (Sequence set_up (Exactly 1000 busy)) (l ++ k) (then_is set_up (Exactly 1000 busy) l k h c))))))))
      (λ c. goes (l ++ k) q hs (record { values = []; is = then_is set_up (Sequence (at_most 999 busy) (Any is_ready (rd 0xA4))) l k h c; given = refl; memory = f.memory })))
      (tries_do call reads n os 0xA4 (shifted v_ 31) busy_flag busy (Any is_ready (rd 0xA4)) m busy_computes busy_small is_busy_read is_ready_read u ws en eb em)

  -- the writes, in a state where the chip was found
  set_does : (u : State) (l : List Event) → u.trace ≡ t ++ l → AreWords u.replies → u.memory ≡ m → Is found l
      → Does t whole (Begins no_boot) (run_with call n os Rattle.lb_bulb.specs.Supplied.setting_up u)
  set_does u l z ws em h =
      call_then u [] (Writing 0x74 0x10_0000) (Begins (no_wr 0x74 0x10_0000)) _ _ t l whole (Begins no_boot) z
      (λ k c. inr (inr (inl (then_begins found (no_wr 0x74 0x10_0000) l k h c))))
      (λ vs1 k1 q1 f1 ws1 r1 z1.
      let u1 : State = record u { replies = q1; trace = u.trace ++ k1; fuel = f1 } in
      let h1 : Is found1 (l ++ k1) = then_is found w1 l k1 h (was_written _ _ vs1 k1 r1) in
      call_then u1 [] (Writing 0xA8 0x0C) (Begins (no_wr 0xA8 0x0C)) _ _ t (l ++ k1) whole (Begins no_boot) z1
      (λ k c. inr (inr (inr (inl (assoc_begins found w1 (no_wr 0xA8 0x0C) _ (then_begins found1 (no_wr 0xA8 0x0C) (l ++ k1) k h1 c))))))
      (λ vs2 k2 q2 f2 ws2 r2 z2.
      let u2 : State = record u1 { replies = q2; trace = u1.trace ++ k2; fuel = f2 } in
      let h2 : Is found2 ((l ++ k1) ++ k2) = then_is found1 w2 (l ++ k1) k2 h1 (was_written _ _ vs2 k2 r2) in
      call_then u2 [] (Writing 0xA4 0x8000_0001) (Begins (no_wr 0xA4 0x8000_0001)) _ _ t ((l ++ k1) ++ k2) whole (Begins no_boot) z2
      (λ k c. inr (inr (inr (inr (inl (assoc_begins found w1 (Sequence w2 (no_wr 0xA4 0x8000_0001)) _ (assoc_begins found1 w2 (no_wr 0xA4 0x8000_0001) _ (then_begins found2 (no_wr 0xA4 0x8000_0001) ((l ++ k1) ++ k2) k h2 c))))))))
      (λ vs3 k3 q3 f3 ws3 r3 z3.
      let u3 : State = record u2 { replies = q3; trace = u2.trace ++ k3; fuel = f3 } in
      let h3 : Is (Sequence found2 w3) (((l ++ k1) ++ k2) ++ k3) = then_is found2 w3 ((l ++ k1) ++ k2) k3 h2 (was_written _ _ vs3 k3 r3) in
      last_wait (set bad_ 1 (set n_ 1000 u3)) (((l ++ k1) ++ k2) ++ k3) z3 ws3 refl refl em (set_is _ h3))
      (writes 0xA4 0x8000_0001 u2 (omega arith) ws2))
      (writes 0xA8 0x0C u1 (omega arith) ws1))
      (writes 0x74 0x10_0000 u (omega arith) ws)

pub init_runs : InitLaw
init_runs call reads writes n os s ws =
    let t : List Event = s.trace in
    let m : Memory = s.memory in
    let w : Whole = Gives [] Booted m in
    let base : List Event = St 0x1001_2038 0x3C ∷ St 0x1001_2008 0x80_0000 ∷ [] in
    let z : (s.trace ++ St 0x1001_2038 0x3C ∷ []) ++ St 0x1001_2008 0x80_0000 ∷ [] ≡ t ++ base = append_assoc s.trace (St 0x1001_2038 0x3C ∷ []) (St 0x1001_2008 0x80_0000 ∷ []) in
    let pinned : Is pins base = then_is (One (St 0x1001_2038 0x3C)) (One (St 0x1001_2008 0x80_0000)) (St 0x1001_2038 0x3C ∷ []) (St 0x1001_2008 0x80_0000 ∷ []) refl refl in
    let s0 : State = record s { variables = no_variables; trace = (s.trace ++ St 0x1001_2038 0x3C ∷ []) ++ St 0x1001_2008 0x80_0000 ∷ [] } in
    part_does t s0.trace base (Tried vain (rd 0x64 0x8765_4321) m) w (Begins (Sequence (at_most 999 vain) (no_rd 0x64))) (Begins no_boot) _ _ z
    (λ k c. inl (then_begins pins (Sequence (at_most 999 vain) (no_rd 0x64)) base k pinned c))
    (λ x k q hs f.
    wait_over n t base k x f.flag vain (rd 0x64 0x8765_4321) w (Begins no_boot) _ q f.bad f.waited
    (λ c. inr (inl (member_begins (Sequence pins (Exactly 1000 vain)) (base ++ k) (then_is pins (Exactly 1000 vain) base k pinned c))))
    (λ c. set_does call reads writes n os t m x (base ++ k) q hs f.memory (then_is pins (Sequence (at_most 999 vain) (rd 0x64 0x8765_4321)) base k pinned c)))
    (tries_do call reads n os 0x64 is_vain vain_flag vain (rd 0x64 0x8765_4321) m vain_computes vain_small is_vain_read is_found_read (set bad_ 1 (set n_ 1000 s0)) ws refl refl refl)
