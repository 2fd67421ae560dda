-- The run of spi_xchg.
use Rattle.std.proofs.Common.{◌≡◌, ℕ, zero, suc, ◌/◌, ◌≤◌, ◌<◌, ◌^◌, inl, inr, List, [], ◌∷◌, ◌++◌, Option, Some, None, Ok, refl, sym, ap, subst, arith, bit_and, append-nil}
use Rattle.std.proofs.lemmas.Bool.Decides.{nat_tests}
use Rattle.lb_word.specs.Word.{ltu_of, sub_of, eq_of}
use Rattle.lb_syntax.specs.Tree.{Term, Number, Variable, Operation}
use Rattle.lb_syntax.specs.WellFormed.{IsWord}
use Rattle.lb_syntax.specs.declared.tree.Op.TheVariants.{And, Sub, Sru}
use Rattle.lb_syntax.specs.declared.tree.Action.TheVariants.{Write}
use Rattle.lb_trace.specs.declared.Event.{Event}
use Rattle.lb_trace.specs.declared.Event.TheVariants.{Ld, St}
use Rattle.lb_source.specs.Maps.{Memory, put, no_variables}
use Rattle.lb_source.specs.Value.{or_unset, operated, before}
use Rattle.lb_source.specs.Run.{State, Outcome, Goes, Caller, run_with, value_in, access, address_fault, set}
use Rattle.lb_grammar.specs.Forms.{Form, One, Sequence, Exactly, at_most, Repeated, none, Is, Begins}
use Rattle.lb_grammar.specs.Grammar.{txdata, rxdata, busy_load, answer_load}
use Rattle.lb_bulb.proofs.FormLemmas.{busy_test, answer_test, map_is, fewer_begin, busy_begins, sent_is, sent_begins}
use Rattle.lb_builders.specs.Registers.{reads}
use Rattle.lb_bulb.specs.Supplied.{b_, e_, n_, r_, poll, goes_on, shifted, count_down, after_sending}
use Rattle.lb_bulb.proofs.Does.{AreWords, Does, goes, Gives, Exchange, answered, gave_up, passed, Cut, within}
use Rattle.lb_bulb.proofs.Statements.{XchgLaw}
use Rattle.lb_bulb.proofs.Rules.{Whole, longer, part_does, end_does, value_then, zero_does, read_then, loop_does}
use Rattle.lb_bulb.proofs.Bytes.{low_byte_is}
use Rattle.lb_bulb.proofs.Patience.{Patient, waits, Waits, still_waits, Waited, in_vain, served, has_waited, one_turn}

-- while a register is polled
pub record Polling (a b : ℕ) (m : Memory) (u : State) (l : List Event) : Type 0 where
  pub last : ℕ
  pub count : ℕ
  pub patient : Patient (busy_load a) (One (Ld a last)) (last / 2 ^ 31) count l
  pub word : IsWord last
  pub loaded : u.variables r_ ≡ Some last
  pub left : u.variables n_ ≡ Some count
  pub byte : u.variables b_ ≡ Some b
  pub memory : u.memory ≡ m

-- after it
pub record Polled (a b : ℕ) (m : Memory) (u : State) (l : List Event) : Type 0 where
  pub last : ℕ
  pub waited : Waited (busy_load a) (One (Ld a last)) (last / 2 ^ 31) l
  pub word : IsWord last
  pub loaded : u.variables r_ ≡ Some last
  pub byte : u.variables b_ ≡ Some b
  pub memory : u.memory ≡ m

at_most_one : (v : ℕ) → IsWord v → v / 2 ^ 31 ≤ 1
at_most_one v h = omega arith

bit_set : (a v : ℕ) → IsWord v → v / 2 ^ 31 ≡ 1 → Is (busy_load a) (Ld a v ∷ [])
bit_set a v h e = let i : 2 ^ 31 ≤ v = omega (arith, e) in (v, busy_test v i h, refl)

module _ (call : Caller) (bound : ℕ) (os : List ℕ) (a b : ℕ) (m : Memory) (known : address_fault a ≡ None) where
  abbrev poll_test : Term
  poll_test = goes_on (shifted r_ 31)

  abbrev body : State → Outcome
  body = run_with call bound os (Rattle.lb_syntax.specs.Tree.chain (reads r_ a ∷ count_down ∷ []))

  abbrev test : (u : State) (l : List Event) → Polling a b m u l → ℕ
  test u l i = bit_and (i.last / 2 ^ 31) (ltu_of 0 i.count)

  tests : (u : State) (l : List Event) (i : Polling a b m u l) → value_in u poll_test ≡ Ok (test u l i)
  tests u l i = rw (i.loaded, i.left) refl

  spent : (u : State) (l : List Event) (i : Polling a b m u l) (k : ℕ) → test u l i ≡ suc k → Begins (Exactly 1000 (busy_load a)) l
  spent u l i k z =
      let w : Waits (busy_load a) (i.last / 2 ^ 31) i.count l = still_waits (busy_load a) (One (Ld a i.last)) (i.last / 2 ^ 31) i.count k l i.patient z in
      fewer_begin w.count 1000 (busy_load a) l (omega (arith, w.sum, w.left)) (busy_begins a) w.turns

  done : (u : State) (l : List Event) (i : Polling a b m u l) → test u l i ≡ 0 → Polled a b m u l
  done u l i z = record {
    last = i.last;
    waited = has_waited (busy_load a) (One (Ld a i.last)) (i.last / 2 ^ 31) i.count l i.patient z;
    word = i.word;
    loaded = i.loaded;
    byte = i.byte;
    memory = i.memory;
  }

  turn : (t : List Event) (u : State) (l : List Event) (i : Polling a b m u l) (g k : ℕ) → u.trace ≡ t ++ l → AreWords u.replies → test u l i ≡ suc k
      → Does t (Polling a b m) (Begins (Exactly 1000 (busy_load a))) (body (record u { fuel = g }))
  turn t u l i g k q ws z =
      let w : Waits (busy_load a) (i.last / 2 ^ 31) i.count l = still_waits (busy_load a) (One (Ld a i.last)) (i.last / 2 ^ 31) i.count k l i.patient z in
      let w1 : Waits (busy_load a) 1 i.count l = record { count = w.count; sum = w.sum; left = w.left; turns = w.turns; set = refl } in
      read_then r_ a (record u { fuel = g }) t l (Polling a b m) (Begins (Exactly 1000 (busy_load a))) _ known q ws (spent u l i k z)
      (λ v qs h hs.
      let x : State = set r_ v (record u { fuel = g; replies = qs; trace = u.trace ++ Ld a v ∷ [] }) in
      value_then (operated Sub (or_unset (u.variables n_)) (Ok 1)) (sub_of i.count 1) x t (Polling a b m) (Begins (Exactly 1000 (busy_load a))) (λ c. Goes (set n_ c x)) (λ y. Goes y)
      (ap (λ (o : Option ℕ). operated Sub (or_unset o) (Ok 1)) i.left)
      (goes (l ++ Ld a v ∷ []) (longer t l (Ld a v ∷ []) q) hs
      (record {
        last = v;
        count = sub_of i.count 1;
        patient = one_turn (busy_load a) (One (Ld a v)) (v / 2 ^ 31) i.count l (Ld a v ∷ []) w1 (at_most_one v h) (bit_set a v h) (λ e. refl);
        word = h;
        loaded = refl;
        left = refl;
        byte = i.byte;
        memory = i.memory;
      })))

  -- a register is polled, at most 1,000 times
  pub poll_does : (u : State) → AreWords u.replies → u.variables r_ ≡ Some 0x8000_0000 → u.variables n_ ≡ Some 1000 → u.variables b_ ≡ Some b → u.memory ≡ m
      → Does u.trace (Polled a b m) (Begins (Exactly 1000 (busy_load a))) (run_with call bound os (poll a) u)
  poll_does u ws er en eb em =
      loop_does u.trace poll_test body (Polling a b m) (Polled a b m) (Begins (Exactly 1000 (busy_load a))) test tests spent done (turn u.trace) bound u [] (sym (append-nil u.trace)) ws
      (record { last = 0x8000_0000; count = 1000; patient = waits 0 refl (none refl); word = omega arith; loaded = er; left = en; byte = eb; memory = em })

-- the flag of a wait
served_flag : (again end : Form) (q : ℕ) (l : List Event) (k : ℕ) → Waited again end q l → eq_of q 0 ≡ suc k → Is (Sequence (at_most 999 again) end) l
served_flag again end q l k (in_vain t) z = absurd (let y : 0 ≡ suc k = z in omega (arith, y))
served_flag again end q l k (served i) z = i

record InVain (again : Form) (q : ℕ) (l : List Event) : Type 0 where
  flag : q ≡ 1
  all : Repeated (Is again) 1000 l

vain_flag : (again end : Form) (q : ℕ) (l : List Event) → Waited again end q l → eq_of q 0 ≡ 0 → InVain again q l
vain_flag again end q l (in_vain t) z = record { flag = refl; all = t }
vain_flag again end q l (served i) z = absurd (let y : 1 ≡ 0 = z in omega (arith, y))

ready_after : (again : Form) (a v : ℕ) (q : ℕ) (l : List Event) → q ≡ v / 2 ^ 31 → IsWord v → Waited again (One (Ld a v)) q l → (k : ℕ) → eq_of q 0 ≡ suc k → v < 2 ^ 31
ready_after again a v q l e h (in_vain t) k z = absurd (let y : 0 ≡ suc k = z in omega (arith, y))
ready_after again a v q l e h (served i) k z = omega (arith, e)

-- after the byte was sent
last_part : (b v q : ℕ) (l1 l2 : List Event) (first : ℕ) → q ≡ v / 2 ^ 31 → IsWord v → first < 2 ^ 31 → Is (Sequence (at_most 999 (busy_load txdata)) (One (Ld txdata first))) l1
    → Waited (busy_load rxdata) (One (Ld rxdata v)) q l2 → Exchange b 0 (bit_and v 255 ∷ q ∷ []) ((l1 ++ St txdata b ∷ []) ++ l2)
last_part b v q l1 l2 first e h f i (in_vain t) = gave_up (inr (sent_is b first (Exactly 1000 (busy_load rxdata)) l1 l2 f i t))
last_part b v q l1 l2 first e h f i (served j) =
    let small : v < 2 ^ 31 = omega (arith, e) in
    let r : ℕ = bit_and v 255 in
    answered (sent_is b first (Sequence (at_most 999 (busy_load rxdata)) (answer_load r)) l1 l2 f i
    (map_is (at_most 999 (busy_load rxdata)) (One (Ld rxdata v)) (answer_load r) l2 (λ q g. (v, answer_test v r small (sym (low_byte_is v)), g)) j))

module _ (call : Caller) (n : ℕ) (os : List ℕ) (b : ℕ) (t : List Event) (m : Memory) where
  abbrev whole : Whole
  whole = Gives (r_ ∷ e_ ∷ []) (Exchange b 0) m

  -- the second half, in a state where the flag is clear
  second : (u : State) (l1 : List Event) (first : ℕ) → u.trace ≡ t ++ l1 → AreWords u.replies → u.variables b_ ≡ Some b → u.memory ≡ m → first < 2 ^ 31
      → Is (Sequence (at_most 999 (busy_load txdata)) (One (Ld txdata first))) l1 → Does t whole (Cut b 0) (run_with call n os after_sending u)
  second u l1 first z ws eb em f i =
      let x : State = record u { trace = u.trace ++ St txdata b ∷ [] } in
      value_then (before (Ok txdata) (before (or_unset (u.variables b_)) (Ok []))) (txdata ∷ b ∷ []) u t whole (Cut b 0) (λ vs. access Write [] vs u) _
      (ap (λ (o : Option ℕ). before (Ok txdata) (before (or_unset o) (Ok []))) eb)
      (part_does t (u.trace ++ St txdata b ∷ []) (l1 ++ St txdata b ∷ []) (Polled rxdata b m) whole (Begins (Exactly 1000 (busy_load rxdata))) (Cut b 0) _ _ (longer t l1 (St txdata b ∷ []) z)
      (λ l2 c. within (inr (sent_begins b first (Exactly 1000 (busy_load rxdata)) l1 l2 f i c)))
      (λ y l2 q hs p.
      value_then (operated Sru (or_unset (y.variables r_)) (Ok 31)) (p.last / 2 ^ 31) y t whole (Cut b 0) (λ v. Goes (set e_ v y)) _ (ap (λ (o : Option ℕ). operated Sru (or_unset o) (Ok 31)) p.loaded)
      (value_then (operated And (or_unset (y.variables r_)) (Ok 255)) (bit_and p.last 255) (set e_ (p.last / 2 ^ 31) y) t whole (Cut b 0) (λ v. Goes (set r_ v (set e_ (p.last / 2 ^ 31) y))) (λ x. Goes x) (ap (λ (o : Option ℕ). operated And (or_unset o) (Ok 255)) p.loaded)
      (goes ((l1 ++ St txdata b ∷ []) ++ l2) q hs
      (record { values = bit_and p.last 255 ∷ p.last / 2 ^ 31 ∷ []; is = last_part b p.last (p.last / 2 ^ 31) l1 l2 first refl p.word f i p.waited; given = refl; memory = p.memory }))))
      (poll_does call n os rxdata b m refl (set r_ 0x8000_0000 (set n_ 1000 x)) ws refl refl eb em))

not_zero : (e k : ℕ) → eq_of (suc e) 0 ≡ suc k → ⊥
not_zero e k z = grind (arith, nat_tests)

pub xchg_runs : XchgLaw
xchg_runs call n os b zero s ws =
    let s0 : State = record s { variables = put r_ (Some 0) (put e_ (Some 0) (put b_ (Some b) no_variables)) } in
    let s1 : State = set r_ 0x8000_0000 (set n_ 1000 s0) in
    let w : Whole = Gives (r_ ∷ e_ ∷ []) (Exchange b 0) s.memory in
    end_does s.trace w (Cut b 0) _
    (part_does s.trace s.trace [] (Polled txdata b s.memory) w (Begins (Exactly 1000 (busy_load txdata))) (Cut b 0) _ _ (sym (append-nil s.trace))
    (λ l c. within (inl c))
    (λ u l q hs p.
    let v : ℕ = p.last in
    let u1 : State = set e_ (v / 2 ^ 31) u in
    value_then (operated Sru (or_unset (u.variables r_)) (Ok 31)) (v / 2 ^ 31) u s.trace w (Cut b 0) (λ v. Goes (set e_ v u)) _ (ap (λ (o : Option ℕ). operated Sru (or_unset o) (Ok 31)) p.loaded)
    (end_does s.trace w (Cut b 0) _
    (zero_does (eq_of (v / 2 ^ 31) 0) s.trace w (Cut b 0) (Goes u1) _
    (λ z.
    let j : InVain (busy_load txdata) (v / 2 ^ 31) l = vain_flag (busy_load txdata) (One (Ld txdata v)) (v / 2 ^ 31) l p.waited z in
    goes l q hs (record {
      values = v ∷ v / 2 ^ 31 ∷ [];
      is = subst (λ (f : ℕ). Exchange b 0 (v ∷ f ∷ []) l) (sym j.flag) (gave_up (inl j.all));
      given = ap (λ (o : Option ℕ). before (or_unset o) (Ok (v / 2 ^ 31 ∷ []))) p.loaded;
      memory = p.memory;
    }))
    (λ k z. second call n os b s.trace s.memory u1 l v q hs p.byte p.memory (ready_after (busy_load txdata) txdata v (v / 2 ^ 31) l refl p.word p.waited k z)
    (served_flag (busy_load txdata) (One (Ld txdata v)) (v / 2 ^ 31) l k p.waited z)))))
    (poll_does call n os txdata b s.memory refl s1 ws refl refl refl refl))
xchg_runs call n os b (suc e) s ws =
    let s0 : State = record s { variables = put r_ (Some 0) (put e_ (Some (suc e)) (put b_ (Some b) no_variables)) } in
    let w : Whole = Gives (r_ ∷ e_ ∷ []) (Exchange b (suc e)) s.memory in
    end_does s.trace w (Cut b (suc e)) _
    (zero_does (eq_of (suc e) 0) s.trace w (Cut b (suc e)) (Goes s0) _
    (λ z. goes [] (sym (append-nil s.trace)) ws (record { values = 0 ∷ suc e ∷ []; is = passed refl; given = refl; memory = refl }))
    (λ k z. absurd (not_zero e k z)))
