-- loop makes a round, or never comes back.
use Rattle.std.proofs.Common.{IsTrue, Bool, ◌==◌, ◌≡◌, ℕ, zero, suc, ◌+◌, ◌/◌, ◌%◌, ◌≤◌, ◌<◌, ◌^◌, true, false, inl, inr, List, [], ◌∷◌, ◌++◌, length, get_or, Option, Some, Result, Ok, refl, sym, ap, ◌∙◌, subst, arith, bit_and, bit_or, append-nil, append_assoc}
use Rattle.std.proofs.lemmas.Nat.{and_mask}
use Rattle.lb_word.specs.Word.{eq_of, slu_of, ltu_of}
use Rattle.lb_syntax.specs.Tree.{Term, Number, Variable, Operation, Ends, Sets, Chooses, chain}
use Rattle.lb_syntax.specs.WellFormed.{IsWord}
use Rattle.lb_syntax.specs.declared.tree.Op.TheVariants.{And, Or, Sru, Slu, Ltu, Eq}
use Rattle.lb_builders.specs.Registers.{writes}
use Rattle.lb_syntax.specs.declared.tree.Width.TheVariants.{One}
use Rattle.lb_trace.specs.declared.Event.{Event}
use Rattle.lb_trace.specs.declared.Event.TheVariants.{Ld, St}
use Rattle.lb_source.specs.Maps.{put, no_variables}
use Rattle.lb_source.specs.Value.{or_unset, operated, loaded}
use Rattle.lb_source.specs.declared.ends.Reason.{Reason}
use Rattle.lb_source.specs.Run.{State, Outcome, Goes, Caller, run_with, value_in, then_do, at_zero, set, set_all, released, allocated}
use Rattle.lb_grammar.specs.Forms.{Form, One as OneEvent, Sequence, Any, fewer_than, Is, Begins}
use Rattle.lb_grammar.specs.Packet.{is_udp, command}
use Rattle.lb_grammar.specs.Grammar.{has_words, output_val, is_word, rd, no_rd, filled, length_of, word_count, words, fits, packet, packet_bytes, is_valid_packet, with_command, switch, round}
use Rattle.lb_bulb.proofs.FormLemmas.{few_below, some_words, then_is, then_begins, assoc_is, assoc_begins}
use Rattle.lb_bulb.specs.Supplied.{bad_, buf_, c_, i_, len_, ok_, s_, v_, byte_of, and_byte, is_zero, shifted, low_byte, receive_test, receive_body, switching, checking, filled_body, round_body, loop_body}
use Rattle.lb_bulb.proofs.Does.{AreWords, Does, goes, Reading, read, ReadOk}
use Rattle.lb_bulb.proofs.Statements.{PartOfRound, LoopLaw}
use Rattle.lb_bulb.proofs.Rules.{Whole, longer, then_does, part_does, end_does, value_then, value_does, zero_does, read_then, call_then}
use Rattle.lb_bulb.proofs.Buffer.{Holds, holds_nothing, byte_loaded}
use Rattle.lb_bulb.proofs.Receive.{bytes_all, bytes_length, Filled, Received, receive_does}
use Rattle.lb_bulb.proofs.Checks.{error_bit, is_sound, valid_is, flag, flag_clear, flag_set, tests_flag, byte_is, udp_is, or_bad, bad_of, good_flag, bad_flag, sound_length, empty_test, filled_test, status_test, fits_is, and_test, and_not_test, not_sound, not_udp, lamp_word}

-- ---- the forms of a round

-- a packet that isn't valid
invalid_round : (st : ℕ) (ws : List ℕ) (l : List Event) → IsWord st → fits st ws ≡ true → is_valid_packet st ws ≡ false → Is (packet st ws) l → Is round l
invalid_round st ws l h f v p = inr (inl (st, status_test st h, (ws, and_not_test (fits st ws) (is_valid_packet st ws) f v, p)))

valid_round : (st : ℕ) (ws : List ℕ) (l : List Event) → IsWord st → fits st ws ≡ true → is_valid_packet st ws ≡ true → Is (Sequence (packet st ws) (switch (command (packet_bytes st ws)))) l → Is round l
valid_round st ws l h f v p = inr (inr (st, status_test st h, (ws, and_test (fits st ws) (is_valid_packet st ws) f v, p)))

switch_begins : (st : ℕ) (ws : List ℕ) (l : List Event) → IsWord st → fits st ws ≡ true → is_valid_packet st ws ≡ true → Is (packet st ws) l → Begins round l
switch_begins st ws l h f v p =
    let none : Begins (switch (command (packet_bytes st ws))) [] = (0, refl, inl (inl refl)) in
    inr (inr (
      st,
      status_test st h,
      (
        ws,
        and_test (fits st ws) (is_valid_packet st ws) f v,
        subst (λ (q : List Event). Begins (Sequence (packet st ws) (switch (command (packet_bytes st ws)))) q) (append-nil l) (then_begins (packet st ws) (switch (command (packet_bytes st ws))) l [] p none),
      ),
    ))

-- ---- what is known once the packet was read

-- the packet was read, and its bytes stand in the buffer
pub record Known (base st : ℕ) (ws : List ℕ) (t l : List Event) (u : State) : Type 0 where
  pub trace : u.trace ≡ t ++ l
  pub replies : AreWords u.replies
  pub buffer : u.variables buf_ ≡ Some base
  pub holds : Holds base (bytes_all ws) u.memory

-- and the flag has this value
pub record Judged (base st bad : ℕ) (ws : List ℕ) (t l : List Event) (u : State) : Type 0 where
  pub known : Known base st ws t l u
  pub bound : u.variables len_ ≡ Some (length_of st)
  pub flag_is : u.variables bad_ ≡ Some bad

module _ (call : Caller) (n : ℕ) (base st : ℕ) (ws : List ℕ) (t l : List Event) (room : base + 1520 ≤ 2 ^ 32) (word : IsWord st) (fit : fits st ws ≡ true) (long : length_of st ≤ length (bytes_all ws))
    (p : Is (packet st ws) l) where
  abbrev W : Whole
  W u k = Is round k

  abbrev bs : List ℕ
  bs = bytes_all ws

  -- a byte of the buffer
  byte_value : (u : State) (k : ℕ) → u.variables buf_ ≡ Some base → Holds base bs u.memory → k < 43 → 43 ≤ length_of st → value_in u (byte_of k) ≡ Ok (get_or bs k 0)
  byte_value u k eb h i j =
      ap (λ (o : Option ℕ). loaded u.memory One (operated Rattle.lb_syntax.specs.declared.tree.Op.TheVariants.Add (or_unset o) (Ok k))) eb ∙ byte_loaded base k bs u.memory room (omega (arith, i)) (omega (arith, i, j, long)) h

  -- the switch
  switch_does : (os : List ℕ) (u : State) → Known base st ws t l u → 43 ≤ length_of st → is_valid_packet st ws ≡ true → Does t W PartOfRound (run_with call n os switching u)
  switch_does os u k j v =
      let b : ℕ = get_or bs 42 0 in
      let c : ℕ = b % 2 in
      let cb : bit_and b 1 ≡ c = and_mask b 1 in
      let on : Bool = c == 1 in
      let u1 : State = set c_ c u in
      value_then (operated And (value_in u (byte_of 42)) (Ok 1)) c u t W PartOfRound (λ q. Goes (set c_ q u)) _
      (ap (λ (r : Result ℕ Reason). operated And r (Ok 1)) (byte_value u 42 k.buffer k.holds (omega arith) j) ∙ ap (λ (q : ℕ). Ok q) cb)
      (read_then v_ output_val u1 t l W PartOfRound _ refl k.trace k.replies (inl (switch_begins st ws l word fit v p))
      (λ x qs h hs.
      let small : c < 2 = omega arith in
      let e : bit_or (bit_and x 0xFF7F_FFFF) (slu_of c 23) ≡ with_command x on = lamp_word x c h small in
      let u2 : State = set v_ x (record u1 { replies = qs; trace = u.trace ++ Ld output_val x ∷ [] }) in
      let z : (u.trace ++ Ld output_val x ∷ []) ++ St output_val (with_command x on) ∷ [] ≡ t ++ (l ++ Ld output_val x ∷ St output_val (with_command x on) ∷ []) =
      longer t (l ++ Ld output_val x ∷ []) (St output_val (with_command x on) ∷ []) (longer t l (Ld output_val x ∷ []) k.trace) ∙ ap (λ (q : List Event). t ++ q) (append_assoc l (Ld output_val x ∷ []) (St output_val (with_command x on) ∷ [])) in
      let s : Is (switch on) (Ld output_val x ∷ St output_val (with_command x on) ∷ []) =
      (x, status_test x h, then_is (OneEvent (Ld output_val x)) (OneEvent (St output_val (with_command x on))) (Ld output_val x ∷ []) (St output_val (with_command x on) ∷ []) refl refl) in
      let b_is : on ≡ command (packet_bytes st ws) = ap (λ (q : ℕ). q % 2 == 1) (sym (byte_is st ws 42 (omega (arith, j)))) in
      value_then (Ok (bit_or (bit_and x 0xFF7F_FFFF) (slu_of c 23))) (with_command x on) u2 t W PartOfRound (λ q. Goes (set v_ q u2)) (λ y. then_do (run_with call n [] (writes output_val (Variable v_)) y) (λ z. Goes z)) (ap (λ (q : ℕ). Ok q) e)
      (goes (l ++ Ld output_val x ∷ St output_val (with_command x on) ∷ []) z hs
      (valid_round st ws _ word fit v (then_is (packet st ws) (switch (command (packet_bytes st ws))) l (Ld output_val x ∷ St output_val (with_command x on) ∷ []) p
      (subst (λ (q : Bool). Is (switch q) (Ld output_val x ∷ St output_val (with_command x on) ∷ [])) b_is s))))))

  -- the bytes that are tested
  checks_do : (os : List ℕ) (u : State) → Known base st ws t l u → is_sound st ≡ true → Does t W PartOfRound (run_with call n os checking u)
  checks_do os u k s =
      let j : 43 ≤ length_of st = (sound_length st s).1 in
      let b12 : ℕ = get_or bs 12 0 in
      let b13 : ℕ = get_or bs 13 0 in
      let b14 : ℕ = get_or bs 14 0 in
      let b23 : ℕ = get_or bs 23 0 in
      let o1 : ℕ = eq_of b12 8 in
      let o2 : ℕ = bit_and o1 (eq_of b13 0) in
      let o3 : ℕ = bit_and o2 (eq_of b14 0x45) in
      let o4 : ℕ = bit_and o3 (eq_of b23 0x11) in
      let u1 : State = set ok_ o1 u in
      let u2 : State = set ok_ o2 u1 in
      let u3 : State = set ok_ o3 u2 in
      let u4 : State = set ok_ o4 u3 in
      let carries : Bool = is_udp (packet_bytes st ws) in
      let udp : flag carries ≡ o4 = ap flag (udp_is st ws j) ∙ sym (tests_flag b12 b13 b14 b23) in
      value_then (operated Eq (value_in u (byte_of 12)) (Ok 8)) o1 u t W PartOfRound (λ q. Goes (set ok_ q u)) _ (ap (λ (r : Result ℕ Reason). operated Eq r (Ok 8)) (byte_value u 12 k.buffer k.holds (omega arith) j))
      (value_then (operated And (Ok o1) (operated Eq (value_in u1 (byte_of 13)) (Ok 0))) o2 u1 t W PartOfRound (λ q. Goes (set ok_ q u1)) _ (ap (λ (r : Result ℕ Reason). operated And (Ok o1) (operated Eq r (Ok 0))) (byte_value u1 13 k.buffer k.holds (omega arith) j))
      (value_then (operated And (Ok o2) (operated Eq (value_in u2 (byte_of 14)) (Ok 0x45))) o3 u2 t W PartOfRound (λ q. Goes (set ok_ q u2)) _ (ap (λ (r : Result ℕ Reason). operated And (Ok o2) (operated Eq r (Ok 0x45))) (byte_value u2 14 k.buffer k.holds (omega arith) j))
      (value_then (operated And (Ok o3) (operated Eq (value_in u3 (byte_of 23)) (Ok 0x11))) o4 u3 t W PartOfRound (λ q. Goes (set ok_ q u3)) _ (ap (λ (r : Result ℕ Reason). operated And (Ok o3) (operated Eq r (Ok 0x11))) (byte_value u3 23 k.buffer k.holds (omega arith) j))
      (end_does t W PartOfRound _
      (zero_does o4 t W PartOfRound (Goes u4) _
      (λ z. goes l k.trace k.replies (invalid_round st ws l word fit (valid_is st ws long ∙ not_udp (is_sound st) carries (flag_clear carries (udp ∙ z))) p))
      (λ i z. switch_does [] u4 (record { trace = k.trace; replies = k.replies; buffer = k.buffer; holds = k.holds }) j (valid_is st ws long ∙ and_test (is_sound st) carries s (flag_set carries i (udp ∙ z)))))))))

  -- a test that may set the flag, and then the rest
  if_bad : (os : List ℕ) (c : Term) (q bad : ℕ) (u : State) (rest : State → Outcome) → Judged base st bad ws t l u → value_in u c ≡ Ok q
      → ((x : State) → Judged base st (or_bad q bad) ws t l x → Does t W PartOfRound (rest x))
      → Does t W PartOfRound (then_do (run_with call n os (Chooses c (chain (Sets bad_ (Number 1) ∷ [])) Ends) u) rest)
  if_bad os c q bad u rest g e k =
      value_then (value_in u c) q u t W PartOfRound (λ v. at_zero v (Goes u) (Goes (set bad_ 1 u))) rest e (by_value q (λ x h. k x h))
    where
      by_value : (q : ℕ) → ((x : State) → Judged base st (or_bad q bad) ws t l x → Does t W PartOfRound (rest x)) → Does t W PartOfRound (then_do (at_zero q (Goes u) (Goes (set bad_ 1 u))) rest)
      by_value zero k = k u g
      by_value (suc q) k = k (set bad_ 1 u) (record { known = record { trace = g.known.trace; replies = g.known.replies; buffer = g.known.buffer; holds = g.known.holds }; bound = g.bound; flag_is = refl })

  -- from the flag on
  judging : (os1 os2 os3 : List ℕ) (u : State) → Judged base st (error_bit st) ws t l u
      → Does t W PartOfRound (then_do (run_with call n os1 (Chooses (Operation Ltu (Variable len_) (Number 43)) (chain (Sets bad_ (Number 1) ∷ [])) Ends) u)
      (λ x. then_do (run_with call n os2 (Chooses (Operation Ltu (Number 1520) (Variable len_)) (chain (Sets bad_ (Number 1) ∷ [])) Ends) x)
      (λ y. then_do (run_with call n os3 (Chooses (is_zero bad_) checking Ends) y) (λ z. Goes z))))
  judging os1 os2 os3 u g =
      let len : ℕ = length_of st in
      if_bad os1 (Operation Ltu (Variable len_) (Number 43)) (ltu_of len 43) (error_bit st) u _ g (ap (λ (o : Option ℕ). operated Ltu (or_unset o) (Ok 43)) g.bound)
      (λ x h.
      if_bad os2 (Operation Ltu (Number 1520) (Variable len_)) (ltu_of 1520 len) (or_bad (ltu_of len 43) (error_bit st)) x _ h (ap (λ (o : Option ℕ). operated Ltu (Ok 1520) (or_unset o)) h.bound)
      (λ y i.
      let bad : ℕ = bad_of (error_bit st) len in
      end_does t W PartOfRound _
      (value_does (operated Eq (or_unset (y.variables bad_)) (Ok 0)) (eq_of bad 0) y t W PartOfRound (λ v. at_zero v (Goes y) (run_with call n os3 checking y)) (ap (λ (o : Option ℕ). operated Eq (or_unset o) (Ok 0)) i.flag_is)
      (zero_does (eq_of bad 0) t W PartOfRound (Goes y) (run_with call n os3 checking y)
      (λ z. goes l i.known.trace i.known.replies (invalid_round st ws l word fit (valid_is st ws long ∙ not_sound (is_sound st) (is_udp (packet_bytes st ws)) (bad_flag st (is_sound st) refl z)) p))
      (λ k z. checks_do os3 y i.known (good_flag st k z))))))

-- ---- the packet

module _ (call : Caller) (reads : ReadOk call) (n : ℕ) (base : ℕ) (room : base + 1520 ≤ 2 ^ 32) (t : List Event) where
  abbrev W' : Whole
  W' u k = Is round k

  abbrev words_part : ℕ → Form
  words_part st = Sequence (fewer_than (word_count st) (Any is_word (rd 0))) (no_rd 0)

  -- words are left where a read of them is given up
  words_asked : (st : ℕ) (m : List Event) → IsWord st → Begins (words_part st) m → IsTrue (has_words st)
  words_asked st m h (inl c) = some_words st c.0 (status_test st h) (few_below c.0 (word_count st) c.1)
  words_asked st m h (inr j) = some_words st j.first.0 (status_test st h) (few_below j.first.0 (word_count st) j.first.1)

  -- after the status was read
  with_status : (os : List ℕ) (u : State) (l : List Event) (vs : List ℕ) (k : List Event) (qs : List ℕ) (f : ℕ) → AreWords qs → u.variables buf_ ≡ Some base → Holds base [] u.memory → Is filled l → Reading 0x40 vs k → u.trace ++ k ≡ t ++ (l ++ k)
      → Does t W' PartOfRound (run_with call n os Rattle.lb_bulb.specs.Supplied.packet_body (record u { variables = set_all (s_ ∷ []) vs u.variables; replies = qs; trace = u.trace ++ k; fuel = f }))
  with_status os u l vs k qs f ws eb h hf (read {v = st} word r) z =
      let len : ℕ = length_of st in
      let x : State = record u { variables = put s_ (Some st) u.variables; replies = qs; trace = u.trace ++ k; fuel = f } in
      let small : len < 16384 = omega arith in
      let head : Is (Sequence filled (rd 0x40 st)) (l ++ k) = then_is filled (rd 0x40 st) l k hf r in
      let x2 : State = set i_ 0 (set len_ len x) in
      value_then (Ok (bit_and (st / 65536) 16383)) len x t W' PartOfRound (λ q. Goes (set len_ q x)) (run_with call n [] Rattle.lb_bulb.specs.Supplied.receiving) (ap (λ (q : ℕ). Ok q) (and_mask (st / 65536) 14))
      (part_does t x2.trace (l ++ k) (Received base len st) W' (Begins (words_part st)) PartOfRound _ (run_with call n [] Rattle.lb_bulb.specs.Supplied.judging) z
      (λ m c. inr (inr (inr (st, words_asked st m word c, assoc_begins filled (rd 0x40 st) (words_part st) ((l ++ k) ++ m) (then_begins (Sequence filled (rd 0x40 st)) (words_part st) (l ++ k) m head c)))))
      (λ y m q hs g.
      let fl : Filled base len st y m = g.filled in
      let pk : Is (packet st fl.words) ((l ++ k) ++ m) = assoc_is filled (rd 0x40 st) (words fl.words) ((l ++ k) ++ m) (then_is (Sequence filled (rd 0x40 st)) (words fl.words) (l ++ k) m head fl.is) in
      let long : len ≤ length (bytes_all fl.words) = omega (arith, bytes_length fl.words, g.all) in
      value_then (operated And (operated Sru (or_unset (y.variables s_)) (Ok 15)) (Ok 1)) (error_bit st) y t W' PartOfRound (λ v. Goes (set bad_ v y)) (run_with call n [] Rattle.lb_bulb.specs.Supplied.deciding)
      (ap (λ (o : Option ℕ). operated And (operated Sru (or_unset o) (Ok 15)) (Ok 1)) fl.status ∙ ap (λ (v : ℕ). Ok v) (and_mask (st / 32768) 1))
      (judging call n base st fl.words t ((l ++ k) ++ m) room word (fits_is st fl.words g.all fl.are_words) long pk [] [] [] (set bad_ (error_bit st) y)
      (record { known = record { trace = q; replies = hs; buffer = fl.buffer; holds = fl.holds }; bound = fl.bound; flag_is = refl })))
      (receive_does call reads n [] base len st room small x2 ws
      (record { words = []; is = refl; are_words = tt; index = refl; bound = refl; buffer = eb; status = refl; holds = h; within = omega arith })))

  -- after the poll
  polled : (os : List ℕ) (u : State) (vs : List ℕ) (k : List Event) (qs : List ℕ) (f : ℕ) → AreWords qs → u.variables buf_ ≡ Some base → Holds base [] u.memory → Reading 0x7C vs k → u.trace ++ k ≡ t ++ k
      → Does t W' PartOfRound (run_with call n os (chain (Chooses (low_byte (shifted v_ 16)) filled_body Ends ∷ [])) (record u { variables = set_all (v_ ∷ []) vs u.variables; replies = qs; trace = u.trace ++ k; fuel = f }))
  polled os u vs k qs f ws eb h (read {v = v} word r) z =
      let x : State = record u { variables = put v_ (Some v) u.variables; replies = qs; trace = u.trace ++ k; fuel = f } in
      end_does t W' PartOfRound _
      (zero_does (bit_and (v / 65536) 255) t W' PartOfRound (Goes x) _
      (λ e. goes k z ws (inl (v, empty_test v word e, r)))
      (λ j e.
      let hf : Is filled k = (v, filled_test v j word e, r) in
      call_then x (s_ ∷ []) (Reading 0x40) (Begins (no_rd 0x40)) _ _ t k W' PartOfRound z
      (λ m c. inr (inr (inl (then_begins filled (no_rd 0x40) k m hf c))))
      (λ vs m qs f qw i y. with_status [] x k vs m qs f qw eb h hf i y)
      (reads 0x40 s_ x ws)))

pub loop_runs : LoopLaw
loop_runs call reads n o s room ws =
    let base : ℕ = s.stack + o in
    let t : List Event = s.trace in
    let u : State = allocated base 1520 buf_ (record s { variables = no_variables }) in
    let W : Whole = λ u k. Is round k in
    end_does t W PartOfRound _
    (then_does t W W PartOfRound (run_with call n [] round_body u) (released base 1520) (λ x l e hs h. goes l e hs h)
    (call_then u (v_ ∷ []) (Reading 0x7C) (Begins (no_rd 0x7C)) _ _ t [] W PartOfRound (sym (append-nil t))
    (λ m c. inr (inl c))
    (λ vs m qs f qw i y. polled call reads n base room t [] u vs m qs f qw refl (holds_nothing base s.memory) i y)
    (reads 0x7C v_ u ws)))
