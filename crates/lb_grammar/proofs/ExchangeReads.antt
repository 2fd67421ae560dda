-- The machine of an exchange reads the exchanges, and those that were given up.
use Rattle.std.proofs.Common.{◌≡◌, ℕ, zero, suc, ◌%◌, ◌&&◌, ◌==◌, Bool, true, false, IsTrue, inl, inr, Option, Some, None, List, [], ◌∷◌, refl, sym, ap, ◌∙◌, subst, arith, if◌then◌else◌}
use Rattle.std.proofs.lemmas.Bool.Decides.{nat_tests}
use Rattle.lb_trace.specs.declared.Event.{Event}
use Rattle.lb_trace.specs.declared.Event.TheVariants.{Ld, St}
use Rattle.lb_grammar.specs.declared.progress.Progress.{Progress}
use Rattle.lb_grammar.specs.declared.progress.Progress.TheVariants.{Within, Done, Off}
use Rattle.lb_grammar.specs.declared.exchange.Exchange.{Exchange}
use Rattle.lb_grammar.specs.declared.exchange.Exchange.TheVariants.{Room, Sending, Answer}
use Rattle.lb_grammar.specs.Forms.{Form, One, Sequence, Exactly, at_most, Lists}
use Rattle.lb_grammar.specs.Grammar.{txdata, rxdata, is_byte, is_ready, is_busy, busy_load, ready_load, answer_load, sent, xchg, no_xchg}
use Rattle.lb_grammar.specs.InternalMachine.{again, Reads, Nowhere}
use Rattle.lb_grammar.specs.InternalExchanging.{polled, exchange_step}
use Rattle.lb_grammar.proofs.Same.{Same, Or, Some as ForSome, same, chain, or_same, swap, bracket}
use Rattle.lb_grammar.proofs.Followed.{Followed, followed_same, followed_or, followed_some, tries}
use Rattle.lb_grammar.proofs.Reading.{equal, equals_itself, store_same}

not_ready : (v : ℕ) → IsTrue (is_busy v) → is_ready v ≡ false
not_ready v h = grind (arith, nat_tests)

low_byte : (v : ℕ) → IsTrue (is_byte (v % 256))
low_byte v = grind (arith, nat_tests)

own_low_byte : (v : ℕ) → IsTrue (is_ready v) → IsTrue (is_ready v && v % 256 == v % 256)
own_low_byte v h = grind (arith, nat_tests)

answer_ready : (v r : ℕ) → IsTrue (is_ready v && v % 256 == r) → IsTrue (is_ready v)
answer_ready v r h = grind (arith, nat_tests)

answer_byte : (v r : ℕ) → IsTrue (is_ready v && v % 256 == r) → v % 256 ≡ r
answer_byte v r h = grind (arith, nat_tests)

module _ (b : ℕ) (next : Option ℕ → Lists) where
  abbrev R : Progress Exchange (Option ℕ) → Lists
  R = Reads (exchange_step b) Nowhere next

  -- ---- a register is polled

  module _ (a : ℕ) (wait : ℕ → Exchange) (served : ℕ → Progress Exchange (Option ℕ))
      (loads : (n d v : ℕ) → exchange_step b (wait n) (Ld d v) ≡ (if d == a then polled v n wait (served v) else Off)) (stores : (n d v : ℕ) → exchange_step b (wait n) (St d v) ≡ Off) where
    -- a load that finds it ready, and what it leads to
    abbrev Served : Lists
    Served = ForSome is_ready (λ v. Followed (One (Ld a v)) (R (served v)))

    abbrev OneLoad : ℕ → Lists
    OneLoad n = Or (Followed (busy_load a) (R (again n wait None))) Served

    by_tests : (n d v : ℕ) (l : List Event) (p q s : Bool) → (d == a) ≡ p → is_ready v ≡ q → is_busy v ≡ s
        → R (if p then (if q then served v else (if s then again n wait None else Off)) else Off) l → OneLoad n (Ld d v ∷ l)
    by_tests n d v l true true s e f g h = inr (v, f, (ap (λ x. Ld x v) (equal d a e), h))
    by_tests n d v l true false true e f g h = inl (v, g, (ap (λ x. Ld x v) (equal d a e), h))
    by_tests n d v l true false false e f g h = absurd h
    by_tests n d v l false q s e f g h = absurd h

    to : (n : ℕ) (l : List Event) → R (Within (wait n)) l → OneLoad n l
    to n [] h = absurd h
    to n (Ld d v ∷ l) h = by_tests n d v l (d == a) (is_ready v) (is_busy v) refl refl refl (subst (λ q. R q l) (loads n d v) h)
    to n (St d v ∷ l) h = absurd (subst (λ q. R q l) (stores n d v) h)

    itself : (n v : ℕ) → exchange_step b (wait n) (Ld a v) ≡ polled v n wait (served v)
    itself n v = loads n a v ∙ ap (λ (t : Bool). if t then polled v n wait (served v) else Off) (equals_itself a)

    when_busy : (n v : ℕ) → IsTrue (is_busy v) → exchange_step b (wait n) (Ld a v) ≡ again n wait None
    when_busy n v h =
        itself n v ∙ ap (λ (t : Bool). if t then served v else (if is_busy v then again n wait None else Off)) (not_ready v h)
        ∙ ap (λ (t : Bool). if t then again n wait None else Off) h

    when_ready : (n v : ℕ) → IsTrue (is_ready v) → exchange_step b (wait n) (Ld a v) ≡ served v
    when_ready n v h = itself n v ∙ ap (λ (t : Bool). if t then served v else (if is_busy v then again n wait None else Off)) h

    from : (n : ℕ) (l : List Event) → OneLoad n l → R (Within (wait n)) l
    from n [] (inl h) = absurd h.2
    from n [] (inr h) = absurd h.2
    from n (d ∷ l) (inl h) = subst (λ x. R (exchange_step b (wait n) x) l) (sym h.2.0) (subst (λ q. R q l) (sym (when_busy n h.0 h.1)) h.2.1)
    from n (d ∷ l) (inr h) = subst (λ x. R (exchange_step b (wait n) x) l) (sym h.2.0) (subst (λ q. R q l) (sym (when_ready n h.0 h.1)) h.2.1)

    one_load : (n : ℕ) → Same (R (Within (wait n))) (OneLoad n)
    one_load n = record { to = to n; from = from n }

    pub polls : (n : ℕ) → Same (R (Within (wait n))) (Or (Followed (at_most n (busy_load a)) Served) (Followed (Exactly (suc n) (busy_load a)) (next None)))
    polls = tries (busy_load a) (λ n. R (Within (wait n))) Served (next None) (one_load zero) (λ n. one_load (suc n))

  -- ---- the whole

  abbrev Answers : Lists
  Answers = ForSome is_ready (λ v. Followed (One (Ld rxdata v)) (next (Some (v % 256))))

  room : Same (R (Within (Room 999))) (Or (Followed (at_most 999 (busy_load txdata)) (Followed (ready_load txdata) (R (Within Sending)))) (Followed (Exactly 1000 (busy_load txdata)) (next None)))
  room = polls txdata Room (λ v. Within Sending) (λ n d v. refl) (λ n d v. refl) 999

  sending : Same (R (Within Sending)) (Followed (One (St txdata b)) (R (Within (Answer 999))))
  sending = store_same (exchange_step b) Nowhere next Sending txdata b (Within (Answer 999)) (λ h. h) (λ d v. refl) (λ d v. refl)

  answer : Same (R (Within (Answer 999))) (Or (Followed (at_most 999 (busy_load rxdata)) Answers) (Followed (Exactly 1000 (busy_load rxdata)) (next None)))
  answer = polls rxdata Answer (λ v. Done (Some (v % 256))) (λ n d v. refl) (λ n d v. refl) 999

  abbrev Answered : Lists
  Answered = ForSome is_byte (λ r. Followed (answer_load r) (next (Some r)))

  answered : Same Answers Answered
  answered = record {
    to = λ l h. (h.0 % 256, low_byte h.0, (h.0, own_low_byte h.0 h.1, h.2));
    from = λ l h. (h.2.0, answer_ready h.2.0 h.0 h.2.1, subst (λ r. Followed (One (Ld rxdata h.2.0)) (next (Some r)) l) (sym (answer_byte h.2.0 h.0 h.2.1)) h.2.2);
  }

  abbrev before_answer : Form
  before_answer = Sequence (sent b) (at_most 999 (busy_load rxdata))

  pub exchange_same : Same (R (Within (Room 999))) (Or (ForSome is_byte (λ r. Followed (xchg b r) (next (Some r)))) (Followed (no_xchg b) (next None)))
  exchange_same =
      chain room
      (chain (or_same
      (chain (followed_same (Sequence (at_most 999 (busy_load txdata)) (ready_load txdata)) (chain sending (followed_same (One (St txdata b)) answer)))
      (chain (followed_or (sent b) (Followed (at_most 999 (busy_load rxdata)) Answers) (Followed (Exactly 1000 (busy_load rxdata)) (next None)))
      (or_same (chain (followed_same before_answer answered) (followed_some before_answer is_byte (λ r. Followed (answer_load r) (next (Some r))))) same)))
      same)
      (chain bracket (or_same same swap)))
