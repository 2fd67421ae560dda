-- A transaction, exchange by exchange.
use Rattle.std.proofs.Common.{◌≡◌, ℕ, inl, List, [], ◌∷◌, ◌++◌, Some, refl, sym, ap, ◌∙◌, subst, append_assoc, append-nil}
use Rattle.lb_syntax.specs.Names.{Text}
use Rattle.lb_trace.specs.declared.Event.{Event}
use Rattle.lb_trace.specs.declared.Event.TheVariants.{St}
use Rattle.lb_source.specs.Maps.{put}
use Rattle.lb_source.specs.Run.{State, Outcome, then_do, set_all}
use Rattle.lb_grammar.specs.Forms.{Form, One, Sequence, Is, Begins}
use Rattle.lb_grammar.specs.Grammar.{csmode, xchg, free_xchgs, answers, broken_off, transaction}
use Rattle.lb_bulb.proofs.FormLemmas.{then_is, then_begins, exchanges_more, answers_more, exchanges_join, answers_free, zeros_for, free_is, broken_is, broken_begins}
use Rattle.lb_bulb.proofs.FormLemmas.{member_begins}
use Rattle.lb_bulb.specs.Supplied.{e_}
use Rattle.lb_bulb.proofs.Does.{AreWords, Does, Returns, Exchange, answered, gave_up, passed, Cut, within, before}
use Rattle.lb_bulb.proofs.Rules.{Whole, Part, call_then}

-- the flag is 0: so far all went well. It is 1: an exchange was in vain
pub data Progress (f : Form) (all : List ℕ) : ℕ → List Event → Type 0 where
  fine : {l : List Event} → Is f l → Progress f all 0 l
  vain : {l : List Event} → Is (broken_off all) l → Progress f all 1 l

pub transaction_is : (f : Form) (l : List Event) → Is f l → Is (transaction f) (St csmode 2 ∷ (l ++ St csmode 0 ∷ []))
transaction_is f l h = then_is (One (St csmode 2)) (Sequence f (One (St csmode 0))) (St csmode 2 ∷ []) (l ++ St csmode 0 ∷ []) refl (then_is f (One (St csmode 0)) l (St csmode 0 ∷ []) h refl)

pub transaction_begins : (f : Form) (l : List Event) → Begins f l → Begins (transaction f) (St csmode 2 ∷ l)
transaction_begins f l h = then_begins (One (St csmode 2)) (Sequence f (One (St csmode 0))) (St csmode 2 ∷ []) l refl (inl h)

module _ (t base : List Event) (s : State) (x : Text) (b e : ℕ) (f : Form) (g : ℕ → Form) (front back : List ℕ) (l : List Event) (w : Whole) (p : Part) (go : State → Outcome)
    (free : (k : List Event) → Is f k → Is (free_xchgs front) k)
    (more : (r : ℕ) (k m : List Event) → Is f k → Is (xchg b r) m → Is (g r) (k ++ m))
    (part : (m : List Event) → Begins (broken_off (front ++ b ∷ back)) m → p (base ++ m))
    (next : (r d : ℕ) (m : List Event) (qs : List ℕ) (fu : ℕ) → AreWords qs → s.trace ++ m ≡ t ++ (base ++ (l ++ m)) → Progress (g r) (front ++ b ∷ back) d (l ++ m)
    → Does t w p (go (record s { variables = put e_ (Some d) (put x (Some r) s.variables); replies = qs; trace = s.trace ++ m; fuel = fu }))) where
  went_on : (d : ℕ) (vs : List ℕ) (m : List Event) (qs : List ℕ) (fu : ℕ) → AreWords qs → s.trace ++ m ≡ t ++ (base ++ (l ++ m)) → Progress f (front ++ b ∷ back) d l → Exchange b d vs m
      → Does t w p (go (record s { variables = set_all (x ∷ e_ ∷ []) vs s.variables; replies = qs; trace = s.trace ++ m; fuel = fu }))
  went_on d vs m qs fu ws z (fine h) (answered {r = r} i) = next r 0 m qs fu ws z (fine (more r l m h i))
  went_on d vs m qs fu ws z (fine h) (gave_up {r = r} i) = next r 1 m qs fu ws z (vain (broken_is front back b l m (free l h) i))
  went_on d vs m qs fu ws z (vain h) (passed i) =
      next 0 1 m qs fu ws z (vain (subst (λ (q : List Event). Is (broken_off (front ++ b ∷ back)) q) (sym (ap (λ (q : List Event). l ++ q) i ∙ append-nil l)) h))

  was_cut : (d : ℕ) (m : List Event) → Progress f (front ++ b ∷ back) d l → Cut b d m → Begins (broken_off (front ++ b ∷ back)) (l ++ m)
  was_cut d m (fine h) (within i) = broken_begins front back b l m (free l h) i
  was_cut d m (vain h) (before i) =
      subst (λ (q : List Event). Begins (broken_off (front ++ b ∷ back)) q) (sym (ap (λ (q : List Event). l ++ q) i ∙ append-nil l)) (member_begins (broken_off (front ++ b ∷ back)) l h)

  -- one exchange, and then the rest
  pub exchange_then : (o : Outcome) → s.trace ≡ t ++ (base ++ l) → Progress f (front ++ b ∷ back) e l → Returns s (x ∷ e_ ∷ []) (Exchange b e) (Cut b e) o → Does t w p (then_do o go)
  exchange_then o z h r =
      call_then s (x ∷ e_ ∷ []) (Exchange b e) (Cut b e) o go t (base ++ l) w p z
      (λ m c. subst p (sym (append_assoc base l m)) (part (l ++ m) (was_cut e m h c)))
      (λ vs m qs fu ws i y. went_on e vs m qs fu ws (y ∙ ap (λ (q : List Event). t ++ q) (append_assoc base l m)) h i) r

-- an exchange whose answer is free
pub free_more : (front : List ℕ) (b r : ℕ) (k m : List Event) → Is (free_xchgs front) k → Is (xchg b r) m → Is (free_xchgs (front ++ b ∷ [])) (k ++ m)
free_more front b r k m h i = exchanges_more front b k m h (free_is b r m i)

-- bytes with free answers, and then zeros answered by these
abbrev pub partly : List ℕ → List ℕ → Form
partly bs rs = Sequence (free_xchgs bs) (answers rs)

pub partly_free : (bs rs : List ℕ) (k : List Event) → Is (partly bs rs) k → Is (free_xchgs (bs ++ zeros_for rs)) k
partly_free bs rs k j = subst (λ (q : List Event). Is (free_xchgs (bs ++ zeros_for rs)) q) (sym j.whole) (exchanges_join bs (zeros_for rs) j.front j.back j.first (answers_free rs j.back j.second))

pub partly_more : (bs rs : List ℕ) (r : ℕ) (k m : List Event) → Is (partly bs rs) k → Is (xchg 0 r) m → Is (partly bs (rs ++ r ∷ [])) (k ++ m)
partly_more bs rs r k m j i =
    record { front = j.front; back = j.back ++ m; first = j.first; second = answers_more rs r j.back m j.second i; whole = ap (λ (q : List Event). q ++ m) j.whole ∙ append_assoc j.front j.back m }

-- the last exchange with a free answer
pub last_free_more : (front : List ℕ) (b r : ℕ) (k m : List Event) → Is (free_xchgs front) k → Is (xchg b r) m → Is (partly (front ++ b ∷ []) []) (k ++ m)
last_free_more front b r k m h i = record { front = k ++ m; back = []; first = free_more front b r k m h i; second = refl; whole = sym (append-nil (k ++ m)) }
