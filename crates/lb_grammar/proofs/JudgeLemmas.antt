-- Where a list leads the whole machine says whether it is a prefix, and how many whole rounds it has.
use Rattle.std.proofs.Common.{◌≡◌, ℕ, ◌+◌, ◌≤◌, ◌⊎◌, inl, inr, List, [], ◌∷◌, ◌++◌, refl, sym, ap, ◌∙◌, subst, arith, append-nil}
use Rattle.lb_trace.specs.declared.Event.{Event}
use Rattle.lb_grammar.specs.declared.progress.Progress.{Progress}
use Rattle.lb_grammar.specs.declared.progress.Progress.TheVariants.{Within, Done, Off}
use Rattle.lb_grammar.specs.declared.progress.Ending.{Ending}
use Rattle.lb_grammar.specs.declared.progress.Ending.TheVariants.{Whole, GivenUp}
use Rattle.lb_grammar.specs.declared.transfer.Transfer.TheVariants.{Opening}
use Rattle.lb_grammar.specs.declared.boot.Booting.{Booting}
use Rattle.lb_grammar.specs.declared.boot.Booting.TheVariants.{FirstPin}
use Rattle.lb_grammar.specs.declared.round.Rounding.{Rounding}
use Rattle.lb_grammar.specs.declared.round.Rounding.TheVariants.{Info}
use Rattle.lb_grammar.specs.declared.judging.Judging.{Judging}
use Rattle.lb_grammar.specs.declared.judging.Judging.TheVariants.{Boot, Between, Round, Still}
use Rattle.lb_grammar.specs.Forms.{Form, Sequence, Exactly, any_number, Lists, Is, Begins}
use Rattle.lb_grammar.specs.Grammar.{boot, no_boot, round, no_round, good}
use Rattle.lb_grammar.specs.InternalMachine.{inside, runs, Reads, Nowhere}
use Rattle.lb_grammar.specs.InternalBooting.{boot_step}
use Rattle.lb_grammar.specs.InternalRounding.{round_step}
use Rattle.lb_grammar.specs.InternalJudging.{NoEnd, after_boot, after_round, judge_step, judged, rounds_of}
use Rattle.lb_grammar.proofs.PrefixLemmas.{begins, extends}
use Rattle.lb_grammar.proofs.EndLemmas.{good_ends}
use Rattle.lb_grammar.proofs.Same.{Same, Or, Some as ForSome, chain}
use Rattle.lb_grammar.proofs.Followed.{Followed, AtEnd, onward, followed_or, alone}
use Rattle.lb_grammar.proofs.Reading.{inside_same}
use Rattle.lb_grammar.proofs.JudgeReads.{Stops, J, Tail, judge_same, any_count}
use Rattle.lb_grammar.proofs.AliveLemmas.{Example, boot_alive, round_alive}
use Rattle.lb_grammar.proofs.PlacedLemmas.{IsJudgePlaced, placed}

-- ---- lists that are read, and where they lead

abbrev pub start : Progress Judging NoEnd
start = Within (Boot FirstPin)

-- a state, and what is read from it
pub record Reached (between still : ℕ → Type 0) (p : Progress Judging NoEnd) (l rest : List Event) : Type 0 where
  pub state : Judging
  pub leads : runs judge_step p l ≡ Within state
  pub reads : J between still (Within state) rest

module _ (between still : ℕ → Type 0) where
  pub from_there : (l : List Event) (p : Progress Judging NoEnd) (q : Judging) (rest : List Event) → runs judge_step p l ≡ Within q → J between still (Within q) rest → J between still p (l ++ rest)
  from_there [] p q rest e h = subst (λ r. J between still r rest) (sym e) h
  from_there (x ∷ l) (Within s) q rest e h = from_there l (judge_step s x) q rest e h
  from_there (x ∷ l) (Done y) q rest e h = absurd (let z : ⊥ = cc in z)
  from_there (x ∷ l) Off q rest e h = absurd (let z : ⊥ = cc in z)

  to_there : (l : List Event) (p : Progress Judging NoEnd) (rest : List Event) → J between still p (l ++ rest) → Reached between still p l rest
  to_there [] (Within s) rest h = record { state = s; leads = refl; reads = h }
  to_there [] (Done y) rest h = absurd h
  to_there [] Off rest h = absurd h
  to_there (x ∷ l) (Within s) rest h = let g : Reached between still (judge_step s x) l rest = to_there l (judge_step s x) rest h in record { state = g.state; leads = g.leads; reads = g.reads }
  to_there (x ∷ l) (Done y) rest h = absurd h
  to_there (x ∷ l) Off rest h = absurd h

  pub whole_list : (l : List Event) (p : Progress Judging NoEnd) → J between still p l → Reached between still p l []
  whole_list l p h = to_there l p [] (subst (J between still p) (sym (append-nil l)) h)

-- ---- members

abbrev pub Any : ℕ → Type 0
Any n = Unit {0}

abbrev pub Rests : Progress Judging NoEnd → Lists
Rests = J Any Any

abbrev NoRoundAtEnd : Lists
NoRoundAtEnd = Followed no_round AtEnd

tail_plain : (n : ℕ) (l : List Event) → Tail Any Any n l → Or AtEnd NoRoundAtEnd l
tail_plain n l (inl h) = inl h.0
tail_plain n l (inr h) = inr (onward no_round (λ m i. i.0) l h)

plain_tail : (n : ℕ) (l : List Event) → Or AtEnd NoRoundAtEnd l → Tail Any Any n l
plain_tail n l (inl h) = inl (h, tt)
plain_tail n l (inr h) = inr (onward no_round (λ m i. (i, tt)) l h)

abbrev booted : Form
booted = Sequence boot (any_number round)

to_good : (l : List Event) → Or (Followed boot (ForSome any_count (λ c. Followed (Exactly c round) (Tail Any Any (0 + c))))) (Followed no_boot (λ m. (m ≡ []) × Any 0)) l → Followed good AtEnd l
to_good l (inl h) = by_tail ((followed_or booted AtEnd NoRoundAtEnd).to l (onward boot (λ m g. (g.0, g.1, onward (Exactly g.0 round) (tail_plain (0 + g.0)) m g.2)) l h))
  where
    by_tail : Or (Followed booted AtEnd) (Followed booted NoRoundAtEnd) l → Followed good AtEnd l
    by_tail (inl i) = inl i
    by_tail (inr i) = inr (inr i)
to_good l (inr h) = inr (inl (onward no_boot (λ m i. i.0) l h))

from_good : (l : List Event) → Followed good AtEnd l → Or (Followed boot (ForSome any_count (λ c. Followed (Exactly c round) (Tail Any Any (0 + c))))) (Followed no_boot (λ m. (m ≡ []) × Any 0)) l
from_good l (inl h) = inl (onward boot (λ m g. (g.0, g.1, onward (Exactly g.0 round) (λ k i. plain_tail (0 + g.0) k (inl i)) m g.2)) l h)
from_good l (inr (inl h)) = inr (onward no_boot (λ m i. (i, tt)) l h)
from_good l (inr (inr h)) = inl (onward boot (λ m g. (g.0, g.1, onward (Exactly g.0 round) (λ k i. plain_tail (0 + g.0) k (inr i)) m g.2)) l h)

pub good_same : Same (Rests start) (Is good)
good_same = chain (judge_same Any Any) (chain (record { to = to_good; from = from_good }) (alone good))

-- ---- prefixes

rests : (x : Judging) → IsJudgePlaced x → Example (Rests (Within x))
rests (Boot at) h =
    let g : Example (Reads boot_step Nowhere (λ x. Rests (after_boot x)) (Within at)) = boot_alive (λ x. Rests (after_boot x)) ends at h in
    (g.0, (inside_same boot_step judge_step Boot after_boot (Stops Any Any) (λ x l. ⊥) (λ s e. refl) (λ s i. i) (Within at)).from g.0 g.1)
  where
    ends : (x : Ending) → Example (Rests (after_boot x))
    ends Whole = ([], tt)
    ends GivenUp = ([], tt)
rests (Between n) h = ([], tt)
rests (Round n at) h =
    let g : Example (Reads round_step Nowhere (λ x. Rests (after_round n x)) (Within at)) = round_alive (λ x. Rests (after_round n x)) ends at h in
    (g.0, (inside_same round_step judge_step (Round n) (after_round n) (Stops Any Any) (λ x l. ⊥) (λ s e. refl) (λ s i. i) (Within at)).from g.0 g.1)
  where
    ends : (x : Ending) → Example (Rests (after_round n x))
    ends Whole = ([], tt)
    ends GivenUp = ([], tt)
rests (Still n) h = ([], tt)

-- a list that leads to a state begins a member
pub begins_good : (l : List Event) (q : Judging) → judged l ≡ Within q → Begins good l
begins_good l q e =
    let g : Example (Rests (Within q)) = rests q (placed l start q tt e) in
    begins good l g.0 (good_same.to (l ++ g.0) (from_there Any Any l start q g.0 e g.1))

record LeadsOn (l : List Event) : Type 0 where
  state : Judging
  leads : judged l ≡ Within state

-- a list that begins a member leads to a state
leads_on : (l : List Event) → Begins good l → LeadsOn l
leads_on l h =
    let g : (rest : List Event) × Is good (l ++ rest) = extends good good_ends.can l h in
    let r : Reached Any Any start l g.0 = to_there Any Any l start g.0 (good_same.from (l ++ g.0) g.1) in
    record { state = r.state; leads = r.leads }

pub off_is_no_prefix : (l : List Event) → judged l ≡ Off → ¬ (Begins good l)
off_is_no_prefix l e h =
    let g : LeadsOn l = leads_on l h in
    let same_place : Off ≡ Within g.state = sym e ∙ g.leads in
    absurd (let z : ⊥ = cc in z)

-- ---- whole rounds

-- a step to a state with as many rounds, or to the end of one more
data Counts (s : Judging) : Progress Judging NoEnd → Type 0 where
  as_many : {q : Judging} → rounds_of q ≡ rounds_of s → Counts s (Within q)
  one_more : {n : ℕ} → n ≡ rounds_of s + 1 → Counts s (Within (Between n))
  leaves : Counts s Off

counts : (s : Judging) (e : Event) → Counts s (judge_step s e)
counts (Boot at) e = by_progress (boot_step at e)
  where
    by_progress : (p : Progress Booting Ending) → Counts (Boot at) (inside Boot after_boot p)
    by_progress (Within q) = as_many refl
    by_progress (Done Whole) = as_many refl
    by_progress (Done GivenUp) = as_many refl
    by_progress Off = leaves
counts (Between n) e = by_progress (round_step (Info Opening) e)
  where
    by_progress : (p : Progress Rounding Ending) → Counts (Between n) (inside (Round n) (after_round n) p)
    by_progress (Within q) = as_many refl
    by_progress (Done Whole) = one_more refl
    by_progress (Done GivenUp) = as_many refl
    by_progress Off = leaves
counts (Round n at) e = by_progress (round_step at e)
  where
    by_progress : (p : Progress Rounding Ending) → Counts (Round n at) (inside (Round n) (after_round n) p)
    by_progress (Within q) = as_many refl
    by_progress (Done Whole) = one_more refl
    by_progress (Done GivenUp) = as_many refl
    by_progress Off = leaves
counts (Still n) e = leaves

-- how a state's rounds came about: it has as many as the first one, or its last round ended somewhere
pub data Came (s q : Judging) (l : List Event) : Type 0 where
  still_as_many : rounds_of q ≡ rounds_of s → Came s q l
  ended_at : (front rest : List Event) → rounds_of s ≤ rounds_of q → l ≡ front ++ rest → runs judge_step (Within s) front ≡ Within (Between (rounds_of q)) → Came s q l

pub came : (l : List Event) (s q : Judging) → runs judge_step (Within s) l ≡ Within q → Came s q l
came [] s q e = still_as_many (ap rounds_of (let z : q ≡ s = cc in z))
came (x ∷ l) s q e = by_step (judge_step s x) (counts s x) refl (λ t f. came l t q f)
  where
    later : (t : Judging) → judge_step s x ≡ Within t → rounds_of s ≤ rounds_of t → Came t q l → rounds_of t ≡ rounds_of s ⊎ (t ≡ Between (rounds_of t)) → Came s q (x ∷ l)
    later t step up (still_as_many f) (inl g) = still_as_many (f ∙ g)
    later t step up (still_as_many f) (inr b) =
        ended_at (x ∷ []) l (subst (λ n. rounds_of s ≤ n) (sym f) up) refl (step ∙ ap (λ r. Within r) (b ∙ ap (λ n. Between n) (sym f)))
    later t step up (ended_at front rest o z f) g =
        ended_at (x ∷ front) rest (omega (arith, up, o)) (ap (λ m. x ∷ m) z) (ap (λ p. runs judge_step p front) step ∙ f)

    by_step : (p : Progress Judging NoEnd) → Counts s p → judge_step s x ≡ p → ((t : Judging) → runs judge_step (Within t) l ≡ Within q → Came t q l) → Came s q (x ∷ l)
    by_step (Within t) c step again =
        let f : runs judge_step (Within t) l ≡ Within q = sym (ap (λ p. runs judge_step p l) step) ∙ e in
        later t step (no_fewer t c) (again t f) (kind t c)
      where
        no_fewer : (t : Judging) → Counts s (Within t) → rounds_of s ≤ rounds_of t
        no_fewer t (as_many f) = omega (arith, f)
        no_fewer _ (one_more f) = omega (arith, f)

        kind : (t : Judging) → Counts s (Within t) → rounds_of t ≡ rounds_of s ⊎ (t ≡ Between (rounds_of t))
        kind t (as_many f) = inl f
        kind _ (one_more f) = inr refl
    by_step (Done y) c step again = elim y [ ]
    by_step Off c step again =
        let f : runs judge_step Off l ≡ Within q = sym (ap (λ p. runs judge_step p l) step) ∙ e in
        absurd (off_stays l f)
      where
        off_stays : (m : List Event) → runs judge_step Off m ≡ Within q → ⊥
        off_stays [] f = let z : ⊥ = cc in z
        off_stays (y ∷ m) f = let z : ⊥ = cc in z
