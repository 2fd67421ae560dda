-- The whole rounds of a list are those that the whole machine counts.
use Rattle.std.proofs.Common.{◌≡◌, ℕ, zero, suc, ◌+◌, ◌≤◌, ◌⊎◌, inl, inr, List, [], ◌∷◌, ◌++◌, refl, sym, ap, ◌∙◌, subst, arith}
use Rattle.lb_trace.specs.declared.Event.{Event}
use Rattle.lb_grammar.specs.declared.progress.Progress.TheVariants.{Within}
use Rattle.lb_grammar.specs.declared.boot.Booting.TheVariants.{FirstPin}
use Rattle.lb_grammar.specs.declared.judging.Judging.{Judging}
use Rattle.lb_grammar.specs.declared.judging.Judging.TheVariants.{Boot, Between, Round, Still}
use Rattle.lb_grammar.specs.Forms.{Sequence, Exactly, Lists, Concat, Is}
use Rattle.lb_grammar.specs.Grammar.{boot, no_boot, round, no_round, good}
use Rattle.lb_grammar.specs.InternalMachine.{runs}
use Rattle.lb_grammar.specs.InternalJudging.{judge_step, judged, rounds_of}
use Rattle.lb_grammar.specs.Rounds.{BeginsWithRounds, HasRounds, Reading, all_whole, round_given_up, boot_given_up, RoundsLaw}
use Rattle.lb_grammar.proofs.Same.{Or, Some as ForSome}
use Rattle.lb_grammar.proofs.Followed.{Followed, AtEnd, to_parts, onward, alone}
use Rattle.lb_grammar.proofs.JudgeReads.{J, Tail, judge_same, any_count}
use Rattle.lb_grammar.proofs.JudgeLemmas.{start, Reached, from_there, whole_list, Came, still_as_many, ended_at, came}

-- ---- just n rounds, and nothing more

module _ (n : ℕ) where
  -- this number
  abbrev This : ℕ → Type 0
  This m = m ≡ n

  abbrev None : ℕ → Type 0
  None m = ⊥

  abbrev rounds_only : Lists
  rounds_only = Is (Sequence boot (Exactly n round))

  -- a count of rounds with which one stops just there is n
  by_count : (c : ℕ) (l : List Event) → Followed (Exactly c round) (Tail This None (0 + c)) l → Followed (Exactly n round) AtEnd l
  by_count c l j = by_tail j.second
    where
      by_tail : Tail This None (0 + c) j.back → Followed (Exactly n round) AtEnd l
      by_tail (inl h) =
          let count : c ≡ n = omega (arith, h.1) in
          subst (λ m. Followed (Exactly m round) AtEnd l) count (record { front = j.front; back = j.back; first = j.first; second = h.0; whole = j.whole })
      by_tail (inr h) = absurd (to_parts no_round (λ m. (m ≡ []) × None (0 + c)) j.back h).second.1

  to_only : (l : List Event) → Or (Followed boot (ForSome any_count (λ c. Followed (Exactly c round) (Tail This None (0 + c))))) (Followed no_boot (λ m. (m ≡ []) × None 0)) l → rounds_only l
  to_only l (inl h) = (alone (Sequence boot (Exactly n round))).to l (onward boot (λ m g. by_count g.0 m g.2) l h)
  to_only l (inr h) = absurd (to_parts no_boot (λ m. (m ≡ []) × None 0) l h).second.1

  -- what leads to the end of round n is boot and n rounds
  only_rounds : (l : List Event) → judged l ≡ Within (Between n) → rounds_only l
  only_rounds l e =
      let h : J This None start (l ++ []) = from_there This None l start (Between n) [] e refl in
      to_only l ((judge_same This None).to l (subst (J This None start) (Rattle.std.proofs.Common.append-nil l) h))

  -- ---- the readings with n rounds

  zero_more : 0 + n ≡ n
  zero_more = omega arith

  from_only : (still : ℕ → Type 0) (l : List Event) → rounds_only l → J This still start l
  from_only still l h =
      (judge_same This still).from l (inl (onward boot (λ m g. (n, refl, onward (Exactly n round) (λ k e. inl (e, zero_more)) m g)) l ((alone (Sequence boot (Exactly n round))).from l h)))

  from_broken : (l : List Event) → Is (Sequence boot (Sequence (Exactly n round) no_round)) l → J This This start l
  from_broken l h =
      (judge_same This This).from l
      (inl (onward boot (λ m g. (n, refl, onward (Exactly n round) (λ k i. inr (onward no_round (λ j e. (e, zero_more)) k i)) m g)) l
      ((alone (Sequence boot (Sequence (Exactly n round) no_round))).from l h)))

  count_is : (q : Judging) → J This This (Within q) [] → rounds_of q ≡ n
  count_is (Boot at) h = absurd h
  count_is (Between m) h = h
  count_is (Round m at) h = absurd h
  count_is (Still m) h = h

  between_is : (q : Judging) → J This None (Within q) [] → q ≡ Between n
  between_is (Boot at) h = absurd h
  between_is (Between m) h = ap (λ c. Between c) h
  between_is (Round m at) h = absurd h
  between_is (Still m) h = absurd h

  rounds_lead : (l : List Event) → rounds_only l → judged l ≡ Within (Between n)
  rounds_lead l h =
      let r : Reached This None start l [] = whole_list This None l start (from_only None l h) in
      r.leads ∙ ap (λ q. Within q) (between_is r.state r.reads)

from_reading : (n : ℕ) (l : List Event) → Reading n l → J (This n) (This n) start l
from_reading n l (all_whole h) = from_only n (This n) l h
from_reading n l (round_given_up h) = from_broken n l h
from_reading _ l (boot_given_up h) = (judge_same (This 0) (This 0)).from l (inr (onward no_boot (λ m e. (e, refl)) l ((alone no_boot).from l h)))

-- ---- whole rounds

joined_runs : (front rest : List Event) (s q : Judging) → judged front ≡ Within s → judged (front ++ rest) ≡ Within q → runs judge_step (Within s) rest ≡ Within q
joined_runs front rest s q e f = by_start front (Boot FirstPin) e f
  where
    open_end : (l : List Event) (p : Rattle.lb_grammar.specs.declared.progress.Progress.Progress Judging Rattle.lb_grammar.specs.InternalJudging.NoEnd) → runs judge_step p l ≡ Within s → runs judge_step p (l ++ rest) ≡ Within q → runs judge_step (Within s) rest ≡ Within q
    open_end [] p e f = subst (λ r. runs judge_step r rest ≡ Within q) e f
    open_end (x ∷ l) (Within t) e f = open_end l (judge_step t x) e f
    open_end (x ∷ l) (Rattle.lb_grammar.specs.declared.progress.Progress.TheVariants.Done y) e f = elim y [ ]
    open_end (x ∷ l) Rattle.lb_grammar.specs.declared.progress.Progress.TheVariants.Off e f = absurd (let z : ⊥ = cc in z)

    by_start : (l : List Event) (t : Judging) → runs judge_step (Within t) l ≡ Within s → runs judge_step (Within t) (l ++ rest) ≡ Within q → runs judge_step (Within s) rest ≡ Within q
    by_start l t e f = open_end l (Within t) e f

no_fewer : (s q : Judging) (l : List Event) → Came s q l → rounds_of s ≤ rounds_of q
no_fewer s q l (still_as_many e) = omega (arith, e)
no_fewer s q l (ended_at front rest o z f) = o

most : (l : List Event) (q : Judging) → judged l ≡ Within q → (m : ℕ) → BeginsWithRounds m l → m ≤ rounds_of q
most l q e m b =
    let to_front : judged b.front ≡ Within (Between m) = rounds_lead m b.front b.is in
    let onwards : runs judge_step (Within (Between m)) b.prefix.rest ≡ Within q = joined_runs b.front b.prefix.rest (Between m) q to_front (sym (ap judged b.prefix.whole) ∙ e) in
    no_fewer (Between m) q b.prefix.rest (came b.prefix.rest (Between m) q onwards)

reached : (l : List Event) (q : Judging) → Came (Boot FirstPin) q l → (rounds_of q ≡ zero) ⊎ BeginsWithRounds (rounds_of q) l
reached l q (still_as_many e) = inl e
reached l q (ended_at front rest o z f) = inr (record { front = front; is = only_rounds (rounds_of q) front f; prefix = record { rest = rest; whole = z } })

pub has_rounds : (l : List Event) (q : Judging) → judged l ≡ Within q → HasRounds (rounds_of q) l
has_rounds l q e = record { reached = reached l q (came l (Boot FirstPin) q e); most = most l q e }

-- ---- the law

read : (l : List Event) → Is good l → (n : ℕ) × Reading n l
read l (inl j) = (j.second.0, all_whole (record { front = j.front; back = j.back; first = j.first; second = j.second.2; whole = j.whole }))
read l (inr (inl h)) = (0, boot_given_up h)
read l (inr (inr j)) =
    let i : Concat (Is (Rattle.lb_grammar.specs.Forms.any_number round)) (Is no_round) j.back = j.second in
    (i.first.0, round_given_up (record { front = j.front; back = j.back; first = j.first; second = record { front = i.front; back = i.back; first = i.first.2; second = i.second; whole = i.whole }; whole = j.whole }))

good_only : (n : ℕ) (l : List Event) → Reading n l → Is good l
good_only n l (all_whole j) = inl (record { front = j.front; back = j.back; first = j.first; second = (n, refl, j.second); whole = j.whole })
good_only _ l (boot_given_up h) = inr (inl h)
good_only n l (round_given_up j) =
    let i : Concat (Is (Exactly n round)) (Is no_round) j.back = j.second in
    inr (inr (record { front = j.front; back = j.back; first = j.first; second = record { front = i.front; back = i.back; first = (n, refl, i.first); second = i.second; whole = i.whole }; whole = j.whole }))

counted : (n : ℕ) (l : List Event) → Reading n l → HasRounds n l
counted n l h =
    let r : Reached (This n) (This n) start l [] = whole_list (This n) (This n) l start (from_reading n l h) in
    subst (λ m. HasRounds m l) (count_is n r.state r.reads) (has_rounds l r.state r.leads)

at_most : (m n : ℕ) (l : List Event) → HasRounds m l → HasRounds n l → m ≤ n
at_most m n l g h = by_reached g.reached
  where
    by_reached : (m ≡ zero) ⊎ BeginsWithRounds m l → m ≤ n
    by_reached (inl e) = omega (arith, e)
    by_reached (inr b) = h.most m b

unique : (m n : ℕ) (l : List Event) → HasRounds m l → HasRounds n l → m ≡ n
unique m n l g h =
    let up : m ≤ n = at_most m n l g h in
    let down : n ≤ m = at_most n m l h g in
    omega (arith, up, down)

pub rounds_law : RoundsLaw
rounds_law = record {
  read = read;
  good_only = good_only;
  same = λ m n l g h. unique m n l (counted m l g) (counted n l h);
  counted = counted;
  unique = unique;
}
