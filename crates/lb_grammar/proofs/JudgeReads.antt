-- The whole machine reads the members of the grammar.
use Rattle.std.proofs.Common.{◌≡◌, ℕ, zero, suc, ◌+◌, ◌≤◌, ◌<◌, Bool, true, IsTrue, ◌⊎◌, inl, inr, List, [], ◌∷◌, ◌++◌, length, refl, sym, ap, ◌∙◌, subst, arith, length-append}
use Rattle.lb_trace.specs.declared.Event.{Event}
use Rattle.lb_grammar.specs.declared.progress.Progress.{Progress}
use Rattle.lb_grammar.specs.declared.progress.Progress.TheVariants.{Within}
use Rattle.lb_grammar.specs.declared.progress.Ending.{Ending}
use Rattle.lb_grammar.specs.declared.transfer.Transfer.TheVariants.{Opening}
use Rattle.lb_grammar.specs.declared.boot.Booting.TheVariants.{FirstPin}
use Rattle.lb_grammar.specs.declared.round.Rounding.{Rounding}
use Rattle.lb_grammar.specs.declared.round.Rounding.TheVariants.{Info}
use Rattle.lb_grammar.specs.declared.judging.Judging.{Judging}
use Rattle.lb_grammar.specs.declared.judging.Judging.TheVariants.{Boot, Between, Round, Still}
use Rattle.lb_grammar.specs.Forms.{Exactly, Lists, Concat, Is}
use Rattle.lb_grammar.specs.Grammar.{boot, no_boot, round, no_round}
use Rattle.lb_grammar.specs.InternalMachine.{inside, Reads, Nowhere}
use Rattle.lb_grammar.specs.InternalBooting.{boot_step}
use Rattle.lb_grammar.specs.InternalRounding.{round_step}
use Rattle.lb_grammar.specs.InternalJudging.{NoEnd, after_boot, after_round, judge_step}
use Rattle.lb_grammar.proofs.Same.{Same, Or, Some as ForSome, chain, or_same}
use Rattle.lb_grammar.proofs.Followed.{Followed, AtEnd, to_parts, from_parts, onward, followed_same, no_times, one_time_more, alone}
use Rattle.lb_grammar.proofs.Reading.{inside_same}
use Rattle.lb_grammar.proofs.BootReads.{boot_same}
use Rattle.lb_grammar.proofs.RoundReads.{round_same}

-- a round has an event
round_begins : (k : Lists) → Followed round k [] → ⊥
round_begins k h = (round_same (λ x. k)).from [] (inl h)

no_round_begins : (k : Lists) → Followed no_round k [] → ⊥
no_round_begins k h = (round_same (λ x. k)).from [] (inr h)

shorter : (front back l : List Event) → Is round front → l ≡ front ++ back → length back < length l
shorter [] back l h e = absurd (round_begins AtEnd ((alone round).from [] h))
shorter (x ∷ front) back l h e =
    let n : length l ≡ length (x ∷ front) + length back = ap length e ∙ length-append (x ∷ front) back in
    omega (arith, n)

abbrev pub any_count : ℕ → Bool
any_count c = true

-- states between rounds and after a wait in vain, by the number of rounds
module _ (between still : ℕ → Type 0) where
  abbrev pub Stops : Judging → Type 0
  Stops (Boot at) = ⊥
  Stops (Between n) = between n
  Stops (Round n at) = ⊥
  Stops (Still n) = still n

  abbrev pub J : Progress Judging NoEnd → Lists
  J = Reads judge_step Stops (λ x l. ⊥)

  abbrev StillAtEnd : ℕ → Lists
  StillAtEnd n l = (l ≡ []) × still n

  still_same : (n : ℕ) → Same (J (Within (Still n))) (StillAtEnd n)
  still_same n = record { to = to; from = from }
    where
      to : (l : List Event) → J (Within (Still n)) l → StillAtEnd n l
      to [] h = (refl, h)
      to (e ∷ l) h = absurd h

      from : (l : List Event) → StillAtEnd n l → J (Within (Still n)) l
      from l h = subst (J (Within (Still n))) (sym h.0) h.1

  -- ---- one round

  abbrev NextRound : ℕ → Lists
  NextRound n = Or (Followed round (J (Within (Between (n + 1))))) (Followed no_round (J (Within (Still n))))

  in_round : (n : ℕ) (p : Progress Rounding Ending) → Same (J (inside (Round n) (after_round n) p)) (Reads round_step Nowhere (λ x. J (after_round n x)) p)
  in_round n p = inside_same round_step judge_step (Round n) (after_round n) Stops (λ x l. ⊥) (λ s e. refl) (λ s h. h) p

  begun_to : (n : ℕ) (e : Event) (l : List Event) → J (Within (Between n)) (e ∷ l) → NextRound n (e ∷ l)
  begun_to n e l h = (round_same (λ x. J (after_round n x))).to (e ∷ l) ((in_round n (round_step (Info Opening) e)).to l h)

  begun_from : (n : ℕ) (l : List Event) → NextRound n l → J (Within (Between n)) l
  begun_from n [] (inl h) = absurd (round_begins (J (Within (Between (n + 1)))) h)
  begun_from n [] (inr h) = absurd (no_round_begins (J (Within (Still n))) h)
  begun_from n (e ∷ l) h = (in_round n (round_step (Info Opening) e)).from l ((round_same (λ x. J (after_round n x))).from (e ∷ l) h)

  -- ---- all rounds

  -- after the last whole one of n rounds
  abbrev pub Tail : ℕ → Lists
  Tail n l = ((l ≡ []) × between n) ⊎ Followed no_round (StillAtEnd n) l

  -- c rounds after n others, and the tail
  abbrev MoreRounds : ℕ → ℕ → Lists
  MoreRounds n c = Followed (Exactly c round) (Tail (n + c))

  abbrev AllRounds : ℕ → Lists
  AllRounds n = ForSome any_count (MoreRounds n)

  no_more : (n : ℕ) (l : List Event) → Tail n l → AllRounds n l
  no_more n l h =
      let count : n ≡ n + 0 = omega arith in
      (zero, refl, (no_times round (Tail (n + 0))).from l (subst (λ m. Tail m l) count h))

  rounds_to : (bound n : ℕ) (l : List Event) → length l ≤ bound → J (Within (Between n)) l → AllRounds n l
  rounds_to bound n [] b h = no_more n [] (inl (refl, h))
  rounds_to zero n (e ∷ l) b h = absurd (omega (arith, b))
  rounds_to (suc bound) n (e ∷ l) b h = by_kind (λ m k c i. rounds_to bound m k c i) (begun_to n e l h)
    where
      by_kind : ((m : ℕ) (k : List Event) → length k ≤ bound → J (Within (Between m)) k → AllRounds m k) → NextRound n (e ∷ l) → AllRounds n (e ∷ l)
      by_kind others (inl i) =
          let parts : Concat (Is round) (J (Within (Between (n + 1)))) (e ∷ l) = to_parts round (J (Within (Between (n + 1)))) (e ∷ l) i in
          let less : length parts.back < length (e ∷ l) = shorter parts.front parts.back (e ∷ l) parts.first parts.whole in
          let g : AllRounds (n + 1) parts.back = others (n + 1) parts.back (omega (arith, less, b)) parts.second in
          let count : n + 1 + g.0 ≡ n + suc g.0 = omega arith in
          let all : Followed round (Followed (Exactly g.0 round) (Tail (n + suc g.0))) (e ∷ l) =
          from_parts round (Followed (Exactly g.0 round) (Tail (n + suc g.0))) (e ∷ l)
          (record { front = parts.front; back = parts.back; first = parts.first; second = subst (λ m. Followed (Exactly g.0 round) (Tail m) parts.back) count g.2; whole = parts.whole }) in
          (suc g.0, refl, (one_time_more round g.0 (Tail (n + suc g.0))).from (e ∷ l) all)
      by_kind others (inr i) = no_more n (e ∷ l) (inr (onward no_round (still_same n).to (e ∷ l) i))

  tail_from : (n : ℕ) (l : List Event) → Tail n l → J (Within (Between n)) l
  tail_from n l (inl h) = subst (J (Within (Between n))) (sym h.0) h.1
  tail_from n l (inr h) = begun_from n l (inr (onward no_round (still_same n).from l h))

  rounds_from : (c n : ℕ) (l : List Event) → MoreRounds n c l → J (Within (Between n)) l
  rounds_from zero n l h =
      let count : n + 0 ≡ n = omega arith in
      tail_from n l (subst (λ m. Tail m l) count ((no_times round (Tail (n + 0))).to l h))
  rounds_from (suc c) n l h =
      let count : n + suc c ≡ n + 1 + c = omega arith in
      let first : Followed round (Followed (Exactly c round) (Tail (n + suc c))) l = (one_time_more round c (Tail (n + suc c))).to l h in
      begun_from n l (inl (onward round (λ k i. rounds_from c (n + 1) k (subst (λ m. Followed (Exactly c round) (Tail m) k) count i)) l first))

  rounds_same : (n : ℕ) → Same (J (Within (Between n))) (AllRounds n)
  rounds_same n = record { to = λ l h. rounds_to (length l) n l (Rattle.std.proofs.Common.le_refl (length l)) h; from = λ l h. rounds_from h.0 n l h.2 }

  -- ---- the whole

  pub judge_same : Same (J (Within (Boot FirstPin))) (Or (Followed boot (AllRounds 0)) (Followed no_boot (StillAtEnd 0)))
  judge_same =
      chain (inside_same boot_step judge_step Boot after_boot Stops (λ x l. ⊥) (λ s e. refl) (λ s h. h) (Within FirstPin))
      (chain (boot_same (λ x. J (after_boot x))) (or_same (followed_same boot (rounds_same 0)) (followed_same no_boot (still_same 0))))
