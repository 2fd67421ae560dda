-- Flat code that follows a run of the source: it goes the same way, as far as that does nothing undefined.
use Rattle.std.proofs.Common.{◌≡◌, ℕ, zero, suc, List, Result, Ok, Err, refl, subst}
use Rattle.lb_trace.specs.declared.Event.{Event}
use Rattle.lb_source.specs.declared.ends.Reason.{Reason}
use Rattle.lb_source.specs.declared.ends.SourceEnd.{SourceEnd}
use Rattle.lb_source.specs.declared.ends.SourceEnd.TheVariants.{Undefined}
use Rattle.lb_source.specs.Run as source
use Rattle.lb_source.specs.Run.{State}
use Rattle.lb_flat.specs.Cells.{Cells}
use Rattle.lb_flat.specs.Run.{World, Outcome, Goes, Stops, then_do, at_zero, spend, disowned}

-- all of a state but the variables
abbrev pub world_of : State → World
world_of s = record { memory = s.memory; stack = s.stack; replies = s.replies; trace = s.trace; fuel = s.fuel }

-- both go on alike, with cells that are related to the state, or both stop alike, or the source does something undefined
pub data FollowsSource (R : State → Cells → Type 0) : source.Outcome → Outcome Cells → Type 0 where
  both_go : {s : State} {a : Cells} → R s a → FollowsSource R (source.Goes s) (Goes a (world_of s))
  both_stop : {t : List Event} {e : SourceEnd} → FollowsSource R (source.Stops t e) (Stops t e)
  owes_nothing : {t : List Event} {r : Reason} {o : Outcome Cells} → FollowsSource R (source.Stops t (Undefined r)) o

-- ---- one after the other

pub source_assoc : (o : source.Outcome) (f g : State → source.Outcome) → source.then_do (source.then_do o f) g ≡ source.then_do o (λ s. source.then_do (f s) g)
source_assoc (source.Goes s) f g = refl
source_assoc (source.Stops t e) f g = refl

source_goes : (o : source.Outcome) → source.then_do o source.Goes ≡ o
source_goes (source.Goes s) = refl
source_goes (source.Stops t e) = refl

pub then_goes : {V : Type 0} (o : Outcome V) → then_do o Goes ≡ o
then_goes (Goes a w) = refl
then_goes (Stops t e) = refl

-- where nothing comes behind
pub alone : (R : State → Cells → Type 0) (o : source.Outcome) (q : Outcome Cells) → FollowsSource R (source.then_do o source.Goes) (then_do q Goes) → FollowsSource R o q
alone R o q h = subst (λ p. FollowsSource R p q) (source_goes o) (subst (λ p. FollowsSource R (source.then_do o source.Goes) p) (then_goes q) h)

module _ (Q R : State → Cells → Type 0) (K : State → source.Outcome) where
  pub then_follows : (G : Cells → World → Outcome Cells) {o : source.Outcome} {q : Outcome Cells}
      → FollowsSource Q o q → ((s : State) (a : Cells) → Q s a → FollowsSource R (K s) (G a (world_of s))) → FollowsSource R (source.then_do o K) (then_do q G)
  then_follows G (both_go r) k = k _ _ r
  then_follows G both_stop k = both_stop
  then_follows G owes_nothing k = owes_nothing

  -- the same before two ways to go on
  pub after_block : (G L : Cells → World → Outcome Cells) {o : source.Outcome} {q : Outcome Cells}
      → FollowsSource Q o q → ((s : State) (a : Cells) → Q s a → FollowsSource R (K s) (then_do (G a (world_of s)) L)) → FollowsSource R (source.then_do o K) (then_do (then_do q G) L)
  after_block G L (both_go r) k = k _ _ r
  after_block G L both_stop k = both_stop
  after_block G L owes_nothing k = owes_nothing

  -- and where a block of memory is released between
  pub after_release : (base m : ℕ) (G L : Cells → World → Outcome Cells) {o : source.Outcome} {q : Outcome Cells}
      → FollowsSource Q o q
      → ((s : State) (a : Cells) → Q s a → FollowsSource R (source.then_do (source.released base m s) K) (then_do (G a (disowned base m (world_of s))) L))
      → FollowsSource R (source.then_do (source.then_do o (source.released base m)) K) (then_do (then_do (then_do q (λ c u. Goes c (disowned base m u))) G) L)
  after_release base m G L (both_go r) k = k _ _ r
  after_release base m G L both_stop k = both_stop
  after_release base m G L owes_nothing k = owes_nothing

pub zero_follows : (R : State → Cells → Type 0) (v : ℕ) (a b : source.Outcome) (c d : Outcome Cells) → FollowsSource R a c → FollowsSource R b d → FollowsSource R (source.at_zero v a b) (at_zero v c d)
zero_follows R zero a b c d h k = h
zero_follows R (suc v) a b c d h k = k

pub spend_follows : (R : State → Cells → Type 0) (n : ℕ) (s : State) (f : State → source.Outcome) (g : World → Outcome Cells)
    → ((n : ℕ) → FollowsSource R (f (record s { fuel = n })) (g (world_of (record s { fuel = n })))) → FollowsSource R (source.spend n s f) (spend n (world_of s) g)
spend_follows R zero s f g h = both_stop
spend_follows R (suc n) s f g h = h n

-- ---- values first

-- where the source has no value it is undefined
pub value_first : {A : Type 0} (R : State → Cells → Type 0) (r : Result A Reason) (s : State) (f : A → source.Outcome) (q : Outcome Cells)
    → ((v : A) → r ≡ Ok v → FollowsSource R (f v) q) → FollowsSource R (source.with_value r s f) q
value_first R (Err e) s f q k = owes_nothing
value_first R (Ok v) s f q k = k v refl

pub value_before : {A : Type 0} (R : State → Cells → Type 0) (r : Result A Reason) (s : State) (f : A → source.Outcome) (K : State → source.Outcome) (q : Outcome Cells)
    → ((v : A) → r ≡ Ok v → FollowsSource R (source.then_do (f v) K) q) → FollowsSource R (source.then_do (source.with_value r s f) K) q
value_before R (Err e) s f K q k = owes_nothing
value_before R (Ok v) s f K q k = k v refl
