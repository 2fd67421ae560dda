-- A run that follows another one: it goes the same way, as far as the first does nothing undefined.
use Rattle.std.proofs.Common.{◌≡◌, ℕ, zero, suc, List, Option, Result, Ok, Err, refl, sym, subst}
use Rattle.lb_trace.specs.declared.Event.{Event}
use Rattle.lb_source.specs.declared.ends.Reason.{Reason}
use Rattle.lb_source.specs.declared.ends.SourceEnd.{SourceEnd}
use Rattle.lb_source.specs.declared.ends.SourceEnd.TheVariants.{Spent, Undefined}
use Rattle.lb_source.specs.declared.ends.SourceRun.{SourceRun}
use Rattle.lb_source.specs.Defined.{IsDefined}
use Rattle.lb_source.specs.Value.{or_unset}
use Rattle.lb_flat.specs.Cells.{Cells}
use Rattle.lb_flat.specs.Code.{Operation, Constant, Copy, Compute, Load, Store, Forget, Call, Access}
use Rattle.lb_flat.specs.Run.{World, Outcome, Goes, Stops, then_do, with_value, at_zero, spend, Caller, gives, effect, turns}
use Rattle.lb_flat.specs.Whole.{to_end, for_ever}
use Rattle.lb_flat.proofs.PutLemmas.{HasAll, SameValue, one_read}

-- both go on in one world with things that are related, or both stop alike, or the first does something undefined
pub data Follows {V U : Type 0} (R : V → U → Type 0) : Outcome V → Outcome U → Type 0 where
  both_go : {a : V} {b : U} {w : World} → R a b → Follows R (Goes a w) (Goes b w)
  both_stop : {t : List Event} {e : SourceEnd} → Follows R (Stops t e) (Stops t e)
  owes_nothing : {t : List Event} {r : Reason} {o : Outcome U} → Follows R (Stops t (Undefined r)) o

pub then_follows : {V U V' U' : Type 0} (R : V → U → Type 0) (S : V' → U' → Type 0) {o : Outcome V} {q : Outcome U} (f : V → World → Outcome V') (g : U → World → Outcome U')
    → Follows R o q → ((a : V) (b : U) (w : World) → R a b → Follows S (f a w) (g b w)) → Follows S (then_do o f) (then_do q g)
then_follows R S f g (both_go r) k = k _ _ _ r
then_follows R S f g both_stop k = both_stop
then_follows R S f g owes_nothing k = owes_nothing

pub value_follows : {A V U : Type 0} (R : V → U → Type 0) (r s : Result A Reason) (w : World) (f : A → Outcome V) (g : A → Outcome U)
    → SameValue r s → ((v : A) → r ≡ Ok v → Follows R (f v) (g v)) → Follows R (with_value r w f) (with_value s w g)
value_follows R (Ok v) s w f g h k = subst (λ q. Follows R (f v) (with_value q w g)) (sym (h v refl)) (k v refl)
value_follows R (Err e) s w f g h k = owes_nothing

pub zero_follows : {V U : Type 0} (R : V → U → Type 0) (v : ℕ) (a b : Outcome V) (c d : Outcome U) → Follows R a c → Follows R b d → Follows R (at_zero v a b) (at_zero v c d)
zero_follows R zero a b c d h k = h
zero_follows R (suc v) a b c d h k = k

pub spend_follows : {V U : Type 0} (R : V → U → Type 0) (n : ℕ) (w : World) (f : World → Outcome V) (g : World → Outcome U)
    → ((u : World) → Follows R (f u) (g u)) → Follows R (spend n w f) (spend n w g)
spend_follows R zero w f g h = both_stop
spend_follows R (suc n) w f g h = h (record w { fuel = n })

-- ---- plain commands

-- the same results
abbrev pub Same : List ℕ → List ℕ → Type 0
Same rs qs = rs ≡ qs

pub follows_itself : (o : Outcome (List ℕ)) → Follows Same o o
follows_itself (Goes rs w) = both_go refl
follows_itself (Stops t e) = both_stop

-- calls by the second follow those by the first
abbrev pub CallsFollow : Caller → Caller → Type 0
CallsFollow call other = (f : ℕ) (vs : List ℕ) (w : World) → Follows Same (call f vs w) (other f vs w)

pub effect_follows : (call other : Caller) → CallsFollow call other → (o : Operation) (vs : List ℕ) (w : World) → Follows Same (effect call o vs w) (effect other o vs w)
effect_follows call other h (Call f) vs w = h f vs w
effect_follows call other h (Constant v) vs w = follows_itself (gives (Constant v) vs w)
effect_follows call other h Copy vs w = follows_itself (gives Copy vs w)
effect_follows call other h (Compute op) vs w = follows_itself (gives (Compute op) vs w)
effect_follows call other h (Load k) vs w = follows_itself (gives (Load k) vs w)
effect_follows call other h (Store k) vs w = follows_itself (gives (Store k) vs w)
effect_follows call other h Forget vs w = follows_itself (gives Forget vs w)
effect_follows call other h (Access k) vs w = follows_itself (gives (Access k) vs w)

-- ---- loops

-- what holds before the head, at the test, before the body and behind the loop
module _ (Head Mid Body After : Cells → Cells → Type 0) (test test' : Cells → Option ℕ) (head head' body body' : Cells → World → Outcome Cells)
    (heads : (a b : Cells) (w : World) → Head a b → Follows Mid (head a w) (head' b w)) (tests : (a b : Cells) → Mid a b → HasAll (test a) (test' b))
    (out : (a b : Cells) → Mid a b → After a b) (on : (a b : Cells) → Mid a b → Body a b) (bodies : (a b : Cells) (w : World) → Body a b → Follows Head (body a w) (body' b w)) where
  -- the head and the test, before two ways to go on at 0 and else
  head_follows : (a b : Cells) (w : World) → Head a b → (f : Cells → World → Outcome Cells) (g : Cells → World → Outcome Cells)
      → ((c d : Cells) (u : World) → Mid c d → Follows After (f c u) (g d u))
      → Follows After (then_do (head a w) (λ c u. with_value (or_unset (test c)) u (λ v. at_zero v (Goes c u) (f c u))))
      (then_do (head' b w) (λ d u. with_value (or_unset (test' d)) u (λ v. at_zero v (Goes d u) (g d u))))
  head_follows a b w h f g k =
      then_follows Mid After _ _ (heads a b w h) (λ c d u m.
      value_follows After (or_unset (test c)) (or_unset (test' d)) u _ _ (one_read (test c) (test' d) (tests c d m)) (λ v e.
      zero_follows After v (Goes c u) (f c u) (Goes d u) (g d u) (both_go (out c d m)) (k c d u m)))

  pub turns_follow : (n : ℕ) (a b : Cells) (w : World) → Head a b → Follows After (turns n test head body a w) (turns n test' head' body' b w)
  turns_follow zero a b w h = head_follows a b w h (λ c u. Stops u.trace Spent) (λ c u. Stops u.trace Spent) (λ c d u m. both_stop)
  turns_follow (suc n) a b w h =
      head_follows a b w h (λ c u. spend u.fuel u (λ t. then_do (body c t) (turns n test head body))) (λ c u. spend u.fuel u (λ t. then_do (body' c t) (turns n test' head' body')))
      (λ c d u m. spend_follows After u.fuel u (λ t. then_do (body c t) (turns n test head body)) (λ t. then_do (body' d t) (turns n test' head' body')) (λ t.
      then_follows Head After (turns n test head body) (turns n test' head' body') (bodies c d t (on c d m)) (λ c' d' t' h'. turns_follow n c' d' t' h')))

-- ---- whole programs

-- the second run is the first one, if that does nothing undefined
abbrev pub EndsAlike : SourceRun → SourceRun → Type 0
EndsAlike r q = IsDefined r.end → q ≡ r

pub end_alike : {V U : Type 0} (R : V → U → Type 0) {o : Outcome V} {q : Outcome U} (f g : World → SourceRun)
    → Follows R o q → ((w : World) → EndsAlike (f w) (g w)) → EndsAlike (to_end o f) (to_end q g)
end_alike R f g (both_go {a} {b} {w} r) k = k w
end_alike R f g both_stop k = λ d. refl
end_alike R f g owes_nothing k = λ d. absurd d

pub ever_alike : (n : ℕ) (f g : World → Outcome (List ℕ)) (w : World) → ((u : World) → Follows Same (f u) (g u)) → EndsAlike (for_ever n f w) (for_ever n g w)
ever_alike zero f g w h = λ d. refl
ever_alike (suc n) f g w h = end_alike Same (for_ever n f) (for_ever n g) (h w) (λ u. ever_alike n f g u h)
