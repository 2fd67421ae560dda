-- Two ways to go on that do the same.
use Rattle.std.proofs.Common.{◌≡◌, ℕ, zero, suc, Result, Ok, Err, refl}
use Rattle.lb_source.specs.declared.ends.Reason.{Reason}
use Rattle.lb_source.specs.Run.{State, Outcome, with_value, at_zero, spend}

pub value_same : {A : Type 0} (r : Result A Reason) (s : State) (f g : A → Outcome) → ((v : A) → f v ≡ g v) → with_value r s f ≡ with_value r s g
value_same (Ok v) s f g h = h v
value_same (Err e) s f g h = refl

pub zero_same : (v : ℕ) (a b c d : Outcome) → a ≡ c → b ≡ d → at_zero v a b ≡ at_zero v c d
zero_same zero a b c d h k = h
zero_same (suc v) a b c d h k = k

pub spend_same : (n : ℕ) (s : State) (f g : State → Outcome) → ((h : ℕ) → n ≡ suc h → f (record s { fuel = h }) ≡ g (record s { fuel = h })) → spend n s f ≡ spend n s g
spend_same zero s f g h = refl
spend_same (suc n) s f g h = h n refl
