-- What a part of a program comes to, whatever its states are, and the ways in which parts make a whole. A meaning of programs
-- that has fuel shows once how its own outcomes are these, and has from there all that a simulation says.
use Rattle.std.proofs.Common.{◌≡◌, ℕ, zero, suc, List, Result, Ok, Err}

-- it goes on from a state; or fuel is to be spent, or a reply is asked for, where none is left, and this was shown until then;
-- or it does something undefined
pub data Behavior (S E : Type 0) : Type 0 where
  Goes : S → Behavior S E
  Spent : (shown : List E) → Behavior S E
  Starved : (shown : List E) → Behavior S E
  Undefined : Behavior S E

-- it has ended, defined, and has shown this
abbrev pub EndsWith : {S E : Type 0} → List E → Behavior S E → Type 0
EndsWith shown (Goes s) = ⊥
EndsWith shown (Spent seen) = seen ≡ shown
EndsWith shown (Starved seen) = seen ≡ shown
EndsWith shown Undefined = ⊥

-- one after the other
abbrev pub then_do : {S E : Type 0} → Behavior S E → (S → Behavior S E) → Behavior S E
then_do (Goes s) go = go s
then_do (Spent shown) go = Spent shown
then_do (Starved shown) go = Starved shown
then_do Undefined go = Undefined

-- what has no value is undefined
abbrev pub with_value : {S E A R : Type 0} → Result A R → (A → Behavior S E) → Behavior S E
with_value (Ok v) go = go v
with_value (Err reason) go = Undefined

-- the first at 0, else the second
abbrev pub at_zero : {S E : Type 0} → ℕ → Behavior S E → Behavior S E → Behavior S E
at_zero zero a b = a
at_zero (suc v) a b = b

-- one fuel less, of this much
abbrev pub spend : {S E : Type 0} → ℕ → List E → (ℕ → Behavior S E) → Behavior S E
spend zero shown go = Spent shown
spend (suc f) shown go = go f

-- how much fuel a state has left, and what it has shown
module _ {S E : Type 0} (fuel : S → ℕ) (shown : S → List E) where
  -- a loop that may still make n turns: what stands ahead of its test, and then the test of a value, which ends it at 0 and else
  -- spends one fuel for the body
  abbrev pub turns : {R : Type 0} → (S → Behavior S E) → (S → Result ℕ R) → (S → ℕ → Behavior S E) → ℕ → S → Behavior S E
  turns ahead value body zero s = then_do (ahead s) (λ t. with_value (value t) (λ v. at_zero v (Goes t) (Spent (shown t))))
  turns ahead value body (suc n) s =
      then_do (ahead s) (λ t. with_value (value t) (λ v. at_zero v (Goes t) (spend (fuel t) (shown t) (λ f. then_do (body t f) (turns ahead value body n)))))

  -- again and again, at most n times, each of which spends one fuel
  abbrev pub for_ever : (S → ℕ → Behavior S E) → ℕ → S → Behavior S E
  for_ever body zero s = Spent (shown s)
  for_ever body (suc n) s = spend (fuel s) (shown s) (λ f. then_do (body s f) (for_ever body n))
