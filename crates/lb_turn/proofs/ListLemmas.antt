-- Lists: facts of each element, and places.
use Rattle.std.proofs.Common.{◌≡◌, ◌≢◌, ◌⊎◌, ℕ, zero, suc, ◌+◌, ◌<◌, List, [], ◌∷◌, ◌++◌, length, sym, refl, ap, ◌∙◌, subst, ⊎_elim, inl, inr, arith, eq-eqb, ne_eqb}
use Rattle.std.specs.Prelude.{if◌then◌else◌}
use Rattle.std.specs.List.{AllByRecursion}
use mathlib.Core.Logic.{dite}
use mathlib.Core.Option.{some, some-injective, some-ne-none}
use native.Mathlib.Decide.{ℕ_discrete}
use lib.ListN.{get_elem?}
use Rattle.lb_trace.specs.declared.Entry.{Entry}
use Rattle.lb_trace.specs.declared.Kind.{Kind}
use Rattle.lb_turn.specs.Entries.{receipts_of}

module _ {A : Type 0} where
  pub each_append : (P : A → Type 0) (xs ys : List A) → AllByRecursion P xs → AllByRecursion P ys → AllByRecursion P (xs ++ ys)
  each_append P [] ys p q = q
  each_append P (x ∷ xs) ys p q = (p.0, each_append P xs ys p.1 q)

  pub each_map : (P Q : A → Type 0) → ((x : A) → P x → Q x) → (xs : List A) → AllByRecursion P xs → AllByRecursion Q xs
  each_map P Q f [] p = tt
  each_map P Q f (x ∷ xs) p = (f x p.0, each_map P Q f xs p.1)

  pub each_at : (P : A → Type 0) (xs : List A) (i : ℕ) (a : A) → AllByRecursion P xs → get_elem? xs i ≡ some a → P a
  each_at P [] i a p e = absurd (some-ne-none a (sym e))
  each_at P (x ∷ xs) zero a p e = subst P (some-injective x a e) p.0
  each_at P (x ∷ xs) (suc i) a p e = each_at P xs i a p.1 e

  pub each_between : (P : A → Type 0) (xs : List A) (x : A) (ys : List A) → AllByRecursion P (xs ++ x ∷ [] ++ ys) → P x
  each_between P [] x ys p = p.0
  each_between P (z ∷ xs) x ys p = each_between P xs x ys p.1

  pub below_length : (xs : List A) (i : ℕ) (a : A) → get_elem? xs i ≡ some a → i < length xs
  below_length [] i a e = absurd (some-ne-none a (sym e))
  below_length (x ∷ xs) zero a e = omega arith
  below_length (x ∷ xs) (suc i) a e = let h = below_length xs i a e in omega arith

  -- what stands in a list with one more stood there before, or is the one
  pub at_one_more : (l : List A) (a b : A) (j : ℕ) → get_elem? (l ++ a ∷ []) j ≡ some b
      → (get_elem? l j ≡ some b) ⊎ ((j ≡ length l) × (a ≡ b))
  at_one_more [] a b zero e = inr (refl, some-injective a b e)
  at_one_more [] a b (suc j) e = absurd (some-ne-none b (sym e))
  at_one_more (x ∷ xs) a b zero e = inl e
  at_one_more (x ∷ xs) a b (suc j) e = ⊎_elim inl (λ t. inr (ap suc t.0, t.1)) (at_one_more xs a b j e)

-- the receipts of the first entry's part
module _ (n place : ℕ) (e : Entry) (es : List Entry) where
  abbrev Rest : List (ℕ × Kind)
  Rest = receipts_of n (place + 1) es

  receipts_mine : e.worker ≡ n → receipts_of n place (e ∷ es) ≡ (place, e.kind) ∷ Rest
  receipts_mine is = ap (λ b. if b then (place, e.kind) ∷ Rest else Rest) (eq-eqb e.worker n is)

  receipts_other : e.worker ≢ n → receipts_of n place (e ∷ es) ≡ Rest
  receipts_other not = ap (λ b. if b then (place, e.kind) ∷ Rest else Rest) (ne_eqb e.worker n not)

-- the receipts of what is added
pub receipts_append : (n place : ℕ) (xs ys : List Entry)
    → receipts_of n place (xs ++ ys) ≡ receipts_of n place xs ++ receipts_of n (place + length xs) ys
receipts_append n place [] ys = ap (λ k. receipts_of n k ys) (omega arith)
receipts_append n place (e ∷ es) ys =
    let k : place + 1 + length es ≡ place + suc (length es) = omega arith in
    let rest : receipts_of n (place + 1) (es ++ ys) ≡ receipts_of n (place + 1) es ++ receipts_of n (place + suc (length es)) ys =
    receipts_append n (place + 1) es ys ∙ ap (λ z. receipts_of n (place + 1) es ++ receipts_of n z ys) k in
    dite (ℕ_discrete e.worker n)
    (λ is. receipts_mine n place e (es ++ ys) is ∙ (ap (λ z. (place, e.kind) ∷ z) rest
    ∙ ap (λ z. z ++ receipts_of n (place + suc (length es)) ys) (sym (receipts_mine n place e es is))))
    (λ not. receipts_other n place e (es ++ ys) not ∙ (rest
    ∙ ap (λ z. z ++ receipts_of n (place + suc (length es)) ys) (sym (receipts_other n place e es not))))

pub receipts_none : (n place : ℕ) (es : List Entry) → AllByRecursion (λ e. e.worker ≢ n) es → receipts_of n place es ≡ []
receipts_none n place [] p = refl
receipts_none n place (e ∷ es) p = receipts_other n place e es p.0 ∙ receipts_none n (place + 1) es p.1

pub receipts_one : (n place : ℕ) (e : Entry) → e.worker ≡ n → receipts_of n place (e ∷ []) ≡ (place, e.kind) ∷ []
receipts_one n place e is = receipts_mine n place e [] is
