-- Forms of the numbers that pass a test.
use Rattle.std.proofs.Common.{◌≡◌, ℕ, ◌&&◌, ◌==◌, not, Bool, true, false, IsTrue, inl, inr, List, refl, sym, ap, subst}
use Rattle.lb_trace.specs.declared.Event.{Event}
use Rattle.lb_grammar.specs.Forms.{Form, Any, Lists}
use Rattle.lb_grammar.specs.Grammar.{is_word}
use Rattle.lb_grammar.proofs.Same.{Same, Or, Some as ForSome}
use Rattle.lb_grammar.proofs.Followed.{Followed}
use Rattle.lb_grammar.proofs.Reading.{equal, equals_itself}

pub both_true : (a b : Bool) → IsTrue a → IsTrue b → IsTrue (a && b)
both_true true b g h = h
both_true false b g h = g

pub first_true : (a b : Bool) → IsTrue (a && b) → IsTrue a
first_true true b h = refl
first_true false b h = h

pub second_true : (a b : Bool) → IsTrue (a && b) → IsTrue b
second_true true b h = h
second_true false b h = absurd (let z : false ≡ true = h in cc)

pub not_true : (b : Bool) → b ≡ false → IsTrue (not b)
not_true b h = ap not h

pub not_false : (b : Bool) → IsTrue (not b) → b ≡ false
not_false true h = absurd (let z : false ≡ true = h in cc)
not_false false h = refl

-- where a test decides what follows
module _ (form : ℕ → Form) (test : ℕ → Bool) (k : Bool → Lists) where
  abbrev Tested : Lists
  Tested = ForSome is_word (λ v. Followed (form v) (k (test v)))

  abbrev Sorted : Lists
  Sorted = Or (Followed (Any (λ v. is_word v && test v) form) (k true)) (Followed (Any (λ v. is_word v && not (test v)) form) (k false))

  by_test : (l : List Event) (v : ℕ) (b : Bool) → IsTrue (is_word v) → test v ≡ b → Followed (form v) (k b) l → Sorted l
  by_test l v true w e h = inl (v, both_true (is_word v) (test v) w e, h)
  by_test l v false w e h = inr (v, both_true (is_word v) (not (test v)) w (not_true (test v) e), h)

  from : (l : List Event) → Sorted l → Tested l
  from l (inl h) = (h.0, first_true (is_word h.0) (test h.0) h.1, subst (λ b. Followed (form h.0) (k b) l) (sym (second_true (is_word h.0) (test h.0) h.1)) h.2)
  from l (inr h) = (h.0, first_true (is_word h.0) (not (test h.0)) h.1, subst (λ b. Followed (form h.0) (k b) l) (sym (not_false (test h.0) (second_true (is_word h.0) (not (test h.0)) h.1))) h.2)

  pub by_test_same : Same Tested Sorted
  by_test_same = record { to = λ l h. by_test l h.0 (test h.0) h.1 refl h.2; from = from }

-- tests that the same numbers pass
pub any_same : (t u : ℕ → Bool) (form : ℕ → Form) (k : Lists) → ((v : ℕ) → IsTrue (t v) → IsTrue (u v)) → ((v : ℕ) → IsTrue (u v) → IsTrue (t v)) → Same (Followed (Any t form) k) (Followed (Any u form) k)
any_same t u form k f g = record { to = λ l h. (h.0, f h.0 h.1, h.2); from = λ l h. (h.0, g h.0 h.1, h.2) }

-- a test that one number passes
pub only : (c : ℕ) (form : ℕ → Form) (k : Lists) → IsTrue (is_word c) → Same (Followed (Any (λ v. is_word v && v == c) form) k) (Followed (form c) k)
only c form k w = record {
  to = λ l h. subst (λ v. Followed (form v) k l) (equal h.0 c (second_true (is_word h.0) (h.0 == c) h.1)) h.2;
  from = λ l h. (c, both_true (is_word c) (c == c) w (equals_itself c), h);
}
