-- How many brackets are open over a text in pieces.
use Rattle.std.proofs.Common.{◌≡◌, ℕ, ◌+◌, ◌-◌, Bool, true, false, not, ◌&&◌, ◌||◌, ◌==◌, [], ◌∷◌, ◌++◌, refl, ap, subst, ◌∙◌, if◌then◌else◌, arith, append_assoc}
use Rattle.std.specs.Prelude.{max, ◌≤◌}
use Rattle.std.proofs.lemmas.Bool.{and_parts}
use Rattle.lb_syntax.specs.Names.{Text}
use Rattle.lb_syntax.specs.Brackets.{open_after, most_open}

-- over the text, from n brackets open to k, with m open at most
pub record Goes (text : Text) (n m k : ℕ) : Type 0 where
  pub is : (rest : Text) → most_open n (text ++ rest) ≡ max m (most_open k rest)

-- the text closes what it opens, and has at most m of its own open at once
pub record Nests (text : Text) (m : ℕ) : Type 0 where
  pub goes : (n : ℕ) → Goes text n (n + m) n

pub same_most : {text : Text} {n m k : ℕ} (m' : ℕ) → Goes text n m k → m ≡ m' → Goes text n m' k
same_most {k = k} m' p e = record { is = λ rest. p.is rest ∙ ap (λ x. max x (most_open k rest)) e }

pub max_assoc : (x y z : ℕ) → max x (max y z) ≡ max (max x y) z
max_assoc x y z = omega arith

pub goes_on : {a b : Text} {n m k m' k' : ℕ} → Goes a n m k → Goes b k m' k' → Goes (a ++ b) n (max m m') k'
goes_on {a = a} {b = b} {n = n} {m = m} {m' = m'} {k' = k'} p q = record {
  is = λ rest. ap (λ t. most_open n t) (append_assoc a b rest) ∙ p.is (b ++ rest) ∙ ap (λ x. max m x) (q.is rest) ∙ max_assoc m m' (most_open k' rest);
}

-- no byte is a bracket
abbrev pub is_plain_byte : ℕ → Bool
is_plain_byte b = not (b == 40 || b == 123) && not (b == 41 || b == 125)

abbrev pub is_plain : Text → Bool
is_plain [] = true
is_plain (b ∷ text) = is_plain_byte b && is_plain text

pub least_open : (n : ℕ) (text : Text) → n ≤ most_open n text
least_open n [] = omega arith
least_open n (b ∷ text) = omega arith

absorbed : (n x : ℕ) → n ≤ x → x ≡ max n x
absorbed n x h = omega arith

stays : (n : ℕ) (p q : Bool) → (not p && not q) ≡ true → (if p then n + 1 else (if q then n - 1 else n)) ≡ n
stays n true q h = cc
stays n false true h = cc
stays n false false h = refl

max_twice : (n x : ℕ) → max n (max n x) ≡ max n x
max_twice n x = omega arith

pub plain_goes : (text : Text) (n : ℕ) → is_plain text ≡ true → Goes text n n n
plain_goes [] n h = record { is = λ rest. absorbed n (most_open n rest) (least_open n rest) }
plain_goes (b ∷ text) n h =
    let both = and_parts (is_plain_byte b) (is_plain text) h in
    let same = stays n (b == 40 || b == 123) (b == 41 || b == 125) both.0 in
    record { is = λ rest. ap (λ k. max n (most_open k (text ++ rest))) same ∙ ap (λ x. max n x) ((plain_goes text n both.1).is rest) ∙ max_twice n (most_open n rest) }

plus_zero : (n : ℕ) → n ≡ n + 0
plus_zero n = omega arith

pub plain_nests : (text : Text) → is_plain text ≡ true → Nests text 0
plain_nests text h = record { goes = λ n. same_most (n + 0) (plain_goes text n h) (plus_zero n) }

nested_both : (n m k : ℕ) → max (n + m) (n + k) ≡ n + max m k
nested_both n m k = omega arith

pub nests_on : {a b : Text} {m k : ℕ} → Nests a m → Nests b k → Nests (a ++ b) (max m k)
nests_on {m = m} {k = k} p q = record { goes = λ n. same_most (n + max m k) (goes_on (p.goes n) (q.goes n)) (nested_both n m k) }

pub same_nest : {text : Text} {m : ℕ} (k : ℕ) → Nests text m → m ≡ k → Nests text k
same_nest {m = m} k p e = record { goes = λ n. same_most (n + k) (p.goes n) (ap (λ x. n + x) e) }

-- behind text without brackets
pub plain_on : (a : Text) {b : Text} {m : ℕ} → is_plain a ≡ true → Nests b m → Nests (a ++ b) m
plain_on a {m = m} h q = same_nest m (nests_on (plain_nests a h) q) (omega arith)

-- before text without brackets
pub on_plain : {a : Text} (b : Text) {m : ℕ} → is_plain b ≡ true → Nests a m → Nests (a ++ b) m
on_plain b {m = m} h p = same_nest m (nests_on p (plain_nests b h)) (omega arith)

one_more : (n x : ℕ) → max n (max (n + 1) x) ≡ max (n + 1) x
one_more n x = omega arith

one_less : (n : ℕ) → n + 1 - 1 ≡ n
one_less n = omega arith

-- a bracket and text without brackets behind it
pub opens : (n b : ℕ) (text : Text) → open_after n b ≡ n + 1 → is_plain text ≡ true → Goes (b ∷ text) n (n + 1) (n + 1)
opens n b text e h = record {
  is = λ rest. ap (λ k. max n (most_open k (text ++ rest))) e ∙ ap (λ x. max n x) ((plain_goes text (n + 1) h).is rest) ∙ one_more n (most_open (n + 1) rest);
}

sinks : (n x : ℕ) → max (n + 1) (max n x) ≡ max (n + 1) x
sinks n x = omega arith

pub closes : (n b : ℕ) (text : Text) → open_after (n + 1) b ≡ n + 1 - 1 → is_plain text ≡ true → Goes (b ∷ text) (n + 1) (n + 1) n
closes n b text e h = record {
  is = λ rest. ap (λ k. max (n + 1) (most_open k (text ++ rest))) (e ∙ one_less n) ∙ ap (λ x. max (n + 1) x) ((plain_goes text n h).is rest) ∙ sinks n (most_open n rest);
}

-- brackets round text in several pieces: what stands between them nests
pub round : {text : Text} {m : ℕ} (after : Text) → is_plain after ≡ true → Nests text m → Nests (40 ∷ (text ++ 41 ∷ after)) (m + 1)
round {m = m} after h p = record {
  goes = λ n.
      same_most (n + (m + 1)) (goes_on (opens n 40 [] refl refl) (goes_on (p.goes (n + 1)) (closes n 41 after refl h))) (omega arith);
}

pub same_text : {a : Text} {m : ℕ} (b : Text) → Nests a m → a ≡ b → Nests b m
same_text {m = m} b p e = subst (λ (t : Text). Nests t m) e p
