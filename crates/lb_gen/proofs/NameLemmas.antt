-- The names in a large program are names, and differ.
use Rattle.std.proofs.Common.{◌≡◌, ℕ, zero, suc, ◌+◌, ◌<◌, ◌^◌, Bool, true, false, ◌&&◌, refl, sym, ap, subst, arith, decimal, drop}
use Rattle.std.specs.Fmt.{digits}
use Rattle.std.proofs.lemmas.Fmt.{decimal_injective}
use Rattle.lb_syntax.specs.Names.{Text, IsName, is_name, is_reserved}
use Rattle.lb_gen.specs.Made.{function_name}
use Rattle.lb_gen.specs.declared.words.Word.{Word}
use Rattle.lb_gen.specs.declared.words.Word.TheVariants.{A, B, I, R, Init, Loop}
use Rattle.lb_gen.specs.InternalParts.{text_of}

pub word_is_name : (w : Word) → IsName (text_of w)
unfolding is_reserved
word_is_name A = refl
word_is_name B = refl
word_is_name I = refl
word_is_name R = refl
word_is_name Init = refl
word_is_name Loop = refl

-- whether a test holds of each of the numbers from a on, as many as n
abbrev all_hold : (ℕ → Bool) → ℕ → ℕ → Bool
all_hold test a zero = true
all_hold test a (suc n) = test a && all_hold test (a + 1) n

pub both : (b c : Bool) → (b && c) ≡ true → (b ≡ true) × (c ≡ true)
both true c h = (refl, h)
both false c h = cc

holds_at : (test : ℕ → Bool) (a n k : ℕ) → k < n → all_hold test a n ≡ true → test (a + k) ≡ true
holds_at test a zero k h all = absurd (omega (arith, h))
holds_at test a (suc n) zero h all =
    let e : a + 0 ≡ a = omega arith in
    subst (λ (m : ℕ). test m ≡ true) (sym e) (both (test a) (all_hold test (a + 1) n) all).0
holds_at test a (suc n) (suc k) h all =
    let e : a + suc k ≡ (a + 1) + k = omega arith in
    let l : k < n = omega (arith, h) in
    subst (λ (m : ℕ). test m ≡ true) (sym e) (holds_at test (a + 1) n k l (both (test a) (all_hold test (a + 1) n) all).1)

all_named : all_hold (λ j. is_name (function_name j)) 0 64 ≡ true
unfolding is_reserved digits
all_named = refl

pub function_is_named : (j : ℕ) → j < 64 → IsName (function_name j)
function_is_named j h =
    let e : 0 + j ≡ j = omega arith in
    subst (λ (k : ℕ). IsName (function_name k)) e (holds_at (λ k. is_name (function_name k)) 0 64 j h all_named)

pub bytes_are_named : (j : ℕ) (bytes : Text) → j < 64 → bytes ≡ function_name j → IsName bytes
bytes_are_named j bytes h e = subst IsName (sym e) (function_is_named j h)

-- different numbers have different names
pub same_name : (j k : ℕ) → j < 64 → k < 64 → function_name j ≡ function_name k → j ≡ k
same_name j k h i e =
    let m : j < 2 ^ 64 = omega (arith, h) in
    let n : k < 2 ^ 64 = omega (arith, i) in
    let d : decimal j ≡ decimal k = ap (λ (x : Text). drop 1 x) e in
    decimal_injective j k m n d
