-- Registers that are set, and bytes that are read and written.
use Rattle.std.proofs.Common.{◌≡◌, ◌≢◌, ℕ, zero, suc, ◌+◌, ◌*◌, ◌/◌, ◌%◌, ◌^◌, ◌<◌, ◌≤◌, ◌⊎◌, inl, inr, Bool, true, false, ◌&&◌, if◌then◌else◌, nat_lt, refl, sym, ap, ◌∙◌, arith}
use Rattle.std.proofs.lemmas.Bool.{eq-eqb, ne_eqb, lt-ltb}
use Rattle.std.specs.Prelude.{◌==◌}
use Rattle.lb_outcome.specs.Ram.{number_at, with_byte, with_bytes}
use Rattle.lb_outcome.specs.Registers.{is_written, with_register}

abbrev pub Registers : Type 0
Registers = ℕ → ℕ

-- RAM, a byte for each address
abbrev pub Bytes : Type 0
Bytes = ℕ → ℕ

-- ---- registers

-- a register that a write changes
abbrev pub IsWritable : ℕ → Type 0
IsWritable r = (0 < r) × (r < 32)

is_written-same : (r : ℕ) → IsWritable r → is_written r r ≡ true
is_written-same r h =
    (λ i. lt-ltb 0 r h.0 i && nat_lt r 32 && r == r) ∙ (λ i. true && lt-ltb r 32 h.1 i && r == r) ∙ (λ i. true && true && eq-eqb r r refl i)

both_and_no : (x y : Bool) → x && y && false ≡ false
both_and_no true true = refl
both_and_no true false = refl
both_and_no false true = refl
both_and_no false false = refl

is_written-other : (r x : ℕ) → x ≢ r → is_written r x ≡ false
is_written-other r x h =
    ap (λ (b : Bool). nat_lt 0 r && nat_lt r 32 && b) (ne_eqb r x (λ e. h (sym e))) ∙ both_and_no (nat_lt 0 r) (nat_lt r 32)

-- it holds what it was set to
pub set_same : (r v : ℕ) (registers : Registers) → IsWritable r → with_register r v registers r ≡ v
set_same r v registers h = ap (λ (b : Bool). if b then v else registers r) (is_written-same r h)

pub set_other : (r v : ℕ) (registers : Registers) (x : ℕ) → x ≢ r → with_register r v registers x ≡ registers x
set_other r v registers x h = ap (λ (b : Bool). if b then v else registers x) (is_written-other r x h)

-- ---- bytes

pub byte_same : (a v : ℕ) (ram : Bytes) → with_byte a v ram a ≡ v
byte_same a v ram = ap (λ (b : Bool). if b then v else ram a) (eq-eqb a a refl)

pub byte_other : (a v : ℕ) (ram : Bytes) (x : ℕ) → a ≢ x → with_byte a v ram x ≡ ram x
byte_other a v ram x h = ap (λ (b : Bool). if b then v else ram x) (ne_eqb a x h)

pub write_other : (n a v : ℕ) (ram : Bytes) (x : ℕ) → x < a ⊎ a + n ≤ x → with_bytes n a v ram x ≡ ram x
write_other zero a v ram x h = refl
write_other (suc n) a v ram x (inl h) =
    write_other n (a + 1) (v / 256) (with_byte a (v % 256) ram) x (inl (omega arith)) ∙ byte_other a (v % 256) ram x (omega arith)
write_other (suc n) a v ram x (inr h) =
    write_other n (a + 1) (v / 256) (with_byte a (v % 256) ram) x (inr (omega arith)) ∙ byte_other a (v % 256) ram x (omega arith)

pub read_same : (n a : ℕ) (ram left : Bytes) → ((x : ℕ) → a ≤ x → x < a + n → ram x ≡ left x) → number_at n a ram ≡ number_at n a left
read_same zero a ram left h = refl
read_same (suc n) a ram left h =
    let first : ram a ≡ left a = h a (omega arith) (omega arith) in
    let rest : number_at n (a + 1) ram ≡ number_at n (a + 1) left = read_same n (a + 1) ram left (λ x l u. h x (omega (arith, l)) (omega (arith, u))) in
    omega (arith, first, rest)

word_of_parts : (p q r s v : ℕ) → v < 2 ^ 32 → p ≡ v % 256 → q ≡ v / 256 % 256 → r ≡ v / 256 / 256 % 256 → s ≡ v / 256 / 256 / 256 % 256
    → p + 256 * (q + 256 * (r + 256 * (s + 256 * 0))) ≡ v
word_of_parts p q r s v h e0 e1 e2 e3 = omega arith

-- a word that was written is read again
pub read_word : (a v : ℕ) (ram : Bytes) → v < 2 ^ 32 → number_at 4 a (with_bytes 4 a v ram) ≡ v
read_word a v ram h =
    let w = with_bytes 4 a v ram in
    let m1 = with_byte a (v % 256) ram in
    let m2 = with_byte (a + 1) (v / 256 % 256) m1 in
    let m3 = with_byte (a + 1 + 1) (v / 256 / 256 % 256) m2 in
    let b0 : w a ≡ v % 256 = write_other 3 (a + 1) (v / 256) m1 a (inl (omega arith)) ∙ byte_same a (v % 256) ram in
    let b1 : w (a + 1) ≡ v / 256 % 256 = write_other 2 (a + 1 + 1) (v / 256 / 256) m2 (a + 1) (inl (omega arith)) ∙ byte_same (a + 1) (v / 256 % 256) m1 in
    let b2 : w (a + 1 + 1) ≡ v / 256 / 256 % 256 = write_other 1 (a + 1 + 1 + 1) (v / 256 / 256 / 256) m3 (a + 1 + 1) (inl (omega arith)) ∙ byte_same (a + 1 + 1) (v / 256 / 256 % 256) m2 in
    let b3 : w (a + 1 + 1 + 1) ≡ v / 256 / 256 / 256 % 256 = byte_same (a + 1 + 1 + 1) (v / 256 / 256 / 256 % 256) m3 in
    word_of_parts (w a) (w (a + 1)) (w (a + 1 + 1)) (w (a + 1 + 1 + 1)) v h b0 b1 b2 b3

pub true_or_false : (b : Bool) → ((b ≡ true) → ⊥) → b ≡ false
true_or_false true h = absurd (h refl)
true_or_false false h = refl
