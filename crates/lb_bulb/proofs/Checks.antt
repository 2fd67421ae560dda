-- The test of a frame, and the lamp's word.
use Rattle.std.proofs.Common.{◌≡◌, ℕ, zero, suc, ◌+◌, ◌*◌, ◌/◌, ◌%◌, ◌≤◌, ◌<◌, ◌^◌, ◌==◌, ◌&&◌, not, nat_le, IsTrue, Bool, true, false, if◌then◌else◌, List, [], ◌∷◌, length, get_or, slice_index, refl, sym, ap, ◌∙◌, arith, bit_and, bit_or}
use Rattle.std.specs.List.{list_all}
use Rattle.std.proofs.lemmas.Bool.Decides.{nat_tests}
use Rattle.std.proofs.lemmas.Nat.{and_mask, and_block, or_block}
use Rattle.std.proofs.lemmas.List.{get_or-take, length-take-le}
use Rattle.std.specs.Int.Bits.{or_shifted_r, or_zero_r}
use Rattle.lb_word.specs.Word.{eq_of, slu_of, ltu_of}
use Rattle.lb_syntax.specs.WellFormed.{IsWord}
use Rattle.lb_grammar.specs.Packet.{is_udp}
use Rattle.lb_grammar.specs.Grammar.{is_word, waiting, has_error, length_of, word_count, fits, packet_bytes, is_valid_packet, with_command}
use Rattle.lb_bulb.proofs.Does.{AreWords}
use Rattle.lb_bulb.proofs.Receive.{bytes_all}

abbrev pub flag : Bool → ℕ
flag true = 1
flag false = 0

and_flags : (p q : Bool) → bit_and (flag p) (flag q) ≡ flag (p && q)
and_flags true true = refl
and_flags true false = refl
and_flags false true = refl
and_flags false false = refl

if_flag : (b : Bool) → (if b then 1 else 0) ≡ flag b
if_flag true = refl
if_flag false = refl

eq_flag : (a b : ℕ) → eq_of a b ≡ flag (a == b)
eq_flag a b = if_flag (a == b)

pub flag_clear : (b : Bool) → flag b ≡ 0 → b ≡ false
flag_clear true h = absurd (let z : 1 ≡ 0 = h in omega (arith, z))
flag_clear false h = refl

pub flag_set : (b : Bool) (k : ℕ) → flag b ≡ suc k → b ≡ true
flag_set true k h = refl
flag_set false k h = absurd (let z : 0 ≡ suc k = h in omega (arith, z))

pub tests_flag : (a b c d : ℕ) → bit_and (bit_and (bit_and (eq_of a 8) (eq_of b 0)) (eq_of c 0x45)) (eq_of d 0x11) ≡ flag (((a == 8 && b == 0) && c == 0x45) && d == 0x11)
tests_flag a b c d =
    rw (eq_flag a 8, eq_flag b 0, eq_flag c 0x45, eq_flag d 0x11) (rw (and_flags (a == 8) (b == 0)) (rw (and_flags (a == 8 && b == 0) (c == 0x45)) (and_flags ((a == 8 && b == 0) && c == 0x45) (d == 0x11))))

-- a byte within the length is a byte of the words
pub byte_is : (s : ℕ) (ws : List ℕ) (k : ℕ) → k < length_of s → slice_index (packet_bytes s ws) k ≡ get_or (bytes_all ws) k 0
byte_is s ws k h = get_or-take (length_of s) (bytes_all ws) k 0 h

abbrev pub all_tests : List ℕ → Bool
all_tests bs = ((get_or bs 12 0 == 8 && get_or bs 13 0 == 0) && get_or bs 14 0 == 0x45) && get_or bs 23 0 == 0x11

pub udp_is : (s : ℕ) (ws : List ℕ) → 43 ≤ length_of s → is_udp (packet_bytes s ws) ≡ all_tests (bytes_all ws)
udp_is s ws h = rw (byte_is s ws 12 (omega (arith, h)), byte_is s ws 13 (omega (arith, h)), byte_is s ws 14 (omega (arith, h)), byte_is s ws 23 (omega (arith, h))) refl

-- ---- the flag `bad`

-- the error bit
abbrev pub error_bit : ℕ → ℕ
error_bit s = s / 2 ^ 15 % 2

-- no error, and of a length that is taken
abbrev pub is_sound : ℕ → Bool
is_sound s = (error_bit s == 0 && nat_le 43 (length_of s)) && nat_le (length_of s) 1520

abbrev pub or_bad : ℕ → ℕ → ℕ
or_bad zero f = f
or_bad (suc k) f = 1

abbrev pub bad_of : ℕ → ℕ → ℕ
bad_of e len = or_bad (ltu_of 1520 len) (or_bad (ltu_of len 43) e)

ltu_set : (a b : ℕ) → a < b → ltu_of a b ≡ 1
ltu_set a b h = grind (arith, nat_tests)

ltu_clear : (a b : ℕ) → b ≤ a → ltu_of a b ≡ 0
ltu_clear a b h = grind (arith, nat_tests)

-- by what the two tests come to
bad_cases : (x y e : ℕ) → eq_of (or_bad x (or_bad y e)) 0 ≡ 1 → (x ≡ 0) × (y ≡ 0) × (e ≡ 0)
bad_cases zero zero e h = (refl, refl, grind (arith, nat_tests))
bad_cases zero (suc y) e h = absurd (let z : 0 ≡ 1 = h in omega (arith, z))
bad_cases (suc x) y e h = absurd (let z : 0 ≡ 1 = h in omega (arith, z))

sound_test : (e len : ℕ) → e ≡ 0 → ltu_of len 43 ≡ 0 → ltu_of 1520 len ≡ 0 → ((e == 0 && nat_le 43 len) && nat_le len 1520) ≡ true
sound_test e len g h i = grind (arith, nat_tests)

one_of_two : (a b k : ℕ) → eq_of a b ≡ suc k → eq_of a b ≡ 1
one_of_two a b k h = grind (arith, nat_tests)

pub good_flag : (s k : ℕ) → eq_of (bad_of (error_bit s) (length_of s)) 0 ≡ suc k → is_sound s ≡ true
good_flag s k h =
    let c : (ltu_of 1520 (length_of s) ≡ 0) × (ltu_of (length_of s) 43 ≡ 0) × (error_bit s ≡ 0) = bad_cases (ltu_of 1520 (length_of s)) (ltu_of (length_of s) 43) (error_bit s) (one_of_two _ 0 k h) in
    sound_test (error_bit s) (length_of s) c.2 c.1 c.0

-- the converse, by cases of the test
sound_parts : (e len : ℕ) → ((e == 0 && nat_le 43 len) && nat_le len 1520) ≡ true → (e ≡ 0) × (43 ≤ len) × (len ≤ 1520)
sound_parts e len h = (grind (arith, nat_tests), grind (arith, nat_tests), grind (arith, nat_tests))

pub sound_length : (s : ℕ) → is_sound s ≡ true → (error_bit s ≡ 0) × (43 ≤ length_of s) × (length_of s ≤ 1520)
sound_length s h = sound_parts (error_bit s) (length_of s) h

pub bad_flag : (s : ℕ) (b : Bool) → is_sound s ≡ b → eq_of (bad_of (error_bit s) (length_of s)) 0 ≡ 0 → b ≡ false
bad_flag s false h z = refl
bad_flag s true h z =
    let c : (error_bit s ≡ 0) × (43 ≤ length_of s) × (length_of s ≤ 1520) = sound_length s h in
    let x : ltu_of 1520 (length_of s) ≡ 0 = ltu_clear 1520 (length_of s) c.2 in
    let y : ltu_of (length_of s) 43 ≡ 0 = ltu_clear (length_of s) 43 c.1 in
    let e : bad_of (error_bit s) (length_of s) ≡ 0 = ap (λ (q : ℕ). or_bad q (or_bad (ltu_of (length_of s) 43) (error_bit s))) x ∙ ap (λ (q : ℕ). or_bad q (error_bit s)) y ∙ c.0 in
    let one : eq_of 0 0 ≡ 1 = refl in
    let f : 1 ≡ 0 = sym one ∙ ap (λ (q : ℕ). eq_of q 0) (sym e) ∙ z in
    absurd (omega (arith, f))

-- ---- whether a packet counts

no_error : (s : ℕ) → not (has_error s) ≡ (error_bit s == 0)
no_error s = by (error_bit s) (omega arith)
  where
    by : (e : ℕ) → e < 2 → not (e == 1) ≡ (e == 0)
    by zero h = refl
    by (suc zero) h = refl
    by (suc (suc e)) h = absurd (omega (arith, h))

brackets : (a b c d : Bool) → ((a && (b && c)) && d) ≡ (((a && b) && c) && d)
brackets true b c d = refl
brackets false b c d = refl

pub valid_is : (s : ℕ) (ws : List ℕ) → length_of s ≤ length (bytes_all ws) → is_valid_packet s ws ≡ (is_sound s && is_udp (packet_bytes s ws))
valid_is s ws h =
    let u : Bool = is_udp (packet_bytes s ws) in
    let n : length (packet_bytes s ws) ≡ length_of s = length-take-le (length_of s) (bytes_all ws) h in
    ap (λ (m : ℕ). (not (has_error s) && (nat_le 43 m && nat_le m 1520)) && u) n
    ∙ ap (λ (b : Bool). (b && (nat_le 43 (length_of s) && nat_le (length_of s) 1520)) && u) (no_error s)
    ∙ brackets (error_bit s == 0) (nat_le 43 (length_of s)) (nat_le (length_of s) 1520) u

-- ---- the forms' tests

pub empty_test : (v : ℕ) → IsWord v → bit_and (v / 65536) 255 ≡ 0 → IsTrue (is_word v && waiting v == 0)
empty_test v h e = let z : bit_and (v / 65536) 255 ≡ v / 65536 % 256 = and_mask (v / 65536) 8 in let y : v / 65536 % 256 ≡ 0 = sym z ∙ e in grind (arith, nat_tests)

pub filled_test : (v k : ℕ) → IsWord v → bit_and (v / 65536) 255 ≡ suc k → IsTrue (is_word v && not (waiting v == 0))
filled_test v k h e = let z : bit_and (v / 65536) 255 ≡ v / 65536 % 256 = and_mask (v / 65536) 8 in let y : v / 65536 % 256 ≡ suc k = sym z ∙ e in grind (arith, nat_tests)

pub status_test : (v : ℕ) → IsWord v → IsTrue (is_word v)
status_test v h = grind (arith, nat_tests)

both_true : (a b : Bool) → a ≡ true → b ≡ true → (a && b) ≡ true
both_true true true g h = refl
both_true true false g h = h
both_true false b g h = g

word_is : (w : ℕ) → IsWord w → is_word w ≡ true
word_is w h = grind (arith, nat_tests)

words_are : (ws : List ℕ) → AreWords ws → list_all is_word ws ≡ true
words_are [] h = refl
words_are (w ∷ ws) h = both_true (is_word w) (list_all is_word ws) (word_is w h.0) (words_are ws h.1)

same_number : (a b : ℕ) → a ≡ b → (a == b) ≡ true
same_number a b h = grind (arith, nat_tests)

pub fits_is : (s : ℕ) (ws : List ℕ) → length ws ≡ word_count s → AreWords ws → fits s ws ≡ true
fits_is s ws h g = both_true (length ws == word_count s) (list_all is_word ws) (same_number (length ws) (word_count s) h) (words_are ws g)

pub and_test : (a b : Bool) → a ≡ true → b ≡ true → IsTrue (a && b)
and_test a b g h = both_true a b g h

pub and_not_test : (a b : Bool) → a ≡ true → b ≡ false → IsTrue (a && not b)
and_not_test a true g h = absurd (let z : true ≡ false = h in cc)
and_not_test a false g h = both_true a true g refl

pub not_sound : (a b : Bool) → a ≡ false → (a && b) ≡ false
not_sound true b h = absurd (let z : true ≡ false = h in cc)
not_sound false b h = refl

pub not_udp : (a b : Bool) → b ≡ false → (a && b) ≡ false
not_udp true b h = h
not_udp false b h = refl

-- ---- the lamp's word

-- a word with bit 23 cleared
clear_23 : (v : ℕ) → v < 2 ^ 32 → bit_and v 0xFF7F_FFFF ≡ v / 2 ^ 24 * 2 ^ 24 + v % 2 ^ 23
clear_23 v h =
    let e : v ≡ v / 2 ^ 24 * 2 ^ 24 + v % 2 ^ 24 = omega arith in
    let b : bit_and (v / 2 ^ 24 * 2 ^ 24 + v % 2 ^ 24) 0xFF7F_FFFF ≡ bit_and (v / 2 ^ 24) 0xFF * 2 ^ 24 + bit_and (v % 2 ^ 24) 0x7F_FFFF = and_block 24 (v / 2 ^ 24) 0xFF (v % 2 ^ 24) 0x7F_FFFF (omega arith) (omega arith) in
    let f : bit_and (v / 2 ^ 24) 0xFF ≡ v / 2 ^ 24 % 2 ^ 8 = and_mask (v / 2 ^ 24) 8 in
    let g : bit_and (v % 2 ^ 24) 0x7F_FFFF ≡ v % 2 ^ 24 % 2 ^ 23 = and_mask (v % 2 ^ 24) 23 in
    ap (λ (x : ℕ). bit_and x 0xFF7F_FFFF) e ∙ b ∙ omega (arith, f, g)

-- bit 23 set to c
bit_put : (v c : ℕ) → v < 2 ^ 32 → c < 2 → bit_or (bit_and v 0xFF7F_FFFF) (slu_of c 23) ≡ v / 2 ^ 24 * 2 ^ 24 + c * 2 ^ 23 + v % 2 ^ 23
bit_put v c h i =
    let e : slu_of c 23 ≡ 0 * 2 ^ 24 + c * 2 ^ 23 = omega arith in
    let g : bit_or (v % 2 ^ 23) (c * 2 ^ 23) ≡ c * 2 ^ 23 + v % 2 ^ 23 = or_shifted_r c 23 (v % 2 ^ 23) (omega arith) in
    let b : bit_or (v / 2 ^ 24 * 2 ^ 24 + v % 2 ^ 23) (0 * 2 ^ 24 + c * 2 ^ 23) ≡ bit_or (v / 2 ^ 24) 0 * 2 ^ 24 + bit_or (v % 2 ^ 23) (c * 2 ^ 23) = or_block 24 (v / 2 ^ 24) 0 (v % 2 ^ 23) (c * 2 ^ 23) (omega arith) (omega arith) in
    ap (λ (x : ℕ). bit_or x (slu_of c 23)) (clear_23 v h) ∙ ap (λ (x : ℕ). bit_or (v / 2 ^ 24 * 2 ^ 24 + v % 2 ^ 23) x) e ∙ b ∙ omega (arith, g, or_zero_r (v / 2 ^ 24))

bit_is : (c : ℕ) → c < 2 → c * 2 ^ 23 ≡ (if (c == 1) then 2 ^ 23 else 0)
bit_is zero h = refl
bit_is (suc zero) h = refl
bit_is (suc (suc c)) h = absurd (omega (arith, h))

pub lamp_word : (v c : ℕ) → v < 2 ^ 32 → c < 2 → bit_or (bit_and v 0xFF7F_FFFF) (slu_of c 23) ≡ with_command v (c == 1)
lamp_word v c h i = bit_put v c h i ∙ ap (λ (b : ℕ). v / 2 ^ 24 * 2 ^ 24 + b + v % 2 ^ 23) (bit_is c i)
