-- Bytes and words in the list that RAM is.
use Rattle.std.proofs.Common.{◌≡◌, ℕ, zero, suc, ◌+◌, ◌*◌, ◌/◌, ◌%◌, ◌≤◌, ◌<◌, ◌==◌, Bool, true, false, if◌then◌else◌, List, [], ◌∷◌, ◌++◌, take, drop, set, length, replicate, slice_index, refl, sym, ap, ◌∙◌, arith, append_assoc}
use Rattle.std.specs.Int.{bytes_low_first}
use Rattle.std.proofs.Math.Seq.{drop-cons}
use Rattle.std.proofs.lemmas.Bool.{eqb-true, eqb-false}
use borrow.Rule.Slice.PartMut.{put_mid}
use Rattle.std.proofs.lemmas.List.{append-nil, drop-drop, drop_all, get_or-drop, get_or-set_other, length-drop, length-set, take_all}
use Rattle.std.proofs.lemmas.List.Edits.{sets, sets-eq}
use Rattle.std.proofs.lemmas.Grind.{get_or-set_at}
use Rattle.byteorder.specs.Endian.{little_from}
use Rattle.lb_outcome.specs.Cells.{cells}
use Rattle.lb_outcome.specs.Ram.{number_at, with_byte, with_bytes, with_words}

zero_at : (n x : ℕ) → slice_index (replicate n 0) x ≡ 0
zero_at zero x = refl
zero_at (suc n) zero = refl
zero_at (suc n) (suc x) = zero_at n x

-- a list of zeros holds 0 everywhere
pub cells_zeros : (n : ℕ) → cells (replicate n 0) ≡ (λ x. 0)
cells_zeros n = λ i x. zero_at n x i

cell_set : (xs : List ℕ) (a v x : ℕ) (b : Bool) → (a == x) ≡ b → a < length xs → slice_index (set xs a v) x ≡ (if b then v else slice_index xs x)
cell_set xs a v x true e h = get_or-set_at xs a x v 0 (sym (eqb-true a x e)) h
cell_set xs a v x false e h = get_or-set_other xs a x v 0 (λ same. eqb-false a x e (sym same))

-- a place that is set
pub cells_set : (xs : List ℕ) (a v : ℕ) → a < length xs → cells (set xs a v) ≡ with_byte a v (cells xs)
cells_set xs a v h = λ i x. cell_set xs a v x (a == x) refl h i

-- the n lowest bytes of v, the least significant first
abbrev low_bytes : ℕ → ℕ → List ℕ
low_bytes zero v = []
low_bytes (suc n) v = v % 256 ∷ low_bytes n (v / 256)

length_low_bytes : (n v : ℕ) → length (low_bytes n v) ≡ n
length_low_bytes zero v = refl
length_low_bytes (suc n) v = omega (arith, length_low_bytes n (v / 256))

cells_sets : (n a v : ℕ) (xs : List ℕ) → a + n ≤ length xs → cells (sets xs a (low_bytes n v)) ≡ with_bytes n a v (cells xs)
cells_sets zero a v xs h = refl
cells_sets (suc n) a v xs h =
    let next : suc a ≡ a + 1 = omega arith in
    let within : suc a + n ≤ length (set xs a (v % 256)) = omega (arith, h, length-set xs a (v % 256)) in
    let here : a < length xs = omega (arith, h) in
    cells_sets n (suc a) (v / 256) (set xs a (v % 256)) within ∙ ap (λ k. with_bytes n k (v / 256) (cells (set xs a (v % 256)))) next
    ∙ ap (λ (ram : ℕ → ℕ). with_bytes n (a + 1) (v / 256) ram) (cells_set xs a (v % 256) here)

cells_written : (n a v : ℕ) (xs : List ℕ) → a + n ≤ length xs → cells (take a xs ++ (low_bytes n v ++ drop n (drop a xs))) ≡ with_bytes n a v (cells xs)
cells_written n a v xs h =
    let long : length (low_bytes n v) ≡ n = length_low_bytes n v in
    let within : a + length (low_bytes n v) ≤ length xs = omega (arith, h, long) in
    ap (λ ys. cells (take a xs ++ (low_bytes n v ++ ys))) (drop-drop n a xs)
    ∙ ap (λ k. cells (take a xs ++ (low_bytes n v ++ drop (a + k) xs))) (sym long)
    ∙ ap cells (sym (append_assoc (take a xs) (low_bytes n v) (drop (a + length (low_bytes n v)) xs)) ∙ sym (sets-eq (low_bytes n v) xs a within))
    ∙ cells_sets n a v xs h

-- a half that is written
pub cells_half : (a v : ℕ) (xs : List ℕ) → a + 2 ≤ length xs → cells (take a xs ++ (bytes_low_first 0 2 (v % 65536) ++ drop 2 (drop a xs))) ≡ with_bytes 2 a v (cells xs)
cells_half a v xs h =
    let low : v % 65536 % 256 ≡ v % 256 = omega arith in
    let high : v % 65536 / 256 % 256 ≡ v / 256 % 256 = omega arith in
    ap (λ k. cells (take a xs ++ (k ∷ v % 65536 / 256 % 256 ∷ [] ++ drop 2 (drop a xs)))) low
    ∙ ap (λ k. cells (take a xs ++ (v % 256 ∷ k ∷ [] ++ drop 2 (drop a xs)))) high
    ∙ cells_written 2 a v xs h

-- a word that is written
pub cells_word : (a v : ℕ) (xs : List ℕ) → a + 4 ≤ length xs → cells (take a xs ++ (bytes_low_first 0 4 v ++ drop 4 (drop a xs))) ≡ with_bytes 4 a v (cells xs)
cells_word a v xs h =
    let two : v / 65536 ≡ v / 256 / 256 = omega arith in
    let three : v / 16777216 ≡ v / 256 / 256 / 256 = omega arith in
    ap (λ k. cells (take a xs ++ (v % 256 ∷ v / 256 % 256 ∷ k % 256 ∷ v / 16777216 % 256 ∷ [] ++ drop 4 (drop a xs)))) two
    ∙ ap (λ k. cells (take a xs ++ (v % 256 ∷ v / 256 % 256 ∷ v / 256 / 256 % 256 ∷ k % 256 ∷ [] ++ drop 4 (drop a xs)))) three
    ∙ cells_written 4 a v xs h

-- the bytes from a on are put back as bs and then what stood there
put_back : (n a k : ℕ) (bs xs ys : List ℕ) → length xs ≤ a + k → ys ≡ bs ++ drop n (take k (drop a xs)) → put_mid a k xs ys ≡ take a xs ++ (bs ++ drop n (drop a xs))
put_back n a k bs xs ys all e =
    let rest : length (drop a xs) ≤ k = omega (arith, all, length-drop a xs) in
    ap (λ zs. take a xs ++ (ys ++ zs)) (drop-drop k a xs ∙ drop_all (a + k) xs all)
    ∙ ap (λ zs. take a xs ++ zs) (append-nil ys ∙ e ∙ ap (λ zs. bs ++ drop n zs) (take_all k (drop a xs) rest))

pub half_put_back : (a k v : ℕ) (xs ys : List ℕ) → a + 2 ≤ length xs → length xs ≤ a + k → ys ≡ bytes_low_first 0 2 (v % 65536) ++ drop 2 (take k (drop a xs))
    → cells (put_mid a k xs ys) ≡ with_bytes 2 a v (cells xs)
half_put_back a k v xs ys h all e = ap cells (put_back 2 a k (bytes_low_first 0 2 (v % 65536)) xs ys all e) ∙ cells_half a v xs h

pub word_put_back : (a k v : ℕ) (xs ys : List ℕ) → a + 4 ≤ length xs → length xs ≤ a + k → ys ≡ bytes_low_first 0 4 v ++ drop 4 (take k (drop a xs))
    → cells (put_mid a k xs ys) ≡ with_bytes 4 a v (cells xs)
word_put_back a k v xs ys h all e = ap cells (put_back 4 a k (bytes_low_first 0 4 v) xs ys all e) ∙ cells_word a v xs h

number_from : (n i a b : ℕ) (xs : List ℕ) → a + i ≡ b → little_from i n (drop a xs) ≡ number_at n b (cells xs)
number_from zero i a b xs e = refl
number_from (suc n) i a b xs e =
    let next : a + suc i ≡ b + 1 = omega (arith, e) in
    ap (λ k. k + 256 * little_from (suc i) n (drop a xs)) (get_or-drop a xs i 0 ∙ ap (λ k. slice_index xs k) e)
    ∙ ap (λ k. slice_index xs b + 256 * k) (number_from n (suc i) a (b + 1) xs next)

-- the number that n bytes from a on make
pub number_drop : (n a : ℕ) (xs : List ℕ) → little_from 0 n (drop a xs) ≡ number_at n a (cells xs)
number_drop n a xs = let same : a + 0 ≡ a = omega arith in number_from n 0 a a xs same

-- the next word is written
pub words_next : (a k : ℕ) (code : List ℕ) (ram : ℕ → ℕ) → k < length code
    → with_words (a + 4) (drop (k + 1) code) (with_bytes 4 a (slice_index code k) ram) ≡ with_words a (drop k code) ram
words_next a k code ram h =
    let next : k + 1 ≡ suc k = omega arith in
    ap (λ j. with_words (a + 4) (drop j code) (with_bytes 4 a (slice_index code k) ram)) next
    ∙ sym (ap (λ ws. with_words a ws ram) (drop-cons code k 0 h))
