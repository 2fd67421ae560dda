-- The words of a frame, taken one after the other.
use Rattle.std.proofs.Common.{◌≡◌, Bool, true, false, ◌&&◌, nat_lt, ◌<◌, ◌≤◌, ℕ, zero, suc, ◌+◌, ◌*◌, ◌/◌, List, [], ◌∷◌, ◌++◌, length, drop, slice_index, refl, sym, ap, ◌∙◌, arith, append-nil, append_assoc, length-append, length-drop}
use Rattle.std.proofs.Math.Seq.{drop-nil}
use Rattle.std.proofs.Math.ListN.{drop_of_length-le}
use Rattle.std.proofs.lemmas.Bool.{leb-true, false≢true}
use Rattle.lb_trace.specs.Frame.{FrameContent}
use Rattle.lb_word.specs.Bytes.{word_of_bytes}
use Rattle.lb_lan.specs.Frames.{words_of, has_room, is_receiving}
use Rattle.lb_lan.specs.Registers.{Chip}

pub length-words_of : (l : List ℕ) → length (words_of l) ≡ (length l + 3) / 4
length-words_of [] = refl
length-words_of (p ∷ []) = refl
length-words_of (p ∷ q ∷ []) = refl
length-words_of (p ∷ q ∷ r ∷ []) = refl
length-words_of (p ∷ q ∷ r ∷ s ∷ l) = omega (arith, length-words_of l)

-- ---- the word at a place

first_word : (l : List ℕ) → word_of_bytes (slice_index l 0 ∷ slice_index l 1 ∷ slice_index l 2 ∷ slice_index l 3 ∷ []) ≡ slice_index (words_of l) 0
first_word [] = refl
first_word (p ∷ []) = refl
first_word (p ∷ q ∷ []) = refl
first_word (p ∷ q ∷ r ∷ []) = refl
first_word (p ∷ q ∷ r ∷ s ∷ l) = refl

index-drop : (at k : ℕ) (l : List ℕ) → slice_index l (at + k) ≡ slice_index (drop at l) k
index-drop zero k l = let e : 0 + k ≡ k = omega arith in ap (slice_index l) e
index-drop (suc at) k [] = refl
index-drop (suc at) k (p ∷ l) = let e : suc at + k ≡ suc (at + k) = omega arith in ap (slice_index (p ∷ l)) e ∙ index-drop at k l

at_start : (at : ℕ) (l : List ℕ) → slice_index l at ≡ slice_index (drop at l) 0
at_start at l = let e : at + 0 ≡ at = omega arith in ap (slice_index l) (sym e) ∙ index-drop at 0 l

pub word_there : (l : List ℕ) (at : ℕ)
    → word_of_bytes (slice_index l at ∷ slice_index l (at + 1) ∷ slice_index l (at + 2) ∷ slice_index l (at + 3) ∷ []) ≡ slice_index (words_of (drop at l)) 0
word_there l at = rw (at_start at l, index-drop at 1 l, index-drop at 2 l, index-drop at 3 l) (first_word (drop at l))

-- ---- the loop: q are the words so far, q0 those before it

drop_more : (n k : ℕ) (l : List ℕ) → drop (n + k) l ≡ drop k (drop n l)
drop_more zero k l = let e : 0 + k ≡ k = omega arith in ap (λ (j : ℕ). drop j l) e
drop_more (suc n) k [] = drop-nil (suc n + k) ∙ sym (drop-nil k)
drop_more (suc n) k (p ∷ l) = let e : suc n + k ≡ suc (n + k) = omega arith in ap (λ (j : ℕ). drop j (p ∷ l)) e ∙ drop_more n k l

first_and_rest : (l : List ℕ) → 0 < length l → words_of l ≡ slice_index (words_of l) 0 ∷ words_of (drop 4 l)
first_and_rest [] h = absurd (omega (arith, h))
first_and_rest (p ∷ []) h = refl
first_and_rest (p ∷ q ∷ []) h = refl
first_and_rest (p ∷ q ∷ r ∷ []) h = refl
first_and_rest (p ∷ q ∷ r ∷ s ∷ l) h = refl

-- a word that is left has room
pub room_left : (q q0 l : List ℕ) (n : ℕ) → q ++ words_of (drop (4 * n) l) ≡ q0 ++ words_of l → length q0 + length (words_of l) ≤ 4096 → n < length (words_of l) → length q < 4096
room_left q q0 l n e room h = omega (arith, ap length e, room, h, length-append q (words_of (drop (4 * n) l)), length-append q0 (words_of l), length-words_of (drop (4 * n) l), length-words_of l, length-drop (4 * n) l)

-- one word more
pub word_pushed : (q q0 l : List ℕ) (n w : ℕ) → q ++ words_of (drop (4 * n) l) ≡ q0 ++ words_of l → n < length (words_of l) → w ≡ slice_index (words_of (drop (4 * n) l)) 0
    → (q ++ w ∷ []) ++ words_of (drop (4 * (n + 1)) l) ≡ q0 ++ words_of l
word_pushed q q0 l n w e h f =
    let there : 0 < length (drop (4 * n) l) = omega (arith, h, length-words_of l, length-drop (4 * n) l) in
    let next : drop (4 * (n + 1)) l ≡ drop 4 (drop (4 * n) l) = ap (λ (k : ℕ). drop k l) (omega arith) ∙ drop_more (4 * n) 4 l in
    append_assoc q (w ∷ []) (words_of (drop (4 * (n + 1)) l))
    ∙ ap (λ (k : List ℕ). q ++ w ∷ words_of k) next
    ∙ ap (λ (k : ℕ). q ++ k ∷ words_of (drop 4 (drop (4 * n) l))) f
    ∙ ap (λ (k : List ℕ). q ++ k) (sym (first_and_rest (drop (4 * n) l) there))
    ∙ e

-- no word is left
pub all_pushed : (q q0 l : List ℕ) (n : ℕ) → q ++ words_of (drop (4 * n) l) ≡ q0 ++ words_of l → length (words_of l) ≤ n → q ≡ q0 ++ words_of l
all_pushed q q0 l n e h =
    let none : drop (4 * n) l ≡ [] = drop_of_length-le l (omega (arith, h, length-words_of l)) in
    sym (append-nil q) ∙ sym (ap (λ (k : List ℕ). q ++ words_of k) none) ∙ e

pub still_fits : (q q0 l : List ℕ) → q ≡ q0 ++ words_of l → length q0 + length (words_of l) ≤ 4096 → length q ≤ 4096
still_fits q q0 l e room = omega (arith, ap length e, room, length-append q0 (words_of l))

-- ---- a frame that has room

right_true : (p q : Bool) → (p && q) ≡ true → q ≡ true
right_true true q h = h
right_true false q h = absurd (false≢true h)

-- it is no longer than all data that waits
pub length-has_room : (f : FrameContent) (c : Chip) → has_room f c ≡ true → length f.bytes ≤ 16384
length-has_room f c h =
    let fits : 4 * length (c.words ++ words_of f.bytes) ≤ 16384 = leb-true _ _ (right_true (is_receiving c && nat_lt (length c.statuses) 16) _ h) in
    omega (arith, fits, length-append c.words (words_of f.bytes), length-words_of f.bytes)
