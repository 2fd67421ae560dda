-- Where instructions stand in a code of words.
use Rattle.std.proofs.Common.{◌≡◌, ℕ, ◌+◌, ◌<◌, List, [], ◌∷◌, ◌++◌, length, map, Option, Some, None, refl, ap, ◌∙◌, subst, arith, append_assoc, length-append}
use Rattle.std.specs.Prelude.{slice_get}
use Rattle.std.proofs.Math.Seq.{get_or-append_seam}
use Rattle.std.proofs.lemmas.Option.{slice_get-get_or, slice_get_within}
use Rattle.lb_rv.specs.declared.instr.Instr.{Instr}
use Rattle.lb_rv.specs.Table.{IsInRange, word_of}
use Rattle.lb_rv.proofs.DecodingLemmas.{instruction_of_word}
use Rattle.lb_outcome.specs.Fetching.{instruction_in}

-- the word number i of the code is the instruction
abbrev pub IsAt : List ℕ → ℕ → Instr → Type 0
IsAt code i x = instruction_in (slice_get code i) ≡ Some x

-- the words from number i on are the instructions
abbrev pub HasAt : List ℕ → ℕ → List Instr → Type 0
HasAt code i [] = Unit {0}
HasAt code i (x ∷ xs) = IsAt code i x × HasAt code (i + 1) xs

-- each instruction is in range
abbrev pub AreInRange : List Instr → Type 0
AreInRange [] = Unit {0}
AreInRange (x ∷ xs) = IsInRange x × AreInRange xs

within_by : (code : List ℕ) (i : ℕ) (o : Option ℕ) (x : Instr) → slice_get code i ≡ o → instruction_in o ≡ Some x → i < length code
within_by code i None x e h = cc
within_by code i (Some w) x e h = slice_get_within code i w e

-- a word that is there is before the end
pub is_within : (code : List ℕ) (i : ℕ) (x : Instr) → IsAt code i x → i < length code
is_within code i x h = within_by code i (slice_get code i) x refl h

pub HasAt-front : (code : List ℕ) (i : ℕ) (a b : List Instr) → HasAt code i (a ++ b) → HasAt code i a
HasAt-front code i [] b h = tt
HasAt-front code i (x ∷ a) b h = (h.0, HasAt-front code (i + 1) a b h.1)

pub HasAt-back : (code : List ℕ) (i : ℕ) (a b : List Instr) → HasAt code i (a ++ b) → HasAt code (i + length a) b
HasAt-back code i [] b h = let e : i ≡ i + 0 = omega arith in subst (λ n. HasAt code n b) e h
HasAt-back code i (x ∷ a) b h =
    let e : i + 1 + length a ≡ i + length (x ∷ a) = omega arith in
    subst (λ n. HasAt code n b) e (HasAt-back code (i + 1) a b h.1)

-- what stands behind, at its place
pub HasAt-behind : (code : List ℕ) (i j n : ℕ) (a b : List Instr) → HasAt code i (a ++ b) → length a ≡ n → i + n ≡ j → HasAt code j b
HasAt-behind code i j n a b h long e =
    let same : i + length a ≡ j = omega (arith, long, e) in subst (λ k. HasAt code k b) same (HasAt-back code i a b h)

pub HasAt-to : (code : List ℕ) (i j : ℕ) (a : List Instr) → HasAt code i a → i ≡ j → HasAt code j a
HasAt-to code i j a h e = subst (λ k. HasAt code k a) e h

-- the words of instructions in range stand behind what comes before them
pub HasAt-whole : (front : List ℕ) (xs : List Instr) → AreInRange xs → HasAt (front ++ map word_of xs) (length front) xs
HasAt-whole front [] h = tt
HasAt-whole front (x ∷ xs) h =
    let w = word_of x in
    let ws = map word_of xs in
    let within : length front < length (front ++ w ∷ ws) = omega (arith, length-append front (w ∷ ws)) in
    let here = slice_get-get_or (front ++ w ∷ ws) (length front) w within ∙ ap Some (get_or-append_seam front w ws w) in
    let one : length (front ++ w ∷ []) ≡ length front + 1 = omega (arith, length-append front (w ∷ [])) in
    let rest = subst (λ l. HasAt l (length (front ++ w ∷ [])) xs) (append_assoc front (w ∷ []) ws) (HasAt-whole (front ++ w ∷ []) xs h.1) in
    (ap instruction_in here ∙ instruction_of_word x h.0, subst (λ m. HasAt (front ++ w ∷ ws) m xs) one rest)
