-- What one more read or write adds to those before it.
use Rattle.std.proofs.Common.{◌≡◌, ℕ, ◌+◌, ◌-◌, ◌≤◌, List, ◌++◌, length, take, drop, sym, ap, ◌∙◌, arith, length-drop, append_assoc}
use Rattle.std.proofs.lemmas.List.{take-append-drop, drop-drop, take_all}
use Rattle.std.proofs.Math.Seq.{take-append_seam}
use Rattle.std.proofs.KnownBytes.{Appends-trans}
use Rattle.std.specs.declared.option.Option.{Option}
use Rattle.std.specs.Io.KnownBytes.{Appends}

-- a front of the bytes was appended, and this rest is still to be written
abbrev pub IsWrittenUpTo : Option (List ℕ) → Option (List ℕ) → List ℕ → List ℕ → Type 0
IsWrittenUpTo old new bytes rest = (front : List ℕ) × (bytes ≡ front ++ rest) × Appends old new front

-- the bytes copied to the front of the buffer, and then those left from the next place on, are those that were left
pub read_part : (xs copied behind left : List ℕ) (place n : ℕ) → length copied ≡ n → copied ≡ take n (drop place xs) → drop place xs ≡ left → left ≡ take n (copied ++ behind) ++ drop (place + n) xs
read_part xs copied behind left place n len is view =
    sym view
    ∙ sym (take-append-drop n (drop place xs))
    ∙ ap (λ a. a ++ drop n (drop place xs)) (sym is)
    ∙ ap (λ a. copied ++ a) (drop-drop n place xs)
    ∙ ap (λ a. a ++ drop (place + n) xs) (sym (take-append_seam copied behind))
    ∙ ap (λ k. take k (copied ++ behind) ++ drop (place + n) xs) len

-- a write of a front of the rest leaves what stands behind it
pub written_more : (old mid new : Option (List ℕ)) (bytes rest : List ℕ) (n m : ℕ) → n ≤ length rest → m ≡ length rest - n → IsWrittenUpTo old mid bytes rest → Appends mid new (take n rest) → IsWrittenUpTo old new bytes (take m (drop n rest))
written_more old mid new bytes rest n m le e w a =
    let enough : length (drop n rest) ≤ m = omega (arith, length-drop {A = ℕ}) in (
      w.0 ++ take n rest,
      w.1
          ∙ ap (λ l. w.0 ++ l) (sym (take-append-drop n rest))
          ∙ sym (append_assoc w.0 (take n rest) (drop n rest))
          ∙ ap (λ l. (w.0 ++ take n rest) ++ l) (sym (take_all m (drop n rest) enough)),
      Appends-trans old mid new w.0 (take n rest) w.2 a,
    )
