-- Prefixes of lists of any type.
use Rattle.std.proofs.Common.{◌≡◌, ℕ, ◌≤◌, List, [], ◌++◌, length, take, drop, Option, filter_map, flat_map, refl, sym, ap, ◌∙◌, arith, append-nil, append_assoc, length-append}
use Rattle.std.proofs.lemmas.List.{take-append-drop, take-append-le, take_all}
use Rattle.std.proofs.lemmas.List.Elements.{filter_map-append}
use Rattle.std.proofs.lemmas.List.Concat.{flat_map-append}
use Rattle.std.proofs.Math.Seq.{take-append_seam}
use Rattle.lb_trace.specs.Prefix.{IsPrefix}

-- the empty list begins every list
pub IsPrefix-nil : {A : Type 0} (xs : List A) → IsPrefix [] xs
IsPrefix-nil xs = record { rest = xs; whole = refl }

pub IsPrefix-refl : {A : Type 0} (xs : List A) → IsPrefix xs xs
IsPrefix-refl xs = record { rest = []; whole = sym (append-nil xs) }

pub IsPrefix-append : {A : Type 0} (xs ys : List A) → IsPrefix xs (xs ++ ys)
IsPrefix-append xs ys = record { rest = ys; whole = refl }

pub IsPrefix-trans : {A : Type 0} {xs ys zs : List A} → IsPrefix xs ys → IsPrefix ys zs → IsPrefix xs zs
IsPrefix-trans {xs = xs} p q = record {
  rest = p.rest ++ q.rest;
  whole = q.whole ∙ ap (λ l. l ++ q.rest) p.whole ∙ append_assoc xs p.rest q.rest;
}

-- the same list before both
pub IsPrefix-after : {A : Type 0} (front : List A) {xs ys : List A} → IsPrefix xs ys → IsPrefix (front ++ xs) (front ++ ys)
IsPrefix-after front {xs = xs} p = record {
  rest = p.rest;
  whole = ap (λ l. front ++ l) p.whole ∙ sym (append_assoc front xs p.rest);
}

pub IsPrefix-take : {A : Type 0} (n : ℕ) (xs : List A) → IsPrefix (take n xs) xs
IsPrefix-take n xs = record { rest = drop n xs; whole = sym (take-append-drop n xs) }

pub length-IsPrefix : {A : Type 0} {xs ys : List A} → IsPrefix xs ys → length xs ≤ length ys
length-IsPrefix {xs = xs} p = omega (arith, ap length p.whole, length-append xs p.rest)

-- a prefix is the whole list's first elements
pub take-IsPrefix : {A : Type 0} {xs ys : List A} → IsPrefix xs ys → take (length xs) ys ≡ xs
take-IsPrefix {xs = xs} p = ap (take (length xs)) p.whole ∙ take-append_seam xs p.rest

-- of two prefixes of a list the shorter begins the longer
pub IsPrefix-of_longer : {A : Type 0} {xs ys zs : List A} → IsPrefix xs zs → IsPrefix ys zs → length xs ≤ length ys → IsPrefix xs ys
IsPrefix-of_longer {xs = xs} {ys = ys} p q h =
    let same : take (length xs) ys ≡ xs = sym (take-append-le (length xs) ys q.rest h) ∙ ap (take (length xs)) (sym q.whole) ∙ take-IsPrefix p in
    record { rest = drop (length xs) ys; whole = sym (take-append-drop (length xs) ys) ∙ ap (λ l. l ++ drop (length xs) ys) same }

-- a prefix that is as long as the whole is the whole
pub IsPrefix-same_length : {A : Type 0} {xs ys : List A} → IsPrefix xs ys → length ys ≤ length xs → xs ≡ ys
IsPrefix-same_length {ys = ys} p h = sym (take-IsPrefix p) ∙ take_all _ ys h

pub IsPrefix-antisym : {A : Type 0} {xs ys : List A} → IsPrefix xs ys → IsPrefix ys xs → xs ≡ ys
IsPrefix-antisym p q = IsPrefix-same_length p (length-IsPrefix q)

pub IsPrefix-filter_map : {A B : Type 0} (f : A → Option B) {xs ys : List A} → IsPrefix xs ys → IsPrefix (filter_map f xs) (filter_map f ys)
IsPrefix-filter_map f {xs = xs} p = record {
  rest = filter_map f p.rest;
  whole = ap (filter_map f) p.whole ∙ filter_map-append f xs p.rest;
}

pub IsPrefix-flat_map : {A B : Type 0} (f : A → List B) {xs ys : List A} → IsPrefix xs ys → IsPrefix (flat_map f xs) (flat_map f ys)
IsPrefix-flat_map f {xs = xs} p = record {
  rest = flat_map f p.rest;
  whole = ap (flat_map f) p.whole ∙ flat_map-append f xs p.rest;
}
