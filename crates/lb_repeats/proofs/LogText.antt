-- A log has one text.
use Rattle.std.proofs.Common.{◌≡◌, ℕ, ◌<◌, List, [], ◌∷◌, ◌++◌, length, length-append, refl, sym, ap, ap₂, ◌∙◌, arith, append_assoc}
use Rattle.std.specs.List.{All, flat_map}
use Rattle.std.proofs.lemmas.List.Elements.{All-head, All-tail}
use Rattle.lb_trace.specs.declared.Entry.{Entry}
use Rattle.lb_lines.specs.Log.{IsLogText, last_lines, log_line}

module _ {A : Type 0} where
  -- fronts of the same length are the same
  same_fronts : (xs ys us vs : List A) → length xs ≡ length ys → xs ++ us ≡ ys ++ vs → (xs ≡ ys) × (us ≡ vs)
  same_fronts [] [] us vs l e = (refl, e)
  same_fronts [] (y ∷ ys) us vs l e = absurd (omega (arith, l))
  same_fronts (x ∷ xs) [] us vs l e = absurd (omega (arith, l))
  same_fronts (x ∷ xs) (y ∷ ys) us vs l e =
      let head : x ≡ y = cc in
      let rest = same_fronts xs ys us vs (omega (arith, l)) cc in
      (ap₂ (λ z zs. z ∷ zs) head rest.0, rest.1)

abbrev Full : List Entry → Type 0
Full line = length line ≡ 32

abbrev joined : List (List Entry) → List Entry
joined = flat_map (λ line. line)

-- full lines and a shorter rest make one list in one way
one_cut : (xs ys : List (List Entry)) (r s : List Entry) → All Full xs → All Full ys → length r < 32 → length s < 32
    → joined xs ++ r ≡ joined ys ++ s → (xs ≡ ys) × (r ≡ s)
one_cut [] [] r s f g m n e = (refl, e)
one_cut [] (y ∷ ys) r s f g m n e =
    absurd (omega (arith, m, All-head Full y ys g, ap length e, length-append (y ++ joined ys) s, length-append y (joined ys)))
one_cut (x ∷ xs) [] r s f g m n e =
    absurd (omega (arith, n, All-head Full x xs f, ap length e, length-append (x ++ joined xs) r, length-append x (joined xs)))
one_cut (x ∷ xs) (y ∷ ys) r s f g m n e =
    let cut = same_fronts x y (joined xs ++ r) (joined ys ++ s) (All-head Full x xs f ∙ sym (All-head Full y ys g))
    (sym (append_assoc x (joined xs) r) ∙ e ∙ append_assoc y (joined ys) s) in
    let rest = one_cut xs ys r s (All-tail Full x xs f) (All-tail Full y ys g) m n cut.1 in
    (ap₂ (λ z zs. z ∷ zs) cut.0 rest.0, rest.1)

pub one_log_text : (log : List Entry) (s t : List ℕ) → IsLogText log s → IsLogText log t → s ≡ t
one_log_text log s t a b =
    let cut = one_cut a.full b.full a.rest b.rest a.lengths b.lengths a.shorter b.shorter (sym a.whole ∙ b.whole) in
    a.printed ∙ ap₂ (λ full rest. flat_map log_line (full ++ last_lines rest)) cut.0 cut.1 ∙ sym b.printed
