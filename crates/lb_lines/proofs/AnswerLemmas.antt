-- Lines have one answer.
use Rattle.std.proofs.Common.{◌≡◌, ℕ, ◌≤◌, List, [], ◌∷◌, ◌++◌, length, refl, sym, ap, ap₂, ◌∙◌, subst, arith, append_assoc, length-append}
use Rattle.std.specs.List.{All}
use Rattle.std.proofs.lemmas.List.{take_at}
use Rattle.std.proofs.lemmas.List.Elements.{All-take}
use Rattle.lb_lines.specs.declared.fault.LineKind.{LineKind}
use Rattle.lb_lines.specs.declared.fault.LineKind.TheVariants.{Malformed, TooLong, TooMany}
use Rattle.lb_lines.specs.declared.fault.LineFault.{LineFault}
use Rattle.lb_lines.specs.Form.{Form, SpellAll, Say, IsOutside, IsFirstOutside}
use Rattle.lb_lines.specs.Laws.{IsOneAnswer}
use Rattle.lb_lines.proofs.LogLemmas.{All-right}

-- two cuts of a list: at the same element, or one before the other
data Cuts {A : Type 0} (xs ys : List A) (x y : A) : Type 0 where
  same : xs ≡ ys → x ≡ y → Cuts xs ys x y
  earlier : (more : List A) → ys ≡ xs ++ x ∷ more → Cuts xs ys x y
  later : (more : List A) → xs ≡ ys ++ y ∷ more → Cuts xs ys x y

next_cut : {A : Type 0} (z : A) (xs ys : List A) (x y : A) → Cuts xs ys x y → Cuts (z ∷ xs) (z ∷ ys) x y
next_cut z xs ys x y (same e e') = same (ap (λ l. z ∷ l) e) e'
next_cut z xs ys x y (earlier more e) = earlier more (ap (λ l. z ∷ l) e)
next_cut z xs ys x y (later more e) = later more (ap (λ l. z ∷ l) e)

cuts : {A : Type 0} (xs ys : List A) (x y : A) (more others : List A) → xs ++ x ∷ more ≡ ys ++ y ∷ others → Cuts xs ys x y
cuts [] [] x y more others e = same refl cc
cuts [] (z ∷ ys) x y more others e = earlier ys (let h : x ≡ z = cc in ap (λ w. w ∷ ys) (sym h))
cuts (z ∷ xs) [] x y more others e = later xs (let h : z ≡ y = cc in ap (λ w. w ∷ xs) h)
cuts (z ∷ xs) (w ∷ ys) x y more others e =
    let head : z ≡ w = cc in
    subst (λ v. Cuts (z ∷ xs) (v ∷ ys) x y) head (next_cut z xs ys x y (cuts xs ys x y more others cc))

module _ {A : Type 0} (form : Form A) (one : (line : List ℕ) (xs ys : List A) → form.Spells line xs → form.Spells line ys → xs ≡ ys)
    (fewer : (m n : ℕ) → m ≤ n → form.IsFew n → form.IsFew m) where
  one_spelling : (lines : List (ℕ × List ℕ)) (xs ys : List A) → SpellAll form lines xs → SpellAll form lines ys → xs ≡ ys
  one_spelling [] xs ys a b = a ∙ sym b
  one_spelling (line ∷ lines) xs ys a b =
      a.2 ∙ ap₂ (λ s t. s ++ t) (one line.1 a.0 b.0 a.3 b.3) (one_spelling lines a.1 b.1 a.4 b.4) ∙ sym b.2

  -- what the lines up to one, that one and the others say
  record Parts (front : List (ℕ × List ℕ)) (line : ℕ × List ℕ) (values : List A) : Type 0 where
    before : List A
    said : List A
    rest : List A
    whole : values ≡ before ++ (said ++ rest)
    spelled : SpellAll form front before
    spells : form.Spells line.1 said

  parts : (front : List (ℕ × List ℕ)) (line : ℕ × List ℕ) (behind : List (ℕ × List ℕ)) (values : List A) → SpellAll form (front ++ line ∷ behind) values
      → Parts front line values
  parts [] line behind values s = record { before = []; said = s.0; rest = s.1; whole = s.2; spelled = refl; spells = s.3 }
  parts (l ∷ front) line behind values s =
      let p : Parts front line s.1 = parts front line behind s.1 s.4 in
      record {
        before = s.0 ++ p.before;
        said = p.said;
        rest = p.rest;
        whole = s.2 ∙ ap (λ x. s.0 ++ x) p.whole ∙ sym (append_assoc s.0 p.before (p.said ++ p.rest));
        spelled = (s.0, p.before, refl, s.3, p.spelled);
        spells = p.spells;
      }

  not_outside : (before said rest values : List A) (line : List ℕ) (kind : LineKind) → values ≡ before ++ (said ++ rest) → form.Spells line said
      → All form.IsShort values → form.IsFew (length values) → IsOutside form before line kind → ⊥
  not_outside before said rest values line Malformed e s short few out = out said s
  not_outside before said rest values line TooLong e s short few out =
      out.2 (subst (All form.IsShort) (one line said out.0 s out.1)
      (subst (All form.IsShort) (take_at said rest (length said) refl)
      (All-take form.IsShort (length said) (said ++ rest) (All-right form.IsShort values before (said ++ rest) e short))))
  not_outside before said rest values line TooMany e s short few out =
      out.3 (subst (λ l. form.IsFew (length (before ++ l))) (one line said out.0 s out.1)
      (fewer (length (before ++ said)) (length values)
      (omega (arith, ap length e, length-append before (said ++ rest), length-append said rest, length-append before said)) few))

  not_both : (lines : List (ℕ × List ℕ)) (xs : List A) (fault : LineFault) → Say form lines xs → IsFirstOutside form lines fault → ⊥
  not_both lines xs fault said out =
      let p : Parts out.front out.line xs = parts out.front out.line out.behind xs (subst (λ l. SpellAll form l xs) out.whole said.spelled) in
      let same : out.before ≡ p.before = one_spelling out.front out.before p.before out.in_form.spelled p.spelled in
      not_outside p.before p.said p.rest xs out.line.1 fault.kind p.whole p.spells said.short said.few
      (subst (λ b. IsOutside form b out.line.1 fault.kind) same out.outside)

  one_kind : (before : List A) (line : List ℕ) (j k : LineKind) → IsOutside form before line j → IsOutside form before line k → j ≡ k
  one_kind before line Malformed Malformed a b = refl
  one_kind before line Malformed TooLong a b = absurd (a b.0 b.1)
  one_kind before line Malformed TooMany a b = absurd (a b.0 b.1)
  one_kind before line TooLong Malformed a b = absurd (b a.0 a.1)
  one_kind before line TooLong TooLong a b = refl
  one_kind before line TooLong TooMany a b = absurd (a.2 (subst (All form.IsShort) (one line b.0 a.0 b.1 a.1) b.2))
  one_kind before line TooMany Malformed a b = absurd (b a.0 a.1)
  one_kind before line TooMany TooLong a b = absurd (b.2 (subst (All form.IsShort) (one line a.0 b.0 a.1 b.1) a.2))
  one_kind before line TooMany TooMany a b = refl

  -- the first line outside the form isn't among lines that are in it
  not_before : (lines : List (ℕ × List ℕ)) (f g : LineFault) (a : IsFirstOutside form lines f) (b : IsFirstOutside form lines g)
      (more : List (ℕ × List ℕ)) → b.front ≡ a.front ++ a.line ∷ more → ⊥
  not_before lines f g a b more e = not_both b.front b.before f b.in_form (record {
    front = a.front;
    line = a.line;
    behind = more;
    whole = e;
    before = a.before;
    in_form = a.in_form;
    number = a.number;
    outside = a.outside;
  })

  same_fault : (lines : List (ℕ × List ℕ)) (f g : LineFault) (a : IsFirstOutside form lines f) (b : IsFirstOutside form lines g)
      → Cuts a.front b.front a.line b.line → f ≡ g
  same_fault lines f g a b (earlier more e) = absurd (not_before lines f g a b more e)
  same_fault lines f g a b (later more e) = absurd (not_before lines g f b a more e)
  same_fault lines f g a b (same e l) =
      let before : a.before ≡ b.before =
      one_spelling b.front a.before b.before (subst (λ x. SpellAll form x a.before) e a.in_form.spelled) b.in_form.spelled in
      let kind : f.kind ≡ g.kind =
      one_kind b.before b.line.1 f.kind g.kind
      (subst (λ x. IsOutside form x b.line.1 f.kind) before (subst (λ x. IsOutside form a.before x.1 f.kind) l a.outside)) b.outside in
      ap₂ (λ n k. record { line = n; kind = k }) (a.number ∙ ap (λ x. x.0) l ∙ sym b.number) kind

  pub one_answer : IsOneAnswer form
  one_answer = record {
    one_list = λ lines xs ys a b. one_spelling lines xs ys a.spelled b.spelled;
    not_both = not_both;
    one_fault = λ lines f g a b.
        same_fault lines f g a b (cuts a.front b.front a.line b.line a.behind b.behind (sym a.whole ∙ b.whole));
  }
