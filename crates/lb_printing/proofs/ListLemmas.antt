-- Lists and texts in pieces.
use Rattle.std.proofs.Common.{◌≡◌, ℕ, suc, ◌+◌, ◌-◌, ◌<◌, List, [], ◌∷◌, ◌++◌, sym, ap, ◌∙◌, arith, add-one, append_assoc, append-nil}
use Rattle.std.specs.Prelude.{codes, Result, Ok, Err, OnOk}
use Rattle.lb_syntax.specs.Names.{Text}
use Rattle.lb_syntax.specs.Printing.{listed, indent}

-- these texts, a comma and a blank before each
abbrev pub commas : List Text → Text
commas [] = []
commas (x ∷ xs) = codes ", " ++ (x ++ commas xs)

pub listed_commas : (x : Text) (xs : List Text) → listed (x ∷ xs) ≡ x ++ commas xs
listed_commas x [] = sym (append-nil x)
listed_commas x (y ∷ xs) = ap (λ (t : Text). x ++ (codes ", " ++ t)) (listed_commas y xs)

-- the first of a list was added, and the others are left
pub first_added : (was now x : Text) (xs : List Text) → now ≡ was ++ x → now ++ commas xs ≡ was ++ listed (x ∷ xs)
first_added was now x xs e = ap (λ (t : Text). t ++ commas xs) e ∙ append_assoc was x (commas xs) ∙ ap (λ (t : Text). was ++ t) (sym (listed_commas x xs))

-- text in front of what is left was added
pub front_added : (was now x rest : Text) → now ≡ was ++ x → now ++ rest ≡ was ++ (x ++ rest)
front_added was now x rest e = ap (λ (t : Text). t ++ rest) e ∙ append_assoc was x rest

the_suc : (a b : ℕ) → a ≡ b + 1 → a ≡ suc b
the_suc a b e = e ∙ add-one b

pub indent_step : (d i : ℕ) → i < d → indent (d - i) ≡ codes "  " ++ indent (d - (i + 1))
indent_step d i h = ap indent (the_suc (d - i) (d - (i + 1)) (omega (arith, h)))

-- one text was added after another
pub added_two : {E : Type 0} (r : Result (Unit {0}) E) (was first now x y : Text) → first ≡ was ++ x → OnOk r (now ≡ first ++ y) → OnOk r (now ≡ was ++ (x ++ y))
added_two (Ok t) was first now x y a b = b ∙ ap (λ (t : Text). t ++ y) a ∙ append_assoc was x y
added_two (Err e) was first now x y a b = tt
