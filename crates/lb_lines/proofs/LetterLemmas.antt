-- Kinds and their letters.
use Rattle.std.proofs.Common.{◌≡◌, ℕ, ◌==◌, Bool, true, false, cond, List, [], ◌∷◌, Option, Some, None, refl, sym, ap, ◌∙◌}
use Rattle.std.specs.Option.{IfSome, IfNone}
use Rattle.std.proofs.lemmas.Bool.{eqb-true}
use Rattle.lb_trace.specs.declared.Kind.{Kind}
use Rattle.lb_trace.specs.declared.Kind.TheVariants.{Fetch, Decode, Execute, Ram, Mmio, Writeback, Boot, Shift, Arrive}
use Rattle.lb_lines.specs.Log.{kind_letter}
use Rattle.lb_lines.specs.InternalReading.{kind_among}

-- all kinds
abbrev pub kinds : List Kind
kinds = Fetch ∷ Decode ∷ Execute ∷ Ram ∷ Mmio ∷ Writeback ∷ Boot ∷ Shift ∷ Arrive ∷ []

first_has : (letter : ℕ) (k : Kind) (rest : Option Kind) (b : Bool) → (b ≡ true → kind_letter k ≡ letter)
    → IfSome rest (λ kind. letter ≡ kind_letter kind) → IfSome (cond b (Some k) rest) (λ kind. letter ≡ kind_letter kind)
first_has letter k rest true e h = sym (e refl)
first_has letter k rest false e h = h

-- a kind that is found has the letter
pub among_has : (letter : ℕ) (ks : List Kind) → IfSome (kind_among letter ks) (λ kind. letter ≡ kind_letter kind)
among_has letter [] = tt
among_has letter (k ∷ ks) =
    first_has letter k (kind_among letter ks) (kind_letter k == letter) (eqb-true (kind_letter k) letter) (among_has letter ks)

-- each kind is found by its letter
letter_found : (kind : Kind) → kind_among (kind_letter kind) kinds ≡ Some kind
letter_found Fetch = refl
letter_found Decode = refl
letter_found Execute = refl
letter_found Ram = refl
letter_found Mmio = refl
letter_found Writeback = refl
letter_found Boot = refl
letter_found Shift = refl
letter_found Arrive = refl

-- where no kind is found, none has the letter
pub none_has : (letter : ℕ) (found : Option Kind) → found ≡ kind_among letter kinds
    → IfNone found ((kind : Kind) → letter ≡ kind_letter kind → ⊥)
none_has letter (Some k) e = tt
none_has letter None e = λ kind h.
    let absent : None ≡ Some kind = e ∙ ap (λ n. kind_among n kinds) h ∙ letter_found kind in cc
