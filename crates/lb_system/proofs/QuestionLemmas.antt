-- The first question whose answer is no.
use Rattle.std.proofs.Common.{◌≡◌, inl, inr, List, [], ◌∷◌, ◌++◌, refl, sym, ◌∙◌}
use Rattle.lb_system.specs.Questions.{Case, Question, Sections, ImageFormat, Grammar, Rules, InForm, Legal, Holds, AllHold, IsFirstNo, but_legal, unless_legal}

-- there is none where all the answers are yes
pub none_first : (c : Case) (qs : List Question) (q : Question) → AllHold c qs → IsFirstNo c qs q → ⊥
none_first c [] q all first = first
none_first c (x ∷ xs) q all first = elim first [ inl h ↦ h.1 all.0 | inr h ↦ none_first c xs q all.1 h.1 ]

-- there is one at most
pub one_first : (c : Case) (qs : List Question) (q r : Question) → IsFirstNo c qs q → IsFirstNo c qs r → q ≡ r
one_first c [] q r a b = absurd a
one_first c (x ∷ xs) q r a b =
    elim a [
      | inl h ↦ elim b [ inl k ↦ h.0 ∙ sym k.0 | inr k ↦ absurd (h.1 k.0) ]
      | inr h ↦ elim b [ inl k ↦ absurd (k.1 h.0) | inr k ↦ one_first c xs q r h.1 k.1 ]
    ]

-- a no behind answers that are yes is the first
pub first_behind : (c : Case) (front rest : List Question) (q : Question) → AllHold c front → ¬ (Holds c q) → IsFirstNo c (front ++ q ∷ rest) q
first_behind c [] rest q all none = inl (refl, none)
first_behind c (x ∷ xs) rest q all none = inr (all.0, first_behind c xs rest q all.1 none)

-- where all but whether a log is legal are yes, that is the first no
pub only_legal : (c : Case) (qs : List Question) (q : Question) → AllHold c (but_legal qs) → IsFirstNo c qs q → q ≡ Legal
only_legal c [] q all first = absurd first
only_legal c (x ∷ xs) q all first = go x (only_legal c xs q) all first
  where
    other : (x : Question) → (AllHold c (but_legal xs) → IsFirstNo c xs q → q ≡ Legal) → Holds c x × AllHold c (but_legal xs) → IsFirstNo c (x ∷ xs) q → q ≡ Legal
    other x again all first = elim first [ inl h ↦ absurd (h.1 all.0) | inr h ↦ again all.1 h.1 ]

    go : (x : Question) → (AllHold c (but_legal xs) → IsFirstNo c xs q → q ≡ Legal) → AllHold c (unless_legal x (but_legal xs)) → IsFirstNo c (x ∷ xs) q → q ≡ Legal
    go Legal again all first = elim first [ inl h ↦ h.0 | inr h ↦ again all h.1 ]
    go (Sections most) again all first = other (Sections most) again all first
    go ImageFormat again all first = other ImageFormat again all first
    go Grammar again all first = other Grammar again all first
    go Rules again all first = other Rules again all first
    go (InForm lines place) again all first = other (InForm lines place) again all first
