-- Each text is accepted or has one fault.
use Rattle.std.proofs.Common.{◌≡◌, ℕ, ◌-◌, ◌≤◌, List, [], ◌∷◌, length, refl, sym, ap, subst, ◌∙◌, arith, inl, inr, ◌⊎◌}
use Rattle.lb_syntax.specs.Names.{Text}
use Rattle.lb_spelling.specs.declared.fault.TextKind.{TextKind}
use Rattle.lb_spelling.specs.declared.fault.TextFault.{TextFault}
use Rattle.lb_spelling.specs.Places.{IsFirst, IsKind, IsPlace, Suits, kinds}
use Rattle.lb_spelling.specs.Laws.{OneTree, HasProgram, HasFault, EveryText, NotBoth, OneFault}
use Rattle.lb_spelling.specs.InternalMachine.{Between, Outcome, Whole, Stuck, run}
use Rattle.lb_spelling.proofs.Place.{whole_stack, fault_is, whole_accepted}
use Rattle.lb_spelling.proofs.Same.{text_same}

pub one_tree : OneTree
one_tree s p q = text_same p q s

pub every_text : EveryText
every_text s = go (run 64 s Between 0 whole_stack) refl where
  go : (o : Outcome) → run 64 s Between 0 whole_stack ≡ o → HasProgram s ⊎ HasFault s
  go Whole e = inl (whole_accepted s e)
  go (Stuck kind left) e = inr (record { at = length s - left; kind = kind }, fault_is s kind left (record { at = length s - left; kind = kind }) e refl refl)

pub not_both : NotBoth
not_both s (p, accepted) (fault, is) = is.refused p accepted

first_same : (P : TextKind → Type 0) (ks : List TextKind) (a b : TextKind) → IsFirst P ks a → IsFirst P ks b → a ≡ b
first_same P [] a b p q = absurd p
first_same P (k ∷ ks) a b (inl p) (inl q) = p.0 ∙ sym q.0
first_same P (k ∷ ks) a b (inl p) (inr q) = absurd (q.0 p.1)
first_same P (k ∷ ks) a b (inr p) (inl q) = absurd (p.0 q.1)
first_same P (k ∷ ks) a b (inr p) (inr q) = first_same P ks a b p.1 q.1

place_same : (s : Text) (m n : ℕ) → IsPlace s m → IsPlace s n → m ≡ n
place_same s m n p q =
    let a : n ≤ m = p.longest n q.bound q.viable q.shallow in
    let b : m ≤ n = q.longest m p.bound p.viable p.shallow in
    omega arith

fault_same : (f g : TextFault) → f.at ≡ g.at → f.kind ≡ g.kind → f ≡ g
fault_same f g e k = ap (λ (n : ℕ). fault n f.kind) e ∙ ap (λ (k : TextKind). fault g.at k) k where
  fault : ℕ → TextKind → TextFault
  fault n k = record { at = n; kind = k }

pub one_fault : OneFault
one_fault s f g p q =
    let at : f.at ≡ g.at = place_same s f.at g.at p.place q.place in
    let there : IsKind s f.at g.kind = subst (λ (n : ℕ). IsKind s n g.kind) (sym at) q.kind in
    fault_same f g at (first_same (Suits s f.at) kinds f.kind g.kind p.kind there)
