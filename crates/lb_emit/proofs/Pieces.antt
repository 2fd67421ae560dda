-- Code in pieces.
use Rattle.std.proofs.Common.{◌≡◌, List, ◌++◌, ap, ◌∙◌, append_assoc}
use Rattle.lb_rv.specs.declared.instr.Instr.{Instr}

-- eight pieces, one behind the other
pub eight : (old p s q b g l u e c1 c2 c3 c4 c5 c6 c7 c8 : List Instr)
    → c1 ≡ old ++ p → c2 ≡ c1 ++ s → c3 ≡ c2 ++ q → c4 ≡ c3 ++ b → c5 ≡ c4 ++ g → c6 ≡ c5 ++ l → c7 ≡ c6 ++ u → c8 ≡ c7 ++ e
    → c8 ≡ old ++ (p ++ (s ++ (q ++ (b ++ (g ++ (l ++ (u ++ e)))))))
eight old p s q b g l u e c1 c2 c3 c4 c5 c6 c7 c8 h1 h2 h3 h4 h5 h6 h7 h8 =
    h8 ∙ ap (λ x. x ++ e) h7 ∙ append_assoc c6 u e
    ∙ ap (λ x. x ++ (u ++ e)) h6 ∙ append_assoc c5 l (u ++ e)
    ∙ ap (λ x. x ++ (l ++ (u ++ e))) h5 ∙ append_assoc c4 g (l ++ (u ++ e))
    ∙ ap (λ x. x ++ (g ++ (l ++ (u ++ e)))) h4 ∙ append_assoc c3 b (g ++ (l ++ (u ++ e)))
    ∙ ap (λ x. x ++ (b ++ (g ++ (l ++ (u ++ e))))) h3 ∙ append_assoc c2 q (b ++ (g ++ (l ++ (u ++ e))))
    ∙ ap (λ x. x ++ (q ++ (b ++ (g ++ (l ++ (u ++ e)))))) h2 ∙ append_assoc c1 s (q ++ (b ++ (g ++ (l ++ (u ++ e)))))
    ∙ ap (λ x. x ++ (s ++ (q ++ (b ++ (g ++ (l ++ (u ++ e))))))) h1 ∙ append_assoc old p (s ++ (q ++ (b ++ (g ++ (l ++ (u ++ e))))))
