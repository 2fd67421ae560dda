-- The line of an entry that can't be fired.
use Rattle.std.proofs.Common.{◌≡◌, ℕ, List, ◌++◌, append_assoc, ap, ◌∙◌}
use Rattle.std.specs.Prelude.{codes, decimal}
use Rattle.lb_system.specs.declared.fault.FormFault.TheVariants as form
use Rattle.lb_system.specs.Faults.{form_text}

pub event_put : (line mid new : List ℕ) (at n : ℕ) → n ≡ at → mid ≡ line ++ (codes "event " ++ decimal n) → new ≡ mid ++ (codes " " ++ codes "guard false")
    → new ≡ line ++ form_text (form.Event at)
event_put line mid new at n same first second =
    second ∙ ap (λ t. t ++ (codes " " ++ codes "guard false")) first ∙ append_assoc line (codes "event " ++ decimal n) (codes " " ++ codes "guard false")
    ∙ ap (λ t. line ++ t) (append_assoc (codes "event ") (decimal n) (codes " " ++ codes "guard false"))
    ∙ ap (λ k. line ++ (codes "event " ++ (decimal k ++ (codes " " ++ codes "guard false")))) same
