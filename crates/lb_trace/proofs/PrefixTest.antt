-- What a test of slices says of prefixes.
use Rattle.std.proofs.Common.{◌≡◌, Bool, ◌↔◌, IsTrue, List, length, drop, rules}
use Rattle.std.proofs.lemmas.Slice.Eq.{starts_is}
use Rattle.std.specs.List.{starts_with}
use Rattle.lb_trace.specs.declared.Event.{Event}
use Rattle.lb_trace.specs.contracts.EventPartialEq.TheImpl.{ghosts}
use Rattle.lb_trace.specs.Prefix.{IsPrefix}

-- ys.starts_with(xs) tests whether xs is a prefix
pub starts_with_prefix : (xs ys : List Event) (r : Bool) → r ≡ starts_with ((ghosts).eq) ys xs → (IsTrue r ↔ IsPrefix xs ys)
starts_with_prefix xs ys r e =
    let is = starts_is {E = (ghosts).eq} (λ a b. search rules) ys xs r e in
    (λ h. record { rest = drop (length xs) ys; whole = is.0 h }, λ h. is.1 h.rest h.whole)
