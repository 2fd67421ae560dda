-- The reply values of traces that grow.
use Rattle.std.proofs.Common.{◌≡◌, ℕ, List, [], ◌∷◌, ◌++◌, ◌∙◌, append-nil}
use Rattle.std.proofs.lemmas.List.Elements.{filter_map-append}
use Rattle.lb_trace.specs.declared.Event.{Event}
use Rattle.lb_trace.specs.declared.Event.TheVariants.{Ld, St}
use Rattle.lb_trace.specs.Prefix.{IsPrefix}
use Rattle.lb_trace.specs.Trace.{reply_value, reply_values}
use Rattle.lb_trace.proofs.PrefixLemmas.{IsPrefix-filter_map}

pub reply_values-append : (xs ys : List Event) → reply_values (xs ++ ys) ≡ reply_values xs ++ reply_values ys
reply_values-append xs ys = filter_map-append reply_value xs ys

-- a read adds its value
pub reply_values-Ld : (xs : List Event) (addr value : ℕ) → reply_values (xs ++ Ld addr value ∷ []) ≡ reply_values xs ++ value ∷ []
reply_values-Ld xs addr value = reply_values-append xs (Ld addr value ∷ [])

-- a write adds none
pub reply_values-St : (xs : List Event) (addr value : ℕ) → reply_values (xs ++ St addr value ∷ []) ≡ reply_values xs
reply_values-St xs addr value = reply_values-append xs (St addr value ∷ []) ∙ append-nil (reply_values xs)

pub IsPrefix-reply_values : {xs ys : List Event} → IsPrefix xs ys → IsPrefix (reply_values xs) (reply_values ys)
IsPrefix-reply_values p = IsPrefix-filter_map reply_value p
