-- The text of traces that grow.
use Rattle.std.proofs.Common.{◌≡◌, ℕ, ◌*◌, List, [], ◌∷◌, ◌++◌, length, refl, ap, ◌∙◌, append-nil, arith, length-append}
use Rattle.std.proofs.lemmas.List.Concat.{flat_map-append}
use Rattle.lb_trace.specs.declared.Event.{Event}
use Rattle.lb_trace.specs.declared.Event.TheVariants.{Ld, St}
use Rattle.lb_trace.specs.Prefix.{IsPrefix}
use Rattle.lb_trace.specs.Hex.{hex_word}
use Rattle.lb_trace.specs.TraceText.{event_line, trace_text}
use Rattle.lb_trace.proofs.PrefixLemmas.{IsPrefix-flat_map}

pub trace_text-append : (xs ys : List Event) → trace_text (xs ++ ys) ≡ trace_text xs ++ trace_text ys
trace_text-append xs ys = flat_map-append event_line xs ys

-- one more event adds its line
pub trace_text-more : (xs : List Event) (x : Event) → trace_text (xs ++ x ∷ []) ≡ trace_text xs ++ event_line x
trace_text-more xs x = trace_text-append xs (x ∷ []) ∙ ap (λ l. trace_text xs ++ l) (append-nil (event_line x))

pub length-hex_word : (n : ℕ) → length (hex_word n) ≡ 8
length-hex_word n = refl

pub length-event_line : (x : Event) → length (event_line x) ≡ 21
length-event_line (Ld addr value) = refl
length-event_line (St addr value) = refl

pub length-trace_text : (xs : List Event) → length (trace_text xs) ≡ 21 * length xs
length-trace_text [] = refl
length-trace_text (x ∷ xs) = omega (arith, length-append (event_line x) (trace_text xs), length-event_line x, length-trace_text xs)

pub IsPrefix-trace_text : {xs ys : List Event} → IsPrefix xs ys → IsPrefix (trace_text xs) (trace_text ys)
IsPrefix-trace_text p = IsPrefix-flat_map event_line p
