use Rattle.std.proofs.Common.{ℕ, List, ◌<◌, ◌^◌, length, ap, sym, ◌∙◌, subst, arith}
use Rattle.std.specs.Borrow.{Bor}
use Rattle.std.specs.Prelude.{Option}
use Rattle.std.specs.Option.{option_copied}
use Rattle.std.proofs.lemmas.List.{length-map}
use Rattle.lb_syntax.specs.Names.{Text}
use Rattle.lb_flat.specs.Flattened.{place_in}
use Rattle.lb_flat.specs.InternalFlatten.{texts_of}
use Rattle.lb_flat.proofs.NumberLemmas.{number_found, number_missing, place_at_most}
use Rattle.lb_flat.proofs.numbers.VariableNumbers.number.Goals as goal

pub overflow_cast-result : goal.overflow_cast-result
overflow_cast-result c =
    let names = texts_of c.self.inside.names.items in
    let found = ap (λ (r : Option (Bor ℕ)). option_copied r) (sym c.in-Some.is) ∙ c.get.ensures.value in
    let place = number_found c.self.inside.numbers names c.as_bytes.result.now c.in-Some.number.now c.self.invariant found in
    let few = subst (λ (l : List Text). length l < 2 ^ 32) (sym c.self.view_is) c.requires in
    omega (arith, place, place_at_most names c.as_bytes.result.now, few)

pub returns-in-Some-clause-value : goal.returns-in-Some-clause-value
returns-in-Some-clause-value c =
    let names = texts_of c.self.inside.names.items in
    let found = ap (λ (r : Option (Bor ℕ)). option_copied r) (sym c.in-Some.is) ∙ c.get.ensures.value in
    number_found c.self.inside.numbers names c.as_bytes.result.now c.in-Some.number.now c.self.invariant found
    ∙ ap (λ (l : List Text). place_in l c.as_bytes.result.now) c.self.view_is
    ∙ ap (λ (x : Text). place_in c.args.self.now x) c.as_bytes.ensures.value

pub returns-in-None-clause-value : goal.returns-in-None-clause-value
returns-in-None-clause-value c =
    let names = texts_of c.self.inside.names.items in
    let missing = ap (λ (r : Option (Bor ℕ)). option_copied r) (sym c.in-None.is) ∙ c.get.ensures.value in
    c.len.ensures
    ∙ c.self.inside.names.ok.0
    ∙ sym (length-map c.self.inside.names.items (λ (b : Bor (List ℕ)). b.now))
    ∙ number_missing c.self.inside.numbers names c.as_bytes.result.now c.self.invariant missing
    ∙ ap (λ (l : List Text). place_in l c.as_bytes.result.now) c.self.view_is
    ∙ ap (λ (x : Text). place_in c.args.self.now x) c.as_bytes.ensures.value
