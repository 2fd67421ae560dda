-- A program has no more functions, commands and expression nodes than it has parts of all kinds.
use Rattle.std.proofs.Common.{◌≡◌, ℕ, ◌+◌, ◌≤◌, ◌<◌, ◌^◌, List, [], ◌∷◌, map, sum, arith}
use Rattle.std.proofs.lemmas.List.Sums.{sum_by-cons}
use Rattle.lb_syntax.specs.Tree.{Procedure}
use Rattle.lb_syntax.specs.Parts.{procedure_parts, program_parts}
use Rattle.lb_check.specs.Parts.{function_parts, parts}

sum_more : {A : Type 0} (f : A → ℕ) (x : A) (xs : List A) → sum (map f (x ∷ xs)) ≡ f x + sum (map f xs)
sum_more f x xs = sum_by-cons (λ n. n) (f x) (map f xs)

one_fewer : (f : Procedure) → procedure_parts f ≤ function_parts f
one_fewer f = omega arith

fewer : (p : List Procedure) → program_parts p ≤ parts p
fewer [] = omega arith
fewer (f ∷ p) = omega (arith, sum_more procedure_parts f p, sum_more function_parts f p, one_fewer f, fewer p)

pub fewer_parts : (p : List Procedure) → parts p < 2 ^ 30 → program_parts p < 2 ^ 32
fewer_parts p h = omega (arith, h, fewer p)
