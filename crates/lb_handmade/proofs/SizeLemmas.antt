-- A program that keeps the rules has few parts, since each asks for words of code.
use Rattle.std.proofs.Common.{◌≡◌, ℕ, ◌*◌, ◌^◌, ◌<◌, ◌≤◌, nat_le, Bool, true, false, if◌then◌else◌, List, [], ◌∷◌, map, sum, arith}
use Rattle.lb_syntax.specs.declared.limits.TheConstants.{NEAR_FRAME}
use Rattle.lb_syntax.specs.Tree.{Term, Procedure}
use Rattle.lb_syntax.specs.Tree.{Command, Skips, Sets, Unsets, Stores, Allocates, Chooses, Repeats, Calls, Interacts, Ends, Then}
use Rattle.lb_syntax.specs.Needs.{nodes, term_words, terms_words, words, procedure_words, frame_need, far_factor}
use Rattle.lb_syntax.specs.Rules.{KeepsRules}
use Rattle.lb_check.specs.Parts.{body_parts, function_parts, parts}
use Rattle.lb_handmade.proofs.FrameLemmas.{sum-cons}

terms_words-nodes : (es : List Term) → terms_words es ≡ 6 * sum (map nodes es)
terms_words-nodes [] = omega arith
terms_words-nodes (e ∷ es) = omega (arith, terms_words-nodes es, sum-cons (term_words e) (map term_words es), sum-cons (nodes e) (map nodes es))

few_body_parts : (c : Command) → body_parts c ≤ words c
few_body_parts Skips = omega arith
few_body_parts (Sets x e) = omega arith
few_body_parts (Unsets x) = omega arith
few_body_parts (Stores w a e) = omega arith
few_body_parts (Allocates n x b) = omega (arith, few_body_parts b)
few_body_parts (Chooses e b d) = omega (arith, few_body_parts b, few_body_parts d)
few_body_parts (Repeats e b) = omega (arith, few_body_parts b)
few_body_parts (Calls xs f es) = omega (arith, terms_words-nodes es)
few_body_parts (Interacts xs k es) = omega (arith, terms_words-nodes es)
few_body_parts Ends = omega arith
few_body_parts (Then c b) = omega (arith, few_body_parts c, few_body_parts b)

-- the words of a function in the code of a program
abbrev words_in_code : Procedure → ℕ
words_in_code f = far_factor f * procedure_words f

times_factor : (near : Bool) (n : ℕ) → n ≤ (if near then 1 else 2) * n
times_factor true n = omega arith
times_factor false n = omega arith

few_parts_each : (p : List Procedure) → parts p ≤ sum (map words_in_code p)
few_parts_each [] = omega arith
few_parts_each (f ∷ p) =
    let more : procedure_words f ≤ words_in_code f = times_factor (nat_le (frame_need f) NEAR_FRAME) (procedure_words f) in
    omega (arith, few_body_parts f.body, few_parts_each p, more, sum-cons (function_parts f) (map function_parts p), sum-cons (words_in_code f) (map words_in_code p))

pub few_parts : (p : List Procedure) → KeepsRules p → parts p < 2 ^ 30
few_parts p h = omega (arith, few_parts_each p, h.limits.code)
