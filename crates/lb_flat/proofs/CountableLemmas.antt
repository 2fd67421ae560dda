-- The functions of a program that keeps the rules can be counted.
use Rattle.std.proofs.Common.{◌≡◌, ℕ, ◌*◌, ◌≤◌, Bool, true, false, List, [], ◌∷◌, length, map, nat_le, ap, ◌∙◌, arith, if◌then◌else◌}
use Rattle.std.specs.Prelude.{sum}
use Rattle.std.specs.List.{AllByRecursion}
use Rattle.std.proofs.lemmas.List.Sums.{sum_by-cons}
use Rattle.lb_syntax.specs.declared.limits.TheConstants.{MOST_FRAME, MOST_WORDS, NEAR_FRAME}
use Rattle.lb_syntax.specs.Tree.{Term, Procedure}
use Rattle.lb_syntax.specs.Tree.{Command, Skips, Sets, Unsets, Stores, Allocates, Chooses, Repeats, Calls, Interacts, Ends, Then}
use Rattle.lb_syntax.specs.Needs.{nodes, term_words, terms_words, words, procedure_words, far_factor, frame_need, procedure_names}
use Rattle.lb_syntax.specs.Names.{Text, is_among, AreDistinct}
use Rattle.lb_syntax.specs.Rules.{KeepsRules}
use Rattle.lb_syntax.proofs.SetLemmas.{distinct-size}
use Rattle.lb_check.specs.Parts.{body_parts}
use Rattle.lb_flat.specs.SourceCounts.{greatest_arguments}
use Rattle.lb_flat.specs.InternalFlatten.{HasRoom, IsCountable}
use Rattle.lb_flat.proofs.FlatForms.{by_elements}

terms_few : (es : List Term) → sum (map nodes es) ≤ terms_words es
terms_few [] = omega arith
terms_few (e ∷ es) = omega (arith, terms_few es, sum_by-cons (λ n. n) (nodes e) (map nodes es), sum_by-cons (λ n. n) (term_words e) (map term_words es))

parts_few : (c : Command) → body_parts c ≤ words c
parts_few Skips = omega arith
parts_few (Sets x e) = omega arith
parts_few (Unsets x) = omega arith
parts_few (Stores w a e) = omega arith
parts_few (Allocates n x b) = omega (arith, parts_few b)
parts_few (Chooses e b d) = omega (arith, parts_few b, parts_few d)
parts_few (Repeats e b) = omega (arith, parts_few b)
parts_few (Calls xs f es) = omega (arith, terms_few es)
parts_few (Interacts xs k es) = omega (arith, terms_few es)
parts_few Ends = omega arith
parts_few (Then c d) = omega (arith, parts_few c, parts_few d)

arguments_few : (c : Command) → greatest_arguments c ≤ words c
arguments_few Skips = omega arith
arguments_few (Sets x e) = omega arith
arguments_few (Unsets x) = omega arith
arguments_few (Stores w a e) = omega arith
arguments_few (Allocates n x b) = omega (arith, arguments_few b)
arguments_few (Chooses e b d) = omega (arith, arguments_few b, arguments_few d)
arguments_few (Repeats e b) = omega (arith, arguments_few b)
arguments_few (Calls xs f es) = omega arith
arguments_few (Interacts xs k es) = omega arith
arguments_few Ends = omega arith
arguments_few (Then c d) = omega (arith, arguments_few c, arguments_few d)

once_at_least : (near : Bool) (n : ℕ) → n ≤ (if near then 1 else 2) * n
once_at_least true n = omega arith
once_at_least false n = omega arith

-- the words of a function among those of a program
abbrev words_in : Procedure → ℕ
words_in f = far_factor f * procedure_words f

each_countable : (fs : List Procedure) → sum (map words_in fs) ≤ MOST_WORDS → AllByRecursion (λ f. frame_need f ≤ MOST_FRAME) fs → AllByRecursion IsCountable fs
each_countable [] few frames = tt
each_countable (f ∷ fs) few frames =
    let more = sum_by-cons (λ n. n) (words_in f) (map words_in fs) in
    let own = once_at_least (nat_le (frame_need f) NEAR_FRAME) (procedure_words f) in (
      record {
        parts = omega (arith, few, more, own, parts_few f.body);
        room = omega (arith, few, more, own, arguments_few f.body, frames.0);
      },
      each_countable fs (omega (arith, few, more)) frames.1,
    )

pub countable : (p : List Procedure) → KeepsRules p → AllByRecursion IsCountable p
countable p keeps = each_countable p (omega (arith, keeps.limits.code)) (by_elements (λ f. frame_need f ≤ MOST_FRAME) p keeps.limits.frames)

-- the names that a function names, each once, leave room for its temporaries
pub names_room : (f : Procedure) (named names : List Text) → IsCountable f → named ≡ procedure_names f → AreDistinct names → ((x : Text) → is_among names x ≡ is_among named x)
    → HasRoom (length names) f.body
names_room f named names few is distinct same = omega (arith, few.room, distinct-size (procedure_names f) names distinct (λ x. same x ∙ ap (λ (l : List Text). is_among l x) is))
