use Rattle.std.proofs.Common.{rules, ◌≡◌, ◌+◌, ◌-◌, ◌++◌, ◌∷◌, [], length, map, Vec, Global, refl, sym, ap, ap₂, ◌∙◌, arith, append_assoc, length-append}
use Rattle.std.proofs.lemmas.List.{length-map, map-append, take-append-drop}
use Rattle.lb_sections.specs.Sections.{lines, sections, sections_from, seen}
use Rattle.lb_sections.specs.declared.cut.Section.{Section}
use Rattle.lb_sections.proofs.CutLemmas.{begin_nothing, begin_with, first_too_many, next_begins, same_goes_on}
use Rattle.lb_sections.proofs.cut.sections_of.Goals as goal
use Rattle.lb_sections.proofs.cut.sections_of.Goals.{then-is_mark+else-len-most+in_ok-map_err, else-is_mark}

pub loop-rest-init : goal.loop-rest-init
loop-rest-init c =
    let none : map seen c.new-list.result.items ≡ [] = ap (map seen) c.new-list.ensures.items in
    let all : sections c.args.input.now ≡ map seen c.new-list.result.items ++ begin_with 1 [] (sections_from 1 (lines c.args.input.now)) =
    sym (ap (λ ss. ss ++ begin_with 1 [] (sections_from 1 (lines c.args.input.now))) none ∙ begin_nothing 1 (lines c.args.input.now)) in
    record { few = search rules; short = omega arith; parts = ([], refl, all) }

pub returns-then-len-most-clause-refused : goal.returns-then-len-most-clause-refused
returns-then-len-most-clause-refused c =
    let split : lines c.loop-rest.rest.now ≡ c.split_at.result.0.now ∷ lines c.split_at.result.1.now =
    c.line_length.ensures.line ∙ ap₂ (λ first behind. first ∷ lines behind) (sym c.split_at.ensures.front) (sym c.split_at.ensures.back) in
    let front = c.loop-rest.invariant.parts.0 in
    let parts = c.loop-rest.invariant.parts.2 ∙ ap (λ ls. map seen c.loop-rest.list.items ++ begin_with c.loop-rest.begun.line front (sections_from c.loop-rest.line ls)) split in
    let count : length (map seen c.loop-rest.list.items) ≡ c.args.most - 1 = omega (arith, length-map c.loop-rest.list.items seen, c.loop-rest.list.ok.0, c.loop-rest.invariant.few) in
    first_too_many c.args.most c.args.input.now (map seen c.loop-rest.list.items) c.loop-rest.begun.line c.loop-rest.line front
    c.split_at.result.0.now (lines c.split_at.result.1.now) parts (search rules) count

pub loop-rest-preserved : goal.loop-rest-preserved
loop-rest-preserved c =
    let first = c.split_at.result.0.now in
    let behind = c.split_at.result.1.now in
    let split : lines c.loop-rest.rest.now ≡ first ∷ lines behind =
    c.line_length.ensures.line ∙ ap₂ (λ first behind. first ∷ lines behind) (sym c.split_at.ensures.front) (sym c.split_at.ensures.back) in
    let front = c.loop-rest.invariant.parts.0 in
    let parts = c.loop-rest.invariant.parts.2 ∙ ap (λ ls. map seen c.loop-rest.list.items ++ begin_with c.loop-rest.begun.line front (sections_from c.loop-rest.line ls)) split in
    elim c.if-is_mark.branch [
      | then-is_mark+else-len-most+in_ok-map_err w ↦
          let items : c.if-is_mark.list.items ≡ c.loop-rest.list.items ++ w.without.result ∷ [] = search rules in
          let shown : map seen c.if-is_mark.list.items ≡ map seen c.loop-rest.list.items ++ seen w.without.result ∷ [] =
          ap (map seen) items ∙ map-append seen c.loop-rest.list.items (w.without.result ∷ []) in
          let next = next_begins (sections c.args.input.now) (map seen c.loop-rest.list.items) (seen w.without.result) c.loop-rest.begun.line c.loop-rest.line
          front first (lines behind) parts (search rules) (w.without.ensures front c.loop-rest.invariant.parts.1) in
          record {
            few = omega (arith, ap length items, length-append c.loop-rest.list.items (w.without.result ∷ []), c.loop-rest.list.ok.0);
            short = omega (arith, c.split_at.ensures.back_len, c.line_length.ensures.some);
            parts = (
              [],
              ap (λ (s : Section). s.text.now) w.begun-is,
              next ∙ ap₂ (λ ss n. ss ++ begin_with n [] (sections_from (c.loop-rest.line + 1) (lines behind)))
                  (sym shown) (sym (ap (λ (s : Section). s.line) w.begun-is)),
            );
          }
      | else-is_mark w ↦
          let whole : c.loop-rest.rest.now ≡ first ++ behind =
          sym (ap₂ (λ x y. x ++ y) c.split_at.ensures.front c.split_at.ensures.back ∙ take-append-drop c.line_length.result c.loop-rest.rest.now) in
          let same = same_goes_on (sections c.args.input.now) (map seen c.loop-rest.list.items) c.loop-rest.begun.line c.loop-rest.line
          front first (lines behind) parts (search rules) in
          record {
            few = rw w.list-is c.loop-rest.invariant.few;
            short = omega (arith, c.split_at.ensures.back_len, c.line_length.ensures.some);
            parts = (
              front ++ first,
              ap (λ (s : Section). s.text.now) w.begun-is ∙ c.loop-rest.invariant.parts.1 ∙ ap (λ text. front ++ text) whole ∙ sym (append_assoc front first behind),
              same ∙ ap₂ (λ ss n. ss ++ begin_with n (front ++ first) (sections_from (c.loop-rest.line + 1) (lines behind)))
                  (sym (ap (λ (list : Vec Section Global). map seen list.items) w.list-is)) (sym (ap (λ (s : Section). s.line) w.begun-is)),
            );
          }
    ]
