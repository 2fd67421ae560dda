use Rattle.std.proofs.Common.{◌≡◌, ℕ, List, [], ◌∷◌, ◌++◌, ap, sym, ◌∙◌, subst, true, false, take, ◌+◌, Some, Vec, Global}
use Rattle.std.specs.Borrow.{Bor}
use Rattle.std.specs.BTreeMap.{BTreeMap, UpdatesBy}
use Rattle.std.specs.Cmp.Lexicographic.{slice_cmp}
use Rattle.std.specs.Ordering.{nat_cmp}
use Rattle.lb_syntax.specs.Names.{Text, is_among}
use Rattle.lb_flat.specs.InternalFlatten.{texts_of, AreTheirNumbers}
use Rattle.lb_flat.proofs.NumberLemmas.{AreJust, just_more, just_same, map_has, numbers_more, texts_push}
use Rattle.lb_flat.proofs.numbers.VariableNumbers.new.Goals as goal
use Rattle.lb_flat.proofs.numbers.VariableNumbers.new.Goals.{then-not-contains_key+in_ok-insert+in_ok-push, else-not-contains_key}

pub loop-name-preserved : goal.loop-name-preserved
loop-name-preserved c =
    let made = texts_of c.loop-name.made.items in
    let names = take (c.loop-name.name-index + 1) c.args.names.now in
    let bytes = c.as_bytes-bytes.result in
    let has = c.contains_key.ensures ∙ map_has c.loop-name.numbers made bytes.now c.loop-name.invariant.numbers in
    let same = c.as_bytes-bytes.ensures.value in
    elim c.if-not-contains_key.branch [
      | then-not-contains_key+in_ok-insert+in_ok-push w ↦
          (let fresh : is_among made bytes.now ≡ false = cc (has, w.if-not-contains_key.true) in
          let items = ap (λ (v : Vec (Bor (List ℕ)) Global). v.items) w.made-is ∙ w.in_ok-push.ensures.items in
          let texts = ap texts_of items ∙ texts_push c.loop-name.made.items bytes in
          let more = just_more made c.args.names.now c.loop-name.name-index c.name-item.result c.loop-name-test.true c.name-item.is
          (ap (λ x. is_among made x) (sym same) ∙ fresh) c.loop-name.invariant.just in
          let updates = subst (λ n. UpdatesBy (λ x y. slice_cmp nat_cmp x.now y.now) (λ k. slice_cmp nat_cmp bytes.now k.now) c.loop-name.numbers w.insert.new.self (Some n))
          (w.len.ensures ∙ c.loop-name.made.ok.0) w.in_ok-insert.ensures.updates in
          let numbered = numbers_more c.loop-name.numbers w.insert.new.self c.loop-name.made.items bytes fresh c.loop-name.invariant.numbers updates in
          record {
            just = subst (λ (l : List Text). AreJust l names) (sym (texts ∙ ap (λ x. made ++ x ∷ []) same)) more;
            numbers = subst (λ (m : BTreeMap (Bor (List ℕ)) ℕ). AreTheirNumbers m (texts_of c.if-not-contains_key.made.items)) (sym w.numbers-is)
                (subst (λ (l : List (Bor (List ℕ))). AreTheirNumbers w.insert.new.self (texts_of l)) (sym items) numbered);
          })
      | else-not-contains_key w ↦
          (let there : is_among made bytes.now ≡ true = cc (has, w.if-not-contains_key.false) in
          let still = just_same made c.args.names.now c.loop-name.name-index c.name-item.result c.loop-name-test.true c.name-item.is
          (ap (λ x. is_among made x) (sym same) ∙ there) c.loop-name.invariant.just in
          record {
            just = subst (λ (v : Vec (Bor (List ℕ)) Global). AreJust (texts_of v.items) names) (sym w.made-is) still;
            numbers = subst (λ (m : BTreeMap (Bor (List ℕ)) ℕ). AreTheirNumbers m (texts_of c.if-not-contains_key.made.items)) (sym w.numbers-is)
                (subst (λ (v : Vec (Bor (List ℕ)) Global). AreTheirNumbers c.loop-name.numbers (texts_of v.items)) (sym w.made-is) c.loop-name.invariant.numbers);
          })
    ]
