-- Draws one after another are those of the definitions.
use Rattle.std.proofs.Common.{◌≡◌, ℕ, suc, ◌+◌, ◌*◌, List, [], ◌∷◌, ◌++◌, map, sym, ◌∙◌, ap, subst, arith}
use Rattle.std.proofs.lemmas.List.{map-append}
use Rattle.std.proofs.lemmas.List.FromFn.{map-range_with_len_more}
use Rattle.lb_syntax.specs.Tree.{Procedure, procedure_of}
use Rattle.lb_syntax.specs.declared.tree.Function.{Function}
use Rattle.lb_draws.specs.Draws.{next_state, state_after, draw}
use Rattle.lb_gen.specs.declared.drawn.DrawnFunction.{DrawnFunction}
use Rattle.lb_gen.specs.Made.{operation_of, turns_of, drawn_function, made_function, numbered_function, numbered_functions}
use Rattle.lb_gen.specs.InternalDraws.{IsBehind, DrawsFunction, AreDrawn}

-- a draw d is taken between two states
pub record Takes (before d after : ℕ) : Type 0 where
  pub draw : d ≡ next_state before
  pub state : after ≡ d

-- the draw, and the place of the stream behind it
record Took (seed n d after : ℕ) : Type 0 where
  draw : d ≡ draw seed 0 n
  behind : IsBehind seed (n + 1) after

takes : (seed n before d after : ℕ) → IsBehind seed n before → Takes before d after → Took seed n d after
takes seed n before d after h t =
    let e : d ≡ draw seed 0 n = t.draw ∙ ap next_state h in
    let m : suc n ≡ n + 1 = omega arith in
    record {
      draw = e;
      behind = t.state ∙ e ∙ ap (λ (k : ℕ). state_after seed 0 k) m;
    }

abbrev of_draws : (d0 d1 d2 d3 d4 d5 d6 : ℕ) → DrawnFunction
of_draws d0 d1 d2 d3 d4 d5 d6 = record {
  first_operation = operation_of d0;
  first_number = d1;
  turns = turns_of d2;
  second_operation = operation_of d3;
  third_operation = operation_of d4;
  second_number = d5;
  third_number = d6;
}

same : (d0 e0 d1 e1 d2 e2 d3 e3 d4 e4 d5 e5 d6 e6 : ℕ) → d0 ≡ e0 → d1 ≡ e1 → d2 ≡ e2 → d3 ≡ e3 → d4 ≡ e4 → d5 ≡ e5 → d6 ≡ e6
    → of_draws d0 d1 d2 d3 d4 d5 d6 ≡ of_draws e0 e1 e2 e3 e4 e5 e6
same d0 e0 d1 e1 d2 e2 d3 e3 d4 e4 d5 e5 d6 e6 p0 p1 p2 p3 p4 p5 p6 =
    ap (λ (d : ℕ). of_draws d d1 d2 d3 d4 d5 d6) p0 ∙ ap (λ (d : ℕ). of_draws e0 d d2 d3 d4 d5 d6) p1
    ∙ ap (λ (d : ℕ). of_draws e0 e1 d d3 d4 d5 d6) p2 ∙ ap (λ (d : ℕ). of_draws e0 e1 e2 d d4 d5 d6) p3
    ∙ ap (λ (d : ℕ). of_draws e0 e1 e2 e3 d d5 d6) p4 ∙ ap (λ (d : ℕ). of_draws e0 e1 e2 e3 e4 d d6) p5
    ∙ ap (λ (d : ℕ). of_draws e0 e1 e2 e3 e4 e5 d) p6

pub moved : (seed n m state : ℕ) → n ≡ m → IsBehind seed n state → IsBehind seed m state
moved seed n m state e h = subst (λ (k : ℕ). IsBehind seed k state) e h

-- a draw, where its number is written otherwise
pub takes_as : (seed n m before d after : ℕ) → n + 1 ≡ m → IsBehind seed n before → Takes before d after → (d ≡ draw seed 0 n) × IsBehind seed m after
takes_as seed n m before d after e h t =
    let r : Took seed n d after = takes seed n before d after h t in
    (r.draw, moved seed (n + 1) m after e r.behind)

pub seven_drawn : (seed j x0 d0 x1 d1 x2 d2 x3 d3 x4 d4 x5 d5 x6 d6 x7 : ℕ) → IsBehind seed (7 * j) x0
    → Takes x0 d0 x1 → Takes x1 d1 x2 → Takes x2 d2 x3 → Takes x3 d3 x4 → Takes x4 d4 x5 → Takes x5 d5 x6 → Takes x6 d6 x7
    → (of_draws d0 d1 d2 d3 d4 d5 d6 ≡ drawn_function (draw seed 0) j) × IsBehind seed (7 * (j + 1)) x7
seven_drawn seed j x0 d0 x1 d1 x2 d2 x3 d3 x4 d4 x5 d5 x6 d6 x7 h t0 t1 t2 t3 t4 t5 t6 =
    let r0 : (d0 ≡ draw seed 0 (7 * j)) × IsBehind seed (7 * j + 1) x1 = takes_as seed (7 * j) (7 * j + 1) x0 d0 x1 (omega arith) h t0 in
    let r1 : (d1 ≡ draw seed 0 (7 * j + 1)) × IsBehind seed (7 * j + 2) x2 = takes_as seed (7 * j + 1) (7 * j + 2) x1 d1 x2 (omega arith) r0.1 t1 in
    let r2 : (d2 ≡ draw seed 0 (7 * j + 2)) × IsBehind seed (7 * j + 3) x3 = takes_as seed (7 * j + 2) (7 * j + 3) x2 d2 x3 (omega arith) r1.1 t2 in
    let r3 : (d3 ≡ draw seed 0 (7 * j + 3)) × IsBehind seed (7 * j + 4) x4 = takes_as seed (7 * j + 3) (7 * j + 4) x3 d3 x4 (omega arith) r2.1 t3 in
    let r4 : (d4 ≡ draw seed 0 (7 * j + 4)) × IsBehind seed (7 * j + 5) x5 = takes_as seed (7 * j + 4) (7 * j + 5) x4 d4 x5 (omega arith) r3.1 t4 in
    let r5 : (d5 ≡ draw seed 0 (7 * j + 5)) × IsBehind seed (7 * j + 6) x6 = takes_as seed (7 * j + 5) (7 * j + 6) x5 d5 x6 (omega arith) r4.1 t5 in
    let r6 : (d6 ≡ draw seed 0 (7 * j + 6)) × IsBehind seed (7 * (j + 1)) x7 = takes_as seed (7 * j + 6) (7 * (j + 1)) x6 d6 x7 (omega arith) r5.1 t6 in
    (same d0 _ d1 _ d2 _ d3 _ d4 _ d5 _ d6 _ r0.0 r1.0 r2.0 r3.0 r4.0 r5.0 r6.0, r6.1)

-- one function more
one_more : (before middle after n : ℕ) (fs : List Procedure) (drawn : DrawnFunction) → AreDrawn before middle n fs → DrawsFunction middle after drawn
    → AreDrawn before after (n + 1) (fs ++ made_function n drawn ∷ [])
one_more before middle after n fs drawn h d = λ seed starts.
    let old : (fs ≡ numbered_functions (draw seed 0) n) × IsBehind seed (7 * n) middle = h seed starts in
    let new : (drawn ≡ drawn_function (draw seed 0) n) × IsBehind seed (7 * (n + 1)) after = d seed n old.1 in
    let more : numbered_functions (draw seed 0) (n + 1) ≡ numbered_functions (draw seed 0) n ++ numbered_function (draw seed 0) n ∷ [] =
    map-range_with_len_more (numbered_function (draw seed 0)) 0 n n (omega arith) in
    let first : fs ++ made_function n drawn ∷ [] ≡ numbered_functions (draw seed 0) n ++ made_function n drawn ∷ [] =
    ap (λ (gs : List Procedure). gs ++ made_function n drawn ∷ []) old.0 in
    let second : numbered_functions (draw seed 0) n ++ made_function n drawn ∷ [] ≡ numbered_functions (draw seed 0) n ++ numbered_function (draw seed 0) n ∷ [] =
    ap (λ (x : DrawnFunction). numbered_functions (draw seed 0) n ++ made_function n x ∷ []) new.0 in
    (first ∙ second ∙ sym more, new.1)

pub next_drawn : (before middle after n : ℕ) (fs : List Function) (f : Function) (drawn : DrawnFunction) → AreDrawn before middle n (map procedure_of fs) → DrawsFunction middle after drawn
    → procedure_of f ≡ made_function n drawn → AreDrawn before after (n + 1) (map procedure_of (fs ++ f ∷ []))
next_drawn before middle after n fs f drawn h d e =
    let all : map procedure_of (fs ++ f ∷ []) ≡ map procedure_of fs ++ procedure_of f ∷ [] = map-append procedure_of fs (f ∷ []) in
    let as_made : map procedure_of fs ++ procedure_of f ∷ [] ≡ map procedure_of fs ++ made_function n drawn ∷ [] =
    ap (λ (g : Procedure). map procedure_of fs ++ g ∷ []) e in
    subst (λ (gs : List Procedure). AreDrawn before after (n + 1) gs) (sym (all ∙ as_made)) (one_more before middle after n (map procedure_of fs) drawn h d)
