-- The whole program of a seed is the one of its draws, and nothing refuses it.
use Rattle.std.proofs.Common.{◌≡◌, ℕ, ◌*◌, ◌<◌, ◌≤◌, ◌^◌, List, [], ◌∷◌, ◌++◌, map, refl, sym, ◌∙◌, ap, subst, arith, append_assoc}
use Rattle.std.proofs.lemmas.List.{map-append}
use Rattle.lb_draws.specs.Draws.{first_state, draw}
use Rattle.lb_syntax.specs.Tree.{Procedure, procedure_of}
use Rattle.lb_syntax.specs.Rules.{KeepsRules}
use Rattle.lb_syntax.specs.declared.tree.Function.{Function}
use Rattle.lb_check.specs.Parts.{parts}
use Rattle.lb_check.specs.Verdict.{IsRefusal}
use Rattle.lb_check.specs.declared.fault.CheckFault.{CheckFault}
use Rattle.lb_check.specs.declared.fault.CheckError.{CheckError}
use Rattle.lb_check.specs.declared.fault.CheckError.TheVariants.{Fault}
use Rattle.lb_gen.specs.Made.{numbered_functions, init_function, loop_function, made}
use Rattle.lb_gen.specs.InternalDraws.{IsBehind, AreDrawn}
use Rattle.lb_gen.proofs.DrawLemmas.{Takes, takes_as, moved}
use Rattle.lb_gen.proofs.RulesKept.{all_large}

pub all_drawn : (before after n : ℕ) (fs : List Procedure) → n ≤ 64 → 64 ≤ n → AreDrawn before after n fs → AreDrawn before after 64 fs
all_drawn before after n fs h i d = let e : n ≡ 64 = omega (arith, h, i) in subst (λ (k : ℕ). AreDrawn before after k fs) e d

-- the functions of a program, where what is drawn for `init` is known
joined : (draws : ℕ → ℕ) (fs : List Procedure) (init loop : Procedure) → fs ≡ numbered_functions draws 64 → init ≡ init_function (draws 448) (draws 449) → loop ≡ loop_function
    → fs ++ init ∷ loop ∷ [] ≡ made draws
unfolding made
joined draws fs init loop e i l =
    ap (λ (gs : List Procedure). gs ++ init ∷ loop ∷ []) e ∙ ap (λ (g : Procedure). numbered_functions draws 64 ++ g ∷ loop ∷ []) i
    ∙ ap (λ (g : Procedure). numbered_functions draws 64 ++ init_function (draws 448) (draws 449) ∷ g ∷ []) l

both_pushed : (fs : List Function) (init loop : Function) → map procedure_of ((fs ++ init ∷ []) ++ loop ∷ []) ≡ map procedure_of fs ++ procedure_of init ∷ procedure_of loop ∷ []
both_pushed fs init loop =
    map-append procedure_of (fs ++ init ∷ []) (loop ∷ []) ∙ ap (λ (gs : List Procedure). gs ++ procedure_of loop ∷ []) (map-append procedure_of fs (init ∷ []))
    ∙ append_assoc (map procedure_of fs) (procedure_of init ∷ []) (procedure_of loop ∷ [])

pub large_is : (seed before x0 first x1 second x2 : ℕ) (fs : List Function) (init loop : Function) → before ≡ first_state seed 0 → AreDrawn before x0 64 (map procedure_of fs)
    → Takes x0 first x1 → Takes x1 second x2 → procedure_of init ≡ init_function first second → procedure_of loop ≡ loop_function
    → map procedure_of ((fs ++ init ∷ []) ++ loop ∷ []) ≡ made (draw seed 0)
large_is seed before x0 first x1 second x2 fs init loop b d t u i l =
    let all : (map procedure_of fs ≡ numbered_functions (draw seed 0) 64) × IsBehind seed (7 * 64) x0 = d seed b in
    let behind : IsBehind seed 448 x0 = moved seed (7 * 64) 448 x0 (omega arith) all.1 in
    let r : (first ≡ draw seed 0 448) × IsBehind seed 449 x1 = takes_as seed 448 449 x0 first x1 (omega arith) behind t in
    let q : (second ≡ draw seed 0 449) × IsBehind seed 450 x2 = takes_as seed 449 450 x1 second x2 (omega arith) r.1 u in
    let drawn : procedure_of init ≡ init_function (draw seed 0 448) (draw seed 0 449) =
    i ∙ ap (λ (k : ℕ). init_function k second) r.0 ∙ ap (λ (k : ℕ). init_function (draw seed 0 448) k) q.0 in
    both_pushed fs init loop ∙ joined (draw seed 0) (map procedure_of fs) (procedure_of init) (procedure_of loop) all.0 drawn l

-- ---- the checker takes it

parts_are : (draws : ℕ → ℕ) → parts (made draws) ≡ 1987
unfolding made
parts_are draws = refl

pub few_parts : (draws : ℕ → ℕ) (p : List Procedure) → p ≡ made draws → parts p < 2 ^ 30
few_parts draws p e =
    let n : parts (made draws) ≡ 1987 = parts_are draws in
    let s : parts (made draws) < 2 ^ 30 = omega (arith, n) in
    subst (λ (q : List Procedure). parts q < 2 ^ 30) (sym e) s

pub never_refused : (draws : ℕ → ℕ) (p : List Procedure) (error : CheckError) (fault : CheckFault) → p ≡ made draws → error ≡ Fault fault → IsRefusal p error → ⊥
never_refused draws p error fault e f r =
    let refused : IsRefusal p (Fault fault) = subst (λ (x : CheckError). IsRefusal p x) f r in
    refused.1 (subst KeepsRules (sym e) (all_large draws).rules)
