-- The program keeps the rules, whatever is drawn.
use Rattle.std.proofs.Common.{◌≡◌, ℕ, zero, suc, ◌<◌, ◌≤◌, Bool, true, false, not, ◌&&◌, List, [], ◌∷◌, length, Contains, All, refl, subst, arith}
use Rattle.std.specs.Fmt.{digits}
use Rattle.std.proofs.lemmas.List.Elements.{All-from_recursion, All-contains_itself}
use Rattle.lb_syntax.specs.declared.limits.TheConstants.{MOST_FRAME}
use Rattle.lb_syntax.specs.Names.{Text, AreDistinct, is_among}
use Rattle.lb_syntax.specs.Tree.{Term, Procedure}
use Rattle.lb_syntax.specs.Needs.{sites, frame_need, code_need, IsWithinLimits}
use Rattle.lb_syntax.specs.Calls.{CallSite, call_sites, access_sites, path_need}
use Rattle.lb_syntax.specs.Rules.{function_names, IsBlockSize, Fits, IsGoodCall, IsGoodAccess, KeepsFunctionRules, KeepsRules}
use Rattle.lb_gen.specs.Made.{r_, function_name, numbered_function, init_function, loop_function, made}
use Rattle.lb_gen.specs.Laws.{IsLarge}
use Rattle.lb_gen.proofs.NameLemmas.{both}
use Rattle.lb_builders.proofs.ProgramLemmas.{contained, is_within, mapped, no_entry}
use Rattle.lb_gen.proofs.Members.{whole, Member, numbered, starts, goes_on, member, has_numbered, has_init, has_loop, by_name}
use Rattle.lb_gen.proofs.CallLemmas.{never_back, init_never_back, loop_never_back, frame_is, path_most, stack_is}

-- what holds of each function of the program
all_of : (draws : ℕ → ℕ) (P : Procedure → Type 0) → ((j : ℕ) → j < 64 → P (numbered_function draws j)) → P (init_function (draws 448) (draws 449)) → P loop_function → All P (whole draws)
all_of draws P n i l = λ k d h. by _ (member draws _ (All-contains_itself (whole draws) k d h))
  where
    by : (f : Procedure) → Member draws f → P f
    by f (numbered j h e) = subst P e (n j h)
    by f (starts e) = subst P e i
    by f (goes_on e) = subst P e l

-- ---- names

abbrev all_distinct : List Text → Bool
all_distinct [] = true
all_distinct (x ∷ xs) = not (is_among xs x) && all_distinct xs

is_not : (b : Bool) → not b ≡ true → b ≡ false
is_not true h = cc
is_not false h = refl

are_distinct : (xs : List Text) → all_distinct xs ≡ true → AreDistinct xs
are_distinct [] h = tt
are_distinct (x ∷ xs) h =
    let b : (not (is_among xs x) ≡ true) × (all_distinct xs ≡ true) = both (not (is_among xs x)) (all_distinct xs) h in
    (is_not (is_among xs x) b.0, are_distinct xs b.1)

names_distinct : (draws : ℕ → ℕ) → all_distinct (function_names (whole draws)) ≡ true
unfolding digits
names_distinct draws = refl

named : (draws : ℕ → ℕ) (f : Procedure) → Contains (whole draws) f → Contains (function_names (whole draws)) f.name
named draws f c = contained (function_names (whole draws)) f.name (mapped (λ (g : Procedure). g.name) (whole draws) f (is_within (whole draws) f c))

-- ---- calls

abbrev site_of : ℕ → Term → Term → CallSite
site_of i a b = record { targets = r_ ∷ []; function = function_name i; arguments = a ∷ b ∷ [] }

call_good : (draws : ℕ → ℕ) (i : ℕ) (a b : Term) → i < 64 → IsGoodCall (whole draws) (site_of i a b)
call_good draws i a b h = record {
  known = named draws (numbered_function draws i) (has_numbered draws i h);
  fits = λ k d l. by _ (All-contains_itself (whole draws) k d l);
  distinct = (refl, tt);
}
  where
    by : (f : Procedure) → Contains (whole draws) f → f.name ≡ function_name i → Fits (site_of i a b) f
    by f c e = subst (λ (g : Procedure). Fits (site_of i a b) g) (by_name draws f i h c e) (refl, refl)

-- ---- the rules of each function

good_calls : (draws : ℕ → ℕ) (j : ℕ) → j < 64 → All (IsGoodCall (whole draws)) (call_sites (numbered_function draws j).body)
good_calls draws zero h = All-from_recursion (IsGoodCall (whole draws)) [] tt
good_calls draws (suc i) h =
    let z : i < 64 = omega (arith, h) in
    All-from_recursion (IsGoodCall (whole draws)) (call_sites (numbered_function draws (suc i)).body) (call_good draws i _ _ z, tt)

good_accesses : (draws : ℕ → ℕ) (j : ℕ) → All IsGoodAccess (access_sites (numbered_function draws j).body)
good_accesses draws zero = All-from_recursion IsGoodAccess (access_sites (numbered_function draws zero).body) ((refl, refl), tt)
good_accesses draws (suc i) = All-from_recursion IsGoodAccess (access_sites (numbered_function draws (suc i)).body) ((refl, refl), tt)

block_sizes : (draws : ℕ → ℕ) (j : ℕ) → All IsBlockSize (sites (numbered_function draws j).body)
block_sizes draws zero = All-from_recursion IsBlockSize [] tt
block_sizes draws (suc i) = All-from_recursion IsBlockSize [] tt

numbered_rules : (draws : ℕ → ℕ) (j : ℕ) → j < 64 → KeepsFunctionRules (whole draws) (numbered_function draws j)
numbered_rules draws j h = record {
  distinct_params = (refl, (refl, tt));
  distinct_results = (refl, tt);
  entry = no_entry (numbered_function draws j) refl refl;
  few_params = omega arith;
  few_results = omega arith;
  block_sizes = block_sizes draws j;
  good_calls = good_calls draws j h;
  good_accesses = good_accesses draws j;
  no_recursion = never_back draws j h;
}

init_rules : (draws : ℕ → ℕ) → KeepsFunctionRules (whole draws) (init_function (draws 448) (draws 449))
init_rules draws = record {
  distinct_params = tt;
  distinct_results = tt;
  entry = λ e. (refl, refl);
  few_params = omega arith;
  few_results = omega arith;
  block_sizes = All-from_recursion IsBlockSize [] tt;
  good_calls = All-from_recursion (IsGoodCall (whole draws)) (call_sites (init_function (draws 448) (draws 449)).body) (call_good draws 63 _ _ (omega arith), tt);
  good_accesses = All-from_recursion IsGoodAccess [] tt;
  no_recursion = init_never_back draws;
}

loop_rules : (draws : ℕ → ℕ) → KeepsFunctionRules (whole draws) loop_function
loop_rules draws = record {
  distinct_params = tt;
  distinct_results = tt;
  entry = λ e. (refl, refl);
  few_params = omega arith;
  few_results = omega arith;
  block_sizes = All-from_recursion IsBlockSize [] tt;
  good_calls = All-from_recursion (IsGoodCall (whole draws)) [] tt;
  good_accesses = All-from_recursion IsGoodAccess [] tt;
  no_recursion = loop_never_back draws;
}

-- ---- the whole

frame_fits : (draws : ℕ → ℕ) (j : ℕ) → j < 64 → frame_need (numbered_function draws j) ≤ MOST_FRAME
frame_fits draws j h = let e : frame_need (numbered_function draws j) ≡ 164 = frame_is draws j in omega (arith, e)

words_are : (draws : ℕ → ℕ) → code_need (whole draws) ≡ 18232
words_are draws = refl

within_limits : (draws : ℕ → ℕ) → IsWithinLimits (whole draws)
within_limits draws =
    let e : code_need (whole draws) ≡ 18232 = words_are draws in
    record {
      code = omega (arith, e);
      frames = all_of draws (λ f. frame_need f ≤ MOST_FRAME) (frame_fits draws) (omega arith) (omega arith);
    }

count_is : (draws : ℕ → ℕ) → length (whole draws) ≡ 66
count_is draws = refl

rules_kept : (draws : ℕ → ℕ) → KeepsRules (whole draws)
rules_kept draws =
    let n : length (whole draws) ≡ 66 = count_is draws in
    record {
      few_functions = omega (arith, n);
      distinct_functions = are_distinct (function_names (whole draws)) (names_distinct draws);
      has_init = named draws _ (has_init draws);
      has_loop = named draws _ (has_loop draws);
      functions = all_of draws (KeepsFunctionRules (whole draws)) (numbered_rules draws) (init_rules draws) (loop_rules draws);
      limits = within_limits draws;
      stack = λ path p. (let l : path_need path ≤ 10640 = path_most draws path p in omega (arith, l));
    }

pub all_large : (draws : ℕ → ℕ) → IsLarge draws
unfolding made
all_large draws = record {
  rules = rules_kept draws;
  functions = count_is draws;
  words = words_are draws;
  stack = stack_is draws;
}
