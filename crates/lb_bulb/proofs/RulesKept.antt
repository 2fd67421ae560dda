-- The supplied program keeps the rules.
use Rattle.std.proofs.Common.{◌≡◌, ℕ, ◌+◌, ◌*◌, ◌≤◌, ◌<◌, Bool, true, false, List, [], ◌∷◌, ◌++◌, map, Contains, refl, subst, arith, codes, slice_index_or}
use Rattle.std.specs.Str.{bytes_eq}
use Rattle.std.proofs.lemmas.List.Elements.{All-from_recursion}
use Rattle.lb_memory.specs.declared.TheConstants.{MOST_STACK}
use Rattle.lb_syntax.specs.declared.limits.TheConstants.{MOST_FRAME}
use Rattle.lb_syntax.specs.Names.{Text, AreDistinct, is_among}
use Rattle.lb_syntax.specs.Tree.{Term, Procedure}
use Rattle.lb_syntax.specs.Needs.{sites, frame_need, procedure_words, code_need, IsWithinLimits}
use Rattle.lb_syntax.specs.Calls.{CallSite, call_sites, access_sites, callees, IsCallPath, IsRecursive, path_need}
use Rattle.lb_syntax.specs.Rules.{function_names, IsBlockSize, Fits, IsGoodCall, IsGoodAccess, KeepsFunctionRules, KeepsRules}
use Rattle.lb_builders.proofs.ProgramLemmas.{Within, here, later, is_within, other_name, no_entry, sum_more}
use Rattle.lb_bulb.specs.Supplied.{supplied, spi_xchg, lan_read, lan_write, xchg_procedure, read_procedure, write_procedure, init_procedure, loop_procedure}

-- ---- how deep a function's calls nest

abbrev rank_of : Bool → Bool → ℕ
rank_of true r = 0
rank_of false true = 1
rank_of false false = 2

abbrev rank : Text → ℕ
rank x = rank_of (bytes_eq x spi_xchg) (is_among (lan_read ∷ lan_write ∷ []) x)

rank_small : (x : Text) → rank x ≤ 2
rank_small x = by (bytes_eq x spi_xchg) (is_among (lan_read ∷ lan_write ∷ []) x)
  where
    by : (a b : Bool) → rank_of a b ≤ 2
    by true b = omega arith
    by false true = omega arith
    by false false = omega arith

-- every name in the list is of a lower rank
abbrev Lower : ℕ → List Text → Type 0
Lower n [] = Unit {0}
Lower n (x ∷ xs) = (rank x < n) × Lower n xs

lower_at : (n : ℕ) (xs : List Text) (x : Text) → Lower n xs → Within x xs → rank x < n
lower_at n [] x h w = elim w [ ]
lower_at n (y ∷ xs) x h (here e) = subst (λ (z : Text). rank z < n) e h.0
lower_at n (y ∷ xs) x h (later w) = lower_at n xs x h.1 w

-- what is said of each function
record Ranked (f : Procedure) : Type 0 where
  lower : Lower (rank f.name) (callees f)
  small : frame_need f ≤ 2032

abbrev EachIs : (Procedure → Type 0) → List Procedure → Type 0
EachIs P [] = Unit {0}
EachIs P (f ∷ fs) = P f × EachIs P fs

each_at : (P : Procedure → Type 0) (fs : List Procedure) (f : Procedure) → EachIs P fs → Within f fs → P f
each_at P [] f h w = elim w [ ]
each_at P (g ∷ fs) f h (here e) = subst P e h.0
each_at P (g ∷ fs) f h (later w) = each_at P fs f h.1 w

below_two : 0 < 2
below_two = omega arith

all_ranked : EachIs Ranked supplied
all_ranked =
    let z : 0 < 1 = omega arith in
    let o : 1 < 2 = omega arith in (
      record { lower = tt; small = omega arith },
      (
        record { lower = (z, (z, (z, (z, (z, (z, (z, (z, tt)))))))); small = omega arith },
        (
          record { lower = (z, (z, (z, (z, (z, (z, (z, tt))))))); small = omega arith },
          (
            record { lower = (o, (o, (o, (o, (o, tt))))); small = omega arith },
            (record { lower = (o, (o, (o, tt))); small = omega arith }, tt),
          ),
        ),
      ),
    )

ranked : (f : Procedure) → Contains supplied f → Ranked f
ranked f c = each_at Ranked supplied f all_ranked (is_within supplied f c)

-- a call goes down
goes_down : (f g : Procedure) → Contains supplied f → Contains (callees f) g.name → rank g.name < rank f.name
goes_down f g c d = lower_at (rank f.name) (callees f) g.name (ranked f c).lower (is_within (callees f) g.name d)

path_down : (f g : Procedure) (path : List Procedure) → IsCallPath supplied (f ∷ path ++ g ∷ []) → rank g.name < rank f.name
path_down f g [] h = goes_down f g h.0 h.1
path_down f g (k ∷ path) h = let a : rank k.name < rank f.name = goes_down f k h.0 h.1 in let b : rank g.name < rank k.name = path_down k g path h.2 in omega (arith, a, b)

never_back : (f : Procedure) → ¬ (IsRecursive supplied f)
never_back f r = let z : rank f.name < rank f.name = path_down f f r.0 r.1 in omega (arith, z)

-- a path takes no more than its rank allows
path_small : (f : Procedure) (path : List Procedure) → IsCallPath supplied (f ∷ path) → path_need (f ∷ path) ≤ 2032 * (rank f.name + 1)
path_small f [] h =
    let s : frame_need f ≤ 2032 = (ranked f h).small in
    let e : path_need (f ∷ []) ≡ frame_need f + path_need [] = sum_more f [] in
    let n : path_need [] ≡ 0 = refl in
    omega (arith, s, e, n)
path_small f (g ∷ path) h =
    let s : frame_need f ≤ 2032 = (ranked f h.0).small in
    let d : rank g.name < rank f.name = goes_down f g h.0 h.1 in
    let i : path_need (g ∷ path) ≤ 2032 * (rank g.name + 1) = path_small g path h.2 in
    let e : path_need (f ∷ g ∷ path) ≡ frame_need f + path_need (g ∷ path) = sum_more f (g ∷ path) in
    omega (arith, s, d, i, e)

stack_small : (path : List Procedure) → IsCallPath supplied path → path_need path ≤ MOST_STACK
stack_small [] h = let n : path_need [] ≡ 0 = refl in omega (arith, n)
stack_small (f ∷ path) h = let r : rank f.name ≤ 2 = rank_small f.name in let s : path_need (f ∷ path) ≤ 2032 * (rank f.name + 1) = path_small f path h in omega (arith, r, s)

-- ---- the rules of each function

distinct_five : AreDistinct (function_names supplied)
distinct_five = (refl, (refl, (refl, (refl, (refl, tt)))))

-- a name of the program
named : (k : ℕ) (x : Text) → k < 5 → slice_index_or (function_names supplied) k x ≡ x → Contains (function_names supplied) x
named k x h e = (k, h, e)

-- a call fits the function of its name, and no other function has it
abbrev FitsWhere : CallSite → Procedure → Type 0
FitsWhere site f = f.name ≡ site.function → Fits site f

other_fits : (site : CallSite) (f : Procedure) → bytes_eq f.name site.function ≡ false → FitsWhere site f
other_fits site f h = λ e. absurd (other_name f.name site.function h e)

abbrev Good : CallSite → Type 0
Good = IsGoodCall supplied

-- a call of spi_xchg with two targets and two arguments
xchg_good : (x : Text) (a b : Term) → is_among (codes "e" ∷ []) x ≡ false → Good (record { targets = x ∷ codes "e" ∷ []; function = spi_xchg; arguments = a ∷ b ∷ [] })
xchg_good x a b h =
    let site : CallSite = record { targets = x ∷ codes "e" ∷ []; function = spi_xchg; arguments = a ∷ b ∷ [] } in
    record {
      known = (0, omega arith, refl);
      fits = All-from_recursion (FitsWhere site) supplied ((λ e. (refl, refl)), (other_fits site read_procedure refl, (other_fits site write_procedure refl, (other_fits site init_procedure refl, (other_fits site loop_procedure refl, tt)))));
      distinct = (h, (refl, tt));
    }

read_good : (x : Text) (a : Term) → Good (record { targets = x ∷ []; function = lan_read; arguments = a ∷ [] })
read_good x a =
    let site : CallSite = record { targets = x ∷ []; function = lan_read; arguments = a ∷ [] } in
    record {
      known = (1, omega arith, refl);
      fits = All-from_recursion (FitsWhere site) supplied (other_fits site xchg_procedure refl, ((λ e. (refl, refl)), (other_fits site write_procedure refl, (other_fits site init_procedure refl, (other_fits site loop_procedure refl, tt)))));
      distinct = (refl, tt);
    }

write_good : (a b : Term) → Good (record { targets = []; function = lan_write; arguments = a ∷ b ∷ [] })
write_good a b =
    let site : CallSite = record { targets = []; function = lan_write; arguments = a ∷ b ∷ [] } in
    record {
      known = (2, omega arith, refl);
      fits = All-from_recursion (FitsWhere site) supplied (other_fits site xchg_procedure refl, (other_fits site read_procedure refl, ((λ e. (refl, refl)), (other_fits site init_procedure refl, (other_fits site loop_procedure refl, tt)))));
      distinct = tt;
    }

xchg_rules : KeepsFunctionRules supplied xchg_procedure
xchg_rules = record {
  distinct_params = (refl, (refl, tt));
  distinct_results = (refl, (refl, tt));
  entry = no_entry xchg_procedure refl refl;
  few_params = omega arith;
  few_results = omega arith;
  block_sizes = All-from_recursion IsBlockSize [] tt;
  good_calls = All-from_recursion Good [] tt;
  good_accesses = All-from_recursion IsGoodAccess (access_sites xchg_procedure.body) ((refl, refl), ((refl, refl), ((refl, refl), tt)));
  no_recursion = never_back xchg_procedure;
}

read_rules : KeepsFunctionRules supplied read_procedure
read_rules = record {
  distinct_params = (refl, tt);
  distinct_results = (refl, tt);
  entry = no_entry read_procedure refl refl;
  few_params = omega arith;
  few_results = omega arith;
  block_sizes = All-from_recursion IsBlockSize [] tt;
  good_calls = All-from_recursion Good (call_sites read_procedure.body) (xchg_good _ _ _ refl, (xchg_good _ _ _ refl, (xchg_good _ _ _ refl, (xchg_good _ _ _ refl, (xchg_good _ _ _ refl, (xchg_good _ _ _ refl, (xchg_good _ _ _ refl, (xchg_good _ _ _ refl, tt))))))));
  good_accesses = All-from_recursion IsGoodAccess (access_sites read_procedure.body) ((refl, refl), ((refl, refl), tt));
  no_recursion = never_back read_procedure;
}

write_rules : KeepsFunctionRules supplied write_procedure
write_rules = record {
  distinct_params = (refl, (refl, tt));
  distinct_results = tt;
  entry = no_entry write_procedure refl refl;
  few_params = omega arith;
  few_results = omega arith;
  block_sizes = All-from_recursion IsBlockSize [] tt;
  good_calls = All-from_recursion Good (call_sites write_procedure.body) (xchg_good _ _ _ refl, (xchg_good _ _ _ refl, (xchg_good _ _ _ refl, (xchg_good _ _ _ refl, (xchg_good _ _ _ refl, (xchg_good _ _ _ refl, (xchg_good _ _ _ refl, tt)))))));
  good_accesses = All-from_recursion IsGoodAccess (access_sites write_procedure.body) ((refl, refl), ((refl, refl), tt));
  no_recursion = never_back write_procedure;
}

init_rules : KeepsFunctionRules supplied init_procedure
init_rules = record {
  distinct_params = tt;
  distinct_results = tt;
  entry = λ e. (refl, refl);
  few_params = omega arith;
  few_results = omega arith;
  block_sizes = All-from_recursion IsBlockSize [] tt;
  good_calls = All-from_recursion Good (call_sites init_procedure.body) (read_good _ _, (write_good _ _, (write_good _ _, (write_good _ _, (read_good _ _, tt)))));
  good_accesses = All-from_recursion IsGoodAccess (access_sites init_procedure.body) ((refl, refl), ((refl, refl), tt));
  no_recursion = never_back init_procedure;
}

loop_rules : KeepsFunctionRules supplied loop_procedure
loop_rules = record {
  distinct_params = tt;
  distinct_results = tt;
  entry = λ e. (refl, refl);
  few_params = omega arith;
  few_results = omega arith;
  block_sizes = All-from_recursion IsBlockSize (sites loop_procedure.body) ((omega arith, refl), tt);
  good_calls = All-from_recursion Good (call_sites loop_procedure.body) (read_good _ _, (read_good _ _, (read_good _ _, tt)));
  good_accesses = All-from_recursion IsGoodAccess (access_sites loop_procedure.body) ((refl, refl), ((refl, refl), tt));
  no_recursion = never_back loop_procedure;
}

limits : IsWithinLimits supplied
limits = record {
  code = omega arith;
  frames = All-from_recursion (λ f. frame_need f ≤ MOST_FRAME) supplied (omega arith, (omega arith, (omega arith, (omega arith, (omega arith, tt)))));
}

pub rules_law : KeepsRules supplied
rules_law = record {
  few_functions = omega arith;
  distinct_functions = distinct_five;
  has_init = (3, omega arith, refl);
  has_loop = (4, omega arith, refl);
  functions = All-from_recursion (KeepsFunctionRules supplied) supplied (xchg_rules, (read_rules, (write_rules, (init_rules, (loop_rules, tt)))));
  limits = limits;
  stack = stack_small;
}

-- ---- the needs, in numbers

words_are : map procedure_words supplied ≡ 520 ∷ 592 ∷ 514 ∷ 556 ∷ 868 ∷ []
words_are = refl

frames_are : map frame_need supplied ≡ 164 ∷ 164 ∷ 164 ∷ 160 ∷ 1708 ∷ []
frames_are = refl

code_is : code_need supplied ≡ 3066
code_is = refl
