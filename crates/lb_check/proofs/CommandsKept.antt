-- A command keeps a rule where its list of faults is empty.
use Rattle.std.proofs.Common.{◌≡◌, ℕ, ◌%◌, ◌<◌, Bool, true, false, not, ◌&&◌, ◌||◌, ◌==◌, List, [], ◌∷◌, length, map, refl, sym, ap, ◌∙◌, arith, append-nil, All, Contains}
use Rattle.std.specs.Prelude.{flat_map}
use Rattle.std.proofs.lemmas.Bool.Decides.{nat_tests}
use Rattle.std.specs.List.{list_any}
use Rattle.std.specs.Str.{bytes_eq}
use Rattle.std.proofs.lemmas.Bool.{and_parts, and_from}
use Rattle.std.proofs.lemmas.List.Elements.{All-nil, All-cons, All-head, All-tail}
use Rattle.lb_syntax.specs.Names.{Text, is_among, AreDistinct}
use Rattle.lb_syntax.proofs.DistinctLemmas.{bytes_eq-same, bytes_eq-refl}
use Rattle.lb_syntax.specs.declared.tree.Action.{Action}
use Rattle.lb_syntax.specs.declared.tree.Action.TheVariants.{Read, Write}
use Rattle.lb_syntax.specs.Tree.{Procedure, Command, Allocates, Calls, Interacts}
use Rattle.lb_syntax.specs.Needs.{sites}
use Rattle.lb_syntax.specs.Calls.{CallSite, AccessSite, call_sites, access_sites}
use Rattle.lb_syntax.specs.Rules.{function_names, IsBlockSize, Fits, HasShape, IsGoodAccess}
use Rattle.lb_check.specs.declared.fault.CheckFault.{CheckFault}
use Rattle.lb_check.specs.declared.fault.CheckFault.TheVariants.{BadAllocSize, UnknownFunction, WrongArity, DuplicateTarget, BadIo}
use Rattle.lb_check.specs.declared.rule.CommandRule.TheVariants as of_command
use Rattle.lb_check.specs.Order.{commands, repeated}
use Rattle.lb_check.specs.Faults.{where_true, fits, has_misfit, has_shape, command_faults}
use Rattle.lb_check.proofs.NoFaults.{where_none, none_where, not_false, false_not, neither, from_neither, same_number, number_same, all_from_none, none_from_all, spread}
use Rattle.lb_check.proofs.NamesKept.{distinct_kept, kept_distinct, map_none, none_map, contains_among, among_contains}
use Rattle.lb_check.proofs.CommandLists.{own_calls, own_accesses, own_sites, calls_listed, accesses_listed, sites_listed}

-- numbers
positive : (n : ℕ) → (n == 0) ≡ false → 0 < n
positive n h = grind (arith, nat_tests)

not_zero : (n : ℕ) → 0 < n → (n == 0) ≡ false
not_zero n h = grind (arith, nat_tests)

-- blocks of memory
abbrev size_fault : Text → ℕ → List CheckFault
size_fault f n = where_true (n == 0 || not (n % 4 == 0)) (BadAllocSize f n)

size_own : (p : List Procedure) (f : Text) (c : Command) → command_faults of_command.BlockSize p f c ≡ flat_map (size_fault f) (own_sites c)
size_own p f (Allocates n x b) = sym (append-nil (size_fault f n))
size_own p f _ = refl

sizes : (p : List Procedure) (f : Text) (b : Command) → flat_map (command_faults of_command.BlockSize p f) (commands b) ≡ flat_map (size_fault f) (sites b)
sizes p f b = spread (command_faults of_command.BlockSize p f) own_sites (size_fault f) (size_own p f) (commands b) ∙ ap (flat_map (size_fault f)) (sym (sites_listed b))

size_kept : (f : Text) (n : ℕ) → size_fault f n ≡ [] → IsBlockSize n
size_kept f n h =
    let both = neither (n == 0) (not (n % 4 == 0)) (where_none (n == 0 || not (n % 4 == 0)) (BadAllocSize f n) h) in
    (positive n both.0, same_number (n % 4) 0 (not_false (n % 4 == 0) both.1))

kept_size : (f : Text) (n : ℕ) → IsBlockSize n → size_fault f n ≡ []
kept_size f n h =
    none_where (n == 0 || not (n % 4 == 0)) (BadAllocSize f n)
    (from_neither (n == 0) (not (n % 4 == 0)) (not_zero n h.0) (false_not (n % 4 == 0) (number_same (n % 4) 0 h.1)))

pub sizes_kept : (p : List Procedure) (f : Text) (b : Command) → flat_map (command_faults of_command.BlockSize p f) (commands b) ≡ [] → All IsBlockSize (sites b)
sizes_kept p f b h = all_from_none (size_fault f) IsBlockSize (sites b) (size_kept f) (sym (sizes p f b) ∙ h)

pub kept_sizes : (p : List Procedure) (f : Text) (b : Command) → All IsBlockSize (sites b) → flat_map (command_faults of_command.BlockSize p f) (commands b) ≡ []
kept_sizes p f b h = sizes p f b ∙ none_from_all (size_fault f) IsBlockSize (sites b) (kept_size f) h

-- calls of functions of the program
abbrev callee_fault : List Procedure → Text → CallSite → List CheckFault
callee_fault p f site = where_true (not (is_among (function_names p) site.function)) (UnknownFunction f site.function)

callee_own : (p : List Procedure) (f : Text) (c : Command) → command_faults of_command.Callee p f c ≡ flat_map (callee_fault p f) (own_calls c)
callee_own p f (Calls xs g es) = sym (append-nil (where_true (not (is_among (function_names p) g)) (UnknownFunction f g)))
callee_own p f _ = refl

callees : (p : List Procedure) (f : Text) (b : Command) → flat_map (command_faults of_command.Callee p f) (commands b) ≡ flat_map (callee_fault p f) (call_sites b)
callees p f b = spread (command_faults of_command.Callee p f) own_calls (callee_fault p f) (callee_own p f) (commands b) ∙ ap (flat_map (callee_fault p f)) (sym (calls_listed b))

abbrev pub IsKnown : List Procedure → CallSite → Type 0
IsKnown p site = Contains (function_names p) site.function

pub callees_kept : (p : List Procedure) (f : Text) (b : Command) → flat_map (command_faults of_command.Callee p f) (commands b) ≡ [] → All (IsKnown p) (call_sites b)
callees_kept p f b h =
    all_from_none (callee_fault p f) (IsKnown p) (call_sites b)
    (λ site e. contains_among (function_names p) site.function (not_false (is_among (function_names p) site.function) (where_none (not (is_among (function_names p) site.function)) (UnknownFunction f site.function) e)))
    (sym (callees p f b) ∙ h)

pub kept_callees : (p : List Procedure) (f : Text) (b : Command) → All (IsKnown p) (call_sites b) → flat_map (command_faults of_command.Callee p f) (commands b) ≡ []
kept_callees p f b h =
    callees p f b
    ∙ none_from_all (callee_fault p f) (IsKnown p) (call_sites b)
    (λ site e. none_where (not (is_among (function_names p) site.function)) (UnknownFunction f site.function) (false_not (is_among (function_names p) site.function) (among_contains (function_names p) site.function e))) h

-- calls that fit
abbrev arity_fault : List Procedure → Text → CallSite → List CheckFault
arity_fault p f site = where_true (has_misfit p site.function (length site.arguments) (length site.targets)) (WrongArity f site.function)

arity_own : (p : List Procedure) (f : Text) (c : Command) → command_faults of_command.Arity p f c ≡ flat_map (arity_fault p f) (own_calls c)
arity_own p f (Calls xs g es) = sym (append-nil (where_true (has_misfit p g (length es) (length xs)) (WrongArity f g)))
arity_own p f _ = refl

arities : (p : List Procedure) (f : Text) (b : Command) → flat_map (command_faults of_command.Arity p f) (commands b) ≡ flat_map (arity_fault p f) (call_sites b)
arities p f b = spread (command_faults of_command.Arity p f) own_calls (arity_fault p f) (arity_own p f) (commands b) ∙ ap (flat_map (arity_fault p f)) (sym (calls_listed b))

abbrev pub AllFit : List Procedure → CallSite → Type 0
AllFit p site = All (λ g. g.name ≡ site.function → Fits site g) p

misfit_step : (a b : Bool) → (a && not b) ≡ false → a ≡ true → b ≡ true
misfit_step true true h e = refl
misfit_step true false h e = cc
misfit_step false b h e = cc

step_misfit : (a b : Bool) → (a ≡ true → b ≡ true) → (a && not b) ≡ false
step_misfit true true h = refl
step_misfit true false h = let e = h refl in cc
step_misfit false b h = refl

misfit_kept : (q : List Procedure) (site : CallSite) → has_misfit q site.function (length site.arguments) (length site.targets) ≡ false → AllFit q site
unfolding has_misfit
misfit_kept [] site h = All-nil (λ (g : Procedure). g.name ≡ site.function → Fits site g)
misfit_kept (g ∷ gs) site h =
    let a = length site.arguments in
    let t = length site.targets in
    let both = neither (bytes_eq g.name site.function && not (fits g a t)) (list_any (λ f. bytes_eq f.name site.function && not (fits f a t)) gs) h in
    All-cons (λ (g : Procedure). g.name ≡ site.function → Fits site g) g gs
    (λ e. let parts = and_parts (a == length g.params) (t == length g.results) (misfit_step (bytes_eq g.name site.function) (fits g a t) both.0 (ap (λ (x : Text). bytes_eq x site.function) e ∙ bytes_eq-refl site.function)) in
    (same_number a (length g.params) parts.0, same_number t (length g.results) parts.1))
    (misfit_kept gs site both.1)

kept_misfit : (q : List Procedure) (site : CallSite) → AllFit q site → has_misfit q site.function (length site.arguments) (length site.targets) ≡ false
unfolding has_misfit
kept_misfit [] site h = refl
kept_misfit (g ∷ gs) site h =
    let a = length site.arguments in
    let t = length site.targets in
    from_neither (bytes_eq g.name site.function && not (fits g a t)) (list_any (λ f. bytes_eq f.name site.function && not (fits f a t)) gs)
    (step_misfit (bytes_eq g.name site.function) (fits g a t) (λ e.
    let fit = All-head (λ (g : Procedure). g.name ≡ site.function → Fits site g) g gs h (bytes_eq-same g.name site.function e) in
    and_from (a == length g.params) (t == length g.results) (number_same a (length g.params) fit.0) (number_same t (length g.results) fit.1)))
    (kept_misfit gs site (All-tail (λ (g : Procedure). g.name ≡ site.function → Fits site g) g gs h))

pub arities_kept : (p : List Procedure) (f : Text) (b : Command) → flat_map (command_faults of_command.Arity p f) (commands b) ≡ [] → All (AllFit p) (call_sites b)
arities_kept p f b h =
    all_from_none (arity_fault p f) (AllFit p) (call_sites b)
    (λ site e. misfit_kept p site (where_none (has_misfit p site.function (length site.arguments) (length site.targets)) (WrongArity f site.function) e))
    (sym (arities p f b) ∙ h)

pub kept_arities : (p : List Procedure) (f : Text) (b : Command) → All (AllFit p) (call_sites b) → flat_map (command_faults of_command.Arity p f) (commands b) ≡ []
kept_arities p f b h =
    arities p f b
    ∙ none_from_all (arity_fault p f) (AllFit p) (call_sites b)
    (λ site e. none_where (has_misfit p site.function (length site.arguments) (length site.targets)) (WrongArity f site.function) (kept_misfit p site e)) h

-- calls whose targets are different
abbrev target_fault : Text → CallSite → List CheckFault
target_fault f site = map (DuplicateTarget f) (repeated site.targets)

target_own : (p : List Procedure) (f : Text) (c : Command) → command_faults of_command.Targets p f c ≡ flat_map (target_fault f) (own_calls c)
target_own p f (Calls xs g es) = sym (append-nil (map (DuplicateTarget f) (repeated xs)))
target_own p f _ = refl

targets : (p : List Procedure) (f : Text) (b : Command) → flat_map (command_faults of_command.Targets p f) (commands b) ≡ flat_map (target_fault f) (call_sites b)
targets p f b = spread (command_faults of_command.Targets p f) own_calls (target_fault f) (target_own p f) (commands b) ∙ ap (flat_map (target_fault f)) (sym (calls_listed b))

abbrev pub HasTargets : CallSite → Type 0
HasTargets site = AreDistinct site.targets

pub targets_kept : (p : List Procedure) (f : Text) (b : Command) → flat_map (command_faults of_command.Targets p f) (commands b) ≡ [] → All HasTargets (call_sites b)
targets_kept p f b h =
    all_from_none (target_fault f) HasTargets (call_sites b) (λ site e. distinct_kept site.targets (map_none (DuplicateTarget f) (repeated site.targets) e)) (sym (targets p f b) ∙ h)

pub kept_targets : (p : List Procedure) (f : Text) (b : Command) → All HasTargets (call_sites b) → flat_map (command_faults of_command.Targets p f) (commands b) ≡ []
kept_targets p f b h =
    targets p f b
    ∙ none_from_all (target_fault f) HasTargets (call_sites b) (λ site e. none_map (DuplicateTarget f) (repeated site.targets) (kept_distinct site.targets e)) h

-- accesses
abbrev access_fault : Text → AccessSite → List CheckFault
access_fault f site = where_true (not (has_shape site.action (length site.targets) (length site.arguments))) (BadIo f)

access_own : (p : List Procedure) (f : Text) (c : Command) → command_faults of_command.Access p f c ≡ flat_map (access_fault f) (own_accesses c)
access_own p f (Interacts xs k es) = sym (append-nil (where_true (not (has_shape k (length xs) (length es))) (BadIo f)))
access_own p f _ = refl

shapes : (p : List Procedure) (f : Text) (b : Command) → flat_map (command_faults of_command.Access p f) (commands b) ≡ flat_map (access_fault f) (access_sites b)
shapes p f b = spread (command_faults of_command.Access p f) own_accesses (access_fault f) (access_own p f) (commands b) ∙ ap (flat_map (access_fault f)) (sym (accesses_listed b))

shape_is : (k : Action) (m n : ℕ) → has_shape k m n ≡ true → HasShape k m n
shape_is Read m n h = let both = and_parts (m == 1) (n == 1) h in (same_number m 1 both.0, same_number n 1 both.1)
shape_is Write m n h = let both = and_parts (m == 0) (n == 2) h in (same_number m 0 both.0, same_number n 2 both.1)

is_shape : (k : Action) (m n : ℕ) → HasShape k m n → has_shape k m n ≡ true
is_shape Read m n h = and_from (m == 1) (n == 1) (number_same m 1 h.0) (number_same n 1 h.1)
is_shape Write m n h = and_from (m == 0) (n == 2) (number_same m 0 h.0) (number_same n 2 h.1)

pub shapes_kept : (p : List Procedure) (f : Text) (b : Command) → flat_map (command_faults of_command.Access p f) (commands b) ≡ [] → All IsGoodAccess (access_sites b)
shapes_kept p f b h =
    all_from_none (access_fault f) IsGoodAccess (access_sites b)
    (λ site e. shape_is site.action (length site.targets) (length site.arguments)
    (not_false (has_shape site.action (length site.targets) (length site.arguments)) (where_none (not (has_shape site.action (length site.targets) (length site.arguments))) (BadIo f) e)))
    (sym (shapes p f b) ∙ h)

pub kept_shapes : (p : List Procedure) (f : Text) (b : Command) → All IsGoodAccess (access_sites b) → flat_map (command_faults of_command.Access p f) (commands b) ≡ []
kept_shapes p f b h =
    shapes p f b
    ∙ none_from_all (access_fault f) IsGoodAccess (access_sites b)
    (λ site e. none_where (not (has_shape site.action (length site.targets) (length site.arguments))) (BadIo f)
    (false_not (has_shape site.action (length site.targets) (length site.arguments)) (is_shape site.action (length site.targets) (length site.arguments) e))) h
