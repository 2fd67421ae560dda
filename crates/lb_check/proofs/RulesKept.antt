-- A program keeps the rules where each question is answered with yes.
use Rattle.std.proofs.Common.{◌≤◌, nat_lt, not, List, length, All}
use Rattle.std.specs.Prelude.{codes, flat_map}
use Rattle.std.specs.List.{AllByRecursion}
use Rattle.lb_syntax.specs.declared.limits.TheConstants.{MOST_FRAME, MOST_FUNCTIONS, MOST_PARAMS, MOST_RESULTS, MOST_WORDS}
use Rattle.lb_syntax.specs.Names.{is_among, AreDistinct}
use Rattle.lb_syntax.specs.Tree.{Procedure}
use Rattle.lb_syntax.specs.Needs.{code_need, frame_need, sites}
use Rattle.lb_syntax.specs.Calls.{call_sites, access_sites}
use Rattle.lb_syntax.specs.Rules.{function_names, HasEntryShape, IsBlockSize, IsGoodAccess, KeepsFunctionRules, KeepsRules}
use Rattle.lb_check.specs.declared.fault.CheckFault.{CheckFault}
use Rattle.lb_check.specs.declared.fault.CheckFault.TheVariants.{TooManyFunctions, DuplicateFunction, NoInit, NoLoop, CodeNeed}
use Rattle.lb_check.specs.declared.rule.FunctionRule.TheVariants as of_function
use Rattle.lb_check.specs.declared.rule.CommandRule.{CommandRule}
use Rattle.lb_check.specs.declared.rule.CommandRule.TheVariants as of_command
use Rattle.lb_check.specs.Order.{commands, repeated}
use Rattle.lb_check.specs.Faults.{function_faults, command_faults}
use Rattle.lb_check.specs.Verdict.{IsKept, questions}
use Rattle.lb_check.proofs.NoFaults.{where_none, none_where, not_false, false_not, over, within, all_from_none, none_from_all}
use Rattle.lb_check.proofs.NamesKept.{distinct_kept, kept_distinct, map_none, none_map, contains_among, among_contains}
use Rattle.lb_check.proofs.FunctionsKept.{entry_kept, kept_entry, names_kept, kept_names, counts_kept, kept_counts, frame_kept, kept_frame}
use Rattle.lb_check.proofs.CommandsKept.{sizes_kept, kept_sizes, callees_kept, kept_callees, arities_kept, kept_arities, targets_kept, kept_targets, shapes_kept, kept_shapes, IsKnown, AllFit, HasTargets}

module _ (p : List Procedure) where
  -- the faults of a function by a rule on commands
  abbrev in_body : CommandRule → Procedure → List CheckFault
  in_body r f = flat_map (command_faults r p f.name) (commands f.body)

  abbrev HasNames : Procedure → Type 0
  HasNames f = AreDistinct f.params × AreDistinct f.results

  abbrev HasCounts : Procedure → Type 0
  HasCounts f = (length f.params ≤ MOST_PARAMS) × (length f.results ≤ MOST_RESULTS)

  abbrev HasFrame : Procedure → Type 0
  HasFrame f = frame_need f ≤ MOST_FRAME

  pub rules_kept : AllByRecursion (IsKept p) questions → KeepsRules p
  rules_kept (count, (names, (own, (init, (again, (entry, (counts, (sizes, (known, (fit, (apart, (shapes, (ends, (frames, (code, (stack, u)))))))))))))))) =
      let own_all = all_from_none (function_faults of_function.Names) HasNames p names_kept own in
      let entry_all = all_from_none (function_faults of_function.Entry) HasEntryShape p entry_kept entry in
      let counts_all = all_from_none (function_faults of_function.Counts) HasCounts p counts_kept counts in
      let sizes_all = all_from_none (in_body of_command.BlockSize) (λ f. All IsBlockSize (sites f.body)) p (λ f. sizes_kept p f.name f.body) sizes in
      let known_all = all_from_none (in_body of_command.Callee) (λ f. All (IsKnown p) (call_sites f.body)) p (λ f. callees_kept p f.name f.body) known in
      let fit_all = all_from_none (in_body of_command.Arity) (λ f. All (AllFit p) (call_sites f.body)) p (λ f. arities_kept p f.name f.body) fit in
      let apart_all = all_from_none (in_body of_command.Targets) (λ f. All HasTargets (call_sites f.body)) p (λ f. targets_kept p f.name f.body) apart in
      let shapes_all = all_from_none (in_body of_command.Access) (λ f. All IsGoodAccess (access_sites f.body)) p (λ f. shapes_kept p f.name f.body) shapes in
      record {
        few_functions = over MOST_FUNCTIONS (length p) (where_none (nat_lt MOST_FUNCTIONS (length p)) (TooManyFunctions (length p)) count);
        distinct_functions = distinct_kept (function_names p) (map_none (λ x. DuplicateFunction x) (repeated (function_names p)) names);
        has_init = contains_among (function_names p) (codes "init") (not_false (is_among (function_names p) (codes "init")) (where_none (not (is_among (function_names p) (codes "init"))) NoInit init));
        has_loop = contains_among (function_names p) (codes "loop") (not_false (is_among (function_names p) (codes "loop")) (where_none (not (is_among (function_names p) (codes "loop"))) NoLoop again));
        functions = λ k d lt. record {
          distinct_params = (own_all k d lt).0;
          distinct_results = (own_all k d lt).1;
          entry = entry_all k d lt;
          few_params = (counts_all k d lt).0;
          few_results = (counts_all k d lt).1;
          block_sizes = sizes_all k d lt;
          good_calls = λ j e m. record { known = known_all k d lt j e m; fits = fit_all k d lt j e m; distinct = apart_all k d lt j e m };
          good_accesses = shapes_all k d lt;
          no_recursion = ends k d lt;
        };
        limits = record {
          code = over MOST_WORDS (code_need p) (where_none (nat_lt MOST_WORDS (code_need p)) (CodeNeed (code_need p)) code);
          frames = all_from_none (function_faults of_function.FrameNeed) HasFrame p frame_kept frames;
        };
        stack = stack;
      }

  pub kept_rules : KeepsRules p → AllByRecursion (IsKept p) questions
  kept_rules r =
      let each = r.functions in (
        none_where (nat_lt MOST_FUNCTIONS (length p)) (TooManyFunctions (length p)) (within MOST_FUNCTIONS (length p) r.few_functions),
        (
          none_map (λ x. DuplicateFunction x) (repeated (function_names p)) (kept_distinct (function_names p) r.distinct_functions),
          (
            none_from_all (function_faults of_function.Names) (KeepsFunctionRules p) p (λ f h. kept_names f h.distinct_params h.distinct_results) each,
            (
              none_where (not (is_among (function_names p) (codes "init"))) NoInit (false_not (is_among (function_names p) (codes "init")) (among_contains (function_names p) (codes "init") r.has_init)),
              (
                none_where (not (is_among (function_names p) (codes "loop"))) NoLoop (false_not (is_among (function_names p) (codes "loop")) (among_contains (function_names p) (codes "loop") r.has_loop)),
                (
                  none_from_all (function_faults of_function.Entry) (KeepsFunctionRules p) p (λ f h. kept_entry f h.entry) each,
                  (
                    none_from_all (function_faults of_function.Counts) (KeepsFunctionRules p) p (λ f h. kept_counts f h.few_params h.few_results) each,
                    (
                      none_from_all (in_body of_command.BlockSize) (KeepsFunctionRules p) p (λ f h. kept_sizes p f.name f.body h.block_sizes) each,
                      (
                        none_from_all (in_body of_command.Callee) (KeepsFunctionRules p) p (λ f h. kept_callees p f.name f.body (λ j e m. (h.good_calls j e m).known)) each,
                        (
                          none_from_all (in_body of_command.Arity) (KeepsFunctionRules p) p (λ f h. kept_arities p f.name f.body (λ j e m. (h.good_calls j e m).fits)) each,
                          (
                            none_from_all (in_body of_command.Targets) (KeepsFunctionRules p) p (λ f h. kept_targets p f.name f.body (λ j e m. (h.good_calls j e m).distinct)) each,
                            (
                              none_from_all (in_body of_command.Access) (KeepsFunctionRules p) p (λ f h. kept_shapes p f.name f.body h.good_accesses) each,
                              (
                                (λ k d lt. (each k d lt).no_recursion),
                                (
                                  none_from_all (function_faults of_function.FrameNeed) HasFrame p kept_frame r.limits.frames,
                                  (
                                    none_where (nat_lt MOST_WORDS (code_need p)) (CodeNeed (code_need p)) (within MOST_WORDS (code_need p) r.limits.code),
                                    (r.stack, tt),
                                  ),
                                ),
                              ),
                            ),
                          ),
                        ),
                      ),
                    ),
                  ),
                ),
              ),
            ),
          ),
        ),
      )
