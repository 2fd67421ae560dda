-- What stands for the symbols that are still to come, by their first tokens.
use Rattle.std.proofs.Common.{◌≡◌, ℕ, Bool, true, false, ◌&&◌, List, [], ◌∷◌, ◌++◌, Option, Some, None, refl, sym, ap, subst, ◌∙◌, append_assoc, inl, inr, ◌⊎◌, eqb}
use Rattle.std.proofs.lemmas.Bool.{and_parts}
use Rattle.lb_syntax.specs.Names.{Text}
use Rattle.lb_syntax.specs.declared.tree.Op.{Op}
use Rattle.lb_syntax.specs.declared.tree.Action.{Action}
use Rattle.lb_syntax.specs.Tree.{Term, Number, Variable, Loaded, Operation, Procedure}
use Rattle.lb_syntax.specs.Tree.{Command, Skips, Sets, Unsets, Stores, Allocates, Chooses, Repeats, Calls, Interacts, Ends, Then}
use Rattle.lb_spelling.specs.declared.symbol.Symbol.{Symbol}
use Rattle.lb_spelling.specs.declared.symbol.Symbol.TheVariants as symbols
use Rattle.lb_spelling.specs.Tokens.{Token, Numeral, Named, Fn, If, Else, While, Skip, Unset, StackAlloc, As, Load, Store, Device, OpenParen, CloseParen, OpenBrace, CloseBrace, Comma, Semicolon, Becomes, Arrow, Sign, Stands, Mode, Outside, Slash, Comment, gap, is_blank}
use Rattle.lb_spelling.specs.Grammar.{Standing, ◌then◌, TermAt, MoreAt, NameAt, NamesAt, ArgumentsAt, CommandsAt, BlockAt, ElseAt, ResultsAt, FunctionsAt}
use Rattle.lb_spelling.specs.InternalMachine.{Stack, next, next_functions, next_names, next_more_names, next_results, next_block, next_commands, next_after_if, next_after_name, next_more_targets, next_source, next_after_source, next_callee, next_arguments, next_more_arguments, next_expr, next_sign, next_name, next_number, next_open_paren, next_close_paren, next_comma, next_semicolon, next_as}
use Rattle.lb_spelling.proofs.Words.{chosen}

-- ---- what stands for a symbol

pub data Callee : Type 0 where
  Function : (f : Text) → Callee
  Access : (k : Action) → Callee

abbrev pub callee_token : Callee → Token
callee_token (Function f) = Named f
callee_token (Access k) = Device k

-- the call or the access with these targets and arguments
abbrev pub applied_to : List Text → Callee → List Term → Command
applied_to xs (Function f) es = Calls xs f es
applied_to xs (Access k) es = Interacts xs k es

-- arguments in brackets, and a semicolon
abbrev pub AppliedAt : List Term → Standing
AppliedAt es = Stands OpenParen then ArgumentsAt es then Stands CloseParen then Stands Semicolon

-- behind `x =`
pub data SourceAt (s rest : List ℕ) : Type 0 where
  value : (e : Term) → (TermAt e then Stands Semicolon) s rest → SourceAt s rest
  result : (c : Callee) (es : List Term) → (Stands (callee_token c) then AppliedAt es) s rest → SourceAt s rest

-- behind `x = y`
pub data AfterSourceAt (s rest : List ℕ) : Type 0 where
  ends : Stands Semicolon s rest → AfterSourceAt s rest
  applied : (es : List Term) → AppliedAt es s rest → AfterSourceAt s rest

-- behind some targets of a call
pub data TargetsFrom (s rest : List ℕ) : Type 0 where
  targets : (xs : List Text) (c : Callee) (es : List Term) → (MoreAt NameAt xs then Stands Becomes then Stands (callee_token c) then AppliedAt es) s rest → TargetsFrom s rest

-- behind the first name of a command
pub data AfterNameAt (s rest : List ℕ) : Type 0 where
  set : (Stands Becomes then SourceAt) s rest → AfterNameAt s rest
  more : (x : Text) → (Stands Comma then NameAt x then TargetsFrom) s rest → AfterNameAt s rest
  applied : (es : List Term) → AppliedAt es s rest → AfterNameAt s rest

abbrev pub Means : Symbol → Standing
Means symbols.Functions s rest = (fs : List Procedure) × FunctionsAt fs s rest
Means symbols.Names s rest = (xs : List Text) × (NamesAt xs then Stands CloseParen) s rest
Means symbols.MoreNames s rest = (xs : List Text) × (MoreAt NameAt xs then Stands CloseParen) s rest
Means symbols.Results s rest = (xs : List Text) × (b : Command) × (ResultsAt xs then BlockAt b) s rest
Means symbols.Block s rest = (b : Command) × BlockAt b s rest
Means symbols.Commands s rest = (b : Command) × CommandsAt b s rest
Means symbols.AfterIf s rest = (d : Command) × (b : Command) × (ElseAt d then CommandsAt b) s rest
Means symbols.AfterName s rest = AfterNameAt s rest
Means symbols.MoreTargets s rest = TargetsFrom s rest
Means symbols.Source s rest = SourceAt s rest
Means symbols.AfterSource s rest = AfterSourceAt s rest
Means symbols.Callee s rest = (c : Callee) × (es : List Term) × (Stands (callee_token c) then AppliedAt es) s rest
Means symbols.Arguments s rest = (es : List Term) × (ArgumentsAt es then Stands CloseParen) s rest
Means symbols.MoreArguments s rest = (es : List Term) × (MoreAt TermAt es then Stands CloseParen) s rest
Means symbols.Expr s rest = (e : Term) × TermAt e s rest
Means symbols.Sign s rest = (op : Op) × Stands (Sign op) s rest
Means symbols.Name s rest = (x : Text) × Stands (Named x) s rest
Means symbols.Number s rest = (n : ℕ) × Stands (Numeral n) s rest
Means symbols.OpenParen s rest = Stands OpenParen s rest
Means symbols.CloseParen s rest = Stands CloseParen s rest
Means symbols.Comma s rest = Stands Comma s rest
Means symbols.Semicolon s rest = Stands Semicolon s rest
Means symbols.As s rest = Stands As s rest

-- what stands for all that is to come, up to the end of the text
abbrev pub Spells : Stack → List ℕ → Type 0
Spells [] s = gap true Outside s ≡ true
Spells (x ∷ k) s = (mid : List ℕ) × Means x s mid × Spells k mid

-- ---- a production, split at its first token

pub record First (x : Symbol) (k : Stack) (s : List ℕ) : Type 0 where
  pub token : Token
  pub mid : List ℕ
  pub coming : Stack
  pub stands : Stands token s mid
  pub allowed : next x token ≡ Some coming
  pub others : Spells (coming ++ k) mid

starts : (x : Symbol) (k : Stack) (s mid : List ℕ) (t : Token) (ys : Stack) → Stands t s mid → next x t ≡ Some ys → Spells (ys ++ k) mid → First x k s
starts x k s mid t ys p a h = record { token = t; mid = mid; coming = ys; stands = p; allowed = a; others = h }

first_expr : (e : Term) (k : Stack) (s mid : List ℕ) → TermAt e s mid → Spells k mid → First symbols.Expr k s
first_expr (Number n) k s mid p h = starts symbols.Expr k s mid (Numeral n) [] p refl h
first_expr (Variable x) k s mid p h = starts symbols.Expr k s mid (Named x) [] p refl h
first_expr (Loaded w a) k s mid (s1, p1, (s2, p2, (s3, p3, p4))) h = starts symbols.Expr k s s1 (Load w) _ p1 refl (s2, p2, (s3, (a, p3), (mid, p4, h)))
first_expr (Operation op l r) k s mid (s1, p1, (s2, p2, (s3, p3, (s4, p4, p5)))) h = starts symbols.Expr k s s1 OpenParen _ p1 refl (s2, (l, p2), (s3, (op, p3), (s4, (r, p4), (mid, p5, h))))

first_arguments : (es : List Term) (k : Stack) (s mid : List ℕ) → (ArgumentsAt es then Stands CloseParen) s mid → Spells k mid → First symbols.Arguments k s
first_arguments [] k s mid (s0, e, p) h = starts symbols.Arguments k s mid CloseParen [] (rw e p) refl h
first_arguments (Number n ∷ es) k s mid (s0, (s1, p, q), c) h = starts symbols.Arguments k s s1 (Numeral n) _ p refl (mid, (es, (s0, q, c)), h)
first_arguments (Variable x ∷ es) k s mid (s0, (s1, p, q), c) h = starts symbols.Arguments k s s1 (Named x) _ p refl (mid, (es, (s0, q, c)), h)
first_arguments (Loaded w a ∷ es) k s mid (s0, (s9, (s1, p1, (s2, p2, (s3, p3, p4))), q), c) h =
    starts symbols.Arguments k s s1 (Load w) _ p1 refl (s2, p2, (s3, (a, p3), (s9, p4, (mid, (es, (s0, q, c)), h))))
first_arguments (Operation op l r ∷ es) k s mid (s0, (s9, (s1, p1, (s2, p2, (s3, p3, (s4, p4, p5)))), q), c) h =
    starts symbols.Arguments k s s1 OpenParen _ p1 refl (s2, (l, p2), (s3, (op, p3), (s4, (r, p4), (s9, p5, (mid, (es, (s0, q, c)), h)))))

first_more_arguments : (es : List Term) (k : Stack) (s mid : List ℕ) → (MoreAt TermAt es then Stands CloseParen) s mid → Spells k mid → First symbols.MoreArguments k s
first_more_arguments [] k s mid (s0, e, p) h = starts symbols.MoreArguments k s mid CloseParen [] (rw e p) refl h
first_more_arguments (e ∷ es) k s mid (s0, (s1, p, (s2, q, r)), c) h = starts symbols.MoreArguments k s s1 Comma _ p refl (s2, (e, q), (mid, (es, (s0, r, c)), h))

first_names : (xs : List Text) (k : Stack) (s mid : List ℕ) → (NamesAt xs then Stands CloseParen) s mid → Spells k mid → First symbols.Names k s
first_names [] k s mid (s0, e, p) h = starts symbols.Names k s mid CloseParen [] (rw e p) refl h
first_names (x ∷ xs) k s mid (s0, (s1, p, q), c) h = starts symbols.Names k s s1 (Named x) _ p refl (mid, (xs, (s0, q, c)), h)

first_more_names : (xs : List Text) (k : Stack) (s mid : List ℕ) → (MoreAt NameAt xs then Stands CloseParen) s mid → Spells k mid → First symbols.MoreNames k s
first_more_names [] k s mid (s0, e, p) h = starts symbols.MoreNames k s mid CloseParen [] (rw e p) refl h
first_more_names (x ∷ xs) k s mid (s0, (s1, p, (s2, q, r)), c) h = starts symbols.MoreNames k s s1 Comma _ p refl (s2, (x, q), (mid, (xs, (s0, r, c)), h))

first_results : (xs : List Text) (b : Command) (k : Stack) (s mid : List ℕ) → (ResultsAt xs then BlockAt b) s mid → Spells k mid → First symbols.Results k s
first_results [] b k s mid (s0, e, (s1, p, q)) h = starts symbols.Results k s s1 OpenBrace _ (rw e p) refl (mid, (b, q), h)
first_results (x ∷ xs) b k s mid (s0, (s1, p1, (s2, p2, (s3, (s4, p3, p4), p5))), q) h =
    starts symbols.Results k s s1 Arrow _ p1 refl (s2, p2, (s4, (x, p3), (s0, (xs, (s3, p4, p5)), (mid, (b, q), h))))

first_callee : (c : Callee) (es : List Term) (k : Stack) (s mid : List ℕ) → (Stands (callee_token c) then AppliedAt es) s mid → Spells k mid → First symbols.Callee k s
first_callee (Function f) es k s mid (s1, p1, (s2, p2, (s3, p3, (s4, p4, p5)))) h = starts symbols.Callee k s s1 (Named f) _ p1 refl (s2, p2, (s4, (es, (s3, p3, p4)), (mid, p5, h)))
first_callee (Access a) es k s mid (s1, p1, (s2, p2, (s3, p3, (s4, p4, p5)))) h = starts symbols.Callee k s s1 (Device a) _ p1 refl (s2, p2, (s4, (es, (s3, p3, p4)), (mid, p5, h)))

first_source : (k : Stack) (s mid : List ℕ) → SourceAt s mid → Spells k mid → First symbols.Source k s
first_source k s mid (value (Number n) (s0, p, q)) h = starts symbols.Source k s s0 (Numeral n) _ p refl (mid, q, h)
first_source k s mid (value (Variable x) (s0, p, q)) h = starts symbols.Source k s s0 (Named x) _ p refl (mid, ends q, h)
first_source k s mid (value (Loaded w a) (s0, (s1, p1, (s2, p2, (s3, p3, p4))), q)) h =
    starts symbols.Source k s s1 (Load w) _ p1 refl (s2, p2, (s3, (a, p3), (s0, p4, (mid, q, h))))
first_source k s mid (value (Operation op l r) (s0, (s1, p1, (s2, p2, (s3, p3, (s4, p4, p5)))), q)) h =
    starts symbols.Source k s s1 OpenParen _ p1 refl (s2, (l, p2), (s3, (op, p3), (s4, (r, p4), (s0, p5, (mid, q, h)))))
first_source k s mid (result (Function f) es (s1, p1, p2)) h = starts symbols.Source k s s1 (Named f) _ p1 refl (mid, AfterSourceAt.applied es p2, h)
first_source k s mid (result (Access a) es (s1, p1, (s2, p2, (s3, p3, (s4, p4, p5))))) h = starts symbols.Source k s s1 (Device a) _ p1 refl (s2, p2, (s4, (es, (s3, p3, p4)), (mid, p5, h)))

first_after_source : (k : Stack) (s mid : List ℕ) → AfterSourceAt s mid → Spells k mid → First symbols.AfterSource k s
first_after_source k s mid (ends p) h = starts symbols.AfterSource k s mid Semicolon [] p refl h
first_after_source k s mid (AfterSourceAt.applied es (s1, p1, (s2, p2, (s3, p3, p4)))) h = starts symbols.AfterSource k s s1 OpenParen _ p1 refl (s3, (es, (s2, p2, p3)), (mid, p4, h))

first_more_targets : (k : Stack) (s mid : List ℕ) → TargetsFrom s mid → Spells k mid → First symbols.MoreTargets k s
first_more_targets k s mid (targets [] c es (s0, e, (s1, p, q))) h = starts symbols.MoreTargets k s s1 Becomes _ (rw e p) refl (mid, (c, es, q), h)
first_more_targets k s mid (targets (x ∷ xs) c es (s0, (s1, p1, (s2, p2, p3)), q)) h = starts symbols.MoreTargets k s s1 Comma _ p1 refl (s2, (x, p2), (mid, targets xs c es (s0, p3, q), h))

first_after_name : (k : Stack) (s mid : List ℕ) → AfterNameAt s mid → Spells k mid → First symbols.AfterName k s
first_after_name k s mid (set (s1, p, q)) h = starts symbols.AfterName k s s1 Becomes _ p refl (mid, q, h)
first_after_name k s mid (more x (s1, p1, (s2, p2, p3))) h = starts symbols.AfterName k s s1 Comma _ p1 refl (s2, (x, p2), (mid, p3, h))
first_after_name k s mid (AfterNameAt.applied es (s1, p1, (s2, p2, (s3, p3, p4)))) h = starts symbols.AfterName k s s1 OpenParen _ p1 refl (s3, (es, (s2, p2, p3)), (mid, p4, h))

-- a command that begins with a name, which is its only target, its first, or the function called
first_named : (xs : List Text) (c : Callee) (es : List Term) (b : Command) (x : Text) (k : Stack) (s s0 s1 s2 s3 mid : List ℕ) → Stands (Named x) s s1 → MoreAt NameAt xs s1 s2 → Stands Becomes s2 s3 → (Stands (callee_token c) then AppliedAt es) s3 s0 → CommandsAt b s0 mid → Spells k mid → First symbols.Commands k s
first_named [] c es b x k s s0 s1 s2 s3 mid p e q r t h = starts symbols.Commands k s s1 (Named x) _ p refl (s0, set (s3, rw e q, result c es r), (mid, (b, t), h))
first_named (y ∷ ys) c es b x k s s0 s1 s2 s3 mid p (s4, p1, (s5, p2, p3)) q r t h = starts symbols.Commands k s s1 (Named x) _ p refl (s0, more y (s4, p1, (s5, p2, targets ys c es (s2, p3, (s3, q, r)))), (mid, (b, t), h))

first_commands : (b : Command) (k : Stack) (s mid : List ℕ) → CommandsAt b s mid → Spells k mid → First symbols.Commands k s
first_commands Ends k s mid p h = starts symbols.Commands k s mid CloseBrace [] p refl h
first_commands (Then Skips b) k s mid (s0, (s1, p1, p2), q) h = starts symbols.Commands k s s1 Skip _ p1 refl (s0, p2, (mid, (b, q), h))
first_commands (Then (Sets x e) b) k s mid (s0, (s1, p1, (s2, p2, p3)), q) h = starts symbols.Commands k s s1 (Named x) _ p1 refl (s0, set (s2, p2, value e p3), (mid, (b, q), h))
first_commands (Then (Unsets x) b) k s mid (s0, (s1, p1, (s2, p2, p3)), q) h = starts symbols.Commands k s s1 Unset _ p1 refl (s2, (x, p2), (s0, p3, (mid, (b, q), h)))
first_commands (Then (Stores w a e) b) k s mid (s0, (s1, p1, (s2, p2, (s3, p3, (s4, p4, (s5, p5, (s6, p6, p7)))))), q) h =
    starts symbols.Commands k s s1 (Store w) _ p1 refl (s2, p2, (s3, (a, p3), (s4, p4, (s5, (e, p5), (s6, p6, (s0, p7, (mid, (b, q), h)))))))
first_commands (Then (Allocates n x d) b) k s mid (s0, (s1, p1, (s2, p2, (s3, p3, (s4, p4, p5)))), q) h =
    starts symbols.Commands k s s1 StackAlloc _ p1 refl (s2, (n, p2), (s3, p3, (s4, (x, p4), (s0, (d, p5), (mid, (b, q), h)))))
first_commands (Then (Chooses e c d) b) k s mid (s0, (s1, p1, (s2, p2, (s3, p3, p4))), q) h =
    starts symbols.Commands k s s1 If _ p1 refl (s2, (e, p2), (s3, (c, p3), (mid, (d, b, (s0, p4, q)), h)))
first_commands (Then (Repeats e c) b) k s mid (s0, (s1, p1, (s2, p2, p3)), q) h =
    starts symbols.Commands k s s1 While _ p1 refl (s2, (e, p2), (s0, (c, p3), (mid, (b, q), h)))
first_commands (Then (Calls [] f es) b) k s mid (s0, (s1, e, (s2, p1, p2)), q) h =
    starts symbols.Commands k s s2 (Named f) _ (rw e p1) refl (s0, AfterNameAt.applied es p2, (mid, (b, q), h))
first_commands (Then (Calls (x ∷ xs) f es) b) k s mid (s0, (s3, (s2, (s1, p1, p2), p3), p4), q) h = first_named xs (Function f) es b x k s s0 s1 s2 s3 mid p1 p2 p3 p4 q h
first_commands (Then (Interacts [] a es) b) k s mid (s0, (s1, e, (s2, p1, (s3, p2, (s4, p3, (s5, p4, p5))))), q) h =
    starts symbols.Commands k s s2 (Device a) _ (rw e p1) refl (s3, p2, (s5, (es, (s4, p3, p4)), (s0, p5, (mid, (b, q), h))))
first_commands (Then (Interacts (x ∷ xs) a es) b) k s mid (s0, (s3, (s2, (s1, p1, p2), p3), p4), q) h = first_named xs (Access a) es b x k s s0 s1 s2 s3 mid p1 p2 p3 p4 q h
first_commands (Then Ends b) k s mid (s0, p, q) h = absurd p
first_commands (Then (Then c d) b) k s mid (s0, p, q) h = absurd p
first_commands Skips k s mid p h = absurd p
first_commands (Sets x e) k s mid p h = absurd p
first_commands (Unsets x) k s mid p h = absurd p
first_commands (Stores w a e) k s mid p h = absurd p
first_commands (Allocates n x d) k s mid p h = absurd p
first_commands (Chooses e c d) k s mid p h = absurd p
first_commands (Repeats e c) k s mid p h = absurd p
first_commands (Calls xs f es) k s mid p h = absurd p
first_commands (Interacts xs a es) k s mid p h = absurd p

-- no commands begin with `else`
pub after_if_next : (t : Token) (ys : Stack) → next_commands t ≡ Some ys → next_after_if t ≡ Some ys
after_if_next Else ys e = absurd cc
after_if_next t ys e = e

first_after_if : (d b : Command) (k : Stack) (s mid : List ℕ) → (ElseAt d then CommandsAt b) s mid → Spells k mid → First symbols.AfterIf k s
first_after_if d b k s mid (s0, inl (s1, p1, p2), q) h = starts symbols.AfterIf k s s1 Else _ p1 refl (s0, (d, p2), (mid, (b, q), h))
first_after_if d b k s mid (s0, inr (is, e), q) h =
    let f = first_commands b k s mid (rw e q) h in
    starts symbols.AfterIf k s f.mid f.token f.coming f.stands (after_if_next f.token f.coming f.allowed) f.others

first_functions : (fs : List Procedure) (k : Stack) (s mid : List ℕ) → FunctionsAt fs s mid → Spells k mid → First symbols.Functions k s ⊎ Spells k s
first_functions [] k s mid e h = inr (rw e h)
first_functions (f ∷ fs) k s mid (s0, (s1, p1, (s2, p2, (s3, p3, (s4, p4, (s5, p5, (s6, p6, p7)))))), q) h =
    inl (starts symbols.Functions k s s1 Fn _ p1 refl (s2, (f.name, p2), (s3, p3, (s5, (f.params, (s4, p4, p5)), (s0, (f.results, f.body, (s6, p6, p7)), (mid, (fs, q), h))))))

-- its first token stands there, or nothing of it does
pub first : (x : Symbol) (k : Stack) (s : List ℕ) → Spells (x ∷ k) s → First x k s ⊎ ((x ≡ symbols.Functions) × Spells k s)
first symbols.Functions k s (mid, (fs, p), h) = elim (first_functions fs k s mid p h) [ inl f ↦ inl f | inr g ↦ inr (refl, g) ]
first symbols.Names k s (mid, (xs, p), h) = inl (first_names xs k s mid p h)
first symbols.MoreNames k s (mid, (xs, p), h) = inl (first_more_names xs k s mid p h)
first symbols.Results k s (mid, (xs, b, p), h) = inl (first_results xs b k s mid p h)
first symbols.Block k s (mid, (b, (s1, p, q)), h) = inl (starts symbols.Block k s s1 OpenBrace _ p refl (mid, (b, q), h))
first symbols.Commands k s (mid, (b, p), h) = inl (first_commands b k s mid p h)
first symbols.AfterIf k s (mid, (d, b, p), h) = inl (first_after_if d b k s mid p h)
first symbols.AfterName k s (mid, p, h) = inl (first_after_name k s mid p h)
first symbols.MoreTargets k s (mid, p, h) = inl (first_more_targets k s mid p h)
first symbols.Source k s (mid, p, h) = inl (first_source k s mid p h)
first symbols.AfterSource k s (mid, p, h) = inl (first_after_source k s mid p h)
first symbols.Callee k s (mid, (c, es, p), h) = inl (first_callee c es k s mid p h)
first symbols.Arguments k s (mid, (es, p), h) = inl (first_arguments es k s mid p h)
first symbols.MoreArguments k s (mid, (es, p), h) = inl (first_more_arguments es k s mid p h)
first symbols.Expr k s (mid, (e, p), h) = inl (first_expr e k s mid p h)
first symbols.Sign k s (mid, (op, p), h) = inl (starts symbols.Sign k s mid (Sign op) [] p refl h)
first symbols.Name k s (mid, (x, p), h) = inl (starts symbols.Name k s mid (Named x) [] p refl h)
first symbols.Number k s (mid, (n, p), h) = inl (starts symbols.Number k s mid (Numeral n) [] p refl h)
first symbols.OpenParen k s (mid, p, h) = inl (starts symbols.OpenParen k s mid OpenParen [] p refl h)
first symbols.CloseParen k s (mid, p, h) = inl (starts symbols.CloseParen k s mid CloseParen [] p refl h)
first symbols.Comma k s (mid, p, h) = inl (starts symbols.Comma k s mid Comma [] p refl h)
first symbols.Semicolon k s (mid, p, h) = inl (starts symbols.Semicolon k s mid Semicolon [] p refl h)
first symbols.As k s (mid, p, h) = inl (starts symbols.As k s mid As [] p refl h)

-- ---- a production, put together

-- what is to come once a token was read
abbrev pub Later : Option Stack → Stack → List ℕ → Type 0
Later None k mid = ⊥
Later (Some ys) k mid = Spells (ys ++ k) mid

whole_expr : (t : Token) (k : Stack) (s mid : List ℕ) → Stands t s mid → Later (next_expr t) k mid → Spells (symbols.Expr ∷ k) s
whole_expr (Numeral n) k s mid p h = (mid, (Number n, p), h)
whole_expr (Named x) k s mid p h = (mid, (Variable x, p), h)
whole_expr (Load w) k s mid p (s1, q1, (s2, (a, q2), (s3, q3, h))) = (s3, (Loaded w a, (mid, p, (s1, q1, (s2, q2, q3)))), h)
whole_expr OpenParen k s mid p (s1, (l, q1), (s2, (op, q2), (s3, (r, q3), (s4, q4, h)))) = (s4, (Operation op l r, (mid, p, (s1, q1, (s2, q2, (s3, q3, q4))))), h)
whole_expr _ k s mid p h = absurd h

whole_arguments : (t : Token) (k : Stack) (s mid : List ℕ) → Stands t s mid → Later (next_arguments t) k mid → Spells (symbols.Arguments ∷ k) s
whole_arguments CloseParen k s mid p h = (mid, ([], (s, refl, p)), h)
whole_arguments (Numeral n) k s mid p (r, (es, (s0, q, c)), h) = (r, (Number n ∷ es, (s0, (mid, p, q), c)), h)
whole_arguments (Named x) k s mid p (r, (es, (s0, q, c)), h) = (r, (Variable x ∷ es, (s0, (mid, p, q), c)), h)
whole_arguments (Load w) k s mid p (s1, q1, (s2, (a, q2), (s3, q3, (r, (es, (s0, q, c)), h)))) = (r, (Loaded w a ∷ es, (s0, (s3, (mid, p, (s1, q1, (s2, q2, q3))), q), c)), h)
whole_arguments OpenParen k s mid p (s1, (l, q1), (s2, (op, q2), (s3, (m, q3), (s4, q4, (r, (es, (s0, q, c)), h))))) =
    (r, (Operation op l m ∷ es, (s0, (s4, (mid, p, (s1, q1, (s2, q2, (s3, q3, q4)))), q), c)), h)
whole_arguments _ k s mid p h = absurd h

whole_more_arguments : (t : Token) (k : Stack) (s mid : List ℕ) → Stands t s mid → Later (next_more_arguments t) k mid → Spells (symbols.MoreArguments ∷ k) s
whole_more_arguments CloseParen k s mid p h = (mid, ([], (s, refl, p)), h)
whole_more_arguments Comma k s mid p (s2, (e, q), (r, (es, (s0, q2, c)), h)) = (r, (e ∷ es, (s0, (mid, p, (s2, q, q2)), c)), h)
whole_more_arguments _ k s mid p h = absurd h

whole_names : (t : Token) (k : Stack) (s mid : List ℕ) → Stands t s mid → Later (next_names t) k mid → Spells (symbols.Names ∷ k) s
whole_names CloseParen k s mid p h = (mid, ([], (s, refl, p)), h)
whole_names (Named x) k s mid p (r, (xs, (s0, q, c)), h) = (r, (x ∷ xs, (s0, (mid, p, q), c)), h)
whole_names _ k s mid p h = absurd h

whole_more_names : (t : Token) (k : Stack) (s mid : List ℕ) → Stands t s mid → Later (next_more_names t) k mid → Spells (symbols.MoreNames ∷ k) s
whole_more_names CloseParen k s mid p h = (mid, ([], (s, refl, p)), h)
whole_more_names Comma k s mid p (s2, (x, q), (r, (xs, (s0, q2, c)), h)) = (r, (x ∷ xs, (s0, (mid, p, (s2, q, q2)), c)), h)
whole_more_names _ k s mid p h = absurd h

whole_results : (t : Token) (k : Stack) (s mid : List ℕ) → Stands t s mid → Later (next_results t) k mid → Spells (symbols.Results ∷ k) s
whole_results OpenBrace k s mid p (r, (b, q), h) = (r, ([], b, (s, refl, (mid, p, q))), h)
whole_results Arrow k s mid p (s2, q1, (s4, (x, q2), (s0, (xs, (s3, q3, q4)), (r, (b, q5), h)))) = (r, (x ∷ xs, b, (s0, (mid, p, (s2, q1, (s3, (s4, q2, q3), q4))), q5)), h)
whole_results _ k s mid p h = absurd h

whole_block : (t : Token) (k : Stack) (s mid : List ℕ) → Stands t s mid → Later (next_block t) k mid → Spells (symbols.Block ∷ k) s
whole_block OpenBrace k s mid p (r, (b, q), h) = (r, (b, (mid, p, q)), h)
whole_block _ k s mid p h = absurd h

whole_callee : (t : Token) (k : Stack) (s mid : List ℕ) → Stands t s mid → Later (next_callee t) k mid → Spells (symbols.Callee ∷ k) s
whole_callee (Named f) k s mid p (s2, q1, (s4, (es, (s3, q2, q3)), (r, q4, h))) = (r, (Function f, es, (mid, p, (s2, q1, (s3, q2, (s4, q3, q4))))), h)
whole_callee (Device a) k s mid p (s2, q1, (s4, (es, (s3, q2, q3)), (r, q4, h))) = (r, (Access a, es, (mid, p, (s2, q1, (s3, q2, (s4, q3, q4))))), h)
whole_callee _ k s mid p h = absurd h

behind_source : (x : Text) (k : Stack) (s mid r : List ℕ) → Stands (Named x) s mid → AfterSourceAt mid r → SourceAt s r
behind_source x k s mid r p (ends q) = value (Variable x) (mid, p, q)
behind_source x k s mid r p (AfterSourceAt.applied es q) = result (Function x) es (mid, p, q)

whole_source : (t : Token) (k : Stack) (s mid : List ℕ) → Stands t s mid → Later (next_source t) k mid → Spells (symbols.Source ∷ k) s
whole_source (Named x) k s mid p (r, q, h) = (r, behind_source x k s mid r p q, h)
whole_source (Device a) k s mid p (s2, q1, (s4, (es, (s3, q2, q3)), (r, q4, h))) = (r, result (Access a) es (mid, p, (s2, q1, (s3, q2, (s4, q3, q4)))), h)
whole_source (Numeral n) k s mid p (r, q, h) = (r, value (Number n) (mid, p, q), h)
whole_source (Load w) k s mid p (s1, q1, (s2, (a, q2), (s3, q3, (r, q, h)))) = (r, value (Loaded w a) (s3, (mid, p, (s1, q1, (s2, q2, q3))), q), h)
whole_source OpenParen k s mid p (s1, (l, q1), (s2, (op, q2), (s3, (m, q3), (s4, q4, (r, q, h))))) = (r, value (Operation op l m) (s4, (mid, p, (s1, q1, (s2, q2, (s3, q3, q4)))), q), h)
whole_source _ k s mid p h = absurd h

whole_after_source : (t : Token) (k : Stack) (s mid : List ℕ) → Stands t s mid → Later (next_after_source t) k mid → Spells (symbols.AfterSource ∷ k) s
whole_after_source Semicolon k s mid p h = (mid, ends p, h)
whole_after_source OpenParen k s mid p (s3, (es, (s2, q1, q2)), (r, q3, h)) = (r, AfterSourceAt.applied es (mid, p, (s2, q1, (s3, q2, q3))), h)
whole_after_source _ k s mid p h = absurd h

another_target : (x : Text) (s mid s2 r : List ℕ) → Stands Comma s mid → NameAt x mid s2 → TargetsFrom s2 r → TargetsFrom s r
another_target x s mid s2 r p q (targets xs c es (s0, q2, q3)) = targets (x ∷ xs) c es (s0, (mid, p, (s2, q, q2)), q3)

whole_more_targets : (t : Token) (k : Stack) (s mid : List ℕ) → Stands t s mid → Later (next_more_targets t) k mid → Spells (symbols.MoreTargets ∷ k) s
whole_more_targets Becomes k s mid p (r, (c, es, q), h) = (r, targets [] c es (s, refl, (mid, p, q)), h)
whole_more_targets Comma k s mid p (s2, (x, q), (r, q2, h)) = (r, another_target x s mid s2 r p q q2, h)
whole_more_targets _ k s mid p h = absurd h

whole_after_name : (t : Token) (k : Stack) (s mid : List ℕ) → Stands t s mid → Later (next_after_name t) k mid → Spells (symbols.AfterName ∷ k) s
whole_after_name Becomes k s mid p (r, q, h) = (r, set (mid, p, q), h)
whole_after_name Comma k s mid p (s2, (x, q), (r, q2, h)) = (r, more x (mid, p, (s2, q, q2)), h)
whole_after_name OpenParen k s mid p (s3, (es, (s2, q1, q2)), (r, q3, h)) = (r, AfterNameAt.applied es (mid, p, (s2, q1, (s3, q2, q3))), h)
whole_after_name _ k s mid p h = absurd h

call_command : (xs : List Text) (c : Callee) (es : List Term) (b : Command) (x : Text) (s s1 s2 s3 s0 r : List ℕ) → Stands (Named x) s s1 → MoreAt NameAt xs s1 s2 → Stands Becomes s2 s3 → (Stands (callee_token c) then AppliedAt es) s3 s0 → CommandsAt b s0 r → CommandsAt (Then (applied_to (x ∷ xs) c es) b) s r
call_command xs (Function f) es b x s s1 s2 s3 s0 r p1 p2 p3 p4 q = (s0, (s3, (s2, (s1, p1, p2), p3), p4), q)
call_command xs (Access a) es b x s s1 s2 s3 s0 r p1 p2 p3 p4 q = (s0, (s3, (s2, (s1, p1, p2), p3), p4), q)

named_command : (x : Text) (b : Command) (s mid s0 r : List ℕ) → Stands (Named x) s mid → AfterNameAt mid s0 → CommandsAt b s0 r → (c : Command) × CommandsAt c s r
named_command x b s mid s0 r p (set (s1, q1, value e q2)) t = (Then (Sets x e) b, (s0, (mid, p, (s1, q1, q2)), t))
named_command x b s mid s0 r p (set (s1, q1, result c es q2)) t = (Then (applied_to (x ∷ []) c es) b, call_command [] c es b x s mid mid s1 s0 r p refl q1 q2 t)
named_command x b s mid s0 r p (more y (s1, q1, (s2, q2, targets ys c es (s3, q3, (s4, q4, q5))))) t = (Then (applied_to (x ∷ y ∷ ys) c es) b, call_command (y ∷ ys) c es b x s mid s3 s4 s0 r p (s1, q1, (s2, q2, q3)) q4 q5 t)
named_command x b s mid s0 r p (AfterNameAt.applied es q) t = (Then (Calls [] x es) b, (s0, (s, refl, (mid, p, q)), t))

whole_commands : (t : Token) (k : Stack) (s mid : List ℕ) → Stands t s mid → Later (next_commands t) k mid → Spells (symbols.Commands ∷ k) s
whole_commands CloseBrace k s mid p h = (mid, (Ends, p), h)
whole_commands Skip k s mid p (s0, q, (r, (b, t), h)) = (r, (Then Skips b, (s0, (mid, p, q), t)), h)
whole_commands Unset k s mid p (s2, (x, q), (s0, q2, (r, (b, t), h))) = (r, (Then (Unsets x) b, (s0, (mid, p, (s2, q, q2)), t)), h)
whole_commands (Store w) k s mid p (s2, q1, (s3, (a, q2), (s4, q3, (s5, (e, q4), (s6, q5, (s0, q6, (r, (b, t), h))))))) =
    (r, (Then (Stores w a e) b, (s0, (mid, p, (s2, q1, (s3, q2, (s4, q3, (s5, q4, (s6, q5, q6)))))), t)), h)
whole_commands StackAlloc k s mid p (s2, (n, q1), (s3, q2, (s4, (x, q3), (s0, (d, q4), (r, (b, t), h))))) =
    (r, (Then (Allocates n x d) b, (s0, (mid, p, (s2, q1, (s3, q2, (s4, q3, q4)))), t)), h)
whole_commands If k s mid p (s2, (e, q1), (s3, (c, q2), (r, (d, b, (s0, q3, t)), h))) = (r, (Then (Chooses e c d) b, (s0, (mid, p, (s2, q1, (s3, q2, q3))), t)), h)
whole_commands While k s mid p (s2, (e, q1), (s0, (c, q2), (r, (b, t), h))) = (r, (Then (Repeats e c) b, (s0, (mid, p, (s2, q1, q2)), t)), h)
whole_commands (Named x) k s mid p (s0, q, (r, (b, t), h)) = (r, named_command x b s mid s0 r p q t, h)
whole_commands (Device a) k s mid p (s3, q1, (s5, (es, (s4, q2, q3)), (s0, q4, (r, (b, t), h)))) =
    (r, (Then (Interacts [] a es) b, (s0, (s, refl, (mid, p, (s3, q1, (s4, q2, (s5, q3, q4))))), t)), h)
whole_commands _ k s mid p h = absurd h

no_else : (k : Stack) (s : List ℕ) → Spells (symbols.Commands ∷ k) s → Spells (symbols.AfterIf ∷ k) s
no_else k s (r, (b, q), h) = (r, (Ends, b, (s, inr (refl, refl), q)), h)

whole_after_if : (t : Token) (k : Stack) (s mid : List ℕ) → Stands t s mid → Later (next_after_if t) k mid → Spells (symbols.AfterIf ∷ k) s
whole_after_if Else k s mid p (s0, (d, q), (r, (b, t), h)) = (r, (d, b, (s0, inl (mid, p, q), t)), h)
whole_after_if t k s mid p h = no_else k s (whole_commands t k s mid p h)

whole_functions : (t : Token) (k : Stack) (s mid : List ℕ) → Stands t s mid → Later (next_functions t) k mid → Spells (symbols.Functions ∷ k) s
whole_functions Fn k s mid p (s2, (x, q2), (s3, q3, (s5, (xs, (s4, q4, q5)), (s0, (ys, b, (s6, q6, q7)), (r, (fs, q), h))))) =
    (r, (record { name = x; params = xs; results = ys; body = b } ∷ fs, (s0, (mid, p, (s2, q2, (s3, q3, (s4, q4, (s5, q5, (s6, q6, q7)))))), q)), h)
whole_functions _ k s mid p h = absurd h

whole_sign : (t : Token) (k : Stack) (s mid : List ℕ) → Stands t s mid → Later (next_sign t) k mid → Spells (symbols.Sign ∷ k) s
whole_sign (Sign op) k s mid p h = (mid, (op, p), h)
whole_sign _ k s mid p h = absurd h

whole_name : (t : Token) (k : Stack) (s mid : List ℕ) → Stands t s mid → Later (next_name t) k mid → Spells (symbols.Name ∷ k) s
whole_name (Named x) k s mid p h = (mid, (x, p), h)
whole_name _ k s mid p h = absurd h

whole_number : (t : Token) (k : Stack) (s mid : List ℕ) → Stands t s mid → Later (next_number t) k mid → Spells (symbols.Number ∷ k) s
whole_number (Numeral n) k s mid p h = (mid, (n, p), h)
whole_number _ k s mid p h = absurd h

whole_open_paren : (t : Token) (k : Stack) (s mid : List ℕ) → Stands t s mid → Later (next_open_paren t) k mid → Spells (symbols.OpenParen ∷ k) s
whole_open_paren OpenParen k s mid p h = (mid, p, h)
whole_open_paren _ k s mid p h = absurd h

whole_close_paren : (t : Token) (k : Stack) (s mid : List ℕ) → Stands t s mid → Later (next_close_paren t) k mid → Spells (symbols.CloseParen ∷ k) s
whole_close_paren CloseParen k s mid p h = (mid, p, h)
whole_close_paren _ k s mid p h = absurd h

whole_comma : (t : Token) (k : Stack) (s mid : List ℕ) → Stands t s mid → Later (next_comma t) k mid → Spells (symbols.Comma ∷ k) s
whole_comma Comma k s mid p h = (mid, p, h)
whole_comma _ k s mid p h = absurd h

whole_semicolon : (t : Token) (k : Stack) (s mid : List ℕ) → Stands t s mid → Later (next_semicolon t) k mid → Spells (symbols.Semicolon ∷ k) s
whole_semicolon Semicolon k s mid p h = (mid, p, h)
whole_semicolon _ k s mid p h = absurd h

whole_as : (t : Token) (k : Stack) (s mid : List ℕ) → Stands t s mid → Later (next_as t) k mid → Spells (symbols.As ∷ k) s
whole_as As k s mid p h = (mid, p, h)
whole_as _ k s mid p h = absurd h

whole_of : (x : Symbol) (t : Token) (k : Stack) (s mid : List ℕ) → Stands t s mid → Later (next x t) k mid → Spells (x ∷ k) s
whole_of symbols.Functions t k s mid p h = whole_functions t k s mid p h
whole_of symbols.Names t k s mid p h = whole_names t k s mid p h
whole_of symbols.MoreNames t k s mid p h = whole_more_names t k s mid p h
whole_of symbols.Results t k s mid p h = whole_results t k s mid p h
whole_of symbols.Block t k s mid p h = whole_block t k s mid p h
whole_of symbols.Commands t k s mid p h = whole_commands t k s mid p h
whole_of symbols.AfterIf t k s mid p h = whole_after_if t k s mid p h
whole_of symbols.AfterName t k s mid p h = whole_after_name t k s mid p h
whole_of symbols.MoreTargets t k s mid p h = whole_more_targets t k s mid p h
whole_of symbols.Source t k s mid p h = whole_source t k s mid p h
whole_of symbols.AfterSource t k s mid p h = whole_after_source t k s mid p h
whole_of symbols.Callee t k s mid p h = whole_callee t k s mid p h
whole_of symbols.Arguments t k s mid p h = whole_arguments t k s mid p h
whole_of symbols.MoreArguments t k s mid p h = whole_more_arguments t k s mid p h
whole_of symbols.Expr t k s mid p h = whole_expr t k s mid p h
whole_of symbols.Sign t k s mid p h = whole_sign t k s mid p h
whole_of symbols.Name t k s mid p h = whole_name t k s mid p h
whole_of symbols.Number t k s mid p h = whole_number t k s mid p h
whole_of symbols.OpenParen t k s mid p h = whole_open_paren t k s mid p h
whole_of symbols.CloseParen t k s mid p h = whole_close_paren t k s mid p h
whole_of symbols.Comma t k s mid p h = whole_comma t k s mid p h
whole_of symbols.Semicolon t k s mid p h = whole_semicolon t k s mid p h
whole_of symbols.As t k s mid p h = whole_as t k s mid p h

pub whole : (x : Symbol) (t : Token) (ys k : Stack) (s mid : List ℕ) → Stands t s mid → next x t ≡ Some ys → Spells (ys ++ k) mid → Spells (x ∷ k) s
whole x t ys k s mid p a h = whole_of x t k s mid p (subst (λ (o : Option Stack). Later o k mid) (sym a) h)

-- ---- blanks and comments in front

pub gap-append : (g : List ℕ) (m : Mode) (last : Bool) (s : List ℕ) → gap false m g ≡ true → gap last m (g ++ s) ≡ gap last Outside s
gap-append [] Outside last s e = refl
gap-append [] Slash last s e = absurd cc
gap-append [] Comment last s e = absurd cc
gap-append (b ∷ g) Outside last s e = elim (chosen (is_blank b) (gap false Outside g) (eqb b 47 && gap false Slash g) true e) [
  | inl c ↦ rw c.0 (gap-append g Outside last s c.1)
  | inr c ↦ (let p = and_parts (eqb b 47) (gap false Slash g) c.1 in rw c.0 (rw p.0 (gap-append g Slash last s p.1)))
]
gap-append (b ∷ g) Slash last s e = let p = and_parts (eqb b 47) (gap false Comment g) e in rw p.0 (gap-append g Comment last s p.1)
gap-append (b ∷ g) Comment last s e = elim (chosen (eqb b 10) (gap false Outside g) (gap false Comment g) true e) [
  | inl c ↦ rw c.0 (gap-append g Outside last s c.1)
  | inr c ↦ rw c.0 (gap-append g Comment last s c.1)
]

pub behind_gap : (t : Token) (g s rest : List ℕ) → gap false Outside g ≡ true → Stands t s rest → Stands t (g ++ s) rest
behind_gap t g s rest h p = record {
  before = g ++ p.before;
  word = p.word;
  parts = ap (λ (u : List ℕ). g ++ u) p.parts ∙ sym (append_assoc g p.before (p.word ++ rest));
  is_gap = gap-append g Outside false p.before h ∙ p.is_gap;
  spelled = p.spelled;
  longest = p.longest;
}

pub Spells-gap : (k : Stack) (g s : List ℕ) → gap false Outside g ≡ true → Spells k s → Spells k (g ++ s)
Spells-gap [] g s h p = gap-append g Outside true s h ∙ p
Spells-gap (x ∷ k) g s h p = elim (first x k s p) [
  | inl f ↦ whole x f.token f.coming k (g ++ s) f.mid (behind_gap f.token g s f.mid h f.stands) f.allowed f.others
  | inr f ↦ rw f.0 (g ++ s, ([], refl), Spells-gap k g s h f.1)
]
