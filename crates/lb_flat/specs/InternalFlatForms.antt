-- Flat code for the source's commands. A function's variables are numbered, and the numbers behind theirs are temporaries, which hold
-- the values of parts of an expression that are no variables. What stands here is cited by contracts of private functions only.
use Rattle.std.specs.Prelude.{◌≡◌, ℕ, ◌+◌, List, [], ◌∷◌, length, map, codes, Option, Some, None, unwrap_or}
use Rattle.lb_syntax.specs.Names.{Text, is_among, AreDistinct}
use Rattle.lb_syntax.specs.Tree.{Term, Number, Variable, Loaded, Operation, Procedure}
use Rattle.lb_syntax.specs.Tree.{Command, Skips, Sets, Unsets, Stores, Allocates, Chooses, Repeats, Calls, Interacts, Ends, Then}
use Rattle.lb_syntax.specs.Needs.{greatest_depth, procedure_names}
use Rattle.lb_syntax.specs.Rules.{function_names}
use Rattle.lb_flat.specs.Code.{Constant, Copy, Compute, Load, Store, Forget, Call, Access}
use Rattle.lb_flat.specs.Code.{Code, Plain, Reserve, Branch, Loop, Nothing, Sequence, Routine, Executable}
use Rattle.lb_flat.specs.SourceCounts.{greatest_arguments}
use Rattle.lb_flat.specs.Flattened.{place_in}

-- ---- expressions

-- which variable has the value of an expression: the target, if there is one. Else a variable's value stays where it is, and another
-- one comes into variable t
abbrev pub holder : (Text → ℕ) → Term → Option ℕ → ℕ → ℕ
holder number (Variable x) target t = unwrap_or target (number x)
holder number e target t = unwrap_or target t

-- the value of an expression comes into its holder, where those from t on are free; then the rest. The target is set by the last
-- command alone, so the expression may read it
abbrev pub term_code : (Text → ℕ) → Term → Option ℕ → ℕ → Code ℕ → Code ℕ
term_code number (Number n) target t rest = Sequence (Plain (Constant n) [] (unwrap_or target t ∷ [])) rest
term_code number (Variable x) None t rest = rest
term_code number (Variable x) (Some y) t rest = Sequence (Plain Copy (number x ∷ []) (y ∷ [])) rest
term_code number (Loaded w a) target t rest =
    term_code number a None t (Sequence (Plain (Load w) (holder number a None t ∷ []) (unwrap_or target t ∷ [])) rest)
term_code number (Operation op l r) target t rest =
    term_code number l None t (term_code number r None (t + 1)
    (Sequence (Plain (Compute op) (holder number l None t ∷ holder number r None (t + 1) ∷ []) (unwrap_or target t ∷ [])) rest))

-- the values of several expressions come into their holders, where the variables from t on are free
abbrev pub terms_code : (Text → ℕ) → List Term → ℕ → Code ℕ → Code ℕ
terms_code number [] t rest = rest
terms_code number (e ∷ es) t rest = term_code number e None t (terms_code number es (t + 1) rest)

-- those holders
abbrev pub holders : (Text → ℕ) → List Term → ℕ → List ℕ
holders number [] t = []
holders number (e ∷ es) t = holder number e None t ∷ holders number es (t + 1)

-- ---- commands

-- a command or a block, before the rest, where the variables from t on are free
abbrev pub flat_code : (Text → ℕ) → (Text → ℕ) → ℕ → Command → Code ℕ → Code ℕ
flat_code number function t Skips rest = rest
flat_code number function t (Sets x e) rest = term_code number e (Some (number x)) t rest
flat_code number function t (Unsets x) rest = Sequence (Plain Forget [] (number x ∷ [])) rest
flat_code number function t (Stores w a e) rest =
    term_code number a None t (term_code number e None (t + 1) (Sequence (Plain (Store w) (holder number a None t ∷ holder number e None (t + 1) ∷ []) []) rest))
flat_code number function t (Allocates n x b) rest = Sequence (Reserve n (number x) (flat_code number function t b Nothing)) rest
flat_code number function t (Chooses e b d) rest =
    term_code number e None t (Sequence (Branch (holder number e None t) (flat_code number function t b Nothing) (flat_code number function t d Nothing)) rest)
flat_code number function t (Repeats e b) rest =
    Sequence (Loop (term_code number e None t Nothing) (holder number e None t) (flat_code number function t b Nothing)) rest
flat_code number function t (Calls xs f es) rest = terms_code number es t (Sequence (Plain (Call (function f)) (holders number es t) (map number xs)) rest)
flat_code number function t (Interacts xs k es) rest = terms_code number es t (Sequence (Plain (Access k) (holders number es t) (map number xs)) rest)
flat_code number function t Ends rest = rest
flat_code number function t (Then c d) rest = flat_code number function t c (flat_code number function t d rest)

-- ---- functions and programs

-- the names of a function's variables, in any order, each once
pub record AreNamesOf (f : Procedure) (names : List Text) : Type 0 where
  pub distinct : AreDistinct names
  pub same : (x : Text) → is_among names x ≡ is_among (procedure_names f) x

-- a function, whose variables are numbered in the order of these names. It has as many temporaries as may be in use at once
abbrev pub flat_procedure : List Text → List Text → Procedure → Routine ℕ
flat_procedure functions names f = record {
  variables = length names + greatest_depth f.body + greatest_arguments f.body;
  params = map (place_in names) f.params;
  results = map (place_in names) f.results;
  body = flat_code (place_in names) (place_in functions) (length names) f.body Nothing;
}

-- a function and its flat form, for some order of its variables
pub record IsFlatForm (functions : List Text) (f : Procedure) (g : Routine ℕ) : Type 0 where
  pub names : List Text
  pub are_names : AreNamesOf f names
  pub is : g ≡ flat_procedure functions names f

-- functions and their flat forms, in order
abbrev pub AreFlatForms : List Text → List Procedure → List (Routine ℕ) → Type 0
AreFlatForms functions [] [] = Unit {0}
AreFlatForms functions (f ∷ fs) (g ∷ gs) = IsFlatForm functions f g × AreFlatForms functions fs gs
AreFlatForms functions _ _ = ⊥

-- a program and its flat form, which numbers the functions by the places of their names
pub record IsFlattened (p : List Procedure) (q : Executable ℕ) : Type 0 where
  pub routines : AreFlatForms (function_names p) p q.routines
  pub init : q.init ≡ place_in (function_names p) (codes "init")
  pub again : q.again ≡ place_in (function_names p) (codes "loop")
