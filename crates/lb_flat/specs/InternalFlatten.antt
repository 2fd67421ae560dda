-- Flat commands as `flatten` writes them. What stands here is cited by contracts of private functions only.
use Rattle.std.specs.Prelude.{◌≡◌, ℕ, suc, ◌+◌, ◌<◌, ◌≤◌, ◌^◌, if◌then◌else◌, List, [], ◌∷◌, length, map, Option, Some, None}
use Rattle.std.specs.Borrow.{Bor}
use Rattle.std.specs.BTreeMap.{BTreeMap, get_by}
use Rattle.std.specs.Cmp.Lexicographic.{slice_cmp}
use Rattle.std.specs.Option.{option_map}
use Rattle.std.specs.Ordering.{nat_cmp}
use Rattle.std.specs.Str.{bytes_eq}
use Rattle.lb_syntax.specs.Names.{Text}
use Rattle.lb_syntax.specs.declared.limits.TheConstants.{MOST_FUNCTIONS}
use Rattle.lb_syntax.specs.declared.tree.Function.{Function}
use Rattle.lb_syntax.specs.Tree.{Term, Command, Procedure, procedure_of}
use Rattle.lb_syntax.specs.Rules.{function_names}
use Rattle.lb_syntax.specs.Needs.{depth, greatest, greatest_depth, variables}
use Rattle.lb_check.specs.Parts.{body_parts}
use Rattle.lb_flat.specs.declared.flat.FlatCmd.{FlatCmd}
use Rattle.lb_flat.specs.Code.{Code, Sequence}
use Rattle.lb_flat.specs.Flat.{flat_command}
use Rattle.lb_flat.specs.SourceCounts.{greatest_arguments}
use Rattle.lb_flat.specs.Flattened.{place_in}
use Rattle.lb_flat.specs.InternalFlatForms.{holder, holders, term_code, terms_code, flat_code}

-- these commands, before the rest
abbrev pub emitted : List FlatCmd → Code ℕ → Code ℕ
emitted [] rest = rest
emitted (c ∷ cs) rest = Sequence (flat_command c) (emitted cs rest)

-- code that was written behind other code, where `code` says what it is before a rest
abbrev pub Writes : List FlatCmd → List FlatCmd → (Code ℕ → Code ℕ) → Type 0
Writes old new code = (rest : Code ℕ) → emitted new rest ≡ emitted old (code rest)

-- the names of a program's functions, and those of a function's variables, by whose places both are numbered
pub record Numbering : Type 0 where
  pub functions : List Text
  pub names : List Text

-- of these functions, with these names of variables
abbrev pub numbering_of : List Function → List Text → Numbering
numbering_of functions names = record { functions = function_names (map procedure_of functions); names = names }

-- few enough of both that their places are numbers of 32 bits
abbrev pub IsNumberable : List Function → List Text → Type 0
IsNumberable functions names = (length names < 2 ^ 32) × (length functions ≤ MOST_FUNCTIONS)

-- the texts of these bytes
abbrev pub texts_of : List (Bor (List ℕ)) → List Text
texts_of bytes = map (λ (b : Bor (List ℕ)). b.now) bytes

-- the number of a name: its place, if it is there
abbrev pub number_in : List Text → Text → Option ℕ
number_in [] x = None
number_in (y ∷ ys) x = if bytes_eq y x then Some 0 else option_map suc (number_in ys x)

-- the map has the number of each name, and nothing else
pub record AreTheirNumbers (numbers : BTreeMap (Bor (List ℕ)) ℕ) (names : List Text) : Type 0 where
  pub each : (x : Text) → get_by (λ k. slice_cmp nat_cmp x k.now) numbers ≡ number_in names x

-- the code of an expression, which may have a target, where the variables from t on are free, and that of several
abbrev pub code_of_term : Numbering → Term → Option ℕ → ℕ → Code ℕ → Code ℕ
code_of_term s e target t rest = term_code (place_in s.names) e target t rest

abbrev pub code_of_terms : Numbering → List Term → ℕ → Code ℕ → Code ℕ
code_of_terms s es t rest = terms_code (place_in s.names) es t rest

-- which variables have their values
abbrev pub holder_of_term : Numbering → Term → Option ℕ → ℕ → ℕ
holder_of_term s e target t = holder (place_in s.names) e target t

abbrev pub holders_of_terms : Numbering → List Term → ℕ → List ℕ
holders_of_terms s es t = holders (place_in s.names) es t

-- the code of a command or a block: the variables behind those with names are temporaries
abbrev pub code_of : Numbering → Command → Code ℕ → Code ℕ
code_of s c rest = flat_code (place_in s.names) (place_in s.functions) (length s.names) c rest

-- the code of an expression, of several, or of a command or a block was written behind other code
abbrev pub WritesTerm : Numbering → Term → Option ℕ → ℕ → List FlatCmd → List FlatCmd → Type 0
WritesTerm s e target t old new = Writes old new (code_of_term s e target t)

abbrev pub WritesTerms : Numbering → List Term → ℕ → List FlatCmd → List FlatCmd → Type 0
WritesTerms s es t old new = Writes old new (code_of_terms s es t)

abbrev pub WritesCommand : Numbering → Command → List FlatCmd → List FlatCmd → Type 0
WritesCommand s c old new = Writes old new (code_of s c)

-- the code of a condition was written, behind other code, and then this command, which reads the variable that has its value
abbrev pub WritesTest : Numbering → Term → (ℕ → Code ℕ) → List FlatCmd → List FlatCmd → Type 0
WritesTest s e command old new =
    let t = length s.names in
    Writes old new (λ rest. code_of_term s e None t (Sequence (command (holder_of_term s e None t)) rest))

-- the numbers of the temporaries of an expression from t on are words, and those of several
abbrev pub HasTermRoom : ℕ → Term → Type 0
HasTermRoom t e = t + depth e < 2 ^ 32

abbrev pub HasTermsRoom : ℕ → List Term → Type 0
HasTermsRoom t es = t + length es + greatest (map depth es) < 2 ^ 32

-- those of a command or a block
abbrev pub HasRoom : ℕ → Command → Type 0
HasRoom t c = t + greatest_depth c + greatest_arguments c < 2 ^ 32

-- a function that has few enough parts and variables for their counts
pub record IsCountable (f : Procedure) : Type 0 where
  pub parts : body_parts f.body < 2 ^ 30
  pub room : HasRoom (variables f) f.body
