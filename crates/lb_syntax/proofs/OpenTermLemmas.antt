-- The brackets of a printing are those that its tree nests: names, numbers, signs and expressions.
use Rattle.std.proofs.Common.{◌≡◌, ℕ, zero, suc, ◌+◌, true, ◌&&◌, not, List, [], ◌∷◌, ◌++◌, length, refl, arith, append_assoc}
use Rattle.std.specs.Prelude.{map, max, nat_le, codes, decimal}
use Rattle.std.specs.List.{list_all, AllByRecursion}
use Rattle.std.specs.Char.{is_ascii_digit}
use Rattle.std.specs.Str.{all_ascii_digits}
use Rattle.std.specs.Str.Parse.{digits_value}
use Rattle.std.proofs.lemmas.Bool.{and_parts, and_from}
use Rattle.std.proofs.lemmas.Bool.Decides.{nat_tests}
use Rattle.std.proofs.lemmas.Fmt.{digits_decimal}
use Rattle.std.proofs.lemmas.Str.Parse.{IsNumeralModel, numerals_by_value, tells_all_ascii_digits}
use Rattle.lb_syntax.specs.Names.{Text, IsName, is_name_byte, is_reserved, starts_name}
use Rattle.lb_syntax.specs.declared.tree.Op.{Op}
use Rattle.lb_syntax.specs.declared.tree.Op.TheVariants.{Add, Sub, Mul, Mulhuu, Divu, Remu, And, Or, Xor, Sru, Slu, Srs, Lts, Ltu, Eq}
use Rattle.lb_syntax.specs.declared.tree.Width.{Width}
use Rattle.lb_syntax.specs.declared.tree.Width.TheVariants.{One, Two, Four}
use Rattle.lb_syntax.specs.declared.tree.Action.{Action}
use Rattle.lb_syntax.specs.declared.tree.Action.TheVariants.{Read, Write}
use Rattle.lb_syntax.specs.Tree.{Term, Number, Variable, Loaded, Operation}
use Rattle.lb_syntax.specs.WellFormed.{IsWord, IsTerm}
use Rattle.lb_syntax.specs.Printing.{op_text, width_text, action_text, term_text, listed, targets_text, call_text, indent}
use Rattle.lb_syntax.specs.InternalNesting.{term_nest, terms_nest}
use Rattle.lb_syntax.proofs.OpenLemmas.{Nests, is_plain, is_plain_byte, plain_nests, plain_on, nests_on, same_nest, same_text, round}

-- names, numbers and signs
digit_plain : (b : ℕ) → is_ascii_digit b ≡ true → is_plain_byte b ≡ true
digit_plain b h = grind (arith, nat_tests)

digits_plain : (text : Text) → all_ascii_digits text ≡ true → is_plain text ≡ true
digits_plain [] h = refl
digits_plain (b ∷ text) h =
    let both = and_parts (is_ascii_digit b) (all_ascii_digits text) h in
    and_from (is_plain_byte b) (is_plain text) (digit_plain b both.0) (digits_plain text both.1)

-- strings of decimal digits have the numbers that they denote
pub decimal_numerals : IsNumeralModel (λ ds. all_ascii_digits ds ≡ true) (digits_value 10)
decimal_numerals = numerals_by_value _ tells_all_ascii_digits

pub decimal_plain : (n : ℕ) → IsWord n → is_plain (decimal n) ≡ true
decimal_plain n h = digits_plain (decimal n) (digits_decimal decimal_numerals n (omega (arith, h)))

name_byte_plain : (b : ℕ) → is_name_byte b ≡ true → is_plain_byte b ≡ true
name_byte_plain b h = grind (arith, nat_tests)

name_bytes_plain : (text : Text) → list_all is_name_byte text ≡ true → is_plain text ≡ true
name_bytes_plain [] h = refl
name_bytes_plain (b ∷ text) h =
    let both = and_parts (is_name_byte b) (list_all is_name_byte text) h in
    and_from (is_plain_byte b) (is_plain text) (name_byte_plain b both.0) (name_bytes_plain text both.1)

pub name_plain : (x : Text) → IsName x → is_plain x ≡ true
name_plain x h = name_bytes_plain x (and_parts (nat_le (length x) 32 && not (is_reserved x) && starts_name x) (list_all is_name_byte x) h).1

pub name_nests : (x : Text) → IsName x → Nests x 0
name_nests x h = plain_nests x (name_plain x h)

pub width_plain : (w : Width) → is_plain (width_text w) ≡ true
width_plain One = refl
width_plain Two = refl
width_plain Four = refl

pub action_plain : (k : Action) → is_plain (action_text k) ≡ true
action_plain Read = refl
action_plain Write = refl

op_plain : (op : Op) → is_plain (op_text op) ≡ true
op_plain Add = refl
op_plain Sub = refl
op_plain Mul = refl
op_plain Mulhuu = refl
op_plain Divu = refl
op_plain Remu = refl
op_plain And = refl
op_plain Or = refl
op_plain Xor = refl
op_plain Sru = refl
op_plain Slu = refl
op_plain Srs = refl
op_plain Lts = refl
op_plain Ltu = refl
op_plain Eq = refl

pub indent_plain : (d : ℕ) → is_plain (indent d) ≡ true
indent_plain zero = refl
indent_plain (suc d) = indent_plain d

-- an operation, its brackets round all of it
operation_nests : (op : Op) {l r : Text} {m k : ℕ} → Nests l m → Nests r k
    → Nests (codes "(" ++ (l ++ (codes " " ++ (op_text op ++ (codes " " ++ (r ++ codes ")")))))) (max m k + 1)
operation_nests op {l = l} {r = r} p q =
    let middle = plain_on (codes " ") refl (plain_on (op_text op) (op_plain op) (plain_on (codes " ") refl q)) in
    same_text _ (round [] refl (nests_on p middle)) (simp append_assoc)

-- an expression
pub term_nests : (e : Term) → IsTerm e → Nests (term_text e) (term_nest e)
term_nests (Number n) h = plain_nests (decimal n) (decimal_plain n h)
term_nests (Variable x) h = name_nests x h
term_nests (Loaded w a) h = plain_on (codes "load") refl (plain_on (width_text w) (width_plain w) (round [] refl (term_nests a h)))
term_nests (Operation op l r) h = operation_nests op (term_nests l h.0) (term_nests r h.1)

plain_append : (a b : Text) → is_plain a ≡ true → is_plain b ≡ true → is_plain (a ++ b) ≡ true
plain_append [] b h k = k
plain_append (x ∷ a) b h k =
    let both = and_parts (is_plain_byte x) (is_plain a) h in
    and_from (is_plain_byte x) (is_plain (a ++ b)) both.0 (plain_append a b both.1 k)

-- names in a list
pub names_plain : (xs : List Text) → AllByRecursion IsName xs → is_plain (listed xs) ≡ true
names_plain [] h = refl
names_plain (x ∷ []) h = name_plain x h.0
names_plain (x ∷ y ∷ xs) h = plain_append x (codes ", " ++ listed (y ∷ xs)) (name_plain x h.0) (names_plain (y ∷ xs) h.1)

-- expressions in a list
pub terms_nests : (es : List Term) → AllByRecursion IsTerm es → Nests (listed (map term_text es)) (terms_nest es)
terms_nests [] h = plain_nests [] refl
terms_nests (e ∷ []) h = same_nest _ (term_nests e h.0) (omega arith)
terms_nests (e ∷ f ∷ es) h = nests_on (term_nests e h.0) (plain_on (codes ", ") refl (terms_nests (f ∷ es) h.1))

targets_plain : (xs : List Text) → AllByRecursion IsName xs → is_plain (targets_text xs) ≡ true
targets_plain [] h = refl
targets_plain (x ∷ xs) h = plain_append (listed (x ∷ xs)) (codes " = ") (names_plain (x ∷ xs) h) refl

-- a call
pub call_nests : (xs : List Text) (f : Text) (es : List Term) → AllByRecursion IsName xs → is_plain f ≡ true → AllByRecursion IsTerm es
    → Nests (call_text xs f es) (terms_nest es + 1)
call_nests xs f es hx hf he = plain_on (targets_text xs) (targets_plain xs hx) (plain_on f hf (round (codes ";") refl (terms_nests es he)))
