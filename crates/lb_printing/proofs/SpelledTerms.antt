-- The texts of expressions, lists and calls spell them.
use Rattle.std.proofs.Common.{◌≡◌, Bool, true, false, List, [], ◌∷◌, ◌++◌, map, refl, sym, ap, ◌∙◌, append_assoc}
use Rattle.std.specs.Prelude.{codes}
use Rattle.std.specs.List.{AllByRecursion}
use Rattle.lb_syntax.specs.Names.{Text, IsName}
use Rattle.lb_syntax.specs.Tree.{Term, Number, Variable, Loaded, Operation}
use Rattle.lb_syntax.specs.WellFormed.{IsTerm}
use Rattle.lb_syntax.specs.Printing.{term_text, listed, targets_text, results_text}
use Rattle.lb_spelling.specs.Tokens.{Token, Stands}
use Rattle.lb_spelling.specs.Grammar.{Standing, ◌then◌, TermAt, MoreAt, ListAt, NameAt, NamesAt, ArgumentsAt, TargetsAt, ResultsAt, CallAt}
use Rattle.lb_printing.proofs.ListLemmas.{commas, listed_commas}
use Rattle.lb_printing.proofs.Spelled.{suits, blank, Spelled, next, behind, kept, same_text, empty_then, regroup}
use Rattle.lb_printing.proofs.SpelledWords.{name, number, load_word, open_paren, close_paren, comma, semicolon, becomes_sign, arrow_sign, sign}

-- a piece behind one blank
pub spaced : {f : Bool} {P : Standing} {x : Text} → Spelled f P x → Spelled f P (32 ∷ x)
spaced p = behind (32 ∷ []) blank p

-- expressions
pub term : (e : Term) → IsTerm e → Spelled false (TermAt e) (term_text e)
term (Number n) h = number n h
term (Variable x) h = name x h
term (Loaded w a) h = kept (next (load_word w) (λ rest. refl) (next open_paren (λ rest. refl) (next (term a h) (λ rest. refl) close_paren)))
term (Operation op l r) h =
    kept (next open_paren (λ rest. refl) (next (term l h.0) (λ rest. refl) (spaced (next (sign op) (λ rest. refl) (spaced (next (term r h.1) (λ rest. refl) close_paren))))))

-- a list goes on with a comma, or with what comes behind it
more_leads : (texts : List Text) (y : Text) → ((rest : Text) → suits false (y ++ rest) ≡ true) → (rest : Text) → suits false ((commas texts ++ y) ++ rest) ≡ true
more_leads [] y lead rest = lead rest
more_leads (x ∷ texts) y lead rest = refl

-- each of a list behind a comma, and a piece behind them
more_then : {A : Type 0} (P : A → Standing) (text : A → Text) (xs : List A) → AllByRecursion (λ x. Spelled false (P x) (text x)) xs → {f : Bool} {Q : Standing} {y : Text}
    → ((rest : Text) → suits false (y ++ rest) ≡ true) → Spelled f Q y → Spelled f (MoreAt P xs then Q) (commas (map text xs) ++ y)
more_then P text [] h lead q = empty_then q
more_then P text (x ∷ xs) h {y = y} lead q =
    let tail = next h.0 (more_leads (map text xs) y lead) (more_then P text xs h.1 lead q) in
    same_text _ (regroup (next comma (λ rest. refl) (spaced (regroup tail)))) (ap (λ (t : Text). codes ", " ++ t) (sym (append_assoc (text x) (commas (map text xs)) y)))

-- a list, and a piece behind it
list_then : {A : Type 0} (P : A → Standing) (text : A → Text) (xs : List A) → AllByRecursion (λ x. Spelled false (P x) (text x)) xs → {f : Bool} {Q : Standing} {y : Text}
    → ((rest : Text) → suits false (y ++ rest) ≡ true) → Spelled f Q y → Spelled f (ListAt P xs then Q) (listed (map text xs) ++ y)
list_then P text [] h lead q = empty_then q
list_then P text (x ∷ xs) h {y = y} lead q =
    same_text _ (regroup (next h.0 (more_leads (map text xs) y lead) (more_then P text xs h.1 lead q)))
    (sym (append_assoc (text x) (commas (map text xs)) y) ∙ ap (λ (t : Text). t ++ y) (sym (listed_commas (text x) (map text xs))))

all_spelled : {A : Type 0} (D E : A → Type 0) → ((x : A) → D x → E x) → (xs : List A) → AllByRecursion D xs → AllByRecursion E xs
all_spelled D E f [] h = tt
all_spelled D E f (x ∷ xs) h = (f x h.0, all_spelled D E f xs h.1)

map_same : (xs : List Text) → map (λ x. x) xs ≡ xs
map_same [] = refl
map_same (x ∷ xs) = ap (λ (ys : List Text). x ∷ ys) (map_same xs)

-- names, and a piece behind them
pub names_then : (xs : List Text) → AllByRecursion IsName xs → {f : Bool} {Q : Standing} {y : Text} → ((rest : Text) → suits false (y ++ rest) ≡ true) → Spelled f Q y
    → Spelled f (NamesAt xs then Q) (listed xs ++ y)
names_then xs h {y = y} lead q =
    same_text _ (list_then NameAt (λ x. x) xs (all_spelled IsName (λ x. Spelled false (NameAt x) x) name xs h) lead q) (ap (λ (ys : List Text). listed ys ++ y) (map_same xs))

-- arguments, and a piece behind them
arguments_then : (es : List Term) → AllByRecursion IsTerm es → {f : Bool} {Q : Standing} {y : Text} → ((rest : Text) → suits false (y ++ rest) ≡ true) → Spelled f Q y
    → Spelled f (ArgumentsAt es then Q) (listed (map term_text es) ++ y)
arguments_then es h lead q = list_then TermAt term_text es (all_spelled IsTerm (λ e. Spelled false (TermAt e) (term_text e)) term es h) lead q

-- a call from its callee on
pub call : {t : Token} {f : Text} (es : List Term) → AllByRecursion IsTerm es → Spelled false (Stands t) f
    → Spelled true (CallAt t es) (f ++ (codes "(" ++ (listed (map term_text es) ++ codes ");")))
call es h callee = next callee (λ rest. refl) (next open_paren (λ rest. refl) (arguments_then es h (λ rest. refl) (next close_paren (λ rest. refl) semicolon)))

-- the targets of a call, and a piece behind them
pub targets_then : (xs : List Text) → AllByRecursion IsName xs → {Q : Standing} {y : Text} → Spelled true Q y → Spelled true (TargetsAt xs then Q) (targets_text xs ++ y)
targets_then [] h q = empty_then q
targets_then (x ∷ xs) h {y = y} q =
    same_text _ (regroup (names_then (x ∷ xs) h (λ rest. refl) (spaced (next becomes_sign (λ rest. refl) (spaced q))))) (sym (append_assoc (listed (x ∷ xs)) (codes " = ") y))

-- the results of a function, and a piece behind them
pub results_then : (xs : List Text) → AllByRecursion IsName xs → {Q : Standing} {y : Text} → Spelled true Q y → Spelled true (ResultsAt xs then Q) (results_text xs ++ y)
results_then [] h q = empty_then q
results_then (x ∷ xs) h {y = y} q =
    let lists = regroup (names_then (x ∷ xs) h (λ rest. refl) (next close_paren (λ rest. refl) q)) in
    same_text _ (spaced (regroup (next arrow_sign (λ rest. refl) (spaced (regroup (next open_paren (λ rest. refl) lists))))))
    (ap (λ (t : Text). codes " -> (" ++ t) (sym (append_assoc (listed (x ∷ xs)) (codes ")") y)))
