-- The brackets of a printing are those that its tree nests: commands, functions and programs.
use Rattle.std.proofs.Common.{◌≡◌, ℕ, suc, ◌+◌, List, [], ◌∷◌, ◌++◌, refl, sym, ap, subst, ◌∙◌, true, arith, append_assoc, append-nil}
use Rattle.std.specs.Prelude.{max, codes, decimal, All}
use Rattle.std.specs.List.{AllByRecursion}
use Rattle.std.proofs.lemmas.List.Elements.{recursion_from_All}
use Rattle.lb_syntax.specs.Names.{Text, IsName}
use Rattle.lb_syntax.specs.Tree.{Term, Procedure}
use Rattle.lb_syntax.specs.Tree.{Command, Skips, Sets, Unsets, Stores, Allocates, Chooses, Repeats, Calls, Interacts, Ends, Then}
use Rattle.lb_syntax.specs.WellFormed.{IsTerm, IsCommand, IsBlock, IsProcedure}
use Rattle.lb_syntax.specs.Printing.{width_text, action_text, term_text, listed, indent, line, else_text, command_text, results_text, procedure_text, program_text}
use Rattle.lb_syntax.specs.Brackets.{most_open, brackets}
use Rattle.lb_syntax.specs.InternalNesting.{term_nest, command_nest, procedure_nest, program_nest}
use Rattle.lb_syntax.proofs.OpenLemmas.{Goes, Nests, is_plain, same_most, goes_on, plain_goes, plain_nests, plain_on, on_plain, nests_on, same_nest, same_text, opens, closes, round}
use Rattle.lb_syntax.proofs.OpenTermLemmas.{decimal_plain, name_plain, name_nests, indent_plain, width_plain, action_plain, term_nests, names_plain, call_nests}

-- the text has at most m brackets open at once beside one that it opens at its end
record Opens (text : Text) (m : ℕ) : Type 0 where
  pub goes : (n : ℕ) → Goes text n (n + max m 1) (n + 1)

opens_here : Opens (codes " {") 0
opens_here = record { goes = λ n. same_most (n + max 0 1) (goes_on (plain_goes (32 ∷ []) n refl) (opens n 123 [] refl refl)) (omega arith) }

opens_behind : {a b : Text} {m k : ℕ} → Nests a m → Opens b k → Opens (a ++ b) (max m k)
opens_behind {m = m} {k = k} p q = record { goes = λ n. same_most (n + max (max m k) 1) (goes_on (p.goes n) (q.goes n)) (omega arith) }

opens_plain : (a : Text) {b : Text} {m : ℕ} → is_plain a ≡ true → Opens b m → Opens (a ++ b) m
opens_plain a {m = m} h q = record { goes = λ n. same_most (n + max m 1) (goes_on (plain_goes a n h) (q.goes n)) (omega arith) }

opens_text : {a : Text} {m : ℕ} (b : Text) → Opens a m → a ≡ b → Opens b m
opens_text {m = m} b q e = subst (λ (t : Text). Opens t m) e q

opens_line : (d : ℕ) {text : Text} {m : ℕ} → Opens text m → Opens (line d text) m
opens_line d {m = m} q = opens_plain (indent d) (indent_plain d) (record {
  goes = λ n.
      same_most (n + max m 1) (goes_on (q.goes n) (plain_goes (10 ∷ []) (n + 1) refl)) (omega arith);
})

nests_line : (d : ℕ) {text : Text} {m : ℕ} → Nests text m → Nests (line d text) m
nests_line d p = plain_on (indent d) (indent_plain d) (on_plain (10 ∷ []) refl p)

plain_line : (d : ℕ) (text : Text) → is_plain text ≡ true → Nests (line d text) 0
plain_line d text h = nests_line d (plain_nests text h)

closes_line : (d n : ℕ) → Goes (line d (codes "}")) (n + 1) (n + 1) n
closes_line d n = same_most (n + 1) (goes_on (plain_goes (indent d) (n + 1) (indent_plain d)) (closes n 125 (10 ∷ []) refl refl)) (omega arith)

-- a line that opens a block, the block, and the line that closes it
block_nests : (d : ℕ) {head inner : Text} {m k : ℕ} → Opens head m → Nests inner k → Nests (line d head ++ (inner ++ line d (codes "}"))) (max m (k + 1))
block_nests d {m = m} {k = k} q p = record {
  goes = λ n.
      same_most (n + max m (k + 1)) (goes_on ((opens_line d q).goes n) (goes_on (p.goes (n + 1)) (closes_line d n))) (omega arith);
}

-- the line `} else {`
else_line : (d n : ℕ) → Goes (line d (codes "} else {")) (n + 1) (n + 1) (n + 1)
else_line d n =
    let middle = goes_on (closes n 125 (codes " else ") refl refl) (opens n 123 [] refl refl) in
    let whole = goes_on (plain_goes (indent d) (n + 1) (indent_plain d)) (goes_on middle (plain_goes (10 ∷ []) (n + 1) refl)) in
    same_most (n + 1) whole (omega arith)

else_goes : (d : ℕ) (c : Command) {inner : Text} (n : ℕ) → Nests inner (command_nest c) → Goes (else_text d c inner) (n + 1) (n + 1 + command_nest c) (n + 1)
else_goes d Ends n p = same_most (n + 1 + 0) (plain_goes [] (n + 1) refl) (omega arith)
else_goes d c n p = same_most (n + 1 + command_nest c) (goes_on (else_line d n) (p.goes (n + 1))) (omega arith)

choice_nests : (d : ℕ) {head yes_text no_text : Text} {m k : ℕ} (c : Command) → Opens head m → Nests yes_text k → Nests no_text (command_nest c)
    → Nests (line d head ++ (yes_text ++ (else_text d c no_text ++ line d (codes "}")))) (max m (max k (command_nest c) + 1))
choice_nests d {m = m} {k = k} c q y z = record {
  goes = λ n.
      same_most (n + max m (max k (command_nest c) + 1))
      (goes_on ((opens_line d q).goes n) (goes_on (y.goes (n + 1)) (goes_on (else_goes d c n z) (closes_line d n)))) (omega arith);
}

-- two expressions in brackets
pair_nests : {l r : Text} {m k : ℕ} → Nests l m → Nests r k → Nests (codes "(" ++ (l ++ (codes ", " ++ (r ++ codes ");")))) (max m k + 1)
pair_nests p q = same_text _ (round (codes ";") refl (nests_on p (plain_on (codes ", ") refl q))) (simp append_assoc)

condition_opens : (word : Text) (e : Term) → is_plain word ≡ true → IsTerm e → Opens (word ++ (term_text e ++ codes " {")) (max (term_nest e) 0)
condition_opens word e h t = opens_plain word h (opens_behind (term_nests e t) opens_here)

mutual
  pub command_nests : (c : Command) → IsCommand c → (d : ℕ) → Nests (command_text d c) (command_nest c)
  command_nests Skips h d = plain_line d (codes "skip;") refl
  command_nests (Sets x e) h d = nests_line d (plain_on x (name_plain x h.0) (plain_on (codes " = ") refl (on_plain (codes ";") refl (term_nests e h.1))))
  command_nests (Unsets x) h d = nests_line d (plain_on (codes "unset ") refl (on_plain (codes ";") refl (name_nests x h)))
  command_nests (Stores w a e) h d =
      nests_line d (plain_on (codes "store") refl (plain_on (width_text w) (width_plain w) (pair_nests (term_nests a h.0) (term_nests e h.1))))
  command_nests (Allocates n x b) h d =
      same_nest _ (block_nests d (opens_plain (codes "stackalloc ") refl (opens_plain (decimal n) (decimal_plain n h.0)
      (opens_plain (codes " as ") refl (opens_plain x (name_plain x h.1) opens_here)))) (block_text_nests b h.2 (suc d))) (omega arith)
  command_nests (Chooses e b c) h d =
      same_nest _ (choice_nests d c (condition_opens (codes "if ") e refl h.0) (block_text_nests b h.1 (suc d)) (block_text_nests c h.2 (suc d))) (omega arith)
  command_nests (Repeats e b) h d =
      same_nest _ (block_nests d (condition_opens (codes "while ") e refl h.0) (block_text_nests b h.1 (suc d))) (omega arith)
  command_nests (Calls xs f es) h d =
      nests_line d (call_nests xs f es (recursion_from_All IsName xs h.0) (name_plain f h.1) (recursion_from_All IsTerm es h.2))
  command_nests (Interacts xs k es) h d =
      nests_line d (call_nests xs (action_text k) es (recursion_from_All IsName xs h.0) (action_plain k) (recursion_from_All IsTerm es h.1))
  command_nests Ends h d = absurd h
  command_nests (Then c b) h d = absurd h

  pub block_text_nests : (c : Command) → IsBlock c → (d : ℕ) → Nests (command_text d c) (command_nest c)
  block_text_nests Ends h d = plain_nests [] refl
  block_text_nests (Then c b) h d = nests_on (command_nests c h.0 d) (block_text_nests b h.1 d)
  block_text_nests Skips h d = absurd h
  block_text_nests (Sets x e) h d = absurd h
  block_text_nests (Unsets x) h d = absurd h
  block_text_nests (Stores w a e) h d = absurd h
  block_text_nests (Allocates n x b) h d = absurd h
  block_text_nests (Chooses e b c) h d = absurd h
  block_text_nests (Repeats e b) h d = absurd h
  block_text_nests (Calls xs f es) h d = absurd h
  block_text_nests (Interacts xs k es) h d = absurd h

-- names in brackets
names_nests : (xs : List Text) → AllByRecursion IsName xs → Nests (codes "(" ++ (listed xs ++ codes ")")) 1
names_nests xs h = same_nest 1 (round [] refl (plain_nests (listed xs) (names_plain xs h))) refl

-- results and the bracket behind them
results_open : (xs : List Text) → AllByRecursion IsName xs → Opens (results_text xs ++ codes " {") 1
results_open [] h = record { goes = λ n. opens_here.goes n }
results_open (x ∷ xs) h = opens_behind (plain_on (codes " -> ") refl (names_nests (x ∷ xs) h)) opens_here

head_opens : (f : Procedure) → IsProcedure f → Opens (codes "fn " ++ (f.name ++ (codes "(" ++ (listed f.params ++ (codes ")" ++ (results_text f.results ++ codes " {")))))) 1
head_opens f h =
    let lists = opens_behind (names_nests f.params (recursion_from_All IsName f.params h.params)) (results_open f.results (recursion_from_All IsName f.results h.results)) in
    opens_text _ (opens_plain (codes "fn ") refl (opens_plain f.name (name_plain f.name h.name) lists)) (simp append_assoc)

procedure_nests : (f : Procedure) → IsProcedure f → Nests (procedure_text f) (procedure_nest f)
procedure_nests f h = same_nest (procedure_nest f) (block_nests 0 (head_opens f h) (block_text_nests f.body h.body 1)) (omega arith)

program_nests : (p : List Procedure) → AllByRecursion IsProcedure p → Nests (program_text p) (program_nest p)
program_nests [] h = plain_nests [] refl
program_nests (f ∷ p) h = nests_on (procedure_nests f h.0) (program_nests p h.1)

-- counted on the tree, they are the most open in the text
pub brackets-nest : (p : List Procedure) → All IsProcedure p → program_nest p ≡ brackets p
brackets-nest p h =
    let all = (program_nests p (recursion_from_All IsProcedure p h)).goes 0 in
    let e = ap (λ t. most_open 0 t) (sym (append-nil (program_text p))) ∙ all.is [] in
    omega (arith, e)
