-- The texts of commands and blocks spell them.
use Rattle.std.proofs.Common.{◌≡◌, ℕ, suc, true, [], ◌∷◌, ◌++◌, refl, sym, inl, inr, append_assoc, append-nil}
use Rattle.std.specs.Prelude.{codes}
use Rattle.std.proofs.lemmas.List.Elements.{recursion_from_All}
use Rattle.lb_syntax.specs.Names.{Text, IsName}
use Rattle.lb_syntax.specs.Tree.{Command, Skips, Sets, Unsets, Stores, Allocates, Chooses, Repeats, Calls, Interacts, Ends, Then}
use Rattle.lb_syntax.specs.WellFormed.{IsTerm, IsCommand, IsBlock}
use Rattle.lb_syntax.specs.Printing.{term_text, indent, line, else_text, command_text}
use Rattle.lb_spelling.specs.Tokens.{Else, Stands}
use Rattle.lb_spelling.specs.Grammar.{Standing, ◌then◌, Braced, OptionalElse, CommandAt, CommandsAt}
use Rattle.lb_printing.proofs.Spelled.{indent_blanks, line_end, Spelled, Lined, next, behind, same_text, line_then, on_line, same_line}
use Rattle.lb_printing.proofs.SpelledWords.{name, number, if_word, else_word, while_word, skip_word, unset_word, alloc_word, as_word, becomes_sign, store_word, device_word, open_paren, close_paren, open_brace, close_brace, comma, semicolon}
use Rattle.lb_printing.proofs.SpelledTerms.{spaced, term, call, targets_then}

-- commands in their brackets, from the end of a line on
pub braced : (b : Command) {inner : Text} → Spelled true (CommandsAt b) inner → Spelled true (Braced (CommandsAt b)) (codes " {" ++ (10 ∷ inner))
braced b p = spaced (next open_brace (λ rest. refl) (behind (10 ∷ []) line_end p))

-- what stands behind the bracket that closes the first block
abbrev else_part : ℕ → Command → Text
else_part d Ends = []
else_part d c = codes " else {" ++ (10 ∷ (command_text (suc d) c ++ (indent d ++ codes "}")))

-- a block is empty, or a command and a block
block_cases : (P : Command → Type 0) → P Ends → ((c b : Command) → P (Then c b)) → (c : Command) → IsBlock c → P c
block_cases P none some Ends h = none
block_cases P none some (Then c b) h = some c b
block_cases P none some Skips h = absurd h
block_cases P none some (Sets x e) h = absurd h
block_cases P none some (Unsets x) h = absurd h
block_cases P none some (Stores w a e) h = absurd h
block_cases P none some (Allocates n x b) h = absurd h
block_cases P none some (Chooses e b c) h = absurd h
block_cases P none some (Repeats e b) h = absurd h
block_cases P none some (Calls xs f es) h = absurd h
block_cases P none some (Interacts xs k es) h = absurd h

with_else : (c : Command) {Q : Standing} {x : Text} → Spelled true (Stands Else then Q) x → Spelled true (OptionalElse c Q) x
with_else c q = record { at = λ before rest g s. inl (q.at before rest g s); calm = q.calm }

without_else : {P Q : Standing} {x : Text} → Spelled true P x → Spelled true (P then OptionalElse Ends Q) (x ++ [])
without_else {x = x} p = same_text (x ++ []) (record { at = λ before rest g s. (rest, p.at before rest g s, inr (refl, refl)); calm = p.calm }) (sym (append-nil x))

-- a block, and behind it the other one where there is any
optional_then : (d : ℕ) {P : Standing} {x : Text} → Spelled true P x → (c : Command) → IsBlock c
    → Spelled true (CommandsAt c) (command_text (suc d) c ++ (indent d ++ codes "}")) → Spelled true (P then OptionalElse c (Braced (CommandsAt c))) (x ++ else_part d c)
optional_then d {P = P} {x = x} p = block_cases
    (λ c. Spelled true (CommandsAt c) (command_text (suc d) c ++ (indent d ++ codes "}")) → Spelled true (P then OptionalElse c (Braced (CommandsAt c))) (x ++ else_part d c))
    (λ inner. without_else p)
    (λ c b inner. next p (λ rest. refl) (with_else (Then c b) (spaced (next else_word (λ rest. refl) (braced (Then c b) inner)))))

-- a choice on one line and on its lines
choice_line : (d : ℕ) (test yes_text : Text) (c : Command) → IsBlock c
    → indent d ++ ((codes "if " ++ (test ++ ((codes " {" ++ (10 ∷ (yes_text ++ (indent d ++ codes "}")))) ++ else_part d c))) ++ 10 ∷ [])
    ≡ line d (codes "if " ++ (test ++ codes " {")) ++ (yes_text ++ (else_text d c (command_text (suc d) c) ++ line d (codes "}")))
choice_line d test yes_text = block_cases
    (λ c. indent d ++ ((codes "if " ++ (test ++ ((codes " {" ++ (10 ∷ (yes_text ++ (indent d ++ codes "}")))) ++ else_part d c))) ++ 10 ∷ [])
    ≡ line d (codes "if " ++ (test ++ codes " {")) ++ (yes_text ++ (else_text d c (command_text (suc d) c) ++ line d (codes "}"))))
    (simp append_assoc) (λ c b. simp append_assoc)

mutual
  pub command : (c : Command) → IsCommand c → (d : ℕ) → Lined (CommandAt c) (command_text d c)
  command Skips h d = on_line d (next skip_word (λ rest. refl) semicolon)
  command (Sets x e) h d = on_line d (next (name x h.0) (λ rest. refl) (spaced (next becomes_sign (λ rest. refl) (spaced (next (term e h.1) (λ rest. refl) semicolon)))))
  command (Unsets x) h d = on_line d (next unset_word (λ rest. refl) (spaced (next (name x h) (λ rest. refl) semicolon)))
  command (Stores w a e) h d =
      let value = next (term e h.1) (λ rest. refl) (next close_paren (λ rest. refl) semicolon) in
      on_line d (next (store_word w) (λ rest. refl) (next open_paren (λ rest. refl) (next (term a h.0) (λ rest. refl) (next comma (λ rest. refl) (spaced value)))))
  command (Allocates n x b) h d =
      let inner = next (name x h.1) (λ rest. refl) (braced b (block b h.2 (suc d) d)) in
      same_line _ (on_line d (next alloc_word (λ rest. refl) (spaced (next (number n h.0) (λ rest. refl) (spaced (next as_word (λ rest. refl) (spaced inner))))))) (simp append_assoc)
  command (Chooses e b c) h d =
      let blocks = optional_then d (braced b (block b h.1 (suc d) d)) c h.2 (block c h.2 (suc d) d) in
      same_line _ (on_line d (next if_word (λ rest. refl) (spaced (next (term e h.0) (λ rest. refl) blocks)))) (choice_line d (term_text e) (command_text (suc d) b) c h.2)
  command (Repeats e b) h d =
      same_line _ (on_line d (next while_word (λ rest. refl) (spaced (next (term e h.0) (λ rest. refl) (braced b (block b h.1 (suc d) d)))))) (simp append_assoc)
  command (Calls xs f es) h d = on_line d (targets_then xs (recursion_from_All IsName xs h.0) (call es (recursion_from_All IsTerm es h.2) (name f h.1)))
  command (Interacts xs k es) h d = on_line d (targets_then xs (recursion_from_All IsName xs h.0) (call es (recursion_from_All IsTerm es h.1) (device_word k)))
  command Ends h d = absurd h
  command (Then c b) h d = absurd h

  -- the commands of a block and the bracket that closes it
  pub block : (b : Command) → IsBlock b → (d k : ℕ) → Spelled true (CommandsAt b) (command_text d b ++ (indent k ++ codes "}"))
  block Ends h d k = behind (indent k) (indent_blanks k) close_brace
  block (Then c b) h d k = same_text _ (line_then (command c h.0 d) (block b h.1 d k)) (sym (append_assoc (command_text d c) (command_text d b) (indent k ++ codes "}")))
  block Skips h d k = absurd h
  block (Sets x e) h d k = absurd h
  block (Unsets x) h d k = absurd h
  block (Stores w a e) h d k = absurd h
  block (Allocates n x b) h d k = absurd h
  block (Chooses e b c) h d k = absurd h
  block (Repeats e b) h d k = absurd h
  block (Calls xs f es) h d k = absurd h
  block (Interacts xs k es) h d m = absurd h
