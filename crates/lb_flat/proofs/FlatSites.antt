-- Flat code has the source's stackalloc blocks, in the same order.
use Rattle.std.proofs.Common.{◌≡◌, ℕ, zero, suc, ◌+◌, List, [], ◌∷◌, ◌++◌, drop, length, Option, Some, None, refl, sym, ap, ◌∙◌, append_assoc, append-nil}
use Rattle.lb_syntax.specs.Names.{Text}
use Rattle.lb_syntax.specs.Tree.{Term, Number, Variable, Loaded, Operation}
use Rattle.lb_syntax.specs.Tree.{Command, Skips, Sets, Unsets, Stores, Allocates, Chooses, Repeats, Calls, Interacts, Ends, Then}
use Rattle.lb_syntax.specs.Needs.{sites as source_sites}
use Rattle.lb_flat.specs.Code.{Code, Nothing, sites}
use Rattle.lb_flat.specs.InternalFlatForms.{term_code, terms_code, flat_code}

pub term_sites : (number : Text → ℕ) (e : Term) (target : Option ℕ) (t : ℕ) (rest : Code ℕ) → sites (term_code number e target t rest) ≡ sites rest
term_sites number (Number n) target t rest = refl
term_sites number (Variable x) None t rest = refl
term_sites number (Variable x) (Some y) t rest = refl
term_sites number (Loaded w a) target t rest = term_sites number a None t _
term_sites number (Operation op l r) target t rest = term_sites number l None t _ ∙ term_sites number r None (t + 1) _

pub terms_sites : (number : Text → ℕ) (es : List Term) (t : ℕ) (rest : Code ℕ) → sites (terms_code number es t rest) ≡ sites rest
terms_sites number [] t rest = refl
terms_sites number (e ∷ es) t rest = term_sites number e None t _ ∙ terms_sites number es (t + 1) rest

module _ (number function : Text → ℕ) (t : ℕ) where
  pub command_sites : (c : Command) (rest : Code ℕ) → sites (flat_code number function t c rest) ≡ source_sites c ++ sites rest
  command_sites Skips rest = refl
  command_sites (Sets x e) rest = term_sites number e (Some (number x)) t rest
  command_sites (Unsets x) rest = refl
  command_sites (Stores w a e) rest = term_sites number a None t _ ∙ term_sites number e None (t + 1) _
  command_sites (Allocates n x b) rest = ap (λ l. (n ∷ l) ++ sites rest) (command_sites b Nothing ∙ append-nil (source_sites b))
  command_sites (Chooses e b d) rest =
      term_sites number e None t _
      ∙ ap (λ l. (l ++ sites (flat_code number function t d Nothing)) ++ sites rest) (command_sites b Nothing ∙ append-nil (source_sites b))
      ∙ ap (λ l. (source_sites b ++ l) ++ sites rest) (command_sites d Nothing ∙ append-nil (source_sites d))
  command_sites (Repeats e b) rest =
      ap (λ l. (l ++ sites (flat_code number function t b Nothing)) ++ sites rest) (term_sites number e None t Nothing)
      ∙ ap (λ l. l ++ sites rest) (command_sites b Nothing ∙ append-nil (source_sites b))
  command_sites (Calls xs f es) rest = terms_sites number es t _
  command_sites (Interacts xs k es) rest = terms_sites number es t _
  command_sites Ends rest = refl
  command_sites (Then c d) rest =
      command_sites c (flat_code number function t d rest) ∙ ap (λ l. source_sites c ++ l) (command_sites d rest)
      ∙ sym (append_assoc (source_sites c) (source_sites d) (sites rest))

  pub block_sites : (b : Command) → sites (flat_code number function t b Nothing) ≡ source_sites b
  block_sites b = command_sites b Nothing ∙ append-nil (source_sites b)

-- ---- offsets left over

drop_none : (n : ℕ) → ◌≡◌ {A = List ℕ} (drop n []) []
drop_none zero = refl
drop_none (suc n) = refl

pub drop_both : (xs ys os : List ℕ) → drop (length ys) (drop (length xs) os) ≡ drop (length (xs ++ ys)) os
drop_both [] ys os = refl
drop_both (x ∷ xs) ys [] = drop_none (length ys)
drop_both (x ∷ xs) ys (o ∷ os) = drop_both xs ys os
