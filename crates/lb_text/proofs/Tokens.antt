-- A token of the code that isn't this one is another token of the grammar, and what that leaves to come.
use Rattle.std.proofs.Common.{◌≡◌, ℕ, true, List, [], ◌∷◌, ◌++◌, refl, Bor}
use Rattle.std.specs.Prelude.{is_some}
use Rattle.lb_syntax.specs.declared.tree.Action.{Action}
use Rattle.lb_spelling.specs.declared.symbol.Symbol.TheVariants as symbols
use Rattle.lb_spelling.specs.InternalMachine.{next_source, next_commands, next_after_if, next_results}
use Rattle.lb_text.specs.InternalReading.{coming, begins_command}
use Rattle.lb_spelling.specs.Tokens.{Named, Stands, Comma, CloseParen, OpenBrace}
use Rattle.lb_syntax.specs.Names.{Text, IsName}
use Rattle.lb_spelling.proofs.Lexing.{lexeme_name}
use Rattle.lb_scan.specs.declared.token.Token.{Token as ScannedToken}
use Rattle.lb_scan.specs.declared.token.Token.TheVariants as scanned
use Rattle.lb_scan.specs.Tokens.{token_of}

pub not_comma : (w : ScannedToken) → (w ≡ scanned.Comma → ⊥) → token_of w ≡ Comma → ⊥
not_comma scanned.Comma h e = h refl
not_comma _ h e = absurd cc

pub not_close_paren : (w : ScannedToken) → (w ≡ scanned.CloseParen → ⊥) → token_of w ≡ CloseParen → ⊥
not_close_paren scanned.CloseParen h e = h refl
not_close_paren _ h e = absurd cc

pub source_coming : (w : ScannedToken) → ((x : Bor (List ℕ)) → w ≡ scanned.Name x → ⊥) → ((k : Action) → w ≡ scanned.Device k → ⊥) → is_some (next_source (token_of w)) ≡ true
    → coming symbols.Source (token_of w) ≡ coming symbols.Expr (token_of w) ++ symbols.Semicolon ∷ []
source_coming (scanned.Name x) a b e = absurd (a x refl)
source_coming (scanned.Device k) a b e = absurd (b k refl)
source_coming (scanned.Number n) a b e = refl
source_coming (scanned.Load w) a b e = refl
source_coming scanned.OpenParen a b e = refl
source_coming _ a b e = absurd cc

pub begins : (w : ScannedToken) → (w ≡ scanned.CloseBrace → ⊥) → is_some (next_commands (token_of w)) ≡ true → begins_command (token_of w) ≡ true
begins scanned.CloseBrace h e = absurd (h refl)
begins scanned.Skip h e = refl
begins scanned.Unset h e = refl
begins (scanned.Store w) h e = refl
begins scanned.StackAlloc h e = refl
begins scanned.If h e = refl
begins scanned.While h e = refl
begins (scanned.Name x) h e = refl
begins (scanned.Device k) h e = refl
begins _ h e = absurd cc

pub as_commands : (w : ScannedToken) → (w ≡ scanned.Else → ⊥) → next_after_if (token_of w) ≡ next_commands (token_of w)
as_commands scanned.Else h = absurd (h refl)
as_commands _ h = refl

pub braced : (w : ScannedToken) → (w ≡ scanned.Arrow → ⊥) → is_some (next_results (token_of w)) ≡ true → token_of w ≡ OpenBrace
braced scanned.Arrow h e = absurd (h refl)
braced scanned.OpenBrace h e = refl
braced _ h e = absurd cc

-- what stands as a name is a name
pub named_is_name : (x s rest : Text) → Stands (Named x) s rest → IsName x
named_is_name x s rest p = (lexeme_name p.word x p.spelled).1
