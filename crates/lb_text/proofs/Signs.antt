-- Which token a symbol takes.
use Rattle.std.proofs.Common.{◌≡◌, ℕ, ◌≤◌, true, [], ◌∷◌, refl, subst}
use Rattle.std.specs.Prelude.{is_some}
use Rattle.lb_syntax.specs.Names.{Text}
use Rattle.lb_syntax.specs.Brackets.{most_brackets}
use Rattle.lb_spelling.specs.declared.symbol.Symbol.{Symbol}
use Rattle.lb_spelling.specs.declared.symbol.Symbol.TheVariants as symbols
use Rattle.lb_spelling.specs.Tokens.{Token, Stands, OpenParen, CloseParen, OpenBrace, Comma, Semicolon, As}
use Rattle.lb_spelling.specs.InternalMachine.{next_open_paren, next_close_paren, next_comma, next_semicolon, next_as, next_block, opened}
use Rattle.lb_spelling.specs.InternalParsing.{Takes}
use Rattle.lb_text.specs.InternalReading.{Reads, is_sign, sign_of}
use Rattle.lb_text.proofs.Steps.{token_reads}

open_paren_only : (t : Token) → is_some (next_open_paren t) ≡ true → t ≡ OpenParen
open_paren_only OpenParen e = refl
open_paren_only _ e = absurd cc

close_paren_only : (t : Token) → is_some (next_close_paren t) ≡ true → t ≡ CloseParen
close_paren_only CloseParen e = refl
close_paren_only _ e = absurd cc

comma_only : (t : Token) → is_some (next_comma t) ≡ true → t ≡ Comma
comma_only Comma e = refl
comma_only _ e = absurd cc

semicolon_only : (t : Token) → is_some (next_semicolon t) ≡ true → t ≡ Semicolon
semicolon_only Semicolon e = refl
semicolon_only _ e = absurd cc

as_only : (t : Token) → is_some (next_as t) ≡ true → t ≡ As
as_only As e = refl
as_only _ e = absurd cc

pub block_only : (t : Token) → is_some (next_block t) ≡ true → t ≡ OpenBrace
block_only OpenBrace e = refl
block_only _ e = absurd cc

pub takes_this : {n : ℕ} {x : Symbol} {t : Token} {s rest : Text} (u : Token) → t ≡ u → Takes n x t s rest → Takes n x u s rest
takes_this {n} {x} {t} {s} {rest} u e p = subst (λ (v : Token). Takes n x v s rest) e p

pub sign_reads : (n : ℕ) (x : Symbol) (t : Token) (s rest : Text) → n ≤ most_brackets → is_sign x ≡ true → Takes n x t s rest → Reads n (x ∷ []) (Stands (sign_of x)) (opened (sign_of x) n) [] s rest
sign_reads n symbols.OpenParen t s rest h e p = token_reads h (takes_this OpenParen (open_paren_only t p.taken) p)
sign_reads n symbols.CloseParen t s rest h e p = token_reads h (takes_this CloseParen (close_paren_only t p.taken) p)
sign_reads n symbols.Comma t s rest h e p = token_reads h (takes_this Comma (comma_only t p.taken) p)
sign_reads n symbols.Semicolon t s rest h e p = token_reads h (takes_this Semicolon (semicolon_only t p.taken) p)
sign_reads n symbols.As t s rest h e p = token_reads h (takes_this As (as_only t p.taken) p)
sign_reads n _ t s rest h e p = absurd cc
