-- Names, numbers, words and signs spell their tokens.
use Rattle.std.proofs.Common.{◌≡◌, ℕ, ◌<◌, true, false, ◌==◌, not, [], ◌∷◌, ◌++◌, length, refl, sym, subst, arith}
use Rattle.std.specs.Prelude.{codes, decimal, Some}
use Rattle.std.specs.List.{list_all}
use Rattle.std.specs.Char.{is_ascii_digit}
use Rattle.std.specs.Str.{all_ascii_digits}
use Rattle.std.proofs.lemmas.Bool.{and_parts, and_from}
use Rattle.std.proofs.lemmas.Bool.Decides.{nat_tests}
use Rattle.lb_syntax.specs.declared.tree.Op.{Op}
use Rattle.lb_syntax.specs.declared.tree.Op.TheVariants.{Add, Sub, Mul, Mulhuu, Divu, Remu, And, Or, Xor, Sru, Slu, Srs, Lts, Ltu, Eq}
use Rattle.lb_syntax.specs.declared.tree.Width.{Width}
use Rattle.lb_syntax.specs.declared.tree.Width.TheVariants.{One, Two, Four}
use Rattle.lb_syntax.specs.declared.tree.Action.{Action}
use Rattle.lb_syntax.specs.declared.tree.Action.TheVariants.{Read, Write}
use Rattle.lb_syntax.specs.Names.{Text, IsName}
use Rattle.lb_syntax.specs.WellFormed.{IsWord}
use Rattle.lb_syntax.specs.Printing.{op_text, width_text, action_text}
use Rattle.lb_spelling.specs.Tokens.{Token, Numeral, Named, Fn, If, Else, While, Skip, Unset, StackAlloc, As, Load, Store, Device, OpenParen, CloseParen, OpenBrace, CloseBrace, Comma, Semicolon, Becomes, Arrow, Sign}
use Rattle.lb_spelling.specs.Tokens.{is_word_byte, begins_with, same, is_hex, is_digit_of, value, is_numeral, is_number, lexeme, joins, Stands, Mode, Outside, Slash, mode_after}
use Rattle.lb_spelling.proofs.Words.{name_bytes}
use Rattle.lb_printing.proofs.Spelled.{is_stop, suits, no_slash, is_calm, Spelled, blanks_gap}
use Rattle.lb_printing.proofs.SpelledTokens.{stop_cases, stop_ends, word, closed}
use Rattle.lb_printing.proofs.Lexemes.{name_some, name_lexeme, decimal_digits, decimal_some, decimal_lexeme}

-- ---- names and numbers

name_byte : (b : ℕ) → is_word_byte b ≡ true → not (b == 47) ≡ true
unfolding is_word_byte
name_byte b h = grind (arith, nat_tests)

word_bytes : (text : Text) → list_all is_word_byte text ≡ true → no_slash text ≡ true
word_bytes [] h = refl
word_bytes (b ∷ text) h =
    let both = and_parts (is_word_byte b) (list_all is_word_byte text) h in
    and_from (not (b == 47)) (no_slash text) (name_byte b both.0) (word_bytes text both.1)

digit_byte : (b : ℕ) → is_ascii_digit b ≡ true → not (b == 47) ≡ true
digit_byte b h = grind (arith, nat_tests)

digit_bytes : (text : Text) → all_ascii_digits text ≡ true → no_slash text ≡ true
digit_bytes [] h = refl
digit_bytes (b ∷ text) h =
    let both = and_parts (is_ascii_digit b) (all_ascii_digits text) h in
    and_from (not (b == 47)) (no_slash text) (digit_byte b both.0) (digit_bytes text both.1)

some_word : {t : Token} (w : Text) → 0 < length w → lexeme w ≡ Some t → no_slash w ≡ true → Spelled false (Stands t) w
some_word [] some e h = absurd (omega (arith, some))
some_word (a ∷ u) some e h = word a u e h

pub number : (n : ℕ) → IsWord n → Spelled false (Stands (Numeral n)) (decimal n)
number n h = some_word (decimal n) (decimal_some n h) (decimal_lexeme n h) (digit_bytes (decimal n) (decimal_digits n h))

pub name : (x : Text) → IsName x → Spelled false (Stands (Named x)) x
name x h = some_word x (name_some x h) (name_lexeme x h) (word_bytes x (name_bytes x h))

-- ---- words

pub fn_word : Spelled false (Stands Fn) (codes "fn")
unfolding lexeme is_number is_numeral is_digit_of is_hex begins_with same value
fn_word = word 102 _ refl refl

pub if_word : Spelled false (Stands If) (codes "if")
unfolding lexeme is_number is_numeral is_digit_of is_hex begins_with same value
if_word = word 105 _ refl refl

pub else_word : Spelled false (Stands Else) (codes "else")
unfolding lexeme is_number is_numeral is_digit_of is_hex begins_with same value
else_word = word 101 _ refl refl

pub while_word : Spelled false (Stands While) (codes "while")
unfolding lexeme is_number is_numeral is_digit_of is_hex begins_with same value
while_word = word 119 _ refl refl

pub skip_word : Spelled false (Stands Skip) (codes "skip")
unfolding lexeme is_number is_numeral is_digit_of is_hex begins_with same value
skip_word = word 115 _ refl refl

pub unset_word : Spelled false (Stands Unset) (codes "unset")
unfolding lexeme is_number is_numeral is_digit_of is_hex begins_with same value
unset_word = word 117 _ refl refl

pub alloc_word : Spelled false (Stands StackAlloc) (codes "stackalloc")
unfolding lexeme is_number is_numeral is_digit_of is_hex begins_with same value
alloc_word = word 115 _ refl refl

pub as_word : Spelled false (Stands As) (codes "as")
unfolding lexeme is_number is_numeral is_digit_of is_hex begins_with same value
as_word = word 97 _ refl refl

pub becomes_sign : Spelled false (Stands Becomes) (codes "=")
unfolding lexeme is_number is_numeral is_digit_of is_hex begins_with same value
becomes_sign = word 61 _ refl refl

pub arrow_sign : Spelled false (Stands Arrow) (codes "->")
unfolding lexeme is_number is_numeral is_digit_of is_hex begins_with same value
arrow_sign = word 45 _ refl refl

pub load_word : (w : Width) → Spelled false (Stands (Load w)) (codes "load" ++ width_text w)
unfolding lexeme is_number is_numeral is_digit_of is_hex begins_with same value
load_word One = word 108 _ refl refl
load_word Two = word 108 _ refl refl
load_word Four = word 108 _ refl refl

pub store_word : (w : Width) → Spelled false (Stands (Store w)) (codes "store" ++ width_text w)
unfolding lexeme is_number is_numeral is_digit_of is_hex begins_with same value
store_word One = word 115 _ refl refl
store_word Two = word 115 _ refl refl
store_word Four = word 115 _ refl refl

pub device_word : (k : Action) → Spelled false (Stands (Device k)) (action_text k)
unfolding lexeme is_number is_numeral is_digit_of is_hex begins_with same value
device_word Read = word 77 _ refl refl
device_word Write = word 77 _ refl refl

-- ---- signs of one byte

pub open_paren : Spelled true (Stands OpenParen) (codes "(")
unfolding lexeme is_number is_numeral is_digit_of is_hex begins_with same value joins is_word_byte
open_paren = closed 40 refl (λ c. refl) refl

pub close_paren : Spelled true (Stands CloseParen) (codes ")")
unfolding lexeme is_number is_numeral is_digit_of is_hex begins_with same value joins is_word_byte
close_paren = closed 41 refl (λ c. refl) refl

pub open_brace : Spelled true (Stands OpenBrace) (codes "{")
unfolding lexeme is_number is_numeral is_digit_of is_hex begins_with same value joins is_word_byte
open_brace = closed 123 refl (λ c. refl) refl

pub close_brace : Spelled true (Stands CloseBrace) (codes "}")
unfolding lexeme is_number is_numeral is_digit_of is_hex begins_with same value joins is_word_byte
close_brace = closed 125 refl (λ c. refl) refl

pub comma : Spelled true (Stands Comma) (codes ",")
unfolding lexeme is_number is_numeral is_digit_of is_hex begins_with same value joins is_word_byte
comma = closed 44 refl (λ c. refl) refl

pub semicolon : Spelled true (Stands Semicolon) (codes ";")
unfolding lexeme is_number is_numeral is_digit_of is_hex begins_with same value joins is_word_byte
semicolon = closed 59 refl (λ c. refl) refl

-- ---- signs of operations

stop_not_slash : (b : ℕ) → is_stop b ≡ true → mode_after Slash b ≡ mode_after Outside b
stop_not_slash = stop_cases (λ b. mode_after Slash b ≡ mode_after Outside b) refl refl refl refl refl

-- the slash alone begins no comment before a stop
slash_calm : (rest : Text) → suits false rest ≡ true → is_calm rest Outside ≡ true → is_calm (47 ∷ rest) Outside ≡ true
slash_calm [] h c = refl
slash_calm (b ∷ rest) h c = subst (λ (m : Mode). is_calm rest m ≡ true) (sym (stop_not_slash b h)) c

slash : Spelled false (Stands (Sign Divu)) (codes "/")
unfolding lexeme is_number is_numeral is_digit_of is_hex begins_with same value
slash = record {
  at = λ before rest g s. record { before = before; word = codes "/"; parts = refl; is_gap = blanks_gap false before g; spelled = refl; longest = stop_ends 47 [] rest s };
  calm = slash_calm;
}

pub sign : (op : Op) → Spelled false (Stands (Sign op)) (op_text op)
unfolding lexeme is_number is_numeral is_digit_of is_hex begins_with same value
sign Add = word 43 _ refl refl
sign Sub = word 45 _ refl refl
sign Mul = word 42 _ refl refl
sign Mulhuu = word 42 _ refl refl
sign Divu = slash
sign Remu = word 37 _ refl refl
sign And = word 38 _ refl refl
sign Or = word 124 _ refl refl
sign Xor = word 94 _ refl refl
sign Sru = word 62 _ refl refl
sign Slu = word 60 _ refl refl
sign Srs = word 62 _ refl refl
sign Lts = word 60 _ refl refl
sign Ltu = word 60 _ refl refl
sign Eq = word 61 _ refl refl
