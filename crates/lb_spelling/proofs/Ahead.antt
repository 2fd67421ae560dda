-- Each state can be completed.
use Rattle.std.proofs.Common.{◌≡◌, ℕ, ◌≤◌, Bool, true, false, not, ◌&&◌, ◌||◌, List, [], ◌∷◌, ◌++◌, length, Option, Some, None, refl, sym, ap, subst, ◌∙◌, append-nil, arith, inl, inr, leb, eqb}
use Rattle.std.specs.Prelude.{is_some}
use Rattle.std.specs.List.{list_all, list_any, find}
use Rattle.std.proofs.lemmas.Bool.{true≢false, false≢true, and_parts, and_from, or_left, or_right, or_cases, leb-true}
use Rattle.std.proofs.lemmas.List.{length-append}
use Rattle.std.proofs.lemmas.List.Folds.{list_all-append}
use Rattle.lb_syntax.specs.Names.{starts_name, is_reserved}
use Rattle.lb_syntax.specs.declared.tree.Op.TheVariants.{Add}
use Rattle.lb_syntax.specs.Tree.{Number, Ends}
use Rattle.lb_spelling.specs.declared.symbol.Symbol.{Symbol}
use Rattle.lb_spelling.specs.declared.symbol.Symbol.TheVariants as symbols
use Rattle.lb_spelling.specs.Tokens.{Token, Numeral, Named, As, OpenParen, CloseParen, OpenBrace, CloseBrace, Comma, Semicolon, Becomes, Sign, Stands, IsLongest, is_blank, is_word_byte, hex_mark, is_hex, is_digit_of, is_numeral, is_number, is_word, value, spelling, fixed, is_word_like, lexeme, joins, begins_with, same, comment_start}
use Rattle.lb_spelling.specs.InternalMachine.{Stack, next, begins, begins_one, begins_number, Lex, Between, InComment, Part}
use Rattle.lb_spelling.proofs.Words.{false_from, same_is, begins_with_is, begins_itself, word_parts, word_from}
use Rattle.lb_spelling.proofs.Lexing.{any_number, any_name, number_is, name_is, Found, found, table_all}
use Rattle.lb_spelling.proofs.Back.{Means, Spells, whole, Function, targets, value as value_at, ends, applied}
use Rattle.lb_spelling.proofs.Back as back
use Rattle.lb_spelling.proofs.StepBack.{Completes}

-- ---- no spelling has a blank in it

pub begins_with_has : (w : List ℕ) (b : ℕ) (s : List ℕ) → begins_with (w ++ b ∷ []) s ≡ true → list_any (λ c. eqb b c) s ≡ true
unfolding begins_with
begins_with_has [] b [] e = absurd cc
begins_with_has [] b (c ∷ s) e = or_left (eqb b c) _ (and_parts (eqb b c) true e).0
begins_with_has (a ∷ w) b [] e = absurd cc
begins_with_has (a ∷ w) b (c ∷ s) e = or_right (eqb b c) (list_any (λ c. eqb b c) s) (begins_with_has w b s (and_parts (eqb a c) (begins_with (w ++ b ∷ []) s) e).1)

list_any_weaker : (p q : Token → Bool) (xs : List Token) → ((t : Token) → p t ≡ true → q t ≡ true) → list_any p xs ≡ true → list_any q xs ≡ true
list_any_weaker p q [] h e = e
list_any_weaker p q (x ∷ xs) h e = elim (or_cases (p x) (list_any p xs) e) [
  | inl here ↦ or_left (q x) _ (h x here)
  | inr there ↦ or_right (q x) _ (list_any_weaker p q xs h there)
]

pub joins_blank : (w : List ℕ) → joins w 32 ≡ false
unfolding joins is_word_byte
joins_blank w = false_from _ (λ e. elim (or_cases (word_part || table_part) (begins_with (w ++ 32 ∷ []) comment_start) e) [
  | inr c ↦ absurd (let h : false ≡ true = begins_with_has w 32 comment_start c in cc)
  | inl d ↦ elim (or_cases word_part table_part d) [
    | inl r ↦ absurd (let h : false ≡ true = (and_parts _ false r).1 in cc)
    | inr f ↦ absurd (let h : false ≡ true = list_any_weaker _ (λ t. list_any (λ c. eqb 32 c) (spelling t)) fixed (λ t. begins_with_has w 32 (spelling t)) f in cc)
  ]
]) where
  word_part : Bool
  word_part = is_word_like w && is_word_byte 32

  table_part : Bool
  table_part = list_any (λ t. begins_with (w ++ 32 ∷ []) (spelling t)) fixed

-- ---- what begins a spelling is the front of one

pub record Extends (x : Symbol) (w : List ℕ) : Type 0 where
  pub more : List ℕ
  pub token : Token
  pub coming : Stack
  pub spelled : lexeme (w ++ more) ≡ Some token
  pub allowed : next x token ≡ Some coming

abbrev pub each : (Token → Type 0) → List Token → Type 0
each P [] = Unit {0}
each P (t ∷ ts) = P t × each P ts

pub pick_each : (P : Token → Type 0) (p : Token → Bool) (xs : List Token) → each P xs → list_any p xs ≡ true → (t : Token) × P t × (p t ≡ true)
pick_each P p [] h e = absurd cc
pick_each P p (x ∷ xs) h e = elim (or_cases (p x) (list_any p xs) e) [
  | inl here ↦ (x, h.0, here)
  | inr there ↦ pick_each P p xs h.1 there
]

all_fixed : each (λ t. lexeme (spelling t) ≡ Some t) fixed
unfolding lexeme is_number is_numeral is_digit_of is_hex value same begins_with
all_fixed = (refl, (refl, (refl, (refl, (refl, (refl, (refl, (refl, (refl, (refl, (refl, (refl, (refl, (refl, (refl, (refl, (refl, (refl, (refl, (refl, (refl, (refl, (refl, (refl, (refl, (refl, (refl, (refl, (refl, (refl, (refl, (refl, (refl, (refl, (refl, (refl, (refl, (refl, (refl, tt)))))))))))))))))))))))))))))))))))))))

some_is : {A : Type 0} (o : Option A) → is_some o ≡ true → (x : A) × (o ≡ Some x)
some_is (Some x) e = (x, refl)
some_is None e = absurd cc

-- a reserved word is short, and with a _ it is a name
abbrev short : Token → Bool
short t = leb (length (spelling t)) 31

low : list_all is_word_byte (95 ∷ []) ≡ true
unfolding is_word_byte
low = refl

longer_word : (w : List ℕ) → is_word w ≡ true → length w ≤ 31 → is_word (w ++ 95 ∷ []) ≡ true
longer_word w e h = let p = word_parts w e in
    word_from (w ++ 95 ∷ []) (record { short = omega (arith, length-append w (95 ∷ [])); start = start w p.start; bytes = list_all-append is_word_byte w (95 ∷ []) ∙ and_from _ _ p.bytes low }) where
      start : (w : List ℕ) → starts_name w ≡ true → starts_name (w ++ 95 ∷ []) ≡ true
      start [] e = absurd (false≢true e)
      start (b ∷ w) e = e

ends_with_low : (w : List ℕ) (t : Token) → Found (λ t. same (spelling t) (w ++ 95 ∷ [])) fixed t → ⊥
ends_with_low w t f =
    let is : spelling t ≡ w ++ 95 ∷ [] = same_is _ _ f.passes in
    let h : list_any (λ c. eqb 95 c) (spelling t) ≡ true = begins_with_has w 95 (spelling t) (rw is (begins_itself (w ++ 95 ∷ []))) in
    let g : not (list_any (λ c. eqb 95 c) (spelling t)) ≡ true = table_all (λ t. not (list_any (λ c. eqb 95 c) (spelling t))) _ t refl f in
    true≢false (sym g ∙ ap not h)

word_extends : (x : Symbol) (w : List ℕ) → is_some (next x (Named [])) ≡ true → is_word w ≡ true → Extends x w
word_extends x w a e = go (find (λ t. same (spelling t) w) fixed) refl where
  longer : (o : Option Token) → length w ≤ 31 → find (λ t. same (spelling t) (w ++ 95 ∷ [])) fixed ≡ o → Extends x w
  longer (Some t) h f = absurd (ends_with_low w t (found (λ t. same (spelling t) (w ++ 95 ∷ [])) fixed t f))
  longer None h f = let y = some_is _ (any_name x (w ++ 95 ∷ []) ∙ a) in
      record { more = 95 ∷ []; token = Named (w ++ 95 ∷ []); coming = y.0; spelled = name_is (w ++ 95 ∷ []) (longer_word w e h) f; allowed = y.1 }

  go : (o : Option Token) → find (λ t. same (spelling t) w) fixed ≡ o → Extends x w
  go None f = let y = some_is _ (any_name x w ∙ a) in
      record { more = []; token = Named w; coming = y.0; spelled = rw append-nil (name_is w e f); allowed = y.1 }
  go (Some t) f =
      let g = found (λ t. same (spelling t) w) fixed t f in
      let is : spelling t ≡ w = same_is (spelling t) w g.passes in
      let h : length (spelling t) ≤ 31 = leb-true (length (spelling t)) 31 (table_all short (λ t. same (spelling t) w) t refl g) in
      longer (find (λ t. same (spelling t) (w ++ 95 ∷ [])) fixed) (rw is at h) refl

marked_zero : lexeme (hex_mark ++ 48 ∷ []) ≡ Some (Numeral 0)
unfolding lexeme is_number is_numeral is_digit_of is_hex value begins_with
marked_zero = refl

number_extends : (x : Symbol) (w : List ℕ) → is_some (next x (Numeral 0)) ≡ true → begins_number w ≡ true → Extends x w
unfolding begins_number
number_extends x w a e = elim (or_cases (is_number w) (same hex_mark w) e) [
  | inl n ↦ (let y = some_is _ (any_number x (value w) ∙ a) in
      record { more = []; token = Numeral (value w); coming = y.0; spelled = rw append-nil (number_is w n); allowed = y.1 })
  | inr m ↦ (let y = some_is _ a in
      record { more = 48 ∷ []; token = Numeral 0; coming = y.0; spelled = ap (λ (u : List ℕ). lexeme (u ++ 48 ∷ [])) (sym (same_is hex_mark w m)) ∙ marked_zero; allowed = y.1 })
]

pub extends : (x : Symbol) (w : List ℕ) → begins_one x w ≡ true → Extends x w
unfolding begins_one
extends x w e = elim (or_cases (number_part || word_part) table_part e) [
  | inr f ↦ (let p = pick_each (λ t. lexeme (spelling t) ≡ Some t) (λ t. is_some (next x t) && begins_with w (spelling t)) fixed all_fixed f in
      let q = and_parts (is_some (next x p.0)) (begins_with w (spelling p.0)) p.2 in
      let v = begins_with_is w (spelling p.0) q.1 in
      let y = some_is (next x p.0) q.0 in
      record { more = v.0; token = p.0; coming = y.0; spelled = ap lexeme (sym v.1) ∙ p.1; allowed = y.1 })
  | inl d ↦ elim (or_cases number_part word_part d) [
    | inl n ↦ (let q = and_parts (is_some (next x (Numeral 0))) (begins_number w) n in number_extends x w q.0 q.1)
    | inr n ↦ (let q = and_parts (is_some (next x (Named []))) (is_word w) n in word_extends x w q.0 q.1)
  ]
] where
  number_part : Bool
  number_part = is_some (next x (Numeral 0)) && begins_number w

  word_part : Bool
  word_part = is_some (next x (Named [])) && is_word w

  table_part : Bool
  table_part = list_any (λ t. is_some (next x t) && begins_with w (spelling t)) fixed

-- ---- a text for a stack

-- these tokens, each behind a blank
abbrev spell : List (List ℕ) → List ℕ → List ℕ
spell [] s = s
spell (w ∷ ws) s = 32 ∷ w ++ spell ws s

-- the words of a short text for a symbol: `)`, `{ }`, `( ) ;`, `= f ( ) ;` and the like
abbrev words : Symbol → List (List ℕ)
words symbols.Functions = []
words symbols.Names = (41 ∷ []) ∷ []
words symbols.MoreNames = (41 ∷ []) ∷ []
words symbols.Results = (123 ∷ []) ∷ (125 ∷ []) ∷ []
words symbols.Block = (123 ∷ []) ∷ (125 ∷ []) ∷ []
words symbols.Commands = (125 ∷ []) ∷ []
words symbols.AfterIf = (125 ∷ []) ∷ []
words symbols.AfterName = (40 ∷ []) ∷ (41 ∷ []) ∷ (59 ∷ []) ∷ []
words symbols.MoreTargets = (61 ∷ []) ∷ (102 ∷ []) ∷ (40 ∷ []) ∷ (41 ∷ []) ∷ (59 ∷ []) ∷ []
words symbols.Source = (48 ∷ []) ∷ (59 ∷ []) ∷ []
words symbols.AfterSource = (59 ∷ []) ∷ []
words symbols.Callee = (102 ∷ []) ∷ (40 ∷ []) ∷ (41 ∷ []) ∷ (59 ∷ []) ∷ []
words symbols.Arguments = (41 ∷ []) ∷ []
words symbols.MoreArguments = (41 ∷ []) ∷ []
words symbols.Expr = (48 ∷ []) ∷ []
words symbols.Sign = (43 ∷ []) ∷ []
words symbols.Name = (102 ∷ []) ∷ []
words symbols.Number = (48 ∷ []) ∷ []
words symbols.OpenParen = (40 ∷ []) ∷ []
words symbols.CloseParen = (41 ∷ []) ∷ []
words symbols.Comma = (44 ∷ []) ∷ []
words symbols.Semicolon = (59 ∷ []) ∷ []
words symbols.As = (97 ∷ 115 ∷ []) ∷ []

abbrev pub shortest : Stack → List ℕ
shortest [] = 32 ∷ []
shortest (x ∷ k) = spell (words x) (shortest k)

-- a text that begins with a blank
pub record Blanked (s : List ℕ) : Type 0 where
  pub more : List ℕ
  pub is : s ≡ 32 ∷ more

blanked : (ws : List (List ℕ)) (s : List ℕ) → Blanked s → Blanked (spell ws s)
blanked [] s b = b
blanked (w ∷ ws) s b = record { more = w ++ spell ws s; is = refl }

pub shortest_blanked : (k : Stack) → Blanked (shortest k)
shortest_blanked [] = record { more = []; is = refl }
shortest_blanked (x ∷ k) = blanked (words x) (shortest k) (shortest_blanked k)

pub longest_blank : (w s : List ℕ) → Blanked s → IsLongest w s
longest_blank w s b = subst (λ (u : List ℕ). IsLongest w u) (sym b.is) (joins_blank w)

short_token : (t : Token) (w : List ℕ) (ws : List (List ℕ)) (s : List ℕ) → lexeme w ≡ Some t → Blanked s → Stands t (spell (w ∷ ws) s) (spell ws s)
unfolding is_blank
short_token t w ws s e b = record { before = 32 ∷ []; word = w; parts = refl; is_gap = refl; spelled = e; longest = longest_blank w (spell ws s) (blanked ws s b) }

short_zero : lexeme (48 ∷ []) ≡ Some (Numeral 0)
unfolding lexeme is_number is_numeral is_digit_of is_hex value begins_with
short_zero = refl

short_name : lexeme (102 ∷ []) ≡ Some (Named (102 ∷ []))
unfolding lexeme is_number is_numeral is_digit_of is_hex begins_with same is_reserved
short_name = refl

short_open : lexeme (40 ∷ []) ≡ Some OpenParen
unfolding lexeme is_number is_numeral is_digit_of is_hex begins_with same
short_open = refl

short_close : lexeme (41 ∷ []) ≡ Some CloseParen
unfolding lexeme is_number is_numeral is_digit_of is_hex begins_with same
short_close = refl

short_open_brace : lexeme (123 ∷ []) ≡ Some OpenBrace
unfolding lexeme is_number is_numeral is_digit_of is_hex begins_with same
short_open_brace = refl

short_close_brace : lexeme (125 ∷ []) ≡ Some CloseBrace
unfolding lexeme is_number is_numeral is_digit_of is_hex begins_with same
short_close_brace = refl

short_comma : lexeme (44 ∷ []) ≡ Some Comma
unfolding lexeme is_number is_numeral is_digit_of is_hex begins_with same
short_comma = refl

short_semicolon : lexeme (59 ∷ []) ≡ Some Semicolon
unfolding lexeme is_number is_numeral is_digit_of is_hex begins_with same
short_semicolon = refl

short_becomes : lexeme (61 ∷ []) ≡ Some Becomes
unfolding lexeme is_number is_numeral is_digit_of is_hex begins_with same
short_becomes = refl

short_sign : lexeme (43 ∷ []) ≡ Some (Sign Add)
unfolding lexeme is_number is_numeral is_digit_of is_hex begins_with same
short_sign = refl

short_as : lexeme (97 ∷ 115 ∷ []) ≡ Some As
unfolding lexeme is_number is_numeral is_digit_of is_hex begins_with same
short_as = refl

abbrev f_open_close : List (List ℕ)
f_open_close = (40 ∷ []) ∷ (41 ∷ []) ∷ (59 ∷ []) ∷ []

short_applied : (s : List ℕ) → Blanked s → back.AppliedAt [] (spell f_open_close s) s
short_applied s b = (_, short_token OpenParen (40 ∷ []) ((41 ∷ []) ∷ (59 ∷ []) ∷ []) s short_open b, (_, refl, (_, short_token CloseParen (41 ∷ []) ((59 ∷ []) ∷ []) s short_close b, short_token Semicolon (59 ∷ []) [] s short_semicolon b)))

short_means : (x : Symbol) (s : List ℕ) → Blanked s → Means x (spell (words x) s) s
short_means symbols.Functions s b = ([], refl)
short_means symbols.Names s b = ([], (_, refl, short_token CloseParen (41 ∷ []) [] s short_close b))
short_means symbols.MoreNames s b = ([], (_, refl, short_token CloseParen (41 ∷ []) [] s short_close b))
short_means symbols.Results s b = ([], Ends, (_, refl, (_, short_token OpenBrace (123 ∷ []) ((125 ∷ []) ∷ []) s short_open_brace b, short_token CloseBrace (125 ∷ []) [] s short_close_brace b)))
short_means symbols.Block s b = (Ends, (_, short_token OpenBrace (123 ∷ []) ((125 ∷ []) ∷ []) s short_open_brace b, short_token CloseBrace (125 ∷ []) [] s short_close_brace b))
short_means symbols.Commands s b = (Ends, short_token CloseBrace (125 ∷ []) [] s short_close_brace b)
short_means symbols.AfterIf s b = (Ends, Ends, (_, inr (refl, refl), short_token CloseBrace (125 ∷ []) [] s short_close_brace b))
short_means symbols.AfterName s b = back.AfterNameAt.applied [] (short_applied s b)
short_means symbols.MoreTargets s b = targets [] (Function (102 ∷ [])) [] (_, refl, (_, short_token Becomes (61 ∷ []) ((102 ∷ []) ∷ f_open_close) s short_becomes b, (_, short_token (Named (102 ∷ [])) (102 ∷ []) f_open_close s short_name b, short_applied s b)))
short_means symbols.Source s b = value_at (Number 0) (_, short_token (Numeral 0) (48 ∷ []) ((59 ∷ []) ∷ []) s short_zero b, short_token Semicolon (59 ∷ []) [] s short_semicolon b)
short_means symbols.AfterSource s b = ends (short_token Semicolon (59 ∷ []) [] s short_semicolon b)
short_means symbols.Callee s b = (Function (102 ∷ []), [], (_, short_token (Named (102 ∷ [])) (102 ∷ []) f_open_close s short_name b, short_applied s b))
short_means symbols.Arguments s b = ([], (_, refl, short_token CloseParen (41 ∷ []) [] s short_close b))
short_means symbols.MoreArguments s b = ([], (_, refl, short_token CloseParen (41 ∷ []) [] s short_close b))
short_means symbols.Expr s b = (Number 0, short_token (Numeral 0) (48 ∷ []) [] s short_zero b)
short_means symbols.Sign s b = (Add, short_token (Sign Add) (43 ∷ []) [] s short_sign b)
short_means symbols.Name s b = (102 ∷ [], short_token (Named (102 ∷ [])) (102 ∷ []) [] s short_name b)
short_means symbols.Number s b = (0, short_token (Numeral 0) (48 ∷ []) [] s short_zero b)
short_means symbols.OpenParen s b = short_token OpenParen (40 ∷ []) [] s short_open b
short_means symbols.CloseParen s b = short_token CloseParen (41 ∷ []) [] s short_close b
short_means symbols.Comma s b = short_token Comma (44 ∷ []) [] s short_comma b
short_means symbols.Semicolon s b = short_token Semicolon (59 ∷ []) [] s short_semicolon b
short_means symbols.As s b = short_token As (97 ∷ 115 ∷ []) [] s short_as b

pub shortest_spells : (k : Stack) → Spells k (shortest k)
unfolding is_blank
shortest_spells [] = refl
shortest_spells (x ∷ k) = (shortest k, short_means x (shortest k) (shortest_blanked k), shortest_spells k)

-- ---- a state that the machine can come to
abbrev pub Fine : Lex → Stack → Type 0
Fine Between k = Unit {0}
Fine InComment k = Unit {0}
Fine (Part []) k = ⊥
Fine (Part (b ∷ w)) k = begins k (b ∷ w) ≡ true

comment_front : (k : Stack) (w : List ℕ) → begins_with w comment_start ≡ true → (s : List ℕ) × Completes (Part w) k s
comment_front k w e = let v = begins_with_is w comment_start e in
    (v.0 ++ 10 ∷ shortest k, inr (record { more = v.0; rest = 10 ∷ shortest k; parts = refl; slashes = sym v.1; comment = inl (record { comment = 10 ∷ []; rest = shortest k; parts = refl; is_gap = refl; others = shortest_spells k }) }))

pub completable : (lx : Lex) (k : Stack) → Fine lx k → (s : List ℕ) × Completes lx k s
completable Between k f = (shortest k, shortest_spells k)
completable InComment k f = (10 ∷ shortest k, inl (record { comment = 10 ∷ []; rest = shortest k; parts = refl; is_gap = refl; others = shortest_spells k }))
completable (Part []) k f = absurd f
completable (Part (b ∷ w)) [] f = comment_front [] (b ∷ w) f
completable (Part (b ∷ w)) (x ∷ k) f = elim (or_cases (begins_one x (b ∷ w)) (begins_with (b ∷ w) comment_start) f) [
  | inr c ↦ comment_front (x ∷ k) (b ∷ w) c
  | inl o ↦ (let p = extends x (b ∷ w) o in
      (p.more ++ shortest (p.coming ++ k), inl (record { x = x; below = k; stack = refl; token = p.token; coming = p.coming; more = p.more; rest = shortest (p.coming ++ k); parts = refl; spelled = p.spelled; longest = longest_blank (b ∷ w ++ p.more) (shortest (p.coming ++ k)) (shortest_blanked (p.coming ++ k)); allowed = p.allowed; others = shortest_spells (p.coming ++ k) })))
]
