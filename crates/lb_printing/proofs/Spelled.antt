-- Pieces of text that spell what they should, wherever they stand.
use Rattle.std.proofs.Common.{◌≡◌, ℕ, zero, suc, cond, Bool, true, false, ◌&&◌, ◌||◌, ◌==◌, not, [], ◌∷◌, ◌++◌, refl, sym, ap, subst, ◌∙◌, append_assoc}
use Rattle.std.specs.List.{list_all}
use Rattle.std.proofs.lemmas.Bool.{and_parts, and_from, cond-true}
use Rattle.std.proofs.lemmas.Bool.Decides.{nat_tests}
use Rattle.std.proofs.Common.{arith}
use Rattle.lb_syntax.specs.Names.{Text}
use Rattle.lb_syntax.specs.Printing.{indent}
use Rattle.lb_spelling.specs.Tokens.{is_blank, Mode, Outside, Slash, Comment, mode_after, gap}
use Rattle.lb_spelling.specs.Grammar.{Standing, ◌then◌, Empty}

-- a byte before which each token ends
abbrev pub is_stop : ℕ → Bool
is_stop b = (b == 32) || (b == 40) || (b == 41) || (b == 44) || (b == 59)

-- what may stand behind a piece: anything where it is closed, else such a byte or nothing
abbrev pub suits : Bool → Text → Bool
suits true rest = true
suits false [] = true
suits false (b ∷ rest) = is_stop b

-- nothing but blanks
abbrev pub is_blanks : Text → Bool
is_blanks text = list_all is_blank text

abbrev pub in_code : Mode → Bool
in_code Outside = true
in_code Slash = true
in_code Comment = false

-- no comment begins in the text, read from a mode on
abbrev pub is_calm : Text → Mode → Bool
is_calm [] m = in_code m
is_calm (b ∷ text) m = in_code m && is_calm text (mode_after m b)

-- no byte is a slash
abbrev pub no_slash : Text → Bool
no_slash text = list_all (λ b. not (b == 47)) text

-- behind blanks, and before what suits, the text spells P; and no comment begins in it
pub record Spelled (closed : Bool) (P : Standing) (text : Text) : Type 0 where
  pub at : (before rest : Text) → is_blanks before ≡ true → suits closed rest ≡ true → P (before ++ (text ++ rest)) rest
  pub calm : (rest : Text) → suits closed rest ≡ true → is_calm rest Outside ≡ true → is_calm (text ++ rest) Outside ≡ true

-- a line spells P, its LF being a blank that comes behind
pub record Lined (P : Standing) (text : Text) : Type 0 where
  pub at : (before rest : Text) → is_blanks before ≡ true → P (before ++ (text ++ rest)) (10 ∷ rest)
  pub calm : (rest : Text) → is_calm rest Outside ≡ true → is_calm (text ++ rest) Outside ≡ true

blank_not_slash : (b : ℕ) → is_blank b ≡ true → not (b == 47) ≡ true
unfolding is_blank
blank_not_slash b h = grind (arith, nat_tests)

blanks_no_slash : (g : Text) → is_blanks g ≡ true → no_slash g ≡ true
blanks_no_slash [] h = refl
blanks_no_slash (b ∷ g) h =
    let both = and_parts (is_blank b) (is_blanks g) h in
    and_from (not (b == 47)) (no_slash g) (blank_not_slash b both.0) (blanks_no_slash g both.1)

stays_outside : (b : ℕ) → not (b == 47) ≡ true → mode_after Outside b ≡ Outside
stays_outside b h = go (b == 47) h where
  go : (q : Bool) → not q ≡ true → cond q Slash Outside ≡ Outside
  go true h = absurd cc
  go false h = refl

-- text without slashes begins no comment
pub calm_over : (text rest : Text) → no_slash text ≡ true → is_calm rest Outside ≡ true → is_calm (text ++ rest) Outside ≡ true
calm_over [] rest h c = c
calm_over (b ∷ text) rest h c =
    let both = and_parts (not (b == 47)) (no_slash text) h in
    subst (λ (m : Mode). is_calm (text ++ rest) m ≡ true) (sym (stays_outside b both.0)) (calm_over text rest both.1 c)

-- blanks are a gap
pub blanks_gap : (last : Bool) (g : Text) → is_blanks g ≡ true → gap last Outside g ≡ true
blanks_gap last [] h = refl
blanks_gap last (b ∷ g) h =
    let both = and_parts (is_blank b) (is_blanks g) h in
    cond-true (is_blank b) (gap last Outside g) ((b == 47) && gap last Slash g) both.0 ∙ blanks_gap last g both.1

pub blanks_append : (g h : Text) → is_blanks g ≡ true → is_blanks h ≡ true → is_blanks (g ++ h) ≡ true
blanks_append [] h p q = q
blanks_append (b ∷ g) h p q =
    let both = and_parts (is_blank b) (is_blanks g) p in
    and_from (is_blank b) (is_blanks (g ++ h)) both.0 (blanks_append g h both.1 q)

pub indent_blanks : (d : ℕ) → is_blanks (indent d) ≡ true
unfolding is_blank
indent_blanks zero = refl
indent_blanks (suc d) = indent_blanks d

pub blank : is_blanks (32 ∷ []) ≡ true
unfolding is_blank
blank = refl

pub line_end : is_blanks (10 ∷ []) ≡ true
unfolding is_blank
line_end = refl

-- one piece behind another
pub next : {g f : Bool} {P Q : Standing} {x y : Text} → Spelled g P x → ((rest : Text) → suits g (y ++ rest) ≡ true) → Spelled f Q y → Spelled f (P then Q) (x ++ y)
next {P = P} {x = x} {y = y} p lead q = record {
  at = λ before rest g h.
      (y ++ rest, subst (λ (s : Text). P s (y ++ rest)) (ap (λ (s : Text). before ++ s) (sym (append_assoc x y rest))) (p.at before (y ++ rest) g (lead rest)), q.at [] rest refl h);
  calm = λ rest h c. subst (λ (s : Text). is_calm s Outside ≡ true) (sym (append_assoc x y rest)) (p.calm (y ++ rest) (lead rest) (q.calm rest h c));
}

moved : (before g text rest : Text) → (before ++ g) ++ (text ++ rest) ≡ before ++ ((g ++ text) ++ rest)
moved before g text rest = append_assoc before g (text ++ rest) ∙ ap (λ (s : Text). before ++ s) (sym (append_assoc g text rest))

-- a piece behind blanks
pub behind : (g : Text) → is_blanks g ≡ true → {f : Bool} {P : Standing} {x : Text} → Spelled f P x → Spelled f P (g ++ x)
behind g blanks {P = P} {x = x} p = record {
  at = λ before rest i h. subst (λ (s : Text). P s rest) (moved before g x rest) (p.at (before ++ g) rest (blanks_append before g i blanks) h);
  calm = λ rest h c. subst (λ (s : Text). is_calm s Outside ≡ true) (sym (append_assoc g x rest)) (calm_over g (x ++ rest) (blanks_no_slash g blanks) (p.calm rest h c));
}

-- a closed piece stands before all that suits
pub kept : {P : Standing} {x : Text} → Spelled true P x → Spelled false P x
kept p = record { at = λ before rest g h. p.at before rest g refl; calm = λ rest h c. p.calm rest refl c }

-- the same text
pub same_text : {f : Bool} {P : Standing} {x : Text} (y : Text) → Spelled f P x → x ≡ y → Spelled f P y
same_text {f = f} {P = P} y p e = subst (λ (t : Text). Spelled f P t) e p

-- nothing, and behind it a piece
pub empty_then : {f : Bool} {Q : Standing} {y : Text} → Spelled f Q y → Spelled f (Empty then Q) y
empty_then {y = y} q = record { at = λ before rest g h. (before ++ (y ++ rest), refl, q.at before rest g h); calm = q.calm }

-- three pieces, the first two taken together
pub regroup : {f : Bool} {P R Q : Standing} {x : Text} → Spelled f (P then (R then Q)) x → Spelled f ((P then R) then Q) x
regroup p = record { at = λ before rest g h. (let t = p.at before rest g h in (t.2.0, (t.0, t.1, t.2.1), t.2.2)); calm = p.calm }

-- a line, and behind it a piece
pub line_then : {f : Bool} {P Q : Standing} {x y : Text} → Lined P x → Spelled f Q y → Spelled f (P then Q) (x ++ y)
line_then {P = P} {x = x} {y = y} p q = record {
  at = λ before rest g h.
      (10 ∷ (y ++ rest), subst (λ (s : Text). P s (10 ∷ (y ++ rest))) (ap (λ (s : Text). before ++ s) (sym (append_assoc x y rest))) (p.at before (y ++ rest) g), q.at (10 ∷ []) rest line_end h);
  calm = λ rest h c. subst (λ (s : Text). is_calm s Outside ≡ true) (sym (append_assoc x y rest)) (p.calm (y ++ rest) (q.calm rest h c));
}

-- the line of a closed piece
pub on_line : (d : ℕ) {P : Standing} {x : Text} → Spelled true P x → Lined P (indent d ++ (x ++ 10 ∷ []))
on_line d {P = P} {x = x} p =
    let q = behind (indent d) (indent_blanks d) p in
    record {
      at = λ before rest g. subst (λ (s : Text). P (before ++ s) (10 ∷ rest)) (ended (indent d) x rest) (q.at before (10 ∷ rest) g refl);
      calm = λ rest c. subst (λ (s : Text). is_calm s Outside ≡ true) (ended (indent d) x rest) (q.calm (10 ∷ rest) refl c);
    } where
      ended : (i x rest : Text) → (i ++ x) ++ 10 ∷ rest ≡ (i ++ (x ++ 10 ∷ [])) ++ rest
      ended i x rest = simp append_assoc

pub same_line : {P : Standing} {x : Text} (y : Text) → Lined P x → x ≡ y → Lined P y
same_line {P = P} y p e = subst (λ (t : Text). Lined P t) e p
