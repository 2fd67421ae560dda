-- Flat code names variables that are there, each of its commands has the parts that it must have, and it calls whom the source calls.
use Rattle.std.proofs.Common.{◌≡◌, ℕ, ◌+◌, ◌<◌, ◌≤◌, ◌⊎◌, inl, inr, Option, Some, None, List, [], ◌∷◌, ◌++◌, map, length, refl, sym, ap, ◌∙◌, subst, arith, append_assoc, append-nil, All, slice_get}
use Rattle.std.specs.Prelude.{unwrap_or}
use Rattle.std.specs.List.{AllByRecursion}
use Rattle.std.proofs.lemmas.List.{length-map}
use Rattle.std.proofs.lemmas.List.Elements.{All-from_recursion, All-nil}
use Rattle.lb_syntax.specs.Names.{Text}
use Rattle.lb_syntax.specs.Tree.{Term, Number, Variable, Loaded, Operation}
use Rattle.lb_syntax.specs.Tree.{Command, Skips, Sets, Unsets, Stores, Allocates, Chooses, Repeats, Calls, Interacts, Ends, Then}
use Rattle.lb_syntax.specs.WellFormed.{IsTerm, IsCommand, IsBlock}
use Rattle.lb_syntax.specs.Needs.{depth, greatest, greatest_depth, term_names, terms_names, command_names}
use Rattle.lb_syntax.specs.Calls.{CallSite, call_sites, access_sites}
use Rattle.lb_syntax.specs.Rules.{IsGoodAccess, HasShape}
use Rattle.lb_flat.specs.Code.{Code, Plain, Branch, Nothing, Sequence, Compute, Load, Store, Call, Access, Routine}
use Rattle.lb_flat.specs.Order.{EachName, IsVariable, HasShapes, Fits}
use Rattle.lb_flat.specs.SourceCounts.{greatest_arguments}
use Rattle.lb_flat.specs.InternalFlatForms.{holder, holders, term_code, terms_code, flat_code}
use Rattle.lb_flat.proofs.FlatTerms.{AreNumbered, all_left, all_right, holder_below}
use Rattle.lb_flat.specs.Calls.{callees}
use Rattle.lb_flat.proofs.FlatForms.{by_elements}
use Rattle.lb_flat.proofs.FlatCounts.{holders_length}

-- ---- names

depth_positive : (e : Term) → 0 < depth e
depth_positive (Number n) = omega arith
depth_positive (Variable x) = omega arith
depth_positive (Loaded w a) = omega arith
depth_positive (Operation op l r) = omega arith

module _ (n : ℕ) where
  no_names : All (IsVariable n) []
  no_names = All-nil (IsVariable n)

  one_name : (x : ℕ) → x < n → All (IsVariable n) (x ∷ [])
  one_name x h = All-from_recursion (IsVariable n) (x ∷ []) (h, tt)

  two_names : (x y : ℕ) → x < n → y < n → All (IsVariable n) (x ∷ y ∷ [])
  two_names x y h k = All-from_recursion (IsVariable n) (x ∷ y ∷ []) (h, (k, tt))

  pub numbers_named : (number : Text → ℕ) (xs : List Text) → AllByRecursion (λ x. number x < n) xs → AllByRecursion (IsVariable n) (map number xs)
  numbers_named number [] h = tt
  numbers_named number (x ∷ xs) h = (h.0, numbers_named number xs h.1)

  module _ (number : Text → ℕ) (t0 : ℕ) (enough : t0 ≤ n) where
    holder_named : (e : Term) (t : ℕ) → t0 ≤ t → t < n → AreNumbered number t0 (term_names e) → holder number e None t < n
    holder_named e t le room names = omega (arith, holder_below number t0 e t le names, room)

    holders_named : (es : List Term) (t : ℕ) → t0 ≤ t → t + length es ≤ n → AreNumbered number t0 (terms_names es) → AllByRecursion (IsVariable n) (holders number es t)
    holders_named [] t le room names = tt
    holders_named (e ∷ es) t le room names = (
      holder_named e t le (omega (arith, room)) (all_left _ (term_names e) (terms_names es) names),
      holders_named es (t + 1) (omega (arith, le)) (omega (arith, room)) (all_right _ (term_names e) (terms_names es) names),
    )

    term_named : (e : Term) (target : Option ℕ) (t : ℕ) (rest : Code ℕ) → t0 ≤ t → unwrap_or target t < n → AreNumbered number t0 (term_names e) → t + depth e ≤ n → EachName (IsVariable n) rest
        → EachName (IsVariable n) (term_code number e target t rest)
    term_named (Number m) target t rest le into names room k = ((no_names, one_name (unwrap_or target t) into), k)
    term_named (Variable x) None t rest le into names room k = k
    term_named (Variable x) (Some y) t rest le into names room k = ((one_name (number x) (omega (arith, names.0, enough)), one_name y into), k)
    term_named (Loaded w a) target t rest le into names room k =
        let free : t < n = omega (arith, room) in
        term_named a None t (Sequence (Plain (Load w) (holder number a None t ∷ []) (unwrap_or target t ∷ [])) rest) le free names (omega (arith, room))
        ((one_name (holder number a None t) (holder_named a t le free names), one_name (unwrap_or target t) into), k)
    term_named (Operation op l r) target t rest le into names room k =
        let i = holder number l None t in
        let j = holder number r None (t + 1) in
        let last = Sequence (Plain (Compute op) (i ∷ j ∷ []) (unwrap_or target t ∷ [])) rest in
        let left_names = all_left _ (term_names l) (term_names r) names in
        let right_names = all_right _ (term_names l) (term_names r) names in
        let free : t < n = omega (arith, room) in
        let next_free : t + 1 < n = omega (arith, room, depth_positive r) in
        term_named l None t (term_code number r None (t + 1) last) le free left_names (omega (arith, room))
        (term_named r None (t + 1) last (omega (arith, le)) next_free right_names (omega (arith, room))
        ((two_names i j (holder_named l t le free left_names) (holder_named r (t + 1) (omega (arith, le)) next_free right_names), one_name (unwrap_or target t) into), k))

    terms_named : (d : ℕ) (es : List Term) (t : ℕ) (rest : Code ℕ) → t0 ≤ t → AreNumbered number t0 (terms_names es) → greatest (map depth es) ≤ d → t + length es + d ≤ n → EachName (IsVariable n) rest
        → EachName (IsVariable n) (terms_code number es t rest)
    terms_named d [] t rest le names deep room k = k
    terms_named d (e ∷ es) t rest le names deep room k =
        term_named e None t (terms_code number es (t + 1) rest) le (omega (arith, room)) (all_left _ (term_names e) (terms_names es) names) (omega (arith, deep, room))
        (terms_named d es (t + 1) rest (omega (arith, le)) (all_right _ (term_names e) (terms_names es) names) (omega (arith, deep)) (omega (arith, room)) k)

-- a command whose expressions are at most so deep, and whose calls have at most so many arguments
module _ (number function : Text → ℕ) (t d a : ℕ) where
  abbrev count : ℕ
  count = t + d + a

  wider : (xs : List Text) → AreNumbered number t xs → AllByRecursion (λ x. number x < count) xs
  wider [] h = tt
  wider (x ∷ xs) h = (omega (arith, h.0), wider xs h.1)

  -- the arguments and targets of a call or an access
  parts_named : (xs : List Text) (es : List Term) → AreNumbered number t (xs ++ terms_names es) → length es ≤ a → All (IsVariable count) (holders number es t) × All (IsVariable count) (map number xs)
  parts_named xs es names few = (
    All-from_recursion (IsVariable count) (holders number es t) (holders_named count number t (omega arith) es t (omega arith) (omega (arith, few)) (all_right _ xs (terms_names es) names)),
    All-from_recursion (IsVariable count) (map number xs) (numbers_named count number xs (wider xs (all_left _ xs (terms_names es) names))),
  )

  pub command_named : (c : Command) (rest : Code ℕ) → AreNumbered number t (command_names c) → greatest_depth c ≤ d → greatest_arguments c ≤ a → EachName (IsVariable count) rest
      → EachName (IsVariable count) (flat_code number function t c rest)
  command_named Skips rest names deep few k = k
  command_named (Sets x e) rest names deep few k =
      term_named count number t (omega arith) e (Some (number x)) t rest (omega arith) (omega (arith, names.0)) names.1 (omega (arith, deep)) k
  command_named (Unsets x) rest names deep few k = ((no_names count, one_name count (number x) (omega (arith, names.0))), k)
  command_named (Stores w p e) rest names deep few k =
      let i = holder number p None t in
      let j = holder number e None (t + 1) in
      let last = Sequence (Plain (Store w) (i ∷ j ∷ []) []) rest in
      let first_names = all_left _ (term_names p) (term_names e) names in
      let second_names = all_right _ (term_names p) (term_names e) names in
      let free : t < count = omega (arith, few) in
      let next_free : t + 1 < count = omega (arith, few) in
      term_named count number t (omega arith) p None t (term_code number e None (t + 1) last) (omega arith) free first_names (omega (arith, deep))
      (term_named count number t (omega arith) e None (t + 1) last (omega arith) next_free second_names (omega (arith, deep, few))
      ((two_names count i j (holder_named count number t (omega arith) p t (omega arith) free first_names) (holder_named count number t (omega arith) e (t + 1) (omega arith) next_free second_names), no_names count), k))
  command_named (Allocates m x b) rest names deep few k =
      ((omega (arith, names.0), command_named b Nothing names.1 deep few tt), k)
  command_named (Chooses e b f) rest names deep few k =
      let inner = all_right _ (term_names e) (command_names b ++ command_names f) names in
      let own = all_left _ (term_names e) (command_names b ++ command_names f) names in
      let free : t < count = omega (arith, deep, depth_positive e) in
      term_named count number t (omega arith) e None t (Sequence (Branch (holder number e None t) (flat_code number function t b Nothing) (flat_code number function t f Nothing)) rest)
      (omega arith) free own (omega (arith, deep)) (
        (
          holder_named count number t (omega arith) e t (omega arith) free own,
          command_named b Nothing (all_left _ (command_names b) (command_names f) inner) (omega (arith, deep)) (omega (arith, few)) tt,
          command_named f Nothing (all_right _ (command_names b) (command_names f) inner) (omega (arith, deep)) (omega (arith, few)) tt,
        ),
        k,
      )
  command_named (Repeats e b) rest names deep few k = (
    (
      term_named count number t (omega arith) e None t Nothing (omega arith) (omega (arith, deep, depth_positive e)) (all_left _ (term_names e) (command_names b) names) (omega (arith, deep)) tt,
      holder_named count number t (omega arith) e t (omega arith) (omega (arith, deep, depth_positive e)) (all_left _ (term_names e) (command_names b) names),
      command_named b Nothing (all_right _ (term_names e) (command_names b) names) (omega (arith, deep)) (omega (arith, few)) tt,
    ),
    k,
  )
  command_named (Calls xs f es) rest names deep few k =
      terms_named count number t (omega arith) d es t (Sequence (Plain (Call (function f)) (holders number es t) (map number xs)) rest) (omega arith) (all_right _ xs (terms_names es) names) deep (omega (arith, few))
      (parts_named xs es names few, k)
  command_named (Interacts xs j es) rest names deep few k =
      terms_named count number t (omega arith) d es t (Sequence (Plain (Access j) (holders number es t) (map number xs)) rest) (omega arith) (all_right _ xs (terms_names es) names) deep (omega (arith, few))
      (parts_named xs es names few, k)
  command_named Ends rest names deep few k = k
  command_named (Then c f) rest names deep few k =
      command_named c (flat_code number function t f rest) (all_left _ (command_names c) (command_names f) names) (omega (arith, deep)) (omega (arith, few))
      (command_named f rest (all_right _ (command_names c) (command_names f) names) (omega (arith, deep)) (omega (arith, few)) k)

-- ---- shapes

module _ (fs : List (Routine ℕ)) (number function : Text → ℕ) where
  term_shaped : (e : Term) (target : Option ℕ) (t : ℕ) (rest : Code ℕ) → IsTerm e → HasShapes fs rest → HasShapes fs (term_code number e target t rest)
  term_shaped (Number m) target t rest words k = ((words, refl, refl), k)
  term_shaped (Variable x) None t rest words k = k
  term_shaped (Variable x) (Some y) t rest words k = ((refl, refl), k)
  term_shaped (Loaded w a) target t rest words k = term_shaped a None t _ words ((refl, refl), k)
  term_shaped (Operation op l r) target t rest words k = term_shaped l None t _ words.0 (term_shaped r None (t + 1) _ words.1 ((refl, refl), k))

  terms_shaped : (es : List Term) (t : ℕ) (rest : Code ℕ) → AllByRecursion IsTerm es → HasShapes fs rest → HasShapes fs (terms_code number es t rest)
  terms_shaped [] t rest words k = k
  terms_shaped (e ∷ es) t rest words k = term_shaped e None t _ words.0 (terms_shaped es (t + 1) rest words.1 k)

-- the expressions of code are those of a tree
abbrev pub TermsAre : Command → Type 0
TermsAre (Sets x e) = IsTerm e
TermsAre (Stores w a e) = IsTerm a × IsTerm e
TermsAre (Allocates n x b) = TermsAre b
TermsAre (Chooses e b d) = IsTerm e × TermsAre b × TermsAre d
TermsAre (Repeats e b) = IsTerm e × TermsAre b
TermsAre (Calls xs f es) = AllByRecursion IsTerm es
TermsAre (Interacts xs k es) = AllByRecursion IsTerm es
TermsAre (Then c d) = TermsAre c × TermsAre d
TermsAre Skips = Unit {0}
TermsAre (Unsets x) = Unit {0}
TermsAre Ends = Unit {0}

-- in a command or a block of a tree
pub terms_are : (c : Command) → IsCommand c ⊎ IsBlock c → TermsAre c
terms_are Skips h = tt
terms_are (Sets x e) (inl h) = h.1
terms_are (Sets x e) (inr h) = absurd h
terms_are (Unsets x) h = tt
terms_are (Stores w a e) (inl h) = h
terms_are (Stores w a e) (inr h) = absurd h
terms_are (Allocates n x b) (inl h) = terms_are b (inr h.2)
terms_are (Allocates n x b) (inr h) = absurd h
terms_are (Chooses e b d) (inl h) = (h.0, terms_are b (inr h.1), terms_are d (inr h.2))
terms_are (Chooses e b d) (inr h) = absurd h
terms_are (Repeats e b) (inl h) = (h.0, terms_are b (inr h.1))
terms_are (Repeats e b) (inr h) = absurd h
terms_are (Calls xs f es) (inl h) = by_elements IsTerm es h.2
terms_are (Calls xs f es) (inr h) = absurd h
terms_are (Interacts xs k es) (inl h) = by_elements IsTerm es h.1
terms_are (Interacts xs k es) (inr h) = absurd h
terms_are Ends h = tt
terms_are (Then c d) (inl h) = absurd h
terms_are (Then c d) (inr h) = (terms_are c (inl h.0), terms_are d (inr h.1))

module _ (fs : List (Routine ℕ)) (number function : Text → ℕ) (t : ℕ) where
  -- a call fits the function of its number
  abbrev pub FitsNumber : CallSite → Type 0
  FitsNumber site = Fits (slice_get fs (function site.function)) (length site.arguments) (length site.targets)

  -- a fact on numbers of arguments and targets, of those that the code has
  as_numbers : (P : ℕ → ℕ → Type 0) (es : List Term) (xs : List Text) → P (length es) (length xs) → P (length (holders number es t)) (length (map number xs))
  as_numbers P es xs h = subst (λ (i : ℕ). P i (length (map number xs))) (sym (holders_length number es t)) (subst (λ (j : ℕ). P (length es) j) (sym (length-map xs number)) h)

  pub command_shaped : (c : Command) (rest : Code ℕ) → TermsAre c → AllByRecursion FitsNumber (call_sites c) → AllByRecursion IsGoodAccess (access_sites c) → HasShapes fs rest → HasShapes fs (flat_code number function t c rest)
  command_shaped Skips rest words calls accesses k = k
  command_shaped (Sets x e) rest words calls accesses k = term_shaped fs number function e (Some (number x)) t rest words k
  command_shaped (Unsets x) rest words calls accesses k = ((refl, refl), k)
  command_shaped (Stores w p e) rest words calls accesses k =
      let last = Sequence (Plain (Store w) (holder number p None t ∷ holder number e None (t + 1) ∷ []) []) rest in
      term_shaped fs number function p None t (term_code number e None (t + 1) last) words.0 (term_shaped fs number function e None (t + 1) last words.1 ((refl, refl), k))
  command_shaped (Allocates m x b) rest words calls accesses k = ((tt, command_shaped b Nothing words calls accesses tt), k)
  command_shaped (Chooses e b d) rest words calls accesses k =
      term_shaped fs number function e None t (Sequence (Branch (holder number e None t) (flat_code number function t b Nothing) (flat_code number function t d Nothing)) rest) words.0 (
        (
          tt,
          command_shaped b Nothing words.1 (all_left _ (call_sites b) (call_sites d) calls) (all_left _ (access_sites b) (access_sites d) accesses) tt,
          command_shaped d Nothing words.2 (all_right _ (call_sites b) (call_sites d) calls) (all_right _ (access_sites b) (access_sites d) accesses) tt,
        ),
        k,
      )
  command_shaped (Repeats e b) rest words calls accesses k =
      ((term_shaped fs number function e None t Nothing words.0 tt, tt, command_shaped b Nothing words.1 calls accesses tt), k)
  command_shaped (Calls xs f es) rest words calls accesses k =
      terms_shaped fs number function es t (Sequence (Plain (Call (function f)) (holders number es t) (map number xs)) rest) words
      (as_numbers (λ i j. Fits (slice_get fs (function f)) i j) es xs calls.0, k)
  command_shaped (Interacts xs j es) rest words calls accesses k =
      terms_shaped fs number function es t (Sequence (Plain (Access j) (holders number es t) (map number xs)) rest) words
      (as_numbers (λ i j'. HasShape j j' i) es xs accesses.0, k)
  command_shaped Ends rest words calls accesses k = k
  command_shaped (Then c d) rest words calls accesses k =
      command_shaped c (flat_code number function t d rest) words.0 (all_left _ (call_sites c) (call_sites d) calls) (all_left _ (access_sites c) (access_sites d) accesses)
      (command_shaped d rest words.1 (all_right _ (call_sites c) (call_sites d) calls) (all_right _ (access_sites c) (access_sites d) accesses) k)

  -- ---- callees

  term_callees : (e : Term) (target : Option ℕ) (u : ℕ) (rest : Code ℕ) → callees (term_code number e target u rest) ≡ callees rest
  term_callees (Number m) target u rest = refl
  term_callees (Variable x) None u rest = refl
  term_callees (Variable x) (Some y) u rest = refl
  term_callees (Loaded w a) target u rest = term_callees a None u (Sequence (Plain (Load w) (holder number a None u ∷ []) (unwrap_or target u ∷ [])) rest)
  term_callees (Operation op l r) target u rest =
      let last = Sequence (Plain (Compute op) (holder number l None u ∷ holder number r None (u + 1) ∷ []) (unwrap_or target u ∷ [])) rest in
      term_callees l None u (term_code number r None (u + 1) last) ∙ term_callees r None (u + 1) last

  terms_callees : (es : List Term) (u : ℕ) (rest : Code ℕ) → callees (terms_code number es u rest) ≡ callees rest
  terms_callees [] u rest = refl
  terms_callees (e ∷ es) u rest = term_callees e None u (terms_code number es (u + 1) rest) ∙ terms_callees es (u + 1) rest

  -- the numbers of the functions that the source calls
  abbrev called_numbers : List CallSite → List ℕ
  called_numbers sites = map (λ site. function site.function) sites

  called_append : (xs ys : List CallSite) → called_numbers (xs ++ ys) ≡ called_numbers xs ++ called_numbers ys
  called_append [] ys = refl
  called_append (x ∷ xs) ys = ap (λ l. function x.function ∷ l) (called_append xs ys)

  pub command_callees : (c : Command) (rest : Code ℕ) → callees (flat_code number function t c rest) ≡ called_numbers (call_sites c) ++ callees rest
  command_callees Skips rest = refl
  command_callees (Sets x e) rest = term_callees e (Some (number x)) t rest
  command_callees (Unsets x) rest = refl
  command_callees (Stores w p e) rest =
      let last = Sequence (Plain (Store w) (holder number p None t ∷ holder number e None (t + 1) ∷ []) []) rest in
      term_callees p None t (term_code number e None (t + 1) last) ∙ term_callees e None (t + 1) last
  command_callees (Allocates m x b) rest = ap (λ l. l ++ callees rest) (command_callees b Nothing ∙ append-nil (called_numbers (call_sites b)))
  command_callees (Chooses e b d) rest =
      let yes_code = flat_code number function t b Nothing in
      let no_code = flat_code number function t d Nothing in
      term_callees e None t (Sequence (Branch (holder number e None t) yes_code no_code) rest)
      ∙ ap (λ l. (l ++ callees no_code) ++ callees rest) (command_callees b Nothing ∙ append-nil (called_numbers (call_sites b)))
      ∙ ap (λ l. (called_numbers (call_sites b) ++ l) ++ callees rest) (command_callees d Nothing ∙ append-nil (called_numbers (call_sites d)))
      ∙ ap (λ l. l ++ callees rest) (sym (called_append (call_sites b) (call_sites d)))
  command_callees (Repeats e b) rest =
      ap (λ l. (l ++ callees (flat_code number function t b Nothing)) ++ callees rest) (term_callees e None t Nothing)
      ∙ ap (λ l. l ++ callees rest) (command_callees b Nothing ∙ append-nil (called_numbers (call_sites b)))
  command_callees (Calls xs f es) rest = terms_callees es t (Sequence (Plain (Call (function f)) (holders number es t) (map number xs)) rest)
  command_callees (Interacts xs j es) rest = terms_callees es t (Sequence (Plain (Access j) (holders number es t) (map number xs)) rest)
  command_callees Ends rest = refl
  command_callees (Then c d) rest =
      command_callees c (flat_code number function t d rest) ∙ ap (λ l. called_numbers (call_sites c) ++ l) (command_callees d rest)
      ∙ sym (append_assoc (called_numbers (call_sites c)) (called_numbers (call_sites d)) (callees rest))
      ∙ ap (λ l. l ++ callees rest) (sym (called_append (call_sites c) (call_sites d)))
