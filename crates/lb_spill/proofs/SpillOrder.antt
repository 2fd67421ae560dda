-- The placed form of a flat program that is in order is in order.
use Rattle.std.proofs.Common.{◌≡◌, ℕ, zero, suc, ◌+◌, ◌<◌, ◌≤◌, List, [], ◌∷◌, ◌++◌, map, length, sum, refl, sym, ap, ◌∙◌, subst, arith, slice_get, All, Contains, inl}
use Rattle.std.specs.List.{AllByRecursion}
use Rattle.std.proofs.lemmas.List.{length-map}
use Rattle.std.proofs.lemmas.List.Elements.{All-from_recursion}
use Rattle.std.proofs.lemmas.List.Sums.{sum_by-cons}
use Rattle.lb_syntax.specs.declared.tree.Width.{Width}
use Rattle.lb_syntax.specs.Rules.{IsBlockSize, HasShape}
use Rattle.lb_flat.specs.declared.registers.TheConstants.{FIRST_SCRATCH_REGISTER}
use Rattle.lb_flat.specs.declared.places.Place.{Place}
use Rattle.lb_flat.specs.declared.places.Place.TheVariants.{Register, Slot}
use Rattle.lb_flat.specs.Registers.{IsPlacedRegister}
use Rattle.lb_flat.specs.Code.{Operation, Constant, Copy, Compute, Load, Store, Forget, Call, Access}
use Rattle.lb_flat.specs.Code.{Code, Plain, Reserve, Branch, Loop, Nothing, Sequence, Routine, Executable}
use Rattle.lb_flat.specs.Needs.{flat_routine_words, placed_routine_words}
use Rattle.lb_flat.specs.Calls.{callees_of, frame_of, IsCallPath, IsRecursive, path_need}
use Rattle.lb_flat.specs.Located.{place_of}
use Rattle.lb_flat.specs.Accepted.{MayHold, AreAccepted, AreAllAccepted}
use Rattle.lb_flat.specs.Order.{EachName, Fits, HasParts, HasShapes, KeepsRoutineRules, IsEntry, IsVariable, IsFlatInOrder, IsPlacedName, IsInRegister, IsPlacedPlain, IsPlacedCode, IsPlacedInOrder}
use Rattle.lb_flat.proofs.RegisterLemmas.{registers_are}
use Rattle.lb_flat.proofs.FlatForms.{by_elements}
use Rattle.lb_spill.specs.InternalSpill.{in_register, in_registers, got, got_all, put_back, computed, copied, spill_plain, spill, slots_of, spilled, all_spilled, spilled_executable, NamesBelow}
use Rattle.lb_spill.specs.Placing.{AllAskNoMore}
use Rattle.lb_spill.proofs.SpillSites.{block_sites}
use Rattle.lb_spill.proofs.SpillCalls.{routine_callees}
use Rattle.lb_spill.proofs.SpillNames.{names_own}
use Rattle.lb_spill.proofs.SpillCounts.{slots_below, all_ask_no_more}

-- ---- code in order

-- code that a placed function with n slots may have, among these functions
record IsGood (gs : List (Routine Place)) (n : ℕ) (c : Code Place) : Type 0 where
  names : EachName (IsPlacedName n) c
  shapes : HasShapes gs c
  forms : IsPlacedCode c

-- places that it may name
abbrev AreNamed : ℕ → List Place → Type 0
AreNamed n = AllByRecursion (IsPlacedName n)

scratch_named : (s : ℕ) → FIRST_SCRATCH_REGISTER ≤ s → s ≤ FIRST_SCRATCH_REGISTER + 1 → IsPlacedRegister s
scratch_named s low high = (registers_are.placed s).1 (omega (arith, low), omega (arith, high))

first_named : IsPlacedRegister FIRST_SCRATCH_REGISTER
first_named = scratch_named FIRST_SCRATCH_REGISTER (omega arith) (omega arith)

register_named : (n s : ℕ) (p : Place) → IsPlacedRegister s → IsPlacedName n p → IsPlacedName n (in_register s p)
register_named n s (Register r) h named = named
register_named n s (Slot i) h named = h

in_a_register : (s : ℕ) (p : Place) → IsInRegister (in_register s p)
in_a_register s (Register r) = tt
in_a_register s (Slot i) = tt

registers_named : (n s : ℕ) (ps : List Place) → FIRST_SCRATCH_REGISTER ≤ s → s + length ps ≤ FIRST_SCRATCH_REGISTER + 2 → AreNamed n ps → AreNamed n (in_registers s ps)
registers_named n s [] low high h = tt
registers_named n s (p ∷ ps) low high h =
    (register_named n s p (scratch_named s low (omega (arith, high))) h.0, registers_named n (s + 1) ps (omega (arith, low)) (omega (arith, high)) h.1)

all_in_registers : (s : ℕ) (ps : List Place) → AllByRecursion IsInRegister (in_registers s ps)
all_in_registers s [] = tt
all_in_registers s (p ∷ ps) = (in_a_register s p, all_in_registers (s + 1) ps)

registers_length : (s : ℕ) (ps : List Place) → length (in_registers s ps) ≡ length ps
registers_length s [] = refl
registers_length s (p ∷ ps) = ap suc (registers_length (s + 1) ps)

module _ (gs : List (Routine Place)) (n : ℕ) where
  nothing_good : IsGood gs n Nothing
  nothing_good = record { names = tt; shapes = tt; forms = tt }

  -- a plain command before the rest
  plain_good : (o : Operation) (ps qs : List Place) (rest : Code Place) → AreNamed n ps → AreNamed n qs → HasParts gs o (length ps) (length qs) → IsPlacedPlain o ps qs → IsGood gs n rest
      → IsGood gs n (Sequence (Plain o ps qs) rest)
  plain_good o ps qs rest h k parts form g = record {
    names = ((All-from_recursion (IsPlacedName n) ps h, All-from_recursion (IsPlacedName n) qs k), g.names);
    shapes = (parts, g.shapes);
    forms = (form, g.forms);
  }

  got_good : (s : ℕ) (p : Place) (rest : Code Place) → IsPlacedRegister s → IsPlacedName n p → IsGood gs n rest → IsGood gs n (got s p rest)
  got_good s (Register r) rest h named g = g
  got_good s (Slot i) rest h named g = plain_good Copy (Slot i ∷ []) (Register s ∷ []) rest (named, tt) (h, tt) (refl, refl) tt g

  put_good : (s : ℕ) (p : Place) (rest : Code Place) → IsPlacedRegister s → IsPlacedName n p → IsGood gs n rest → IsGood gs n (put_back s p rest)
  put_good s (Register r) rest h named g = g
  put_good s (Slot i) rest h named g = plain_good Copy (Register s ∷ []) (Slot i ∷ []) rest (h, tt) (named, tt) (refl, refl) tt g

  all_good : (s : ℕ) (ps : List Place) (rest : Code Place) → FIRST_SCRATCH_REGISTER ≤ s → s + length ps ≤ FIRST_SCRATCH_REGISTER + 2 → AreNamed n ps → IsGood gs n rest → IsGood gs n (got_all s ps rest)
  all_good s [] rest low high h g = g
  all_good s (p ∷ ps) rest low high h g =
      got_good s p (got_all (s + 1) ps rest) (scratch_named s low (omega (arith, high))) h.0 (all_good (s + 1) ps rest (omega (arith, low)) (omega (arith, high)) h.1 g)

  -- an operation with at most two arguments and one target
  computed_good : (o : Operation) (ps qs : List Place) (rest : Code Place) → AreNamed n ps → AreNamed n qs → length ps ≤ 2 → length qs ≡ 1
      → ((ps' qs' : List Place) → length ps' ≡ length ps → length qs' ≡ 1 → HasParts gs o (length ps') (length qs'))
      → ((ps' qs' : List Place) → All IsInRegister ps' → All IsInRegister qs' → IsPlacedPlain o ps' qs') → IsGood gs n rest → IsGood gs n (computed o ps qs rest)
  computed_good o ps [] rest h k few one parts form g = absurd (omega (arith, one))
  computed_good o ps (q ∷ qs) rest h k few one parts form g =
      let p = in_registers FIRST_SCRATCH_REGISTER ps in
      let r = in_register FIRST_SCRATCH_REGISTER q ∷ [] in
      all_good FIRST_SCRATCH_REGISTER ps (Sequence (Plain o p r) (put_back FIRST_SCRATCH_REGISTER q rest)) (omega arith) (omega (arith, few)) h
      (plain_good o p r (put_back FIRST_SCRATCH_REGISTER q rest) (registers_named n FIRST_SCRATCH_REGISTER ps (omega arith) (omega (arith, few)) h)
      (register_named n FIRST_SCRATCH_REGISTER q first_named k.0, tt) (parts p r (registers_length FIRST_SCRATCH_REGISTER ps) refl)
      (form p r (All-from_recursion IsInRegister p (all_in_registers FIRST_SCRATCH_REGISTER ps)) (All-from_recursion IsInRegister r (in_a_register FIRST_SCRATCH_REGISTER q, tt)))
      (put_good FIRST_SCRATCH_REGISTER q rest first_named k.0 g))

  copied_good : (ps qs : List Place) (rest : Code Place) → AreNamed n ps → AreNamed n qs → length ps ≡ 1 → length qs ≡ 1 → IsGood gs n rest → IsGood gs n (copied ps qs rest)
  copied_good [] qs rest h k one other g = absurd (omega (arith, one))
  copied_good (Register r ∷ ps) qs rest h k one other g = plain_good Copy (Register r ∷ ps) qs rest h k (one, other) tt g
  copied_good (Slot i ∷ ps) [] rest h k one other g = absurd (omega (arith, other))
  copied_good (Slot i ∷ ps) (Register r ∷ qs) rest h k one other g = plain_good Copy (Slot i ∷ ps) (Register r ∷ qs) rest h k (one, other) tt g
  copied_good (Slot i ∷ ps) (Slot j ∷ qs) rest h k one other g =
      got_good FIRST_SCRATCH_REGISTER (Slot i) (put_back FIRST_SCRATCH_REGISTER (Slot j) rest) first_named h.0 (put_good FIRST_SCRATCH_REGISTER (Slot j) rest first_named k.0 g)

  store_good : (ps qs : List Place) (k : Width) (rest : Code Place) → AreNamed n ps → length ps ≡ 2 → IsGood gs n rest → IsGood gs n (spill_plain (Store k) ps qs rest)
  store_good ps qs k rest h two g =
      let p = in_registers FIRST_SCRATCH_REGISTER ps in
      all_good FIRST_SCRATCH_REGISTER ps (Sequence (Plain (Store k) p []) rest) (omega arith) (omega (arith, two)) h
      (plain_good (Store k) p [] rest (registers_named n FIRST_SCRATCH_REGISTER ps (omega arith) (omega (arith, two)) h) tt
      (registers_length FIRST_SCRATCH_REGISTER ps ∙ two, refl)
      (All-from_recursion IsInRegister p (all_in_registers FIRST_SCRATCH_REGISTER ps), All-from_recursion IsInRegister [] tt) g)

  module _ (fs : List (Routine ℕ)) (fit : (f a t : ℕ) → Fits (slice_get fs f) a t → Fits (slice_get gs f) a t) (cell : ℕ → Place) (m : ℕ) (named : (x : ℕ) → IsVariable m x → IsPlacedName n (cell x)) where
    cells_named : (xs : List ℕ) → AllByRecursion (IsVariable m) xs → AreNamed n (map cell xs)
    cells_named [] h = tt
    cells_named (x ∷ xs) h = (named x h.0, cells_named xs h.1)

    many : (xs : List ℕ) (k : ℕ) → length xs ≡ k → length (map cell xs) ≡ k
    many xs k e = length-map xs cell ∙ e

    spill_plain_good : (o : Operation) (xs ys : List ℕ) (rest : Code Place) → AreNamed n (map cell xs) → AreNamed n (map cell ys) → HasParts fs o (length xs) (length ys) → IsGood gs n rest
        → IsGood gs n (spill_plain o (map cell xs) (map cell ys) rest)
    spill_plain_good (Constant v) xs ys rest h k parts g =
        computed_good (Constant v) (map cell xs) (map cell ys) rest h k (omega (arith, many xs 0 parts.1)) (many ys 1 parts.2) (λ ps qs e d. (parts.0, e ∙ many xs 0 parts.1, d)) (λ ps qs a b. (a, b)) g
    spill_plain_good Copy xs ys rest h k parts g = copied_good (map cell xs) (map cell ys) rest h k (many xs 1 parts.0) (many ys 1 parts.1) g
    spill_plain_good (Compute op) xs ys rest h k parts g =
        computed_good (Compute op) (map cell xs) (map cell ys) rest h k (omega (arith, many xs 2 parts.0)) (many ys 1 parts.1) (λ ps qs e d. (e ∙ many xs 2 parts.0, d)) (λ ps qs a b. (a, b)) g
    spill_plain_good (Load w) xs ys rest h k parts g =
        computed_good (Load w) (map cell xs) (map cell ys) rest h k (omega (arith, many xs 1 parts.0)) (many ys 1 parts.1) (λ ps qs e d. (e ∙ many xs 1 parts.0, d)) (λ ps qs a b. (a, b)) g
    spill_plain_good (Store w) xs ys rest h k parts g = store_good (map cell xs) (map cell ys) w rest h (many xs 2 parts.0) g
    spill_plain_good Forget xs ys rest h k parts g = g
    spill_plain_good (Call f) xs ys rest h k parts g =
        plain_good (Call f) (map cell xs) (map cell ys) rest h k
        (subst (λ (a : ℕ). Fits (slice_get gs f) a (length (map cell ys))) (sym (length-map xs cell)) (subst (λ (t : ℕ). Fits (slice_get gs f) (length xs) t) (sym (length-map ys cell)) (fit f (length xs) (length ys) parts))) tt g
    spill_plain_good (Access j) xs ys rest h k parts g =
        plain_good (Access j) (map cell xs) (map cell ys) rest h k
        (subst (λ (a : ℕ). HasShape j (length (map cell ys)) a) (sym (length-map xs cell)) (subst (λ (t : ℕ). HasShape j t (length xs)) (sym (length-map ys cell)) parts)) tt g

    spill_good : (c : Code ℕ) (rest : Code Place) → NamesBelow m c → HasShapes fs c → IsGood gs n rest → IsGood gs n (spill cell c rest)
    spill_good (Plain o xs ys) rest h shapes g = spill_plain_good o xs ys rest (cells_named xs h.0) (cells_named ys h.1) shapes g
    spill_good (Reserve k y b) rest h shapes g =
        let inner = put_good FIRST_SCRATCH_REGISTER (cell y) (spill cell b Nothing) first_named (named y h.0) (spill_good b Nothing h.1 shapes.1 nothing_good) in
        record {
          names = ((register_named n FIRST_SCRATCH_REGISTER (cell y) first_named (named y h.0), inner.names), g.names);
          shapes = ((tt, inner.shapes), g.shapes);
          forms = ((in_a_register FIRST_SCRATCH_REGISTER (cell y), inner.forms), g.forms);
        }
    spill_good (Branch x b d) rest h shapes g =
        let yes_block = spill_good b Nothing h.1 shapes.1 nothing_good in
        let no_block = spill_good d Nothing h.2 shapes.2 nothing_good in
        got_good FIRST_SCRATCH_REGISTER (cell x) (Sequence (Branch (in_register FIRST_SCRATCH_REGISTER (cell x)) (spill cell b Nothing) (spill cell d Nothing)) rest) first_named (named x h.0)
        (record {
          names = ((register_named n FIRST_SCRATCH_REGISTER (cell x) first_named (named x h.0), yes_block.names, no_block.names), g.names);
          shapes = ((tt, yes_block.shapes, no_block.shapes), g.shapes);
          forms = ((in_a_register FIRST_SCRATCH_REGISTER (cell x), yes_block.forms, no_block.forms), g.forms);
        })
    spill_good (Loop b x d) rest h shapes g =
        let head = spill_good b (got FIRST_SCRATCH_REGISTER (cell x) Nothing) h.0 shapes.0 (got_good FIRST_SCRATCH_REGISTER (cell x) Nothing first_named (named x h.1) nothing_good) in
        let body = spill_good d Nothing h.2 shapes.2 nothing_good in
        record {
          names = ((head.names, register_named n FIRST_SCRATCH_REGISTER (cell x) first_named (named x h.1), body.names), g.names);
          shapes = ((head.shapes, tt, body.shapes), g.shapes);
          forms = ((head.forms, in_a_register FIRST_SCRATCH_REGISTER (cell x), body.forms), g.forms);
        }
    spill_good Nothing rest h shapes g = g
    spill_good (Sequence c d) rest h shapes g = spill_good c (spill cell d rest) h.0 shapes.0 (spill_good d rest h.1 shapes.1 g)

-- ---- functions

-- the place of each variable may be named
place_named : (v n : ℕ) (ps : List Place) → slots_of ps ≤ n → AllByRecursion (MayHold v) ps → (x : ℕ) → x < length ps → IsPlacedName n (place_of ps x)
place_named v n [] le h x lt = absurd (omega (arith, lt))
place_named v n (Register r ∷ ps) le h zero lt = inl h.0
place_named v n (Slot i ∷ ps) le h zero lt = omega (arith, le)
place_named v n (Register r ∷ ps) le h (suc x) lt = place_named v n ps le h.1 x (omega (arith, lt))
place_named v n (Slot i ∷ ps) le h (suc x) lt = place_named v n ps (omega (arith, le)) h.1 x (omega (arith, lt))

-- calls fit the placed functions as the flat ones
spilled_fit : (fs : List (Routine ℕ)) (lists : List (List Place)) → AreAllAccepted fs lists → (f a t : ℕ) → Fits (slice_get fs f) a t → Fits (slice_get (all_spilled fs lists) f) a t
spilled_fit [] lists h f a t k = absurd k
spilled_fit (g ∷ fs) [] h f a t k = absurd h
spilled_fit (g ∷ fs) (l ∷ ls) h zero a t k = (k.0 ∙ sym (length-map g.params (place_of l)), k.1 ∙ sym (length-map g.results (place_of l)))
spilled_fit (g ∷ fs) (l ∷ ls) h (suc f) a t k = spilled_fit fs ls h.1 f a t k

spilled_entry : (fs : List (Routine ℕ)) (lists : List (List Place)) → AreAllAccepted fs lists → (f : ℕ) → IsEntry (slice_get fs f) → IsEntry (slice_get (all_spilled fs lists) f)
spilled_entry [] lists h f k = absurd k
spilled_entry (g ∷ fs) [] h f k = absurd h
spilled_entry (g ∷ fs) (l ∷ ls) h zero k = (ap (λ xs. map (place_of l) xs) k.0, ap (λ xs. map (place_of l) xs) k.1)
spilled_entry (g ∷ fs) (l ∷ ls) h (suc f) k = spilled_entry fs ls h.1 f k

spilled_callees : (fs : List (Routine ℕ)) (lists : List (List Place)) → AreAllAccepted fs lists → (f : ℕ) → callees_of (slice_get (all_spilled fs lists) f) ≡ callees_of (slice_get fs f)
spilled_callees [] [] h f = refl
spilled_callees [] (l ∷ ls) h f = absurd h
spilled_callees (g ∷ fs) [] h f = absurd h
spilled_callees (g ∷ fs) (l ∷ ls) h zero = routine_callees g l
spilled_callees (g ∷ fs) (l ∷ ls) h (suc f) = spilled_callees fs ls h.1 f

spilled_length : (fs : List (Routine ℕ)) (lists : List (List Place)) → AreAllAccepted fs lists → length (all_spilled fs lists) ≡ length fs
spilled_length [] [] h = refl
spilled_length [] (l ∷ ls) h = absurd h
spilled_length (g ∷ fs) [] h = absurd h
spilled_length (g ∷ fs) (l ∷ ls) h = ap suc (spilled_length fs ls h.1)

-- ---- counts

frame_below : (fs : List (Routine ℕ)) (gs : List (Routine Place)) (f : ℕ) → AllAskNoMore fs gs → frame_of (slice_get gs f) ≤ frame_of (slice_get fs f)
frame_below [] [] f h = omega arith
frame_below [] (g ∷ gs) f h = absurd h
frame_below (g ∷ fs) [] f h = absurd h
frame_below (g ∷ fs) (q ∷ gs) zero h = h.0.frame
frame_below (g ∷ fs) (q ∷ gs) (suc f) h = frame_below fs gs f h.1

words_below : (fs : List (Routine ℕ)) (gs : List (Routine Place)) → AllAskNoMore fs gs → sum (map placed_routine_words gs) ≤ sum (map flat_routine_words fs)
words_below [] [] h = omega arith
words_below [] (g ∷ gs) h = absurd h
words_below (f ∷ fs) [] h = absurd h
words_below (f ∷ fs) (g ∷ gs) h =
    omega (arith, h.0.words, words_below fs gs h.1, sum_by-cons (λ n. n) (placed_routine_words g) (map placed_routine_words gs), sum_by-cons (λ n. n) (flat_routine_words f) (map flat_routine_words fs))

-- ---- one function among the placed ones

module _ (fs : List (Routine ℕ)) (gs : List (Routine Place)) (fit : (f a t : ℕ) → Fits (slice_get fs f) a t → Fits (slice_get gs f) a t) where
  body_good : (f : Routine ℕ) (places : List Place) → KeepsRoutineRules IsVariable fs f → AreAccepted f places → IsGood gs (slots_of places) (spill (place_of places) f.body Nothing)
  body_good f places keeps accepted =
      spill_good gs (slots_of places) fs fit (place_of places) f.variables
      (λ x lt. place_named f.variables (slots_of places) places (omega arith) (by_elements (MayHold f.variables) places accepted.good) x (omega (arith, lt, accepted.each)))
      f.body Nothing (names_own fs f keeps).body keeps.shapes (nothing_good gs (slots_of places))

  routine_keeps : (f : Routine ℕ) (places : List Place) → KeepsRoutineRules IsVariable fs f → AreAccepted f places → KeepsRoutineRules IsPlacedName gs (spilled f places)
  routine_keeps f places keeps accepted =
      let cell = place_of places in
      let n = slots_of places in
      let good = body_good f places keeps accepted in
      let own = names_own fs f keeps in
      let slots = slots_below f.variables places (by_elements (MayHold f.variables) places accepted.good) in
      let named = λ (x : ℕ) (lt : IsVariable f.variables x). place_named f.variables n places (omega arith) (by_elements (MayHold f.variables) places accepted.good) x (omega (arith, lt, accepted.each)) in
      let blocks = block_sites cell f.body in
      record {
        params = All-from_recursion (IsPlacedName n) (map cell f.params) (cells_named gs n fs fit cell f.variables named f.params own.params);
        results = All-from_recursion (IsPlacedName n) (map cell f.results) (cells_named gs n fs fit cell f.variables named f.results own.results);
        names = good.names;
        shapes = good.shapes;
        few_params = omega (arith, keeps.few_params, length-map f.params cell);
        few_results = omega (arith, keeps.few_results, length-map f.results cell);
        block_sizes = subst (λ (l : List ℕ). All IsBlockSize l) (sym blocks) keeps.block_sizes;
        frame = omega (arith, keeps.frame, slots, ap sum blocks);
      }

  routines_keep : (hs : List (Routine ℕ)) (lists : List (List Place)) → AllByRecursion (KeepsRoutineRules IsVariable fs) hs → AreAllAccepted hs lists → AllByRecursion (KeepsRoutineRules IsPlacedName gs) (all_spilled hs lists)
  routines_keep [] lists keeps h = tt
  routines_keep (f ∷ hs) [] keeps h = tt
  routines_keep (f ∷ hs) (l ∷ ls) keeps h = (routine_keeps f l keeps.0 h.0, routines_keep hs ls keeps.1 h.1)

  forms_keep : (hs : List (Routine ℕ)) (lists : List (List Place)) → AllByRecursion (KeepsRoutineRules IsVariable fs) hs → AreAllAccepted hs lists → AllByRecursion (λ (g : Routine Place). IsPlacedCode g.body) (all_spilled hs lists)
  forms_keep [] lists keeps h = tt
  forms_keep (f ∷ hs) [] keeps h = tt
  forms_keep (f ∷ hs) (l ∷ ls) keeps h = ((body_good f l keeps.0 h.0).forms, forms_keep hs ls keeps.1 h.1)

-- ---- paths of calls

module _ (fs : List (Routine ℕ)) (lists : List (List Place)) (accepted : AreAllAccepted fs lists) where
  abbrev gs : List (Routine Place)
  gs = all_spilled fs lists

  path_is : (path : List ℕ) → IsCallPath gs path → IsCallPath fs path
  path_is [] h = tt
  path_is (g ∷ []) h = omega (arith, h, spilled_length fs lists accepted)
  path_is (g ∷ k ∷ path) h =
      (omega (arith, h.0, spilled_length fs lists accepted), subst (λ (l : List ℕ). Contains l k) (spilled_callees fs lists accepted g) h.1, path_is (k ∷ path) h.2)

  need_below : AllAskNoMore fs gs → (path : List ℕ) → path_need gs path ≤ path_need fs path
  need_below asks [] = omega arith
  need_below asks (g ∷ path) =
      omega (
        arith,
        frame_below fs gs g asks,
        need_below asks path,
        sum_by-cons (λ n. n) (frame_of (slice_get gs g)) (map (λ k. frame_of (slice_get gs k)) path),
        sum_by-cons (λ n. n) (frame_of (slice_get fs g)) (map (λ k. frame_of (slice_get fs k)) path),
      )

  not_recursive : ((g : ℕ) → g < length fs → IsRecursive fs g → ⊥) → (g : ℕ) → g < length gs → IsRecursive gs g → ⊥
  not_recursive none g lt (path, h) = none g (omega (arith, lt, spilled_length fs lists accepted)) (path, path_is (g ∷ path ++ g ∷ []) h)

-- ---- the whole program

pub spilled_in_order : (p : Executable ℕ) (lists : List (List Place)) → IsFlatInOrder p → AreAllAccepted p.routines lists → IsPlacedInOrder (spilled_executable p lists)
spilled_in_order p lists in_order accepted =
    let fs = p.routines in
    let qs = all_spilled fs lists in
    let keeps = by_elements (KeepsRoutineRules IsVariable fs) fs in_order.routines in
    let asks = all_ask_no_more fs fs lists keeps accepted in
    let fit = spilled_fit fs lists accepted in
    record {
      rules = record {
        few_functions = omega (arith, in_order.few_functions, spilled_length fs lists accepted);
        init = spilled_entry fs lists accepted p.init in_order.init;
        again = spilled_entry fs lists accepted p.again in_order.again;
        routines = All-from_recursion (KeepsRoutineRules IsPlacedName qs) qs (routines_keep fs qs fit fs lists keeps accepted);
        no_recursion = λ g lt r. not_recursive fs lists accepted in_order.no_recursion g lt r;
        code = omega (arith, in_order.code, words_below fs qs asks);
        stack = λ path h. omega (arith, need_below fs lists accepted asks path, in_order.stack path (path_is fs lists accepted path h));
      };
      forms = All-from_recursion (λ (g : Routine Place). IsPlacedCode g.body) qs (forms_keep fs qs fit fs lists keeps accepted);
    }
