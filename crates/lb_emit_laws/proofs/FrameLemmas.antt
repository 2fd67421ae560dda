-- Functions of a program in order fit their frames.
use Rattle.std.proofs.Common.{◌≡◌, ℕ, ◌+◌, ◌*◌, ◌<◌, ◌≤◌, Bool, true, false, ◌||◌, List, [], ◌∷◌, ◌++◌, length, drop, Option, Some, None, refl, sym, ap, subst, arith}
use Rattle.std.proofs.lemmas.Bool.{eq-eqb}
use Rattle.std.proofs.lemmas.Option.{slice_get_within, get_or_from_slice_get}
use Rattle.std.proofs.lemmas.List.Elements.{All-get_or, All-head, All-tail, Contains-append_left, Contains-append_right, Contains-push}
use Rattle.std.proofs.lemmas.List.Sums.{sum_by-cons}
use Rattle.std.specs.Prelude.{slice_get, ◌==◌, sum, All, Contains}
use Rattle.lb_syntax.specs.declared.tree.Action.TheVariants.{Read, Write}
use Rattle.lb_flat.specs.declared.places.Place.{Place}
use Rattle.lb_flat.specs.declared.places.Place.TheVariants.{Register, Slot}
use Rattle.lb_flat.specs.Code.{Operation, Constant, Copy, Compute, Load, Store, Forget, Call, Access}
use Rattle.lb_flat.specs.Code.{Code, Plain, Reserve, Branch, Loop, Nothing, Sequence, sites, Routine, Executable}
use Rattle.lb_flat.specs.Registers.{IsPlacedRegister}
use Rattle.lb_flat.specs.Calls.{callees}
use Rattle.lb_flat.specs.Order.{EachName, Fits, HasParts, HasShapes, KeepsRoutineRules, IsPlacedName, IsInRegister, HasRegisterEnd, IsPlacedPlain, IsPlacedCode, IsPlacedInOrder}
use Rattle.lb_flat.proofs.RegisterLemmas.{registers_are}
use Rattle.lb_emit_laws.specs.Frames.{Frame, sets_in_places, sets_in, blocks_offset, offsets_from, frame_of, offsets_of}
use Rattle.lb_emit_laws.proofs.Ordered.{is_in, IsRegister, IsTarget, IsSource, AreSources, ArePlaceTargets, Called, HasBlock, IsPlainInOrder, InOrder, FitsFrame}
use Rattle.lb_emit_laws.proofs.SavedLemmas.{saved_few, saved_good, saved_has, saved_link}

-- what holds of each element holds of one
pub All-at : {A : Type 0} (P : A → Type 0) (xs : List A) (i : ℕ) (x : A) → slice_get xs i ≡ Some x → All P xs → P x
All-at P xs i x is all = subst P (get_or_from_slice_get xs i x x is) (All-get_or P xs i x (slice_get_within xs i x is) all)

-- ---- lists of places

record OnePlace (ps : List Place) : Type 0 where
  place : Place
  is : ps ≡ place ∷ []

record OneRegister (ps : List Place) : Type 0 where
  register : ℕ
  is : ps ≡ Register register ∷ []

record TwoPlaces (ps : List Place) : Type 0 where
  left : Place
  right : Place
  is : ps ≡ left ∷ right ∷ []

record TwoRegisters (ps : List Place) : Type 0 where
  left : ℕ
  right : ℕ
  is : ps ≡ Register left ∷ Register right ∷ []

no_place : (ps : List Place) → length ps ≡ 0 → ps ≡ []
no_place [] h = refl
no_place (p ∷ ps) h = absurd (omega (arith, h))

one_place : (ps : List Place) → length ps ≡ 1 → OnePlace ps
one_place [] h = absurd (omega (arith, h))
one_place (p ∷ []) h = record { place = p; is = refl }
one_place (p ∷ q ∷ ps) h = absurd (omega (arith, h))

one_register : (ps : List Place) → length ps ≡ 1 → All IsInRegister ps → OneRegister ps
one_register [] h k = absurd (omega (arith, h))
one_register (Register r ∷ []) h k = record { register = r; is = refl }
one_register (Slot s ∷ []) h k = absurd (All-head IsInRegister (Slot s) [] k)
one_register (p ∷ q ∷ ps) h k = absurd (omega (arith, h))

two_places : (ps : List Place) → length ps ≡ 2 → TwoPlaces ps
two_places [] h = absurd (omega (arith, h))
two_places (p ∷ []) h = absurd (omega (arith, h))
two_places (p ∷ q ∷ []) h = record { left = p; right = q; is = refl }
two_places (p ∷ q ∷ x ∷ ps) h = absurd (omega (arith, h))

two_registers : (ps : List Place) → length ps ≡ 2 → All IsInRegister ps → TwoRegisters ps
two_registers [] h k = absurd (omega (arith, h))
two_registers (p ∷ []) h k = absurd (omega (arith, h))
two_registers (Register l ∷ Register r ∷ []) h k = record { left = l; right = r; is = refl }
two_registers (Slot s ∷ q ∷ []) h k = absurd (All-head IsInRegister (Slot s) (q ∷ []) k)
two_registers (Register l ∷ Slot s ∷ []) h k = absurd (All-head IsInRegister (Slot s) [] (All-tail IsInRegister (Register l) (Slot s ∷ []) k))
two_registers (p ∷ q ∷ x ∷ ps) h k = absurd (omega (arith, h))

register_here : (r : ℕ) → IsPlacedRegister r → IsRegister r
register_here r h = let k = (registers_are.placed r).0 h in record { from = k.0; below = omega (arith, k.1) }

-- ---- blocks

-- each of these sizes has its block
abbrev pub OffsetsFit : Frame → List ℕ → List ℕ → Type 0
OffsetsFit f os [] = Unit {0}
OffsetsFit f os (n ∷ ns) = HasBlock f n os × OffsetsFit f (drop 1 os) ns

OffsetsFit-front : (f : Frame) (os ns ms : List ℕ) → OffsetsFit f os (ns ++ ms) → OffsetsFit f os ns
OffsetsFit-front f os [] ms h = tt
OffsetsFit-front f os (n ∷ ns) ms h = (h.0, OffsetsFit-front f (drop 1 os) ns ms h.1)

OffsetsFit-back : (f : Frame) (os ns ms : List ℕ) → OffsetsFit f os (ns ++ ms) → OffsetsFit f (drop (length ns) os) ms
OffsetsFit-back f os [] ms h = h
OffsetsFit-back f [] (n ∷ ns) ms h = absurd h.0
OffsetsFit-back f (o ∷ os) (n ∷ ns) ms h = OffsetsFit-back f os ns ms h.1

pub sum_cons : (n : ℕ) (ns : List ℕ) → sum (n ∷ ns) ≡ n + sum ns
sum_cons n ns = sum_by-cons (λ x. x) n ns

offsets_fit : (f : Frame) (o : ℕ) (ns : List ℕ) → 4 * (length f.saved + f.slots) ≤ o → o + sum ns ≤ f.size → OffsetsFit f (offsets_from o ns) ns
offsets_fit f o [] low high = tt
offsets_fit f o (n ∷ ns) low high =
    let all = sum_cons n ns in ((low, omega (arith, high, all)), offsets_fit f (o + n) ns (omega (arith, low)) (omega (arith, high, all)))

-- ---- registers that are set

first_set : (q : ℕ) (b : Bool) → ((q == q) || b) ≡ true
first_set q b = ap (λ (c : Bool). c || b) (eq-eqb q q refl)

or_front : (b c : Bool) → b ≡ true → (b || c) ≡ true
or_front true c h = refl
or_front false c h = cc

or_back : (b c : Bool) → c ≡ true → (b || c) ≡ true
or_back true c h = refl
or_back false c h = h

sources_good : (f : Frame) (ps : List Place) → All (IsPlacedName f.slots) ps → AreSources f ps
sources_good f [] h = tt
sources_good f (Register r ∷ ps) h = (register_here r (All-head (IsPlacedName f.slots) (Register r) ps h), sources_good f ps (All-tail (IsPlacedName f.slots) (Register r) ps h))
sources_good f (Slot k ∷ ps) h = (All-head (IsPlacedName f.slots) (Slot k) ps h, sources_good f ps (All-tail (IsPlacedName f.slots) (Slot k) ps h))

target_good : (f : Frame) (r : ℕ) → IsRegister r → is_in r f.saved ≡ true → IsTarget f r
target_good f r h k = record { from = h.from; below = h.below; saved = k }

targets_good : (f : Frame) (ps : List Place) → All (IsPlacedName f.slots) ps → ((r : ℕ) → 18 ≤ r → r < 32 → sets_in_places ps r ≡ true → is_in r f.saved ≡ true) → ArePlaceTargets f ps
targets_good f [] h go = tt
targets_good f (Register q ∷ ps) h go =
    let k = register_here q (All-head (IsPlacedName f.slots) (Register q) ps h) in
    (target_good f q k (go q k.from k.below (first_set q (sets_in_places ps q))), targets_good f ps (All-tail (IsPlacedName f.slots) (Register q) ps h) (λ r l u s. go r l u (or_back (q == r) (sets_in_places ps r) s)))
targets_good f (Slot k ∷ ps) h go = (All-head (IsPlacedName f.slots) (Slot k) ps h, targets_good f ps (All-tail (IsPlacedName f.slots) (Slot k) ps h) go)

-- ---- commands

module _ (fs : List (Routine Place)) (A : ℕ → Type 0) (f : Frame) (few : (k : ℕ) (h : Routine Place) → slice_get fs k ≡ Some h → (length h.params ≤ 8) × (length h.results ≤ 8)) where
  called_good : (g arguments targets : ℕ) (o : Option (Routine Place)) → slice_get fs g ≡ o → Fits o arguments targets → A g → Called fs A g arguments targets × (arguments ≤ 8) × (targets ≤ 8)
  called_good g arguments targets None is h a = absurd h
  called_good g arguments targets (Some callee) is h a =
      let k = few g callee is in
      (record { callee = callee; is = is; arity = sym h.0; answers = sym h.1; allowed = a }, omega (arith, h.0, k.0), omega (arith, h.1, k.1))

  copy_good : (x y : Place) → IsSource f x → ArePlaceTargets f (y ∷ []) → HasRegisterEnd (x ∷ []) (y ∷ []) → IsPlainInOrder fs A f Copy (x ∷ []) (y ∷ [])
  copy_good (Register x) (Register y) s t h = (s, t.0)
  copy_good (Register x) (Slot k) s t h = (s, t.0)
  copy_good (Slot j) (Register y) s t h = (s, t.0)
  copy_good (Slot j) (Slot k) s t h = absurd h

  plain_good : (o : Operation) (xs ys : List Place) → HasParts fs o (length xs) (length ys) → IsPlacedPlain o xs ys → All (IsPlacedName f.slots) xs → All (IsPlacedName f.slots) ys
      → ((r : ℕ) → 18 ≤ r → r < 32 → sets_in_places ys r ≡ true → is_in r f.saved ≡ true) → ((g : ℕ) → Contains (callees (Plain o xs ys)) g → (is_in 1 f.saved ≡ true) × A g)
      → IsPlainInOrder fs A f o xs ys
  plain_good (Constant v) xs ys parts form sources targets go calls =
      let a = no_place xs parts.1 in
      let b = one_register ys parts.2 form.1 in
      let t = subst (ArePlaceTargets f) b.is (targets_good f ys targets go) in
      subst (λ zs. IsPlainInOrder fs A f (Constant v) zs ys) (sym a) (subst (λ zs. IsPlainInOrder fs A f (Constant v) [] zs) (sym b.is) (t.0, parts.0))
  plain_good Copy xs ys parts form sources targets go calls =
      let a = one_place xs parts.0 in
      let b = one_place ys parts.1 in
      let s = subst (AreSources f) a.is (sources_good f xs sources) in
      let t = subst (ArePlaceTargets f) b.is (targets_good f ys targets go) in
      let end = subst (λ zs. HasRegisterEnd (a.place ∷ []) zs) b.is (subst (λ zs. HasRegisterEnd zs ys) a.is form) in
      subst (λ zs. IsPlainInOrder fs A f Copy zs ys) (sym a.is) (subst (λ zs. IsPlainInOrder fs A f Copy (a.place ∷ []) zs) (sym b.is) (copy_good a.place b.place s.0 t end))
  plain_good (Compute op) xs ys parts form sources targets go calls =
      let a = two_registers xs parts.0 form.0 in
      let b = one_register ys parts.1 form.1 in
      let s = subst (AreSources f) a.is (sources_good f xs sources) in
      let t = subst (ArePlaceTargets f) b.is (targets_good f ys targets go) in
      subst (λ zs. IsPlainInOrder fs A f (Compute op) zs ys) (sym a.is) (subst (λ zs. IsPlainInOrder fs A f (Compute op) (Register a.left ∷ Register a.right ∷ []) zs) (sym b.is) (s.0, s.1.0, t.0))
  plain_good (Load w) xs ys parts form sources targets go calls =
      let a = one_register xs parts.0 form.0 in
      let b = one_register ys parts.1 form.1 in
      let s = subst (AreSources f) a.is (sources_good f xs sources) in
      let t = subst (ArePlaceTargets f) b.is (targets_good f ys targets go) in
      subst (λ zs. IsPlainInOrder fs A f (Load w) zs ys) (sym a.is) (subst (λ zs. IsPlainInOrder fs A f (Load w) (Register a.register ∷ []) zs) (sym b.is) (s.0, t.0))
  plain_good (Store w) xs ys parts form sources targets go calls =
      let a = two_registers xs parts.0 form.0 in
      let b = no_place ys parts.1 in
      let s = subst (AreSources f) a.is (sources_good f xs sources) in
      subst (λ zs. IsPlainInOrder fs A f (Store w) zs ys) (sym a.is) (subst (λ zs. IsPlainInOrder fs A f (Store w) (Register a.left ∷ Register a.right ∷ []) zs) (sym b) (s.0, s.1.0))
  plain_good Forget xs ys parts form sources targets go calls = absurd form
  plain_good (Call g) xs ys parts form sources targets go calls =
      let allowed = calls g (Contains-push [] g) in
      let c = called_good g (length xs) (length ys) (slice_get fs g) refl parts allowed.1 in
      (sources_good f xs sources, targets_good f ys targets go, c.1, c.2, allowed.0, c.0)
  plain_good (Access Read) xs ys parts form sources targets go calls =
      let a = one_place xs parts.1 in
      let b = one_place ys parts.0 in
      let s = subst (AreSources f) a.is (sources_good f xs sources) in
      let t = subst (ArePlaceTargets f) b.is (targets_good f ys targets go) in
      subst (λ zs. IsPlainInOrder fs A f (Access Read) zs ys) (sym a.is) (subst (λ zs. IsPlainInOrder fs A f (Access Read) (a.place ∷ []) zs) (sym b.is) (s.0, t.0))
  plain_good (Access Write) xs ys parts form sources targets go calls =
      let a = two_places xs parts.1 in
      let b = no_place ys parts.0 in
      let s = subst (AreSources f) a.is (sources_good f xs sources) in
      subst (λ zs. IsPlainInOrder fs A f (Access Write) zs ys) (sym a.is) (subst (λ zs. IsPlainInOrder fs A f (Access Write) (a.left ∷ a.right ∷ []) zs) (sym b) (s.0, s.1.0))

  command_good : (os : List ℕ) (c : Code Place) → EachName (IsPlacedName f.slots) c → HasShapes fs c → IsPlacedCode c → OffsetsFit f os (sites c)
      → ((r : ℕ) → 18 ≤ r → r < 32 → sets_in c r ≡ true → is_in r f.saved ≡ true) → ((g : ℕ) → Contains (callees c) g → (is_in 1 f.saved ≡ true) × A g) → InOrder fs A f os c
  command_good os (Plain o xs ys) names shapes forms fit go calls = plain_good o xs ys shapes forms names.0 names.1 go calls
  command_good os (Reserve n (Register q) b) names shapes forms fit go calls =
      let k = register_here q names.0 in (
        target_good f q k (go q k.from k.below (or_front (sets_in_places (Register q ∷ []) q) (sets_in b q) (first_set q false))),
        fit.0,
        command_good (drop 1 os) b names.1 shapes.1 forms.1 fit.1 (λ r l u s. go r l u (or_back (sets_in_places (Register q ∷ []) r) (sets_in b r) s)) calls,
      )
  command_good os (Reserve n (Slot k) b) names shapes forms fit go calls = absurd forms.0
  command_good os (Branch (Register q) b d) names shapes forms fit go calls = (
    register_here q names.0,
    command_good os b names.1 shapes.1 forms.1 (OffsetsFit-front f os (sites b) (sites d) fit) (λ r l u s. go r l u (or_front (sets_in b r) (sets_in d r) s)) (λ g k. calls g (Contains-append_left (callees b) (callees d) g k)),
    command_good (drop (length (sites b)) os) d names.2 shapes.2 forms.2 (OffsetsFit-back f os (sites b) (sites d) fit) (λ r l u s. go r l u (or_back (sets_in b r) (sets_in d r) s)) (λ g k. calls g (Contains-append_right (callees b) (callees d) g k)),
  )
  command_good os (Branch (Slot k) b d) names shapes forms fit go calls = absurd forms.0
  command_good os (Loop b (Register q) d) names shapes forms fit go calls = (
    register_here q names.1,
    command_good os b names.0 shapes.0 forms.0 (OffsetsFit-front f os (sites b) (sites d) fit) (λ r l u s. go r l u (or_front (sets_in b r) (sets_in d r) s)) (λ g k. calls g (Contains-append_left (callees b) (callees d) g k)),
    command_good (drop (length (sites b)) os) d names.2 shapes.2 forms.2 (OffsetsFit-back f os (sites b) (sites d) fit) (λ r l u s. go r l u (or_back (sets_in b r) (sets_in d r) s)) (λ g k. calls g (Contains-append_right (callees b) (callees d) g k)),
  )
  command_good os (Loop b (Slot k) d) names shapes forms fit go calls = absurd forms.1
  command_good os Nothing names shapes forms fit go calls = tt
  command_good os (Sequence c d) names shapes forms fit go calls = (
    command_good os c names.0 shapes.0 forms.0 (OffsetsFit-front f os (sites c) (sites d) fit) (λ r l u s. go r l u (or_front (sets_in c r) (sets_in d r) s)) (λ g k. calls g (Contains-append_left (callees c) (callees d) g k)),
    command_good (drop (length (sites c)) os) d names.1 shapes.1 forms.1 (OffsetsFit-back f os (sites c) (sites d) fit) (λ r l u s. go r l u (or_back (sets_in c r) (sets_in d r) s)) (λ g k. calls g (Contains-append_right (callees c) (callees d) g k)),
  )

-- ---- functions

-- the rules of one function of a program in order
pub rules_at : (p : Executable Place) (g : ℕ) (h : Routine Place) → IsPlacedInOrder p → slice_get p.routines g ≡ Some h → KeepsRoutineRules IsPlacedName p.routines h × IsPlacedCode h.body
rules_at p g h order is =
    (All-at (KeepsRoutineRules IsPlacedName p.routines) p.routines g h is order.rules.routines, All-at (λ (k : Routine Place). IsPlacedCode k.body) p.routines g h is order.forms)

pub routine_fits : (p : Executable Place) (g : ℕ) (h : Routine Place) → IsPlacedInOrder p → slice_get p.routines g ≡ Some h → FitsFrame p.routines h
routine_fits p g h order is =
    let f = frame_of h in
    let rules = rules_at p g h order is in
    record {
      few = saved_few h;
      saved = saved_good h;
      params = targets_good f h.params rules.0.params (λ r l u s. saved_has h r l u (or_front (sets_in_places h.params r) (sets_in h.body r) s));
      results = sources_good f h.results rules.0.results;
      param_count = rules.0.few_params;
      result_count = rules.0.few_results;
      body = command_good p.routines (Contains (callees h.body)) f (λ k c at_k. (let other = rules_at p k c order at_k in (other.0.few_params, other.0.few_results))) (offsets_of h) h.body rules.0.names rules.0.shapes rules.1
          (offsets_fit f (blocks_offset h) (sites h.body) (omega arith) (omega arith))
          (λ r l u s. saved_has h r l u (or_back (sets_in_places h.params r) (sets_in h.body r) s)) (λ k c. (saved_link h k c, c));
    }
