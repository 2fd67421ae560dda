-- Plain commands, spilled.
use Rattle.std.proofs.Common.{◌≡◌, ℕ, false, List, [], ◌∷◌, map, Option, Some, None, Result, Ok, Err, refl, sym, ap, ◌∙◌, subst, arith}
use Rattle.lb_syntax.specs.declared.tree.Op.{Op}
use Rattle.lb_syntax.specs.declared.tree.Width.{Width}
use Rattle.lb_source.specs.declared.ends.Reason.{Reason}
use Rattle.lb_source.specs.Value.{load, byte_count}
use Rattle.lb_source.specs.Run.{store}
use Rattle.lb_flat.specs.declared.registers.TheConstants.{FIRST_SCRATCH_REGISTER}
use Rattle.lb_flat.specs.declared.places.Place.{Place}
use Rattle.lb_flat.specs.declared.places.Place.TheVariants.{Register, Slot}
use Rattle.lb_flat.specs.Cells.{Cells, put, set_all}
use Rattle.lb_flat.specs.Code.{Operation, Constant, Copy, Compute, Load, Store, Forget, Call, Access, Code, Plain, Sequence}
use Rattle.lb_flat.specs.Run.{World, Outcome, Goes, Stops, then_do, with_value, Caller, gives, effect, values, run_with}
use Rattle.lb_flat.proofs.Follow.{Follows, both_go, both_stop, owes_nothing, Same, CallsFollow, effect_follows}
use Rattle.lb_spill.specs.InternalSpill.{in_register, in_registers, put_back, computed, copied, spill_plain}
use Rattle.lb_spill.proofs.SpillCells.{own, is_scratch, Holds, holds_set_all, holds_unset_all, values_own, values_hold, AllFit, first_of, put_back_follows, moved_follows, got_all_follows}

-- ---- what operations give

-- one value, if any outcome
record IsOne (rs : List ℕ) : Type 0 where
  value : ℕ
  is : rs ≡ value ∷ []

abbrev GivesOne : Outcome (List ℕ) → Type 0
GivesOne (Goes rs w) = IsOne rs
GivesOne (Stops t e) = Unit {0}

one_is : (v : ℕ) → IsOne (v ∷ [])
one_is v = record { value = v; is = refl }

loaded_one : (r : Result ℕ Reason) (w : World) → GivesOne (with_value r w (λ v. Goes (v ∷ []) w))
loaded_one (Ok v) w = one_is v
loaded_one (Err e) w = tt

constant_one : (n : ℕ) (vs : List ℕ) (w : World) → GivesOne (gives (Constant n) vs w)
constant_one n [] w = one_is n
constant_one n (v ∷ vs) w = tt

compute_one : (op : Op) (vs : List ℕ) (w : World) → GivesOne (gives (Compute op) vs w)
compute_one op [] w = tt
compute_one op (x ∷ []) w = tt
compute_one op (x ∷ y ∷ []) w = one_is _
compute_one op (x ∷ y ∷ z ∷ vs) w = tt

load_one : (k : Width) (vs : List ℕ) (w : World) → GivesOne (gives (Load k) vs w)
load_one k [] w = tt
load_one k (a ∷ []) w = loaded_one (load w.memory (byte_count k) a) w
load_one k (a ∷ b ∷ vs) w = tt

-- none, if any outcome
abbrev GivesNone : Outcome (List ℕ) → Type 0
GivesNone (Goes rs w) = rs ≡ []
GivesNone (Stops t e) = Unit {0}

stored_none : {A : Type 0} (r : Result A Reason) (w : World) (f : A → World) → GivesNone (with_value r w (λ m. Goes [] (f m)))
stored_none (Ok m) w f = refl
stored_none (Err e) w f = tt

store_none : (k : Width) (vs : List ℕ) (w : World) → GivesNone (gives (Store k) vs w)
store_none k [] w = tt
store_none k (a ∷ []) w = tt
store_none k (a ∷ v ∷ []) w = stored_none (store (byte_count k) a v w.memory) w (λ m. record w { memory = m })
store_none k (a ∷ v ∷ u ∷ vs) w = tt

-- ---- after an operation that both runs do, and that gives this and what goes with it

module _ (R : Cells → Cells → Type 0) (F F' : List ℕ → Cells) (K G L : Cells → World → Outcome Cells) where
  after_effect : {o p : Outcome (List ℕ)} → Follows Same o p → ((rs : List ℕ) (u : World) → Follows R (K (F rs) u) (then_do (G (F' rs) u) L))
      → Follows R (then_do (then_do o (λ rs u. Goes (F rs) u)) K) (then_do (then_do (then_do p (λ rs u. Goes (F' rs) u)) G) L)
  after_effect (both_go {a} {b} {w} e) k = subst (λ q. Follows R (K (F a) w) (then_do (G (F' q) w) L)) e (k a w)
  after_effect both_stop k = both_stop
  after_effect owes_nothing k = owes_nothing

  after_one : (o : Outcome (List ℕ)) → GivesOne o → ((v : ℕ) (u : World) → Follows R (K (F (v ∷ [])) u) (then_do (G (F' (v ∷ [])) u) L))
      → Follows R (then_do (then_do o (λ rs u. Goes (F rs) u)) K) (then_do (then_do (then_do o (λ rs u. Goes (F' rs) u)) G) L)
  after_one (Goes rs w) one k = subst (λ qs. Follows R (K (F qs) w) (then_do (G (F' qs) w) L)) (sym one.is) (k one.value w)
  after_one (Stops t e) one k = both_stop

  after_none : (o : Outcome (List ℕ)) → GivesNone o → ((u : World) → Follows R (K (F []) u) (then_do (G (F' []) u) L))
      → Follows R (then_do (then_do o (λ rs u. Goes (F rs) u)) K) (then_do (then_do (then_do o (λ rs u. Goes (F' rs) u)) G) L)
  after_none (Goes rs w) none k = subst (λ qs. Follows R (K (F qs) w) (then_do (G (F' qs) w) L)) (sym none) (k w)
  after_none (Stops t e) none k = both_stop

-- ---- commands

some_first : (v u : ℕ) (vs us : List ℕ) → v ∷ vs ≡ u ∷ us → Some v ≡ Some u
some_first v u vs us e = ap head e
  where
    head : List ℕ → Option ℕ
    head [] = None
    head (x ∷ xs) = Some x

module _ (cell : ℕ → Place) (fit : (x : ℕ) → is_scratch (cell x) ≡ false) (call other : Caller) (h : CallsFollow call other) (n : ℕ) (R : Cells → Cells → Type 0) (os : List ℕ) (rest : Code Place) (K L : Cells → World → Outcome Cells)
    (k : (a b : Cells) (u : World) → Holds a b → Follows R (K a u) (then_do (run_with own other n os rest b u) L)) where
  all_fit : (xs : List ℕ) → AllFit (map cell xs)
  all_fit [] = tt
  all_fit (x ∷ xs) = (fit x, all_fit xs)

  -- the values of the arguments first
  by_values : (xs : List ℕ) (a : Cells) (w : World) (f : List ℕ → Outcome Cells) (o : Outcome Cells) → ((vs : List ℕ) → values cell xs a ≡ Ok vs → Follows R (then_do (f vs) K) o) → Follows R (then_do (with_value (values cell xs a) w f) K) o
  by_values xs a w f o k' = at (values cell xs a) refl
    where
      at : (r : Result (List ℕ) Reason) → values cell xs a ≡ r → Follows R (then_do (with_value r w f) K) o
      at (Ok vs) e = k' vs e
      at (Err e') e = owes_nothing

  -- an operation on what stands in these places
  in_place : (o : Operation) (ps : List Place) (qs : List Place) (vs : List ℕ) (b : Cells) (w : World) (then_rest : Code Place) (p : Outcome Cells) → values own ps b ≡ Ok vs
      → Follows R p (then_do (then_do (then_do (effect other o vs w) (λ rs u. Goes (set_all own qs rs b) u)) (run_with own other n os then_rest)) L)
      → Follows R p (then_do (run_with own other n os (Sequence (Plain o ps qs) then_rest) b w) L)
  in_place o ps qs vs b w then_rest p e f =
      subst (λ r. Follows R p (then_do (then_do (with_value r w (λ us. then_do (effect other o us w) (λ rs u. Goes (set_all own qs rs b) u))) (run_with own other n os then_rest)) L)) (sym e) f

  -- the run of a plain command before the rest, where the variables are in their places
  abbrev first : Operation → List ℕ → List ℕ → Cells → World → Outcome Cells
  first o xs ys a w = then_do (run_with cell call n os (Plain o xs ys) a w) K

  computed_follows : (o : Operation) → ((vs : List ℕ) (w : World) → effect call o vs w ≡ effect other o vs w) → ((vs : List ℕ) (w : World) → GivesOne (effect other o vs w)) → (xs ys : List ℕ) (a b : Cells) (w : World) → Holds a b
      → Follows R (first o xs ys a w) (then_do (run_with own other n os (computed o (map cell xs) (map cell ys) rest) b w) L)
  computed_follows o same one xs [] a b w g =
      by_values xs a w (λ vs. then_do (effect call o vs w) (λ rs u. Goes (set_all cell [] rs a) u)) _ (λ vs e.
      got_all_follows other n R L _ os (map cell xs) FIRST_SCRATCH_REGISTER vs _ a b w (omega arith) (all_fit xs) g (values_own cell xs a ∙ e) (λ b' g' vals keeps.
      in_place o (in_registers FIRST_SCRATCH_REGISTER (map cell xs)) [] vs b' w rest _ vals
      (subst (λ p. Follows R (then_do (then_do p (λ rs u. Goes (set_all cell [] rs a) u)) K) (then_do (then_do (then_do (effect other o vs w) (λ rs u. Goes (set_all own [] rs b') u)) (run_with own other n os rest)) L)) (sym (same vs w))
      (after_one R (λ rs. a) (λ rs. b') K (run_with own other n os rest) L (effect other o vs w) (one vs w) (λ v u. k a b' u g')))))
  computed_follows o same one xs (y ∷ ys) a b w g =
      by_values xs a w (λ vs. then_do (effect call o vs w) (λ rs u. Goes (set_all cell (y ∷ ys) rs a) u)) _ (λ vs e.
      got_all_follows other n R L _ os (map cell xs) FIRST_SCRATCH_REGISTER vs _ a b w (omega arith) (all_fit xs) g (values_own cell xs a ∙ e) (λ b' g' vals keeps.
      in_place o (in_registers FIRST_SCRATCH_REGISTER (map cell xs)) (in_register FIRST_SCRATCH_REGISTER (cell y) ∷ []) vs b' w (put_back FIRST_SCRATCH_REGISTER (cell y) rest) _ vals
      (subst (λ p. Follows R (then_do (then_do p (λ rs u. Goes (set_all cell (y ∷ ys) rs a) u)) K) (then_do (then_do (then_do (effect other o vs w) (λ rs u. Goes (set_all own (in_register FIRST_SCRATCH_REGISTER (cell y) ∷ []) rs b') u)) (run_with own other n os (put_back FIRST_SCRATCH_REGISTER (cell y) rest))) L)) (sym (same vs w))
      (after_one R (λ rs. set_all cell (y ∷ ys) rs a) (λ rs. set_all own (in_register FIRST_SCRATCH_REGISTER (cell y) ∷ []) rs b') K (run_with own other n os (put_back FIRST_SCRATCH_REGISTER (cell y) rest)) L (effect other o vs w) (one vs w) (λ v u.
      put_back_follows other n R L _ os FIRST_SCRATCH_REGISTER (cell y) rest a b' u v (omega arith) g' (λ c g''. k (set_all cell ys [] (put (cell y) (Some v) a)) c u (holds_unset_all cell ys (put (cell y) (Some v) a) c g'')))))))

  store_follows : (j : Width) (xs ys : List ℕ) (a b : Cells) (w : World) → Holds a b
      → Follows R (first (Store j) xs ys a w) (then_do (run_with own other n os (spill_plain (Store j) (map cell xs) (map cell ys) rest) b w) L)
  store_follows j xs ys a b w g =
      by_values xs a w (λ vs. then_do (effect call (Store j) vs w) (λ rs u. Goes (set_all cell ys rs a) u)) _ (λ vs e.
      got_all_follows other n R L _ os (map cell xs) FIRST_SCRATCH_REGISTER vs _ a b w (omega arith) (all_fit xs) g (values_own cell xs a ∙ e) (λ b' g' vals keeps.
      in_place (Store j) (in_registers FIRST_SCRATCH_REGISTER (map cell xs)) [] vs b' w rest _ vals
      (after_none R (λ rs. set_all cell ys rs a) (λ rs. b') K (run_with own other n os rest) L (gives (Store j) vs w) (store_none j vs w) (λ u. k (set_all cell ys [] a) b' u (holds_unset_all cell ys a b' g')))))

  forget_follows : (xs ys : List ℕ) (a b : Cells) (w : World) → Holds a b → Follows R (first Forget xs ys a w) (then_do (run_with own other n os rest b w) L)
  forget_follows xs ys a b w g = by_values xs a w (λ vs. then_do (effect call Forget vs w) (λ rs u. Goes (set_all cell ys rs a) u)) _ at
    where
      at : (vs : List ℕ) → values cell xs a ≡ Ok vs → Follows R (then_do (then_do (effect call Forget vs w) (λ rs u. Goes (set_all cell ys rs a) u)) K) (then_do (run_with own other n os rest b w) L)
      at [] e = k (set_all cell ys [] a) b w (holds_unset_all cell ys a b g)
      at (v ∷ vs) e = owes_nothing

  direct_follows : (o : Operation) (xs ys : List ℕ) (a b : Cells) (w : World) → Holds a b
      → Follows R (first o xs ys a w) (then_do (run_with own other n os (Sequence (Plain o (map cell xs) (map cell ys)) rest) b w) L)
  direct_follows o xs ys a b w g =
      by_values xs a w (λ vs. then_do (effect call o vs w) (λ rs u. Goes (set_all cell ys rs a) u)) _ (λ vs e.
      in_place o (map cell xs) (map cell ys) vs b w rest _ (values_hold cell fit xs a b g vs e)
      (after_effect R (λ rs. set_all cell ys rs a) (λ rs. set_all own (map cell ys) rs b) K (run_with own other n os rest) L (effect_follows call other h o vs w)
      (λ rs u. k (set_all cell ys rs a) (set_all own (map cell ys) rs b) u (holds_set_all cell ys rs a b g))))

  -- a copy from one slot to another
  moved : (x y i j : ℕ) (xs ys : List ℕ) (a b : Cells) (w : World) → cell x ≡ Slot i → cell y ≡ Slot j → Holds a b
      → Follows R (first Copy (x ∷ xs) (y ∷ ys) a w) (then_do (run_with own other n os (copied (Slot i ∷ map cell xs) (Slot j ∷ map cell ys) rest) b w) L)
  moved x y i j xs ys a b w ex ey g =
      by_values (x ∷ xs) a w (λ vs. then_do (effect call Copy vs w) (λ rs u. Goes (set_all cell (y ∷ ys) rs a) u)) _ at
    where
      at : (vs : List ℕ) → values cell (x ∷ xs) a ≡ Ok vs
          → Follows R (then_do (then_do (effect call Copy vs w) (λ rs u. Goes (set_all cell (y ∷ ys) rs a) u)) K) (then_do (run_with own other n os (copied (Slot i ∷ map cell xs) (Slot j ∷ map cell ys) rest) b w) L)
      at [] e = owes_nothing
      at (v ∷ []) e =
          let d = first_of (a (cell x)) (values cell xs a) (v ∷ []) e in
          let value : a (cell x) ≡ Some v = d.has ∙ some_first d.value v d.others [] d.whole in
          moved_follows other n R L _ os FIRST_SCRATCH_REGISTER i j rest a b w v (omega arith) g (subst (λ (p : Place). a p ≡ Some v) ex value) (λ c g'.
          k (set_all cell ys [] (put (cell y) (Some v) a)) c w
          (holds_unset_all cell ys (put (cell y) (Some v) a) c (subst (λ (p : Place). Holds (put p (Some v) a) c) (sym ey) g')))
      at (v ∷ u ∷ vs) e = owes_nothing

  copied_follows : (xs ys : List ℕ) (a b : Cells) (w : World) → Holds a b
      → Follows R (first Copy xs ys a w) (then_do (run_with own other n os (copied (map cell xs) (map cell ys) rest) b w) L)
  copied_follows [] ys a b w g = direct_follows Copy [] ys a b w g
  copied_follows (x ∷ xs) [] a b w g = at (cell x) refl
    where
      at : (p : Place) → cell x ≡ p → Follows R (first Copy (x ∷ xs) [] a w) (then_do (run_with own other n os (copied (p ∷ map cell xs) [] rest) b w) L)
      at (Register r) e = subst (λ (p : Place). Follows R (first Copy (x ∷ xs) [] a w) (then_do (run_with own other n os (Sequence (Plain Copy (p ∷ map cell xs) []) rest) b w) L)) e (direct_follows Copy (x ∷ xs) [] a b w g)
      at (Slot i) e = subst (λ (p : Place). Follows R (first Copy (x ∷ xs) [] a w) (then_do (run_with own other n os (Sequence (Plain Copy (p ∷ map cell xs) []) rest) b w) L)) e (direct_follows Copy (x ∷ xs) [] a b w g)
  copied_follows (x ∷ xs) (y ∷ ys) a b w g = at (cell x) (cell y) refl refl
    where
      direct : (p q : Place) → cell x ≡ p → cell y ≡ q → Follows R (first Copy (x ∷ xs) (y ∷ ys) a w) (then_do (run_with own other n os (Sequence (Plain Copy (p ∷ map cell xs) (q ∷ map cell ys)) rest) b w) L)
      direct p q ep eq =
          subst (λ (p' : Place). Follows R (first Copy (x ∷ xs) (y ∷ ys) a w) (then_do (run_with own other n os (Sequence (Plain Copy (p' ∷ map cell xs) (q ∷ map cell ys)) rest) b w) L)) ep
          (subst (λ (q' : Place). Follows R (first Copy (x ∷ xs) (y ∷ ys) a w) (then_do (run_with own other n os (Sequence (Plain Copy (cell x ∷ map cell xs) (q' ∷ map cell ys)) rest) b w) L)) eq
          (direct_follows Copy (x ∷ xs) (y ∷ ys) a b w g))

      at : (p q : Place) → cell x ≡ p → cell y ≡ q → Follows R (first Copy (x ∷ xs) (y ∷ ys) a w) (then_do (run_with own other n os (copied (p ∷ map cell xs) (q ∷ map cell ys) rest) b w) L)
      at (Register r) (Register t) ep eq = direct (Register r) (Register t) ep eq
      at (Register r) (Slot j) ep eq = direct (Register r) (Slot j) ep eq
      at (Slot i) (Register t) ep eq = direct (Slot i) (Register t) ep eq
      at (Slot i) (Slot j) ep eq = moved x y i j xs ys a b w ep eq g

  pub plain_follows : (o : Operation) (xs ys : List ℕ) (a b : Cells) (w : World) → Holds a b
      → Follows R (first o xs ys a w) (then_do (run_with own other n os (spill_plain o (map cell xs) (map cell ys) rest) b w) L)
  plain_follows (Constant v) xs ys a b w g = computed_follows (Constant v) (λ vs u. refl) (constant_one v) xs ys a b w g
  plain_follows Copy xs ys a b w g = copied_follows xs ys a b w g
  plain_follows (Compute op) xs ys a b w g = computed_follows (Compute op) (λ vs u. refl) (compute_one op) xs ys a b w g
  plain_follows (Load j) xs ys a b w g = computed_follows (Load j) (λ vs u. refl) (load_one j) xs ys a b w g
  plain_follows (Store j) xs ys a b w g = store_follows j xs ys a b w g
  plain_follows Forget xs ys a b w g = forget_follows xs ys a b w g
  plain_follows (Call f) xs ys a b w g = direct_follows (Call f) xs ys a b w g
  plain_follows (Access j) xs ys a b w g = direct_follows (Access j) xs ys a b w g
