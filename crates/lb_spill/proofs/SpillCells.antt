-- Cells that have what others have, scratch registers aside, before and after slots are got and put back.
use Rattle.std.proofs.Common.{◌≡◌, ◌≢◌, ℕ, ◌+◌, ◌<◌, ◌≤◌, Bool, true, false, List, [], ◌∷◌, map, Option, Some, None, Result, Ok, Err, refl, sym, ap, ap₂, ◌∙◌, subst, arith, le-leb}
use Rattle.std.specs.Prelude.{if◌then◌else◌, nat_le}
use Rattle.lb_source.specs.declared.ends.Reason.{Reason}
use Rattle.lb_source.specs.Value.{or_unset, before}
use Rattle.lb_flat.specs.declared.registers.TheConstants.{FIRST_SCRATCH_REGISTER}
use Rattle.lb_flat.specs.declared.places.Place.{Place}
use Rattle.lb_flat.specs.declared.places.Place.TheVariants.{Register, Slot}
use Rattle.lb_flat.specs.Cells.{Cells, same_place, put, set_all}
use Rattle.lb_flat.specs.Code.{Copy, Code, Plain, Sequence}
use Rattle.lb_flat.specs.Run.{World, Outcome, Goes, then_do, with_value, Caller, effect, values, run_with}
use Rattle.lb_flat.proofs.BooleanLemmas.{by_test}
use Rattle.lb_flat.proofs.PutLemmas.{same_place_equal, put_same, put_other, more_read}
use Rattle.lb_flat.proofs.Follow.{Follows}
use Rattle.lb_spill.specs.InternalSpill.{in_register, in_registers, got, got_all, put_back}

-- placed code names places
abbrev pub own : Place → Place
own p = p

-- a register from the first scratch register on, which no variable has
abbrev pub is_scratch : Place → Bool
is_scratch (Register r) = nat_le FIRST_SCRATCH_REGISTER r
is_scratch (Slot i) = false

-- what the first cells have, the second have, scratch registers aside
pub record Holds (a b : Cells) : Type 0 where
  pub at : (p : Place) → is_scratch p ≡ false → (v : ℕ) → a p ≡ Some v → b p ≡ Some v

-- ---- cells written

holds_put : (p : Place) (o : Option ℕ) (a b : Cells) → Holds a b → Holds (put p o a) (put p o b)
holds_put p o a b h = record {
  at = λ q f v e. by_test (same_place p q)
      (λ t. ap (λ c. if c then o else b q) t ∙ sym (ap (λ c. if c then o else a q) t) ∙ e)
      (λ n. ap (λ c. if c then o else b q) n ∙ h.at q f v (sym (ap (λ c. if c then o else a q) n) ∙ e));
}

holds_unset : (p : Place) (a b : Cells) → Holds a b → Holds (put p None a) b
holds_unset p a b h = record {
  at = λ q f v e. by_test (same_place p q)
      (λ t. let no : ◌≡◌ {A = Option ℕ} None (Some v) = sym (ap (λ c. if c then None else a q) t) ∙ e in cc)
      (λ n. h.at q f v (sym (ap (λ c. if c then None else a q) n) ∙ e));
}

holds_scratch : (s : ℕ) (o : Option ℕ) (a b : Cells) → FIRST_SCRATCH_REGISTER ≤ s → Holds a b → Holds a (put (Register s) o b)
holds_scratch s o a b le h = record {
  at = λ q f v e. by_test (same_place (Register s) q)
      (λ t. let high : is_scratch (Register s) ≡ true = le-leb FIRST_SCRATCH_REGISTER s le in
      let same : is_scratch q ≡ true = ap is_scratch (sym (same_place_equal (Register s) q t)) ∙ high in cc)
      (λ n. ap (λ c. if c then o else b q) n ∙ h.at q f v e);
}

pub holds_set_all : (cell : ℕ → Place) (ys rs : List ℕ) (a b : Cells) → Holds a b → Holds (set_all cell ys rs a) (set_all own (map cell ys) rs b)
holds_set_all cell [] rs a b h = h
holds_set_all cell (y ∷ ys) [] a b h = holds_set_all cell ys [] (put (cell y) None a) (put (cell y) None b) (holds_put (cell y) None a b h)
holds_set_all cell (y ∷ ys) (r ∷ rs) a b h = holds_set_all cell ys rs (put (cell y) (Some r) a) (put (cell y) (Some r) b) (holds_put (cell y) (Some r) a b h)

pub holds_unset_all : (cell : ℕ → Place) (ys : List ℕ) (a b : Cells) → Holds a b → Holds (set_all cell ys [] a) b
holds_unset_all cell [] a b h = h
holds_unset_all cell (y ∷ ys) a b h = holds_unset_all cell ys (put (cell y) None a) b (holds_unset (cell y) a b h)

-- ---- values read

pub values_own : (cell : ℕ → Place) (xs : List ℕ) (a : Cells) → values own (map cell xs) a ≡ values cell xs a
values_own cell [] a = refl
values_own cell (x ∷ xs) a = ap (λ r. before (or_unset (a (cell x))) r) (values_own cell xs a)

pub values_hold : (cell : ℕ → Place) → ((x : ℕ) → is_scratch (cell x) ≡ false) → (xs : List ℕ) (a b : Cells) → Holds a b → (vs : List ℕ) → values cell xs a ≡ Ok vs → values own (map cell xs) b ≡ Ok vs
values_hold cell fit [] a b h vs e = e
values_hold cell fit (x ∷ xs) a b h vs e =
    more_read (a (cell x)) (b (cell x)) (values cell xs a) (values own (map cell xs) b) (h.at (cell x) (fit x)) (values_hold cell fit xs a b h) vs e

-- none of these is a scratch register
abbrev pub AllFit : List Place → Type 0
AllFit [] = Unit {0}
AllFit (p ∷ ps) = (is_scratch p ≡ false) × AllFit ps

or_nil : Result (List ℕ) Reason → List ℕ
or_nil (Ok vs) = vs
or_nil (Err e) = []

-- the value that is read first, and the others
pub record FirstOf (o : Option ℕ) (r : Result (List ℕ) Reason) (vs : List ℕ) : Type 0 where
  pub value : ℕ
  pub others : List ℕ
  pub has : o ≡ Some value
  pub rest : r ≡ Ok others
  pub whole : value ∷ others ≡ vs

pub first_of : (o : Option ℕ) (r : Result (List ℕ) Reason) (vs : List ℕ) → before (or_unset o) r ≡ Ok vs → FirstOf o r vs
unfolding or_nil
first_of None r vs e = absurd (cc)
first_of (Some v) (Err f) vs e = absurd (cc)
first_of (Some v) (Ok ws) vs e = record { value = v; others = ws; has = refl; rest = refl; whole = ap or_nil e }

-- ---- slots got and put back

module _ (other : Caller) (n : ℕ) where
  -- a copy from a cell that is set
  run_copy : (os : List ℕ) (rest : Code Place) (p q : Place) (b : Cells) (w : World) (v : ℕ) → b p ≡ Some v
      → run_with own other n os (Sequence (Plain Copy (p ∷ []) (q ∷ [])) rest) b w ≡ run_with own other n os rest (put q (Some v) b) w
  run_copy os rest p q b w v h =
      ap (λ o. then_do (with_value (before (or_unset o) (Ok [])) w (λ vs. then_do (effect other Copy vs w) (λ rs u. Goes (set_all own (q ∷ []) rs b) u))) (run_with own other n os rest)) h

  module _ (R : Cells → Cells → Type 0) (L : Cells → World → Outcome Cells) (o : Outcome Cells) (os : List ℕ) where
    pub got_follows : (s : ℕ) (p : Place) (rest : Code Place) (a b : Cells) (w : World) (v : ℕ) → FIRST_SCRATCH_REGISTER ≤ s → is_scratch p ≡ false → Holds a b → a p ≡ Some v
        → ((b' : Cells) → Holds a b' → b' (in_register s p) ≡ Some v → ((r : ℕ) → r < s → b' (Register r) ≡ b (Register r)) → Follows R o (then_do (run_with own other n os rest b' w) L))
        → Follows R o (then_do (run_with own other n os (got s p rest) b w) L)
    got_follows s (Register r) rest a b w v le fit h e k = k b h (h.at (Register r) fit v e) (λ r lt. refl)
    got_follows s (Slot i) rest a b w v le fit h e k =
        subst (λ x. Follows R o (then_do x L)) (sym (run_copy os rest (Slot i) (Register s) b w v (h.at (Slot i) refl v e)))
        (k (put (Register s) (Some v) b) (holds_scratch s (Some v) a b le h) (put_same (Register s) (Some v) b)
        (λ r lt. put_other (Register s) (Register r) (Some v) b (λ same. let eq : s ≡ r = ap register_of same in let ne : s ≢ r = omega arith in ne eq)))
      where
        register_of : Place → ℕ
        register_of (Register r) = r
        register_of (Slot i) = 0

    pub put_back_follows : (s : ℕ) (q : Place) (rest : Code Place) (a b : Cells) (w : World) (v : ℕ) → FIRST_SCRATCH_REGISTER ≤ s → Holds a b
        → ((b' : Cells) → Holds (put q (Some v) a) b' → Follows R o (then_do (run_with own other n os rest b' w) L))
        → Follows R o (then_do (run_with own other n os (put_back s q rest) (put (in_register s q) (Some v) b) w) L)
    put_back_follows s (Register r) rest a b w v le h k = k (put (Register r) (Some v) b) (holds_put (Register r) (Some v) a b h)
    put_back_follows s (Slot i) rest a b w v le h k =
        let c = put (Register s) (Some v) b in
        subst (λ x. Follows R o (then_do x L)) (sym (run_copy os rest (Register s) (Slot i) c w v (put_same (Register s) (Some v) b)))
        (k (put (Slot i) (Some v) c) (holds_put (Slot i) (Some v) a c (holds_scratch s (Some v) a b le h)))

    -- a slot through a register to another slot
    pub moved_follows : (s i j : ℕ) (rest : Code Place) (a b : Cells) (w : World) (v : ℕ) → FIRST_SCRATCH_REGISTER ≤ s → Holds a b → a (Slot i) ≡ Some v
        → ((b' : Cells) → Holds (put (Slot j) (Some v) a) b' → Follows R o (then_do (run_with own other n os rest b' w) L))
        → Follows R o (then_do (run_with own other n os (got s (Slot i) (put_back s (Slot j) rest)) b w) L)
    moved_follows s i j rest a b w v le h e k =
        subst (λ x. Follows R o (then_do x L)) (sym (run_copy os (put_back s (Slot j) rest) (Slot i) (Register s) b w v (h.at (Slot i) refl v e)))
        (put_back_follows s (Slot j) rest a b w v le h k)

    stays : (s : ℕ) (p : Place) (a c b' : Cells) (v : ℕ) → is_scratch p ≡ false → a p ≡ Some v → Holds a b' → c (in_register s p) ≡ Some v → ((r : ℕ) → r < s + 1 → b' (Register r) ≡ c (Register r)) → b' (in_register s p) ≡ Some v
    stays s (Register r) a c b' v fit e h has keeps = h.at (Register r) fit v e
    stays s (Slot i) a c b' v fit e h has keeps = keeps s (omega arith) ∙ has

    pub got_all_follows : (ps : List Place) (s : ℕ) (vs : List ℕ) (rest : Code Place) (a b : Cells) (w : World) → FIRST_SCRATCH_REGISTER ≤ s → AllFit ps → Holds a b → values own ps a ≡ Ok vs
        → ((b' : Cells) → Holds a b' → values own (in_registers s ps) b' ≡ Ok vs → ((r : ℕ) → r < s → b' (Register r) ≡ b (Register r)) → Follows R o (then_do (run_with own other n os rest b' w) L))
        → Follows R o (then_do (run_with own other n os (got_all s ps rest) b w) L)
    got_all_follows [] s vs rest a b w le fit h e k = k b h e (λ r lt. refl)
    got_all_follows (p ∷ ps) s vs rest a b w le fit h e k =
        let d = first_of (a p) (values own ps a) vs e in
        got_follows s p (got_all (s + 1) ps rest) a b w d.value le fit.0 h d.has (λ c h1 has1 keeps1.
        got_all_follows ps (s + 1) d.others rest a c w (omega arith) fit.1 h1 d.rest (λ b' h' vals keeps.
        k b' h' (ap₂ (λ x r. before (or_unset x) r) (stays s p a c b' d.value fit.0 d.has h' has1 keeps) vals ∙ ap Ok d.whole) (λ r lt. keeps r (omega arith) ∙ keeps1 r lt)))
