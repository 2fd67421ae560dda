-- Outcomes that are ahead of the run, and the operands of what waits behind them.
use Rattle.std.proofs.Common.{◌≡◌, ℕ, ◌*◌, Bool, true, false, not, List, [], ◌∷◌, ◌++◌, map, length, Option, Some, None, IfSome, refl, sym, ap, ◌∙◌, subst}
use Rattle.std.specs.List.{AllByRecursion}
use Rattle.lb_rv.specs.declared.instr.Instr.{Instr}
use Rattle.lb_outcome.specs.declared.types.Outcome.{Outcome}
use Rattle.lb_outcome.specs.declared.types.Outcome.TheVariants.{Plain, Load, Store, Halt}
use Rattle.lb_front.specs.declared.item.FetchItem.{FetchItem}
use Rattle.lb_exec.specs.declared.item.DecodeItem.{DecodeItem}
use Rattle.lb_isa.specs.State.{RunState}
use Rattle.lb_isa.specs.Moves.{move, upcoming}
use Rattle.lb_core.specs.Rows.{same_epoch}
use Rattle.lb_core.specs.Scoreboard.{item_destination, outcome_destination, uses}
use Rattle.lb_core.specs.Stands.{ByTest, unserved, IsUnserved, IsServedRight, Ahead, fetched_part, HasInstruction, IsCurrent, Follows, HasOperands, HaveOperands}
use Rattle.lb_core.proofs.Tools.{into_false, if_some, some_is, if_some_map}
use Rattle.lb_core.proofs.EpochLemmas.{same_flip}
use Rattle.lb_core.proofs.RunLemmas.{SameOperands, commit_operands, executed_clear, execution_is}

-- ---- outcomes

-- something else of the run behind them
pub ahead_map : (code : List ℕ) (os : List Outcome) (s : RunState) (P Q : RunState → Type 0) → ((t : RunState) → P t → Q t) → Ahead code os s P
    → Ahead code os s Q
ahead_map code [] s P Q f h = f s h
ahead_map code (o ∷ os) s P Q f h =
    (h.0, h.1, if_some_map (move code s) (λ t. Ahead code os t P) (λ t. Ahead code os t Q) (λ t q. ahead_map code os t P Q f q) h.2)

-- one outcome more
pub ahead_snoc : (code : List ℕ) (os : List Outcome) (o : Outcome) (s : RunState) (P : RunState → Type 0)
    → Ahead code os s (λ t. Ahead code (o ∷ []) t P) → Ahead code (os ++ o ∷ []) s P
ahead_snoc code [] o s P h = h
ahead_snoc code (p ∷ os) o s P h = (
  h.0,
  h.1,
  if_some_map (move code s) (λ t. Ahead code os t (λ u. Ahead code (o ∷ []) u P)) (λ t. Ahead code (os ++ o ∷ []) t P)
      (λ t q. ahead_snoc code os o t P q) h.2,
)

unserved_destination : (o : Outcome) → outcome_destination (unserved o) ≡ outcome_destination o
unserved_destination (Plain rd v) = refl
unserved_destination (Load i a mmio served) = refl
unserved_destination (Store i a v mmio served) = refl
unserved_destination (Halt cause) = refl

-- behind outcomes that write nothing that an instruction uses, its operands are the same
pub ahead_operands : (code : List ℕ) (i : Option Instr) (g : ℕ → ℕ) (os : List Outcome) (s : RunState) (P Q : RunState → Type 0)
    → AllByRecursion (λ o. uses i (outcome_destination o) ≡ false) os → SameOperands i s.processor.registers g
    → ((t : RunState) → SameOperands i t.processor.registers g → P t → Q t) → Ahead code os s P → Ahead code os s Q
ahead_operands code i g [] s P Q n q f h = f s q h
ahead_operands code i g (o ∷ os) s P Q n q f h = (
  h.0,
  h.1,
  if_some (move code s) (λ t. Ahead code os t Q) (λ t m.
      (let d : uses i (outcome_destination (upcoming code s.processor).outcome) ≡ false =
      ap (λ p. uses i (outcome_destination p)) (sym h.0) ∙ ap (uses i) (unserved_destination o) ∙ n.0 in
      ahead_operands code i g os t P Q n.1
      (commit_operands i (upcoming code s.processor).outcome (upcoming code s.processor).next s t g d m q) f
      (some_is (move code s) (λ u. Ahead code os u P) t m h.2))),
)

-- an outcome that isn't served is served right
pub unserved_right : (o : Outcome) (s : RunState) → IsUnserved o → IsServedRight o s
unserved_right (Plain rd v) s h = tt
unserved_right (Load i a mmio None) s h = tt
unserved_right (Load i a false (Some v)) s h = absurd (cc h)
unserved_right (Load i a true (Some v)) s h = absurd (cc h)
unserved_right (Store i a v mmio served) s h = tt
unserved_right (Halt cause) s h = tt

-- ---- operands of decoded items

-- once the epoch flips there is nothing to be said of them
pub flipped_operands : (code : List ℕ) (e : Bool) (ds : List DecodeItem) (its : List FetchItem) (s : RunState)
    → AllByRecursion (IsCurrent e) (map fetched_part ds ++ its) → HaveOperands code (not e) ds s
flipped_operands code e [] its s h = tt
flipped_operands code e (d ∷ ds) its s h =
    into_false _ _ (same_epoch d.epoch (not e)) (same_flip d.epoch e h.0) (flipped_operands code e ds its s h.1)

module _ (code : List ℕ) (e : Bool) (new : DecodeItem) (g : ℕ → ℕ) where
  -- an older item that is right leaves the operands
  operands_next : (d : DecodeItem) (s t : RunState) → d.pc ≡ s.processor.pc → HasInstruction code d → HasOperands d s.processor.registers
      → uses new.instruction (item_destination d) ≡ false → move code s ≡ Some t → SameOperands new.instruction s.processor.registers g
      → SameOperands new.instruction t.processor.registers g
  operands_next d s t p i o n m q =
      let x = execution_is code d s.processor p i.0 i.1 o in
      let c : uses new.instruction (outcome_destination (upcoming code s.processor).outcome) ≡ false =
      ap (λ y. uses new.instruction (outcome_destination y.outcome)) (sym x)
      ∙ executed_clear new.instruction (4 * length code) d.pc d.word d.instruction d.left d.right n in
      commit_operands new.instruction (upcoming code s.processor).outcome (upcoming code s.processor).next s t g c m q

  -- one more decoded item has the values that the registers held at the oldest
  pub operands_decoded : (ds : List DecodeItem) (its : List FetchItem) (fetch : ℕ) (s : RunState)
      → AllByRecursion (HasInstruction code) ds → AllByRecursion (λ d. uses new.instruction (item_destination d) ≡ false) ds
      → HasOperands new g → SameOperands new.instruction s.processor.registers g
      → Follows e (map fetched_part ds ++ its) s.processor.pc fetch → HaveOperands code e ds s → HaveOperands code e (ds ++ new ∷ []) s
  operands_decoded [] its fetch s is ns o q f h = both (same_epoch new.epoch e)
    where
      both : (b : Bool)
          → ByTest b (HasOperands new s.processor.registers × IfSome (move code s) (λ t. t.processor.pc ≡ new.predicted → Unit {0})) (Unit {0})
      both true =
          ((o.0 ∙ sym q.left, o.1 ∙ sym q.right), if_some (move code s) (λ t. t.processor.pc ≡ new.predicted → Unit {0}) (λ t m p. tt))
      both false = tt
  operands_decoded (d ∷ ds) its fetch s is ns o q f h =
      by_epoch (same_epoch d.epoch e) f h (λ t u x y. operands_decoded ds its fetch t is.1 ns.1 o u x y)
      (λ x y. operands_decoded ds its fetch s is.1 ns.1 o q x y)
    where
      by_epoch : (b : Bool)
          → ByTest b ((d.pc ≡ s.processor.pc) × Follows e (map fetched_part ds ++ its) d.predicted fetch)
          (Follows e (map fetched_part ds ++ its) s.processor.pc fetch)
          → ByTest b (HasOperands d s.processor.registers × IfSome (move code s) (λ t. t.processor.pc ≡ d.predicted → HaveOperands code e ds t))
          (HaveOperands code e ds s)
          → ((t : RunState) → SameOperands new.instruction t.processor.registers g
          → Follows e (map fetched_part ds ++ its) t.processor.pc fetch → HaveOperands code e ds t → HaveOperands code e (ds ++ new ∷ []) t)
          → (Follows e (map fetched_part ds ++ its) s.processor.pc fetch → HaveOperands code e ds s → HaveOperands code e (ds ++ new ∷ []) s)
          → ByTest b
          (HasOperands d s.processor.registers
          × IfSome (move code s) (λ t. t.processor.pc ≡ d.predicted → HaveOperands code e (ds ++ new ∷ []) t))
          (HaveOperands code e (ds ++ new ∷ []) s)
      by_epoch true u v go stay = (
        v.0,
        if_some (move code s) (λ t. t.processor.pc ≡ d.predicted → HaveOperands code e (ds ++ new ∷ []) t) (λ t m p.
            go t (operands_next d s t u.0 is.0 v.0 ns.0 m q)
            (subst (λ (c : ℕ). Follows e (map fetched_part ds ++ its) c fetch) (sym p) u.1)
            (some_is (move code s) (λ w. w.processor.pc ≡ d.predicted → HaveOperands code e ds w) t m v.1 p)),
      )
      by_epoch false u v go stay = stay u v
