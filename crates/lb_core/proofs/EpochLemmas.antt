-- Items of two epochs that wait.
use Rattle.std.proofs.Common.{◌≡◌, ℕ, Bool, true, false, not, List, [], ◌∷◌, ◌++◌, map, refl, ap, ◌∙◌}
use Rattle.std.specs.List.{AllByRecursion}
use Rattle.lb_front.specs.declared.item.FetchItem.{FetchItem}
use Rattle.lb_exec.specs.declared.item.DecodeItem.{DecodeItem}
use Rattle.lb_core.specs.Rows.{same_epoch, decoded_item}
use Rattle.lb_core.specs.Stands.{IsCurrent, Ordered, Follows, fetched_part}
use Rattle.lb_core.proofs.Tools.{by_test_map, into_true, into_false, all_snoc}

pub same_same : (e : Bool) → same_epoch e e ≡ true
same_same true = refl
same_same false = refl

pub same_flip : (a e : Bool) → same_epoch a e ≡ true → same_epoch a (not e) ≡ false
same_flip true true h = refl
same_flip true false h = absurd (cc h)
same_flip false true h = absurd (cc h)
same_flip false false h = refl

-- ---- one more item is fetched

pub follows_fetched : (e : Bool) (its : List FetchItem) (it : FetchItem) (pc fetch : ℕ) → IsCurrent e it → it.pc ≡ fetch → Follows e its pc fetch
    → Follows e (its ++ it ∷ []) pc it.predicted
follows_fetched e [] it pc fetch h p f = into_true _ _ (same_epoch it.epoch e) h (p ∙ f, refl)
follows_fetched e (x ∷ its) it pc fetch h p f =
    by_test_map (same_epoch x.epoch e) (λ q. (q.0, follows_fetched e its it x.predicted fetch h p q.1)) (λ q. follows_fetched e its it pc fetch h p q) f

pub ordered_fetched : (e : Bool) (its : List FetchItem) (it : FetchItem) → IsCurrent e it → Ordered e its → Ordered e (its ++ it ∷ [])
ordered_fetched e [] it h o = into_true _ _ (same_epoch it.epoch e) h tt
ordered_fetched e (x ∷ its) it h o =
    by_test_map (same_epoch x.epoch e) (λ q. all_snoc (IsCurrent e) its it q h) (λ q. ordered_fetched e its it h q) o

-- ---- the oldest item is executed: those behind it are of this epoch, or all of the other one once it flips

pub current_ordered : (e : Bool) (its : List FetchItem) → AllByRecursion (IsCurrent e) its → Ordered e its
current_ordered e [] h = tt
current_ordered e (it ∷ its) h = into_true _ _ (same_epoch it.epoch e) h.0 h.1

pub flipped_ordered : (e : Bool) (its : List FetchItem) → AllByRecursion (IsCurrent e) its → Ordered (not e) its
flipped_ordered e [] h = tt
flipped_ordered e (it ∷ its) h = into_false _ _ (same_epoch it.epoch (not e)) (same_flip it.epoch e h.0) (flipped_ordered e its h.1)

pub flipped_follows : (e : Bool) (its : List FetchItem) (pc fetch : ℕ) → fetch ≡ pc → AllByRecursion (IsCurrent e) its → Follows (not e) its pc fetch
flipped_follows e [] pc fetch p h = p
flipped_follows e (it ∷ its) pc fetch p h =
    into_false _ _ (same_epoch it.epoch (not e)) (same_flip it.epoch e h.0) (flipped_follows e its pc fetch p h.1)

-- ---- decoding moves the border between the two queues

pub waiting_decoded : (ds : List DecodeItem) (it : FetchItem) (its : List FetchItem) (registers : ℕ → ℕ)
    → map fetched_part ds ++ it ∷ its ≡ map fetched_part (ds ++ decoded_item it registers ∷ []) ++ its
waiting_decoded [] it its registers = refl
waiting_decoded (d ∷ ds) it its registers = ap (λ l. fetched_part d ∷ l) (waiting_decoded ds it its registers)
