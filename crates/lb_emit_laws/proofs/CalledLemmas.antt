-- Calls that are allowed: what holds of all calls of a command may take the place of what was asked of them.
use Rattle.std.proofs.Common.{ℕ, List, [], ◌∷◌, drop, length}
use Rattle.lb_syntax.specs.declared.tree.Action.TheVariants.{Read, Write}
use Rattle.lb_flat.specs.declared.places.Place.{Place}
use Rattle.lb_flat.specs.declared.places.Place.TheVariants.{Register, Slot}
use Rattle.lb_flat.specs.Code.{Operation, Constant, Copy, Compute, Load, Store, Call, Access}
use Rattle.lb_flat.specs.Code.{Code, Plain, Reserve, Branch, Loop, Nothing, Sequence, sites, Routine}
use Rattle.lb_emit_laws.specs.Frames.{Frame}
use Rattle.lb_emit_laws.proofs.Ordered.{IsPlainInOrder, InOrder}

module _ (fs : List (Routine Place)) (A B : ℕ → Type 0) (f : Frame) (go : (g : ℕ) → A g → B g) where
  plain_calls : (o : Operation) (xs ys : List Place) → IsPlainInOrder fs A f o xs ys → IsPlainInOrder fs B f o xs ys
  plain_calls (Constant v) [] (Register y ∷ []) h = h
  plain_calls Copy (Register x ∷ []) (Register y ∷ []) h = h
  plain_calls Copy (Slot k ∷ []) (Register y ∷ []) h = h
  plain_calls Copy (Register x ∷ []) (Slot k ∷ []) h = h
  plain_calls (Compute op) (Register l ∷ Register r ∷ []) (Register y ∷ []) h = h
  plain_calls (Load w) (Register a ∷ []) (Register y ∷ []) h = h
  plain_calls (Store w) (Register a ∷ Register x ∷ []) [] h = h
  plain_calls (Call g) xs ys h =
      (h.0, h.1, h.2, h.3, h.4, record { callee = h.5.callee; is = h.5.is; arity = h.5.arity; answers = h.5.answers; allowed = go g h.5.allowed })
  plain_calls (Access Read) (a ∷ []) (y ∷ []) h = h
  plain_calls (Access Write) (a ∷ x ∷ []) [] h = h
  plain_calls o xs ys h = absurd h

  pub InOrder-calls : (os : List ℕ) (c : Code Place) → InOrder fs A f os c → InOrder fs B f os c
  InOrder-calls os (Plain o xs ys) h = plain_calls o xs ys h
  InOrder-calls os (Reserve n y b) h = (h.0, h.1, InOrder-calls (drop 1 os) b h.2)
  InOrder-calls os (Branch x b d) h = (h.0, InOrder-calls os b h.1, InOrder-calls (drop (length (sites b)) os) d h.2)
  InOrder-calls os (Loop b x d) h = (h.0, InOrder-calls os b h.1, InOrder-calls (drop (length (sites b)) os) d h.2)
  InOrder-calls os Nothing h = tt
  InOrder-calls os (Sequence c d) h = (InOrder-calls os c h.0, InOrder-calls (drop (length (sites c)) os) d h.1)
