-- The nine kinds in their order.
use Rattle.std.proofs.Common.{◌≡◌, ◌<◌, ℕ, zero, suc, ◌+◌, refl, ap, ◌∙◌, subst, arith}
use Rattle.lb_trace.specs.declared.Kind.{Kind}
use Rattle.lb_trace.specs.declared.Kind.TheVariants.{Fetch, Decode, Execute, Ram, Mmio, Writeback, Boot, Shift, Arrive}
use Rattle.lb_crew.specs.Drawn.{kind_behind, next_kind}

behind_next : (kind : Kind) (n : ℕ) → kind_behind (next_kind kind) n ≡ next_kind (kind_behind kind n)
behind_next kind zero = refl
behind_next kind (suc n) = ap next_kind (behind_next kind n)

pub next_behind : (first kind : Kind) (n : ℕ) → kind ≡ kind_behind first n → next_kind kind ≡ kind_behind first (n + 1)
next_behind first kind n is = let e : suc n ≡ n + 1 = omega arith in ap next_kind is ∙ ap (kind_behind first) e

eight_behind : (kind : Kind) → kind_behind (next_kind kind) 8 ≡ kind
eight_behind Fetch = refl
eight_behind Decode = refl
eight_behind Execute = refl
eight_behind Ram = refl
eight_behind Mmio = refl
eight_behind Writeback = refl
eight_behind Boot = refl
eight_behind Shift = refl
eight_behind Arrive = refl

module _ (P : Kind → Type 0) where
  -- it holds of the nine kinds from this one on
  abbrev pub HoldsFrom : Kind → Type 0
  HoldsFrom kind = (n : ℕ) → n < 9 → P (kind_behind kind n)

  earlier : (kind : Kind) → HoldsFrom (next_kind kind) → HoldsFrom kind
  earlier kind f zero b = subst P (eight_behind kind) (f 8 (omega arith))
  earlier kind f (suc n) b = subst P (behind_next kind n) (f n (omega (arith, b)))

  from_first : HoldsFrom Fetch → (kind : Kind) → P kind
  from_first f Fetch = f 0 (omega arith)
  from_first f Decode = f 1 (omega arith)
  from_first f Execute = f 2 (omega arith)
  from_first f Ram = f 3 (omega arith)
  from_first f Mmio = f 4 (omega arith)
  from_first f Writeback = f 5 (omega arith)
  from_first f Boot = f 6 (omega arith)
  from_first f Shift = f 7 (omega arith)
  from_first f Arrive = f 8 (omega arith)

  turned : (kind : Kind) → HoldsFrom kind → HoldsFrom Fetch
  turned Fetch f = f
  turned Decode f = earlier Fetch f
  turned Execute f = earlier Fetch (earlier Decode f)
  turned Ram f = earlier Fetch (earlier Decode (earlier Execute f))
  turned Mmio f = earlier Fetch (earlier Decode (earlier Execute (earlier Ram f)))
  turned Writeback f = earlier Fetch (earlier Decode (earlier Execute (earlier Ram (earlier Mmio f))))
  turned Boot f = earlier Fetch (earlier Decode (earlier Execute (earlier Ram (earlier Mmio (earlier Writeback f)))))
  turned Shift f =
      earlier Fetch (earlier Decode (earlier Execute (earlier Ram (earlier Mmio (earlier Writeback (earlier Boot f))))))
  turned Arrive f =
      earlier Fetch (earlier Decode (earlier Execute (earlier Ram (earlier Mmio (earlier Writeback (earlier Boot (earlier Shift f)))))))

  -- what holds of nine kinds in a row holds of all
  pub of_all : (first : Kind) → HoldsFrom first → (kind : Kind) → P kind
  of_all first f kind = from_first (turned first f) kind
