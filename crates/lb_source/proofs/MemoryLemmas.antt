-- Laws of memory, kept as cells.
use Rattle.std.proofs.Common.{◌≡◌, ◌≢◌, ℕ, zero, suc, ◌+◌, ◌<◌, List, [], ◌∷◌, length, Option, Some, None, Result, Ok, Err, inl, inr, refl, sym, ap, ◌∙◌, arith}
use Rattle.std.proofs.lemmas.Bool.Decides.{nat_tests}
use Rattle.std.proofs.lemmas.Bool.{cases_eq}
use Rattle.std.specs.Prelude.{if◌then◌else◌, slice_get, slice_set, nat_le, nat_lt, ◌&&◌, replicate, ◌%◌, ◌/◌, ◌^◌, ◌⊎◌}
use Rattle.lb_source.specs.declared.memory.Cell.{Cell}
use Rattle.lb_source.specs.declared.memory.Cell.TheVariants.{Absent}
use Rattle.lb_source.specs.Maps.{Memory, with_range, nothing_owned}
use Rattle.lb_source.specs.declared.ends.Reason.{Reason}
use Rattle.lb_source.specs.Run.{if_owned, store}
use Rattle.lb_source.specs.InternalMachine.{cell_of, memory_of}
use Rattle.lb_source.proofs.MapLemmas.{same_everywhere}

-- a test of one place
one_place : (i a : ℕ) (x y : Option (Option ℕ)) → a ≡ i → (if nat_le i a && nat_lt a (i + 1) then x else y) ≡ x
one_place i a x y e = grind (arith, nat_tests)

other_place : (i a : ℕ) (x y : Option (Option ℕ)) → a ≢ i → (if nat_le i a && nat_lt a (i + 1) then x else y) ≡ y
other_place i a x y e = grind (arith, nat_tests)

set_same : (cells : List Cell) (i : ℕ) (c : Cell) → i < length cells → slice_get (slice_set cells i c) i ≡ Some c
set_same [] i c h = absurd (omega arith)
set_same (d ∷ cells) zero c h = refl
set_same (d ∷ cells) (suc i) c h = set_same cells i c (omega arith)

set_other : (cells : List Cell) (i a : ℕ) (c : Cell) → a ≢ i → slice_get (slice_set cells i c) a ≡ slice_get cells a
set_other [] i a c h = refl
set_other (d ∷ cells) zero zero c h = absurd (h refl)
set_other (d ∷ cells) zero (suc a) c h = refl
set_other (d ∷ cells) (suc i) zero c h = refl
set_other (d ∷ cells) (suc i) (suc a) c h = set_other cells i a c (λ e. h (ap suc e))

at_place : (cells : List Cell) (i a : ℕ) (c : Cell) → i < length cells → (a ≡ i) ⊎ (a ≢ i) → memory_of (slice_set cells i c) a ≡ with_range i 1 (cell_of (Some c)) (memory_of cells) a
at_place cells i a c h (inl e) = ap (λ k. cell_of (slice_get (slice_set cells i c) k)) e ∙ ap cell_of (set_same cells i c h) ∙ sym (one_place i a (cell_of (Some c)) (memory_of cells a) e)
at_place cells i a c h (inr n) = ap cell_of (set_other cells i a c n) ∙ sym (other_place i a (cell_of (Some c)) (memory_of cells a) n)

-- one cell set
pub cells_set : (cells : List Cell) (i : ℕ) (c : Cell) → i < length cells → memory_of (slice_set cells i c) ≡ with_range i 1 (cell_of (Some c)) (memory_of cells)
cells_set cells i c h = same_everywhere _ _ (λ a. at_place cells i a c h (cases_eq a i))

range_next : (base k a : ℕ) (x y : Option (Option ℕ)) → (if nat_le (base + k) a && nat_lt a (base + k + 1) then x else (if nat_le base a && nat_lt a (base + k) then x else y)) ≡ (if nat_le base a && nat_lt a (base + (k + 1)) then x else y)
range_next base k a x y = grind (arith, nat_tests)

range_none : (base a : ℕ) (x y : Option (Option ℕ)) → (if nat_le base a && nat_lt a (base + 0) then x else y) ≡ y
range_none base a x y = grind (arith, nat_tests)

-- one more of a range, and none
pub fill_next : (base k : ℕ) (x : Option (Option ℕ)) (m : Memory) → with_range (base + k) 1 x (with_range base k x m) ≡ with_range base (k + 1) x m
fill_next base k x m = same_everywhere _ _ (λ a. range_next base k a x (m a))

pub fill_none : (base : ℕ) (x : Option (Option ℕ)) (m : Memory) → with_range base 0 x m ≡ m
fill_none base x m = same_everywhere _ _ (λ a. range_none base a x (m a))

absent : (n a : ℕ) → cell_of (slice_get (replicate n Absent) a) ≡ None
absent zero a = refl
absent (suc n) zero = refl
absent (suc n) (suc a) = absent n a

pub absent_nothing : (n : ℕ) → memory_of (replicate n Absent) ≡ nothing_owned
absent_nothing n = same_everywhere _ _ (absent n)

-- a store's first byte, and those after it
owned_by : (o : Option (Option ℕ)) (w m1 : Memory) (rest : Memory → Result Memory Reason) → Ok m1 ≡ if_owned o (Ok w) → if_owned o (rest w) ≡ rest m1
owned_by None w m1 rest e = cc
owned_by (Some b) w m1 rest e = let same : w ≡ m1 = cc in ap rest same

not_owned : (o : Option (Option ℕ)) (w : Memory) (e : Reason) (rest : Result Memory Reason) → Err e ≡ if_owned o (Ok w) → if_owned o rest ≡ Err e
not_owned None w e rest h = sym h
not_owned (Some b) w e rest h = cc

store_last : (a b v w : ℕ) (m : Memory) → b % 2 ^ 32 ≡ a % 2 ^ 32 → w % 256 ≡ v % 256 → store 1 b w m ≡ store 1 a v m
store_last a b v w m place byte =
    ap (λ p. if_owned (m p) (Ok (with_range p 1 (Some (Some (w % 256))) m))) place
    ∙ ap (λ q. if_owned (m (a % 2 ^ 32)) (Ok (with_range (a % 2 ^ 32) 1 (Some (Some q)) m))) byte

store_first : (n a b v w : ℕ) (m m1 : Memory) → b % 2 ^ 32 ≡ a % 2 ^ 32 → w % 256 ≡ v % 256 → Ok m1 ≡ store 1 b w m → store (suc n) a v m ≡ store n (a + 1) (v / 256) m1
store_first n a b v w m m1 e f h =
    owned_by (m (a % 2 ^ 32)) (with_range (a % 2 ^ 32) 1 (Some (Some (v % 256))) m) m1 (λ l. store n (a + 1) (v / 256) l) (h ∙ store_last a b v w m e f)

store_fails : (n a b v w : ℕ) (m : Memory) (r : Reason) → b % 2 ^ 32 ≡ a % 2 ^ 32 → w % 256 ≡ v % 256 → Err r ≡ store 1 b w m → store (suc n) a v m ≡ Err r
store_fails n a b v w m r e f h =
    not_owned (m (a % 2 ^ 32)) (with_range (a % 2 ^ 32) 1 (Some (Some (v % 256))) m) r _ (h ∙ store_last a b v w m e f)

-- two and four bytes, each by a store of one
module _ (a v : ℕ) (m m1 : Memory) (first : Ok m1 ≡ store 1 a v m) where
  pub store_two : store 2 a v m ≡ store 1 ((a + 1) % 2 ^ 32) (v / 2 ^ 8) m1
  store_two = store_first 1 a a v v m m1 refl refl first ∙ sym (store_last (a + 1) ((a + 1) % 2 ^ 32) (v / 256) (v / 2 ^ 8) m1 (omega arith) refl)

  pub store_four_fails : (r : Reason) → Err r ≡ store 1 ((a + 1) % 2 ^ 32) (v / 2 ^ 8) m1 → store 4 a v m ≡ Err r
  store_four_fails r h = store_first 3 a a v v m m1 refl refl first ∙ store_fails 2 (a + 1) ((a + 1) % 2 ^ 32) (v / 256) (v / 2 ^ 8) m1 r (omega arith) refl h

  three : (m2 : Memory) → Ok m2 ≡ store 1 ((a + 1) % 2 ^ 32) (v / 2 ^ 8) m1 → store 4 a v m ≡ store 2 (a + 1 + 1) (v / 256 / 256) m2
  three m2 second = store_first 3 a a v v m m1 refl refl first ∙ store_first 2 (a + 1) ((a + 1) % 2 ^ 32) (v / 256) (v / 2 ^ 8) m1 m2 (omega arith) refl second

  pub store_four_fails_late : (m2 : Memory) (r : Reason) → Ok m2 ≡ store 1 ((a + 1) % 2 ^ 32) (v / 2 ^ 8) m1 → Err r ≡ store 1 ((a + 2) % 2 ^ 32) (v / 2 ^ 16) m2 → store 4 a v m ≡ Err r
  store_four_fails_late m2 r second h = three m2 second ∙ store_fails 1 (a + 1 + 1) ((a + 2) % 2 ^ 32) (v / 256 / 256) (v / 2 ^ 16) m2 r (omega arith) (omega arith) h

  pub store_four : (m2 m3 : Memory) → Ok m2 ≡ store 1 ((a + 1) % 2 ^ 32) (v / 2 ^ 8) m1 → Ok m3 ≡ store 1 ((a + 2) % 2 ^ 32) (v / 2 ^ 16) m2 → store 4 a v m ≡ store 1 ((a + 3) % 2 ^ 32) (v / 2 ^ 24) m3
  store_four m2 m3 second third =
      three m2 second
      ∙ store_first 1 (a + 1 + 1) ((a + 2) % 2 ^ 32) (v / 256 / 256) (v / 2 ^ 16) m2 m3 (omega arith) (omega arith) third
      ∙ sym (store_last (a + 1 + 1 + 1) ((a + 3) % 2 ^ 32) (v / 256 / 256 / 256) (v / 2 ^ 24) m3 (omega arith) (omega arith))
