-- Owned bytes stand in RAM, above a base; and what loads and stores do with them.
use Rattle.std.proofs.Common.{◌≡◌, ℕ, zero, suc, ◌+◌, ◌*◌, ◌/◌, ◌%◌, ◌^◌, ◌<◌, ◌≤◌, inl, inr, Bool, true, false, ◌&&◌, if◌then◌else◌, Option, Some, None, Result, Ok, Err, refl, sym, ap, ◌∙◌, subst, arith}
use Rattle.std.specs.Prelude.{◌==◌, nat_le, nat_lt}
use Rattle.std.proofs.lemmas.Bool.{leb-true, ltb-true, eqb-true, and_parts, cases_lt, lt-leb, le-leb, le-ltb, lt-ltb, eq-eqb, ne_eqb}
use Rattle.lb_syntax.specs.declared.tree.Width.{Width}
use Rattle.lb_syntax.specs.declared.tree.Width.TheVariants.{One, Two, Four}
use Rattle.lb_source.specs.Maps.{Memory, with_range}
use Rattle.lb_source.specs.Value.{byte_count, with_byte, load}
use Rattle.lb_source.specs.Run.{if_owned, store}
use Rattle.lb_source.specs.declared.ends.Reason.{Reason}
use Rattle.lb_outcome.specs.Ram.{number_at, with_bytes}
use Rattle.lb_outcome.specs.Ram as bytes
use Rattle.lb_emit_laws.proofs.Bytes.{Bytes, byte_other, true_or_false}

-- something stands there
abbrev pub is_owned : Option (Option ℕ) → Bool
is_owned None = false
is_owned (Some byte) = true

-- a byte of RAM
pub record IsByte (ram : Bytes) (x b : ℕ) : Type 0 where
  pub is : ram x ≡ b
  pub small : b < 256

-- an address from the base to the end of RAM
pub record IsAbove (base x : ℕ) : Type 0 where
  pub from : base ≤ x
  pub inside : x < 0x40000

-- what is owned and set stands in RAM; nothing is said of unset bytes
pub record Holds (base : ℕ) (memory : Memory) (ram : Bytes) : Type 0 where
  pub bytes : (x b : ℕ) → memory x ≡ Some (Some b) → IsByte ram x b
  pub place : (x : ℕ) → is_owned (memory x) ≡ true → IsAbove base x

pub unowned_below : (base : ℕ) (memory : Memory) (ram : Bytes) (x : ℕ) → Holds base memory ram → x < base → is_owned (memory x) ≡ false
unowned_below base memory ram x h lt = true_or_false (is_owned (memory x)) (λ e. absurd (omega (arith, (h.place x e).from)))

-- the same above a lower base
pub Holds-lower : (low base : ℕ) (memory : Memory) (ram : Bytes) → low ≤ base → Holds base memory ram → Holds low memory ram
Holds-lower low base memory ram le h = record { bytes = h.bytes; place = λ x o. (let a = h.place x o in record { from = omega (arith, a.from, le); inside = a.inside }) }

-- ---- loads

record Byte (cell : Option (Option ℕ)) (rest : Result ℕ Reason) (v : ℕ) : Type 0 where
  byte : ℕ
  high : ℕ
  is : cell ≡ Some (Some byte)
  rest_is : rest ≡ Ok high
  whole : byte + 256 * high ≡ v

byte_parts : (cell : Option (Option ℕ)) (rest : Result ℕ Reason) (v : ℕ) → with_byte cell rest ≡ Ok v → Byte cell rest v
byte_parts None rest v h = cc
byte_parts (Some None) rest v h = cc
byte_parts (Some (Some b)) (Err reason) v h = cc
byte_parts (Some (Some b)) (Ok high) v h = record { byte = b; high = high; is = refl; rest_is = refl; whole = cc }

-- what n bytes can hold is below this
abbrev pub bytes_bound : ℕ → ℕ
bytes_bound zero = 1
bytes_bound (suc n) = 256 * bytes_bound n

pub record Loaded (ram : Bytes) (n a v : ℕ) : Type 0 where
  pub reads : number_at n a ram ≡ v
  pub inside : a + n ≤ 0x40000
  pub small : v < bytes_bound n

pub load_reads : (base : ℕ) (memory : Memory) (ram : Bytes) → Holds base memory ram → (n a v : ℕ) → a ≤ 0x40000 → load memory n a ≡ Ok v → Loaded ram n a v
load_reads base memory ram h zero a v le is = record { reads = cc; inside = omega arith; small = let e : 0 ≡ v = cc in omega (arith, e) }
load_reads base memory ram h (suc n) a v le is =
    let parts = byte_parts (memory (a % 2 ^ 32)) (load memory n (a + 1)) v is in
    let same : a % 2 ^ 32 ≡ a = omega arith in
    let here : memory a ≡ Some (Some parts.byte) = ap memory (sym same) ∙ parts.is in
    let byte = h.bytes a parts.byte here in
    let above = h.place a (ap is_owned here) in
    let rest = load_reads base memory ram h n (a + 1) parts.high (omega (arith, above.inside)) parts.rest_is in
    record {
      reads = omega (arith, byte.is, rest.reads, parts.whole);
      inside = omega (arith, rest.inside);
      small = omega (arith, byte.small, rest.small, parts.whole);
    }

-- the first byte of a load of one byte or more is owned
load_inside : (base : ℕ) (memory : Memory) (ram : Bytes) → Holds base memory ram → (n a v : ℕ) → a < 2 ^ 32 → load memory (suc n) a ≡ Ok v → a ≤ 0x40000
load_inside base memory ram h n a v lt is =
    let parts = byte_parts (memory (a % 2 ^ 32)) (load memory n (a + 1)) v is in
    let same : a % 2 ^ 32 ≡ a = omega arith in
    let here : memory a ≡ Some (Some parts.byte) = ap memory (sym same) ∙ parts.is in
    omega (arith, (h.place a (ap is_owned here)).inside)

pub width_loaded : (base : ℕ) (memory : Memory) (ram : Bytes) → Holds base memory ram → (w : Width) (a v : ℕ) → a < 2 ^ 32 → load memory (byte_count w) a ≡ Ok v → Loaded ram (byte_count w) a v
width_loaded base memory ram h One a v lt is = load_reads base memory ram h 1 a v (load_inside base memory ram h 0 a v lt is) is
width_loaded base memory ram h Two a v lt is = load_reads base memory ram h 2 a v (load_inside base memory ram h 1 a v lt is) is
width_loaded base memory ram h Four a v lt is = load_reads base memory ram h 4 a v (load_inside base memory ram h 3 a v lt is) is

pub width_small : (w : Width) (v : ℕ) → v < bytes_bound (byte_count w) → v < 2 ^ 32
width_small One v h = omega arith
width_small Two v h = omega arith
width_small Four v h = omega arith

-- ---- stores

record Owned (cell : Option (Option ℕ)) (go : Result Memory Reason) (memory : Memory) : Type 0 where
  owned : is_owned cell ≡ true
  goes : go ≡ Ok memory

owned_parts : (cell : Option (Option ℕ)) (go : Result Memory Reason) (memory : Memory) → if_owned cell go ≡ Ok memory → Owned cell go memory
owned_parts None go memory h = cc
owned_parts (Some byte) go memory h = record { owned = refl; goes = h }

-- a range of one byte is that byte
one_byte : (a x : ℕ) → (nat_le a x && nat_lt x (a + 1)) ≡ (a == x)
one_byte a x = elim (cases_lt x a) [
  | inl less ↦ (λ i. lt-leb a x less i && nat_lt x (a + 1)) ∙ sym (ne_eqb a x (omega (arith, less)))
  | inr more ↦ (λ i. le-leb a x more i && nat_lt x (a + 1)) ∙ elim (cases_lt a x) [
    | inl greater ↦ le-ltb x (a + 1) (omega (arith, greater)) ∙ sym (ne_eqb a x (omega (arith, greater)))
    | inr same ↦ lt-ltb x (a + 1) (omega (arith, same)) ∙ sym (eq-eqb a x (omega (arith, more, same)))
  ]
]

-- one byte that is set
abbrev put : ℕ → ℕ → Memory → Memory
put a v memory = λ x. if a == x then Some (Some v) else memory x

range_put : (a v : ℕ) (memory : Memory) → with_range a 1 (Some (Some v)) memory ≡ put a v memory
range_put a v memory = λ i x. if one_byte a x i then Some (Some v) else memory x

-- a store into owned bytes: the same bytes are owned, they stand in RAM, and nothing else changes
pub record Stored (base n a v : ℕ) (memory : Memory) (ram : Bytes) (left : Memory) : Type 0 where
  pub holds : Holds base left (with_bytes n a v ram)
  pub inside : a + n ≤ 0x40000
  pub same : (x : ℕ) → is_owned (left x) ≡ is_owned (memory x)
  pub apart : (x : ℕ) → is_owned (memory x) ≡ false → with_bytes n a v ram x ≡ ram x

byte_put : (b : Bool) (x v w : ℕ) (memory : Memory) (ram : Bytes) → (memory x ≡ Some (Some w) → IsByte ram x w)
    → (if b then Some (Some v) else memory x) ≡ Some (Some w) → (if b then v else ram x) ≡ w
byte_put true x v w memory ram go is = cc
byte_put false x v w memory ram go is = (go is).is

byte_small : (b : Bool) (x v w : ℕ) (memory : Memory) (ram : Bytes) → v < 256 → (memory x ≡ Some (Some w) → IsByte ram x w)
    → (if b then Some (Some v) else memory x) ≡ Some (Some w) → w < 256
byte_small true x v w memory ram small go is = let e : v ≡ w = cc in omega (arith, small, e)
byte_small false x v w memory ram small go is = (go is).small

owned_put : (b : Bool) (a x v : ℕ) (memory : Memory) → b ≡ (a == x) → is_owned (memory a) ≡ true → is_owned (if b then Some (Some v) else memory x) ≡ is_owned (memory x)
owned_put true a x v memory e owned = sym (ap (λ y. is_owned (memory y)) (sym (eqb-true a x (sym e))) ∙ owned)
owned_put false a x v memory e owned = refl

-- one byte
Holds-put : (base a v : ℕ) (memory : Memory) (ram : Bytes) → Holds base memory ram → is_owned (memory a) ≡ true → v < 256
    → Holds base (put a v memory) (bytes.with_byte a v ram)
Holds-put base a v memory ram h owned small = record {
  bytes = λ x b is. record { is = byte_put (a == x) x v b memory ram (h.bytes x b) is; small = byte_small (a == x) x v b memory ram small (h.bytes x b) is };
  place = λ x e. h.place x (sym (owned_put (a == x) a x v memory refl owned) ∙ e);
}

ok_same : (m n : Memory) → ◌≡◌ {A = Result Memory Reason} (Ok m) (Ok n) → m ≡ n
ok_same m n h = cc

pub store_writes : (base : ℕ) (n a v : ℕ) (memory : Memory) (ram : Bytes) (left : Memory) → Holds base memory ram → a ≤ 0x40000 → store n a v memory ≡ Ok left → Stored base n a v memory ram left
store_writes base zero a v memory ram left h le is =
    let e : memory ≡ left = ok_same memory left is in
    record { holds = subst (λ (m : Memory). Holds base m ram) e h; inside = omega arith; same = λ x. ap (λ (m : Memory). is_owned (m x)) (sym e); apart = λ x o. refl }
store_writes base (suc n) a v memory ram left h le is =
    let same : a % 2 ^ 32 ≡ a = omega arith in
    let is1 : if_owned (memory a) (store n (a + 1) (v / 256) (with_range a 1 (Some (Some (v % 256))) memory)) ≡ Ok left
    = subst (λ k. if_owned (memory k) (store n (a + 1) (v / 256) (with_range k 1 (Some (Some (v % 256))) memory)) ≡ Ok left) same is in
    let is2 : if_owned (memory a) (store n (a + 1) (v / 256) (put a (v % 256) memory)) ≡ Ok left
    = subst (λ (m : Memory). if_owned (memory a) (store n (a + 1) (v / 256) m) ≡ Ok left) (range_put a (v % 256) memory) is1 in
    let parts = owned_parts (memory a) (store n (a + 1) (v / 256) (put a (v % 256) memory)) left is2 in
    let first = Holds-put base a (v % 256) memory ram h parts.owned (omega arith) in
    let above = h.place a parts.owned in
    let rest = store_writes base n (a + 1) (v / 256) (put a (v % 256) memory) (bytes.with_byte a (v % 256) ram) left first (omega (arith, above.inside)) parts.goes in
    record {
      holds = rest.holds;
      inside = omega (arith, rest.inside);
      same = λ x. rest.same x ∙ owned_put (a == x) a x (v % 256) memory refl parts.owned;
      apart = λ x o. rest.apart x (owned_put (a == x) a x (v % 256) memory refl parts.owned ∙ o)
          ∙ byte_other a (v % 256) ram x (λ e. cc (ap (λ y. is_owned (memory y)) e, parts.owned, o));
    }

store_inside : (base : ℕ) (memory : Memory) (ram : Bytes) → Holds base memory ram → (n a v : ℕ) (left : Memory) → a < 2 ^ 32 → store (suc n) a v memory ≡ Ok left → IsAbove base a
store_inside base memory ram h n a v left lt is =
    let same : a % 2 ^ 32 ≡ a = omega arith in
    let parts = owned_parts (memory (a % 2 ^ 32)) (store n (a + 1) (v / 256) (with_range (a % 2 ^ 32) 1 (Some (Some (v % 256))) memory)) left is in
    h.place a (ap (λ k. is_owned (memory k)) (sym same) ∙ parts.owned)

pub width_above : (base : ℕ) (memory : Memory) (ram : Bytes) → Holds base memory ram → (w : Width) (a v : ℕ) (left : Memory) → a < 2 ^ 32 → store (byte_count w) a v memory ≡ Ok left → IsAbove base a
width_above base memory ram h One a v left lt is = store_inside base memory ram h 0 a v left lt is
width_above base memory ram h Two a v left lt is = store_inside base memory ram h 1 a v left lt is
width_above base memory ram h Four a v left lt is = store_inside base memory ram h 3 a v left lt is

-- ---- blocks

in_range : (base n x : ℕ) → (nat_le base x && nat_lt x (base + n)) ≡ true → (base ≤ x) × (x < base + n)
in_range base n x h =
    let parts = and_parts (nat_le base x) (nat_lt x (base + n)) h in
    (leb-true base x parts.0, ltb-true x (base + n) parts.1)

allocated_byte : (t : Bool) (x b : ℕ) (memory : Memory) (ram : Bytes) → (memory x ≡ Some (Some b) → IsByte ram x b) → (if t then Some None else memory x) ≡ Some (Some b) → IsByte ram x b
allocated_byte true x b memory ram go is = cc
allocated_byte false x b memory ram go is = go is

allocated_place : (t : Bool) (low base n x : ℕ) (memory : Memory) → (t ≡ true → (base ≤ x) × (x < base + n)) → low ≤ base → base + n ≤ 0x40000
    → (is_owned (memory x) ≡ true → IsAbove low x) → is_owned (if t then Some None else memory x) ≡ true → IsAbove low x
allocated_place true low base n x memory inside le top go is = record { from = omega (arith, (inside refl).0); inside = omega (arith, (inside refl).1) }
allocated_place false low base n x memory inside le top go is = go is

-- a block that becomes owned, whatever stands there
pub Holds-allocated : (low base n : ℕ) (memory : Memory) (ram : Bytes) → Holds low memory ram → low ≤ base → base + n ≤ 0x40000 → Holds low (with_range base n (Some None) memory) ram
Holds-allocated low base n memory ram h le top = record {
  bytes = λ x b is. allocated_byte (nat_le base x && nat_lt x (base + n)) x b memory ram (h.bytes x b) is;
  place = λ x is. allocated_place (nat_le base x && nat_lt x (base + n)) low base n x memory (in_range base n x) le top (h.place x) is;
}

released_owned : (t : Bool) (x : ℕ) (memory : Memory) → is_owned (if t then None else memory x) ≡ true → is_owned (memory x) ≡ true
released_owned true x memory is = cc
released_owned false x memory is = is

released_byte : (t : Bool) (x b : ℕ) (memory : Memory) (ram : Bytes) → (memory x ≡ Some (Some b) → IsByte ram x b) → (if t then None else memory x) ≡ Some (Some b) → IsByte ram x b
released_byte true x b memory ram go is = cc
released_byte false x b memory ram go is = go is

pub Holds-released : (low base n : ℕ) (memory : Memory) (ram : Bytes) → Holds low memory ram → Holds low (with_range base n None memory) ram
Holds-released low base n memory ram h = record {
  bytes = λ x b is. released_byte (nat_le base x && nat_lt x (base + n)) x b memory ram (h.bytes x b) is;
  place = λ x is. h.place x (released_owned (nat_le base x && nat_lt x (base + n)) x memory is);
}

-- RAM that changed nowhere from the base on
pub Holds-below : (base : ℕ) (memory : Memory) (ram left : Bytes) → ((x : ℕ) → base ≤ x → left x ≡ ram x) → Holds base memory ram → Holds base memory left
Holds-below base memory ram left same h = record {
  bytes = λ x b is. (let byte = h.bytes x b is in let above = h.place x (ap is_owned is) in record { is = same x above.from ∙ byte.is; small = byte.small });
  place = h.place;
}

-- what is owned after a block was allocated and released again was owned before
pub allocation_fewer : (t : Bool) (x : ℕ) (memory left : Memory) → (is_owned (left x) ≡ true → is_owned (if t then Some None else memory x) ≡ true)
    → is_owned (if t then None else left x) ≡ true → is_owned (memory x) ≡ true
allocation_fewer true x memory left go is = cc
allocation_fewer false x memory left go is = go is
