-- How the cells and the world of placed code stand in registers and RAM, in a frame f whose lowest address is sp; and what a piece of
-- code leaves as it was.
use Rattle.std.proofs.Common.{◌≡◌, ◌≢◌, ℕ, ◌+◌, ◌*◌, ◌^◌, ◌<◌, ◌≤◌, ◌⊎◌, inl, inr, Bool, true, false, ◌&&◌, if◌then◌else◌, length, Option, Some, None, Ok, refl, sym, ap, ◌∙◌, arith}
use Rattle.std.proofs.lemmas.Bool.{cases_lt, eqb-true, eqb-false, le-ltb}
use Rattle.std.specs.Prelude.{◌==◌, nat_le, nat_lt}
use Rattle.lb_source.specs.Correct.{AreWords}
use Rattle.lb_source.specs.Maps.{Memory, with_range}
use Rattle.lb_source.specs.Value.{or_unset}
use Rattle.lb_outcome.specs.Ram.{number_at, with_bytes}
use Rattle.lb_isa.specs.State.{RunState}
use Rattle.lb_flat.specs.declared.places.Place.TheVariants.{Register, Slot}
use Rattle.lb_flat.specs.Cells.{Cells, put}
use Rattle.lb_flat.specs.Run.{World}
use Rattle.lb_emit_laws.specs.Frames.{Frame, slot_offset}
use Rattle.lb_emit_laws.proofs.Bytes.{Bytes, Registers, write_other, read_same, read_word, true_or_false}
use Rattle.lb_emit_laws.proofs.Owned.{is_owned, Holds, unowned_below, Stored, Holds-below, allocation_fewer}
use Rattle.lb_emit_laws.proofs.Ordered.{is_in, IsTarget}
use Rattle.lb_emit_laws.proofs.Steps.{at}

-- every register but two is as before
abbrev pub Changed : ℕ → Registers → Registers → Type 0
Changed rd registers after = (r : ℕ) → r ≢ rd → r ≢ 5 → after r ≡ registers r

-- placed code's registers, the stack pointer, the address to return to and register 0 are as before
pub record Quiet (registers after : Registers) : Type 0 where
  pub none : after 0 ≡ registers 0
  pub link : after 1 ≡ registers 1
  pub stack : after 2 ≡ registers 2
  pub placed : (r : ℕ) → 18 ≤ r → after r ≡ registers r

pub Quiet-changed : (rd : ℕ) (registers after : Registers) → 3 ≤ rd → rd < 18 → Changed rd registers after → Quiet registers after
Quiet-changed rd registers after from below c =
    let ne0 : ◌≢◌ {A = ℕ} 0 rd = omega arith in let ne1 : ◌≢◌ {A = ℕ} 1 rd = omega arith in let ne2 : ◌≢◌ {A = ℕ} 2 rd = omega arith in
    let f0 : ◌≢◌ {A = ℕ} 0 5 = omega arith in let f1 : ◌≢◌ {A = ℕ} 1 5 = omega arith in let f2 : ◌≢◌ {A = ℕ} 2 5 = omega arith in
    record { none = c 0 ne0 f0; link = c 1 ne1 f1; stack = c 2 ne2 f2; placed = λ r h. (let n : r ≢ rd = omega (arith, h) in let k : r ≢ 5 = omega (arith, h) in c r n k) }

pub found : (o : Option ℕ) (v : ℕ) → or_unset o ≡ Ok v → o ≡ Some v
found None v h = cc
found (Some w) v h = cc

-- a register of placed code holds a word
pub record Held (registers : Registers) (r v : ℕ) : Type 0 where
  pub from : 18 ≤ r
  pub is : registers r ≡ v
  pub word : v < 2 ^ 32

-- a slot of the frame holds a word
pub record HeldSlot (sp : ℕ) (f : Frame) (ram : Bytes) (k v : ℕ) : Type 0 where
  pub within : k < f.slots
  pub is : number_at 4 (sp + slot_offset f k) ram ≡ v
  pub word : v < 2 ^ 32

-- where the blocks begin
abbrev pub blocks_from : ℕ → Frame → ℕ
blocks_from sp f = sp + 4 * (length f.saved + f.slots)

-- nothing is said of what isn't set
pub record Matches (sp : ℕ) (f : Frame) (cells : Cells) (w : World) (registers : Registers) (ram : Bytes) : Type 0 where
  pub none : registers 0 ≡ 0
  pub base : registers 2 ≡ sp
  pub stack : w.stack ≡ sp
  pub held : (r v : ℕ) → cells (Register r) ≡ Some v → Held registers r v
  pub slots : (k v : ℕ) → cells (Slot k) ≡ Some v → HeldSlot sp f ram k v
  pub holds : Holds (blocks_from sp f) w.memory ram
  pub replies : AreWords w.replies

-- what stays: the saved words of the frame, the registers that the frame doesn't save, those of placed code as far as they hold words,
-- and above the frame all bytes that weren't owned. No byte is owned that wasn't
pub record Left (sp : ℕ) (f : Frame) (memory : Memory) (registers : Registers) (ram : Bytes) (now : Memory) (after : Registers) (left : Bytes) : Type 0 where
  pub fewer : (x : ℕ) → is_owned (now x) ≡ true → is_owned (memory x) ≡ true
  pub link : is_in 1 f.saved ≡ false → after 1 ≡ registers 1
  pub others : (r : ℕ) → 18 ≤ r → is_in r f.saved ≡ false → registers r < 2 ^ 32 → after r ≡ registers r
  pub saved : (x : ℕ) → sp ≤ x → x < sp + 4 * length f.saved → left x ≡ ram x
  pub above : (x : ℕ) → sp + f.size ≤ x → is_owned (memory x) ≡ false → left x ≡ ram x

-- a state of placed code at instruction number j, after what began with this memory, these registers and this RAM
pub record Reach (sp : ℕ) (f : Frame) (j : ℕ) (memory : Memory) (registers : Registers) (ram : Bytes) (s : Cells × World) (c : RunState) : Type 0 where
  pub after : Registers
  pub left : Bytes
  pub is : c ≡ at j after left s.1.replies s.1.trace
  pub matches : Matches sp f s.0 s.1 after left
  pub leaves : Left sp f memory registers ram s.1.memory after left

still_unowned : (memory now : Memory) (x : ℕ) → (is_owned (now x) ≡ true → is_owned (memory x) ≡ true) → is_owned (memory x) ≡ false → is_owned (now x) ≡ false
still_unowned memory now x fewer un = true_or_false (is_owned (now x)) (λ e. cc (fewer e, un))

range_past : (base n x : ℕ) → base + n ≤ x → (nat_le base x && nat_lt x (base + n)) ≡ false
range_past base n x h = ap (λ b. nat_le base x && b) (le-ltb x (base + n) h) ∙ and_false (nat_le base x)
  where
    and_false : (b : Bool) → (b && false) ≡ false
    and_false true = refl
    and_false false = refl

held_set : (f : Frame) (b : Bool) (x w r v : ℕ) (cells : Cells) (registers after : Registers) → b ≡ (r == x) → IsTarget f r → v < 2 ^ 32 → after r ≡ v → Changed r registers after
    → (cells (Register x) ≡ Some w → Held registers x w) → (if b then Some v else cells (Register x)) ≡ Some w → Held after x w
held_set f true x w r v cells registers after e t word is c go set_ =
    let same : r ≡ x = eqb-true r x (sym e) in
    let u : v ≡ w = cc in
    record { from = omega (arith, same, t.from); is = ap after (sym same) ∙ is ∙ u; word = omega (arith, u, word) }
held_set f false x w r v cells registers after e t word is c go set_ =
    let old = go set_ in
    let n : x ≢ r = (λ k. eqb-false r x (sym e) (sym k)) in let n5 : x ≢ 5 = omega (arith, old.from) in
    record { from = old.from; is = c x n n5 ∙ old.is; word = old.word }

module _ {sp : ℕ} {f : Frame} where
  -- ---- what stays

  pub Left-same : (memory : Memory) (registers : Registers) (ram : Bytes) → Left sp f memory registers ram memory registers ram
  Left-same memory registers ram = record { fewer = λ x e. e; link = λ k. refl; others = λ r h k w. refl; saved = λ x h k. refl; above = λ x h o. refl }

  pub Left-then : {m m' m'' : Memory} {r r' r'' : Registers} {a a' a'' : Bytes} → Left sp f m r a m' r' a' → Left sp f m' r' a' m'' r'' a'' → Left sp f m r a m'' r'' a''
  Left-then {m} {m'} {m''} {r} {r'} {r''} {a} {a'} {a''} p q = record {
    fewer = λ x e. p.fewer x (q.fewer x e);
    link = λ k. q.link k ∙ p.link k;
    others = λ x h k w. q.others x h k (omega (arith, p.others x h k w, w)) ∙ p.others x h k w;
    saved = λ x h k. q.saved x h k ∙ p.saved x h k;
    above = λ x h o. q.above x h (still_unowned m m' x (p.fewer x) o) ∙ p.above x h o;
  }

  pub Left-quiet : (memory : Memory) (registers after : Registers) (ram : Bytes) → Quiet registers after → Left sp f memory registers ram memory after ram
  Left-quiet memory registers after ram q = record { fewer = λ x e. e; link = λ k. q.link; others = λ r h k w. q.placed r h; saved = λ x h k. refl; above = λ x h o. refl }

  pub Left-set : (memory : Memory) (registers after : Registers) (ram : Bytes) (r : ℕ) → IsTarget f r → Changed r registers after → Left sp f memory registers ram memory after ram
  Left-set memory registers after ram r t c = record {
    fewer = λ x e. e;
    link = λ k. (let n : ◌≢◌ {A = ℕ} 1 r = omega (arith, t.from) in let n5 : ◌≢◌ {A = ℕ} 1 5 = omega arith in c 1 n n5);
    others = λ x h k w. (let n : x ≢ r = (λ e. cc (ap (λ y. is_in y f.saved) e, k, t.saved)) in let n5 : x ≢ 5 = omega (arith, h) in c x n n5);
    saved = λ x h k. refl;
    above = λ x h o. refl;
  }

  pub Left-store : (base n a v : ℕ) (memory : Memory) (registers : Registers) (ram : Bytes) (now : Memory) → blocks_from sp f ≡ base → Holds base memory ram → Stored base n a v memory ram now
      → Left sp f memory registers ram now registers (with_bytes n a v ram)
  Left-store base n a v memory registers ram now is h st = record {
    fewer = λ x e. sym (st.same x) ∙ e;
    link = λ k. refl;
    others = λ r h k w. refl;
    saved = λ x l u. st.apart x (unowned_below base memory ram x h (omega (arith, u, is)));
    above = λ x l o. st.apart x o;
  }

  pub Left-slot : (k v : ℕ) (memory : Memory) (registers after : Registers) (ram : Bytes) → 4 * (length f.saved + f.slots) ≤ f.size → k < f.slots → Quiet registers after
      → Left sp f memory registers ram memory after (with_bytes 4 (sp + slot_offset f k) v ram)
  Left-slot k v memory registers after ram fits lt q = record {
    fewer = λ x e. e;
    link = λ k. q.link;
    others = λ r h k w. q.placed r h;
    saved = λ x l u. write_other 4 (sp + slot_offset f k) v ram x (inl (omega (arith, u)));
    above = λ x l o. write_other 4 (sp + slot_offset f k) v ram x (inr (omega (arith, l, fits, lt)));
  }

  -- a block that was owned while something ran
  pub Left-block : (base n : ℕ) (memory now : Memory) (registers after : Registers) (ram left : Bytes) → base + n ≤ sp + f.size
      → Left sp f (with_range base n (Some None) memory) registers ram now after left → Left sp f memory registers ram (with_range base n None now) after left
  Left-block base n memory now registers after ram left fits p = record {
    fewer = λ x e. allocation_fewer (nat_le base x && nat_lt x (base + n)) x memory now (p.fewer x) e;
    link = p.link;
    others = p.others;
    saved = p.saved;
    above = λ x l o. p.above x l (ap (λ (b : Bool). is_owned (if b then Some None else memory x)) (range_past base n x (omega (arith, l, fits))) ∙ o);
  }

  -- ---- what matches

  pub Matches-quiet : {cells : Cells} {w : World} {registers after : Registers} {ram : Bytes} → Quiet registers after → Matches sp f cells w registers ram → Matches sp f cells w after ram
  Matches-quiet q m = record {
    none = q.none ∙ m.none;
    base = q.stack ∙ m.base;
    stack = m.stack;
    held = λ r v is. (let h = m.held r v is in record { from = h.from; is = q.placed r h.from ∙ h.is; word = h.word });
    slots = m.slots;
    holds = m.holds;
    replies = m.replies;
  }

  -- the fuel says nothing
  pub Matches-fuel : {cells : Cells} {w : World} {registers : Registers} {ram : Bytes} (fuel : ℕ) → Matches sp f cells w registers ram → Matches sp f cells (record w { fuel = fuel }) registers ram
  Matches-fuel fuel m = record { none = m.none; base = m.base; stack = m.stack; held = m.held; slots = m.slots; holds = m.holds; replies = m.replies }

  -- a register is set
  pub Matches-set : {cells : Cells} {w : World} {registers after : Registers} {ram : Bytes} (r v : ℕ) → IsTarget f r → v < 2 ^ 32 → after r ≡ v → Changed r registers after
      → Matches sp f cells w registers ram → Matches sp f (put (Register r) (Some v) cells) w after ram
  Matches-set {cells} {w} {registers} {after} {ram} r v t word is c m =
      let ne0 : ◌≢◌ {A = ℕ} 0 r = omega (arith, t.from) in let ne2 : ◌≢◌ {A = ℕ} 2 r = omega (arith, t.from) in
      let f0 : ◌≢◌ {A = ℕ} 0 5 = omega arith in let f2 : ◌≢◌ {A = ℕ} 2 5 = omega arith in
      record {
        none = c 0 ne0 f0 ∙ m.none;
        base = c 2 ne2 f2 ∙ m.base;
        stack = m.stack;
        held = λ x u set_. held_set f (r == x) x u r v cells registers after refl t word is c (m.held x u) set_;
        slots = m.slots;
        holds = m.holds;
        replies = m.replies;
      }

  slot_set : (b : Bool) (j w k v : ℕ) (cells : Cells) (ram : Bytes) → b ≡ (k == j) → k < f.slots → v < 2 ^ 32 → (cells (Slot j) ≡ Some w → HeldSlot sp f ram j w)
      → (if b then Some v else cells (Slot j)) ≡ Some w → HeldSlot sp f (with_bytes 4 (sp + slot_offset f k) v ram) j w
  slot_set true j w k v cells ram e lt word go set_ =
      let same : k ≡ j = eqb-true k j (sym e) in
      let u : v ≡ w = cc in
      record {
        within = omega (arith, same, lt);
        is = ap (λ i. number_at 4 (sp + slot_offset f i) (with_bytes 4 (sp + slot_offset f k) v ram)) (sym same) ∙ read_word (sp + slot_offset f k) v ram word ∙ u;
        word = omega (arith, u, word);
      }
  slot_set false j w k v cells ram e lt word go set_ =
      let old = go set_ in
      let n : k ≢ j = eqb-false k j (sym e) in
      record {
        within = old.within;
        is = read_same 4 (sp + slot_offset f j) (with_bytes 4 (sp + slot_offset f k) v ram) ram
            (λ x l u. write_other 4 (sp + slot_offset f k) v ram x (beside sp (length f.saved) k j x n l u)) ∙ old.is;
        word = old.word;
      }
    where
      beside : (sp n k j x : ℕ) → k ≢ j → sp + 4 * (n + j) ≤ x → x < sp + 4 * (n + j) + 4 → x < sp + 4 * (n + k) ⊎ sp + 4 * (n + k) + 4 ≤ x
      beside sp n k j x ne l u = elim (cases_lt j k) [ inl h ↦ inl (omega arith) | inr h ↦ inr (omega arith) ]

  -- a slot is set
  pub Matches-slot : {cells : Cells} {w : World} {registers after : Registers} {ram : Bytes} (k v : ℕ) → k < f.slots → v < 2 ^ 32 → Quiet registers after
      → Matches sp f cells w registers ram → Matches sp f (put (Slot k) (Some v) cells) w after (with_bytes 4 (sp + slot_offset f k) v ram)
  Matches-slot {cells} {w} {registers} {after} {ram} k v lt word q m = record {
    none = q.none ∙ m.none;
    base = q.stack ∙ m.base;
    stack = m.stack;
    held = λ r x is. (let h = m.held r x is in record { from = h.from; is = q.placed r h.from ∙ h.is; word = h.word });
    slots = λ j x set_. slot_set (k == j) j x k v cells ram refl lt word (m.slots j x) set_;
    holds = Holds-below (blocks_from sp f) w.memory ram (with_bytes 4 (sp + slot_offset f k) v ram) (λ x h. write_other 4 (sp + slot_offset f k) v ram x (inr (omega (arith, h, lt)))) m.holds;
    replies = m.replies;
  }

  -- what is owned changes, and RAM where nothing was below the blocks
  pub Matches-memory : {cells : Cells} {w : World} {registers : Registers} {ram left : Bytes} (now : Memory) → Holds (blocks_from sp f) now left
      → ((x : ℕ) → x < blocks_from sp f → left x ≡ ram x) → Matches sp f cells w registers ram → Matches sp f cells (record w { memory = now }) registers left
  Matches-memory {cells} {w} {registers} {ram} {left} now holds same m = record {
    none = m.none;
    base = m.base;
    stack = m.stack;
    held = m.held;
    slots = λ k v is. (let h = m.slots k v is in record {
      within = h.within;
      is = read_same 4 (sp + slot_offset f k) left ram (λ x l u. same x (omega (arith, u, h.within))) ∙ h.is;
      word = h.word;
    });
    holds = holds;
    replies = m.replies;
  }
