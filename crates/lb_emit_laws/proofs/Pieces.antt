-- The small pieces of code: each sets one register, or writes one word, near or far, and leaves every other register but 5.
use Rattle.std.proofs.Common.{◌≡◌, ◌≢◌, ℕ, ◌+◌, ◌-◌, ◌*◌, ◌%◌, ◌^◌, ◌≤◌, ◌<◌, inl, inr, Bool, true, false, nat_lt, if◌then◌else◌, List, length, Some, refl, sym, ap, ◌∙◌, subst, arith}
use Rattle.std.proofs.lemmas.Bool.{cases_lt, eq-eqb, ne_eqb, lt-ltb, le-ltb}
use Rattle.std.proofs.lemmas.Int.{of_z-to_z}
use Rattle.std.specs.Int.{w32}
use Rattle.std.specs.Prelude.{◌==◌}
use Rattle.lb_trace.specs.declared.Event.{Event}
use Rattle.lb_syntax.specs.declared.tree.Op.{Op}
use Rattle.lb_syntax.specs.declared.tree.Op.TheVariants.{Add, Sub, Mul, Mulhuu, Divu, Remu, And, Or, Xor, Sru, Slu, Srs, Lts, Ltu, Eq}
use Rattle.lb_word.specs.Word.{add_of, sub_of, ltu_of}
use Rattle.lb_word.proofs.BoundLemmas.{add_of_below, sub_of_below, mul_of_below, mulhuu_of_below, divu_of_below, remu_of_below, and_of_below, or_of_below, xor_of_below, sru_of_below, slu_of_below, srs_of_below, lts_of_below, ltu_of_below, eq_of_below}
use Rattle.lb_steps.proofs.MoveLemmas.{Moves, Moves-one, Moves-then}
use Rattle.lb_source.specs.Value.{operate}
use Rattle.lb_rv.specs.declared.instr.Instr.{Instr}
use Rattle.lb_rv.specs.declared.instr.Instr.TheVariants as instr
use Rattle.lb_rv.specs.Effects.{next_address, plus_immediate}
use Rattle.lb_rv.specs.Effects as effects
use Rattle.lb_rv.specs.Formats.{immediate_word}
use Rattle.lb_outcome.specs.Ram.{number_at, with_bytes}
use Rattle.lb_outcome.specs.Registers.{with_register}
use Rattle.lb_flat.specs.Needs.{slot_words, operation_words}
use Rattle.lb_emit_laws.specs.Instructions.{immediate, minus, upper_part, lower_part, between, is_short, is_upper, literal_by, literal_code, literal_words_by, literal_words, copy_code, address_code, is_reached, reach_words, get_by, get_code, put_by, put_code, down_by, down_code, up_by, up_code, op_code}
use Rattle.lb_emit_laws.proofs.Bytes.{Bytes, Registers, IsWritable, set_same, set_other}
use Rattle.lb_emit_laws.proofs.Places.{IsAt, HasAt}
use Rattle.lb_emit_laws.proofs.Steps.{advance, at, plus_word, step_sets, step_loads, step_stores}

-- the machine comes from number i to j, and register rd has the value v
pub record Gives (code : List ℕ) (i j : ℕ) (registers : Registers) (ram : Bytes) (replies : List ℕ) (trace : List Event) (rd v : ℕ) : Type 0 where
  pub after : Registers
  pub steps : ℕ
  pub count : i + steps ≡ j
  pub goes : Moves (advance code) steps (at i registers ram replies trace) (at j after ram replies trace)
  pub value : after rd ≡ v
  pub others : (r : ℕ) → r ≢ rd → r ≢ 5 → after r ≡ registers r

-- the machine comes from number i to j, and n bytes of v are written at a
pub record Puts (code : List ℕ) (i j : ℕ) (registers : Registers) (ram : Bytes) (replies : List ℕ) (trace : List Event) (n a v : ℕ) : Type 0 where
  pub after : Registers
  pub steps : ℕ
  pub count : i + steps ≡ j
  pub goes : Moves (advance code) steps (at i registers ram replies trace) (at j after (with_bytes n a v ram) replies trace)
  pub others : (r : ℕ) → r ≢ 5 → after r ≡ registers r

-- ---- arithmetic

pub plus_zero : (x v : ℕ) → x ≡ v → v < 2 ^ 32 → plus_immediate x (immediate 0) ≡ v
plus_zero x v is word = plus_word x 0 (omega arith) ∙ omega (arith, is, word)

split_word : (u n : ℕ) → u ≤ 2 ^ 32 → n < 2 ^ 32 → (u + (n + (2 ^ 32 - u)) % 2 ^ 32) % 2 ^ 32 ≡ n
split_word u n h lt = omega (arith, h, lt)

parts_whole : (n : ℕ) → n < 2 ^ 32 → plus_immediate (upper_part n) (immediate (lower_part n)) ≡ n
parts_whole n lt = plus_word (upper_part n) (lower_part n) (omega arith) ∙ split_word (upper_part n) n (omega arith) lt

split_sum : (u n s : ℕ) → u ≤ 2 ^ 32 → s + n < 2 ^ 32 → ((u + s) % 2 ^ 32 + (n + (2 ^ 32 - u)) % 2 ^ 32) % 2 ^ 32 ≡ s + n
split_sum u n s h lt = omega (arith, h, lt)

-- an address in two parts, from a base
parts_from : (n s : ℕ) → s + n < 2 ^ 32 → plus_immediate (add_of (upper_part n) s) (immediate (lower_part n)) ≡ s + n
parts_from n s lt = plus_word (add_of (upper_part n) s) (lower_part n) (omega arith) ∙ split_sum (upper_part n) n s (omega arith) lt

pub near_from : (n s : ℕ) → s + n < 2 ^ 32 → plus_immediate s (immediate n) ≡ s + n
near_from n s lt = plus_word s n (omega arith) ∙ omega (arith, lt)

-- where a jump leads
pub jump_leads : (i j : ℕ) → i ≤ 32768 → j ≤ 32768 → plus_immediate (4 * i) (immediate (between i j)) ≡ 4 * j
jump_leads i j h k = plus_word (4 * i) (between i j) (omega arith) ∙ omega (arith, h, k)

below_one : (a b : ℕ) → a < 2 ^ 32 → b < 2 ^ 32 → nat_lt (sub_of a b) 1 ≡ (a == b)
below_one a b h k = elim (cases_lt a b) [
  | inl less ↦ le-ltb (sub_of a b) 1 (omega (arith, less, k)) ∙ sym (ne_eqb a b (omega (arith, less)))
  | inr more ↦ elim (cases_lt b a) [
    | inl greater ↦ le-ltb (sub_of a b) 1 (omega (arith, greater, h)) ∙ sym (ne_eqb a b (omega (arith, greater)))
    | inr same ↦ lt-ltb (sub_of a b) 1 (omega (arith, more, same, h)) ∙ sym (eq-eqb a b (omega (arith, more, same)))
  ]
]

-- each operation on words gives one
pub operate_below : (op : Op) (a b : ℕ) → a < 2 ^ 32 → b < 2 ^ 32 → operate op a b < 2 ^ 32
operate_below Add a b h k = add_of_below a b
operate_below Sub a b h k = sub_of_below a b
operate_below Mul a b h k = mul_of_below a b
operate_below Mulhuu a b h k = mulhuu_of_below a b h k
operate_below Divu a b h k = divu_of_below a b h
operate_below Remu a b h k = remu_of_below a b h
operate_below And a b h k = and_of_below a b h k
operate_below Or a b h k = or_of_below a b h k
operate_below Xor a b h k = xor_of_below a b h k
operate_below Sru a b h k = sru_of_below a b h
operate_below Slu a b h k = slu_of_below a b
operate_below Srs a b h k = srs_of_below a b
operate_below Lts a b h k = lts_of_below a b
operate_below Ltu a b h k = ltu_of_below a b
operate_below Eq a b h k = eq_of_below a b

plus_two : (i : ℕ) → i + 1 + 1 ≡ i + 2
plus_two i = omega arith

plus_three : (i : ℕ) → i + 1 + 1 + 1 ≡ i + 3
plus_three i = omega arith

pub plus_one_more : (i : ℕ) → i + 2 + 1 ≡ i + 3
plus_one_more i = omega arith

sum_of : (a b x y : ℕ) → a ≡ x → b ≡ y → y + x < 2 ^ 32 → add_of a b ≡ y + x
sum_of a b x y h k lt = omega (arith, h, k, lt)

two : IsWritable 2
two = (omega arith, omega arith)

difference : (a b x y : ℕ) → a ≡ x → b ≡ y → y ≤ x → x < 2 ^ 32 → sub_of a b ≡ x - y
difference a b x y h k le lt = omega (arith, h, k, le, lt)

sum_word : (a b x y : ℕ) → a ≡ x → b ≡ y → x + y < 2 ^ 32 → add_of a b ≡ x + y
sum_word a b x y h k lt = omega (arith, h, k, lt)

below_of : (a x y : ℕ) → a ≡ x → y ≤ x → x < 2 ^ 32 → (a + minus y) % 2 ^ 32 ≡ x - y
below_of a x y h le lt = omega (arith, h, le, lt)

five : IsWritable 5
five = (omega arith, omega arith)

two_same : (f : ℕ → ℕ → ℕ) (x y v w : ℕ) → x ≡ v → y ≡ w → f x y ≡ f v w
two_same f x y v w h k = ap (λ z. f z y) h ∙ ap (f v) k

module _ (code : List ℕ) (small : length code ≤ 32768) where
  -- one instruction that sets a register
  pub one_gives : (i : ℕ) (registers : Registers) (ram : Bytes) (replies : List ℕ) (trace : List Event) (rd w v : ℕ) → IsWritable rd → w ≡ v
      → advance code (at i registers ram replies trace) ≡ Some (at (i + 1) (with_register rd w registers) ram replies trace)
      → Gives code i (i + 1) registers ram replies trace rd v
  one_gives i registers ram replies trace rd w v some is m = record {
    after = with_register rd w registers;
    steps = 1;
    count = omega arith;
    goes = Moves-one m;
    value = set_same rd w registers some ∙ is;
    others = λ r n k. set_other rd w registers r n;
  }

  pub copy_gives : (i : ℕ) (registers : Registers) (ram : Bytes) (replies : List ℕ) (trace : List Event) (rd q v : ℕ) → IsWritable rd → registers q ≡ v → v < 2 ^ 32
      → HasAt code i (copy_code rd q) → Gives code i (i + 1) registers ram replies trace rd v
  copy_gives i registers ram replies trace rd q v some is word here =
      one_gives i registers ram replies trace rd (plus_immediate (registers q) (immediate 0)) v some (plus_zero (registers q) v is word)
      (step_sets code small i registers ram replies trace (instr.Addi rd q (immediate 0)) rd (plus_immediate (registers q) (immediate 0)) here.0 refl some refl)

  both_gives : (i : ℕ) (registers : Registers) (ram : Bytes) (replies : List ℕ) (trace : List Event) (rd n : ℕ) → IsWritable rd → n < 2 ^ 32
      → HasAt code i (literal_by false false rd n) → Gives code i (i + 2) registers ram replies trace rd n
  both_gives i registers ram replies trace rd n some word here =
      let r1 = with_register rd (upper_part n) registers in
      let w = plus_immediate (r1 rd) (immediate (lower_part n)) in
      let first = step_sets code small i registers ram replies trace (instr.Lui rd (upper_part n)) rd (upper_part n) here.0 refl some refl in
      let second = step_sets code small (i + 1) r1 ram replies trace (instr.Addi rd rd (immediate (lower_part n))) rd w here.1.0 refl some refl in
      record {
        after = with_register rd w r1;
        steps = 2;
        count = omega arith;
        goes = subst (λ k. Moves (advance code) 2 (at i registers ram replies trace) (at k (with_register rd w r1) ram replies trace)) (plus_two i) (Moves-then (Moves-one first) (Moves-one second));
        value = set_same rd w r1 some ∙ ap (λ k. plus_immediate k (immediate (lower_part n))) (set_same rd (upper_part n) registers some) ∙ parts_whole n word;
        others = λ r k l. set_other rd w r1 r k ∙ set_other rd (upper_part n) registers r k;
      }

  literal_by_gives : (short upper : Bool) (i : ℕ) (registers : Registers) (ram : Bytes) (replies : List ℕ) (trace : List Event) (rd n : ℕ) → IsWritable rd → registers 0 ≡ 0 → n < 2 ^ 32
      → HasAt code i (literal_by short upper rd n) → Gives code i (i + literal_words_by short upper) registers ram replies trace rd n
  literal_by_gives true upper i registers ram replies trace rd n some none word here =
      let sum : plus_immediate (registers 0) (immediate n) ≡ n = plus_word (registers 0) n word ∙ omega (arith, none, word) in
      one_gives i registers ram replies trace rd (plus_immediate (registers 0) (immediate n)) n some sum
      (step_sets code small i registers ram replies trace (instr.Addi rd 0 (immediate n)) rd (plus_immediate (registers 0) (immediate n)) here.0 refl some refl)
  literal_by_gives false true i registers ram replies trace rd n some none word here =
      one_gives i registers ram replies trace rd n n some refl (step_sets code small i registers ram replies trace (instr.Lui rd n) rd n here.0 refl some refl)
  literal_by_gives false false i registers ram replies trace rd n some none word here = both_gives i registers ram replies trace rd n some word here

  pub literal_gives : (i : ℕ) (registers : Registers) (ram : Bytes) (replies : List ℕ) (trace : List Event) (rd n : ℕ) → IsWritable rd → registers 0 ≡ 0 → n < 2 ^ 32
      → HasAt code i (literal_code rd n) → Gives code i (i + literal_words n) registers ram replies trace rd n
  literal_gives i registers ram replies trace rd n some none word here = literal_by_gives (is_short n) (is_upper n) i registers ram replies trace rd n some none word here

  -- two steps, one after the other
  pub address_gives : (i : ℕ) (registers : Registers) (ram : Bytes) (replies : List ℕ) (trace : List Event) (rd offset s : ℕ) → 5 < rd → rd < 32 → registers 2 ≡ s → s + offset < 2 ^ 32
      → HasAt code i (address_code rd offset) → Gives code i (i + 3) registers ram replies trace rd (s + offset)
  address_gives i registers ram replies trace rd offset s high below base fits here =
      let g = both_gives i registers ram replies trace rd offset (omega (arith, high), below) (omega (arith, fits)) (here.0, (here.1.0, tt)) in
      let w = add_of (g.after rd) (g.after 2) in
      let ne2 : ◌≢◌ {A = ℕ} 2 rd = omega (arith, high) in
      let ne5 : ◌≢◌ {A = ℕ} 2 5 = omega arith in
      let at2 : IsAt code (i + 2) (instr.Add rd rd 2) = subst (λ k. IsAt code k (instr.Add rd rd 2)) (plus_two i) here.1.1.0 in
      let last = step_sets code small (i + 2) g.after ram replies trace (instr.Add rd rd 2) rd w at2 refl (omega (arith, high), below) refl in
      let base2 : g.after 2 ≡ s = g.others 2 ne2 ne5 ∙ base in
      record {
        after = with_register rd w g.after;
        steps = g.steps + 1;
        count = omega (arith, g.count);
        goes = subst (λ k. Moves (advance code) (g.steps + 1) (at i registers ram replies trace) (at k (with_register rd w g.after) ram replies trace)) (plus_one_more i) (Moves-then g.goes (Moves-one last));
        value = set_same rd w g.after (omega (arith, high), below) ∙ sum_of (g.after rd) (g.after 2) offset s g.value base2 fits;
        others = λ r k l. set_other rd w g.after r k ∙ g.others r k l;
      }

  -- ---- words of the frame, near or far

  get_by_gives : (near : Bool) (i : ℕ) (registers : Registers) (ram : Bytes) (replies : List ℕ) (trace : List Event) (rd offset s : ℕ) → IsWritable rd → registers 2 ≡ s → s + offset + 4 ≤ 0x40000
      → HasAt code i (get_by near rd offset) → Gives code i (i + slot_words near) registers ram replies trace rd (number_at 4 (s + offset) ram)
  get_by_gives true i registers ram replies trace rd offset s some base fits here =
      let address : plus_immediate (registers 2) (immediate offset) ≡ s + offset = ap (λ k. plus_immediate k (immediate offset)) base ∙ near_from offset s (omega (arith, fits)) in
      one_gives i registers ram replies trace rd (number_at 4 (s + offset) ram) (number_at 4 (s + offset) ram) some refl
      (step_loads code small i 4 (s + offset) registers ram replies trace (instr.Lw rd 2 (immediate offset)) rd here.0 refl refl (ap (λ a. effects.Loads a) address) fits)
  get_by_gives false i registers ram replies trace rd offset s some base fits here =
      let r1 = with_register 5 (upper_part offset) registers in
      let w = add_of (r1 5) (r1 2) in
      let r2 = with_register 5 w r1 in
      let first = step_sets code small i registers ram replies trace (instr.Lui 5 (upper_part offset)) 5 (upper_part offset) here.0 refl five refl in
      let second = step_sets code small (i + 1) r1 ram replies trace (instr.Add 5 5 2) 5 w here.1.0 refl five refl in
      let address : plus_immediate (r2 5) (immediate (lower_part offset)) ≡ s + offset = ap (λ k. plus_immediate (add_of (upper_part offset) k) (immediate (lower_part offset))) base ∙ parts_from offset s (omega (arith, fits)) in
      let third = step_loads code small (i + 1 + 1) 4 (s + offset) r2 ram replies trace (instr.Lw rd 5 (immediate (lower_part offset))) rd here.1.1.0 refl refl (ap (λ a. effects.Loads a) address) fits in
      record {
        after = with_register rd (number_at 4 (s + offset) ram) r2;
        steps = 3;
        count = omega arith;
        goes = subst (λ k. Moves (advance code) 3 (at i registers ram replies trace) (at k (with_register rd (number_at 4 (s + offset) ram) r2) ram replies trace)) (plus_three i)
            (Moves-then {n = 2} (Moves-one first) (Moves-then (Moves-one second) (Moves-one third)));
        value = set_same rd (number_at 4 (s + offset) ram) r2 some;
        others = λ r k l. set_other rd (number_at 4 (s + offset) ram) r2 r k ∙ set_other 5 w r1 r l ∙ set_other 5 (upper_part offset) registers r l;
      }

  pub get_gives : (i : ℕ) (registers : Registers) (ram : Bytes) (replies : List ℕ) (trace : List Event) (rd offset s : ℕ) → IsWritable rd → registers 2 ≡ s → s + offset + 4 ≤ 0x40000
      → HasAt code i (get_code rd offset) → Gives code i (i + reach_words offset) registers ram replies trace rd (number_at 4 (s + offset) ram)
  get_gives i registers ram replies trace rd offset s some base fits here = get_by_gives (is_reached offset) i registers ram replies trace rd offset s some base fits here

  put_by_puts : (near : Bool) (i : ℕ) (registers : Registers) (ram : Bytes) (replies : List ℕ) (trace : List Event) (rs v offset s : ℕ) → rs ≢ 5 → registers rs ≡ v → registers 2 ≡ s
      → s + offset + 4 ≤ 0x40000 → 4 * length code ≤ s → HasAt code i (put_by near offset rs) → Puts code i (i + slot_words near) registers ram replies trace 4 (s + offset) v
  put_by_puts true i registers ram replies trace rs v offset s apart is base fits behind here =
      let address : plus_immediate (registers 2) (immediate offset) ≡ s + offset = ap (λ k. plus_immediate k (immediate offset)) base ∙ near_from offset s (omega (arith, fits)) in
      record {
        after = registers;
        steps = 1;
        count = omega arith;
        goes = Moves-one (step_stores code small i 4 (s + offset) v registers ram replies trace (instr.Sw 2 rs (immediate offset)) here.0 refl
            (ap (λ a. effects.Stores a (registers rs)) address ∙ ap (λ b. effects.Stores (s + offset) b) is) fits (omega (arith, behind)));
        others = λ r k. refl;
      }
  put_by_puts false i registers ram replies trace rs v offset s apart is base fits behind here =
      let r1 = with_register 5 (upper_part offset) registers in
      let w = add_of (r1 5) (r1 2) in
      let r2 = with_register 5 w r1 in
      let first = step_sets code small i registers ram replies trace (instr.Lui 5 (upper_part offset)) 5 (upper_part offset) here.0 refl five refl in
      let second = step_sets code small (i + 1) r1 ram replies trace (instr.Add 5 5 2) 5 w here.1.0 refl five refl in
      let address : plus_immediate (r2 5) (immediate (lower_part offset)) ≡ s + offset = ap (λ k. plus_immediate (add_of (upper_part offset) k) (immediate (lower_part offset))) base ∙ parts_from offset s (omega (arith, fits)) in
      let is2 : r2 rs ≡ v = set_other 5 w r1 rs apart ∙ set_other 5 (upper_part offset) registers rs apart ∙ is in
      let third = step_stores code small (i + 1 + 1) 4 (s + offset) v r2 ram replies trace (instr.Sw 5 rs (immediate (lower_part offset))) here.1.1.0 refl
      (ap (λ a. effects.Stores a (r2 rs)) address ∙ ap (λ b. effects.Stores (s + offset) b) is2) fits (omega (arith, behind)) in
      record {
        after = r2;
        steps = 3;
        count = omega arith;
        goes = subst (λ k. Moves (advance code) 3 (at i registers ram replies trace) (at k r2 (with_bytes 4 (s + offset) v ram) replies trace)) (plus_three i)
            (Moves-then {n = 2} (Moves-one first) (Moves-then (Moves-one second) (Moves-one third)));
        others = λ r l. set_other 5 w r1 r l ∙ set_other 5 (upper_part offset) registers r l;
      }

  pub put_puts : (i : ℕ) (registers : Registers) (ram : Bytes) (replies : List ℕ) (trace : List Event) (rs v offset s : ℕ) → rs ≢ 5 → registers rs ≡ v → registers 2 ≡ s
      → s + offset + 4 ≤ 0x40000 → 4 * length code ≤ s → HasAt code i (put_code offset rs) → Puts code i (i + reach_words offset) registers ram replies trace 4 (s + offset) v
  put_puts i registers ram replies trace rs v offset s apart is base fits behind here = put_by_puts (is_reached offset) i registers ram replies trace rs v offset s apart is base fits behind here

  -- ---- operations

  op_one : (i : ℕ) (registers : Registers) (ram : Bytes) (replies : List ℕ) (trace : List Event) (x : Instr) (rd v w : ℕ) → IsWritable rd → IsAt code i x
      → effects.destination x ≡ rd → effects.effect x (4 * i) (registers (effects.sources x).0) (registers (effects.sources x).1) ≡ effects.Sets w (next_address (4 * i)) → w ≡ v
      → Gives code i (i + 1) registers ram replies trace rd v
  op_one i registers ram replies trace x rd v w some here d e is =
      one_gives i registers ram replies trace rd w v some is (step_sets code small i registers ram replies trace x rd w here d some e)

  pub op_gives : (op : Op) (i : ℕ) (registers : Registers) (ram : Bytes) (replies : List ℕ) (trace : List Event) (rd a b v w : ℕ) → IsWritable rd → registers a ≡ v → registers b ≡ w → v < 2 ^ 32 → w < 2 ^ 32
      → HasAt code i (op_code op rd a b) → Gives code i (i + operation_words op) registers ram replies trace rd (operate op v w)
  op_gives Add i registers ram replies trace rd a b v w some left right hv hw here = op_one i registers ram replies trace (instr.Add rd a b) rd _ _ some here.0 refl refl (two_same (operate Add) _ _ v w left right)
  op_gives Sub i registers ram replies trace rd a b v w some left right hv hw here = op_one i registers ram replies trace (instr.Sub rd a b) rd _ _ some here.0 refl refl (two_same (operate Sub) _ _ v w left right)
  op_gives Mul i registers ram replies trace rd a b v w some left right hv hw here = op_one i registers ram replies trace (instr.Mul rd a b) rd _ _ some here.0 refl refl (two_same (operate Mul) _ _ v w left right)
  op_gives Mulhuu i registers ram replies trace rd a b v w some left right hv hw here = op_one i registers ram replies trace (instr.Mulhu rd a b) rd _ _ some here.0 refl refl (two_same (operate Mulhuu) _ _ v w left right)
  op_gives Divu i registers ram replies trace rd a b v w some left right hv hw here = op_one i registers ram replies trace (instr.Divu rd a b) rd _ _ some here.0 refl refl (two_same (operate Divu) _ _ v w left right)
  op_gives Remu i registers ram replies trace rd a b v w some left right hv hw here = op_one i registers ram replies trace (instr.Remu rd a b) rd _ _ some here.0 refl refl (two_same (operate Remu) _ _ v w left right)
  op_gives And i registers ram replies trace rd a b v w some left right hv hw here = op_one i registers ram replies trace (instr.And rd a b) rd _ _ some here.0 refl refl (two_same (operate And) _ _ v w left right)
  op_gives Or i registers ram replies trace rd a b v w some left right hv hw here = op_one i registers ram replies trace (instr.Or rd a b) rd _ _ some here.0 refl refl (two_same (operate Or) _ _ v w left right)
  op_gives Xor i registers ram replies trace rd a b v w some left right hv hw here = op_one i registers ram replies trace (instr.Xor rd a b) rd _ _ some here.0 refl refl (two_same (operate Xor) _ _ v w left right)
  op_gives Sru i registers ram replies trace rd a b v w some left right hv hw here = op_one i registers ram replies trace (instr.Srl rd a b) rd _ _ some here.0 refl refl (two_same (operate Sru) _ _ v w left right)
  op_gives Slu i registers ram replies trace rd a b v w some left right hv hw here = op_one i registers ram replies trace (instr.Sll rd a b) rd _ _ some here.0 refl refl (two_same (operate Slu) _ _ v w left right)
  op_gives Srs i registers ram replies trace rd a b v w some left right hv hw here = op_one i registers ram replies trace (instr.Sra rd a b) rd _ _ some here.0 refl refl (two_same (operate Srs) _ _ v w left right)
  op_gives Lts i registers ram replies trace rd a b v w some left right hv hw here = op_one i registers ram replies trace (instr.Slt rd a b) rd _ _ some here.0 refl refl (two_same (operate Lts) _ _ v w left right)
  op_gives Ltu i registers ram replies trace rd a b v w some left right hv hw here = op_one i registers ram replies trace (instr.Sltu rd a b) rd _ _ some here.0 refl refl (two_same (operate Ltu) _ _ v w left right)
  op_gives Eq i registers ram replies trace rd a b v w some left right hv hw here =
      let d = sub_of (registers a) (registers b) in
      let r1 = with_register rd d registers in
      let t = ltu_of (r1 rd) (immediate_word (immediate 1)) in
      let first = step_sets code small i registers ram replies trace (instr.Sub rd a b) rd d here.0 refl some refl in
      let second = step_sets code small (i + 1) r1 ram replies trace (instr.Sltiu rd rd (immediate 1)) rd t here.1.0 refl some refl in
      record {
        after = with_register rd t r1;
        steps = 2;
        count = omega arith;
        goes = subst (λ k. Moves (advance code) 2 (at i registers ram replies trace) (at k (with_register rd t r1) ram replies trace)) (plus_two i) (Moves-then (Moves-one first) (Moves-one second));
        value = set_same rd t r1 some ∙ ap (λ k. ltu_of k (immediate_word (immediate 1))) (set_same rd d registers some ∙ two_same sub_of _ _ v w left right)
            ∙ ap (ltu_of (sub_of v w)) (of_z-to_z w32 1 (omega arith)) ∙ ap (λ (b : Bool). if b then 1 else 0) (below_one v w hv hw);
        others = λ r k l. set_other rd t r1 r k ∙ set_other rd d registers r k;
      }

  -- ---- the stack pointer

  down_by_gives : (near : Bool) (i size sp : ℕ) (registers : Registers) (ram : Bytes) (replies : List ℕ) (trace : List Event) → registers 2 ≡ sp → size ≤ sp → sp < 2 ^ 32 → HasAt code i (down_by near size)
      → Gives code i (i + slot_words near) registers ram replies trace 2 (sp - size)
  down_by_gives true i size sp registers ram replies trace base le word here =
      let less : plus_immediate (registers 2) (immediate (minus size)) ≡ sp - size = plus_word (registers 2) (minus size) (omega arith) ∙ below_of (registers 2) sp size base le word in
      one_gives i registers ram replies trace 2 (plus_immediate (registers 2) (immediate (minus size))) (sp - size) two less
      (step_sets code small i registers ram replies trace (instr.Addi 2 2 (immediate (minus size))) 2 (plus_immediate (registers 2) (immediate (minus size))) here.0 refl two refl)
  down_by_gives false i size sp registers ram replies trace base le word here =
      let apart : ◌≢◌ {A = ℕ} 2 5 = omega arith in
      let g = both_gives i registers ram replies trace 5 size five (omega (arith, le, word)) (here.0, (here.1.0, tt)) in
      let w = sub_of (g.after 2) (g.after 5) in
      let step = step_sets code small (i + 2) g.after ram replies trace (instr.Sub 2 2 5) 2 w (subst (λ k. IsAt code k (instr.Sub 2 2 5)) (plus_two i) here.1.1.0) refl two refl in
      record {
        after = with_register 2 w g.after;
        steps = g.steps + 1;
        count = omega (arith, g.count);
        goes = subst (λ k. Moves (advance code) (g.steps + 1) (at i registers ram replies trace) (at k (with_register 2 w g.after) ram replies trace)) (plus_one_more i) (Moves-then g.goes (Moves-one step));
        value = set_same 2 w g.after two ∙ difference (g.after 2) (g.after 5) sp size (g.others 2 apart apart ∙ base) g.value le word;
        others = λ r k l. set_other 2 w g.after r k ∙ g.others r l l;
      }

  pub down_gives : (i size sp : ℕ) (registers : Registers) (ram : Bytes) (replies : List ℕ) (trace : List Event) → registers 2 ≡ sp → size ≤ sp → sp < 2 ^ 32 → HasAt code i (down_code size)
      → Gives code i (i + reach_words size) registers ram replies trace 2 (sp - size)
  down_gives i size sp registers ram replies trace base le word here = down_by_gives (is_reached size) i size sp registers ram replies trace base le word here

  up_by_gives : (near : Bool) (i size sp : ℕ) (registers : Registers) (ram : Bytes) (replies : List ℕ) (trace : List Event) → registers 2 ≡ sp → sp + size < 2 ^ 32 → HasAt code i (up_by near size)
      → Gives code i (i + slot_words near) registers ram replies trace 2 (sp + size)
  up_by_gives true i size sp registers ram replies trace base word here =
      let more : plus_immediate (registers 2) (immediate size) ≡ sp + size = ap (λ k. plus_immediate k (immediate size)) base ∙ near_from size sp word in
      one_gives i registers ram replies trace 2 (plus_immediate (registers 2) (immediate size)) (sp + size) two more
      (step_sets code small i registers ram replies trace (instr.Addi 2 2 (immediate size)) 2 (plus_immediate (registers 2) (immediate size)) here.0 refl two refl)
  up_by_gives false i size sp registers ram replies trace base word here =
      let apart : ◌≢◌ {A = ℕ} 2 5 = omega arith in
      let g = both_gives i registers ram replies trace 5 size five (omega (arith, word)) (here.0, (here.1.0, tt)) in
      let w = add_of (g.after 2) (g.after 5) in
      let step = step_sets code small (i + 2) g.after ram replies trace (instr.Add 2 2 5) 2 w (subst (λ k. IsAt code k (instr.Add 2 2 5)) (plus_two i) here.1.1.0) refl two refl in
      record {
        after = with_register 2 w g.after;
        steps = g.steps + 1;
        count = omega (arith, g.count);
        goes = subst (λ k. Moves (advance code) (g.steps + 1) (at i registers ram replies trace) (at k (with_register 2 w g.after) ram replies trace)) (plus_one_more i) (Moves-then g.goes (Moves-one step));
        value = set_same 2 w g.after two ∙ sum_word (g.after 2) (g.after 5) sp size (g.others 2 apart apart ∙ base) g.value word;
        others = λ r k l. set_other 2 w g.after r k ∙ g.others r l l;
      }

  pub up_gives : (i size sp : ℕ) (registers : Registers) (ram : Bytes) (replies : List ℕ) (trace : List Event) → registers 2 ≡ sp → sp + size < 2 ^ 32 → HasAt code i (up_code size)
      → Gives code i (i + reach_words size) registers ram replies trace 2 (sp + size)
  up_gives i size sp registers ram replies trace base word here = up_by_gives (is_reached size) i size sp registers ram replies trace base word here
