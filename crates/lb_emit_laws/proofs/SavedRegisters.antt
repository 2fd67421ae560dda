-- Registers that are saved in the frame, and loaded again.
use Rattle.std.proofs.Common.{◌≡◌, ◌≢◌, ℕ, suc, ◌+◌, ◌*◌, ◌^◌, ◌<◌, ◌≤◌, ◌⊎◌, inl, inr, Bool, true, false, ◌||◌, List, [], ◌∷◌, length, refl, sym, ap, ◌∙◌, subst, arith}
use Rattle.std.proofs.lemmas.Bool.{eqb-true, eqb-false, ne_eqb}
use Rattle.std.specs.Prelude.{◌==◌}
use Rattle.lb_trace.specs.declared.Event.{Event}
use Rattle.lb_steps.proofs.MoveLemmas.{Moves, Moves-none, Moves-one, Moves-then}
use Rattle.lb_rv.specs.declared.instr.Instr.TheVariants as instr
use Rattle.lb_rv.specs.Effects.{plus_immediate}
use Rattle.lb_rv.specs.Effects as effects
use Rattle.lb_outcome.specs.Ram.{number_at, with_bytes}
use Rattle.lb_outcome.specs.Registers.{with_register}
use Rattle.lb_emit_laws.specs.Instructions.{immediate, saves_code, loads_code}
use Rattle.lb_emit_laws.proofs.Bytes.{Bytes, Registers, IsWritable, set_same, set_other, write_other, read_same, read_word}
use Rattle.lb_emit_laws.proofs.Ordered.{is_in, AreSaved}
use Rattle.lb_emit_laws.proofs.Places.{HasAt}
use Rattle.lb_emit_laws.proofs.Steps.{advance, at, step_loads, step_stores}
use Rattle.lb_emit_laws.proofs.Pieces.{near_from}

-- from an address on, a word for each of these registers
abbrev pub SavedAt : ℕ → List ℕ → Registers → Bytes → Type 0
SavedAt a [] registers ram = Unit {0}
SavedAt a (r ∷ rs) registers ram = (registers r < 2 ^ 32 → number_at 4 a ram ≡ registers r) × SavedAt (a + 4) rs registers ram

pub SavedAt-same : (a : ℕ) (rs : List ℕ) (registers : Registers) (ram left : Bytes) → ((x : ℕ) → a ≤ x → x < a + 4 * length rs → left x ≡ ram x) → SavedAt a rs registers ram → SavedAt a rs registers left
SavedAt-same a [] registers ram left same h = tt
SavedAt-same a (r ∷ rs) registers ram left same h = (
  (λ w. read_same 4 a left ram (λ x l u. same x l (omega (arith, u))) ∙ h.0 w),
  SavedAt-same (a + 4) rs registers ram left (λ x l u. same x (omega (arith, l)) (omega (arith, u))) h.1,
)

pub record Saves (code : List ℕ) (i j sp n : ℕ) (rs : List ℕ) (registers : Registers) (ram : Bytes) (replies : List ℕ) (trace : List Event) : Type 0 where
  pub left : Bytes
  pub steps : ℕ
  pub count : i + steps ≡ j
  pub goes : Moves (advance code) steps (at i registers ram replies trace) (at j registers left replies trace)
  pub saved : SavedAt (sp + 4 * n) rs registers left
  pub others : (x : ℕ) → x < sp + 4 * n ⊎ sp + 4 * (n + length rs) ≤ x → left x ≡ ram x

pub record Loads (code : List ℕ) (i j : ℕ) (rs : List ℕ) (before_all registers : Registers) (ram : Bytes) (replies : List ℕ) (trace : List Event) : Type 0 where
  pub after : Registers
  pub steps : ℕ
  pub count : i + steps ≡ j
  pub goes : Moves (advance code) steps (at i registers ram replies trace) (at j after ram replies trace)
  pub restored : (r : ℕ) → is_in r rs ≡ true → before_all r < 2 ^ 32 → after r ≡ before_all r
  pub others : (r : ℕ) → is_in r rs ≡ false → after r ≡ registers r

one_more : (i n : ℕ) → i + 1 + n ≡ i + suc n
one_more i n = omega arith

module _ (code : List ℕ) (small : length code ≤ 32768) (sp : ℕ) (low : 0x20000 ≤ sp) where
  pub saves_save : (rs : List ℕ) (n i : ℕ) (registers : Registers) (ram : Bytes) (replies : List ℕ) (trace : List Event) → registers 2 ≡ sp → sp + 4 * (n + length rs) ≤ 0x40000
      → HasAt code i (saves_code n rs) → Saves code i (i + length rs) sp n rs registers ram replies trace
  saves_save [] n i registers ram replies trace base high here = record {
    left = ram;
    steps = 0;
    count = refl;
    goes = let z : i ≡ i + 0 = omega arith in subst (λ k. Moves (advance code) 0 (at i registers ram replies trace) (at k registers ram replies trace)) z (Moves-none (advance code) _);
    saved = tt;
    others = λ x h. refl;
  }
  saves_save (r ∷ rs) n i registers ram replies trace base high here =
      let a = sp + 4 * n in
      let first = with_bytes 4 a (registers r) ram in
      let address : plus_immediate (registers 2) (immediate (4 * n)) ≡ a = ap (λ k. plus_immediate k (immediate (4 * n))) base ∙ near_from (4 * n) sp (omega (arith, high)) in
      let step = step_stores code small i 4 a (registers r) registers ram replies trace (instr.Sw 2 r (immediate (4 * n))) here.0 refl
      (ap (λ k. effects.Stores k (registers r)) address) (omega (arith, high)) (omega (arith, small, low)) in
      let rest = saves_save rs (n + 1) (i + 1) registers first replies trace base (omega (arith, high)) here.1 in
      let next_place : sp + 4 * (n + 1) ≡ a + 4 = omega arith in
      record {
        left = rest.left;
        steps = 1 + rest.steps;
        count = omega (arith, rest.count);
        goes = subst (λ k. Moves (advance code) (1 + rest.steps) (at i registers ram replies trace) (at k registers rest.left replies trace)) (one_more i (length rs)) (Moves-then (Moves-one step) rest.goes);
        saved = (
          (λ w. read_same 4 a rest.left first (λ x l u. rest.others x (inl (omega (arith, u)))) ∙ read_word a (registers r) ram w),
          subst (λ k. SavedAt k rs registers rest.left) next_place rest.saved,
        );
        others = λ x h. outside x (length rs) n rest.left first ram (rest.others x) (write_other 4 a (registers r) ram x) h;
      }
    where
      outside : (x m n : ℕ) (last first ram : Bytes) → (x < sp + 4 * (n + 1) ⊎ sp + 4 * (n + 1 + m) ≤ x → last x ≡ first x) → (x < sp + 4 * n ⊎ sp + 4 * n + 4 ≤ x → first x ≡ ram x)
          → x < sp + 4 * n ⊎ sp + 4 * (n + suc m) ≤ x → last x ≡ ram x
      outside x m n last first ram go this (inl h) = go (inl (omega arith)) ∙ this (inl h)
      outside x m n last first ram go this (inr h) = go (inr (omega arith)) ∙ this (inr (omega arith))

  restored_by : (b c : Bool) (r x w : ℕ) (r0 r1 last : Registers) → b ≡ (x == r) → r1 x ≡ w → (r0 x < 2 ^ 32 → w ≡ r0 x) → (c ≡ true → r0 r < 2 ^ 32 → last r ≡ r0 r) → (c ≡ false → last r ≡ r1 r)
      → (b || c) ≡ true → r0 r < 2 ^ 32 → last r ≡ r0 r
  restored_by b true r x w r0 r1 last e is held there away h word = there refl word
  restored_by true false r x w r0 r1 last e is held there away h word =
      let same : x ≡ r = eqb-true x r (sym e) in
      away refl ∙ ap r1 (sym same) ∙ is ∙ held (subst (λ k. r0 k < 2 ^ 32) (sym same) word) ∙ ap r0 same
  restored_by false false r x w r0 r1 last e is held there away h word = cc

  others_by : (b c : Bool) (r x : ℕ) (r1 registers last : Registers) → b ≡ (x == r) → (c ≡ false → last r ≡ r1 r) → ((r ≢ x) → r1 r ≡ registers r) → (b || c) ≡ false → last r ≡ registers r
  others_by true c r x r1 registers last e away other h = cc
  others_by false true r x r1 registers last e away other h = cc
  others_by false false r x r1 registers last e away other h = away refl ∙ other (λ k. eqb-false x r (sym e) (sym k))

  pub loads_load : (rs : List ℕ) (n i : ℕ) (before_all registers : Registers) (ram : Bytes) (replies : List ℕ) (trace : List Event) → registers 2 ≡ sp → AreSaved rs → SavedAt (sp + 4 * n) rs before_all ram
      → sp + 4 * (n + length rs) ≤ 0x40000 → HasAt code i (loads_code n rs) → Loads code i (i + length rs) rs before_all registers ram replies trace
  loads_load [] n i before_all registers ram replies trace base kept saved high here = record {
    after = registers;
    steps = 0;
    count = refl;
    goes = let z : i ≡ i + 0 = omega arith in subst (λ k. Moves (advance code) 0 (at i registers ram replies trace) (at k registers ram replies trace)) z (Moves-none (advance code) _);
    restored = λ r h w. cc;
    others = λ r h. refl;
  }
  loads_load (x ∷ rs) n i before_all registers ram replies trace base kept saved high here =
      let a = sp + 4 * n in
      let w = number_at 4 a ram in
      let r1 = with_register x w registers in
      let address : plus_immediate (registers 2) (immediate (4 * n)) ≡ a = ap (λ k. plus_immediate k (immediate (4 * n))) base ∙ near_from (4 * n) sp (omega (arith, high)) in
      let step = step_loads code small i 4 a registers ram replies trace (instr.Lw x 2 (immediate (4 * n))) x here.0 refl refl
      (ap (λ k. effects.Loads k) address) (omega (arith, high)) in
      let next_place : a + 4 ≡ sp + 4 * (n + 1) = omega arith in
      let ne2 : ◌≢◌ {A = ℕ} 2 x = λ e. kept.0.apart (sym e) in
      let some : IsWritable x = (omega (arith, kept.0.positive), kept.0.below) in
      let rest = loads_load rs (n + 1) (i + 1) before_all r1 ram replies trace (set_other x w registers 2 ne2 ∙ base) kept.1
      (subst (λ k. SavedAt k rs before_all ram) next_place saved.1) (omega (arith, high)) here.1 in
      record {
        after = rest.after;
        steps = 1 + rest.steps;
        count = omega (arith, rest.count);
        goes = subst (λ k. Moves (advance code) (1 + rest.steps) (at i registers ram replies trace) (at k rest.after ram replies trace)) (one_more i (length rs)) (Moves-then (Moves-one step) rest.goes);
        restored = λ r h word. restored_by (x == r) (is_in r rs) r x w before_all r1 rest.after refl (set_same x w registers some) saved.0 (rest.restored r) (rest.others r) h word;
        others = λ r h. others_by (x == r) (is_in r rs) r x r1 registers rest.after refl (rest.others r) (set_other x w registers r) h;
      }

-- a register that passes values is none that is saved
pub not_saved : (rs : List ℕ) (r : ℕ) → AreSaved rs → 5 ≤ r → r < 18 → is_in r rs ≡ false
not_saved [] r h lo hi = refl
not_saved (x ∷ rs) r h lo hi =
    let ne : x ≢ r = passing x r h.0.free lo hi in
    ap (λ (b : Bool). b || is_in r rs) (ne_eqb x r ne) ∙ not_saved rs r h.1 lo hi
  where
    passing : (x r : ℕ) → x < 5 ⊎ 18 ≤ x → 5 ≤ r → r < 18 → x ≢ r
    passing x r (inl k) lo hi = omega arith
    passing x r (inr k) lo hi = omega arith

-- nor is one that is no register that a function may save
pub not_in : (rs : List ℕ) (r : ℕ) → AreSaved rs → ((x : ℕ) → 1 ≤ x → x ≢ 2 → x ≢ r) → is_in r rs ≡ false
not_in [] r h go = refl
not_in (x ∷ rs) r h go = ap (λ (b : Bool). b || is_in r rs) (ne_eqb x r (go x h.0.positive h.0.apart)) ∙ not_in rs r h.1 go
