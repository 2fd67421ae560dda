-- The registers of the pins read what was last written to them.
use Rattle.std.proofs.Common.{◌≡◌, ℕ, ◌==◌, Bool, true, false, ◌||◌, if◌then◌else◌, List, [], ◌∷◌, Option, Some, None, filter_map, refl, sym, ap, subst, ◌∙◌, arith}
use Rattle.std.specs.List.{cons_option}
use Rattle.std.specs.Prelude.{unwrap_or}
use Rattle.std.proofs.lemmas.Bool.{eqb-true, false≢true}
use Rattle.lb_trace.specs.Frame.{FrameContent}
use Rattle.lb_trace.specs.declared.Kind.{Kind}
use Rattle.lb_trace.specs.declared.Kind.TheVariants.{Fetch, Decode, Execute, Ram, Mmio, Writeback, Boot, Shift, Arrive}
use Rattle.lb_board.specs.declared.registers.Register.{Register}
use Rattle.lb_board.specs.declared.registers.Register.TheVariants.{OutputEn, OutputVal, IofEn, CsMode, TxData, RxData, Unused}
use Rattle.lb_board.specs.Registers.{register_at, value_in, read_in, is_lit}
use Rattle.lb_board.specs.Rows.{by_bytes, written_in, acted}
use Rattle.lb_board.specs.Steps.{BoardState, BoardView, Step, Reads, Writes, Acts, stepped, after_steps, board, booted}
use Rattle.lb_board.specs.Pins.{is_pin_register, value_written, last_of, last_written}
use Rattle.lb_board.proofs.RowLemmas.{value_in-view_of}
use Rattle.lb_board.specs.Calls.{TellsLastWritten, Shines}

-- ---- what a step leaves in the registers of the pins

after_output_en : (b v : ℕ) (s : BoardState) → (written_in by_bytes (register_at b) v s).output_en ≡ (if b == 0x10012008 then v else s.output_en)
after_output_en b v s = grind arith

after_output_val : (b v : ℕ) (s : BoardState) → (written_in by_bytes (register_at b) v s).output_val ≡ (if b == 0x1001200C then v else s.output_val)
after_output_val b v s = grind arith

after_iof_en : (b v : ℕ) (s : BoardState) → (written_in by_bytes (register_at b) v s).iof_en ≡ (if b == 0x10012038 then v else s.iof_en)
after_iof_en b v s = grind arith

record SamePins (s t : BoardState) : Type 0 where
  pub output_en : t.output_en ≡ s.output_en
  pub output_val : t.output_val ≡ s.output_val
  pub iof_en : t.iof_en ≡ s.iof_en

read_keeps_pins : (r : Register) (s : BoardState) → SamePins s (read_in r s)
read_keeps_pins OutputEn s = record { output_en = refl; output_val = refl; iof_en = refl }
read_keeps_pins OutputVal s = record { output_en = refl; output_val = refl; iof_en = refl }
read_keeps_pins IofEn s = record { output_en = refl; output_val = refl; iof_en = refl }
read_keeps_pins CsMode s = record { output_en = refl; output_val = refl; iof_en = refl }
read_keeps_pins TxData s = record { output_en = refl; output_val = refl; iof_en = refl }
read_keeps_pins RxData s = record { output_en = refl; output_val = refl; iof_en = refl }
read_keeps_pins Unused s = record { output_en = refl; output_val = refl; iof_en = refl }

action_keeps_pins : (k : Kind) (s : BoardState) → SamePins s (acted by_bytes k s)
action_keeps_pins Fetch s = record { output_en = refl; output_val = refl; iof_en = refl }
action_keeps_pins Decode s = record { output_en = refl; output_val = refl; iof_en = refl }
action_keeps_pins Execute s = record { output_en = refl; output_val = refl; iof_en = refl }
action_keeps_pins Ram s = record { output_en = refl; output_val = refl; iof_en = refl }
action_keeps_pins Mmio s = record { output_en = refl; output_val = refl; iof_en = refl }
action_keeps_pins Writeback s = record { output_en = refl; output_val = refl; iof_en = refl }
action_keeps_pins Boot s = record { output_en = refl; output_val = refl; iof_en = refl }
action_keeps_pins Shift s = record { output_en = refl; output_val = refl; iof_en = refl }
action_keeps_pins Arrive s = record { output_en = refl; output_val = refl; iof_en = refl }

-- the value in a register after a step: what the step writes at its address, or the old value
abbrev Keeps : ℕ → (BoardState → ℕ) → Step → BoardState → Type 0
Keeps a value x s = value (stepped by_bytes x s) ≡ unwrap_or (value_written a x) (value s)

or_old : (t : Bool) (v old : ℕ) → (if t then v else old) ≡ unwrap_or (if t then Some v else None) old
or_old true v old = refl
or_old false v old = refl

output_en_kept : (x : Step) (s : BoardState) → Keeps 0x10012008 (λ t. t.output_en) x s
output_en_kept (Reads b) s = (read_keeps_pins (register_at b) s).output_en
output_en_kept (Writes b v) s = after_output_en b v s ∙ or_old (b == 0x10012008) v s.output_en
output_en_kept (Acts k) s = (action_keeps_pins k s).output_en

output_val_kept : (x : Step) (s : BoardState) → Keeps 0x1001200C (λ t. t.output_val) x s
output_val_kept (Reads b) s = (read_keeps_pins (register_at b) s).output_val
output_val_kept (Writes b v) s = after_output_val b v s ∙ or_old (b == 0x1001200C) v s.output_val
output_val_kept (Acts k) s = (action_keeps_pins k s).output_val

iof_en_kept : (x : Step) (s : BoardState) → Keeps 0x10012038 (λ t. t.iof_en) x s
iof_en_kept (Reads b) s = (read_keeps_pins (register_at b) s).iof_en
iof_en_kept (Writes b v) s = after_iof_en b v s ∙ or_old (b == 0x10012038) v s.iof_en
iof_en_kept (Acts k) s = (action_keeps_pins k s).iof_en

-- ---- what all steps leave in them

last_of-cons : (o : Option ℕ) (v : ℕ) (ws : List ℕ) → last_of (unwrap_or o v) ws ≡ last_of v (cons_option o ws)
last_of-cons None v ws = refl
last_of-cons (Some w) v ws = refl

last_kept : (a : ℕ) (value : BoardState → ℕ) → ((x : Step) (s : BoardState) → Keeps a value x s)
    → (xs : List Step) (s : BoardState) → value (after_steps xs s) ≡ last_of (value s) (filter_map (value_written a) xs)
last_kept a value kept [] s = refl
last_kept a value kept (x ∷ xs) s =
    last_kept a value kept xs (stepped by_bytes x s)
    ∙ ap (λ (v : ℕ). last_of v (filter_map (value_written a) xs)) (kept x s)
    ∙ last_of-cons (value_written a x) (value s) (filter_map (value_written a) xs)

pub output_val-board : (fs : List FrameContent) (xs : List Step) → (board fs xs).output_val ≡ last_written 0x1001200C xs
output_val-board fs xs = last_kept 0x1001200C (λ t. t.output_val) output_val_kept xs (booted fs)

-- ---- the three addresses

abbrev Read : List FrameContent → List Step → ℕ → Type 0
Read fs xs a = value_in (register_at a) (board fs xs) ≡ last_written a xs

read_at : (fs : List FrameContent) (xs : List Step) (k : ℕ) → Read fs xs k → (a : ℕ) → (a == k) ≡ true → Read fs xs a
read_at fs xs k read a e = subst (Read fs xs) (sym (eqb-true a k e)) read

one_of_three : {P : Type 0} (p q r : Bool) → (p ≡ true → P) → (q ≡ true → P) → (r ≡ true → P) → (p || q || r) ≡ true → P
one_of_three true q r f g h e = f refl
one_of_three false true r f g h e = g refl
one_of_three false false true f g h e = h refl
one_of_three false false false f g h e = absurd (false≢true e)

-- whatever else is done, a register of the pins reads what was last written there
pub pins_keep_writes : (fs : List FrameContent) (xs : List Step) (a : ℕ) → is_pin_register a ≡ true → value_in (register_at a) (board fs xs) ≡ last_written a xs
pins_keep_writes fs xs a = one_of_three (a == 0x10012008) (a == 0x1001200C) (a == 0x10012038)
    (read_at fs xs 0x10012008 (last_kept 0x10012008 (λ t. t.output_en) output_en_kept xs (booted fs)) a)
    (read_at fs xs 0x1001200C (output_val-board fs xs) a)
    (read_at fs xs 0x10012038 (last_kept 0x10012038 (λ t. t.iof_en) iof_en_kept xs (booted fs)) a)

-- ---- the calls

pub tells_last_written : (now : BoardView) (a : ℕ) → TellsLastWritten now a (value_in (register_at a) now)
tells_last_written now a fs xs e pin = ap (value_in (register_at a)) e ∙ value_in-view_of (register_at a) (board fs xs) ∙ pins_keep_writes fs xs a pin

pub shines : (now : BoardView) → Shines now (is_lit now.output_val)
shines now fs xs e = ap (λ (b : BoardView). is_lit b.output_val) e ∙ ap is_lit (output_val-board fs xs)
