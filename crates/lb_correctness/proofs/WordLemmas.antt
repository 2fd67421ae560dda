-- Where the replies are words, a run of the instruction-set machine has words alone.
use Rattle.std.proofs.Common.{◌≡◌, ℕ, zero, suc, ◌+◌, ◌*◌, ◌/◌, ◌%◌, ◌^◌, ◌<◌, ◌==◌, nat_lt, Bool, true, false, if◌then◌else◌, List, [], ◌∷◌, length, slice_get, Option, Some, None, refl, subst, arith}
use Rattle.std.specs.Prelude.{ℤ, pos, negsuc, IfSome}
use Rattle.std.specs.List.{AllByRecursion}
use Rattle.std.proofs.lemmas.Int.{ints}
use Rattle.std.proofs.lemmas.Bool.Decides.{nat_tests}
use Rattle.lb_trace.specs.declared.Event.{Event}
use Rattle.lb_syntax.specs.WellFormed.{IsWord}
use Rattle.lb_source.specs.Correct.{AreWords}
use Rattle.lb_steps.proofs.GrowthLemmas.{run-keeps}
use Rattle.lb_word.proofs.BoundLemmas.{add_of_below, and_of_below, div_of_below, divu_of_below, lts_of_below, ltu_of_below, mul_of_below, mulh_of_below, mulhsu_of_below, mulhuu_of_below, or_of_below, rem_of_below, remu_of_below, slu_of_below, srs_of_below, sru_of_below, sub_of_below, xor_of_below}
use Rattle.lb_rv.specs.declared.instr.Instr.{Instr}
use Rattle.lb_rv.specs.declared.instr.Instr.TheVariants.{Lui, Auipc, Jal, Jalr, Beq, Bne, Blt, Bge, Bltu, Bgeu, Lb, Lh, Lw, Lbu, Lhu, Sb, Sh, Sw, Addi, Slti, Sltiu, Xori, Ori, Andi, Slli, Srli, Srai, Add, Sub, Sll, Slt, Sltu, Xor, Srl, Sra, Or, And, Mul, Mulh, Mulhsu, Mulhu, Div, Divu, Rem, Remu, Fence, Ecall, Ebreak}
use Rattle.lb_rv.specs.Formats.{IsSignedOf, immediate_word}
use Rattle.lb_rv.specs.Table.{IsInRange}
use Rattle.lb_rv.specs.Decoding.{instruction_of, sign_extended}
use Rattle.lb_rv.specs.Effects.{Effect, Sets, Goes, Loads, Stores, Stops, access, destination, effect, loaded_word}
use Rattle.lb_rv.proofs.FoundLemmas.{encoded-instruction_of}
use Rattle.lb_outcome.specs.declared.types.Outcome.{Outcome}
use Rattle.lb_outcome.specs.declared.types.Outcome.TheVariants.{Plain, Load, Store, Halt}
use Rattle.lb_outcome.specs.Fetching.{instruction_in, left_source, right_source, word_at}
use Rattle.lb_outcome.specs.MemoryMap.{is_device_word, is_in_ram}
use Rattle.lb_outcome.specs.Outcomes.{executed, load_outcome, outcome_of, store_outcome}
use Rattle.lb_outcome.specs.Ram.{loaded, number_at, stored, with_bytes, with_words}
use Rattle.lb_outcome.specs.Registers.{is_written}
use Rattle.lb_isa.specs.State.{ProcessorState, RunState}
use Rattle.lb_isa.specs.Moves.{commit, move, upcoming}
use Rattle.lb_isa.specs.Runs.{isa, start}
use Rattle.lb_isa.proofs.MoveLemmas.{run_with}

-- ---- choices

pub chosen_below : (k : ℕ) (t : Bool) (x y : ℕ) → x < k → y < k → (if t then x else y) < k
chosen_below k true x y h i = h
chosen_below k false x y h i = i

-- ---- what an instruction gives

immediate_below : (z : ℤ) → IsSignedOf 12 z → immediate_word z < 2 ^ 32
immediate_below (pos n) h = omega (arith, h)
immediate_below (negsuc n) h = omega (arith, h)

-- the values of an effect are words
abbrev IsOfWords : Effect → Type 0
IsOfWords (Sets v next) = v < 2 ^ 32
IsOfWords (Goes next) = Unit {0}
IsOfWords (Loads a) = Unit {0}
IsOfWords (Stores a v) = v < 2 ^ 32
IsOfWords (Stops cause) = Unit {0}

effect_words : (i : Instr) (pc a b : ℕ) → IsInRange i → a < 2 ^ 32 → b < 2 ^ 32 → IsOfWords (effect i pc a b)
effect_words (Lui rd imm) pc a b r h k = r.2
effect_words (Auipc rd imm) pc a b r h k = add_of_below pc imm
effect_words (Jal rd imm) pc a b r h k = add_of_below pc 4
effect_words (Jalr rd rs1 imm) pc a b r h k = add_of_below pc 4
effect_words (Beq rs1 rs2 imm) pc a b r h k = tt
effect_words (Bne rs1 rs2 imm) pc a b r h k = tt
effect_words (Blt rs1 rs2 imm) pc a b r h k = tt
effect_words (Bge rs1 rs2 imm) pc a b r h k = tt
effect_words (Bltu rs1 rs2 imm) pc a b r h k = tt
effect_words (Bgeu rs1 rs2 imm) pc a b r h k = tt
effect_words (Lb rd rs1 imm) pc a b r h k = tt
effect_words (Lh rd rs1 imm) pc a b r h k = tt
effect_words (Lw rd rs1 imm) pc a b r h k = tt
effect_words (Lbu rd rs1 imm) pc a b r h k = tt
effect_words (Lhu rd rs1 imm) pc a b r h k = tt
effect_words (Sb rs1 rs2 imm) pc a b r h k = k
effect_words (Sh rs1 rs2 imm) pc a b r h k = k
effect_words (Sw rs1 rs2 imm) pc a b r h k = k
effect_words (Addi rd rs1 imm) pc a b r h k = add_of_below a (immediate_word imm)
effect_words (Slti rd rs1 imm) pc a b r h k = lts_of_below a (immediate_word imm)
effect_words (Sltiu rd rs1 imm) pc a b r h k = ltu_of_below a (immediate_word imm)
effect_words (Xori rd rs1 imm) pc a b r h k = xor_of_below a (immediate_word imm) h (immediate_below imm r.2)
effect_words (Ori rd rs1 imm) pc a b r h k = or_of_below a (immediate_word imm) h (immediate_below imm r.2)
effect_words (Andi rd rs1 imm) pc a b r h k = and_of_below a (immediate_word imm) h (immediate_below imm r.2)
effect_words (Slli rd rs1 imm) pc a b r h k = slu_of_below a imm
effect_words (Srli rd rs1 imm) pc a b r h k = sru_of_below a imm h
effect_words (Srai rd rs1 imm) pc a b r h k = srs_of_below a imm
effect_words (Add rd rs1 rs2) pc a b r h k = add_of_below a b
effect_words (Sub rd rs1 rs2) pc a b r h k = sub_of_below a b
effect_words (Sll rd rs1 rs2) pc a b r h k = slu_of_below a b
effect_words (Slt rd rs1 rs2) pc a b r h k = lts_of_below a b
effect_words (Sltu rd rs1 rs2) pc a b r h k = ltu_of_below a b
effect_words (Xor rd rs1 rs2) pc a b r h k = xor_of_below a b h k
effect_words (Srl rd rs1 rs2) pc a b r h k = sru_of_below a b h
effect_words (Sra rd rs1 rs2) pc a b r h k = srs_of_below a b
effect_words (Or rd rs1 rs2) pc a b r h k = or_of_below a b h k
effect_words (And rd rs1 rs2) pc a b r h k = and_of_below a b h k
effect_words (Mul rd rs1 rs2) pc a b r h k = mul_of_below a b
effect_words (Mulh rd rs1 rs2) pc a b r h k = mulh_of_below a b
effect_words (Mulhsu rd rs1 rs2) pc a b r h k = mulhsu_of_below a b
effect_words (Mulhu rd rs1 rs2) pc a b r h k = mulhuu_of_below a b h k
effect_words (Div rd rs1 rs2) pc a b r h k = div_of_below a b
effect_words (Divu rd rs1 rs2) pc a b r h k = divu_of_below a b h
effect_words (Rem rd rs1 rs2) pc a b r h k = rem_of_below a b h
effect_words (Remu rd rs1 rs2) pc a b r h k = remu_of_below a b h
effect_words (Fence rd rs1 imm) pc a b r h k = tt
effect_words Ecall pc a b r h k = tt
effect_words Ebreak pc a b r h k = tt

-- the values of an outcome are words
abbrev pub HasWords : Outcome → Type 0
HasWords (Plain rd v) = v < 2 ^ 32
HasWords (Load i a mmio served) = Unit {0}
HasWords (Store i a v mmio served) = v < 2 ^ 32
HasWords (Halt cause) = Unit {0}

load_words : (ram device : Bool) (i : Instr) (pc a : ℕ) → HasWords (load_outcome ram device i pc a).outcome
load_words true device i pc a = tt
load_words false true i pc a = tt
load_words false false i pc a = tt

store_words : (ram code device : Bool) (i : Instr) (pc a v : ℕ) → v < 2 ^ 32 → HasWords (store_outcome ram code device i pc a v).outcome
store_words true true device i pc a v h = tt
store_words true false device i pc a v h = h
store_words false code true i pc a v h = h
store_words false code false i pc a v h = tt

outcome_words : (code_bytes : ℕ) (i : Instr) (pc : ℕ) (e : Effect) → IsOfWords e → HasWords (outcome_of code_bytes i pc e).outcome
outcome_words n i pc (Sets v next) h = chosen_below (2 ^ 32) (destination i == 0) 0 v (omega arith) h
outcome_words n i pc (Goes next) h = chosen_below (2 ^ 32) (destination i == 0) 0 0 (omega arith) (omega arith)
outcome_words n i pc (Loads a) h = load_words (is_in_ram (access i).bytes a) (is_device_word (access i).bytes a) i pc a
outcome_words n i pc (Stores a v) h = store_words (is_in_ram (access i).bytes a) (nat_lt a n) (is_device_word (access i).bytes a) i pc a v h
outcome_words n i pc (Stops cause) h = tt

decoded_words : (code_bytes pc w : ℕ) (o : Option Instr) (a b : ℕ) → instruction_of w ≡ o → w < 2 ^ 32 → a < 2 ^ 32 → b < 2 ^ 32
    → HasWords (executed code_bytes pc (Some w) o a b).outcome
decoded_words n pc w None a b is f h k = tt
decoded_words n pc w (Some i) a b is f h k = outcome_words n i pc (effect i pc a b) (effect_words i pc a b (encoded-instruction_of w i f is).0 h k)

executed_words : (code_bytes pc : ℕ) (o : Option ℕ) (a b : ℕ) → IfSome o IsWord → a < 2 ^ 32 → b < 2 ^ 32
    → HasWords (executed code_bytes pc o (instruction_in o) a b).outcome
executed_words n pc None a b f h k = tt
executed_words n pc (Some w) a b f h k = decoded_words n pc w (instruction_of w) a b refl f h k

-- ---- the code

word_in : (code : List ℕ) (n : ℕ) → AllByRecursion IsWord code → IfSome (slice_get code n) IsWord
word_in [] zero h = tt
word_in [] (suc n) h = tt
word_in (w ∷ ws) zero h = h.0
word_in (w ∷ ws) (suc n) h = word_in ws n h.1

word_there : (t : Bool) (code : List ℕ) (n : ℕ) → AllByRecursion IsWord code → IfSome (if t then slice_get code n else None) IsWord
word_there true code n h = word_in code n h
word_there false code n h = tt

-- ---- registers and RAM

-- each register holds a word, each address a byte
pub record HoldsWords (p : ProcessorState) : Type 0 where
  pub registers : (r : ℕ) → p.registers r < 2 ^ 32
  pub ram : (a : ℕ) → p.ram a < 256

pub upcoming_words : (code : List ℕ) (p : ProcessorState) → AllByRecursion IsWord code → HoldsWords p → HasWords (upcoming code p).outcome
upcoming_words code p c h =
    let o = word_at code p.pc in
    executed_words (4 * length code) p.pc o (p.registers (left_source (instruction_in o))) (p.registers (right_source (instruction_in o)))
    (word_there (p.pc % 4 == 0) code (p.pc / 4) c) (h.registers (left_source (instruction_in o))) (h.registers (right_source (instruction_in o)))

-- what is loaded

one_below : (a : ℕ) (ram : ℕ → ℕ) → ((x : ℕ) → ram x < 256) → number_at 1 a ram < 2 ^ 8
one_below a ram h = omega (arith, h a)

two_below : (a : ℕ) (ram : ℕ → ℕ) → ((x : ℕ) → ram x < 256) → number_at 2 a ram < 2 ^ 16
two_below a ram h = omega (arith, h a, h (a + 1))

four_below : (a : ℕ) (ram : ℕ → ℕ) → ((x : ℕ) → ram x < 256) → number_at 4 a ram < 2 ^ 32
four_below a ram h = omega (arith, h a, h (a + 1), h (a + 1 + 1), h (a + 1 + 1 + 1))

signed_1_below : (n : ℕ) → n < 2 ^ 8 → immediate_word (sign_extended 8 n) < 2 ^ 32
signed_1_below n h = grind (arith, ints, nat_tests)

signed_2_below : (n : ℕ) → n < 2 ^ 16 → immediate_word (sign_extended 16 n) < 2 ^ 32
signed_2_below n h = grind (arith, ints, nat_tests)

loaded_by : (i : Instr) (a : ℕ) (ram : ℕ → ℕ) → ((x : ℕ) → ram x < 256) → loaded_word (access i) (number_at (access i).bytes a ram) < 2 ^ 32
loaded_by (Lb rd rs1 imm) a ram h = signed_1_below (number_at 1 a ram) (one_below a ram h)
loaded_by (Lh rd rs1 imm) a ram h = signed_2_below (number_at 2 a ram) (two_below a ram h)
loaded_by (Lw rd rs1 imm) a ram h = four_below a ram h
loaded_by (Lbu rd rs1 imm) a ram h = omega (arith, one_below a ram h)
loaded_by (Lhu rd rs1 imm) a ram h = omega (arith, two_below a ram h)
loaded_by (Sb rs1 rs2 imm) a ram h = omega (arith, one_below a ram h)
loaded_by (Sh rs1 rs2 imm) a ram h = omega (arith, two_below a ram h)
loaded_by (Sw rs1 rs2 imm) a ram h = four_below a ram h
loaded_by _ a ram h = omega arith

loaded_below : (i : Instr) (a : ℕ) (ram : ℕ → ℕ) → ((x : ℕ) → ram x < 256) → loaded i a ram < 2 ^ 32
unfolding loaded
loaded_below i a ram h =
    chosen_below (2 ^ 32) (is_in_ram (access i).bytes a) (loaded_word (access i) (number_at (access i).bytes a ram)) 0 (loaded_by i a ram h) (omega arith)

-- what is stored

with_bytes_below : (n a v : ℕ) (ram : ℕ → ℕ) → ((x : ℕ) → ram x < 256) → (x : ℕ) → with_bytes n a v ram x < 256
with_bytes_below zero a v ram h = h
with_bytes_below (suc n) a v ram h =
    with_bytes_below n (a + 1) (v / 256) _ (λ x. chosen_below 256 (a == x) (v % 256) (ram x) (omega arith) (h x))

with_words_below : (a : ℕ) (ws : List ℕ) (ram : ℕ → ℕ) → ((x : ℕ) → ram x < 256) → (x : ℕ) → with_words a ws ram x < 256
with_words_below a [] ram h = h
with_words_below a (w ∷ ws) ram h = with_words_below (a + 4) ws (with_bytes 4 a w ram) (with_bytes_below 4 a w ram h)

stored_by : (t : Bool) (n a v : ℕ) (ram : ℕ → ℕ) → ((x : ℕ) → ram x < 256) → (x : ℕ) → (if t then with_bytes n a v ram else ram) x < 256
stored_by true n a v ram h = with_bytes_below n a v ram h
stored_by false n a v ram h = h

stored_below : (i : Instr) (a v : ℕ) (ram : ℕ → ℕ) → ((x : ℕ) → ram x < 256) → (x : ℕ) → stored i a v ram x < 256
unfolding stored
stored_below i a v ram h = stored_by (is_in_ram (access i).bytes a) (access i).bytes a v ram h

-- ---- runs

-- the processor holds words, and the replies that are left are words
pub record RunsOnWords (s : RunState) : Type 0 where
  pub holds : HoldsWords s.processor
  pub replies : AreWords s.replies

abbrev InRun : Option RunState → Type 0
InRun None = Unit {0}
InRun (Some s) = RunsOnWords s

written_words : (r v : ℕ) (registers : ℕ → ℕ) → v < 2 ^ 32 → ((x : ℕ) → registers x < 2 ^ 32) → (x : ℕ) → (if is_written r x then v else registers x) < 2 ^ 32
written_words r v registers h k x = chosen_below (2 ^ 32) (is_written r x) v (registers x) h (k x)

commit_words : (o : Outcome) (next : ℕ) (p : ProcessorState) (rs : List ℕ) (trace : List Event) (n : ℕ) (t : RunState)
    → commit o next (run_with p rs trace n) ≡ Some t → HasWords o → HoldsWords p → AreWords rs → RunsOnWords t
commit_words (Plain rd v) next p rs trace n t h w k ws =
    subst InRun h (record { holds = record { registers = written_words rd v p.registers w k.registers; ram = k.ram }; replies = ws })
commit_words (Load i a false served) next p rs trace n t h w k ws =
    subst InRun h (record {
      holds = record { registers = written_words (destination i) (loaded i a p.ram) p.registers (loaded_below i a p.ram k.ram) k.registers; ram = k.ram };
      replies = ws;
    })
commit_words (Load i a true served) next p [] trace n t h w k ws = absurd (cc h)
commit_words (Load i a true served) next p (v ∷ vs) trace n t h w k ws =
    subst InRun h (record { holds = record { registers = written_words (destination i) v p.registers ws.0 k.registers; ram = k.ram }; replies = ws.1 })
commit_words (Store i a v false served) next p rs trace n t h w k ws =
    subst InRun h (record { holds = record { registers = k.registers; ram = stored_below i a v p.ram k.ram }; replies = ws })
commit_words (Store i a v true served) next p rs trace n t h w k ws = subst InRun h (record { holds = record { registers = k.registers; ram = k.ram }; replies = ws })
commit_words (Halt cause) next p rs trace n t h w k ws = absurd (cc h)

move_words : (code : List ℕ) → AllByRecursion IsWord code → (s t : RunState) → move code s ≡ Some t → RunsOnWords s → RunsOnWords t
move_words code c s t h k =
    commit_words (upcoming code s.processor).outcome (upcoming code s.processor).next s.processor s.replies s.trace s.committed t h
    (upcoming_words code s.processor c k.holds) k.holds k.replies

-- a run of code that is words, with replies that are words, runs on words
pub isa_words : (code : List ℕ) (entry : ℕ) (replies : List ℕ) (n : ℕ) → AllByRecursion IsWord code → AreWords replies
    → RunsOnWords (isa code entry replies n)
isa_words code entry replies n c ws =
    run-keeps (move code) RunsOnWords (move_words code c) n (start code entry replies) (record {
      holds = record { registers = λ r. omega arith; ram = with_words_below 0 code (λ x. 0) (λ x. omega arith) };
      replies = ws;
    })
