-- Placed code for flat code whose variables have places: slots are got before an operation and put
-- back after it. What stands here is cited by contracts of private functions only.
use Rattle.std.specs.Prelude.{◌≡◌, ℕ, ◌+◌, max, List, [], ◌∷◌, map}
use Rattle.std.specs.List.{AllByRecursion}
use Rattle.lb_flat.specs.declared.registers.TheConstants.{FIRST_SCRATCH_REGISTER}
use Rattle.lb_flat.specs.declared.places.Place.{Place}
use Rattle.lb_flat.specs.declared.places.Place.TheVariants.{Register, Slot}
use Rattle.lb_flat.specs.declared.placed.PlacedCmd.{PlacedCmd}
use Rattle.lb_flat.specs.Code.{Operation, Constant, Copy, Compute, Load, Store, Forget, Call}
use Rattle.lb_flat.specs.Code.{Access, Code, Plain, Reserve, Branch, Loop, Nothing, Sequence}
use Rattle.lb_flat.specs.Code.{Routine, Executable}
use Rattle.lb_flat.specs.Located.{place_of}
use Rattle.lb_flat.specs.Order.{IsVariable, Each}
use Rattle.lb_flat.specs.Placed.{placed_command}

-- ---- slots

-- the register in which the value of a place stands for an operation: this one for a slot
abbrev pub in_register : ℕ → Place → Place
in_register s (Register r) = Register r
in_register s (Slot i) = Register s

-- a slot is got into the register, before the rest
abbrev pub got : ℕ → Place → Code Place → Code Place
got s (Register r) rest = rest
got s (Slot i) rest = Sequence (Plain Copy (Slot i ∷ []) (Register s ∷ [])) rest

-- and put back from it
abbrev pub put_back : ℕ → Place → Code Place → Code Place
put_back s (Register r) rest = rest
put_back s (Slot i) rest = Sequence (Plain Copy (Register s ∷ []) (Slot i ∷ [])) rest

-- several, each with a register of its own, from this one on
abbrev pub in_registers : ℕ → List Place → List Place
in_registers s [] = []
in_registers s (p ∷ ps) = in_register s p ∷ in_registers (s + 1) ps

abbrev pub got_all : ℕ → List Place → Code Place → Code Place
got_all s [] rest = rest
got_all s (p ∷ ps) rest = got s p (got_all (s + 1) ps rest)

-- ---- commands

-- an operation that gives one value, for the first target
abbrev pub computed : Operation → List Place → List Place → Code Place → Code Place
computed o ps [] rest =
    got_all FIRST_SCRATCH_REGISTER ps
    (Sequence (Plain o (in_registers FIRST_SCRATCH_REGISTER ps) []) rest)
computed o ps (q ∷ qs) rest =
    got_all FIRST_SCRATCH_REGISTER ps
    (Sequence
    (Plain o (in_registers FIRST_SCRATCH_REGISTER ps) (in_register FIRST_SCRATCH_REGISTER q ∷ []))
    (put_back FIRST_SCRATCH_REGISTER q rest))

-- a copy, which goes through a register where both ends are slots
abbrev pub copied : List Place → List Place → Code Place → Code Place
copied (Slot i ∷ ps) (Slot j ∷ qs) rest =
    got FIRST_SCRATCH_REGISTER (Slot i) (put_back FIRST_SCRATCH_REGISTER (Slot j) rest)
copied ps qs rest = Sequence (Plain Copy ps qs) rest

-- a plain command, before the rest. Calls and accesses name slots themselves, and nothing has to be
-- unset
abbrev pub spill_plain : Operation → List Place → List Place → Code Place → Code Place
spill_plain (Constant v) ps qs rest = computed (Constant v) ps qs rest
spill_plain Copy ps qs rest = copied ps qs rest
spill_plain (Compute op) ps qs rest = computed (Compute op) ps qs rest
spill_plain (Load k) ps qs rest = computed (Load k) ps qs rest
spill_plain (Store k) ps qs rest =
    got_all FIRST_SCRATCH_REGISTER ps
    (Sequence (Plain (Store k) (in_registers FIRST_SCRATCH_REGISTER ps) []) rest)
spill_plain Forget ps qs rest = rest
spill_plain (Call f) ps qs rest = Sequence (Plain (Call f) ps qs) rest
spill_plain (Access k) ps qs rest = Sequence (Plain (Access k) ps qs) rest

-- a command or a block, before the rest
abbrev pub spill : (ℕ → Place) → Code ℕ → Code Place → Code Place
spill cell (Plain o xs ys) rest = spill_plain o (map cell xs) (map cell ys) rest
spill cell (Reserve n y b) rest =
    Sequence
    (Reserve n (in_register FIRST_SCRATCH_REGISTER (cell y))
    (put_back FIRST_SCRATCH_REGISTER (cell y) (spill cell b Nothing))) rest
spill cell (Branch x b d) rest =
    got FIRST_SCRATCH_REGISTER (cell x)
    (Sequence
    (Branch (in_register FIRST_SCRATCH_REGISTER (cell x)) (spill cell b Nothing)
    (spill cell d Nothing)) rest)
spill cell (Loop b x d) rest =
    Sequence
    (Loop (spill cell b (got FIRST_SCRATCH_REGISTER (cell x) Nothing))
    (in_register FIRST_SCRATCH_REGISTER (cell x)) (spill cell d Nothing)) rest
spill cell Nothing rest = rest
spill cell (Sequence c d) rest = spill cell c (spill cell d rest)

-- ---- functions and programs

-- how many slots reach to each of these
abbrev pub slots_of : List Place → ℕ
slots_of [] = 0
slots_of (Register r ∷ ps) = slots_of ps
slots_of (Slot i ∷ ps) = max (i + 1) (slots_of ps)

-- a function's placed form, for these places of its variables
abbrev pub spilled : Routine ℕ → List Place → Routine Place
spilled f places = record {
  variables = slots_of places;
  params = map (place_of places) f.params;
  results = map (place_of places) f.results;
  body = spill (place_of places) f.body Nothing;
}

-- those of several, as far as there are functions and places
abbrev pub all_spilled : List (Routine ℕ) → List (List Place) → List (Routine Place)
all_spilled [] lists = []
all_spilled (f ∷ fs) [] = []
all_spilled (f ∷ fs) (places ∷ lists) = spilled f places ∷ all_spilled fs lists

-- a program's
abbrev pub spilled_executable : Executable ℕ → List (List Place) → Executable Place
spilled_executable p lists = record {
  routines = all_spilled p.routines lists;
  init = p.init;
  again = p.again;
}

-- ---- how it is written

-- these commands, before the rest
abbrev pub emitted : List PlacedCmd → Code Place → Code Place
emitted [] rest = rest
emitted (c ∷ cs) rest = Sequence (placed_command c) (emitted cs rest)

-- code that was written behind other code, where `code` says what it is before a rest
abbrev pub Writes : List PlacedCmd → List PlacedCmd → (Code Place → Code Place) → Type 0
Writes old new code = (rest : Code Place) → emitted new rest ≡ emitted old (code rest)

-- one command that is this code before a rest
abbrev pub IsPlaced : PlacedCmd → (Code Place → Code Place) → Type 0
IsPlaced c code = (rest : Code Place) → Sequence (placed_command c) rest ≡ code rest

-- a command without blocks
abbrev pub IsPlainCode : Code ℕ → Type 0
IsPlainCode (Plain o xs ys) = Unit {0}
IsPlainCode c = ⊥

-- a call or an access
abbrev pub IsCallCode : Code ℕ → Type 0
IsCallCode (Plain (Call f) xs ys) = Unit {0}
IsCallCode (Plain (Access k) xs ys) = Unit {0}
IsCallCode c = ⊥

-- each variable that code names is one of so many
abbrev pub NamesBelow : ℕ → Code ℕ → Type 0
NamesBelow n =
    Each (λ o xs ys. AllByRecursion (IsVariable n) xs × AllByRecursion (IsVariable n) ys)
    (IsVariable n)

-- each variable that a function names is its own
pub record NamesOwn (f : Routine ℕ) : Type 0 where
  pub params : AllByRecursion (IsVariable f.variables) f.params
  pub results : AllByRecursion (IsVariable f.variables) f.results
  pub body : NamesBelow f.variables f.body
