-- What stands in flat or placed code, and how often.
use Rattle.std.specs.Prelude.{ℕ, ◌+◌, List, [], ◌∷◌, ◌++◌, length}
use Rattle.lb_flat.specs.declared.places.Place.{Place}
use Rattle.lb_flat.specs.declared.places.Place.TheVariants.{Register, Slot}
use Rattle.lb_flat.specs.Code.{Operation, Copy, Load, Store, Call, Access}
use Rattle.lb_flat.specs.Code.{Code, Plain, Reserve, Branch, Loop, Nothing, Sequence}

-- a number for each plain command, by its operation, arguments and targets
abbrev pub Weight : Type 0 → Type 0
Weight X = Operation → List X → List X → ℕ

-- the sum of these numbers
abbrev pub total : {X : Type 0} → Weight X → Code X → ℕ
total weight (Plain o xs ys) = weight o xs ys
total weight (Reserve n y b) = total weight b
total weight (Branch x b d) = total weight b + total weight d
total weight (Loop b x d) = total weight b + total weight d
total weight Nothing = 0
total weight (Sequence c d) = total weight c + total weight d

-- ---- weights

abbrev pub load_weight : {X : Type 0} → Weight X
load_weight (Load k) xs ys = 1
load_weight o xs ys = 0

abbrev pub store_weight : {X : Type 0} → Weight X
store_weight (Store k) xs ys = 1
store_weight o xs ys = 0

abbrev pub access_weight : {X : Type 0} → Weight X
access_weight (Access k) xs ys = 1
access_weight o xs ys = 0

-- the arguments of a call or an access
abbrev pub argument_weight : {X : Type 0} → Weight X
argument_weight (Call f) xs ys = length xs
argument_weight (Access k) xs ys = length xs
argument_weight o xs ys = 0

-- its targets
abbrev pub target_weight : {X : Type 0} → Weight X
target_weight (Call f) xs ys = length ys
target_weight (Access k) xs ys = length ys
target_weight o xs ys = 0

-- those that are slots
abbrev pub slot_count : List Place → ℕ
slot_count [] = 0
slot_count (Register r ∷ ps) = slot_count ps
slot_count (Slot s ∷ ps) = 1 + slot_count ps

-- a copy from a slot or to one
abbrev pub move_weight : Weight Place
move_weight Copy ps qs = slot_count (ps ++ qs)
move_weight o ps qs = 0

-- ---- counts

-- the loads of a command or a block
abbrev pub loads : {X : Type 0} → Code X → ℕ
loads = total load_weight

-- its stores
abbrev pub stores : {X : Type 0} → Code X → ℕ
stores = total store_weight

-- its accesses of devices
abbrev pub accesses : {X : Type 0} → Code X → ℕ
accesses = total access_weight

-- the arguments of its calls and accesses
abbrev pub arguments : {X : Type 0} → Code X → ℕ
arguments = total argument_weight

-- their targets
abbrev pub targets : {X : Type 0} → Code X → ℕ
targets = total target_weight

-- the moves from and to slots in placed code
abbrev pub slot_moves : Code Place → ℕ
slot_moves = total move_weight
