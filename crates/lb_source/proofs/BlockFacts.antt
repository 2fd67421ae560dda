-- Where blocks lie.
use Rattle.std.proofs.Common.{ℕ, ◌≤◌, List, [], ◌∷◌, ◌++◌, drop, length, arith}
use Rattle.lb_syntax.specs.Tree.{Command, Skips, Sets, Unsets, Stores, Allocates, Chooses, Repeats, Calls, Interacts, Ends, Then}
use Rattle.lb_syntax.specs.Needs.{sites}
use Rattle.lb_source.specs.InternalMachine.{BlockFits, BlocksFit}

-- blocks of these sizes at these offsets end by a place
abbrev pub BlocksIn : ℕ → List ℕ → List ℕ → Type 0
BlocksIn room offsets [] = Unit {0}
BlocksIn room offsets (n ∷ ns) = BlockFits room offsets n × BlocksIn room (drop 1 offsets) ns

blocks_left : (room : ℕ) (os ns ms : List ℕ) → BlocksIn room os (ns ++ ms) → BlocksIn room os ns
blocks_left room os [] ms h = tt
blocks_left room os (n ∷ ns) ms h = (h.0, blocks_left room (drop 1 os) ns ms h.1)

blocks_right : (room : ℕ) (os ns ms : List ℕ) → BlocksIn room os (ns ++ ms) → BlocksIn room (drop (length ns) os) ms
blocks_right room os [] ms h = h
blocks_right room [] (n ∷ ns) ms h = absurd h.0
blocks_right room (o ∷ os) (n ∷ ns) ms h = blocks_right room os ns ms h.1

pub blocks_of : (room : ℕ) (os : List ℕ) (c : Command) → BlocksIn room os (sites c) → BlocksFit room os c
blocks_of room os Skips h = tt
blocks_of room os (Sets x e) h = tt
blocks_of room os (Unsets x) h = tt
blocks_of room os (Stores w a e) h = tt
blocks_of room os (Allocates n x b) h = (h.0, blocks_of room (drop 1 os) b h.1)
blocks_of room os (Chooses e b d) h = (blocks_of room os b (blocks_left room os (sites b) (sites d) h), blocks_of room (drop (length (sites b)) os) d (blocks_right room os (sites b) (sites d) h))
blocks_of room os (Repeats e b) h = blocks_of room os b h
blocks_of room os (Calls xs f es) h = tt
blocks_of room os (Interacts xs k es) h = tt
blocks_of room os Ends h = tt
blocks_of room os (Then c b) h = (blocks_of room os c (blocks_left room os (sites c) (sites b) h), blocks_of room (drop (length (sites c)) os) b (blocks_right room os (sites c) (sites b) h))

block_more : (room more : ℕ) (os : List ℕ) (n : ℕ) → room ≤ more → BlockFits room os n → BlockFits more os n
block_more room more [] n le h = h
block_more room more (o ∷ os) n le h = omega arith

pub blocks_more : (room more : ℕ) (os : List ℕ) (c : Command) → room ≤ more → BlocksFit room os c → BlocksFit more os c
blocks_more room more os Skips le h = tt
blocks_more room more os (Sets x e) le h = tt
blocks_more room more os (Unsets x) le h = tt
blocks_more room more os (Stores w a e) le h = tt
blocks_more room more os (Allocates n x b) le h = (block_more room more os n le h.0, blocks_more room more (drop 1 os) b le h.1)
blocks_more room more os (Chooses e b d) le h = (blocks_more room more os b le h.0, blocks_more room more (drop (length (sites b)) os) d le h.1)
blocks_more room more os (Repeats e b) le h = blocks_more room more os b le h
blocks_more room more os (Calls xs f es) le h = tt
blocks_more room more os (Interacts xs k es) le h = tt
blocks_more room more os Ends le h = tt
blocks_more room more os (Then c b) le h = (blocks_more room more os c le h.0, blocks_more room more (drop (length (sites c)) os) b le h.1)
