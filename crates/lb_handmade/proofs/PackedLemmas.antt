-- Packed frames are a valid layout of a program that keeps the rules.
use Rattle.std.proofs.Common.{List, [], ◌∷◌}
use Rattle.std.specs.Prelude.{All}
use Rattle.std.proofs.lemmas.List.Elements.{All-head, All-tail}
use Rattle.lb_syntax.specs.Tree.{Procedure}
use Rattle.lb_syntax.specs.Rules.{KeepsFunctionRules, KeepsRules}
use Rattle.lb_syntax.specs.Layouts.{AreFramesOf}
use Rattle.lb_handmade.specs.Packed.{packed_frames}
use Rattle.lb_handmade.proofs.FrameLemmas.{packed_fits}

all_fit : (all p : List Procedure) → All (KeepsFunctionRules all) p → AreFramesOf (packed_frames p) p
all_fit all [] h = tt
all_fit all (f ∷ p) h = (packed_fits f (All-head (KeepsFunctionRules all) f p h).block_sizes, all_fit all p (All-tail (KeepsFunctionRules all) f p h))

pub packed_frames_fit : (p : List Procedure) → KeepsRules p → AreFramesOf (packed_frames p) p
packed_frames_fit p h = all_fit p p h.functions
