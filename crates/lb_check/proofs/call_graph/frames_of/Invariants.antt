use Rattle.std.proofs.Common.{◌≡◌, ◌≤◌, ◌++◌, drop, map}
use Rattle.std.specs.List.{AllByRecursion}
use Rattle.lb_syntax.specs.declared.limits.TheConstants.{MOST_FRAME}
use Rattle.lb_syntax.specs.Tree.{procedure_of}
use Rattle.lb_syntax.specs.Needs.{frame_need}
use Rattle.lb_check.specs.Parts.{parts}
use Rattle.lb_check.proofs.call_graph.frames_of.Given as goal

-- the frames so far, and those of what is left, are all
abbrev pub invariant-loop-f : goal.invariant-loop-f
invariant-loop-f l =
    let rest = map procedure_of (drop l.f-index l.functions) in record {
      made : l.frames.items ++ map frame_need rest ≡ map frame_need (map procedure_of l.functions);
      small : parts rest ≤ parts (map procedure_of l.functions);
      within : AllByRecursion (λ f. frame_need f ≤ MOST_FRAME) rest;
    }
