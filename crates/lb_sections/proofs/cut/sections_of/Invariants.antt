use Rattle.std.proofs.Common.{◌≡◌, ◌≤◌, ◌<◌, ◌+◌, ◌++◌, List, ℕ, length, map}
use Rattle.lb_sections.specs.Sections.{lines, sections, sections_from, seen}
use Rattle.lb_sections.proofs.CutLemmas.{begin_with}
use Rattle.lb_sections.proofs.cut.sections_of.Given as goal

-- the sections are those of the list, and then those of the rest's lines behind the front of the one that has begun
abbrev pub invariant-loop-rest : goal.invariant-loop-rest
invariant-loop-rest l = record {
  few : length l.list.items < l.most;
  short : l.line + length l.rest ≤ length l.input + 1;
  parts : (front : List ℕ) × (l.begun.text.now ≡ front ++ l.rest)
      × (sections l.input ≡ map seen l.list.items ++ begin_with l.begun.line front (sections_from l.line (lines l.rest)));
}

abbrev pub decreases-loop-rest : goal.decreases-loop-rest
decreases-loop-rest l = length l.rest
