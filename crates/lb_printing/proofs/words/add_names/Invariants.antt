use Rattle.std.proofs.Common.{◌≡◌, ◌++◌, drop}
use Rattle.std.specs.List.{AllByRecursion}
use Rattle.lb_syntax.specs.Names.{IsName}
use Rattle.lb_syntax.specs.Printing.{listed}
use Rattle.lb_printing.proofs.ListLemmas.{commas}
use Rattle.lb_printing.proofs.words.add_names.Given as goal

-- the rest is what the text lacks, and all are names if the rest are
abbrev pub invariant-loop-name : goal.invariant-loop-name
invariant-loop-name l = record {
  printed : l.text.items ++ commas (drop l.name-index l.rest) ≡ l.fn.text.items ++ listed l.names;
  well_formed : AllByRecursion IsName (drop l.name-index l.rest) → AllByRecursion IsName l.names;
}
