-- What is promised of the supplied program.
use Rattle.std.specs.Prelude.{ℕ, List, All}
use Rattle.lb_syntax.specs.Layouts.{IsValidLayout}
use Rattle.lb_syntax.specs.WellFormed.{IsWord}
use Rattle.lb_syntax.specs.declared.layout.Layout.{Layout}
use Rattle.lb_source.specs.Source.{src}
use Rattle.lb_source.specs.Defined.{IsDefined}
use Rattle.lb_source.specs.declared.ends.SourceRun.{SourceRun}
use Rattle.lb_grammar.specs.Forms.{Begins}
use Rattle.lb_grammar.specs.Grammar.{good}
use Rattle.lb_bulb.specs.Supplied.{supplied}

-- a run did nothing undefined, and its trace is a prefix of one of the grammar
pub record KeepsGrammar (r : SourceRun) : Type 0 where
  pub defined : IsDefined r.end
  pub begins : Begins good r.trace

-- whatever the devices reply and however long it runs, the supplied program never goes wrong
abbrev pub NeverGoesWrong : Type 0
NeverGoesWrong =
    (layout : Layout) (fuel : ℕ) (replies : List ℕ) → IsValidLayout layout supplied
    → All IsWord replies → KeepsGrammar (src supplied layout fuel replies)
