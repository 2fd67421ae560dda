-- What the search for a function keeps.
use Rattle.std.proofs.Common.{◌≡◌, ◌≤◌, List}
use Rattle.std.specs.Prelude.{map}
use Rattle.lb_syntax.specs.Names.{Text}
use Rattle.lb_syntax.specs.Tree.{procedure_of}
use Rattle.lb_syntax.specs.declared.tree.Function.{Function}
use Rattle.lb_syntax.specs.declared.layout.FrameLayout.{FrameLayout}
use Rattle.lb_source.specs.Run.{callee}
use Rattle.lb_source.specs.Source.{callables}
use Rattle.lb_source.specs.InternalMachine.{FramesFit, InterpreterContent, deepest, depth_of, functions_of}

-- what is found among the functions and frames that are left is found among all
pub record Searching (i : InterpreterContent) (name : Text) (rest : List Function) (frames : List FrameLayout) : Type 0 where
  pub finds : callee (callables (map procedure_of rest) frames) name ≡ callee (functions_of i) name
  pub deep : deepest rest ≤ depth_of i
  pub fits : FramesFit (map procedure_of rest) frames
