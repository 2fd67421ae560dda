-- Laws of the definitions on trees.
use Rattle.std.specs.Prelude.{◌≡◌, ℕ, List, length}
use Rattle.lb_syntax.specs.declared.limits.TheConstants.{MOST_FUNCTIONS, MOST_PARAMS, MOST_RESULTS, MOST_WORDS, MOST_FRAME, NEAR_FRAME}
use Rattle.lb_syntax.specs.Names.{Text, is_among, AreDistinct}
use Rattle.lb_syntax.specs.Tree.{Procedure}
use Rattle.lb_syntax.specs.Needs.{distinct}
use Rattle.lb_syntax.specs.Calls.{IsStackNeed}

-- the number of different names in a list is the size of its set of names: of each list without repeats that has just its members
abbrev pub DistinctIsSetSize : Type 0
DistinctIsSetSize = (names set : List Text) → AreDistinct set → ((x : Text) → is_among set x ≡ is_among names x) → distinct names ≡ length set

-- a program has one stack need at most
abbrev pub OneStackNeed : Type 0
OneStackNeed = (p : List Procedure) (m n : ℕ) → IsStackNeed p m → IsStackNeed p n → m ≡ n

-- the limits on programs
pub record Limits : Type 0 where
  pub functions : MOST_FUNCTIONS ≡ 256
  pub params : MOST_PARAMS ≡ 8
  pub results : MOST_RESULTS ≡ 8
  pub words : MOST_WORDS ≡ 32768
  pub frame : MOST_FRAME ≡ 32768
  pub near_frame : NEAR_FRAME ≡ 2032
