-- The whole grammar, event by event. Cited by private contracts alone.
use Rattle.std.specs.Prelude.{ℕ, ◌+◌, List, Option, Some, None}
use Rattle.lb_trace.specs.declared.Event.{Event}
use Rattle.lb_grammar.specs.declared.progress.Progress.{Progress}
use Rattle.lb_grammar.specs.declared.progress.Progress.TheVariants.{Within, Off}
use Rattle.lb_grammar.specs.declared.progress.Ending.{Ending}
use Rattle.lb_grammar.specs.declared.progress.Ending.TheVariants.{Whole, GivenUp}
use Rattle.lb_grammar.specs.declared.transfer.Transfer.TheVariants.{Opening}
use Rattle.lb_grammar.specs.declared.boot.Booting.TheVariants.{FirstPin}
use Rattle.lb_grammar.specs.declared.round.Rounding.TheVariants.{Info}
use Rattle.lb_grammar.specs.declared.judging.Judging.{Judging}
use Rattle.lb_grammar.specs.declared.judging.Judging.TheVariants.{Boot, Between, Round, Still}
use Rattle.lb_grammar.specs.InternalMachine.{inside, runs}
use Rattle.lb_grammar.specs.InternalBooting.{boot_step}
use Rattle.lb_grammar.specs.InternalRounding.{round_step}

-- the whole has no end
pub data NoEnd : Type 0 where

abbrev pub after_boot : Ending → Progress Judging NoEnd
after_boot Whole = Within (Between 0)
after_boot GivenUp = Within (Still 0)

abbrev pub after_round : ℕ → Ending → Progress Judging NoEnd
after_round n Whole = Within (Between (n + 1))
after_round n GivenUp = Within (Still n)

abbrev pub judge_step : Judging → Event → Progress Judging NoEnd
judge_step (Boot at) e = inside Boot after_boot (boot_step at e)
judge_step (Between n) e = inside (Round n) (after_round n) (round_step (Info Opening) e)
judge_step (Round n at) e = inside (Round n) (after_round n) (round_step at e)
judge_step (Still n) e = Off

-- where a whole list leads
abbrev pub judged : List Event → Progress Judging NoEnd
judged l = runs judge_step (Within (Boot FirstPin)) l

-- the state, or off
abbrev pub progress_of : Option Judging → Progress Judging NoEnd
progress_of (Some s) = Within s
progress_of None = Off

-- the number of whole rounds so far
abbrev pub rounds_of : Judging → ℕ
rounds_of (Boot at) = 0
rounds_of (Between n) = n
rounds_of (Round n at) = n
rounds_of (Still n) = n
