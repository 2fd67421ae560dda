-- What a call shows.
use Rattle.std.specs.Prelude.{List, [], None, Some}
use Rattle.std.specs.declared.option.Option.{Option}
use Rattle.lb_trace.specs.declared.Entry.{Entry}
use Rattle.lb_syntax.specs.Names.{Text}
use Rattle.lb_image.specs.declared.image.Image.{Image}
use Rattle.lb_system.specs.declared.top.Ended.{Ended}

-- the report, the machine's log, and the image that was used
pub record View : Type 0 where
  pub report : Text
  pub log : List Entry
  pub image : Option Image

-- a report and nothing else
abbrev pub of_report : Text → View
of_report report = record { report = report; log = []; image = None }

-- a report over an image
abbrev pub with_image : Text → Image → View
with_image report i = record { report = report; log = []; image = Some i }

-- a report of a machine that runs an image, and its log
abbrev pub with_log : Text → List Entry → Image → View
with_log report log i = record { report = report; log = log; image = Some i }

-- what a call that ended so shows beside this report
abbrev pub shown_by : Ended → Text → View
shown_by e report = record { report = report; log = e.log.items; image = e.image }
