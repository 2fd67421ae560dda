use Rattle.std.proofs.Common.{◌≡◌, ◌++◌, sym, subst}
use Rattle.lb_system.specs.Faults.{form_text}
use Rattle.lb_system.proofs.LineLemmas.{event_put}
use Rattle.lb_system.proofs.line.append_form.Goals as goal

pub returns-in_ok-append_word-in-Event : goal.returns-in_ok-append_word-in-Event
returns-in_ok-append_word-in-Event c =
    subst (λ f. c.append_word-in-Event.new.line.items ≡ c.args.line.now.items ++ form_text f) (sym c.in-Event.is)
    (event_put c.args.line.now.items c.append_number-in-Event.new.line.items c.append_word-in-Event.new.line.items c.in-Event.at c.from-in-Event.result c.from-in-Event.ensures
    c.in_ok-append_number-in-Event.ensures c.in_ok-append_word-in-Event.ensures)
