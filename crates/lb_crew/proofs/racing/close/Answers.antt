use Rattle.lb_crew.proofs.CrewLemmas.{all_of, goes_to_end, none_missing}
use Rattle.lb_crew.proofs.racing.close.Goals as goal

pub close-requires : goal.close-requires
close-requires c = all_of c.args.turn _ c.args.seats.items c.requires.worked

pub unreachable-requires : goal.unreachable-requires
unreachable-requires c = none_missing c.args.turn _ c.args.seats.items c.requires.worked c.in-Err.field-0 c.in-Err.ensures.missing

pub returns : goal.returns
returns c =
    goes_to_end c.args.turn _ c.args.seats.items c.requires.worked c.in-Ok.machine c.requires.some c.log.ensures.replay
    c.in-Ok.ensures.closed
