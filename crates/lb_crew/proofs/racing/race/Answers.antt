use Rattle.lb_crew.proofs.CrewLemmas.{all_opened, finished_by_many}
use Rattle.lb_crew.proofs.racing.race.Goals as goal

pub make_crew-requires : goal.make_crew-requires
make_crew-requires g c = all_opened c.args.machine c.args.workers c.in_ok-turn.turn c.in_ok-turn.seats.items c.in_ok-turn.ensures

pub returns : goal.returns
returns g c =
    let t = c.in_ok-turn in record {
      finished = finished_by_many c.args.machine c.args.workers t.turn t.seats.items t.ensures c.args.seed c.close.result
          c.if-workers-eq1.false c.close.ensures;
    }
