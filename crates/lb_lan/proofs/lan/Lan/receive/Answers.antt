use Rattle.lb_lan.proofs.FrameLemmas.{length-has_room}
use Rattle.lb_lan.proofs.lan.Lan.receive.Goals as goal

pub status-requires : goal.status-requires
status-requires c = length-has_room c.args.frame.now c.args.self.now.chip c.requires
