use Rattle.std.proofs.Common.{◌-◌, length, arith}
use Rattle.lb_outcome.proofs.RamLemmas.{word_put_back}
use Rattle.lb_outcome.proofs.ram.write_word.Goals as goal

pub returns-clause-cells : goal.returns-clause-cells
returns-clause-cells c =
    let bytes = c.args.bytes.now in
    word_put_back c.args.at (length bytes - c.args.at) c.args.value bytes c.write_u32.new.buf c.requires (omega arith) c.write_u32.ensures
