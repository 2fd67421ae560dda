use Rattle.std.proofs.Common.{rules, ◌+◌, drop, ap, arith}
use Rattle.std.proofs.lemmas.List.{drop_all}
use Rattle.lb_ports.proofs.RunLemmas.{read_part}
use Rattle.lb_ports.proofs.memory_source.MemorySourceSource.read.Goals as goal

pub returns-clause-bytes : goal.returns-clause-bytes
returns-clause-bytes c =
    (read_part c.self.inside.bytes.items c.copy_from_slice.new.self (drop c.min-count.result c.args.buf.now) c.args.self.now.left c.self.inside.place c.min-count.result (search rules) (search rules) (ap (λ s. s.left) c.self.view_is), λ none some. drop_all (c.self.inside.place + c.min-count.result) c.self.inside.bytes.items (omega arith))
