use Rattle.std.proofs.Common.{◌≡◌, length, ap, sym, ◌∙◌}
use Rattle.lb_alloc.proofs.AcceptLemmas.{as_many}
use Rattle.lb_alloc.proofs.NameLemmas.{names_of_item}
use Rattle.lb_alloc.proofs.judgement.accepts_functions.Goals as goal

pub returns-then-functions-lists : goal.returns-then-functions-lists
returns-then-functions-lists c = (
  λ e. cc,
  λ k.
      let many : length c.args.flat.now.functions ≡ length c.args.places.now.functions = as_many c.args.flat.now.functions c.args.places.now.functions k in
      let same : length c.as_slice-functions.result.now ≡ length c.as_slice-lists.result.now = ap length c.as_slice-functions.ensures ∙ many ∙ sym (ap length c.as_slice-lists.ensures) in
      absurd (c.if-functions-lists.true same),
)

pub accepts_function-requires : goal.accepts_function-requires
accepts_function-requires c =
    names_of_item c.args.flat.now c.as_slice-functions.result.now c.requires c.as_slice-functions.ensures c.loop-i.i c.index-functions-i.result c.loop-i-test.true c.index-functions-i.is
