use Rattle.std.proofs.Common.{◌∙◌, ap, sym, List, ℕ, ◌∷◌}
use Rattle.lb_scan.proofs.Marks.{mark_none, mark_some, match_weaker}
use Rattle.lb_scan.proofs.number.behind_mark.Goals as goal

pub returns : goal.returns
returns c = match_weaker c.strip_prefix.result _ _ _ _ (mark_none c.args.bytes.now) (λ rest p. mark_some c.args.bytes.now p.0 ∙ ap (λ (u : List ℕ). 48 ∷ 120 ∷ u) (sym p.1)) c.strip_prefix.ensures.cases
