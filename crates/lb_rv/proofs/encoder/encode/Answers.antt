use Rattle.std.proofs.Common.{◌≡◌, ◌∙◌, sym, subst, ℕ}
use Rattle.std.specs.Prelude.{Some}
use Rattle.lb_rv.specs.Decoding.{instruction_of}
use Rattle.lb_rv.specs.Table.{IsEncodedBy, word_of}
use Rattle.lb_rv.proofs.TableLemmas.{IsEncodedBy-word_of, word_of-shape}
use Rattle.lb_rv.proofs.DecodingLemmas.{instruction_of_word}
use Rattle.lb_rv.proofs.encoder.encode.Goals as goal

pub returns-clause-word : goal.returns-clause-word
returns-clause-word c = c.word.ensures ∙ word_of-shape c.args.i.now c.shape_of.result c.shape_of.ensures

pub returns-clause-columns : goal.returns-clause-columns
returns-clause-columns c =
    let e : c.word.result ≡ word_of c.args.i.now = c.word.ensures ∙ word_of-shape c.args.i.now c.shape_of.result c.shape_of.ensures in
    subst (λ (w : ℕ). IsEncodedBy c.args.i.now w) (sym e) (IsEncodedBy-word_of c.args.i.now c.requires)

pub returns-clause-again : goal.returns-clause-again
returns-clause-again c =
    let e : c.word.result ≡ word_of c.args.i.now = c.word.ensures ∙ word_of-shape c.args.i.now c.shape_of.result c.shape_of.ensures in
    subst (λ (w : ℕ). instruction_of w ≡ Some c.args.i.now) (sym e) (instruction_of_word c.args.i.now c.requires)
