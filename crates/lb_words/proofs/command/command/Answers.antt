use Rattle.std.proofs.Common.{◌≡◌, ◌∙◌, ap, ap₂}
use Rattle.std.proofs.lemmas.Result.{IfOk-weaker}
use Rattle.clap.specs.Words.{app_of, with_rule}
use Rattle.clap.specs.Simple.{app_of_fields}
use Rattle.lb_words.specs.Words.{bare_command, without_help}
use Rattle.lb_words.proofs.command.command.Goals as goal

-- each argument is added to those before it
pub returns : goal.returns
returns c =
    let bare : app_of c.disable_help_flag.result ≡ bare_command = ap app_of_fields c.disable_help_flag.ensures ∙ ap without_help c.new.ensures.app in
    let mode = c.in_ok-arg.ensures.shape c.mode_word.ensures.own ∙ ap₂ with_rule bare c.mode_word.ensures.rule in
    let events = c.in_ok-arg-2.ensures.shape c.value.ensures.own ∙ ap₂ with_rule mode c.value.ensures.rule in
    let workers = c.in_ok-arg-3.ensures.shape c.value-2.ensures.own ∙ ap₂ with_rule events c.value-2.ensures.rule in
    let seed = c.in_ok-arg-4.ensures.shape c.value-3.ensures.own ∙ ap₂ with_rule workers c.value-3.ensures.rule in
    let log = c.in_ok-arg-5.ensures.shape c.flag.ensures.own ∙ ap₂ with_rule seed c.flag.ensures.rule in
    IfOk-weaker c.arg-6.result _ _ (λ made added. added.shape c.flag-2.ensures.own ∙ ap₂ with_rule log c.flag-2.ensures.rule) c.arg-6.ensures
