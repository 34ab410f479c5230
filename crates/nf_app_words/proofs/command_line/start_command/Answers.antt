use Rattle.std.proofs.Common.{◌≡◌, ◌∙◌, ap, ap₂, rules, true}
use Rattle.nf_app_words.proofs.Common.{IfOk-weaker, rule_of, Shape, app_of, app_of_fields, on_top, with_rule, command_rule}
use Rattle.nf_app_words.specs.CommandLine.{bare}
use Rattle.nf_app_words.specs.MatchViews.{app_in}
use Rattle.nf_app_words.proofs.command_line.start_command.Goals as goal

pub returns : goal.returns
unfolding app_in bare
returns c =
    let rule : rule_of c.required-command.result ≡ command_rule = search rules in
    let start : app_of c.disable_help_flag.result ≡ bare = ap app_of_fields c.disable_help_flag.ensures
    ∙ ap (on_top (λ (s : Shape). record s { disable_help_flag = true })) c.new-2.ensures.app in
    IfOk-weaker c.arg.result _ _ (λ command h. h.shape (search rules) ∙ ap₂ with_rule start rule) c.arg.ensures
