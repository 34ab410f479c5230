use Rattle.std.proofs.Common.{◌≡◌, ◌∙◌, ap, rules}
use Rattle.nf_app_words.proofs.Common.{IfOk-weaker, rule_of, app_of, with_rule, flag_rule}
use Rattle.nf_app_words.specs.MatchViews.{app_in}
use Rattle.nf_app_words.proofs.command_line.with_flag.Goals as goal

pub returns : goal.returns
unfolding app_in
returns c =
    let rule : rule_of c.action-flag.result ≡ flag_rule c.args.name.now = search rules in
    IfOk-weaker c.arg.result _ _ (λ more h. h.shape (search rules) ∙ ap (with_rule (app_of c.args.command)) rule) c.arg.ensures
