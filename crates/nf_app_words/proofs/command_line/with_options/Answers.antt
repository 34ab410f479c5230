use Rattle.std.proofs.Common.{◌≡◌, ◌∙◌, ◌+◌, List, [], drop, map, slice_index_or, refl, sym, ap, rules}
use Rattle.nf_app_words.proofs.Common.{Bor, at_drop_all, at_drop_more, Text, rule_of, app_of, with_rule, option_rule, with_options}
use Rattle.nf_app_words.specs.MatchViews.{app_in}
use Rattle.nf_app_words.proofs.command_line.with_options.Goals as goal

pub loop-name-init : goal.loop-name-init
loop-name-init c = refl

pub loop-name-preserved : goal.loop-name-preserved
unfolding app_in
loop-name-preserved c =
    let names = c.args.names.now in
    let index = c.loop-name.name-index in
    let app = app_of c.loop-name.command in
    let none : Bor Text = record { ref_ptr = (0, 0); now = [] } in
    let name = (slice_index_or names index none).now in
    let rule : rule_of c.long-option.result ≡ option_rule name = search rules in
    let more : app_of c.in_ok-command.command ≡ with_rule app (option_rule name) = c.in_ok-command.ensures.shape (search rules) ∙ ap (with_rule app) rule in
    let here = at_drop_more (λ (names : List (Bor Text)). with_options (map (λ name. name.now) names) app) names index none c.loop-name-test.true in
    ap (with_options (map (λ name. name.now) (drop (index + 1) names))) more ∙ sym here ∙ c.loop-name.invariant

pub returns : goal.returns
unfolding app_in
returns c =
    let all = at_drop_all (λ (names : List (Bor Text)). with_options (map (λ name. name.now) names) (app_of c.loop-name.command)) c.args.names.now
    c.loop-name.name-index c.loop-name-test.false in
    sym all ∙ c.loop-name.invariant
