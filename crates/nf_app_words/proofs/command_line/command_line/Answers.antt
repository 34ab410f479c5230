use Rattle.std.proofs.Common.{◌≡◌, ◌∙◌, ap, ap₂, codes, map, refl, rules}
use Rattle.nf_app_words.proofs.Common.{IfOk-weaker, App, with_rule, command_rule, files_rule, flag_rule, options, with_options}
use Rattle.nf_app_words.specs.CommandLine.{bare, nfot}
use Rattle.nf_app_words.proofs.command_line.command_line.Goals as goal

abbrev with_all : App → App
with_all app = with_rule (with_rule (with_options options app) (flag_rule (codes "forever"))) files_rule

all_is : with_all (with_rule bare command_rule) ≡ nfot
unfolding bare nfot
all_is = refl

pub returns : goal.returns
returns c =
    let names : map (λ name. name.now) c.as_slice.result.now ≡ options = search rules in
    let valued = c.in_ok-command-2.ensures ∙ ap₂ with_options names c.in_ok-command.ensures in
    let forever = c.in_ok-command-3.ensures ∙ ap (λ (app : App). with_rule app (flag_rule (codes "forever"))) valued in
    IfOk-weaker c.with_files.result _ _ (λ command h. h ∙ ap (λ (app : App). with_rule app files_rule) forever ∙ all_is) c.with_files.ensures
