use Rattle.std.proofs.Common.{◌≡◌, ◌∙◌, ap, ap₂, rules, Option, Some, None, IsSomeAnd}
use Rattle.nf_app_words.proofs.Common.{IfOk-weaker, usize_max, Rule, rule_of, app_of, with_rule, files_rule}
use Rattle.clap.specs.declared.builder.range.ValueRange.{ValueRange}
use Rattle.nf_app_words.specs.MatchViews.{app_in}
use Rattle.nf_app_words.proofs.command_line.with_files.Goals as goal

some_is : (found : Option ValueRange) (range : ValueRange) → IsSomeAnd found (λ r. r ≡ range) → found ≡ Some range
some_is None range h = absurd h
some_is (Some r) range h = ap Some h

pub returns : goal.returns
unfolding app_in
returns c =
    let range : c.num_args-files.result.num_vals ≡ Some (record { start_inclusive = 0; end_inclusive = usize_max }) = some_is _ _ c.num_args-files.ensures.1 in
    let rule : rule_of c.num_args-files.result ≡ files_rule = ap rule_of c.num_args-files.ensures.0
    ∙ ap₂ (λ (r : Rule) (v : Option ValueRange). record r { range = v }) c.new.ensures.rule range in
    IfOk-weaker c.arg.result _ _ (λ more h. h.shape (search rules) ∙ ap (with_rule (app_of c.args.command)) rule) c.arg.ensures
