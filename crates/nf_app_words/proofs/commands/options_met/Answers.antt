use Rattle.std.proofs.Common.{◌≡◌, ◌∙◌, ap, map, rules}
use Rattle.nf_app_words.proofs.Common.{options, are_met, rows_in, wanted_of}
use Rattle.nf_app_words.proofs.commands.options_met.Goals as goal

pub returns : goal.returns
returns c =
    let names : map (λ name. name.now) c.as_slice.result.now ≡ options = search rules in
    c.are_met.ensures ∙ ap (are_met (map wanted_of c.args.wanted.now) (rows_in c.args.matches.now)) names
