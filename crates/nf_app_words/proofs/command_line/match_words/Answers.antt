use Rattle.std.proofs.Common.{◌≡◌, ◌∙◌, ap, refl}
use Rattle.nf_app_words.proofs.Common.{app_of, is_simple_and_free, texts, nfot}
use Rattle.nf_app_words.specs.MatchViews.{app_in}
use Rattle.nf_app_words.proofs.Taken.{free, matched, not_matched}
use Rattle.nf_app_words.proofs.command_line.match_words.Goals as goal

pub returns-in-Ok : goal.returns-in-Ok
unfolding app_in
returns-in-Ok c =
    let words = texts c.args.words.now in
    let app = app_of c.in_ok-command.command in
    let is_nfot : app ≡ nfot = c.in_ok-command.ensures in
    matched app words words is_nfot refl c.in-Ok.matches c.in-Ok.ensures.matches (c.in-Ok.ensures.kinds (ap is_simple_and_free is_nfot ∙ free))

pub returns : goal.returns
unfolding app_in
returns c =
    let words = texts c.args.words.now in
    let app = app_of c.in_ok-command.command in
    let is_nfot : app ≡ nfot = c.in_ok-command.ensures in
    not_matched app words words is_nfot refl c.in-Err.error c.in-Err.ensures.passes (λ memory. c.in_default.not-OutOfMemory (c.kind.ensures ∙ memory))
