use Rattle.std.proofs.Common.{◌≤◌, List, ℕ, ◌∷◌, ◌++◌, length, refl, ap, ◌∙◌, arith}
use Rattle.nf_app_answers.proofs.Common.{slice_get_read, IfOk-from_err, name_at}
use Rattle.nf_app_answers.proofs.QuickLines.{word_more, word_ends}
use Rattle.nf_app_answers.proofs.quick_text.put_links.Goals as goal

pub loop-link-init : goal.loop-link-init
loop-link-init c = refl

pub returns-in_err-push_word : goal.returns-in_err-push_word
returns-in_err-push_word c = IfOk-from_err c.from_residual.result _ c.from_residual.ensures.0

pub loop-link-preserved : goal.loop-link-preserved
loop-link-preserved c =
    word_more (name_at c.args.net.now.link_names) c.args.links.now c.loop-link.link-index c.link-item.result c.loop-link.text.items _ _
    (slice_get_read c.args.links.now (length c.args.links.now) c.loop-link.link-index c.link-item.result refl c.loop-link-test.true c.link-item.is)
    c.loop-link.invariant (c.in_ok-push_word.ensures ∙ ap (λ (w : List ℕ). c.loop-link.text.items ++ 32 ∷ w) c.link_word.ensures)

pub returns : goal.returns
returns c =
    let end : length c.args.links.now ≤ c.loop-link.link-index = omega arith in
    word_ends (name_at c.args.net.now.link_names) c.args.links.now c.loop-link.link-index c.loop-link.text.items _ end c.loop-link.invariant
