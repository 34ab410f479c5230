use Rattle.std.proofs.Common.{ℕ, List, ◌∷◌, ◌++◌, map, ap, ◌∙◌, codes}
use Rattle.nf_app_answers.proofs.Common.{IfOk-from_err, line_of_words, printed, Fed, name_at, walk_line}
use Rattle.nf_app_answers.proofs.QuickLines.{line_put}
use Rattle.nf_app_answers.proofs.quick_text.put_walk.Goals as goal

pub returns-in_err-push_bytes : goal.returns-in_err-push_bytes
returns-in_err-push_bytes c = IfOk-from_err c.from_residual.result _ c.from_residual.ensures.0

pub returns-in_err-put_number : goal.returns-in_err-put_number
returns-in_err-put_number c = IfOk-from_err c.from_residual-in_err-put_number.result _ c.from_residual-in_err-put_number.ensures.0

pub returns-in_err-put_links : goal.returns-in_err-put_links
returns-in_err-put_links c = IfOk-from_err c.from_residual-in_err-put_links.result _ c.from_residual-in_err-put_links.ensures.0

pub returns-in_err-push_bytes-2 : goal.returns-in_err-push_bytes-2
returns-in_err-push_bytes-2 c = IfOk-from_err c.from_residual-in_err-push_bytes-2.result _ c.from_residual-in_err-push_bytes-2.ensures.0

pub returns : goal.returns
returns c =
    line_put _ _ _ _ _ (codes "walk") (printed c.walk.inside.rate) (map (name_at c.args.net.now.link_names) c.deref.result.now)
    c.in_ok-push_bytes.ensures c.in_ok-put_number.ensures c.in_ok-put_links.ensures c.in_ok-push_bytes-2.ensures
    ∙ ap (λ (l : List ℕ). c.args.text.now.items ++ line_of_words (codes "walk" ∷ printed c.walk.inside.rate ∷ map (name_at c.args.net.now.link_names) l)) c.deref.ensures.value
    ∙ ap (λ (f : Fed). c.args.text.now.items ++ walk_line c.args.net.now.link_names f) c.walk.view_is
