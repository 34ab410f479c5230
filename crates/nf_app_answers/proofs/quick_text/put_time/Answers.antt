use Rattle.std.proofs.Common.{ℕ, List, [], ◌∷◌, ◌++◌, sym, ap, ◌∙◌, append-nil, codes}
use Rattle.nf_app_answers.proofs.Common.{IfOk-from_err, printed, name_at}
use Rattle.nf_app_answers.proofs.QuickLines.{line_put}
use Rattle.nf_app_answers.proofs.quick_text.put_time.Goals as goal

pub returns-in_err-push_bytes : goal.returns-in_err-push_bytes
returns-in_err-push_bytes c = IfOk-from_err c.from_residual.result _ c.from_residual.ensures.0

pub returns-in_err-push_word : goal.returns-in_err-push_word
returns-in_err-push_word c = IfOk-from_err c.from_residual-in_err-push_word.result _ c.from_residual-in_err-push_word.ensures.0

pub returns-in_err-put_number : goal.returns-in_err-put_number
returns-in_err-put_number c = IfOk-from_err c.from_residual-in_err-put_number.result _ c.from_residual-in_err-put_number.ensures.0

pub returns-in_err-push_bytes-2 : goal.returns-in_err-push_bytes-2
returns-in_err-push_bytes-2 c = IfOk-from_err c.from_residual-in_err-push_bytes-2.result _ c.from_residual-in_err-push_bytes-2.ensures.0

pub returns : goal.returns
returns c =
    line_put _ _ _ _ _ (codes "cut") (name_at c.args.net.now.node_names c.args.node) (printed c.args.time ∷ []) c.in_ok-push_bytes.ensures
    (c.in_ok-push_word.ensures ∙ ap (λ (w : List ℕ). c.push_bytes.new.text.items ++ 32 ∷ w) (c.as_bytes.ensures.value ∙ c.node_name.ensures))
    (c.in_ok-put_number.ensures ∙ ap (λ (l : List ℕ). c.push_word.new.text.items ++ l) (sym (append-nil (32 ∷ printed c.args.time)))) c.in_ok-push_bytes-2.ensures
