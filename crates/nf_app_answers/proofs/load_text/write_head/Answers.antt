use Rattle.std.proofs.Common.{ℕ, List, [], ◌∷◌, refl, ap, ◌∙◌, codes}
use Rattle.nf_app_answers.proofs.Common.{printed, wrote_next, wrote_failed, same_lines}
use Rattle.nf_app_answers.proofs.load_text.write_head.Goals as goal

pub returns-in_err-write_line : goal.returns-in_err-write_line
returns-in_err-write_line g c =
    wrote_failed ((c.args.key.now ∷ codes "1" ∷ []) ∷ []) ((codes "horizon" ∷ printed c.args.horizon ∷ []) ∷ [])
    ((c.args.key.now ∷ codes "1" ∷ []) ∷ (codes "horizon" ∷ printed c.args.horizon ∷ []) ∷ []) c.from_residual.result refl c.from_residual.ensures.0 c.in_err-write_line.ensures

pub returns : goal.returns
returns g c =
    wrote_next ((c.args.key.now ∷ codes "1" ∷ []) ∷ []) ((codes "horizon" ∷ printed c.args.horizon ∷ []) ∷ [])
    ((c.args.key.now ∷ codes "1" ∷ []) ∷ (codes "horizon" ∷ printed c.args.horizon ∷ []) ∷ []) refl c.in_ok-write_line.ensures
    (same_lines ((codes "horizon" ∷ c.text.result.now ∷ []) ∷ []) ((codes "horizon" ∷ printed c.args.horizon ∷ []) ∷ [])
    (ap (λ (word : List ℕ). (codes "horizon" ∷ word ∷ []) ∷ []) (c.text.ensures ∙ c.write.ensures.text)) c.write_line-2.ensures)
