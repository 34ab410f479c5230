use Rattle.std.proofs.Common.{[], ◌∷◌, ◌++◌, map, refl, sym, ◌∙◌, append_assoc}
use Rattle.nf_report_pages.proofs.Common.{after_words}
use Rattle.nf_report_pages.proofs.Parts.{line_joined}
use Rattle.nf_report_pages.proofs.Gathering.{gathered_both, gathered_front}
use Rattle.nf_report_pages.proofs.line.put_line.Goals as goal

pub returns-in_err-put : goal.returns-in_err-put
returns-in_err-put g c =
    gathered_front (after_words (map (λ w. w.now) c.args.words.now) ++ 10 ∷ []) _ _
    (sym (append_assoc c.args.first.now (after_words (map (λ w. w.now) c.args.words.now)) (10 ∷ [])) ∙ line_joined c.args.first.now (map (λ w. w.now) c.args.words.now))
    c.from_residual.ensures.0 c.in_err-put.ensures

pub returns-in_err-put_words : goal.returns-in_err-put_words
returns-in_err-put_words g c =
    gathered_front (10 ∷ []) _ _ (line_joined c.args.first.now (map (λ w. w.now) c.args.words.now)) c.from_residual-in_err-put_words.ensures.0
    (gathered_both _ refl c.in_ok-put.ensures c.in_err-put_words.ensures)

pub returns : goal.returns
returns g c = gathered_both _ (line_joined c.args.first.now (map (λ w. w.now) c.args.words.now)) (gathered_both _ refl c.in_ok-put.ensures c.in_ok-put_words.ensures) c.put_byte.ensures
