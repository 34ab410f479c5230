use Rattle.std.proofs.Common.{ℕ, List, [], ◌∷◌, sym, ap, ◌∙◌, append-nil, codes, flat_map, Some}
use Rattle.nf_app_answers.proofs.Common.{line_of_words, cause_words, arrival_text}
use Rattle.nf_app_answers.proofs.ErrorTexts.{same_text}
use Rattle.nf_app_answers.proofs.QuickLines.{stopped_put}
use Rattle.nf_app_answers.proofs.quick_text.write_arrival.Goals as goal

pub returns-in-Never : goal.returns-in-Never
returns-in-Never g c = same_text _ _
    (append-nil (line_of_words (codes "equilibrium" ∷ codes "none" ∷ [])) ∙ sym (ap arrival_text c.in-Never.is)) c.write_line.ensures

pub returns-in-At : goal.returns-in-At
returns-in-At g c =
    same_text (flat_map line_of_words ((codes "equilibrium" ∷ c.text.result.now ∷ []) ∷ [])) (arrival_text c.args.arrival.now)
    (append-nil (line_of_words (codes "equilibrium" ∷ c.text.result.now ∷ []))
    ∙ ap (λ (w : List ℕ). line_of_words (codes "equilibrium" ∷ w ∷ [])) (c.text.ensures ∙ c.write.ensures.text)
    ∙ sym (ap arrival_text c.in-At.is)) c.write_line-in-At.ensures

pub returns-in-Stopped : goal.returns-in-Stopped
returns-in-Stopped g c =
    same_text _ _ (stopped_put (cause_words (Some c.in-Stopped.stop)) ∙ sym (ap arrival_text c.in-Stopped.is)) c.write_stop.ensures
