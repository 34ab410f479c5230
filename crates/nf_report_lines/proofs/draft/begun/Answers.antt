use Rattle.std.proofs.Common.{[], ◌∷◌, sym, ap, ◌∙◌}
use Rattle.nf_report_lines.proofs.Common.{ℚ}
use Rattle.nf_report_lines.proofs.LastPoints.{starts_at_0}
use Rattle.nf_report_lines.proofs.draft.begun.Goals as goal

pub returns-clause-points : goal.returns-clause-points
returns-clause-points c =
    c.in_ok-curve.ensures ∙ ap (λ (t : ℚ). (t, c.args.point.now.value) ∷ []) (sym (starts_at_0 c.args.point.now.time c.requires))
