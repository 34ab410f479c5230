use Rattle.std.proofs.Common.{◌≡◌, ◌<◌, length, List, ℕ, ◌∙◌, arith, codes}
use Rattle.nf_report_pages.proofs.Common.{ℚ, seen_flow, name_at, point_lines, label_lines}
use mathlib.Core.Path.{ap₂}
use Rattle.nf_report_pages.proofs.Parts.{points_there}
use Rattle.nf_report_pages.proofs.Gathering.{same_gathered}
use Rattle.nf_report_pages.proofs.flow.put_label.Goals as goal

pub returns : goal.returns
returns g c =
    let name : c.as_bytes-name.result.now ≡ name_at c.args.net.now.node_names c.args.node = c.as_bytes-name.ensures.value ∙ c.node_name.ensures in
    let below : c.args.node < length c.args.flow.now.labels.items = omega arith in
    same_gathered (point_lines (codes "label") c.as_bytes-name.result.now c.index-label.result.now.points) (label_lines c.args.net.now (seen_flow c.args.flow.now) c.args.node)
    (ap₂ (λ (m : List ℕ) (points : List (ℚ × ℚ)). point_lines (codes "label") m points) name (points_there c.args.flow.now.labels.items c.args.node c.index-label.result.now c.index-label.ensures below))
    c.put_curve.ensures
