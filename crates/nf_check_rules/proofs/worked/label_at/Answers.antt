use Rattle.std.proofs.Common.{ℕ, ◌<◌, List, sym, ap, subst, ◌∙◌}
use Rattle.nf_check_rules.proofs.Common.{AllByRecursion, 0ℚ, ◌≤ℚ◌, Point, points_at, points_of_each}
use Rattle.nf_check_rules.proofs.Known.{all_points, below_as}
use Rattle.nf_check_rules.proofs.worked.label_at.Goals as goal

pub curve_at-label-requires : goal.curve_at-label-requires
curve_at-label-requires c = below_as _ c.args.node _ c.index.ensures (subst (λ (n : ℕ). c.args.node < n) (sym c.args.worked.now.known.nodes) c.requires)

pub returns-clause-points : goal.returns-clause-points
returns-clause-points c = c.curve_at-label.ensures ∙ ap (points_at (points_of_each c.args.worked.now.labels.now)) c.index.ensures

pub returns-clause-from_zero : goal.returns-clause-from_zero
returns-clause-from_zero c =
    let is = c.curve_at-label.ensures ∙ ap (points_at (points_of_each c.args.worked.now.labels.now)) c.index.ensures in
    record {
      curve = c.recall.ensures.curve;
      none_negative = subst (λ (l : List Point). AllByRecursion (λ q. 0ℚ ≤ℚ q.1) l) (sym is) (all_points _ (c.args.worked.now.known.labels c.args.node c.requires));
    }
