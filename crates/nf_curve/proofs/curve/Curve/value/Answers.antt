use Rattle.std.proofs.Common.{◌≡◌, List, ap, ◌∙◌}
use Rattle.nf_curve.proofs.Common.{ℚ, passes_Q, at_part, value, checked_value, checked_value-is}
use Rattle.nf_curve.proofs.Exits.{if_ok}
use Rattle.nf_curve.proofs.Points.{points_seen, curve_seen}
use Rattle.nf_curve.proofs.curve.Curve.value.Goals as goal

pub returns-clause-value : goal.returns-clause-value
returns-clause-value c =
    let curve = curve_seen _ _ _ c.self.invariant c.self.view_is in
    if_ok c.args.part c.value_at.result (checked_value passes_Q c.args.self.now.points c.args.time) (λ y. y ≡ value c.args.self.now.points c.args.time)
    (c.value_at.ensures ∙ ap (λ (l : List (ℚ × ℚ)). at_part c.args.part (checked_value passes_Q l c.args.time)) (points_seen _ _ _ _ c.deref-2.ensures.value c.self.view_is))
    (λ y e. checked_value-is passes_Q c.args.self.now.points c.args.time y curve c.requires e)
