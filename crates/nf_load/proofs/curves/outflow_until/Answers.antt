use Rattle.std.proofs.Common.{◌≡◌, ℕ, ◌-◌, ap, ◌∙◌, Ok}
use Rattle.nf_load.proofs.Common.{Load, passes_Q, checked_cut, was_ok}
use Rattle.nf_load.proofs.Outflows.{cut_slopes}
use Rattle.nf_load.proofs.curves.outflow_until.Goals as goal

pub returns-clause-slopes : goal.returns-clause-slopes
returns-clause-slopes c =
    let cut : checked_cut passes_Q c.in_ok-points.field-0.points.items c.args.end ≡ Ok c.in_ok-curve.curve.points =
    was_ok Load (checked_cut passes_Q c.in_ok-points.field-0.points.items c.args.end) c.in_ok-curve.curve.points (rw c.of_points-whole.ensures at c.in_ok-curve.ensures.list) in
    cut_slopes c.in_ok-points.field-0.points.items c.in_ok-points.field-0.slopes.items c.truncate.new.self.items c.args.end c.in_ok-curve.curve.points
    c.saturating_sub.result cut c.in_ok-points.ensures.slopes
    (c.saturating_sub.ensures ∙ ap (λ (k : ℕ). k - 2) c.len.ensures.count) c.truncate.ensures.items
