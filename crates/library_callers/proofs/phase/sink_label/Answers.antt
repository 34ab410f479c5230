use Rattle.std.proofs.Common.{◌≡◌, ℕ, ◌<◌, List, length, IfOk, subst, arith, ◌∙◌}
use Rattle.nf_model.specs.Curve.{Point, value}
use Rattle.nf_model.specs.Equilibrium.{label}
use Rattle.nf_curve.specs.Flows.{seen_flow}
use Rattle.nf_report_pages.proofs.Parts.{points_there}
use Rattle.library_callers.proofs.phase.sink_label.Goals as goal

pub returns : goal.returns
returns c =
    let flow = c.args.flow.now in
    let place = c.index-place.result in
    let below : place < length flow.labels.items = omega arith in
    let same : place ≡ c.args.net.now.net.sink = c.index-place.ensures ∙ c.sink.ensures.value in
    let there = points_there flow.labels.items place c.index-curve.result.now c.index-curve.ensures below in
    let here = subst (λ (points : List Point). IfOk c.value.result (λ time. time ≡ value points c.args.departure)) there c.value.ensures.value in
    subst (λ (v : ℕ). IfOk c.value.result (λ time. time ≡ label (seen_flow flow) v c.args.departure)) same here
