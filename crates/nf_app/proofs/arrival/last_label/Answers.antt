use Rattle.std.proofs.Common.{◌≡◌, ℕ, ◌-◌, ◌<◌, List, length, subst, sym, Some, slice_get}
use Rattle.nf_app.proofs.Common.{Point, points_at, seen_flow}
use Rattle.nf_report_pages.proofs.Parts.{points_there}
use Rattle.nf_app.proofs.arrival.last_label.Goals as goal

pub returns : goal.returns
returns c =
    let below = subst (λ (i : ℕ). i < length c.args.flow.now.labels.items) (sym c.index-place.ensures) c.requires in
    let here = subst (λ (l : List Point). slice_get l (length l - 1) ≡ Some c.last_point.result)
    (points_there c.args.flow.now.labels.items c.index-place.result c.index-label.result.now c.index-label.ensures below) c.last_point.ensures in
    subst (λ (i : ℕ). slice_get (points_at (seen_flow c.args.flow.now).labels i)
    (length (points_at (seen_flow c.args.flow.now).labels i) - 1) ≡ Some c.last_point.result) c.index-place.ensures here
