use Rattle.std.proofs.Common.{◌≡◌, List, refl, sym, ap, ◌∙◌, Ok}
use Rattle.nf_check.proofs.Common.{passes_Q, points_at, seen_flow, Grown, C1, Node, negative_point, unless, label_cut, points_of_each, tries_as, tries_map}
use Rattle.nf_check.proofs.Common.{label_cut_whole}
use Rattle.nf_check.proofs.labels.check_label.Goals as goal

pub returns : goal.returns
returns c = λ net.
    let label = points_at (seen_flow c.args.flow.now).labels c.args.node in
    let label_is : c.curve_at-label.result.now.points ≡ label =
    c.curve_at-label.ensures ∙ ap (λ (l : List Grown). points_at (points_of_each l) c.index.result) c.deref.ensures.value ∙ ap (points_at (seen_flow c.args.flow.now).labels) c.index.ensures in
    let tested = rw (c.negative_point.ensures, label_is) at c.unless.ensures in
    tries_as (λ _. label) c.unless.result (label_cut passes_Q net (seen_flow c.args.flow.now) c.args.node) _
    (label_cut_whole passes_Q net (seen_flow c.args.flow.now) c.args.node label refl (c.requires.whole c.args.node c.requires.node))
    (tries_map (λ _. tt) (λ _. label) c.unless.result (unless C1 (Node c.args.node) (negative_point label)) tested)
