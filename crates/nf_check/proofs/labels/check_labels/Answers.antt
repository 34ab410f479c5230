use Rattle.std.proofs.Common.{◌≡◌, ◌+◌, ◌<◌, ◌≤◌, List, length, take, refl, ap, ◌∙◌, arith, Ok}
use Rattle.nf_check.proofs.Common.{take_all, length-map, err_from_is_err_and, passes_Q, Point, points_at, label_cut, Grown, seen_flow, points_of_each}
use Rattle.nf_check.proofs.Common.{curves_more, kept_first, kept_ends, kept_goes, kept_last, link_there}
use Rattle.nf_check.proofs.labels.check_labels.Goals as goal

pub loop-number-init : goal.loop-number-init
loop-number-init c = kept_first (label_cut passes_Q c.args.net.now.net (seen_flow c.args.flow.now)) c.args.net.now.net.nodes (take 0 (points_of_each c.args.flow.now.labels.items)) refl

pub returns-in_err-check_label : goal.returns-in_err-check_label
returns-in_err-check_label c =
    let p = err_from_is_err_and c.from_residual.result c.from_residual.ensures.1 in
    let inside : c.loop-number.number < c.args.net.now.net.nodes = omega arith in
    rw (p.1, p.2) (kept_ends (label_cut passes_Q c.args.net.now.net (seen_flow c.args.flow.now)) c.args.net.now.net.nodes c.loop-number.number
    (take c.loop-number.number (points_of_each c.args.flow.now.labels.items)) c.loop-number.invariant inside c.in_err-check_label.field-0.0
    (c.in_err-check_label.ensures c.args.net.now.net))

pub loop-number-preserved : goal.loop-number-preserved
loop-number-preserved c =
    let inside : c.loop-number.number < c.args.net.now.net.nodes = omega arith in
    let within : c.loop-number.number < length c.args.flow.now.labels.items = omega (arith, c.requires.labels, inside) in
    let there = link_there c.args.flow.now.labels.items c.loop-number.number within in
    kept_goes (label_cut passes_Q c.args.net.now.net (seen_flow c.args.flow.now)) c.args.net.now.net.nodes c.loop-number.number
    (take c.loop-number.number (points_of_each c.args.flow.now.labels.items)) c.loop-number.invariant inside
    (points_at (points_of_each c.args.flow.now.labels.items) c.loop-number.number) (take (c.loop-number.number + 1) (points_of_each c.args.flow.now.labels.items))
    (c.in_ok-check_label.ensures c.args.net.now.net)
    (curves_more c.args.flow.now.labels.items c.loop-number.number there.link there.is)

pub returns : goal.returns
returns c =
    let past : c.args.net.now.net.nodes ≤ c.loop-number.number = omega arith in
    let whole : take c.loop-number.number (points_of_each c.args.flow.now.labels.items) ≡ points_of_each c.args.flow.now.labels.items =
    take_all c.loop-number.number (points_of_each c.args.flow.now.labels.items) (omega (arith, length-map c.args.flow.now.labels.items (λ (g : Grown). g.points), c.requires.labels, past)) in
    kept_last (label_cut passes_Q c.args.net.now.net (seen_flow c.args.flow.now)) c.args.net.now.net.nodes c.loop-number.number
    (take c.loop-number.number (points_of_each c.args.flow.now.labels.items)) c.loop-number.invariant past
    ∙ ap (λ (l : List (List Point)). Ok l) whole
