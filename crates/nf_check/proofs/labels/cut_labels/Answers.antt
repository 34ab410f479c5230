use Rattle.std.proofs.Common.{◌<◌, ◌≤◌, List, ap, ◌∙◌, arith}
use Rattle.nf_check.proofs.Common.{map-append, err_from_is_err_and, passes_Q, label_cut, Grown, seen_flow, points_of_each, kept_first, kept_ends, kept_goes}
use Rattle.nf_check.proofs.Common.{kept_last}
use Rattle.nf_check.proofs.labels.cut_labels.Goals as goal

pub loop-number-init : goal.loop-number-init
loop-number-init c =
    kept_first (label_cut passes_Q c.args.net.now.net (seen_flow c.args.flow.now)) c.args.net.now.net.nodes (points_of_each c.in_ok-labels.labels.items)
    (ap (λ (l : List Grown). points_of_each l) c.in_ok-labels.ensures.items)

pub returns-in_err-cut : goal.returns-in_err-cut
returns-in_err-cut c =
    let p = err_from_is_err_and c.from_residual-in_err-cut.result c.from_residual-in_err-cut.ensures.1 in
    let inside : c.loop-number.number < c.args.net.now.net.nodes = omega arith in
    rw (p.1, p.2) (kept_ends (label_cut passes_Q c.args.net.now.net (seen_flow c.args.flow.now)) c.args.net.now.net.nodes c.loop-number.number
    (points_of_each c.loop-number.labels.items) c.loop-number.invariant inside c.in_err-cut.field-0.0 (c.in_err-cut.ensures c.args.net.now.net))

pub loop-number-preserved : goal.loop-number-preserved
loop-number-preserved c =
    let inside : c.loop-number.number < c.args.net.now.net.nodes = omega arith in
    kept_goes (label_cut passes_Q c.args.net.now.net (seen_flow c.args.flow.now)) c.args.net.now.net.nodes c.loop-number.number
    (points_of_each c.loop-number.labels.items) c.loop-number.invariant inside c.in_ok-cut.cut.points (points_of_each c.push.new.self.items)
    (c.in_ok-cut.ensures c.args.net.now.net)
    (ap (λ (l : List Grown). points_of_each l) c.in_ok-push.ensures.items ∙ map-append (λ (g : Grown). g.points) c.loop-number.labels.items _)

pub returns : goal.returns
returns c =
    let past : c.args.net.now.net.nodes ≤ c.loop-number.number = omega arith in
    kept_last (label_cut passes_Q c.args.net.now.net (seen_flow c.args.flow.now)) c.args.net.now.net.nodes c.loop-number.number
    (points_of_each c.loop-number.labels.items) c.loop-number.invariant past
