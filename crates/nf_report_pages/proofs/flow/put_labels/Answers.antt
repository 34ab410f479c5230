use Rattle.std.proofs.Common.{◌≡◌, ◌+◌, ◌<◌, take, drop, suc, arith, flat_map}
use Rattle.nf_report_pages.proofs.Common.{range_with_len, seen_flow, label_lines, for_each}
use Rattle.nf_report_pages.proofs.Parts.{each_next, each_left, each_all}
use Rattle.nf_report_pages.proofs.Gathering.{gathered_nil, gathered_next, gathered_then_failed, same_gathered}
use Rattle.nf_report_pages.proofs.flow.put_labels.Goals as goal

pub loop-node-init : goal.loop-node-init
loop-node-init g c = gathered_nil

pub loop-node-preserved : goal.loop-node-preserved
loop-node-preserved g c =
    let i = c.loop-node.node in
    let n = c.args.net.now.net.nodes in
    let below : i < n = omega arith in
    gathered_next (flat_map (label_lines c.args.net.now (seen_flow c.args.flow.now)) (take i (range_with_len 0 n)))
    ((label_lines c.args.net.now (seen_flow c.args.flow.now)) i) (flat_map (label_lines c.args.net.now (seen_flow c.args.flow.now))
    (take (i + 1) (range_with_len 0 n)))
    (each_next n (label_lines c.args.net.now (seen_flow c.args.flow.now)) i below) c.loop-node.invariant c.in_ok-put_label.ensures

pub returns-in_err-put_label : goal.returns-in_err-put_label
returns-in_err-put_label g c =
    let i = c.loop-node.node in
    let n = c.args.net.now.net.nodes in
    let below : i < n = omega arith in
    gathered_then_failed (flat_map (label_lines c.args.net.now (seen_flow c.args.flow.now)) (take i (range_with_len 0 n)))
    ((label_lines c.args.net.now (seen_flow c.args.flow.now)) i) (flat_map (label_lines c.args.net.now (seen_flow c.args.flow.now))
    (drop (suc i) (range_with_len 0 n)))
    (for_each n (label_lines c.args.net.now (seen_flow c.args.flow.now))) _
    (each_left n (label_lines c.args.net.now (seen_flow c.args.flow.now)) i below) c.from_residual.ensures.0 c.loop-node.invariant
    c.in_err-put_label.ensures

pub returns : goal.returns
returns g c =
    let i = c.loop-node.node in
    let n = c.args.net.now.net.nodes in
    let end : i ≡ n = omega arith in
    same_gathered (flat_map (label_lines c.args.net.now (seen_flow c.args.flow.now)) (take i (range_with_len 0 n)))
    (for_each n (label_lines c.args.net.now (seen_flow c.args.flow.now)))
    (each_all n (label_lines c.args.net.now (seen_flow c.args.flow.now)) i end) c.loop-node.invariant
