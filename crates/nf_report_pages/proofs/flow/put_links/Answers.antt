use Rattle.std.proofs.Common.{◌≡◌, ◌+◌, ◌<◌, take, drop, suc, length, arith, flat_map}
use Rattle.nf_report_pages.proofs.Common.{range_with_len, seen_flow, link_lines, for_each}
use Rattle.nf_report_pages.proofs.Parts.{each_next, each_left, each_all}
use Rattle.nf_report_pages.proofs.Gathering.{gathered_nil, gathered_next, gathered_then_failed, same_gathered}
use Rattle.nf_report_pages.proofs.flow.put_links.Goals as goal

pub loop-link-init : goal.loop-link-init
loop-link-init g c = gathered_nil

pub loop-link-preserved : goal.loop-link-preserved
loop-link-preserved g c =
    let i = c.loop-link.link in
    let n = length c.args.net.now.net.links in
    let below : i < n = omega arith in
    gathered_next (flat_map (link_lines c.args.net.now (seen_flow c.args.flow.now)) (take i (range_with_len 0 n)))
    ((link_lines c.args.net.now (seen_flow c.args.flow.now)) i) (flat_map (link_lines c.args.net.now (seen_flow c.args.flow.now))
    (take (i + 1) (range_with_len 0 n)))
    (each_next n (link_lines c.args.net.now (seen_flow c.args.flow.now)) i below) c.loop-link.invariant c.in_ok-put_curves.ensures

pub returns-in_err-put_curves : goal.returns-in_err-put_curves
returns-in_err-put_curves g c =
    let i = c.loop-link.link in
    let n = length c.args.net.now.net.links in
    let below : i < n = omega arith in
    gathered_then_failed (flat_map (link_lines c.args.net.now (seen_flow c.args.flow.now)) (take i (range_with_len 0 n)))
    ((link_lines c.args.net.now (seen_flow c.args.flow.now)) i) (flat_map (link_lines c.args.net.now (seen_flow c.args.flow.now))
    (drop (suc i) (range_with_len 0 n)))
    (for_each n (link_lines c.args.net.now (seen_flow c.args.flow.now))) _ (each_left n (link_lines c.args.net.now (seen_flow c.args.flow.now)) i below)
    c.from_residual.ensures.0 c.loop-link.invariant c.in_err-put_curves.ensures

pub returns : goal.returns
returns g c =
    let i = c.loop-link.link in
    let n = length c.args.net.now.net.links in
    let end : i ≡ n = omega arith in
    same_gathered (flat_map (link_lines c.args.net.now (seen_flow c.args.flow.now)) (take i (range_with_len 0 n)))
    (for_each n (link_lines c.args.net.now (seen_flow c.args.flow.now))) (each_all n (link_lines c.args.net.now (seen_flow c.args.flow.now)) i end)
    c.loop-link.invariant
