use Rattle.std.proofs.Common.{◌≡◌, ◌+◌, ◌<◌, take, drop, suc, length, arith, flat_map}
use Rattle.nf_report_pages.proofs.Common.{range_with_len, state_lines, for_each}
use Rattle.nf_report_pages.proofs.Parts.{each_next, each_left, each_all}
use Rattle.nf_report_pages.proofs.Gathering.{gathered_nil, gathered_next, gathered_then_failed, same_gathered}
use Rattle.nf_report_pages.proofs.flow.put_states.Goals as goal

pub loop-link-init : goal.loop-link-init
loop-link-init g c = gathered_nil

pub loop-link-preserved : goal.loop-link-preserved
loop-link-preserved g c =
    let i = c.loop-link.link in
    let n = length c.args.net.now.net.links in
    let below : i < n = omega arith in
    gathered_next (flat_map (state_lines c.args.net.now c.args.last.now) (take i (range_with_len 0 n))) ((state_lines c.args.net.now c.args.last.now) i)
    (flat_map (state_lines c.args.net.now c.args.last.now) (take (i + 1) (range_with_len 0 n)))
    (each_next n (state_lines c.args.net.now c.args.last.now) i below) c.loop-link.invariant c.in_ok-put_state_of.ensures

pub returns-in_err-put_state_of : goal.returns-in_err-put_state_of
returns-in_err-put_state_of g c =
    let i = c.loop-link.link in
    let n = length c.args.net.now.net.links in
    let below : i < n = omega arith in
    gathered_then_failed (flat_map (state_lines c.args.net.now c.args.last.now) (take i (range_with_len 0 n)))
    ((state_lines c.args.net.now c.args.last.now) i) (flat_map (state_lines c.args.net.now c.args.last.now) (drop (suc i) (range_with_len 0 n)))
    (for_each n (state_lines c.args.net.now c.args.last.now)) _ (each_left n (state_lines c.args.net.now c.args.last.now) i below) c.from_residual.ensures.0
    c.loop-link.invariant c.in_err-put_state_of.ensures

pub returns : goal.returns
returns g c =
    let i = c.loop-link.link in
    let n = length c.args.net.now.net.links in
    let end : i ≡ n = omega arith in
    same_gathered (flat_map (state_lines c.args.net.now c.args.last.now) (take i (range_with_len 0 n)))
    (for_each n (state_lines c.args.net.now c.args.last.now)) (each_all n (state_lines c.args.net.now c.args.last.now) i end) c.loop-link.invariant
