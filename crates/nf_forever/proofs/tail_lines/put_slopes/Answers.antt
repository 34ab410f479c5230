use Rattle.std.proofs.Common.{◌≡◌, ◌+◌, ◌<◌, ℕ, List, take, drop, suc, arith, flat_map}
use Rattle.nf_forever.proofs.Common.{range_with_len, for_each, Line, each_next, each_left, each_all, gathered_nil, gathered_next, gathered_then_failed}
use Rattle.nf_forever.proofs.Common.{same_gathered, slope_line, tail_in}
use Rattle.nf_forever.proofs.tail_lines.put_slopes.Goals as goal

pub loop-node-init : goal.loop-node-init
loop-node-init g c = gathered_nil

pub loop-node-preserved : goal.loop-node-preserved
loop-node-preserved g c =
    let i = c.loop-node.node in
    let n = c.args.net.now.net.nodes in
    let lines_of : ℕ → List Line = slope_line c.args.net.now (tail_in c.args.tail.now) in
    let below : i < n = omega arith in
    gathered_next (flat_map lines_of (take i (range_with_len 0 n))) (lines_of i) (flat_map lines_of (take (i + 1) (range_with_len 0 n)))
    (each_next n lines_of i below) c.loop-node.invariant c.in_ok-put_slope.ensures

pub returns-in_err-put_slope : goal.returns-in_err-put_slope
returns-in_err-put_slope g c =
    let i = c.loop-node.node in
    let n = c.args.net.now.net.nodes in
    let lines_of : ℕ → List Line = slope_line c.args.net.now (tail_in c.args.tail.now) in
    let below : i < n = omega arith in
    gathered_then_failed (flat_map lines_of (take i (range_with_len 0 n))) (lines_of i) (flat_map lines_of (drop (suc i) (range_with_len 0 n)))
    (for_each n lines_of) _ (each_left n lines_of i below) c.from_residual.ensures.0 c.loop-node.invariant c.in_err-put_slope.ensures

pub returns : goal.returns
returns g c =
    let i = c.loop-node.node in
    let n = c.args.net.now.net.nodes in
    let lines_of : ℕ → List Line = slope_line c.args.net.now (tail_in c.args.tail.now) in
    let end : i ≡ n = omega arith in
    same_gathered (flat_map lines_of (take i (range_with_len 0 n))) (for_each n lines_of) (each_all n lines_of i end) c.loop-node.invariant
