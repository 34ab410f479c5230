use Rattle.std.proofs.Common.{◌≡◌, ◌+◌, ◌<◌, [], ◌∷◌, take, drop, suc, length, arith, codes}
use Rattle.nf_report_pages.proofs.Common.{name_at, never_lines}
use Rattle.nf_report_pages.proofs.Parts.{never_next, never_left, never_all}
use Rattle.nf_report_pages.proofs.Gathering.{gathered_nil, gathered_next, gathered_then_failed, same_gathered}
use Rattle.nf_report_pages.proofs.flow.put_idle.Goals as goal

pub loop-node-init : goal.loop-node-init
loop-node-init g c = gathered_nil

pub loop-node-preserved : goal.loop-node-preserved
loop-node-preserved g c =
    let i = c.loop-node.node in
    let names = c.args.net.now.idle_nodes in
    let below : i < length names = omega arith in
    gathered_next (never_lines (take i names)) ((codes "never" ∷ name_at names i ∷ []) ∷ []) (never_lines (take (i + 1) names)) (never_next names i below)
    c.loop-node.invariant c.in_ok-put_never.ensures

pub returns-in_err-put_never : goal.returns-in_err-put_never
returns-in_err-put_never g c =
    let i = c.loop-node.node in
    let names = c.args.net.now.idle_nodes in
    let below : i < length names = omega arith in
    gathered_then_failed (never_lines (take i names)) ((codes "never" ∷ name_at names i ∷ []) ∷ []) (never_lines (drop (suc i) names)) (never_lines names) _
    (never_left names i below) c.from_residual.ensures.0 c.loop-node.invariant c.in_err-put_never.ensures

pub returns : goal.returns
returns g c =
    let i = c.loop-node.node in
    let names = c.args.net.now.idle_nodes in
    let end : i ≡ length names = omega arith in
    same_gathered (never_lines (take i names)) (never_lines names) (never_all names i end) c.loop-node.invariant
