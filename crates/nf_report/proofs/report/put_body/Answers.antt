use Rattle.std.proofs.Common.{List, [], ◌∷◌, ◌++◌, length, refl}
use Rattle.std.specs.Prelude.{codes}
use Rattle.nf_net_def.specs.Report.{for_each, state_lines}
use Rattle.nf_curve.specs.Flows.{seen_flow}
use Rattle.nf_report_pages.specs.Written.{Line, flow_lines}
use Rattle.nf_report_pages.proofs.Gathering.{gathered_next, gathered_failed, gathered_then_failed, right_first}
use Rattle.nf_report.proofs.report.put_body.Goals as goal

abbrev end : List Line
end = (codes "end" ∷ []) ∷ []

pub returns-in_err-put_flow : goal.returns-in_err-put_flow
returns-in_err-put_flow g c =
    let flow : List Line = flow_lines c.args.net.now (seen_flow c.args.flow.now) in
    let states : List Line = for_each (length c.args.net.now.net.links) (state_lines c.args.net.now c.args.last.now) in
    gathered_failed flow (states ++ end) (flow ++ states ++ end) _ (right_first flow states end) c.from_residual.ensures.0 c.in_err-put_flow.ensures

pub returns-in_err-put_states : goal.returns-in_err-put_states
returns-in_err-put_states g c =
    let flow : List Line = flow_lines c.args.net.now (seen_flow c.args.flow.now) in
    let states : List Line = for_each (length c.args.net.now.net.links) (state_lines c.args.net.now c.args.last.now) in
    gathered_then_failed flow states end (flow ++ states ++ end) _ refl c.from_residual-in_err-put_states.ensures.0 c.in_ok-put_flow.ensures c.in_err-put_states.ensures

pub returns : goal.returns
returns g c =
    let flow : List Line = flow_lines c.args.net.now (seen_flow c.args.flow.now) in
    let states : List Line = for_each (length c.args.net.now.net.links) (state_lines c.args.net.now c.args.last.now) in
    gathered_next (flow ++ states) end (flow ++ states ++ end) refl (gathered_next flow states
    (flow ++ states) refl c.in_ok-put_flow.ensures c.in_ok-put_states.ensures) c.put_line.ensures
