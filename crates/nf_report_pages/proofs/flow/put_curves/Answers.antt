use Rattle.std.proofs.Common.{◌≡◌, ◌<◌, ◌++◌, length, List, ℕ, ◌∙◌, arith, codes}
use Rattle.nf_report_pages.proofs.Common.{ℚ, seen_flow, seen_trace, name_at, point_lines, trace_lines, link_lines, Line}
use Rattle.nf_model.specs.Equilibrium as model
use Rattle.nf_report_pages.proofs.Parts.{points_there, trace_there, same_link}
use Rattle.nf_report_pages.proofs.Gathering.{same_gathered}
use Rattle.nf_report_pages.proofs.flow.put_curves.Goals as goal

abbrev lines_of : List ℕ → model.Trace → model.Trace → List (ℚ × ℚ) → List Line
lines_of name inflow outflow queue = trace_lines (codes "inflow") name inflow.points inflow.rates ++ trace_lines (codes "outflow") name outflow.points outflow.rates
    ++ point_lines (codes "queue") name queue

pub returns : goal.returns
returns g c =
    let name : c.as_bytes-name.result.now ≡ name_at c.args.net.now.link_names c.args.link = c.as_bytes-name.ensures.value ∙ c.link_name.ensures in
    let inflows : c.args.link < length c.args.flow.now.inflows.items = omega arith in
    let outflows : c.args.link < length c.args.flow.now.outflows.items = omega arith in
    let queues : c.args.link < length c.args.flow.now.queues.items = omega arith in
    same_gathered (lines_of c.as_bytes-name.result.now (seen_trace c.index-inflow.result.now) (seen_trace c.index-outflow.result.now) c.index-queue.result.now.points)
    (link_lines c.args.net.now (seen_flow c.args.flow.now) c.args.link)
    (same_link lines_of _ _ _ _ _ _ _ _ name (trace_there c.args.flow.now.inflows.items c.args.link c.index-inflow.result.now c.index-inflow.ensures inflows)
    (trace_there c.args.flow.now.outflows.items c.args.link c.index-outflow.result.now c.index-outflow.ensures outflows)
    (points_there c.args.flow.now.queues.items c.args.link c.index-queue.result.now c.index-queue.ensures queues))
    c.put_link.ensures
