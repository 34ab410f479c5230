use Rattle.std.proofs.Common.{ℕ, ◌<◌, refl, sym, subst}
use Rattle.nf_app.proofs.Common.{bounds_of, solution_report}
use Rattle.nf_app.proofs.QuickTold.{sink_in, at_sink, last_is_label}
use Rattle.nf_app.proofs.answering.sum_up.Goals as goal

pub last_label-arrival-requires : goal.last_label-arrival-requires
last_label-arrival-requires c =
    sink_in c.args.net.now.net c.in_ok-solution.solution.flow c.sink.result c.sink.ensures.node c.in_ok-solution.ensures.solution.well_formed.shape.labels.count

pub returns : goal.returns
returns c text =
    let s = c.in_ok-solution.solution in
    let report = solution_report c.args.horizon s in
    let net = c.args.net.now.net in
    let is = last_is_label net c.recall.ensures.network (bounds_of c.args.horizon c.args.budgets) report s.phases c.in_ok-solution.ensures.solution
    (subst (λ (v : ℕ). v < net.nodes) c.sink.ensures.value c.sink.ensures.node) c.last_label-arrival.result
    (at_sink s.flow c.sink.result net.sink c.last_label-arrival.result c.sink.ensures.value c.last_label-arrival.ensures) in (
      record {
        report = report;
        made = s.phases;
        is = refl;
        solution = c.in_ok-solution.ensures.solution;
      },
      sym is,
    )
