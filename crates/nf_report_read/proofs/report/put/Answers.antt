use Rattle.std.proofs.Common.{[], ◌∷◌, ◌++◌, Option, sym, ap, subst, ◌∙◌}
use Rattle.nf_report_read.proofs.Common.{Trace, seen_kind, seen_curve, AreSorted}
use Rattle.nf_report_read.proofs.Sorting.{label_put, inflow_put, outflow_put, queue_put}
use Rattle.nf_report_read.proofs.report.put.Goals as goal

pub returns-in_ok-push-in-Label-Some-clause-sorted : goal.returns-in_ok-push-in-Label-Some-clause-sorted
returns-in_ok-push-in-Label-Some-clause-sorted c = λ curves key k are.
    let now = record c.args.flow.now { labels = c.push.new.self } in
    subst (λ (curve : Option Trace). AreSorted (curves ++ seen_curve key curve ∷ []) now) (sym c.in-Label-Some.is-1)
    (label_put curves key c.in-Label-Some.trace c.args.flow.now now are (k ∙ ap seen_kind c.in-Label-Some.is-0) c.in_ok-push-in-Label-Some.ensures.items)

pub returns-in_ok-push-in-Inflow-Some-clause-sorted : goal.returns-in_ok-push-in-Inflow-Some-clause-sorted
returns-in_ok-push-in-Inflow-Some-clause-sorted c = λ curves key k are.
    let now = record c.args.flow.now { inflows = c.push-in-Inflow-Some.new.self } in
    subst (λ (curve : Option Trace). AreSorted (curves ++ seen_curve key curve ∷ []) now) (sym c.in-Inflow-Some.is-1)
    (inflow_put curves key c.in-Inflow-Some.trace c.args.flow.now now are (k ∙ ap seen_kind c.in-Inflow-Some.is-0) c.in_ok-push-in-Inflow-Some.ensures.items)

pub returns-in_ok-push-in-Outflow-Some-clause-sorted : goal.returns-in_ok-push-in-Outflow-Some-clause-sorted
returns-in_ok-push-in-Outflow-Some-clause-sorted c = λ curves key k are.
    let now = record c.args.flow.now { outflows = c.push-in-Outflow-Some.new.self } in
    subst (λ (curve : Option Trace). AreSorted (curves ++ seen_curve key curve ∷ []) now) (sym c.in-Outflow-Some.is-1)
    (outflow_put curves key c.in-Outflow-Some.trace c.args.flow.now now are (k ∙ ap seen_kind c.in-Outflow-Some.is-0) c.in_ok-push-in-Outflow-Some.ensures.items)

pub returns-in_ok-push-in-Queue-Some-clause-sorted : goal.returns-in_ok-push-in-Queue-Some-clause-sorted
returns-in_ok-push-in-Queue-Some-clause-sorted c = λ curves key k are.
    let now = record c.args.flow.now { queues = c.push-in-Queue-Some.new.self } in
    subst (λ (curve : Option Trace). AreSorted (curves ++ seen_curve key curve ∷ []) now) (sym c.in-Queue-Some.is-1)
    (queue_put curves key c.in-Queue-Some.trace c.args.flow.now now are (k ∙ ap seen_kind c.in-Queue-Some.is-0) c.in_ok-push-in-Queue-Some.ensures.items)
