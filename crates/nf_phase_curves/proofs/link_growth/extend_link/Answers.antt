use Rattle.std.proofs.Common.{sym, ap, ◌∙◌}
use Rattle.nf_phase_curves.proofs.Common.{Link, trace_after, queue_curve_after}
use Rattle.nf_phase_curves.proofs.AtLabels.{number_read, ends_before}
use Rattle.nf_phase_curves.proofs.link_growth.extend_link.Goals as goal

pub extend-requires-clause-inflow : goal.extend-requires-clause-inflow
extend-requires-clause-inflow c =
    ends_before c.args.step.now.inflow_rate c.args.curves.now.grown.inflow.points _ c.index-labels-index.result
    (number_read c.args.labels.now c.args.link.now.tail c.index.result c.index-labels-index.result
    (c.index.ensures ∙ ap (λ (l : Link). l.tail) c.link.view_is) c.requires.tail c.index-labels-index.is)
    c.requires.later.inflow

pub extend-requires-clause-outflow : goal.extend-requires-clause-outflow
extend-requires-clause-outflow c =
    ends_before c.args.step.now.outflow_rate c.args.curves.now.grown.outflow.points _ c.index-labels-index-2.result
    (number_read c.args.labels.now c.args.link.now.head c.index-2.result c.index-labels-index-2.result
    (c.index-2.ensures ∙ ap (λ (l : Link). l.head) c.link.view_is) c.requires.head c.index-labels-index-2.is)
    c.requires.later.outflow

pub extend-requires-clause-queue : goal.extend-requires-clause-queue
extend-requires-clause-queue c =
    ends_before c.args.step.now.queue c.args.curves.now.grown.queue.points _ c.index-labels-index.result
    (number_read c.args.labels.now c.args.link.now.tail c.index.result c.index-labels-index.result
    (c.index.ensures ∙ ap (λ (l : Link). l.tail) c.link.view_is) c.requires.tail c.index-labels-index.is)
    c.requires.later.queue

pub returns : goal.returns
returns c =
    let tail = number_read c.args.labels.now c.args.link.now.tail c.index.result c.index-labels-index.result
    (c.index.ensures ∙ ap (λ (l : Link). l.tail) c.link.view_is) c.requires.tail c.index-labels-index.is in
    let head = number_read c.args.labels.now c.args.link.now.head c.index-2.result c.index-labels-index-2.result
    (c.index-2.ensures ∙ ap (λ (l : Link). l.head) c.link.view_is) c.requires.head c.index-labels-index-2.is in
    (λ i. record { inflow = c.extend.ensures.inflow i; outflow = c.extend.ensures.outflow i; queue = c.extend.ensures.queue i })
    ∙ (λ i. record {
      inflow = trace_after c.args.curves.now.grown.inflow (sym tail i) c.args.step.now.amount c.args.step.now.inflow_rate;
      outflow = trace_after c.args.curves.now.grown.outflow (sym head i) c.args.step.now.amount c.args.step.now.outflow_rate;
      queue = queue_curve_after c.args.curves.now.grown.queue (sym tail i) c.args.step.now.queue;
    })
