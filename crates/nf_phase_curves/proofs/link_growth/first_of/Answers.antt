use Rattle.std.proofs.Common.{sym, ap, ◌∙◌}
use Rattle.nf_phase_curves.proofs.Common.{IfOk-weaker, ℚ, Link, is_positive, LinkCurves, first_trace, first_queue}
use Rattle.nf_phase_curves.proofs.AtLabels.{number_read}
use Rattle.nf_phase_curves.proofs.link_growth.first_of.Goals as goal

abbrev first_by : ℚ → ℚ → LinkCurves
first_by tail head = record {
  inflow = first_trace (is_positive tail) tail;
  outflow = first_trace (is_positive head) head;
  queue = first_queue (is_positive tail) tail;
}

pub returns : goal.returns
returns c =
    let tail = number_read c.args.labels.now c.args.link.now.tail c.index.result c.index-labels-index.result
    (c.index.ensures ∙ ap (λ (l : Link). l.tail) c.link.view_is) c.requires.tail c.index-labels-index.is in
    let head = number_read c.args.labels.now c.args.link.now.head c.index-2.result c.index-labels-index-2.result
    (c.index-2.ensures ∙ ap (λ (l : Link). l.head) c.link.view_is) c.requires.head c.index-labels-index-2.is in
    IfOk-weaker c.first.result _ _ (λ curves is. is ∙ (λ i. first_by (sym tail i) (sym head i))) c.first.ensures
