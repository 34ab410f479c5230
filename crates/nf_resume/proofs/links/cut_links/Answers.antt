use Rattle.std.proofs.Common.{◌≡◌, ℕ, ◌<◌, List, length, map, sym, ap, subst, ◌∙◌, arith, Ok}
use Rattle.nf_resume.proofs.Common.{length-map, map-append, err_from_is_err_and, ℚ, 0ℚ, ◌≤ℚ◌, passes_Q, Checked, Stops, at_part, Link, points_at}
use Rattle.nf_resume.proofs.Common.{seen_trace, seen_flow, value_at_end, links_with, cut_link, links_with-length, CutLink, points_of_each, cut_in}
use Rattle.nf_frac_def.specs.declared.Part.TheVariants.{Curve as OfCurve}
use Rattle.nf_resume_def.specs.Resuming as lists
use Rattle.nf_resume.proofs.Looping.{front_first, front_halts, front_goes, front_last}
use Rattle.nf_resume.proofs.Ends.{link_cut}
use Rattle.nf_resume.proofs.links.cut_links.Goals as goal

pub last_label-tail-requires : goal.last_label-tail-requires
last_label-tail-requires c =
    subst (λ (n : ℕ). c.link.inside.tail < n) (sym c.requires.labels)
    (subst (λ (l : Link). l.tail < c.args.net.now.net.nodes) (sym c.link.view_is)
    (c.link-link.ensures.named.network.tails c.loop-number.number c.link-link.result c.link-link.ensures.link))

pub last_label-head-requires : goal.last_label-head-requires
last_label-head-requires c =
    subst (λ (n : ℕ). c.link.inside.head < n) (sym c.requires.labels)
    (subst (λ (l : Link). l.head < c.args.net.now.net.nodes) (sym c.link.view_is)
    (c.link-link.ensures.named.network.heads c.loop-number.number c.link-link.result c.link-link.ensures.link))

pub index-inflow-requires : goal.index-inflow-requires
index-inflow-requires c =
    subst (λ (n : ℕ). c.loop-number.number < n) (c.link_count-number-end.ensures ∙ sym c.requires.inflows ∙ sym c.args.flow.now.inflows.ok.0) c.loop-number-test.true

pub index-outflow-requires : goal.index-outflow-requires
index-outflow-requires c =
    subst (λ (n : ℕ). c.loop-number.number < n) (c.link_count-number-end.ensures ∙ sym c.requires.outflows ∙ sym c.args.flow.now.outflows.ok.0) c.loop-number-test.true

pub index-queue-requires : goal.index-queue-requires
index-queue-requires c =
    subst (λ (n : ℕ). c.loop-number.number < n) (c.link_count-number-end.ensures ∙ sym c.requires.queues ∙ sym c.args.flow.now.queues.ok.0) c.loop-number-test.true

pub cut_link-requires-clause-tail : goal.cut_link-requires-clause-tail
cut_link-requires-clause-tail c =
    subst (λ (q : ℚ). 0ℚ ≤ℚ q) (sym c.last_label-tail.ensures) (c.requires.ends c.link.inside.tail
    (subst (λ (l : Link). l.tail < c.args.net.now.net.nodes) (sym c.link.view_is)
    (c.link-link.ensures.named.network.tails c.loop-number.number c.link-link.result c.link-link.ensures.link)))

pub cut_link-requires-clause-head : goal.cut_link-requires-clause-head
cut_link-requires-clause-head c =
    subst (λ (q : ℚ). 0ℚ ≤ℚ q) (sym c.last_label-head.ensures) (c.requires.ends c.link.inside.head
    (subst (λ (l : Link). l.head < c.args.net.now.net.nodes) (sym c.link.view_is)
    (c.link-link.ensures.named.network.heads c.loop-number.number c.link-link.result c.link-link.ensures.link)))

pub returns-in_err-cut : goal.returns-in_err-cut
returns-in_err-cut c =
    let p = err_from_is_err_and c.from_residual-in_err-cut.result c.from_residual-in_err-cut.ensures.1 in
    let flow = seen_flow c.args.flow.now in
    let one = link_cut passes_Q (points_of_each c.args.labels.now) c.args.net.now.net.links c.args.flow.now.inflows.items c.args.flow.now.outflows.items
    c.args.flow.now.queues.items c.loop-number.number c.link-link.result
    c.index-inflow.result.now c.index-outflow.result.now c.index-queue.result.now c.last_label-tail.result c.last_label-head.result c.link-link.ensures.link
    (c.last_label-tail.ensures ∙ ap (λ (l : Link). value_at_end (points_at (points_of_each c.args.labels.now) l.tail)) c.link.view_is)
    (c.last_label-head.ensures ∙ ap (λ (l : Link). value_at_end (points_at (points_of_each c.args.labels.now) l.head)) c.link.view_is)
    (subst (λ (n : ℕ). c.loop-number.number < n) (c.link_count-number-end.ensures ∙ sym c.requires.inflows) c.loop-number-test.true) c.index-inflow.ensures
    (subst (λ (n : ℕ). c.loop-number.number < n) (c.link_count-number-end.ensures ∙ sym c.requires.outflows) c.loop-number-test.true)
    c.index-outflow.ensures
    (subst (λ (n : ℕ). c.loop-number.number < n) (c.link_count-number-end.ensures ∙ sym c.requires.queues) c.loop-number-test.true) c.index-queue.ensures in
    rw (p.1, p.2) (front_halts (cut_link passes_Q (points_of_each c.args.labels.now))
    (links_with c.args.net.now.net.links flow.inflows flow.outflows flow.queues) OfCurve c.loop-number.number (map cut_in c.loop-number.cuts.items)
    c.loop-number.invariant one.0 one.1 c.in_err-cut.field-0.0
    (subst (λ (r : Checked lists.CutLink). Stops (λ (q : ℚ). q) c.in_err-cut.field-0.0 (at_part OfCurve r)) one.2 c.in_err-cut.ensures))

pub loop-number-preserved : goal.loop-number-preserved
loop-number-preserved c =
    let flow = seen_flow c.args.flow.now in
    let one = link_cut passes_Q (points_of_each c.args.labels.now) c.args.net.now.net.links c.args.flow.now.inflows.items c.args.flow.now.outflows.items
    c.args.flow.now.queues.items c.loop-number.number c.link-link.result
    c.index-inflow.result.now c.index-outflow.result.now c.index-queue.result.now c.last_label-tail.result c.last_label-head.result c.link-link.ensures.link
    (c.last_label-tail.ensures ∙ ap (λ (l : Link). value_at_end (points_at (points_of_each c.args.labels.now) l.tail)) c.link.view_is)
    (c.last_label-head.ensures ∙ ap (λ (l : Link). value_at_end (points_at (points_of_each c.args.labels.now) l.head)) c.link.view_is)
    (subst (λ (n : ℕ). c.loop-number.number < n) (c.link_count-number-end.ensures ∙ sym c.requires.inflows) c.loop-number-test.true) c.index-inflow.ensures
    (subst (λ (n : ℕ). c.loop-number.number < n) (c.link_count-number-end.ensures ∙ sym c.requires.outflows) c.loop-number-test.true)
    c.index-outflow.ensures
    (subst (λ (n : ℕ). c.loop-number.number < n) (c.link_count-number-end.ensures ∙ sym c.requires.queues) c.loop-number-test.true) c.index-queue.ensures in
    front_goes (cut_link passes_Q (points_of_each c.args.labels.now)) (links_with c.args.net.now.net.links flow.inflows flow.outflows flow.queues) OfCurve
    c.loop-number.number (map cut_in c.loop-number.cuts.items)
    c.loop-number.invariant one.0 one.1 (cut_in c.in_ok-cut.cut) (map cut_in c.push.new.self.items)
    (subst (λ (r : Checked lists.CutLink). at_part OfCurve r ≡ Ok (cut_in c.in_ok-cut.cut)) one.2 c.in_ok-cut.ensures)
    (ap (λ (l : List CutLink). map cut_in l) c.in_ok-push.ensures.items ∙ map-append cut_in c.loop-number.cuts.items _)

pub returns : goal.returns
returns c =
    let flow = seen_flow c.args.flow.now in
    let count : length (links_with c.args.net.now.net.links flow.inflows flow.outflows flow.queues) ≡ length c.args.net.now.net.links =
    links_with-length c.args.net.now.net.links flow.inflows flow.outflows flow.queues (length-map c.args.flow.now.inflows.items seen_trace ∙ c.requires.inflows)
    (length-map c.args.flow.now.outflows.items seen_trace ∙ c.requires.outflows) (length-map c.args.flow.now.queues.items (λ q. q.points) ∙ c.requires.queues) in
    front_last (cut_link passes_Q (points_of_each c.args.labels.now)) (links_with c.args.net.now.net.links flow.inflows flow.outflows flow.queues) OfCurve
    c.loop-number.number (map cut_in c.loop-number.cuts.items)
    c.loop-number.invariant (omega (arith, count, c.link_count-number-end.ensures, c.loop-number-test.false))

pub loop-number-init : goal.loop-number-init
loop-number-init c =
    let none = c.in_ok-cuts.ensures {u = tt} in
    let flow = seen_flow c.args.flow.now in
    front_first (cut_link passes_Q (points_of_each c.args.labels.now)) (links_with c.args.net.now.net.links flow.inflows flow.outflows flow.queues) (map cut_in c.in_ok-cuts.cuts.items)
    (ap (λ (l : List CutLink). map cut_in l) none.items)
