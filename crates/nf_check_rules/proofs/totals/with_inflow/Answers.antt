use Rattle.std.proofs.Common.{◌==◌, Ok, ◌≡◌, ℕ, List, not, map, sym, ap, subst, ◌∙◌}
use Rattle.nf_check_rules.proofs.Common.{Grown, checked_sum, Link, Point, Checked, Gives, at_part, Check, passes_Q, ℚ, Trace, seen_flow, seen_trace}
use Rattle.nf_check_rules.proofs.Common.{points_at, points_of}
use Rattle.nf_check_rules.proofs.Known.{one_there}
use Rattle.nf_check_rules.proofs.Attaining.{at_node, at_other}
use Rattle.nf_check_rules.proofs.Keeping.{same_some}
use Rattle.nf_check_rules.proofs.totals.with_inflow.Goals as goal

pub trace_at-requires : goal.trace_at-requires
trace_at-requires c = one_there _ _ c.args.link _ c.deref.ensures.value c.requires.inflows c.requires.link

pub returns-then-ne : goal.returns-then-ne
returns-then-ne c = λ here is.
    let one : c.link.result ≡ here = same_some c.link.result here (sym c.link.ensures.link ∙ is) in
    let test : c.ne.result ≡ not (here.tail == c.args.node) = c.ne.ensures ∙ ap (λ (k : ℕ). not (k == c.args.node)) (ap (λ (l : Link). l.tail) (c.link-2.view_is ∙ one)) in
    let sum : Checked (List Point) = checked_sum passes_Q c.args.so_far.points (points_at (points_of (seen_flow c.args.flow.now).inflows) c.args.link) in
    let stay : Checked (List Point) = Ok c.args.so_far.points in
    ap (at_part Check) (at_other here.tail c.args.node c.ne.result test c.if-ne.true sum stay)

pub returns : goal.returns
returns c = λ here is.
    let one : c.link.result ≡ here = same_some c.link.result here (sym c.link.ensures.link ∙ is) in
    let test : c.ne.result ≡ not (here.tail == c.args.node) = c.ne.ensures ∙ ap (λ (k : ℕ). not (k == c.args.node)) (ap (λ (l : Link). l.tail) (c.link-2.view_is ∙ one)) in
    let sum : Checked (List Point) = checked_sum passes_Q c.args.so_far.points (points_at (points_of (seen_flow c.args.flow.now).inflows) c.args.link) in
    let stay : Checked (List Point) = Ok c.args.so_far.points in
    let told : c.trace_at.result.now.curve.points ≡ points_at (points_of (seen_flow c.args.flow.now).inflows) c.args.link =
    c.trace_at.ensures.points ∙ ap (λ (l : List Trace). points_at (points_of (map seen_trace l)) c.args.link) c.deref.ensures.value in
    let summed : Gives (λ (g : Grown). g.points) (λ (q : ℚ). q) c.sum.result
    (at_part Check (checked_sum passes_Q c.args.so_far.points (points_at (points_of (seen_flow c.args.flow.now).inflows) c.args.link))) =
    rw (sym told) c.sum.ensures.list in
    subst (λ (r : Checked (List Point)). Gives (λ (g : Grown). g.points) (λ (q : ℚ). q) c.sum.result (at_part Check r))
    (sym (at_node here.tail c.args.node c.ne.result test c.if-ne.false sum stay)) summed
