use Rattle.std.proofs.Common.{sym, ap, subst, ◌∙◌, ◌≡◌, ◌<◌, ℕ, List, map}
use Rattle.nf_check_rules.proofs.Common.{loaded_of, points_of_each, Load, greatest_value, Trace, seen_flow, seen_trace, points_at, points_of, Point}
use Rattle.nf_check_rules.proofs.Common.{NeverFalls, value, err_from_is_err_and, ℚ, 0ℚ, ◌≤ℚ◌, max_ℚ, Link, max-left}
use Rattle.nf_check_rules.proofs.Trying.{part_ends, part_ok}
use Rattle.nf_check_rules.proofs.Keeping.{same_some}
use mathlib.Core.Path.{ap₂}
use Rattle.nf_model_laws.proofs.Earliest.{IsPositive-link}
use Rattle.nf_check_rules.proofs.loads.load.Goals as goal

pub load_link-requires-clause-capacity : goal.load_link-requires-clause-capacity
load_link-requires-clause-capacity c =
    λ rate e. IsPositive-link c.args.net.now.net c.args.link c.link-here.result c.link-here.ensures.named.network c.link-here.ensures.link rate
    (sym (ap (λ (l : Link). l.capacity) c.here.view_is) ∙ e)

pub load_link-requires-clause-until : goal.load_link-requires-clause-until
load_link-requires-clause-until c =
    subst (λ (z : ℚ). 0ℚ ≤ℚ z) (sym c.greater.ensures) (max-left 0ℚ c.greatest_value-tail.result c.greatest_value-head.result c.greatest_value-tail.ensures.nonnegative)

pub curve_at-requires-2 : goal.curve_at-requires-2
curve_at-requires-2 c =
    subst (λ (n : ℕ). c.index-2.result < n) (sym c.requires.labels) (subst (λ (k : ℕ). k < c.args.net.now.net.nodes)
    (sym (c.index-2.ensures ∙ ap (λ (l : Link). l.head) c.here.view_is))
    (c.link-here.ensures.named.network.heads c.args.link c.link-here.result c.link-here.ensures.link))

pub load_link-requires-clause-transit : goal.load_link-requires-clause-transit
load_link-requires-clause-transit c =
    subst (λ (z : ℚ). 0ℚ ≤ℚ z) (sym (ap (λ (l : Link). l.transit) c.here.view_is))
    (c.link-here.ensures.named.network.transits c.args.link c.link-here.result c.link-here.ensures.link)

pub load_link-requires-clause-rises : goal.load_link-requires-clause-rises
load_link-requires-clause-rises c =
    let told : c.trace_at.result.now.curve.points ≡ points_at (points_of (seen_flow c.args.flow.now).inflows) c.args.link =
    c.trace_at.ensures.points ∙ ap (λ (l : List Trace). points_at (points_of (map seen_trace l)) c.args.link) c.deref.ensures.value in
    subst (λ (l : List Point). NeverFalls (value l)) (sym told) c.requires.inflow.1

pub returns-in_err-loaded : goal.returns-in_err-loaded
returns-in_err-loaded c = λ here is.
    let p = err_from_is_err_and c.from_residual.result c.from_residual.ensures.1 in
    let one : c.link-here.result ≡ here = same_some c.link-here.result here (sym c.link-here.ensures.link ∙ is) in
    let transit : c.here.inside.transit ≡ here.transit = ap (λ (l : Link). l.transit) (c.here.view_is ∙ one) in
    let capacity : c.here.inside.capacity ≡ here.capacity = ap (λ (l : Link). l.capacity) (c.here.view_is ∙ one) in
    let told : c.trace_at.result.now.curve.points ≡ points_at (points_of (seen_flow c.args.flow.now).inflows) c.args.link =
    c.trace_at.ensures.points ∙ ap (λ (l : List Trace). points_at (points_of (map seen_trace l)) c.args.link) c.deref.ensures.value in
    let tail : c.greatest_value-tail.result ≡ greatest_value (points_at (points_of_each c.args.labels.now) here.tail) =
    c.greatest_value-tail.ensures.value ∙ ap greatest_value (c.curve_at.ensures
    ∙ ap (points_at (points_of_each c.args.labels.now)) (c.index.ensures ∙ ap (λ (l : Link). l.tail) (c.here.view_is ∙ one))) in
    let head : c.greatest_value-head.result ≡ greatest_value (points_at (points_of_each c.args.labels.now) here.head) =
    c.greatest_value-head.ensures.value ∙ ap greatest_value (c.curve_at-2.ensures
    ∙ ap (points_at (points_of_each c.args.labels.now)) (c.index-2.ensures ∙ ap (λ (l : Link). l.head) (c.here.view_is ∙ one))) in
    let until : c.greater.result ≡ max_ℚ (greatest_value (points_at (points_of_each c.args.labels.now) here.tail))
    (greatest_value (points_at (points_of_each c.args.labels.now) here.head)) = c.greater.ensures ∙ ap₂ max_ℚ tail head in
    rw (p.1, p.2) (part_ends Load c.in_err-loaded.field-0.0 _ (rw (sym transit, sym capacity, sym told, sym until) c.in_err-loaded.ensures.list))

pub returns : goal.returns
returns c = λ here is.
    let one : c.link-here.result ≡ here = same_some c.link-here.result here (sym c.link-here.ensures.link ∙ is) in
    let transit : c.here.inside.transit ≡ here.transit = ap (λ (l : Link). l.transit) (c.here.view_is ∙ one) in
    let capacity : c.here.inside.capacity ≡ here.capacity = ap (λ (l : Link). l.capacity) (c.here.view_is ∙ one) in
    let told : c.trace_at.result.now.curve.points ≡ points_at (points_of (seen_flow c.args.flow.now).inflows) c.args.link =
    c.trace_at.ensures.points ∙ ap (λ (l : List Trace). points_at (points_of (map seen_trace l)) c.args.link) c.deref.ensures.value in
    let tail : c.greatest_value-tail.result ≡ greatest_value (points_at (points_of_each c.args.labels.now) here.tail) =
    c.greatest_value-tail.ensures.value ∙ ap greatest_value (c.curve_at.ensures
    ∙ ap (points_at (points_of_each c.args.labels.now)) (c.index.ensures ∙ ap (λ (l : Link). l.tail) (c.here.view_is ∙ one))) in
    let head : c.greatest_value-head.result ≡ greatest_value (points_at (points_of_each c.args.labels.now) here.head) =
    c.greatest_value-head.ensures.value ∙ ap greatest_value (c.curve_at-2.ensures
    ∙ ap (points_at (points_of_each c.args.labels.now)) (c.index-2.ensures ∙ ap (λ (l : Link). l.head) (c.here.view_is ∙ one))) in
    let until : c.greater.result ≡ max_ℚ (greatest_value (points_at (points_of_each c.args.labels.now) here.tail))
    (greatest_value (points_at (points_of_each c.args.labels.now) here.head)) = c.greater.ensures ∙ ap₂ max_ℚ tail head in
    part_ok Load _ (loaded_of c.in_ok-loaded.loaded) (rw (sym transit, sym capacity, sym told, sym until) c.in_ok-loaded.ensures.list)

pub curve_at-requires : goal.curve_at-requires
curve_at-requires c =
    subst (λ (n : ℕ). c.index.result < n) (sym c.requires.labels) (subst (λ (k : ℕ). k < c.args.net.now.net.nodes)
    (sym (c.index.ensures ∙ ap (λ (l : Link). l.tail) c.here.view_is))
    (c.link-here.ensures.named.network.tails c.args.link c.link-here.result c.link-here.ensures.link))
