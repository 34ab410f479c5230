use Rattle.std.proofs.Common.{option_map, ◌≡◌, List, map, refl, sym, ap, ◌∙◌}
use Rattle.nf_check_rules.proofs.Common.{route, difference_of, err_from_is_err_and, passes_Q, Link, points_at, points_of, seen_trace, Trace, Loaded}
use Rattle.nf_check_rules.proofs.Common.{loaded_at, flow_in, labels_in, loaded_in, in_view}
use Rattle.nf_check_rules.proofs.Trying.{tries_as}
use Rattle.nf_load_def.specs.Loading as lists
use Rattle.nf_check_rules.proofs.Keeping.{kept_as, same_some, route_ends, route_goes}
use Rattle.nf_check_rules.proofs.Known.{never_negative, below_as, one_there}
use Rattle.nf_check_rules.proofs.routes.check_route.Goals as goal

pub trace_at-requires : goal.trace_at-requires
trace_at-requires c = one_there _ _ c.args.link _ c.deref.ensures.value c.args.worked.now.known.inflows c.requires.link

pub loaded_at-requires : goal.loaded_at-requires
loaded_at-requires c = one_there _ _ c.args.link _ refl c.args.worked.now.known.links c.requires.link

pub label_at-requires : goal.label_at-requires
label_at-requires c =
    below_as _ c.link-here.result.tail _ (ap (λ (l : Link). l.tail) c.here.view_is)
    (c.link-here.ensures.named.network.tails c.args.link c.link-here.result c.link-here.ensures.link)

pub label_at-requires-2 : goal.label_at-requires-2
label_at-requires-2 c =
    below_as _ c.link-here.result.head _ (ap (λ (l : Link). l.head) c.here.view_is)
    (c.link-here.ensures.named.network.heads c.args.link c.link-here.result c.link-here.ensures.link)

pub invariant_of-curves : goal.invariant_of-curves
invariant_of-curves c = record {
  last_from_zero = c.args.worked.now.known.reached;
  entries_from_zero = λ time w. never_negative c.label_at.result.now.points c.label_at.ensures.from_zero time w.0;
}

pub detour-requires : goal.detour-requires
detour-requires c = kept_as c.args.worked.now.flow.now.reached c.args.kept _ _ _ _
    (ap (λ (l : lists.Loaded). l.exit) c.loaded_at.ensures)
    (c.label_at.ensures.points ∙ ap (λ (l : Link). points_at (labels_in c.args.worked.now) l.tail) (c.here.view_is))
    (c.requires.kept.known c.link-here.result c.link-here.ensures.link)

pub returns-in_err-detour : goal.returns-in_err-detour
returns-in_err-detour c = λ here is.
    let p = err_from_is_err_and c.from_residual.result c.from_residual.ensures.1 in
    let one : c.link-here.result ≡ here = same_some c.link-here.result here (sym c.link-here.ensures.link ∙ is) in
    rw (p.1, p.2) (route_ends passes_Q c.args.worked.now.net.now.net (flow_in c.args.worked.now) (labels_in c.args.worked.now) (loaded_in c.args.worked.now) c.args.link here _ _ _ _
    (c.trace_at.ensures.points ∙ ap (λ (l : List Trace). points_at (points_of (map seen_trace l)) c.args.link) c.deref.ensures.value)
    (ap (λ (l : lists.Loaded). l.exit) c.loaded_at.ensures)
    (c.label_at.ensures.points ∙ ap (λ (l : Link). points_at (labels_in c.args.worked.now) l.tail) (c.here.view_is ∙ one))
    (c.label_at-2.ensures.points ∙ ap (λ (l : Link). points_at (labels_in c.args.worked.now) l.head) (c.here.view_is ∙ one))
    c.in_err-detour.field-0.0 c.in_err-detour.ensures)

pub returns : goal.returns
returns c = λ here is.
    let one : c.link-here.result ≡ here = same_some c.link-here.result here (sym c.link-here.ensures.link ∙ is) in
    tries_as (λ _. tt) c.unless.result (in_view route c.args.worked.now (c.args.link, here)) _
    (route_goes passes_Q c.args.worked.now.net.now.net (flow_in c.args.worked.now) (labels_in c.args.worked.now) (loaded_in c.args.worked.now) c.args.link here _ _ _ _
    (c.trace_at.ensures.points ∙ ap (λ (l : List Trace). points_at (points_of (map seen_trace l)) c.args.link) c.deref.ensures.value)
    (ap (λ (l : lists.Loaded). l.exit) c.loaded_at.ensures)
    (c.label_at.ensures.points ∙ ap (λ (l : Link). points_at (labels_in c.args.worked.now) l.tail) (c.here.view_is ∙ one))
    (c.label_at-2.ensures.points ∙ ap (λ (l : Link). points_at (labels_in c.args.worked.now) l.head) (c.here.view_is ∙ one))
    (option_map difference_of c.in_ok-detour.detour) c.in_ok-detour.ensures)
    c.unless.ensures
