use Rattle.std.proofs.Common.{◌≡◌, List, refl, map, sym, ap, ◌∙◌}
use Rattle.nf_check_rules.proofs.Common.{Link, points_at, points_of, seen_trace, Trace, Loaded, loaded_of, loaded_at, last_value, flow_in, labels_in}
use Rattle.nf_check_rules.proofs.Common.{loaded_in}
use Rattle.nf_load_def.specs.Loading as lists
use Rattle.nf_check_rules.proofs.Keeping.{same_some}
use Rattle.nf_check_rules.proofs.Known.{below_as, one_there}
use Rattle.nf_check_rules.proofs.told.check_outflow.Goals as goal

pub last_label-last-requires : goal.last_label-last-requires
last_label-last-requires c = below_as _ c.link.result.head _ (ap (λ (l : Link). l.head) c.head.view_is) (c.link.ensures.named.network.heads c.args.link c.link.result c.link.ensures.link)

pub trace_at-requires : goal.trace_at-requires
trace_at-requires c = one_there _ _ c.args.link _ c.deref.ensures.value c.args.worked.now.known.outflows c.requires

pub loaded_at-requires : goal.loaded_at-requires
loaded_at-requires c = one_there _ _ c.args.link _ refl c.args.worked.now.known.links c.requires

pub returns : goal.returns
returns c = λ here is.
    let one : c.link.result ≡ here = same_some c.link.result here (sym c.link.ensures.link ∙ is) in
    let told : c.trace_at.result.now.curve.points ≡ points_at (points_of (flow_in c.args.worked.now).outflows) c.args.link =
    c.trace_at.ensures.points ∙ ap (λ (l : List Trace). points_at (points_of (map seen_trace l)) c.args.link) c.deref.ensures.value in
    let right : (loaded_of c.loaded_at.result.now).outflow ≡ (loaded_at (loaded_in c.args.worked.now) c.args.link).outflow = ap (λ (l : lists.Loaded). l.outflow) c.loaded_at.ensures in
    let last : c.last_label-last.result ≡ last_value (points_at (labels_in c.args.worked.now) here.head) =
    c.last_label-last.ensures.value ∙ ap (λ (l : Link). last_value (points_at (labels_in c.args.worked.now) l.head)) (c.head.view_is ∙ one) in
    rw (sym told, sym right, sym last) c.compare.ensures
