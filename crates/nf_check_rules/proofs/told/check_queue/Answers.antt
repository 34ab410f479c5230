use Rattle.std.proofs.Common.{◌≡◌, List, refl, sym, ap, ◌∙◌}
use Rattle.nf_check_rules.proofs.Common.{Link, points_at, Grown, Loaded, loaded_of, loaded_at, last_value, points_of_each, flow_in, labels_in, loaded_in}
use Rattle.nf_load_def.specs.Loading as lists
use Rattle.nf_check_rules.proofs.Keeping.{same_some}
use Rattle.nf_check_rules.proofs.Known.{below_as, one_there}
use Rattle.nf_check_rules.proofs.told.check_queue.Goals as goal

pub last_label-last-requires : goal.last_label-last-requires
last_label-last-requires c = below_as _ c.link.result.tail _ (ap (λ (l : Link). l.tail) c.tail.view_is) (c.link.ensures.named.network.tails c.args.link c.link.result c.link.ensures.link)

pub curve_at-told-requires : goal.curve_at-told-requires
curve_at-told-requires c = one_there _ _ _ _ c.deref.ensures.value c.args.worked.now.known.queues (below_as _ c.args.link _ c.index.ensures c.requires)

pub loaded_at-requires : goal.loaded_at-requires
loaded_at-requires c = one_there _ _ c.args.link _ refl c.args.worked.now.known.links c.requires

pub returns : goal.returns
returns c = λ here is.
    let one : c.link.result ≡ here = same_some c.link.result here (sym c.link.ensures.link ∙ is) in
    let told : c.curve_at-told.result.now.points ≡ points_at (flow_in c.args.worked.now).queues c.args.link =
    c.curve_at-told.ensures ∙ ap (λ (l : List Grown). points_at (points_of_each l) c.index.result) c.deref.ensures.value ∙ ap (points_at (flow_in c.args.worked.now).queues) c.index.ensures in
    let right : (loaded_of c.loaded_at.result.now).queue ≡ (loaded_at (loaded_in c.args.worked.now) c.args.link).queue = ap (λ (l : lists.Loaded). l.queue) c.loaded_at.ensures in
    let last : c.last_label-last.result ≡ last_value (points_at (labels_in c.args.worked.now) here.tail) =
    c.last_label-last.ensures.value ∙ ap (λ (l : Link). last_value (points_at (labels_in c.args.worked.now) l.tail)) (c.tail.view_is ∙ one) in
    rw (sym told, sym right, sym last) c.compare.ensures
