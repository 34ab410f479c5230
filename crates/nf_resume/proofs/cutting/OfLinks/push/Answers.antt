use Rattle.std.proofs.Common.{List, map, ap, ◌∙◌}
use Rattle.nf_resume.proofs.Common.{map-append, Trace, seen_trace, Grown, points_of_each}
use Rattle.nf_resume.proofs.cutting.OfLinks.push.Goals as goal

pub returns-clause-inflows : goal.returns-clause-inflows
returns-clause-inflows c =
    let pushed = c.in_ok-push.ensures {u = tt} in ap (λ (l : List Trace). map seen_trace l) pushed.items ∙ map-append seen_trace c.args.self.now.inflows.items _

pub returns-clause-outflows : goal.returns-clause-outflows
returns-clause-outflows c =
    let pushed = c.in_ok-push-2.ensures {u = tt} in ap (λ (l : List Trace). map seen_trace l) pushed.items ∙ map-append seen_trace c.args.self.now.outflows.items _

pub returns-clause-queues : goal.returns-clause-queues
returns-clause-queues c =
    let pushed = c.in_ok-push-3.ensures {u = tt} in ap (λ (l : List Grown). points_of_each l) pushed.items ∙ map-append (λ (g : Grown). g.points) c.args.self.now.queues.items _
