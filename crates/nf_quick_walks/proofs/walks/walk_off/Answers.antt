use Rattle.std.proofs.Common.{length, refl, sym, ap}
use Rattle.nf_quick_walks.proofs.Common.{ℚ}
use Rattle.nf_quick_walks.proofs.WalkByWalk.{within_as}
use Rattle.nf_quick_walks.proofs.walks.walk_off.Goals as goal

pub least_along-rate-requires : goal.least_along-rate-requires
least_along-rate-requires c = within_as _ _ c.args.links.items c.deref-2.result.now (ap (length {A = ℚ}) (sym c.deref.ensures.value)) (sym c.deref-2.ensures.value) c.requires

pub take-requires : goal.take-requires
take-requires c = within_as (length c.args.flows.now.items) _ c.args.links.items c.deref-3.result.now refl (sym c.deref-3.ensures.value) c.requires

pub returns-clause-count : goal.returns-clause-count
returns-clause-count c = let took = c.in_ok-take.ensures {u = tt} in took.count
