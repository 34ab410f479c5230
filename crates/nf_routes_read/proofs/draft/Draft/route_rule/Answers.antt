use Rattle.std.proofs.Common.{ℕ, ◌<◌, List, length, All, sym, subst, rules}
use Rattle.nf_net.proofs.Limits.{as_many_names}
use Rattle.nf_routes_read.proofs.draft.Draft.route_rule.Goals as goal

pub returns-then-len-ge-MOST_ROUTES : goal.returns-then-len-ge-MOST_ROUTES
returns-then-len-ge-MOST_ROUTES c = search rules

pub is_walk-requires : goal.is_walk-requires
is_walk-requires c = record {
  within = subst (λ (links : List ℕ). All (λ e. e < length c.args.net.now.net.links) links) (sym c.links.ensures)
      (subst (λ (n : ℕ). All (λ e. e < n) c.args.route.now.route.links) (as_many_names c.args.net.now c.recall.ensures) c.requires);
}
