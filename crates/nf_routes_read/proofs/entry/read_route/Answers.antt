use Rattle.std.proofs.Common.{◌<◌, length, All, sym, ap, subst}
use Rattle.nf_routes_read.proofs.Common.{NamedRoute}
use Rattle.nf_routes_read.proofs.entry.read_route.Goals as goal

pub returns-clause-fits : goal.returns-clause-fits
returns-clause-fits c = λ routes. ap (λ (r : NamedRoute). r.route.pieces) c.in_ok-route.ensures

pub returns-clause-links : goal.returns-clause-links
returns-clause-links c = subst (λ (r : NamedRoute). All (λ e. e < length c.args.net.now.link_names) r.route.links) (sym c.in_ok-route.ensures) c.in_ok-links.ensures.within
