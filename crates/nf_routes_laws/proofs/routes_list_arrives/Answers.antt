use Rattle.nf_routes_laws.proofs.Arriving.{arrive}
use Rattle.nf_routes_laws.proofs.Routed.{routes_list-is}
use Rattle.nf_routes_laws.proofs.routes_list_arrives.Goals as goal

pub returns : goal.returns
returns c =
    λ net routes horizon routed l. arrive net routes horizon routed l.network l.are_routes l.from_0
    (routes_list-is l.passes net routes horizon routed l.network l.are_routes l.straight l.from_0 l.is_list)
