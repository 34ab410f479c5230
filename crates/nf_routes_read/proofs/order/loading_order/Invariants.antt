use Rattle.std.proofs.Common.{[]}
use Rattle.nf_routes_read.proofs.Common.{all_pairs, order_from, routes_of}
use Rattle.nf_routes_read.proofs.Taking.{Ordered}
use Rattle.nf_routes_read.proofs.order.loading_order.Given as goal

abbrev pub invariant-loop : goal.invariant-loop
invariant-loop l = Ordered (all_pairs (routes_of l.routes)) l.link_count (order_from l.link_count (all_pairs (routes_of l.routes)) l.link_count []) l.order.items l.counter
