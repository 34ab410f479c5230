use Rattle.std.proofs.Common.{◌≡◌, ◌-◌}
use Rattle.nf_routes_read.proofs.Common.{range_with_len, all_pairs, first_free, routes_of}
use Rattle.nf_routes_read.proofs.order.next_free.Given as goal

abbrev pub invariant-loop-number : goal.invariant-loop-number
invariant-loop-number l =
    first_free (all_pairs (routes_of l.routes)) l.taken (range_with_len l.number (l.link_count - l.number)) ≡ first_free
    (all_pairs (routes_of l.routes)) l.taken (range_with_len 0 l.link_count)
