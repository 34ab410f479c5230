use Rattle.std.proofs.Common.{◌≡◌, ℕ, ◌-◌}
use Rattle.nf_routes_read.proofs.Common.{list_all, range_with_len, is_taken}
use Rattle.nf_routes_read.proofs.order.takes_all.Given as goal

abbrev pub invariant-loop-number : goal.invariant-loop-number
invariant-loop-number l =
    list_all (λ (e : ℕ). is_taken l.order.items e) (range_with_len l.number (l.link_count - l.number)) ≡ list_all (λ (e : ℕ). is_taken l.order.items e)
    (range_with_len 0 l.link_count)
