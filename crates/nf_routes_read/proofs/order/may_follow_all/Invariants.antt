use Rattle.std.proofs.Common.{◌≡◌, ℕ, drop, not, ◌||◌, eqb}
use Rattle.nf_routes_read.proofs.Common.{list_all, all_pairs, is_taken, routes_of}
use Rattle.nf_routes_read.proofs.order.may_follow_all.Given as goal

abbrev pub invariant-loop-route : goal.invariant-loop-route
invariant-loop-route l =
    list_all (λ (p : ℕ × ℕ). not (eqb p.1 l.link) || is_taken l.taken p.0) (all_pairs (routes_of (drop l.route-index l.routes))) ≡ list_all
    (λ (p : ℕ × ℕ). not (eqb p.1 l.link) || is_taken l.taken p.0) (all_pairs (routes_of l.routes))
