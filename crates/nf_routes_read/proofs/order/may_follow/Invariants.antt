use Rattle.std.proofs.Common.{◌≡◌, ℕ, ◌-◌, ◌<◌, drop, not, ◌||◌, eqb}
use Rattle.nf_routes_read.proofs.Common.{list_all, pairs_of, is_taken}
use Rattle.nf_routes_read.proofs.order.may_follow.Given as goal

-- the pairs from the one before on are left to be tested
abbrev pub invariant-loop-i : goal.invariant-loop-i
invariant-loop-i l =
    (list_all (λ (p : ℕ × ℕ). not (eqb p.1 l.link) || is_taken l.taken p.0) (pairs_of (drop (l.i - 1) l.links)) ≡ list_all
    (λ (p : ℕ × ℕ). not (eqb p.1 l.link) || is_taken l.taken p.0) (pairs_of l.links)) × (0 < l.i)
