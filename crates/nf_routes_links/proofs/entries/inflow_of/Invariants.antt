use Rattle.std.proofs.Common.{[], ◌∷◌}
use Rattle.nf_routes_links.proofs.Common.{0ℚ, passes_Q, routes_of}
use Rattle.nf_routes_links.proofs.Folds.{Sums}
use Rattle.nf_routes_links.proofs.entries.inflow_of.Given as goal

abbrev pub invariant-loop-i : goal.invariant-loop-i
invariant-loop-i l = Sums passes_Q l.link ((0ℚ, 0ℚ) ∷ []) (routes_of l.routes) l.entries l.total.points l.i
