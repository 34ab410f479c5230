use Rattle.nf_routes_links.proofs.Common.{passes_Q, begins_at, begin_if, routes_of}
use Rattle.nf_routes_links.proofs.Folds.{Steps}
use Rattle.nf_routes_links.proofs.entries.begin_all.Given as goal

abbrev pub invariant-loop-i : goal.invariant-loop-i
invariant-loop-i l = Steps (λ route sent. begin_if passes_Q (begins_at route.links l.link) l.horizon route sent) (routes_of l.routes) l.fn.entries l.entries l.i
