use Rattle.nf_routes_links.proofs.Common.{passes_Q, goes_over, next_if, routes_of, AreKnown}
use Rattle.nf_routes_links.proofs.Folds.{Steps}
use Rattle.nf_routes_links.proofs.entries.send_all_on.Given as goal

abbrev pub invariant-loop-i : goal.invariant-loop-i
invariant-loop-i l = Steps (λ route sent. next_if passes_Q (goes_over route.links l.link) l.exit.points sent) (routes_of l.routes) l.fn.entries l.entries l.i
    × AreKnown l.exit.points l.known.items
