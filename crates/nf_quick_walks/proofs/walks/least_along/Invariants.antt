use Rattle.std.proofs.Common.{◌≡◌, None, Some, drop}
use Rattle.nf_quick_walks.proofs.Common.{least_along}
use Rattle.nf_quick_walks.proofs.walks.least_along.Given as goal

abbrev pub invariant-loop-link : goal.invariant-loop-link
invariant-loop-link l = least_along l.flows (Some l.least) (drop l.link-index l.rest) ≡ least_along l.flows None l.way
