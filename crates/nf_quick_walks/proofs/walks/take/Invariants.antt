use Rattle.std.proofs.Common.{◌≡◌, length}
use Rattle.nf_quick_walks.proofs.Common.{passes_Q, take_link, FoldsOn}
use Rattle.nf_quick_walks.proofs.walks.take.Given as goal

abbrev pub invariant-loop-link : goal.invariant-loop-link
invariant-loop-link l = record { folds : FoldsOn (take_link passes_Q l.rate) l.way l.fn.flows.items l.flows.items l.link-index; count : length l.flows.items ≡ length l.fn.flows.items }
