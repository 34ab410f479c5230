use Rattle.nf_check_rules.proofs.Common.{passes_Q, loading, seen_flow, points_of_each, loadings_of}
use Rattle.nf_check_rules.proofs.Looping.{FrontLinks}
use Rattle.nf_check_rules.proofs.loads.load_links.Given as goal

abbrev pub invariant-loop-number : goal.invariant-loop-number
invariant-loop-number l = FrontLinks (loading passes_Q l.net.net (seen_flow l.flow) (points_of_each l.labels)) l.net.net.links l.number (loadings_of l.loaded.items)
