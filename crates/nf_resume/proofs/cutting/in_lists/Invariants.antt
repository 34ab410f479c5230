use Rattle.std.proofs.Common.{map}
use Rattle.nf_resume.proofs.Common.{seen_trace, points_of_each, cut_in, AreLists}
use Rattle.nf_resume.proofs.cutting.in_lists.Given as goal

abbrev pub invariant-loop-cut : goal.invariant-loop-cut
invariant-loop-cut l = AreLists (map seen_trace l.links.inflows.items) (map seen_trace l.links.outflows.items) (points_of_each l.links.queues.items) (map cut_in l.yielded)
