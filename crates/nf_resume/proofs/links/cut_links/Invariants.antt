use Rattle.std.proofs.Common.{map}
use Rattle.nf_resume.proofs.Common.{passes_Q, seen_flow, links_with, cut_link, points_of_each, cut_in}
use Rattle.nf_resume.proofs.Looping.{Front}
use Rattle.nf_resume.proofs.links.cut_links.Given as goal

abbrev pub invariant-loop-number : goal.invariant-loop-number
invariant-loop-number l =
    Front (cut_link passes_Q (points_of_each l.labels)) (links_with l.net.net.links (seen_flow l.flow).inflows (seen_flow l.flow).outflows (seen_flow l.flow).queues)
    l.number (map cut_in l.cuts.items)
