use Rattle.std.proofs.Common.{◌≡◌, ◌-◌, ◌<◌, drop}
use Rattle.nf_routes_links.proofs.Common.{pairs_of, end_by}
use Rattle.nf_routes_links.proofs.ends.end_along.Given as goal

abbrev pub invariant-loop-i : goal.invariant-loop-i
invariant-loop-i l = (end_by l.end (pairs_of (drop (l.i - 1) l.along)) l.links l.link ≡ end_by l.fn.least (pairs_of l.along) l.links l.link) × (0 < l.i)
