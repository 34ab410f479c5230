use Rattle.std.proofs.Common.{◌≡◌, drop}
use Rattle.nf_net_file.proofs.Common.{has_name, names_of}
use Rattle.nf_net_file.proofs.draft.has_link.Given as goal

abbrev pub invariant-loop-link : goal.invariant-loop-link
invariant-loop-link l = has_name (names_of (drop l.link-index l.links)) l.name ≡ has_name (names_of l.links) l.name
