use Rattle.std.proofs.Common.{◌≡◌, ◌++◌, drop, map}
use Rattle.nf_net.proofs.Common.{flat_map, line_of_words, link_words}
use Rattle.nf_net.proofs.printing.push_idle.Given as goal

abbrev pub invariant-loop-link : goal.invariant-loop-link
invariant-loop-link l = l.out.items ++ flat_map line_of_words (map link_words (drop l.link-index l.links)) ≡ l.initial.out.items ++ flat_map line_of_words (map link_words l.links)
