use Rattle.std.proofs.Common.{◌≡◌, ◌++◌, drop, map}
use Rattle.nf_net.proofs.Common.{flat_map, line_of_words, active_links, link_words}
use Rattle.nf_net.proofs.printing.push_links.Given as goal

abbrev pub invariant-loop-index : goal.invariant-loop-index
invariant-loop-index l =
    l.out.items ++ flat_map line_of_words (map link_words (drop l.index (active_links l.net))) ≡ l.initial.out.items ++ flat_map line_of_words
    (map link_words (active_links l.net))
