use Rattle.std.proofs.Common.{◌≡◌, ◌++◌, drop, map}
use Rattle.nf_app_answers.proofs.Common.{after_words, name_at}
use Rattle.nf_app_answers.proofs.quick_text.put_links.Given as goal

abbrev pub invariant-loop-link : goal.invariant-loop-link
invariant-loop-link l =
    l.text.items ++ after_words (map (name_at l.net.link_names) (drop l.link-index l.links)) ≡ l.initial.text.items ++ after_words
    (map (name_at l.net.link_names) l.links)
