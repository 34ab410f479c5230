use Rattle.std.proofs.Common.{◌≡◌, ◌++◌, drop}
use Rattle.nf_app_answers.proofs.Common.{flat_map, augment_line}
use Rattle.nf_app_answers.proofs.walks_text.put_augments.Given as goal

abbrev pub invariant-loop-walk : goal.invariant-loop-walk
invariant-loop-walk l = l.text.items ++ flat_map (augment_line l.net.link_names) (drop l.walk-index l.walks) ≡ l.initial.text.items ++ flat_map (augment_line l.net.link_names) l.walks
