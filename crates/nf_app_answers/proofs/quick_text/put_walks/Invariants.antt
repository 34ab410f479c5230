use Rattle.std.proofs.Common.{◌≡◌, ◌++◌, drop}
use Rattle.nf_app_answers.proofs.Common.{flat_map, walk_line}
use Rattle.nf_app_answers.proofs.quick_text.put_walks.Given as goal

abbrev pub invariant-loop-walk : goal.invariant-loop-walk
invariant-loop-walk l = l.text.items ++ flat_map (walk_line l.net.link_names) (drop l.walk-index l.walks) ≡ l.initial.text.items ++ flat_map (walk_line l.net.link_names) l.walks
