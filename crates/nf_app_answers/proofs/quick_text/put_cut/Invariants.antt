use Rattle.std.proofs.Common.{◌≡◌, ◌++◌, take}
use Rattle.nf_app_answers.proofs.Common.{flat_map, enumerate_from, cut_line}
use Rattle.nf_app_answers.proofs.quick_text.put_cut.Given as goal

abbrev pub invariant-loop-node : goal.invariant-loop-node
invariant-loop-node l = l.text.items ≡ l.initial.text.items ++ flat_map (cut_line l.net.node_names) (take l.node (enumerate_from 0 l.cut))
