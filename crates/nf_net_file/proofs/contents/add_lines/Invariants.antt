use Rattle.std.proofs.Common.{◌≡◌, drop}
use Rattle.nf_net_file.proofs.Common.{seen_draft}
use Rattle.nf_net_def.specs.NetLines.{add_lines as add_all}
use Rattle.nf_net_file.proofs.contents.add_lines.Given as goal

abbrev pub invariant-loop-line : goal.invariant-loop-line
invariant-loop-line l = add_all (seen_draft l.draft) (drop l.line-index l.lines) ≡ add_all (seen_draft l.initial.draft) l.lines
