use Rattle.std.proofs.Common.{◌≡◌, drop}
use Rattle.nf_frac_def.specs.Passing.{passes_Q}
use Rattle.nf_frac_def.specs.Checked.{each}
use Rattle.nf_frac_def.proofs.Each.{with_front}
use Rattle.nf_thin_def.specs.Slack.{slack_of}
use Rattle.nf_sets.proofs.slacks.Given as goal

-- the slacks so far precede those of the other hops
abbrev pub invariant-loop-hop : goal.invariant-loop-hop
invariant-loop-hop l = each (slack_of passes_Q l.labels) l.hops ≡ with_front l.slacks.items (each (slack_of passes_Q l.labels) (drop l.hop-index l.hops))
