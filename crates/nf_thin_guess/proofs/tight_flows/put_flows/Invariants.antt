use Rattle.std.proofs.Common.{◌≡◌, length}
use Rattle.nf_thin_guess.proofs.tight_flows.put_flows.Given as goal

-- There is a flow for each link.
abbrev pub invariant-loop-e : goal.invariant-loop-e
invariant-loop-e l = length l.flows ≡ length l.net.net.links
