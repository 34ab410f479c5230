use Rattle.std.proofs.Common.{◌≤◌, List, length, sym, subst}
use Rattle.nf_net.proofs.Common.{Name}
use Rattle.nf_net.proofs.Limits.{few_link_names}
use Rattle.nf_net.proofs.network.Network.link_named.Goals as goal

pub found-requires-clause-few : goal.found-requires-clause-few
found-requires-clause-few c = subst (λ (l : List Name). length l ≤ 200) (sym c.deref.ensures.value) (few_link_names _ c.self.invariant.named)
