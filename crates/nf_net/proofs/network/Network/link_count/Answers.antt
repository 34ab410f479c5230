use Rattle.std.proofs.Common.{◌≤◌, length, rules}
use Rattle.nf_net.proofs.Limits.{few_links}
use Rattle.nf_net.proofs.network.Network.link_count.Goals as goal

pub overflow_cast-result : goal.overflow_cast-result
overflow_cast-result c = let few : length c.self.inside.links.items ≤ 200 = few_links _ c.self.invariant.named in search rules
