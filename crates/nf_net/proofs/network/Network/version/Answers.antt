use Rattle.nf_net.proofs.network.Network.version.Goals as goal

pub returns-clause-known : goal.returns-clause-known
returns-clause-known c = c.self.invariant.named.version
