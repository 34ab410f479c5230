-- The links of a network as hops: their number, and that their ends are nodes.
use Rattle.std.proofs.Common.{◌≡◌, ◌<◌, length, is_none}
use Rattle.nf_graph.proofs.Common.{Hop, by_link, AreBelow}
use Rattle.std.proofs.lemmas.List.{length-map}
use Rattle.nf_model.specs.Network.{Link, Network, IsNetwork, hop_of, hops, unbounded}

pub hops_length : (net : Network) → length (hops net) ≡ length net.links
hops_length net = length-map net.links hop_of

pub unbounded_length : (net : Network) → length (unbounded net) ≡ length net.links
unbounded_length net = length-map net.links (λ (link : Link). is_none link.capacity)

pub below_nodes : (net : Network) → IsNetwork net → AreBelow net.nodes (hops net)
below_nodes net good = record {
  tails = λ e hop h. by_link net (λ (x : Hop). x.tail < net.nodes) e (good.tails e) hop h;
  heads = λ e hop h. by_link net (λ (x : Hop). x.head < net.nodes) e (good.heads e) hop h;
}
