-- Static flows from source to sink, and sound ones.
use Rattle.std.specs.Prelude.{◌≡◌, ◌≢◌, ℕ, suc, ◌<◌, List, [], ◌∷◌, length, Some}
use Rattle.nf_rational.specs.Rational.{ℚ}
use Rattle.nf_rational.specs.Operations.{0ℚ, ◌+ℚ◌, ◌*ℚ◌}
use Rattle.nf_rational.specs.Order.{◌≤ℚ◌}
use Rattle.nf_model.specs.Entries.{number_at}
use Rattle.nf_model.specs.Network.{Link, Network, IsLink, sum_in, sum_out}
use Rattle.nf_quick_def.specs.Steps.{Step, IsResidualWalk, walk_length}

-- One flow for each link, at least 0 and at most the capacity, if the link has one. Each node except source and sink conserves flow.
pub record IsStaticFlow (net : Network) (flows : List ℚ) : Type 0 where
  pub count : length flows ≡ length net.links
  pub at_least : (e : ℕ) → 0ℚ ≤ℚ number_at flows e
  pub at_most : (e : ℕ) (link : Link) (capacity : ℚ) → IsLink net e link → link.capacity ≡ Some capacity → number_at flows e ≤ℚ capacity
  pub inner : (v : ℕ) → v < net.nodes → v ≢ net.source → v ≢ net.sink
      → sum_out net.links (number_at flows) v ≡ sum_in net.links (number_at flows) v

-- A static flow of least cost among those of its value: no closed residual walk has negative length. Nothing flows into the source or out
-- of the sink.
pub record IsSound (net : Network) (flows : List ℚ) : Type 0 where
  pub flow : IsStaticFlow net flows
  pub closed : (walk : List Step) (v : ℕ) → IsResidualWalk net flows walk v v → 0ℚ ≤ℚ walk_length net walk
  pub into_source : (e : ℕ) (link : Link) → IsLink net e link → link.head ≡ net.source → number_at flows e ≡ 0ℚ
  pub out_of_sink : (e : ℕ) (link : Link) → IsLink net e link → link.tail ≡ net.sink → number_at flows e ≡ 0ℚ

-- The value of a flow, a rate: the flow out of the source.
abbrev pub flow_value : Network → List ℚ → ℚ
flow_value net flows = sum_out net.links (number_at flows) net.source

-- The cost of a flow, an amount: the sum over the links of transit time times flow.
abbrev pub cost_from : List Link → (ℕ → ℚ) → ℚ
cost_from [] flow = 0ℚ
cost_from (link ∷ links) flow = link.transit *ℚ flow 0 +ℚ cost_from links (λ e. flow (suc e))

abbrev pub cost_of : Network → List ℚ → ℚ
cost_of net flows = cost_from net.links (number_at flows)
