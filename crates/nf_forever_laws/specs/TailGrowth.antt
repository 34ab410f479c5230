-- The growth of labels and travel times in the last phase of a run without a horizon, which never ends.
use Rattle.std.specs.Prelude.{◌≡◌, ◌↔◌, ℕ, ◌<◌, None}
use Rattle.std.specs.List.{last_or}
use Rattle.std.specs.Option.{option_map_or}
use Rattle.nf_rational.specs.Rational.{ℚ}
use Rattle.nf_rational.specs.Operations.{0ℚ, 1ℚ, ◌+ℚ◌, ◌-ℚ◌, ◌*ℚ◌, ◌/ℚ◌}
use Rattle.nf_rational.specs.Order.{◌≤ℚ◌, max_ℚ}
use Rattle.nf_model.specs.Entries.{number_at}
use Rattle.nf_model.specs.Network.{Network}
use Rattle.nf_model.specs.Equilibrium.{Flow, label}
use Rattle.nf_phase_def.specs.ToEnd.{Tail}
use Rattle.nf_forever_def.specs.Extended.{flow_until}
use Rattle.nf_forever_laws.specs.Cuts.{Cut, IsStaticCut, cut_capacity, IsLeastCapacity}
use Rattle.nf_forever_laws.specs.Growth.{GrowsByCuts, GrowsByLeastCut}

-- The supply rate of the last piece, or 0 if there is no piece.
abbrev pub last_rate : Network → ℚ
last_rate net = option_map_or (λ piece. piece.rate) (last_or None net.pieces) 0ℚ

-- The time from a departure to its arrival at the sink, in the flow that is extended by the tail.
abbrev pub travel_time : Network → Flow → Tail → ℚ → ℚ
travel_time net flow tail departure = label (flow_until net flow tail departure) net.sink departure -ℚ departure

-- `labels`: from the departure reached on, the label of each node grows at the slope of the node in the tail.
-- `cuts`, `least_cut`: these slopes grow by the cuts and by the least cut, with the last supply rate.
-- `settles`: travel times stay constant exactly if the capacity of each static cut is at least the last supply rate.
-- `travel`: a unit of departure adds to the travel time the last supply rate over the least capacity, minus 1, or 0 if that is more.
pub record TailGrows (net : Network) (flow : Flow) (tail : Tail) : Type 0 where
  pub labels : (v : ℕ) (departure : ℚ) → v < net.nodes → flow.reached ≤ℚ departure
      → label (flow_until net flow tail departure) v departure
      ≡ label flow v flow.reached +ℚ (departure -ℚ flow.reached) *ℚ number_at tail.slopes v
  pub cuts : GrowsByCuts net (last_rate net) tail.slopes
  pub least_cut : GrowsByLeastCut net (last_rate net) tail.slopes
  pub settles : ((departure : ℚ) → flow.reached ≤ℚ departure → travel_time net flow tail departure ≡ travel_time net flow tail flow.reached)
      ↔ ((cut : Cut) → IsStaticCut net cut → last_rate net ≤ℚ cut_capacity net cut)
  pub travel : (least departure : ℚ) → IsLeastCapacity net least → flow.reached ≤ℚ departure
      → travel_time net flow tail departure
      ≡ travel_time net flow tail flow.reached +ℚ (departure -ℚ flow.reached) *ℚ (max_ℚ 1ℚ (last_rate net /ℚ least) -ℚ 1ℚ)
