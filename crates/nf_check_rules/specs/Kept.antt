-- Values computed from a flow, and their properties.
use Rattle.std.specs.Prelude.{◌≡◌, ℕ, ◌<◌, List, length, map, Some, slice_get}
use Rattle.std.specs.List.{AllByRecursion}
use Rattle.nf_rational.specs.Operations.{0ℚ}
use Rattle.nf_rational.specs.Order.{◌≤ℚ◌}
use Rattle.nf_model.specs.Curve.{Point, IsCurve}
use Rattle.nf_model.specs.Network.{Network}
use Rattle.nf_model.specs.Equilibrium.{points_at}
use Rattle.nf_load_def.specs.Loading as lists
use Rattle.nf_curve.specs.Points.{Grown}
use Rattle.nf_curve.specs.declared.flow.Flow.{Flow}
use Rattle.nf_load.specs.Loadings.{loaded_of}
use Rattle.nf_load.specs.declared.loading.Loaded.{Loaded}

abbrev pub points_of_each : List Grown → List (List Point)
points_of_each curves = map (λ c. c.points) curves

abbrev pub loadings_of : List Loaded → List lists.Loaded
loadings_of loaded = map loaded_of loaded

-- a curve without a negative value
pub record IsFromZero (points : List Point) : Type 0 where
  pub curve : IsCurve points
  pub none_negative : AllByRecursion (λ q. 0ℚ ≤ℚ q.1) points

-- one label curve without a negative value per node, and one curve of each other kind and one loading per link
pub record IsWorked (net : Network) (flow : Flow) (curves : List Grown) (loaded : List Loaded) : Type 0 where
  pub reached : 0ℚ ≤ℚ flow.reached
  pub nodes : length curves ≡ net.nodes
  pub labels : (v : ℕ) → v < net.nodes → (i : ℕ) (p : Point) → slice_get (points_at (points_of_each curves) v) i ≡ Some p → 0ℚ ≤ℚ p.1
  pub inflows : length flow.inflows.items ≡ length net.links
  pub outflows : length flow.outflows.items ≡ length net.links
  pub queues : length flow.queues.items ≡ length net.links
  pub links : length loaded ≡ length net.links
