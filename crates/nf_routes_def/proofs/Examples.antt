-- Examples of loading by route, by computation. Two routes reach one link at different times, and the links of other routes form a circle.
use Rattle.std.specs.Prelude.{◌≡◌, ℕ, List, [], ◌∷◌, Option, Some, None, Result, Ok, Err, map, refl}
use Rattle.nf_rational.specs.Gcd.{gcd}
use Rattle.nf_rational.specs.Rational.{ℚ, ratio}
use Rattle.nf_rational.specs.Operations.{whole, neg_ℚ, inv_ℚ, ◌+ℚ◌, ◌-ℚ◌, ◌*ℚ◌, ◌/ℚ◌}
use Rattle.nf_rational.specs.Order.{le_ℚ, lt_ℚ, min_ℚ, max_ℚ}
use Rattle.nf_frac_def.specs.Passing.{beyond}
use Rattle.nf_frac_def.specs.Checked.{checked}
use Rattle.nf_frac_def.specs.declared.Passed.{Passed}
use Rattle.nf_model.specs.Curve.{Point}
use Rattle.nf_model.specs.Network.{Network}
use Rattle.nf_frac_def.proofs.Examples.{n, in_127_bits, Parts, parts_of}
use Rattle.nf_thin_def.proofs.Examples.{link, i}
use Rattle.nf_curve_def.specs.Lines.{checked_slope, checked_line, checked_inverse}
use Rattle.nf_curve_def.specs.Values.{checked_value, checked_cut}
use Rattle.nf_curve_def.specs.Times.{both_times}
use Rattle.nf_curve_def.specs.Sums.{checked_sum}
use Rattle.nf_curve_def.specs.Composed.{checked_composed}
use Rattle.nf_curve_def.specs.Short.{checked_short}
use Rattle.nf_load_def.specs.Cumulative.{checked_cumulative}
use Rattle.nf_load_def.specs.Loading.{Loaded, grown, drained, exit_after, checked_loading}
use Rattle.nf_routes_def.specs.Routes.{Route, loading_order}
use Rattle.nf_routes_def.specs.RoutesList.{Routed, next_entry, routes_list}

abbrev points_in : List Point → List (Parts × Parts)
points_in points = map (λ p. (parts_of p.0, parts_of p.1)) points

-- links p and q from the source (0) to a node (2), and z from there to the sink (1)
abbrev pub net : Network
net = record {
  nodes = 3;
  source = 0;
  sink = 1;
  links = link 0 2 (n 1) (Some (n 4)) ∷ link 0 2 (n 2) (Some (n 4)) ∷ link 2 1 (n 1) (Some (n 1)) ∷ [];
  pieces = [];
}

abbrev route : List ℕ → Route
route links = record { links = links; pieces = record { start = n 0; rate = n 1 } ∷ record { start = n 2; rate = n 0 } ∷ [] }

abbrev pub routes : List Route
routes = route (0 ∷ 2 ∷ []) ∷ route (1 ∷ 2 ∷ []) ∷ []

order : loading_order 3 routes ≡ 0 ∷ 1 ∷ 2 ∷ []
unfolding loading_order
order = refl

-- link 4 comes first, and link 5, a link on no route, third
abbrev crossing : List Route
crossing = route (4 ∷ 2 ∷ 0 ∷ []) ∷ route (1 ∷ 2 ∷ 3 ∷ []) ∷ []

crossing_order : loading_order 6 crossing ≡ 1 ∷ 4 ∷ 2 ∷ 0 ∷ 3 ∷ 5 ∷ []
unfolding loading_order
crossing_order = refl

-- links 1 and 2 stand before each other
abbrev circle : List Route
circle = route (0 ∷ 1 ∷ 2 ∷ 4 ∷ []) ∷ route (5 ∷ 2 ∷ 1 ∷ 3 ∷ []) ∷ []

circle_order : loading_order 6 circle ≡ 0 ∷ 5 ∷ []
unfolding loading_order
circle_order = refl

-- queue, outflow and exit of link z, the arrivals, and the travels
abbrev routed_in : Result Routed (Passed ℚ) → Option (List Parts × List (List (Parts × Parts)))
routed_in (Ok r) = Some (map parts_of r.ends, parts_at r.links)
  where
    parts_at : List Loaded → List (List (Parts × Parts))
    parts_at (p ∷ q ∷ z ∷ []) = points_in z.queue ∷ points_in z.outflow ∷ points_in z.exit ∷ []
    parts_at links = []
routed_in (Err p) = None

abbrev routes_of : Result Routed (Passed ℚ) → Option (List (List (Parts × Parts)) × List (List (Parts × Parts)))
routes_of (Ok r) = Some (map points_in r.arrivals, map points_in r.travels)
routes_of (Err p) = None

loaded : routed_in (routes_list in_127_bits net routes (n 2))
    ≡ Some (
      i 2 ∷ i 2 ∷ i 4 ∷ [],
      ((i 0, i 0) ∷ (i 2, i 0) ∷ (i 3, i 1) ∷ (i 4, i 1) ∷ []) ∷ ((i 0, i 0) ∷ (i 2, i 0) ∷ (i 5, i 3) ∷ [])
          ∷ ((i 0, i 1) ∷ (i 2, i 3) ∷ (i 3, i 5) ∷ (i 4, i 6) ∷ []) ∷ [],
    )
unfolding routes_list loading_order next_entry checked_cumulative checked_loading checked_cut checked_value checked_short checked_slope checked_line
    checked_inverse checked_sum checked_composed both_times grown drained exit_after checked beyond whole ratio gcd neg_ℚ inv_ℚ ◌+ℚ◌ ◌-ℚ◌ ◌*ℚ◌ ◌/ℚ◌ le_ℚ
    lt_ℚ min_ℚ max_ℚ
loaded = refl

by_route : routes_of (routes_list in_127_bits net routes (n 2))
    ≡ Some (
      ((i 0, i 0) ∷ (i 2, i 0) ∷ (i 3, i 1) ∷ (i 5, i 2) ∷ (i 6, i 2) ∷ []) ∷ ((i 0, i 0) ∷ (i 3, i 0) ∷ (i 5, i 1) ∷ (i 6, i 2) ∷ []) ∷ [],
      ((i 0, i 2) ∷ (i 1, i 3) ∷ (i 2, i 5) ∷ []) ∷ ((i 0, i 3) ∷ (i 1, i 5) ∷ (i 2, i 6) ∷ []) ∷ [],
    )
unfolding routes_list loading_order next_entry checked_cumulative checked_loading checked_cut checked_value checked_short checked_slope checked_line
    checked_inverse checked_sum checked_composed both_times grown drained exit_after checked beyond whole ratio gcd neg_ℚ inv_ℚ ◌+ℚ◌ ◌-ℚ◌ ◌*ℚ◌ ◌/ℚ◌ le_ℚ
    lt_ℚ min_ℚ max_ℚ
by_route = refl
