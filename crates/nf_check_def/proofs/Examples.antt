-- Examples of loading and checking small networks, by computation.
use Rattle.std.specs.Prelude.{◌≡◌, ℕ, List, [], ◌∷◌, Option, Some, None, Result, Ok, Err, pos, refl}
use Rattle.nf_rational.specs.Gcd.{gcd}
use Rattle.nf_rational.specs.Rational.{ℚ, ratio}
use Rattle.nf_rational.specs.Operations.{whole, neg_ℚ, inv_ℚ, ◌+ℚ◌, ◌-ℚ◌, ◌*ℚ◌, ◌/ℚ◌}
use Rattle.nf_rational.specs.Order.{le_ℚ, lt_ℚ, min_ℚ, max_ℚ}
use Rattle.nf_frac_def.specs.Passing.{beyond}
use Rattle.nf_frac_def.specs.Checked.{checked}
use Rattle.nf_frac_def.specs.declared.Op.{Op}
use Rattle.nf_frac_def.specs.declared.Passed.{Passed}
use Rattle.nf_frac_def.specs.declared.PassedAt.{PassedAt}
use Rattle.nf_frac_def.specs.declared.Part.{Part}
use Rattle.nf_frac_def.specs.declared.Part.TheVariants.{Check as OfCheck, Load}
use Rattle.nf_frac_def.specs.declared.Op.TheVariants.{Sum, Quotient}
use Rattle.nf_model.specs.Curve.{Point}
use Rattle.nf_model.specs.Network.{Network, Piece}
use Rattle.nf_model.specs.Equilibrium.{Trace, Flow}
use Rattle.nf_frac_def.proofs.Examples.{n, in_127_bits, Parts, parts_of}
use Rattle.nf_thin_def.proofs.Examples.{L, link, i}
use Rattle.nf_thin_def.proofs.Runs.{points_in, two_links}
use Rattle.nf_curve_def.specs.Lines.{checked_slope, checked_line, checked_inverse, checked_cross}
use Rattle.nf_curve_def.specs.Values.{checked_value, checked_cut}
use Rattle.nf_curve_def.specs.Times.{both_times}
use Rattle.nf_curve_def.specs.Sums.{checked_sum}
use Rattle.nf_curve_def.specs.Least.{checked_least}
use Rattle.nf_curve_def.specs.Composed.{checked_composed}
use Rattle.nf_curve_def.specs.Short.{checked_short}
use Rattle.nf_curve_def.specs.Differences.{checked_difference}
use Rattle.nf_load_def.specs.Cumulative.{checked_cumulative}
use Rattle.nf_load_def.specs.Loading.{Loaded, grown, drained, exit_after, checked_loading}
use Rattle.nf_load_def.specs.Loads.{load_link_list}
use Rattle.nf_check_def.specs.declared.CheckRule.TheVariants.{C2, C3, C7}
use Rattle.nf_check_def.specs.declared.Subject.TheVariants.{Node, Link as OfLink}
use Rattle.nf_check_def.specs.declared.Answer.{Answer}
use Rattle.nf_check_def.specs.declared.Answer.TheVariants.{Yes, No}
use Rattle.nf_check_def.specs.Curves.{least_exits, total_in, total_out}
use Rattle.nf_check_def.specs.Routes.{checked_middle, detour_list}
use Rattle.nf_check_def.specs.CheckList.{trial, check_list}

-- ---- by numerators and denominators
abbrev loaded_in : Result Loaded (Passed ℚ) → Option (List (List (Parts × Parts)))
loaded_in (Ok loaded) = Some (points_in loaded.queue ∷ points_in loaded.outflow ∷ points_in loaded.exit ∷ [])
loaded_in (Err p) = None

abbrev answer_in : Result (Answer ℕ ℕ ℚ) (PassedAt ℚ) → Result (Answer ℕ ℕ Parts) (Part × (Op × (Parts × Parts)))
answer_in (Ok Yes) = Ok Yes
answer_in (Ok (No rule subject time left right)) = Ok (No rule subject (parts_of time) (parts_of left) (parts_of right))
answer_in (Err p) = Err (p.part, (p.op, (parts_of p.left, parts_of p.right)))

-- ---- one link of transit time 1 and capacity 1, loaded at rate 2 from time 0 to 2
abbrev two_then_none : List Piece
two_then_none = record { start = n 0; rate = n 2 } ∷ record { start = n 2; rate = n 0 } ∷ []

loading : loaded_in (load_link_list in_127_bits (n 4) (link 0 1 (n 1) (Some (n 1)), two_then_none))
    ≡ Some (((i 0, i 0) ∷ (i 2, i 2) ∷ (i 4, i 0) ∷ []) ∷ ((i 0, i 0) ∷ (i 1, i 0) ∷ (i 5, i 4) ∷ []) ∷ ((i 0, i 1) ∷ (i 2, i 5) ∷ (i 4, i 5) ∷ []) ∷ [])
unfolding load_link_list checked_cumulative checked_loading checked_cut checked_value checked_short checked_slope checked_line grown drained exit_after
    checked beyond whole ratio gcd neg_ℚ inv_ℚ ◌+ℚ◌ ◌-ℚ◌ ◌*ℚ◌ ◌/ℚ◌ le_ℚ lt_ℚ min_ℚ
loading = refl

-- ---- two links from source to sink: transit times 1 and 3, capacities 1, supplied at rate 3
abbrev trace : List Point → List ℚ → Trace
trace points rates = record { points = points; rates = rates }

-- its report to 4, with the points of the first link's inflow as given
abbrev flow_with : ℚ → ℚ → ℚ → Flow
flow_with rate amount later = record {
  reached = n 4;
  labels = ((n 0, n 0) ∷ (n 4, n 4) ∷ []) ∷ ((n 0, n 1) ∷ (n 1, n 4) ∷ (n 4, ratio (pos 17) 2) ∷ []) ∷ [];
  inflows = trace ((n 0, n 0) ∷ (n 1, amount) ∷ (n 4, ratio (pos 15) 2) ∷ []) (rate ∷ later ∷ [])
      ∷ trace ((n 0, n 0) ∷ (n 1, n 0) ∷ (n 4, ratio (pos 9) 2) ∷ []) (n 0 ∷ ratio (pos 3) 2 ∷ []) ∷ [];
  outflows = trace ((n 0, n 0) ∷ (n 1, n 0) ∷ (ratio (pos 17) 2, ratio (pos 15) 2) ∷ []) (n 0 ∷ n 1 ∷ [])
      ∷ trace ((n 0, n 0) ∷ (n 4, n 0) ∷ (ratio (pos 17) 2, ratio (pos 9) 2) ∷ []) (n 0 ∷ n 1 ∷ []) ∷ [];
  queues = ((n 0, n 0) ∷ (n 1, n 2) ∷ (n 4, ratio (pos 7) 2) ∷ []) ∷ ((n 0, n 0) ∷ (n 1, n 0) ∷ (n 4, ratio (pos 3) 2) ∷ []) ∷ [];
}

-- it is an equilibrium
accepted : answer_in (check_list in_127_bits two_links (flow_with (n 3) (n 3) (ratio (pos 3) 2))) ≡ Ok Yes
unfolding check_list trial least_exits total_in total_out detour_list checked_middle checked_difference checked_composed checked_least checked_sum
    both_times checked_inverse checked_cross checked_cumulative checked_loading checked_cut checked_value checked_short checked_slope checked_line grown
    drained exit_after checked beyond whole ratio gcd neg_ℚ inv_ℚ ◌+ℚ◌ ◌-ℚ◌ ◌*ℚ◌ ◌/ℚ◌ le_ℚ lt_ℚ min_ℚ max_ℚ
accepted = refl

-- an amount that doesn't fit its rate
other_rate : answer_in (check_list in_127_bits two_links (flow_with (n 3) (ratio (pos 22) 7) (ratio (pos 3) 2))) ≡ Ok (No C2 (OfLink 0) (i 0) (i 3) (pos 22, 7))
unfolding check_list trial least_exits total_in total_out detour_list checked_middle checked_difference checked_composed checked_least checked_sum
    both_times checked_inverse checked_cross checked_cumulative checked_loading checked_cut checked_value checked_short checked_slope checked_line grown
    drained exit_after checked beyond whole ratio gcd neg_ℚ inv_ℚ ◌+ℚ◌ ◌-ℚ◌ ◌*ℚ◌ ◌/ℚ◌ le_ℚ lt_ℚ min_ℚ max_ℚ
other_rate = refl

-- with the rates that agree with it, the sink's label differs: the first corner is where the two links' exits cross
other_label : answer_in (check_list in_127_bits two_links (flow_with (ratio (pos 22) 7) (ratio (pos 22) 7) (ratio (pos 61) 42))) ≡ Ok
    (No C3 (Node 1) (pos 14, 15) (pos 19, 5) (pos 59, 15))
unfolding check_list trial least_exits total_in total_out detour_list checked_middle checked_difference checked_composed checked_least checked_sum
    both_times checked_inverse checked_cross checked_cumulative checked_loading checked_cut checked_value checked_short checked_slope checked_line grown
    drained exit_after checked beyond whole ratio gcd neg_ℚ inv_ℚ ◌+ℚ◌ ◌-ℚ◌ ◌*ℚ◌ ◌/ℚ◌ le_ℚ lt_ℚ min_ℚ max_ℚ
other_label = refl

-- all flow is on the first link: less has arrived at the sink than was supplied
abbrev first_only : Flow
first_only = record {
  reached = n 4;
  labels = ((n 0, n 0) ∷ (n 4, n 4) ∷ []) ∷ ((n 0, n 1) ∷ (n 1, n 4) ∷ (n 4, n 7) ∷ []) ∷ [];
  inflows = trace ((n 0, n 0) ∷ (n 4, n 12) ∷ []) (n 3 ∷ []) ∷ trace ((n 0, n 0) ∷ []) [] ∷ [];
  outflows = trace ((n 0, n 0) ∷ (n 1, n 0) ∷ (n 7, n 6) ∷ []) (n 0 ∷ n 1 ∷ []) ∷ trace ((n 0, n 0) ∷ []) [] ∷ [];
  queues = ((n 0, n 0) ∷ (n 4, n 8) ∷ []) ∷ ((n 0, n 0) ∷ []) ∷ [];
}

too_little : answer_in (check_list in_127_bits two_links first_only) ≡ Ok (No C7 (Node 1) (i 4) (i 6) (i 12))
unfolding check_list trial least_exits total_in total_out detour_list checked_middle checked_difference checked_composed checked_least checked_sum
    both_times checked_inverse checked_cross checked_cumulative checked_loading checked_cut checked_value checked_short checked_slope checked_line grown
    drained exit_after checked beyond whole ratio gcd neg_ℚ inv_ℚ ◌+ℚ◌ ◌-ℚ◌ ◌*ℚ◌ ◌/ℚ◌ le_ℚ lt_ℚ min_ℚ max_ℚ
too_little = refl

-- the sink sends flow that has not reached it
abbrev network_c : Network
network_c = record {
  nodes = 3;
  source = 0;
  sink = 1;
  links = link 0 1 (n 3) (Some (n 1)) ∷ link 1 2 (n 1) (Some (n 1)) ∷ link 2 1 (n 1) (Some (n 1)) ∷ [];
  pieces = record { start = n 0; rate = n 0 } ∷ [];
}

abbrev half : ℚ
half = ratio (pos 1) 2

abbrev in_a_circle : Flow
in_a_circle = record {
  reached = n 1;
  labels = ((n 0, n 0) ∷ (n 1, n 1) ∷ []) ∷ ((n 0, n 3) ∷ (n 1, n 4) ∷ []) ∷ ((n 0, n 4) ∷ (n 1, n 5) ∷ []) ∷ [];
  inflows = trace ((n 0, n 0) ∷ []) [] ∷ trace ((n 0, n 0) ∷ (half, half) ∷ []) (n 1 ∷ []) ∷ trace ((n 0, n 0) ∷ (n 1, n 0) ∷ (ratio (pos 3) 2, half) ∷ []) (n 0 ∷ n 1 ∷ []) ∷ [];
  outflows =
      trace ((n 0, n 0) ∷ []) [] ∷ trace ((n 0, n 0) ∷ (n 1, n 0) ∷ (ratio (pos 3) 2, half) ∷ []) (n 0 ∷ n 1 ∷ []) ∷ trace
      ((n 0, n 0) ∷ (n 2, n 0) ∷ (ratio (pos 5) 2, half) ∷ []) (n 0 ∷ n 1 ∷ []) ∷ [];
  queues = ((n 0, n 0) ∷ []) ∷ ((n 0, n 0) ∷ []) ∷ ((n 0, n 0) ∷ []) ∷ [];
}

sent_early : answer_in (check_list in_127_bits network_c in_a_circle) ≡ Ok (No C7 (Node 1) (pos 1, 2) (i 0) (pos 1, 2))
unfolding check_list trial least_exits total_in total_out detour_list checked_middle checked_difference checked_composed checked_least checked_sum
    both_times checked_inverse checked_cross checked_cumulative checked_loading checked_cut checked_value checked_short checked_slope checked_line grown
    drained exit_after checked beyond whole ratio gcd neg_ℚ inv_ℚ ◌+ℚ◌ ◌-ℚ◌ ◌*ℚ◌ ◌/ℚ◌ le_ℚ lt_ℚ min_ℚ max_ℚ
sent_early = refl

-- ---- operations that pass
-- one link, horizon and reached time L: the sum of L and the transit time
abbrev one_link : Network
one_link = record { nodes = 2; source = 0; sink = 1; links = link 0 1 (n 1) (Some (n 1)) ∷ []; pieces = record { start = n 0; rate = n 2 } ∷ [] }

abbrev long : Flow
long = record {
  reached = n L;
  labels = ((n 0, n 0) ∷ (n L, n L) ∷ []) ∷ ((n 0, n 1) ∷ []) ∷ [];
  inflows = trace ((n 0, n 0) ∷ []) [] ∷ [];
  outflows = trace ((n 0, n 0) ∷ []) [] ∷ [];
  queues = ((n 0, n 0) ∷ []) ∷ [];
}

passes_in_load : answer_in (check_list in_127_bits one_link long) ≡ Err (Load, (Sum, (i L, i 1)))
unfolding check_list trial least_exits total_in total_out detour_list checked_middle checked_difference checked_composed checked_least checked_sum
    both_times checked_inverse checked_cross checked_cumulative checked_loading checked_cut checked_value checked_short checked_slope checked_line grown
    drained exit_after checked beyond whole ratio gcd neg_ℚ inv_ℚ ◌+ℚ◌ ◌-ℚ◌ ◌*ℚ◌ ◌/ℚ◌ le_ℚ lt_ℚ min_ℚ max_ℚ
passes_in_load = refl

-- a slope of an inflow beyond the last time tested
abbrev far : Flow
far = record {
  reached = n 0;
  labels = ((n 0, n 0) ∷ []) ∷ ((n 0, n 1) ∷ []) ∷ [];
  inflows = trace ((n 0, n 0) ∷ (n L, ratio (pos 1) 3) ∷ []) (n 0 ∷ []) ∷ [];
  outflows = trace ((n 0, n 0) ∷ []) [] ∷ [];
  queues = ((n 0, n 0) ∷ []) ∷ [];
}

passes_in_check : answer_in (check_list in_127_bits one_link far) ≡ Err (OfCheck, (Quotient, ((pos 1, 3), i L)))
unfolding check_list trial least_exits total_in total_out detour_list checked_middle checked_difference checked_composed checked_least checked_sum
    both_times checked_inverse checked_cross checked_cumulative checked_loading checked_cut checked_value checked_short checked_slope checked_line grown
    drained exit_after checked beyond whole ratio gcd neg_ℚ inv_ℚ ◌+ℚ◌ ◌-ℚ◌ ◌*ℚ◌ ◌/ℚ◌ le_ℚ lt_ℚ min_ℚ max_ℚ
passes_in_check = refl

-- ---- the lesser of two lines that meet at a point of both
abbrev both_in : Result (List Point) (Passed ℚ) → Option (List (Parts × Parts))
both_in (Ok points) = Some (points_in points)
both_in (Err p) = None

lesser : both_in (checked_least in_127_bits ((n 0, n 1) ∷ (n 4, n 13) ∷ []) ((n 0, n 3) ∷ (n 4, n 7) ∷ [])) ≡ Some ((i 0, i 1) ∷ (i 1, i 4) ∷ (i 4, i 7) ∷ [])
unfolding checked_least both_times checked_value checked_cross checked_line checked_slope checked beyond whole ratio gcd neg_ℚ inv_ℚ ◌+ℚ◌ ◌-ℚ◌ ◌*ℚ◌ ◌/ℚ◌ le_ℚ lt_ℚ min_ℚ
lesser = refl

-- ---- unbounded links: with `two_links`'s first link unbounded, loaded at rate 2
unbounded_loading : loaded_in (load_link_list in_127_bits (n 3) (link 0 1 (n 1) None, record { start = n 0; rate = n 2 } ∷ []))
    ≡ Some (((i 0, i 0) ∷ (i 3, i 0) ∷ []) ∷ ((i 0, i 0) ∷ (i 1, i 0) ∷ (i 4, i 6) ∷ []) ∷ ((i 0, i 1) ∷ (i 3, i 4) ∷ []) ∷ [])
unfolding load_link_list checked_cumulative checked_loading checked_cut checked_value checked_short checked_slope checked_line grown drained exit_after
    checked beyond whole ratio gcd neg_ℚ inv_ℚ ◌+ℚ◌ ◌-ℚ◌ ◌*ℚ◌ ◌/ℚ◌ le_ℚ lt_ℚ min_ℚ
unbounded_loading = refl
