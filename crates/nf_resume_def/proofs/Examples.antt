-- A computed example of resuming: two links with transit times 1 and 3 and capacities 1, supplied at rate 3, at departure 2. The report to
-- 2, and the report to 4 with 2 as the departure reached, are cut to the same run state.
use Rattle.std.specs.Prelude.{◌≡◌, ℕ, List, [], ◌∷◌, Option, Some, None, Result, Ok, Err, map, pos, refl}
use Rattle.std.specs.Option.{option_map}
use Rattle.nf_rational.specs.Gcd.{gcd}
use Rattle.nf_rational.specs.Rational.{ℚ, ratio}
use Rattle.nf_rational.specs.Operations.{whole, neg_ℚ, inv_ℚ, ◌+ℚ◌, ◌-ℚ◌, ◌*ℚ◌, ◌/ℚ◌}
use Rattle.nf_rational.specs.Order.{le_ℚ, lt_ℚ, min_ℚ, max_ℚ}
use Rattle.nf_frac_def.specs.Passing.{beyond}
use Rattle.nf_frac_def.specs.Checked.{checked, ◌>>=◌}
use Rattle.nf_frac_def.specs.declared.PassedAt.{PassedAt}
use Rattle.nf_model.specs.declared.State.TheVariants.{Full}
use Rattle.nf_model.specs.Curve.{Point}
use Rattle.nf_model.specs.Equilibrium.{Trace, Flow}
use Rattle.nf_thin_def.specs.ReportCurves.{GrowingCurve, LinkCurves}
use Rattle.nf_thin_def.specs.PhaseRun.{Standing}
use Rattle.nf_net_def.specs.Report.{Report}
use Rattle.nf_frac_def.proofs.Examples.{n, in_127_bits, Parts, parts_of}
use Rattle.nf_thin_def.proofs.Examples.{i}
use Rattle.nf_thin_def.proofs.Runs.{points_in, two_links}
use Rattle.nf_curve_def.specs.Lines.{checked_slope, checked_line, checked_inverse, checked_cross}
use Rattle.nf_curve_def.specs.Values.{checked_value, checked_cut}
use Rattle.nf_curve_def.specs.Times.{both_times}
use Rattle.nf_curve_def.specs.Sums.{checked_sum}
use Rattle.nf_curve_def.specs.Least.{checked_least}
use Rattle.nf_curve_def.specs.Composed.{checked_composed}
use Rattle.nf_curve_def.specs.Short.{checked_short}
use Rattle.nf_curve_def.specs.Differences.{checked_difference}
use Rattle.nf_load_def.specs.Cumulative.{checked_cumulative}
use Rattle.nf_load_def.specs.Loading.{grown, drained, exit_after, checked_loading}
use Rattle.nf_check_def.specs.Curves.{least_exits, total_in, total_out}
use Rattle.nf_check_def.specs.Routes.{checked_middle, detour_list}
use Rattle.nf_check_def.specs.CheckList.{trial, check_list}
use Rattle.nf_phase_def.specs.Restoring.{restore_list}
use Rattle.nf_resume_def.specs.Resuming.{Restart, Refused, Stands, cut_flow, restart_list, resume_list}

abbrev curve_in : GrowingCurve → List (Parts × Parts) × Option Parts
curve_in c = (points_in c.points, option_map parts_of c.slope)

abbrev trace_in : Trace → List (Parts × Parts) × List Parts
trace_in t = (points_in t.points, map parts_of t.rates)

abbrev link_in : LinkCurves → (List (Parts × Parts) × List Parts) × ((List (Parts × Parts) × List Parts) × (List (Parts × Parts) × Option Parts))
link_in c = (trace_in c.inflow, (trace_in c.outflow, curve_in c.queue))

-- The labels, their curves, and the curves of the links.
abbrev Seen : Type 0
Seen =
    List Parts × (List (List (Parts × Parts) × Option Parts) × List ((List (Parts × Parts) × List Parts)
    × ((List (Parts × Parts) × List Parts) × (List (Parts × Parts) × Option Parts))))

abbrev standing_in : Standing → Seen
standing_in s = (map parts_of s.labels, (map curve_in s.label_curves, map link_in s.link_curves))

abbrev outcome_in : Result Restart (PassedAt ℚ) → Option Seen
outcome_in (Ok (Stands s)) = Some (standing_in s)
outcome_in (Ok (Refused answer)) = None
outcome_in (Err p) = None

abbrev half : ℕ → ℚ
half k = ratio (pos k) 2

abbrev trace : List Point → List ℚ → Trace
trace points rates = record { points = points; rates = rates }

abbrev to_2 : Flow
to_2 = record {
  reached = n 2;
  labels = ((n 0, n 0) ∷ (n 2, n 2) ∷ []) ∷ ((n 0, n 1) ∷ (n 1, n 4) ∷ (n 2, half 11) ∷ []) ∷ [];
  inflows = trace ((n 0, n 0) ∷ (n 1, n 3) ∷ (n 2, half 9) ∷ []) (n 3 ∷ half 3 ∷ []) ∷ trace ((n 0, n 0) ∷ (n 1, n 0) ∷ (n 2, half 3) ∷ []) (n 0 ∷ half 3 ∷ []) ∷ [];
  outflows = trace ((n 0, n 0) ∷ (n 1, n 0) ∷ (half 11, half 9) ∷ []) (n 0 ∷ n 1 ∷ []) ∷ trace ((n 0, n 0) ∷ (n 4, n 0) ∷ (half 11, half 3) ∷ []) (n 0 ∷ n 1 ∷ []) ∷ [];
  queues = ((n 0, n 0) ∷ (n 1, n 2) ∷ (n 2, half 5) ∷ []) ∷ ((n 0, n 0) ∷ (n 1, n 0) ∷ (n 2, half 1) ∷ []) ∷ [];
}

-- The report to 4, of which only the part up to 2 counts; the source's label has one more point.
abbrev beyond_2 : Flow
beyond_2 = record {
  reached = n 2;
  labels = ((n 0, n 0) ∷ (n 1, n 1) ∷ (n 4, n 4) ∷ []) ∷ ((n 0, n 1) ∷ (n 1, n 4) ∷ (n 4, half 17) ∷ []) ∷ [];
  inflows = trace ((n 0, n 0) ∷ (n 1, n 3) ∷ (n 4, half 15) ∷ []) (n 3 ∷ half 3 ∷ []) ∷ trace ((n 0, n 0) ∷ (n 1, n 0) ∷ (n 4, half 9) ∷ []) (n 0 ∷ half 3 ∷ []) ∷ [];
  outflows = trace ((n 0, n 0) ∷ (n 1, n 0) ∷ (half 17, half 15) ∷ []) (n 0 ∷ n 1 ∷ []) ∷ trace ((n 0, n 0) ∷ (n 4, n 0) ∷ (half 17, half 9) ∷ []) (n 0 ∷ n 1 ∷ []) ∷ [];
  queues = ((n 0, n 0) ∷ (n 1, n 2) ∷ (n 4, half 7) ∷ []) ∷ ((n 0, n 0) ∷ (n 1, n 0) ∷ (n 4, half 3) ∷ []) ∷ [];
}

abbrev report : Flow → Report
report flow = record { horizon = n 2; flow = flow; stop = None; last = None ∷ Some Full ∷ [] }

abbrev h : ℕ → Parts
h k = (pos k, 2)

abbrev expected : Option Seen
expected = Some (
  i 2 ∷ h 11 ∷ [],
  (
    (((i 0, i 0) ∷ (i 2, i 2) ∷ [], Some (i 1)) ∷ ((i 0, i 1) ∷ (i 1, i 4) ∷ (i 2, h 11) ∷ [], Some (h 3)) ∷ []),
    ((
      ((i 0, i 0) ∷ (i 1, i 3) ∷ (i 2, h 9) ∷ [], i 3 ∷ h 3 ∷ []),
      (
        ((i 0, i 0) ∷ (i 1, i 0) ∷ (h 11, h 9) ∷ [], i 0 ∷ i 1 ∷ []),
        ((i 0, i 0) ∷ (i 1, i 2) ∷ (i 2, h 5) ∷ [], Some (h 1)),
      ),
    )
        ∷ (
          ((i 0, i 0) ∷ (i 1, i 0) ∷ (i 2, h 3) ∷ [], i 0 ∷ h 3 ∷ []),
          (
            ((i 0, i 0) ∷ (i 4, i 0) ∷ (h 11, h 3) ∷ [], i 0 ∷ i 1 ∷ []),
            ((i 0, i 0) ∷ (i 1, i 0) ∷ (i 2, h 1) ∷ [], Some (h 1)),
          ),
        ) ∷ []),
  ),
)

resumed_at_2 : outcome_in (resume_list in_127_bits two_links (report to_2)) ≡ expected
unfolding resume_list restart_list cut_flow restore_list check_list trial least_exits total_in total_out detour_list checked_middle checked_difference
    checked_composed checked_least checked_sum both_times checked_inverse checked_cross checked_cumulative checked_loading checked_cut checked_value
    checked_short checked_slope checked_line grown drained exit_after checked beyond whole ratio gcd neg_ℚ inv_ℚ ◌+ℚ◌ ◌-ℚ◌ ◌*ℚ◌ ◌/ℚ◌ le_ℚ lt_ℚ min_ℚ max_ℚ
resumed_at_2 = refl

cut_at_2 : outcome_in (resume_list in_127_bits two_links (report beyond_2)) ≡ expected
unfolding resume_list restart_list cut_flow restore_list check_list trial least_exits total_in total_out detour_list checked_middle checked_difference
    checked_composed checked_least checked_sum both_times checked_inverse checked_cross checked_cumulative checked_loading checked_cut checked_value
    checked_short checked_slope checked_line grown drained exit_after checked beyond whole ratio gcd neg_ℚ inv_ℚ ◌+ℚ◌ ◌-ℚ◌ ◌*ℚ◌ ◌/ℚ◌ le_ℚ lt_ℚ min_ℚ max_ℚ
cut_at_2 = refl
