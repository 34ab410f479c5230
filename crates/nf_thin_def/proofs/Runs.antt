-- Runs by computation: phases by these patterns, and the curves of the report at their end.
use Rattle.std.specs.Prelude.{◌≡◌, ℕ, List, [], ◌∷◌, Option, Some, None, Result, Ok, map, length, replicate, pos, refl}
use Rattle.nf_rational.specs.Gcd.{gcd}
use Rattle.nf_rational.specs.Rational.{ℚ, ratio}
use Rattle.nf_rational.specs.Operations.{0ℚ, whole, neg_ℚ, inv_ℚ, ◌+ℚ◌, ◌-ℚ◌, ◌*ℚ◌, ◌/ℚ◌}
use Rattle.nf_rational.specs.Order.{le_ℚ, lt_ℚ, min_ℚ}
use Rattle.nf_frac_def.specs.Passing.{beyond}
use Rattle.nf_frac_def.specs.Checked.{checked, ◌>>=◌}
use Rattle.nf_frac_def.specs.declared.PassedAt.{PassedAt}
use Rattle.nf_model.specs.declared.State.TheVariants.{Tight, Full}
use Rattle.nf_model.specs.Curve.{Point}
use Rattle.nf_model.specs.Network.{Network, rate_at}
use Rattle.nf_model.specs.ThinFlow.{sets_at}
use Rattle.nf_model.specs.Pattern.{Pattern}
use Rattle.nf_model.specs.Equilibrium.{Trace, Flow}
use Rattle.nf_linear_def.specs.Table.{table_list}
use Rattle.nf_thin_def.specs.Equations.{equations}
use Rattle.nf_thin_def.specs.Verdict.{verdict_list}
use Rattle.nf_thin_def.specs.Extend.{extend_list}
use Rattle.nf_thin_def.specs.Advance.{labels_after, advance_list}
use Rattle.nf_thin_def.specs.CurveList.{curve_list}
use Rattle.nf_thin_def.specs.Accepted.{Solved, pattern_lists}
use Rattle.nf_thin_def.specs.ReportCurves.{first_label_curve, first_curves}
use Rattle.nf_frac_def.proofs.Examples.{n, in_127_bits, Parts, parts_of}
use Rattle.nf_thin_def.proofs.Examples.{link, i}
use Rattle.nf_thin_def.specs.PhaseRun.{Standing, phase_lists, standing_after, flow_of}

-- ---- a run to a horizon by these patterns
abbrev pub first_standing : Network → List ℚ → Standing
first_standing net labels = record {
  time = 0ℚ;
  labels = labels;
  label_curves = map first_label_curve labels;
  link_curves = map (first_curves labels) net.links;
  made = 0;
  last = replicate (length net.links) None;
}

abbrev pub with_solved : Network → ℚ → Standing → Pattern → Option Solved → Result (Option Standing) (PassedAt ℚ)
with_solved net horizon s pattern None = Ok None
with_solved net horizon s pattern (Some solved) = do
  step ← phase_lists in_127_bits net horizon s pattern solved.flows solved.slopes
  Ok (Some (standing_after net s pattern solved.slopes step))

abbrev pub phase_by : Network → ℚ → Standing → Pattern → Result (Option Standing) (PassedAt ℚ)
phase_by net horizon s pattern = do
  solved ← pattern_lists in_127_bits net (sets_at net s.labels) (rate_at net s.time) pattern
  with_solved net horizon s pattern solved

abbrev pub and_so_on : (Standing → Result (Option Standing) (PassedAt ℚ)) → Option Standing → Result (Option Standing) (PassedAt ℚ)
and_so_on f None = Ok None
and_so_on f (Some s) = f s

abbrev pub phases_by : Network → ℚ → Standing → List Pattern → Result (Option Standing) (PassedAt ℚ)
phases_by net horizon s [] = Ok (Some s)
phases_by net horizon s (pattern ∷ patterns) = phase_by net horizon s pattern >>= and_so_on (λ next. phases_by net horizon next patterns)

-- ---- its curves, by numerators and denominators
abbrev pub points_in : List Point → List (Parts × Parts)
points_in points = map (λ p. (parts_of p.0, parts_of p.1)) points

pub record Printed : Type 0 where
  pub reached : Parts
  pub labels : List (List (Parts × Parts))
  pub inflows : List (List (Parts × Parts) × List Parts)
  pub outflows : List (List (Parts × Parts) × List Parts)
  pub queues : List (List (Parts × Parts))

abbrev pub printed_trace : Trace → List (Parts × Parts) × List Parts
printed_trace trace = (points_in trace.points, map parts_of trace.rates)

abbrev pub printed : Flow → Printed
printed flow = record {
  reached = parts_of flow.reached;
  labels = map points_in flow.labels;
  inflows = map printed_trace flow.inflows;
  outflows = map printed_trace flow.outflows;
  queues = map points_in flow.queues;
}

abbrev pub printed_run : Result (Option Standing) (PassedAt ℚ) → Option Printed
printed_run (Ok (Some s)) = Some (printed (flow_of s))
printed_run r = None

abbrev pub at : ℕ → ℕ → Parts × Parts
at time value = (i time, i value)

-- ---- one link of transit time 1 and capacity 1, supplied at rate 2 until 2
abbrev pub one_link : Network
one_link = record {
  nodes = 2;
  source = 0;
  sink = 1;
  links = link 0 1 (n 1) (Some (n 1)) ∷ [];
  pieces = record { start = n 0; rate = n 2 } ∷ record { start = n 2; rate = n 0 } ∷ [];
}

-- to 0: no phase
one_link_to_0 : printed_run (phases_by one_link (n 0) (first_standing one_link (n 0 ∷ n 1 ∷ [])) []) ≡ Some (record {
  reached = i 0;
  labels = (at 0 0 ∷ []) ∷ (at 0 1 ∷ []) ∷ [];
  inflows = (at 0 0 ∷ [], []) ∷ [];
  outflows = (at 0 0 ∷ at 1 0 ∷ [], i 0 ∷ []) ∷ [];
  queues = (at 0 0 ∷ []) ∷ [];
})
unfolding whole ratio gcd neg_ℚ inv_ℚ ◌+ℚ◌ ◌-ℚ◌ ◌*ℚ◌ ◌/ℚ◌ le_ℚ lt_ℚ
one_link_to_0 = refl

-- ---- to 4: the queue grows until 2 and then shrinks, while the sink's label is constant
one_link_to_4 : printed_run (phases_by one_link (n 4) (first_standing one_link (n 0 ∷ n 1 ∷ [])) ((Some Full ∷ []) ∷ (None ∷ []) ∷ [])) ≡ Some (record {
  reached = i 4;
  labels = (at 0 0 ∷ at 4 4 ∷ []) ∷ (at 0 1 ∷ at 2 5 ∷ at 4 5 ∷ []) ∷ [];
  inflows = (at 0 0 ∷ at 2 4 ∷ at 4 4 ∷ [], i 2 ∷ i 0 ∷ []) ∷ [];
  outflows = (at 0 0 ∷ at 1 0 ∷ at 5 4 ∷ [], i 0 ∷ i 1 ∷ []) ∷ [];
  queues = (at 0 0 ∷ at 2 2 ∷ at 4 0 ∷ []) ∷ [];
})
unfolding pattern_lists table_list equations verdict_list phase_lists extend_list advance_list labels_after curve_list checked beyond whole ratio gcd neg_ℚ
    inv_ℚ ◌+ℚ◌ ◌-ℚ◌ ◌*ℚ◌ ◌/ℚ◌ le_ℚ lt_ℚ min_ℚ
one_link_to_4 = refl

-- ---- two parallel links, of which the second is longer: it becomes active at 1
abbrev pub two_links : Network
two_links = record {
  nodes = 2;
  source = 0;
  sink = 1;
  links = link 0 1 (n 1) (Some (n 1)) ∷ link 0 1 (n 3) (Some (n 1)) ∷ [];
  pieces = record { start = n 0; rate = n 3 } ∷ [];
}

two_links_to_4 : printed_run (phases_by two_links (n 4) (first_standing two_links (n 0 ∷ n 1 ∷ [])) ((Some Full ∷ None ∷ []) ∷ (None ∷ Some Full ∷ []) ∷ [])) ≡ Some (record {
  reached = i 4;
  labels = (at 0 0 ∷ at 4 4 ∷ []) ∷ (at 0 1 ∷ at 1 4 ∷ (i 4, (pos 17, 2)) ∷ []) ∷ [];
  inflows = (at 0 0 ∷ at 1 3 ∷ (i 4, (pos 15, 2)) ∷ [], i 3 ∷ (pos 3, 2) ∷ []) ∷ (at 0 0 ∷ at 1 0 ∷ (i 4, (pos 9, 2)) ∷ [], i 0 ∷ (pos 3, 2) ∷ []) ∷ [];
  outflows = (at 0 0 ∷ at 1 0 ∷ ((pos 17, 2), (pos 15, 2)) ∷ [], i 0 ∷ i 1 ∷ []) ∷ (at 0 0 ∷ at 4 0 ∷ ((pos 17, 2), (pos 9, 2)) ∷ [], i 0 ∷ i 1 ∷ []) ∷ [];
  queues = (at 0 0 ∷ at 1 2 ∷ (i 4, (pos 7, 2)) ∷ []) ∷ (at 0 0 ∷ at 1 0 ∷ (i 4, (pos 3, 2)) ∷ []) ∷ [];
})
unfolding pattern_lists table_list equations verdict_list phase_lists extend_list advance_list labels_after curve_list checked beyond whole ratio gcd neg_ℚ
    inv_ℚ ◌+ℚ◌ ◌-ℚ◌ ◌*ℚ◌ ◌/ℚ◌ le_ℚ lt_ℚ min_ℚ
two_links_to_4 = refl

-- ---- the supply begins at 5
abbrev pub late : Network
late = record {
  nodes = 2;
  source = 0;
  sink = 1;
  links = link 0 1 (n 1) (Some (n 1)) ∷ [];
  pieces = record { start = n 5; rate = n 2 } ∷ [];
}

late_to_7 : printed_run (phases_by late (n 7) (first_standing late (n 0 ∷ n 1 ∷ [])) ((Some Tight ∷ []) ∷ (Some Full ∷ []) ∷ [])) ≡ Some (record {
  reached = i 7;
  labels = (at 0 0 ∷ at 7 7 ∷ []) ∷ (at 0 1 ∷ at 5 6 ∷ at 7 10 ∷ []) ∷ [];
  inflows = (at 0 0 ∷ at 5 0 ∷ at 7 4 ∷ [], i 0 ∷ i 2 ∷ []) ∷ [];
  outflows = (at 0 0 ∷ at 6 0 ∷ at 10 4 ∷ [], i 0 ∷ i 1 ∷ []) ∷ [];
  queues = (at 0 0 ∷ at 5 0 ∷ at 7 2 ∷ []) ∷ [];
})
unfolding pattern_lists table_list equations verdict_list phase_lists extend_list advance_list labels_after curve_list checked beyond whole ratio gcd neg_ℚ
    inv_ℚ ◌+ℚ◌ ◌-ℚ◌ ◌*ℚ◌ ◌/ℚ◌ le_ℚ lt_ℚ min_ℚ
late_to_7 = refl

-- ---- the network of Braess's paradox: the outer links become active at 1 and at 5
abbrev pub braess : Network
braess = record {
  nodes = 4;
  source = 0;
  sink = 1;
  links = link 0 2 (n 1) (Some (n 3)) ∷ link 0 3 (n 4) (Some (n 1)) ∷ link 2 3 (n 1) (Some (n 1)) ∷ link 2 1 (n 6) (Some (n 2)) ∷ link 3 1 (n 1) (Some (n 4)) ∷ [];
  pieces = record { start = n 0; rate = n 3 } ∷ [];
}

braess_to_8 : printed_run (phases_by braess (n 8) (first_standing braess (n 0 ∷ n 3 ∷ n 1 ∷ n 2 ∷ []))
    ((Some Tight ∷ None ∷ Some Full ∷ None ∷ Some Tight ∷ []) ∷ (Some Tight ∷ Some Full ∷ None ∷ None ∷ Some Tight ∷ []) ∷ (Some Tight ∷ None ∷ None ∷ Some
    Tight ∷ Some Tight ∷ []) ∷ [])) ≡ Some (record {
      reached = i 8;
      labels = (at 0 0 ∷ at 8 8 ∷ []) ∷ (at 0 3 ∷ at 1 6 ∷ at 5 12 ∷ at 8 15 ∷ []) ∷ (at 0 1 ∷ at 8 9 ∷ []) ∷ (at 0 2 ∷ at 1 5 ∷ at 5 11 ∷ at 8 14 ∷ []) ∷ [];
      inflows =
          (at 0 0 ∷ at 1 3 ∷ at 5 9 ∷ at 8 15 ∷ [], i 3 ∷ (pos 3, 2) ∷ i 2 ∷ []) ∷ (
            at 0 0 ∷ at 1 0 ∷ at 5 6 ∷ at 8 9 ∷ [],
            i 0 ∷ (pos 3, 2) ∷ i 1 ∷ [],
          ) ∷ (at 0 0 ∷ at 1 0 ∷ at 2 3 ∷ at 6 9 ∷ at 9 12 ∷ [], i 0 ∷ i 3 ∷ (pos 3, 2) ∷ i 1 ∷ []) ∷ (
            at 0 0 ∷ at 6 0 ∷ at 9 3 ∷ [],
            i 0 ∷ i 1 ∷ [],
          ) ∷ (at 0 0 ∷ at 2 0 ∷ at 5 3 ∷ at 14 21 ∷ [], i 0 ∷ i 1 ∷ i 2 ∷ []) ∷ [];
      outflows =
          (at 0 0 ∷ at 1 0 ∷ at 2 3 ∷ at 6 9 ∷ at 9 15 ∷ [], i 0 ∷ i 3 ∷ (pos 3, 2) ∷ i 2 ∷ []) ∷ (
            at 0 0 ∷ at 5 0 ∷ at 14 9 ∷ [],
            i 0 ∷ i 1 ∷ [],
          ) ∷ (at 0 0 ∷ at 2 0 ∷ at 14 12 ∷ [], i 0 ∷ i 1 ∷ []) ∷ (
            at 0 0 ∷ at 12 0 ∷ at 15 3 ∷ [],
            i 0 ∷ i 1 ∷ [],
          ) ∷ (at 0 0 ∷ at 3 0 ∷ at 6 3 ∷ at 15 21 ∷ [], i 0 ∷ i 1 ∷ i 2 ∷ []) ∷ [];
      queues = (at 0 0 ∷ at 8 0 ∷ []) ∷ (at 0 0 ∷ at 1 0 ∷ at 5 2 ∷ at 8 2 ∷ []) ∷ (at 0 0 ∷ at 1 0 ∷ at 2 2 ∷ at 6 4 ∷ at 9 4 ∷ []) ∷ (at 0 0 ∷ at 9 0 ∷ []) ∷ (at 0 0 ∷ at 14 0 ∷ []) ∷ [];
    })
unfolding pattern_lists table_list equations verdict_list phase_lists extend_list advance_list labels_after curve_list checked beyond whole ratio gcd neg_ℚ
    inv_ℚ ◌+ℚ◌ ◌-ℚ◌ ◌*ℚ◌ ◌/ℚ◌ le_ℚ lt_ℚ min_ℚ
braess_to_8 = refl

-- ---- two unbounded links beside one of capacity 1: the longer one becomes active at 2
abbrev pub unbounded : Network
unbounded = record {
  nodes = 3;
  source = 0;
  sink = 1;
  links = link 0 2 (n 1) None ∷ link 2 1 (n 1) (Some (n 1)) ∷ link 0 1 (n 4) None ∷ [];
  pieces = record { start = n 0; rate = n 2 } ∷ [];
}

unbounded_to_6 : printed_run (phases_by unbounded (n 6) (first_standing unbounded (n 0 ∷ n 2 ∷ n 1 ∷ []))
    ((Some Tight ∷ Some Full ∷ None ∷ []) ∷ (Some Tight ∷ None ∷ Some Tight ∷ []) ∷ [])) ≡ Some (record {
      reached = i 6;
      labels = (at 0 0 ∷ at 6 6 ∷ []) ∷ (at 0 2 ∷ at 2 6 ∷ at 6 10 ∷ []) ∷ (at 0 1 ∷ at 6 7 ∷ []) ∷ [];
      inflows = (at 0 0 ∷ at 2 4 ∷ at 6 8 ∷ [], i 2 ∷ i 1 ∷ []) ∷ (at 0 0 ∷ at 1 0 ∷ at 3 4 ∷ at 7 8 ∷ [], i 0 ∷ i 2 ∷ i 1 ∷ []) ∷ (at 0 0 ∷ at 2 0 ∷ at 6 4 ∷ [], i 0 ∷ i 1 ∷ []) ∷ [];
      outflows = (at 0 0 ∷ at 1 0 ∷ at 3 4 ∷ at 7 8 ∷ [], i 0 ∷ i 2 ∷ i 1 ∷ []) ∷ (at 0 0 ∷ at 2 0 ∷ at 10 8 ∷ [], i 0 ∷ i 1 ∷ []) ∷ (at 0 0 ∷ at 6 0 ∷ at 10 4 ∷ [], i 0 ∷ i 1 ∷ []) ∷ [];
      queues = (at 0 0 ∷ at 6 0 ∷ []) ∷ (at 0 0 ∷ at 1 0 ∷ at 3 2 ∷ at 7 2 ∷ []) ∷ (at 0 0 ∷ at 6 0 ∷ []) ∷ [];
    })
unfolding pattern_lists table_list equations verdict_list phase_lists extend_list advance_list labels_after curve_list checked beyond whole ratio gcd neg_ℚ
    inv_ℚ ◌+ℚ◌ ◌-ℚ◌ ◌*ℚ◌ ◌/ℚ◌ le_ℚ lt_ℚ min_ℚ
unbounded_to_6 = refl
