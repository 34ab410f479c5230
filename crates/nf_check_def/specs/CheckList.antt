-- The operation sequence of a check. Rules are tested in order until an operation passes or a rule is broken.
use Rattle.std.specs.Prelude.{ℕ, ◌==◌, if◌then◌else◌, List, [], ◌∷◌, Option, Some, None, slice_get, unwrap_or, Result, Ok}
use Rattle.std.specs.List.{enumerate_from}
use Rattle.nf_rational.specs.Rational.{ℚ}
use Rattle.nf_rational.specs.Operations.{0ℚ}
use Rattle.nf_rational.specs.Order.{max_ℚ}
use Rattle.nf_frac_def.specs.Passing.{Passing}
use Rattle.nf_frac_def.specs.Checked.{Checked, each, ◌>>=◌}
use Rattle.nf_frac_def.specs.declared.Part.TheVariants.{Load, Check}
use Rattle.nf_frac_def.specs.declared.PassedAt.{PassedAt}
use Rattle.nf_model.specs.Curve.{Point}
use Rattle.nf_model.specs.Network.{Link, Network}
use Rattle.nf_model.specs.Equilibrium.{Trace, Flow, points_at, points_of}
use Rattle.nf_curve_def.specs.Values.{checked_cut}
use Rattle.nf_curve_def.specs.Sums.{checked_sum}
use Rattle.nf_curve_def.specs.Composed.{checked_composed}
use Rattle.nf_curve_def.specs.Differences.{checked_difference}
use Rattle.nf_load_def.specs.Cumulative.{checked_cumulative}
use Rattle.nf_load_def.specs.Loading.{Loaded, checked_loading}
use Rattle.nf_check_def.specs.declared.CheckRule.{CheckRule}
use Rattle.nf_check_def.specs.declared.CheckRule.TheVariants.{C1, C3, C4, C5, C6, C7, C8}
use Rattle.nf_check_def.specs.declared.Subject.{Subject}
use Rattle.nf_check_def.specs.declared.Subject.TheVariants.{Node, Link as OfLink}
use Rattle.nf_check_def.specs.declared.Answer.{Answer}
use Rattle.nf_check_def.specs.Rules.{numbers_of_nodes, numbers_of_links, nodes_but}
use Rattle.nf_check_def.specs.Trial.{Trial, in_part, unless, answer_of}
use Rattle.nf_check_def.specs.PointRules.{negative_point, inflow_fault, rates_list}
use Rattle.nf_check_def.specs.Curves.{greatest_value, last_value, departures, loaded_at, least_exits, total_in, total_out}
use Rattle.nf_check_def.specs.Routes.{detour_list}

-- the trace of a link, or an empty trace if there is none
abbrev pub trace_of : List Trace → ℕ → Trace
trace_of traces e = unwrap_or (slice_get traces e) (record { points = []; rates = [] })

module _ (passes : Passing) (net : Network) (flow : Flow) where
  -- compares two curves up to the time `last`
  abbrev pub compared : CheckRule → Subject ℕ ℕ → List Point → List Point → ℚ → Trial (Unit {0})
  compared rule subject left right last = do
    difference ← in_part Check (checked_difference passes left right last)
    unless rule subject difference

  -- ---- C1: the labels, cut at the departure reached, and the inflows
  abbrev pub label_cut : ℕ → Trial (List Point)
  label_cut v = do
    cut ← in_part Check (checked_cut passes (points_at flow.labels v) flow.reached)
    _ ← unless C1 (Node v) (negative_point cut)
    Ok cut

  abbrev pub inflow_rule : ℕ → Trial (Unit {0})
  inflow_rule e = unless C1 (OfLink e) (inflow_fault (points_at (points_of flow.inflows) e))

  -- ---- C2
  abbrev pub link_rates : ℕ → Trial (Unit {0})
  link_rates e = do
    _ ← rates_list passes (OfLink e) (trace_of flow.inflows e).points (trace_of flow.inflows e).rates
    rates_list passes (OfLink e) (trace_of flow.outflows e).points (trace_of flow.outflows e).rates

  -- ---- loading of each link, up to the greater of the greatest labels of its tail and head
  abbrev pub loading : List (List Point) → ℕ × Link → Trial Loaded
  loading labels (e, link) = in_part Load (checked_loading passes link.transit link.capacity (points_at (points_of flow.inflows) e)
      (max_ℚ (greatest_value (points_at labels link.tail)) (greatest_value (points_at labels link.head))))

  -- ---- C3
  abbrev pub arrival_at : List (List Point) → ℕ → Option (List Point) → Trial (Unit {0})
  arrival_at labels v None = Ok tt
  arrival_at labels v (Some exits) = compared C3 (Node v) (points_at labels v) exits flow.reached

  abbrev pub arrivals : List (List Point) → List Loaded → ℕ → Trial (Unit {0})
  arrivals labels loaded v = do
    exits ← in_part Check (least_exits passes labels loaded flow.reached net.links v)
    arrival_at labels v exits

  -- ---- C4 and C5
  abbrev pub outflow_rule : List (List Point) → List Loaded → ℕ × Link → Trial (Unit {0})
  outflow_rule labels loaded (e, link) =
      compared C4 (OfLink e) (points_at (points_of flow.outflows) e) (loaded_at loaded e).outflow (last_value (points_at labels link.head))

  abbrev pub queue_rule : List (List Point) → List Loaded → ℕ × Link → Trial (Unit {0})
  queue_rule labels loaded (e, link) = compared C5 (OfLink e) (points_at flow.queues e) (loaded_at loaded e).queue
      (last_value (points_at labels link.tail))

  -- ---- C6: the supply enters at the source
  abbrev pub with_supply : List Point → ℕ → List Point → Checked (List Point)
  with_supply supplied v total = if v == net.source then checked_sum passes total supplied else Ok total

  abbrev pub balance : List (List Point) → List Loaded → List Point → ℕ → Trial (Unit {0})
  balance labels loaded supplied v = do
    comes ← in_part Check (total_in passes loaded net.links v)
    total ← in_part Check (with_supply supplied v comes)
    goes ← in_part Check (total_out passes (points_of flow.inflows) net.links v)
    compared C6 (Node v) total goes (if v == net.source then flow.reached else last_value (points_at labels v))

  -- ---- C7
  abbrev pub first_value : List Point → ℚ
  first_value [] = 0ℚ
  first_value (p ∷ rest) = p.1

  abbrev pub sink_rules : List (List Point) → List Loaded → List Point → Trial (Unit {0})
  sink_rules labels loaded supplied = do
    comes ← in_part Check (total_in passes loaded net.links net.sink)
    goes ← in_part Check (total_out passes (points_of flow.inflows) net.links net.sink)
    _ ← compared C7 (Node net.sink) comes goes (first_value (points_at labels net.sink))
    come ← in_part Check (checked_composed passes comes (points_at labels net.sink) flow.reached)
    gone ← in_part Check (checked_composed passes goes (points_at labels net.sink) flow.reached)
    total ← in_part Check (checked_sum passes gone supplied)
    compared C7 (Node net.sink) come total flow.reached

  -- ---- C8
  abbrev pub route : List (List Point) → List Loaded → ℕ × Link → Trial (Unit {0})
  route labels loaded (e, link) = do
    detour ← in_part Check (detour_list passes (points_at (points_of flow.inflows) e) (loaded_at loaded e).exit (points_at labels link.tail)
        (points_at labels link.head) flow.reached)
    unless C8 (OfLink e) detour

  -- ---- the whole check
  unfoldable pub trial : Trial (List (Unit {0}))
  trial = do
    labels ← each label_cut (numbers_of_nodes net)
    _ ← each inflow_rule (numbers_of_links net)
    _ ← each link_rates (numbers_of_links net)
    loaded ← each (loading labels) (enumerate_from 0 net.links)
    _ ← compared C3 (Node net.source) (points_at labels net.source) (departures flow.reached) flow.reached
    _ ← each (arrivals labels loaded) (nodes_but net.source net)
    _ ← each (outflow_rule labels loaded) (enumerate_from 0 net.links)
    _ ← each (queue_rule labels loaded) (enumerate_from 0 net.links)
    supplied ← in_part Load (checked_cumulative passes net.pieces flow.reached)
    _ ← each (balance labels loaded supplied) (nodes_but net.sink net)
    _ ← sink_rules labels loaded supplied
    each (route labels loaded) (enumerate_from 0 net.links)

  unfoldable pub check_list : Result (Answer ℕ ℕ ℚ) (PassedAt ℚ)
  check_list = answer_of trial
