-- The operation sequence of a check, split as the code is.
use Rattle.std.specs.Prelude.{ℕ, ◌==◌, if◌then◌else◌, List, Ok}
use Rattle.std.specs.List.{enumerate_from}
use Rattle.nf_rational.specs.Rational.{ℚ}
use Rattle.nf_frac_def.specs.Passing.{Passing}
use Rattle.nf_frac_def.specs.Checked.{Checked, each, ◌>>=◌}
use Rattle.nf_frac_def.specs.declared.Part.TheVariants.{Load, Check}
use Rattle.nf_model.specs.Curve.{Point}
use Rattle.nf_model.specs.Network.{Network}
use Rattle.nf_model.specs.Equilibrium.{Flow, points_at}
use Rattle.nf_curve_def.specs.Sums.{checked_sum}
use Rattle.nf_curve_def.specs.Composed.{checked_composed}
use Rattle.nf_curve_def.specs.Differences.{checked_difference}
use Rattle.nf_load_def.specs.Cumulative.{checked_cumulative}
use Rattle.nf_load_def.specs.Loading.{Loaded}
use Rattle.nf_check_def.specs.declared.CheckRule.{CheckRule}
use Rattle.nf_check_def.specs.declared.CheckRule.TheVariants.{C3, C7}
use Rattle.nf_check_def.specs.declared.Subject.{Subject}
use Rattle.nf_check_def.specs.declared.Subject.TheVariants.{Node}
use Rattle.nf_check_def.specs.Rules.{numbers_of_nodes, numbers_of_links, nodes_but}
use Rattle.nf_check_def.specs.Trial.{Trial, in_part, unless}
use Rattle.nf_check_def.specs.Curves.{departures}
use Rattle.nf_check_def.specs.CheckList.{compared, label_cut, inflow_rule, link_rates, loading, arrivals, outflow_rule, queue_rule, balance, sink_rules, route}
use Rattle.nf_check_rules.specs.Trials.{done}

-- compares two curves up to the time `last`
abbrev pub compared_by : Passing → CheckRule → Subject ℕ ℕ → List Point → List Point → ℚ → Trial (Unit {0})
compared_by passes rule subject left right last = do
  difference ← in_part Check (checked_difference passes left right last)
  unless rule subject difference

-- the inflow of a node, with the supply at the source
abbrev pub with_supply_by : Passing → Network → List Point → ℕ → List Point → Checked (List Point)
with_supply_by passes net supplied v total = if v == net.source then checked_sum passes total supplied else Ok total

-- compares the amount that has entered the sink by an arrival with the amount that has left it plus the supply up to the departure
abbrev pub stays_by : Passing → ℕ → List Point → List Point → List Point → List Point → ℚ → Trial (Unit {0})
stays_by passes sink label comes goes supplied reached = do
  come ← in_part Check (checked_composed passes comes label reached)
  gone ← in_part Check (checked_composed passes goes label reached)
  total ← in_part Check (checked_sum passes gone supplied)
  compared_by passes C7 (Node sink) come total reached

module _ (passes : Passing) (net : Network) (flow : Flow) where
  -- the labels up to the departure reached, and the loadings; C1 and C2, which need only points, are tested first
  unfoldable pub worked_list : Trial (List (List Point) × List Loaded)
  worked_list = do
    labels ← each (label_cut passes net flow) (numbers_of_nodes net)
    _ ← done (each (inflow_rule passes net flow) (numbers_of_links net))
    _ ← done (each (link_rates passes net flow) (numbers_of_links net))
    loaded ← each (loading passes net flow labels) (enumerate_from 0 net.links)
    Ok (labels, loaded)

  module _ (labels : List (List Point)) (loaded : List Loaded) where
    -- C3: the labels at the source and at the other nodes
    unfoldable pub arrivals_list : Trial (Unit {0})
    arrivals_list = do
      _ ← compared passes net flow C3 (Node net.source) (points_at labels net.source) (departures flow.reached) flow.reached
      done (each (arrivals passes net flow labels loaded) (nodes_but net.source net))

    -- C4 and C5: the printed outflows and queues of the links
    unfoldable pub told_list : Trial (Unit {0})
    told_list = do
      _ ← done (each (outflow_rule passes net flow labels loaded) (enumerate_from 0 net.links))
      done (each (queue_rule passes net flow labels loaded) (enumerate_from 0 net.links))

    -- C6 and C7: conservation at the nodes and at the sink
    unfoldable pub balances_list : Trial (Unit {0})
    balances_list = do
      supplied ← in_part Load (checked_cumulative passes net.pieces flow.reached)
      _ ← done (each (balance passes net flow labels loaded supplied) (nodes_but net.sink net))
      sink_rules passes net flow labels loaded supplied

    unfoldable pub compared_list : Trial (Unit {0})
    compared_list = do
      _ ← arrivals_list
      _ ← told_list
      _ ← balances_list
      done (each (route passes net flow labels loaded) (enumerate_from 0 net.links))

  unfoldable pub tested_list : Trial (Unit {0})
  tested_list = do
    worked ← worked_list
    compared_list worked.0 worked.1
