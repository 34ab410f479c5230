-- Preconditions of a check.
use Rattle.std.specs.Prelude.{◌≡◌, ℕ, ◌<◌, List, length, Ok}
use Rattle.nf_rational.specs.Rational.{ℚ}
use Rattle.nf_frac_def.specs.Passing.{passes_Q}
use Rattle.nf_frac_def.specs.Checked.{each}
use Rattle.nf_model.specs.Network.{Network}
use Rattle.nf_model.specs.Equilibrium.{points_at}
use Rattle.nf_curve_def.specs.Values.{checked_cut}
use Rattle.nf_check_def.specs.Rules.{numbers_of_nodes}
use Rattle.nf_check_def.specs.CheckList.{label_cut}
use Rattle.nf_check_laws.specs.Laws.{CanBeChecked}
use Rattle.nf_check_rules.specs.Kept.{points_of_each}
use Rattle.nf_curve.specs.Points.{Grown}
use Rattle.nf_curve.specs.Flows.{seen_flow}
use Rattle.nf_curve.specs.declared.flow.Flow.{Flow}

-- one label per node, one curve of each other kind per link, and the conditions of `CanBeChecked`
pub record IsGivenFlow (net : Network) (flow : Flow) : Type 0 where
  pub labels : length flow.labels.items ≡ net.nodes
  pub inflows : length flow.inflows.items ≡ length net.links
  pub outflows : length flow.outflows.items ≡ length net.links
  pub queues : length flow.queues.items ≡ length net.links
  pub checked : CanBeChecked net (seen_flow flow)

-- each curve is its own cut at the time `last`
abbrev pub AreWhole : List Grown → ℚ → Type 0
AreWhole curves last = (v : ℕ) → v < length curves → checked_cut passes_Q (points_at (points_of_each curves) v) last ≡ Ok (points_at (points_of_each curves) v)

-- the labels cut at the departure reached, none of which breaks C1
abbrev pub AreCut : Network → Flow → List Grown → Type 0
AreCut net flow labels = each (label_cut passes_Q net (seen_flow flow)) (numbers_of_nodes net) ≡ Ok (points_of_each labels)
