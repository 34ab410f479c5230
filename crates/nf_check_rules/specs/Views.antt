-- The values of a borrowed view.
use Rattle.std.specs.Prelude.{List}
use Rattle.nf_frac_def.specs.Passing.{Passing, passes_Q}
use Rattle.nf_model.specs.Curve.{Point}
use Rattle.nf_model.specs.Network.{Network}
use Rattle.nf_model.specs.Equilibrium.{Flow}
use Rattle.nf_load_def.specs.Loading as lists
use Rattle.nf_curve.specs.Flows.{seen_flow}
use Rattle.nf_check_rules.specs.declared.worked.Worked.{Worked}
use Rattle.nf_check_rules.specs.Kept.{points_of_each, loadings_of}

abbrev pub network_in : Worked → Network
network_in w = w.net.now.net

abbrev pub flow_in : Worked → Flow
flow_in w = seen_flow w.flow.now

abbrev pub labels_in : Worked → List (List Point)
labels_in w = points_of_each w.labels.now

abbrev pub loaded_in : Worked → List lists.Loaded
loaded_in w = loadings_of w.loaded.now

-- a rule, applied to the values of a view
abbrev pub in_view : {A : Type 0} → (Passing → Network → Flow → List (List Point) → List lists.Loaded → A) → Worked → A
in_view rule w = rule passes_Q (network_in w) (flow_in w) (labels_in w) (loaded_in w)
