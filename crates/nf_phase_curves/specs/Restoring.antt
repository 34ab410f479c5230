-- The restoring operations, link by link.
use Rattle.std.specs.Prelude.{List, Ok}
use Rattle.nf_frac_def.specs.Passing.{Passing}
use Rattle.nf_frac_def.specs.Checked.{Checked, each, ◌>>=◌}
use Rattle.nf_model.specs.Curve.{Point}
use Rattle.nf_model.specs.Equilibrium.{Trace}
use Rattle.nf_thin_def.specs.ReportCurves.{LinkCurves}
use Rattle.nf_phase_def.specs.Restoring.{growing, link_curves_of}

module _ (passes : Passing) where
  abbrev pub of_link : Trace → Trace → List Point → Checked LinkCurves
  of_link inflow outflow queue = do
    grown ← growing passes queue
    Ok (record { inflow = inflow; outflow = outflow; queue = grown })

  abbrev pub of_links : List Trace → List Trace → List (List Point) → Checked (List LinkCurves)
  of_links inflows outflows queues = do
    grown ← each (growing passes) queues
    Ok (link_curves_of inflows outflows grown)
