-- Cut curves, as the operation sequences give them.
use Rattle.std.specs.Prelude.{◌≡◌, List, map, Ok}
use Rattle.nf_rational.specs.Rational.{ℚ}
use Rattle.nf_frac_def.specs.Passing.{Passing}
use Rattle.nf_frac_def.specs.Checked.{Checked, ◌>>=◌}
use Rattle.nf_model.specs.Curve.{Point}
use Rattle.nf_model.specs.Equilibrium.{Trace}
use Rattle.nf_resume_def.specs.Resuming as lists
use Rattle.nf_curve.specs.Points.{Grown}
use Rattle.nf_curve.specs.Flows.{seen_trace}
use Rattle.nf_resume.specs.declared.links.CutLink.{CutLink}

abbrev pub points_of_each : List Grown → List (List Point)
points_of_each curves = map (λ c. c.points) curves

abbrev pub cut_in : CutLink → lists.CutLink
cut_in cut = record { inflow = seen_trace cut.inflow; outflow = seen_trace cut.outflow; queue = cut.queue.points }

-- The curves of a link, cut at the labels `tail` and `head` of its ends.
abbrev pub cut_ends : Passing → ℚ → ℚ → List Point → List Point → List Point → Checked lists.CutLink
cut_ends passes tail head inflow outflow queue = do
  inflow ← lists.cut_trace passes tail inflow
  outflow ← lists.cut_trace passes head outflow
  queue ← lists.cut_short passes tail queue
  Ok (record { inflow = inflow; outflow = outflow; queue = queue })

-- Inflows, outflows and queues of these cuts, each kind in its own list.
pub record AreLists (inflows outflows : List Trace) (queues : List (List Point)) (cuts : List lists.CutLink) : Type 0 where
  pub are_inflows : inflows ≡ map (λ (c : lists.CutLink). c.inflow) cuts
  pub are_outflows : outflows ≡ map (λ (c : lists.CutLink). c.outflow) cuts
  pub are_queues : queues ≡ map (λ (c : lists.CutLink). c.queue) cuts
