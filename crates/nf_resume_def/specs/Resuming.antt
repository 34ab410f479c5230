-- The operation sequence of resuming a report: first that of the check, then cutting the flow at the departure reached and putting it into
-- short form, and last restoring the run.
use Rattle.std.specs.Prelude.{ℕ, List, [], ◌∷◌, map, Result, Ok}
use Rattle.nf_rational.specs.Rational.{ℚ}
use Rattle.nf_frac_def.specs.Passing.{Passing}
use Rattle.nf_frac_def.specs.Checked.{Checked, at_part, each, ◌>>=◌}
use Rattle.nf_frac_def.specs.declared.Part.TheVariants.{Curve}
use Rattle.nf_frac_def.specs.declared.PassedAt.{PassedAt}
use Rattle.nf_model.specs.Curve.{Point}
use Rattle.nf_model.specs.Network.{Link, Network}
use Rattle.nf_model.specs.Equilibrium.{Trace, Flow, points_at}
use Rattle.nf_net_def.specs.Report.{Report}
use Rattle.nf_thin_def.specs.PhaseRun.{Standing}
use Rattle.nf_curve_def.specs.Values.{checked_cut}
use Rattle.nf_curve_def.specs.Short.{checked_slopes, checked_short}
use Rattle.nf_check_def.specs.declared.Answer.{Answer}
use Rattle.nf_check_def.specs.declared.Answer.TheVariants.{Yes}
use Rattle.nf_check_def.specs.CheckList.{check_list}
use Rattle.nf_phase_def.specs.Restoring.{value_at_end, restore_list}

-- The result for a report: its flow is no equilibrium, or the run state at its end.
pub data Restart : Type 0 where
  Refused : Answer ℕ ℕ ℚ → Restart
  Stands : Standing → Restart

-- A link with its curves.
pub record OfLink : Type 0 where
  pub link : Link
  pub inflow : List Point
  pub outflow : List Point
  pub queue : List Point

abbrev pub links_with : List Link → List Trace → List Trace → List (List Point) → List OfLink
links_with (link ∷ links) (inflow ∷ inflows) (outflow ∷ outflows) (queue ∷ queues) =
    record { link = link; inflow = inflow.points; outflow = outflow.points; queue = queue } ∷ links_with links inflows outflows queues
links_with links inflows outflows queues = []

-- The cut curves of a link.
pub record CutLink : Type 0 where
  pub inflow : Trace
  pub outflow : Trace
  pub queue : List Point

module _ (passes : Passing) where
  -- A curve up to a last time, in short form.
  abbrev pub cut_short : ℚ → List Point → Checked (List Point)
  cut_short last points = do
    cut ← checked_cut passes points last
    checked_short passes cut

  -- A trace: the cut curve with its rates.
  abbrev pub cut_trace : ℚ → List Point → Checked Trace
  cut_trace last points = do
    short ← cut_short last points
    rates ← checked_slopes passes short
    Ok (record { points = short; rates = rates })

  -- The curves of a link, cut at the last values of the cut labels of its ends.
  abbrev pub cut_link : List (List Point) → OfLink → Checked CutLink
  cut_link labels of_link = do
    inflow ← cut_trace (value_at_end (points_at labels of_link.link.tail)) of_link.inflow
    outflow ← cut_trace (value_at_end (points_at labels of_link.link.head)) of_link.outflow
    queue ← cut_short (value_at_end (points_at labels of_link.link.tail)) of_link.queue
    Ok (record { inflow = inflow; outflow = outflow; queue = queue })

  abbrev pub cut_flow_of : ℚ → List (List Point) → List CutLink → Flow
  cut_flow_of reached labels cuts = record {
    reached = reached;
    labels = labels;
    inflows = map (λ cut. cut.inflow) cuts;
    outflows = map (λ cut. cut.outflow) cuts;
    queues = map (λ cut. cut.queue) cuts;
  }

  -- A flow up to the departure that it reached.
  unfoldable pub cut_flow : Network → Flow → Checked Flow
  cut_flow net flow = do
    labels ← each (cut_short flow.reached) flow.labels
    cuts ← each (cut_link labels) (links_with net.links flow.inflows flow.outflows flow.queues)
    Ok (cut_flow_of flow.reached labels cuts)

  unfoldable pub restart_list : Network → Report → Checked Standing
  restart_list net report = do
    flow ← cut_flow net report.flow
    restore_list passes flow report.last

  abbrev pub after_check : Network → Report → Answer ℕ ℕ ℚ → Result Restart (PassedAt ℚ)
  after_check net report Yes = do
    first ← at_part Curve (restart_list net report)
    Ok (Stands first)
  after_check net report answer = Ok (Refused answer)

  unfoldable pub resume_list : Network → Report → Result Restart (PassedAt ℚ)
  resume_list net report = do
    answer ← check_list passes net report.flow
    after_check net report answer
