-- The report of an equilibrium is well formed.
use Rattle.std.proofs.Common.{◌≡◌, ℕ, suc, ◌↔◌, List, [], ◌∷◌, length, None, refl, ap}
use Rattle.nf_net_laws.proofs.Common.{ℚ, ◌≤ℚ◌, Link, Network, IsLink}
use Rattle.nf_model.specs.declared.State.TheVariants.{Full}
use Rattle.nf_model.specs.Curve.{AreSlopes}
use Rattle.nf_model.specs.Equilibrium.{Trace, HasSlopes, Equilibrium}
use Rattle.nf_model.specs.Pattern.{HasState}
use Rattle.nf_net_def.specs.Report.{Report, HaveRates, IsWellFormed}

pub slopes_count : (points : List (ℚ × ℚ)) (rates : List ℚ) → AreSlopes points rates → length points ≡ suc (length rates)
slopes_count [] rates h = absurd h
slopes_count (p ∷ []) [] h = refl
slopes_count (p ∷ []) (rate ∷ rates) h = absurd h
slopes_count (p ∷ q ∷ points) [] h = absurd h
slopes_count (p ∷ q ∷ points) (rate ∷ rates) h = ap (λ k. suc k) (slopes_count (q ∷ points) rates h.1)

pub have_rates : (traces : List Trace) → HasSlopes traces → HaveRates traces
have_rates traces h e trace is = slopes_count trace.points trace.rates (h e trace is)

pub well_formed : (net : Network) (report : Report) → Equilibrium net report.flow → report.flow.reached ≤ℚ report.horizon → (report.stop ≡ None) ↔ (report.flow.reached ≡ report.horizon)
    → length report.last ≡ length net.links → ((e : ℕ) (link : Link) → IsLink net e link → link.capacity ≡ None → ¬ HasState report.last e Full) → IsWellFormed net report
well_formed net report h horizon stop states no_full = record {
  shape = h.shape;
  inflow_rates = have_rates report.flow.inflows h.inflow_rates;
  outflow_rates = have_rates report.flow.outflows h.outflow_rates;
  reached = h.reached;
  horizon = horizon;
  stop = stop;
  states = states;
  no_full = no_full;
}
