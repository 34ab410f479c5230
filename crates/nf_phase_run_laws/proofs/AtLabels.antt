-- There is a thin flow for the labels of any departure up to which the invariant of phases holds. So there is one for the labels of an
-- equilibrium and of a run state.
use Rattle.std.proofs.Common.{◌≡◌, ℕ, List, subst, Option}
use Rattle.nf_phase_run_laws.proofs.Common.{ℚ, 0ℚ, ◌≤ℚ◌, not_both_ℚ, ≤ℚ_refl, same_slacks, Passing, Within, Link, Network, IsNetwork, IsLink, hop_of}
use Rattle.nf_phase_run_laws.proofs.Common.{rate_at, slack, sets_at, Flow, label, Equilibrium, Cause, Report, IsWellFormed, Standing, Bounds, IsPhaseRun}
use Rattle.nf_phase_run_laws.proofs.Common.{WellRun, WellRun-start, WellRun-runs, WellRun-on, IsResumed, HasThinFlow, active_of_slack, slack_of_resetting}
use Rattle.nf_phase_run_laws.proofs.Common.{rate_from-not_negative, AreSets-sets_at, HoldNoCycle-sets_at, link_slack, HoldsUpTo, LabelsAre, grown_at, End}
use Rattle.nf_phase_run_laws.proofs.Common.{IsForeverRun, well_forever}
use Rattle.nf_thin_laws.specs.ActiveLinks.{EachIsEntered}
use Rattle.nf_phase_equilibrium_laws.proofs.Invariant.{HoldsUpTo-equilibrium}
use Rattle.nf_phase_run_laws.proofs.Restarting.{well_restarted}
use Rattle.nf_complete_laws.specs.Oversupply.{ResetsAreBounded}
use Rattle.nf_complete_laws.proofs.Supplied.{IsOversupply-some}
use Rattle.nf_complete_laws.proofs.Exists.{thin_exists}

-- ---- the invariant of phases holds
module _ (net : Network) (amount by_label : ℕ → ℚ → ℚ) (until departure : ℚ) (labels : List ℚ) (good : IsNetwork net) (holds : HoldsUpTo net amount by_label until)
    (inside : Within 0ℚ until departure) (are : LabelsAre net by_label departure labels) where
  slack-is : (e : ℕ) (link : Link) → IsLink net e link → link_slack by_label link departure ≡ slack labels (hop_of link)
  slack-is e link p = same_slacks _ _ _ _ link.transit (are link.head (good.heads e link p)) (are link.tail (good.tails e link p))

  entered : EachIsEntered net (sets_at net labels)
  entered v h other =
      let n : (e : ℕ) × (link : Link) × IsLink net e link × (link.head ≡ v) × (0ℚ ≤ℚ link_slack by_label link departure) = holds.entered v departure h other inside in
      (n.0, n.1, record { is_link = n.2; active = active_of_slack net labels n.0 n.1 n.2 (subst (λ (s : ℚ). 0ℚ ≤ℚ s) (slack-is n.0 n.1 n.2) n.4); head = n.3 })

  bounded : ResetsAreBounded net (sets_at net labels)
  bounded e link p none reset = not_both_ℚ _ _ (slack_of_resetting net labels e link p reset)
      (subst (λ (s : ℚ). s ≤ℚ 0ℚ) (slack-is e link p) (holds.unbounded e link departure p none inside))

  pub thin_at : HasThinFlow net departure labels
  thin_at = thin_exists IsOversupply-some net (sets_at net labels) (rate_at net departure) good (AreSets-sets_at net labels) (HoldNoCycle-sets_at net labels good) entered bounded
      (rate_from-not_negative net.pieces departure good.pieces)

-- ---- at the labels of an equilibrium
pub thin_in_equilibrium : (net : Network) (flow : Flow) (departure : ℚ) (labels : List ℚ) → IsNetwork net → Equilibrium net flow → Within 0ℚ flow.reached departure
    → LabelsAre net (label flow) departure labels → HasThinFlow net departure labels
thin_in_equilibrium net flow departure labels good is inside are = thin_at net _ (label flow) flow.reached departure labels good (HoldsUpTo-equilibrium net flow good is) inside are

-- ---- the labels of a run state
pub thin_at_standing : (net : Network) (s : Standing) → IsNetwork net → WellRun net s → HasThinFlow net s.time s.labels
thin_at_standing net s good well =
    let stands = (grown_at net good s well).stands in
    thin_at net _ _ s.time s.time s.labels good stands.holds (stands.holds.begun, ≤ℚ_refl s.time) stands.same

module _ (passes : Passing) (net : Network) (good : IsNetwork net) where
  module _ (bounds : Bounds) where
    pub thin_after_run : (last : Standing) (stop : Option (Cause ℚ)) → IsPhaseRun passes net bounds last stop → HasThinFlow net last.time last.labels
    thin_after_run last stop run = thin_at_standing net last good (WellRun-runs passes net good bounds run.first last stop (WellRun-start net good run.first run.start) run.runs)

    pub well_resumed : (old : Report) (last : Standing) (stop : Option (Cause ℚ)) → IsWellFormed net old → IsResumed passes net bounds old last stop → WellRun net last
    well_resumed old last stop formed run = WellRun-on passes net good bounds run.first last stop (well_restarted passes net good old formed run.first run.stands) run.runs

    pub thin_after_resumed : (old : Report) (last : Standing) (stop : Option (Cause ℚ)) → IsWellFormed net old → IsResumed passes net bounds old last stop
        → HasThinFlow net last.time last.labels
    thin_after_resumed old last stop formed run = thin_at_standing net last good (well_resumed old last stop formed run)

  pub thin_after_forever : (phases patterns : ℕ) (last : Standing) (end : End) → IsForeverRun passes net phases patterns last end → HasThinFlow net last.time last.labels
  thin_after_forever phases patterns last end run = thin_at_standing net last good (well_forever passes net good phases patterns last end run)
