-- The labels at departure 0, and the sets of their slacks.
use Rattle.std.proofs.Common.{◌≡◌, ℕ, List, length, map, replicate, None, refl, sym, subst}
use Rattle.nf_app.proofs.Common.{ℚ, 0ℚ, ◌≤ℚ◌, ≤ℚ_refl, Within, Link, Network, IsNetwork, IsLink, rate_at, sets_at, AreStartLabels, first_label_curve}
use Rattle.nf_app.proofs.Common.{first_curves, Standing, flow_of, EachIsEntered, NoneEntersSource, HoldNoCycle-sets_at, NoneEntersSource-acyclic}
use Rattle.nf_app.proofs.Common.{AreGoodSets}
use Rattle.nf_model_laws.proofs.Slacks.{active_of_slack}
use Rattle.nf_model_laws.proofs.Supply.{rate_from-not_negative}
use Rattle.nf_phase_laws.specs.Invariant.{link_slack}
use Rattle.nf_phase_laws.specs.CurveSteps.{at}
use Rattle.nf_phase_laws.specs.CurveRun.{Curves, curves_of}
use Rattle.nf_phase_laws.proofs.CurveRun.{Grown}
use Rattle.nf_phase_laws.proofs.Thin.{slack-is}
use Rattle.nf_phase_laws.proofs.WellRun.{WellRun, WellRun-start}
use Rattle.nf_phase_laws.proofs.Standing.{grown_at}
use Rattle.nf_complete_laws.proofs.Stopped.{AreGoodSets-well}

module _ (net : Network) (good : IsNetwork net) (labels : List ℚ) (are : AreStartLabels net labels) where
  -- a run that begins with these labels
  abbrev start : Standing
  start = record {
    time = 0ℚ;
    labels = labels;
    label_curves = map first_label_curve labels;
    link_curves = map (first_curves labels) net.links;
    made = 0;
    last = replicate (length net.links) None;
  }

  well : WellRun net start
  well = WellRun-start net good start (record { time = refl; labels = are; label_curves = refl; link_curves = refl; made = refl; last = refl })

  pub start_sets_good : AreGoodSets net (sets_at net labels)
  start_sets_good = AreGoodSets-well net good start well

  abbrev curves : Curves
  curves = curves_of (flow_of start)

  grown : Grown net 0ℚ labels curves
  grown = grown_at net good start well

  now : Within 0ℚ 0ℚ 0ℚ
  now = (≤ℚ_refl 0ℚ, ≤ℚ_refl 0ℚ)

  -- each node is entered by an active link
  entered : EachIsEntered net (sets_at net labels)
  entered v h other =
      let n : (e : ℕ) × (link : Link) × IsLink net e link × (link.head ≡ v) × (0ℚ ≤ℚ link_slack (at curves.labels) link 0ℚ) = grown.stands.holds.entered v 0ℚ h other now in (
        n.0,
        n.1,
        record {
          is_link = n.2;
          active = active_of_slack net labels n.0 n.1 n.2 (subst (λ (s : ℚ). 0ℚ ≤ℚ s)
              (sym (slack-is net (at curves.inflows) (at curves.labels) 0ℚ labels good grown.stands.holds grown.stands.same n.0 n.1 n.2)) n.4);
          head = n.3;
        },
      )

  -- and none enters the source
  pub start_source : NoneEntersSource net (sets_at net labels)
  start_source = NoneEntersSource-acyclic net (sets_at net labels) good (HoldNoCycle-sets_at net labels good) entered

pub start_rate : (net : Network) → IsNetwork net → 0ℚ ≤ℚ rate_at net 0ℚ
start_rate net good = rate_from-not_negative net.pieces 0ℚ good.pieces
