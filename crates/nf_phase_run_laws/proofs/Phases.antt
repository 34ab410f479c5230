-- Each point of a phase sequence has curves built by its phases, so there is a thin flow for the labels there.
use Rattle.std.proofs.Common.{◌≡◌, ℕ, List, [], ◌∷◌, ◌++◌, if◌then◌else◌, ⊎_elim, Bool, true, false, Option, Some, None, slice_get, sym, ap, subst, refl}
use Rattle.nf_phase_run_laws.proofs.Common.{ℚ, 0ℚ, ◌+ℚ◌, ◌*ℚ◌, ◌≤ℚ◌, ◌<ℚ◌, lt_ℚ, ps_times, <ℚ_irrefl, lt_ℚ_cases, test_of_less, ≤ℚ_refl, later_by, Point}
use Rattle.nf_phase_run_laws.proofs.Common.{number_at, Link, Network, IsNetwork, IsLink, hops, rate_at, slacks_of, AreStartLabels, IsPhase, at, GoesOnTo}
use Rattle.nf_phase_run_laws.proofs.Common.{CurvesStand, CurvesGoOn, IsPhaseLength-some, HasThinFlow, rate_from-not_negative, Curves, first_points}
use Rattle.nf_phase_run_laws.proofs.Common.{FirstCurves, begin, GoesOn, Grown, grown_by, stands_after, leaves_none}
use Rattle.nf_phase_laws.proofs.CurveSteps.{GoesOnTo-appended, GoesOn-curves, CurvesStand-after}
use Rattle.nf_phase_laws.proofs.Phases.{Stands}
use Rattle.nf_phase_run_laws.proofs.AtLabels.{thin_at}

-- Curves of inflows and labels up to this departure, with the labels there.
pub record HasCome (net : Network) (time : ℚ) (labels : List ℚ) : Type 0 where
  pub inflows : ℕ → List Point
  pub label_curves : ℕ → List Point
  pub stands : Stands net time labels (at inflows) (at label_curves)
  pub curves_stand : CurvesStand net inflows label_curves time

pub thin_there : (net : Network) (time : ℚ) (labels : List ℚ) → IsNetwork net → HasCome net time labels → HasThinFlow net time labels
thin_there net time labels good c = thin_at net _ _ time time labels good c.stands.holds (c.stands.holds.begun, ≤ℚ_refl time) c.stands.same

-- ---- at the start
module _ (net : Network) (labels : List ℚ) (good : IsNetwork net) (least : AreStartLabels net labels) where
  abbrev first_by : (Link → ℕ) → Option Link → List Point
  first_by node None = []
  first_by node (Some link) = first_points (number_at labels (node link))

  abbrev curves : Curves
  curves = record {
    labels = λ v. (0ℚ, number_at labels v) ∷ [];
    inflows = λ e. first_by (λ link. link.tail) (slice_get net.links e);
    outflows = λ e. first_by (λ link. link.head) (slice_get net.links e);
    queues = λ e. first_by (λ link. link.tail) (slice_get net.links e);
  }

  first : FirstCurves net labels curves
  first = record {
    label_curves = λ v h. refl;
    inflows = λ e link p. ap (first_by (λ link. link.tail)) p;
    outflows = λ e link p. ap (first_by (λ link. link.head)) p;
    queues = λ e link p. ap (first_by (λ link. link.tail)) p;
  }

  pub HasCome-start : HasCome net 0ℚ labels
  HasCome-start =
      let grown : Grown net 0ℚ labels curves = grown_by net 0ℚ labels curves good (begin labels curves least first) in
      record { inflows = curves.inflows; label_curves = curves.labels; stands = grown.stands; curves_stand = grown.curves_stand }

-- ---- after one more phase
module _ (net : Network) (horizon time time' : ℚ) (labels labels' : List ℚ) (good : IsNetwork net) (phase : IsPhase net horizon (time, labels) (time', labels'))
    (c : HasCome net time labels) where
  abbrev flow : ℕ → ℚ
  flow = number_at phase.flows

  abbrev slope : ℕ → ℚ
  slope = number_at phase.slopes

  abbrev label_at : ℕ → ℚ
  label_at v = at c.label_curves v time

  some : 0ℚ <ℚ phase.length
  some = IsPhaseLength-some net (slacks_of (hops net) labels) phase.slopes time horizon phase.length phase.before phase.is_length

  -- Each label curve is extended by a point, and each inflow is if the label of its tail rises.
  abbrev new_labels : ℕ → List Point
  new_labels v = c.label_curves v ++ (time +ℚ phase.length, label_at v +ℚ slope v *ℚ phase.length) ∷ []

  abbrev end_of : ℕ → Link → Point
  end_of e link = (label_at link.tail +ℚ slope link.tail *ℚ phase.length, at c.inflows e (label_at link.tail) +ℚ flow e *ℚ phase.length)

  abbrev with_end : Bool → ℕ → Link → List Point
  with_end b e link = if b then c.inflows e ++ end_of e link ∷ [] else c.inflows e

  abbrev new_inflow : ℕ → Option Link → List Point
  new_inflow e None = c.inflows e
  new_inflow e (Some link) = with_end (lt_ℚ 0ℚ (slope link.tail)) e link

  abbrev new_inflows : ℕ → List Point
  new_inflows e = new_inflow e (slice_get net.links e)

  not_above : (x : ℚ) → x ≡ 0ℚ → lt_ℚ 0ℚ x ≡ false
  not_above x e = ⊎_elim
      (λ (w : (lt_ℚ 0ℚ x ≡ true) × (0ℚ <ℚ x)). absurd (<ℚ_irrefl 0ℚ (subst (λ (z : ℚ). 0ℚ <ℚ z) e w.1)))
      (λ (w : (lt_ℚ 0ℚ x ≡ false) × (x ≤ℚ 0ℚ)). w.0)
      (lt_ℚ_cases 0ℚ x)

  go : CurvesGoOn net c.inflows c.label_curves time phase.length flow slope new_inflows new_labels
  go = record {
    labels_go = λ v h. GoesOnTo-appended (c.label_curves v) (time, label_at v) _ (c.curves_stand.labels_end v h) (later_by time phase.length some);
    inflows_go = λ e link p s. subst (λ (o : Option Link). GoesOnTo (c.inflows e) (new_inflow e o) (label_at link.tail, at c.inflows e (label_at link.tail)) (end_of e link)) (sym p)
        (subst (λ (b : Bool). GoesOnTo (c.inflows e) (with_end b e link) (label_at link.tail, at c.inflows e (label_at link.tail)) (end_of e link))
        (sym (test_of_less 0ℚ (slope link.tail) s))
        (GoesOnTo-appended (c.inflows e) _ (end_of e link) (c.curves_stand.inflows_end e link p) (later_by (label_at link.tail) _ (ps_times _ _ s some))));
    inflows_stay = λ e link p z. subst (λ (o : Option Link). new_inflow e o ≡ c.inflows e) (sym p) (ap (λ (b : Bool). with_end b e link) (not_above (slope link.tail) z));
  }

  out_of : (e : ℕ) (link : Link) → IsLink net e link → slope link.tail ≡ 0ℚ → flow e ≡ 0ℚ
  out_of = leaves_none net labels (rate_at net time) phase.flows phase.slopes good (rate_from-not_negative net.pieces time good.pieces) phase.thin

  goes : GoesOn net (at c.inflows) (at c.label_curves) time phase.length flow slope (at new_inflows) (at new_labels)
  goes = GoesOn-curves net c.inflows c.label_curves time phase.length flow slope new_inflows new_labels good some phase.thin.no_negative_slope out_of c.curves_stand go

  pub HasCome-after : HasCome net time' labels'
  HasCome-after = record {
    inflows = new_inflows;
    label_curves = new_labels;
    stands = stands_after net horizon time time' labels labels' (at c.inflows) (at c.label_curves) (at new_inflows) (at new_labels) phase good c.stands goes;
    curves_stand = subst (λ (z : ℚ). CurvesStand net new_inflows new_labels z) (sym phase.time)
        (CurvesStand-after net c.inflows c.label_curves time phase.length flow slope new_inflows new_labels good some phase.thin.no_negative_slope out_of c.curves_stand go);
  }
