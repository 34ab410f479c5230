-- A run restored from an equilibrium in short form that ends at its labels.
use Rattle.std.proofs.Common.{◌≡◌, ℕ, ◌<◌, List, [], ◌∷◌, length, sym, ap, subst, refl, ◌∙◌, arith, Option, Some, None, slice_get, Ok}
use Rattle.nf_phase_equilibrium_laws.proofs.Common.{slice_get_within, ℚ, Point, IsCurve, IsShort, Network, IsNetwork, Flow, points_at, points_of, Equilibrium}
use Rattle.nf_rational_laws.proofs.Results.{same_Ok}
use Rattle.nf_frac_def.specs.Passing.{Passing}
use Rattle.nf_frac_def.specs.Checked.{Checked, each}
use Rattle.nf_model.specs.Pattern.{Pattern}
use Rattle.nf_thin_def.specs.ReportCurves.{GrowingCurve, LinkCurves}
use Rattle.nf_thin_def.specs.PhaseRun.{Standing, IsShortFlow, flow_of}
use Rattle.nf_curve_def.specs.Lines.{checked_slope}
use Rattle.nf_curve_laws.proofs.Operations.{then_ok}
use Rattle.nf_phase_def.specs.Restoring.{standing_of, last_slope, growing, restore_list, EndsAtItsLabels, IsRestored}
use Rattle.nf_phase_laws.proofs.Short.{HasOnePoint, IsShortCurve}
use Rattle.nf_phase_laws.proofs.ShortRun.{AreShort, ShortRun}
use Rattle.nf_phase_laws.proofs.WellRun.{label_points, inflow_points, outflow_points, queue_points, WellRun}
use Rattle.nf_phase_equilibrium_laws.proofs.Restored.{each_back, growing-points, queue_of, flow-same, WellRun-restored}

-- ---- the list of restoring
pub record Parts (passes : Passing) (flow : Flow) (last : Pattern) (s : Standing) : Type 0 where
  pub label_curves : List GrowingCurve
  pub queues : List GrowingCurve
  pub by_labels : each (growing passes) flow.labels ≡ Ok label_curves
  pub by_queues : each (growing passes) flow.queues ≡ Ok queues
  pub is : standing_of flow last label_curves queues ≡ s

parts_of : (passes : Passing) (flow : Flow) (last : Pattern) (s : Standing) → restore_list passes flow last ≡ Ok s → Parts passes flow last s
unfolding restore_list
parts_of passes flow last s e =
    let a = then_ok (each (growing passes) flow.labels) _ s e in
    let b = then_ok (each (growing passes) flow.queues) _ s a.next in
    record { label_curves = a.between; queues = b.between; by_labels = a.first; by_queues = b.first; is = same_Ok _ _ b.next }

-- ---- if no slope is recorded, the curve has one point only
module _ (passes : Passing) where
  some_none : (k : ℚ) → ◌≡◌ {A = Checked (Option ℚ)} (Ok (Some k)) (Ok None) → ⊥
  some_none k e = cc

  has_slope : (p q : Point) (rest : List Point) → last_slope passes (p ∷ q ∷ rest) ≡ Ok None → ⊥
  has_slope p q [] e = let w = then_ok (checked_slope passes p q) (λ (k : ℚ). Ok (Some k)) None e in some_none w.between w.next
  has_slope p q (r ∷ rest) e = has_slope q r rest e

  one_point : (points : List Point) (o : Option ℚ) → IsCurve points → last_slope passes points ≡ Ok o → HasOnePoint points o
  one_point points (Some r) c e = tt
  one_point [] None c e = absurd c
  one_point (p ∷ []) None c e = (p, refl)
  one_point (p ∷ q ∷ rest) None c e = absurd (has_slope p q rest e)

  short_curve : (points : List Point) (c : GrowingCurve) → growing passes points ≡ Ok c → IsCurve c.points → IsShort c.points → IsShortCurve c
  short_curve points c e curve short =
      let w = then_ok (last_slope passes points) (λ (slope : Option ℚ). Ok (record { points = points; slope = slope })) c e in
      let same : record { points = points; slope = w.between } ≡ c = same_Ok _ _ w.next in
      record {
        short = short;
        one = subst (λ (g : GrowingCurve). HasOnePoint g.points g.slope) same
            (one_point points w.between (subst IsCurve (growing-points passes points c e) curve) w.first);
      }

-- ---- a run that is restored
module _ (passes : Passing) (net : Network) (good : IsNetwork net) (flow : Flow) (last : Pattern) (s : Standing) (is : Equilibrium net flow) (ends : EndsAtItsLabels net flow)
    (stands : restore_list passes flow last ≡ Ok s) where
  parts : Parts passes flow last s
  parts = parts_of passes flow last s stands

  pub well_from : WellRun net s
  well_from = subst (WellRun net) parts.is (WellRun-restored passes net flow last good is ends parts.label_curves parts.queues parts.by_labels parts.by_queues)

  pub flow_from : flow_of s ≡ flow
  flow_from = subst (λ (n : Standing). flow_of n ≡ flow) parts.is (flow-same passes net flow last good is ends parts.label_curves parts.queues parts.by_labels parts.by_queues)

  pub last_from : s.last ≡ last
  last_from = subst (λ (n : Standing). n.last ≡ last) parts.is refl

  -- ---- its curves are in short form
  module _ (short : IsShortFlow net flow) where
    inside_labels : (v : ℕ) (c : GrowingCurve) → slice_get s.label_curves v ≡ Some c → v < net.nodes
    inside_labels v c h = let b = slice_get_within s.label_curves v c h in let n = well_from.label_count in omega arith

    inside_links : (e : ℕ) (c : LinkCurves) → slice_get s.link_curves e ≡ Some c → e < length net.links
    inside_links e c h = let b = slice_get_within s.link_curves e c h in let n = well_from.link_count in omega arith

    label_short : (v : ℕ) (c : GrowingCurve) → slice_get s.label_curves v ≡ Some c → IsShortCurve c
    label_short v c h =
        let x = each_back (growing passes) flow.labels parts.label_curves v c parts.by_labels (subst (λ (n : Standing). slice_get n.label_curves v ≡ Some c) (sym parts.is) h) in
        let same : points_at flow.labels v ≡ c.points = ap (λ (f : Flow). points_at f.labels v) (sym flow_from) ∙ label_points s v c h in
        let inside = inside_labels v c h in
        short_curve passes x.0 c x.1 (subst IsCurve same (is.shape.labels.each v inside)) (subst IsShort same (short.labels v inside))

    link_short : (e : ℕ) (c : LinkCurves) → slice_get s.link_curves e ≡ Some c → AreShort c
    link_short e c h =
        let inside = inside_links e c h in
        let x = queue_of passes net flow last good is ends parts.label_curves parts.queues parts.by_labels parts.by_queues e c
        (subst (λ (n : Standing). slice_get n.link_curves e ≡ Some c) (sym parts.is) h) in
        let same : points_at flow.queues e ≡ c.queue.points = ap (λ (f : Flow). points_at f.queues e) (sym flow_from) ∙ queue_points s e c h in
        record {
          inflow = subst IsShort (ap (λ (f : Flow). points_at (points_of f.inflows) e) (sym flow_from) ∙ inflow_points s e c h) (short.inflows e inside);
          outflow = subst IsShort (ap (λ (f : Flow). points_at (points_of f.outflows) e) (sym flow_from) ∙ outflow_points s e c h) (short.outflows e inside);
          queue = short_curve passes x.0 c.queue x.1 (subst IsCurve same (is.shape.queues.each e inside)) (subst IsShort same (short.queues e inside));
        }

    pub short_from : ShortRun s
    short_from = record { labels = label_short; links = link_short }

module _ (passes : Passing) (net : Network) (good : IsNetwork net) (s : Standing) (r : IsRestored passes net s) where
  pub well_restored : WellRun net s
  well_restored = well_from passes net good r.flow r.last s r.equilibrium r.ends r.stands

  pub flow_restored : flow_of s ≡ r.flow
  flow_restored = flow_from passes net good r.flow r.last s r.equilibrium r.ends r.stands

  pub last_restored : s.last ≡ r.last
  last_restored = last_from passes net good r.flow r.last s r.equilibrium r.ends r.stands

  pub short_restored : ShortRun s
  short_restored = short_from passes net good r.flow r.last s r.equilibrium r.ends r.stands r.short
