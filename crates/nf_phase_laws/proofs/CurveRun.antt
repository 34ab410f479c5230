-- The curves built phase by phase from the start are those of an equilibrium.
use Rattle.std.proofs.Common.{◌≡◌, ℕ, ◌<◌, List, [], ◌∷◌, if◌then◌else◌, Bool, true, false, ⊎_elim, sym, ap, subst, refl, ◌∙◌}
use Rattle.nf_phase_laws.proofs.Common.{ℚ, 0ℚ, ◌+ℚ◌, ◌-ℚ◌, ◌*ℚ◌, ◌≤ℚ◌, ◌<ℚ◌, lt_ℚ, reading_of, ≤ℚ_antisymm, lt_ℚ_cases, eq, eq_times, linear_eq, number_at}
use Rattle.nf_phase_laws.proofs.Common.{Point, value, slope, Link, Network, IsNetwork, IsLink, hops, rate_at, slacks_of, AreStartLabels, Lasts, IsPhase}
use Rattle.nf_phase_laws.proofs.Common.{Flow, HasShape, HasSlopes, Equilibrium, quotient-gap, same_from_times, by_first, rate_from-not_negative, HoldsUpTo}
use Rattle.nf_phase_laws.proofs.Common.{StartsEmpty, GoesOn, DescribesLinks, DescriptionGoesOn, LastPoint, at, CurvesStand, CurvesGoOn, DescriptionStands}
use Rattle.nf_phase_laws.proofs.Common.{DescriptionCurvesGoOn, Curves, first_points, FirstCurves, GrowByPhases, begin, grow, curves_of}
use Rattle.nf_phase_laws.proofs.Holds.{IsNashFlow-from_HoldsUpTo, link_within}
use Rattle.nf_phase_laws.proofs.Start.{HoldsUpTo-start, transit_sum-not_negative}
use Rattle.nf_phase_laws.proofs.Phases.{Lasts-phase, Stands, stands_after}
use Rattle.nf_phase_laws.proofs.Still.{leaves_none, comes_none}
use Rattle.nf_phase_laws.proofs.Length.{IsPhaseLength-some}
use Rattle.nf_phase_laws.proofs.Description.{IsOutflow-described, IsQueue-described, DescribesLinks-start, DescribesLinks-lasts}
use Rattle.nf_phase_laws.proofs.CurveSteps.{GoesOn-curves, CurvesStand-after}
use Rattle.nf_phase_laws.proofs.DescriptionCurves.{DescriptionGoesOn-curves, DescriptionStands-after}

-- ---- the first points
flat_start : (l t : ℚ) → 0ℚ <ℚ l → value ((0ℚ, 0ℚ) ∷ (l, 0ℚ) ∷ []) t ≡ 0ℚ
flat_start l t h = by_first (0ℚ, 0ℚ) (l, 0ℚ) [] t (λ _ e. e ∙ level (slope (0ℚ, 0ℚ) (l, 0ℚ)) t (same_from_times l _ 0ℚ h (turn l _ (quotient-gap (0ℚ -ℚ 0ℚ) 0ℚ l h)))) (λ _ e. e)
  where
    level : (n t : ℚ) → n ≡ 0ℚ → 0ℚ +ℚ n *ℚ (t -ℚ 0ℚ) ≡ 0ℚ
    level n t e = linear_eq (n ∷ t ∷ []) (eq_times t e ∷ []) (search reading_of) tt tt

    turn : (l n : ℚ) → n *ℚ (l -ℚ 0ℚ) ≡ 0ℚ -ℚ 0ℚ → l *ℚ n ≡ l *ℚ 0ℚ
    turn l n e = linear_eq (l ∷ n ∷ []) (eq e ∷ []) (search reading_of) tt tt

abbrev points_if : ℚ → Bool → List Point
points_if l b = if b then (0ℚ, 0ℚ) ∷ (l, 0ℚ) ∷ [] else (0ℚ, 0ℚ) ∷ []

first_value : (l t : ℚ) → value (first_points l) t ≡ 0ℚ
first_value l t = ⊎_elim
    (λ (w : (lt_ℚ 0ℚ l ≡ true) × (0ℚ <ℚ l)). ap (λ (b : Bool). value (points_if l b) t) w.0 ∙ flat_start l t w.1)
    (λ (w : (lt_ℚ 0ℚ l ≡ false) × (l ≤ℚ 0ℚ)). ap (λ (b : Bool). value (points_if l b) t) w.0)
    (lt_ℚ_cases 0ℚ l)

first_last : (l : ℚ) → 0ℚ ≤ℚ l → LastPoint (first_points l) (l, 0ℚ)
first_last l h = ⊎_elim
    (λ (w : (lt_ℚ 0ℚ l ≡ true) × (0ℚ <ℚ l)). subst (λ (b : Bool). LastPoint (points_if l b) (l, 0ℚ)) (sym w.0) (two w.1))
    (λ (w : (lt_ℚ 0ℚ l ≡ false) × (l ≤ℚ 0ℚ)). subst (λ (b : Bool). LastPoint (points_if l b) (l, 0ℚ)) (sym w.0)
    (subst (λ (z : ℚ). LastPoint ((0ℚ, 0ℚ) ∷ []) (z, 0ℚ)) (≤ℚ_antisymm _ _ h w.1) one))
    (lt_ℚ_cases 0ℚ l)
  where
    two : 0ℚ <ℚ l → LastPoint ((0ℚ, 0ℚ) ∷ (l, 0ℚ) ∷ []) (l, 0ℚ)
    two k = record { front = (0ℚ, 0ℚ) ∷ []; same = refl; curve = (refl, (k, tt)) }

    one : LastPoint ((0ℚ, 0ℚ) ∷ []) (0ℚ, 0ℚ)
    one = record { front = []; same = refl; curve = (refl, tt) }

first_stands : (points : List Point) (l z : ℚ) → points ≡ first_points l → z ≡ l → 0ℚ ≤ℚ l → LastPoint points (z, value points z)
first_stands points l z e f h = subst (λ (ps : List Point). LastPoint ps (z, value ps z)) (sym e)
    (subst (λ (y : ℚ). LastPoint (first_points l) (z, y)) (sym (first_value l z)) (subst (λ (a : ℚ). LastPoint (first_points l) (a, 0ℚ)) (sym f) (first_last l h)))

-- ---- facts on curves built phase by phase
pub record Grown (net : Network) (until : ℚ) (labels : List ℚ) (curves : Curves) : Type 0 where
  pub stands : Stands net until labels (at curves.inflows) (at curves.labels)
  pub curves_stand : CurvesStand net curves.inflows curves.labels until
  pub describes : DescribesLinks net (at curves.inflows) (at curves.labels) (at curves.outflows) (at curves.queues) until
  pub description_stands : DescriptionStands net (at curves.labels) curves.outflows curves.queues until

module _ (net : Network) (good : IsNetwork net) (labels : List ℚ) (curves : Curves) (least : AreStartLabels net labels) (first : FirstCurves net labels curves) where
  first_label : (v : ℕ) → v < net.nodes → at curves.labels v 0ℚ ≡ number_at labels v
  first_label v h = ap (λ (ps : List Point). value ps 0ℚ) (first.label_curves v h)

  start : StartsEmpty net labels (at curves.inflows) (at curves.labels)
  start = record {
    nothing = λ e time h _. let l : (link : Link) × IsLink net e link = link_within net e h in
        ap (λ (ps : List Point). value ps time) (first.inflows e l.0 l.1) ∙ first_value (number_at labels l.0.tail) time;
    labels_are = first_label;
  }

  not_negative : (v : ℕ) → v < net.nodes → 0ℚ ≤ℚ number_at labels v
  not_negative v h = subst (λ (a : ℚ). 0ℚ ≤ℚ a) (least.each v h).taken.2 (transit_sum-not_negative net good (least.each v h).taken.0 net.source v (least.each v h).taken.1)

  one_point : (points : List Point) (a : ℚ) → points ≡ (0ℚ, a) ∷ [] → LastPoint points (0ℚ, value points 0ℚ)
  one_point points a e = subst (λ (ps : List Point). LastPoint ps (0ℚ, value ps 0ℚ)) (sym e) (record { front = []; same = refl; curve = (refl, tt) })

  Grown-first : Grown net 0ℚ labels curves
  Grown-first = record {
    stands = record { holds = HoldsUpTo-start net labels (at curves.inflows) (at curves.labels) good least start; same = first_label; count = least.count };
    curves_stand = record {
      labels_end = λ v h. one_point (curves.labels v) _ (first.label_curves v h);
      inflows_end = λ e link p. first_stands (curves.inflows e) _ _ (first.inflows e link p) (first_label link.tail (good.tails e link p)) (not_negative link.tail (good.tails e link p));
    };
    describes = DescribesLinks-start net labels (at curves.inflows) (at curves.labels) (at curves.outflows) (at curves.queues) good least start
        (λ e link time p _. ap (λ (ps : List Point). value ps time) (first.outflows e link p) ∙ first_value _ time)
        (λ e link time p _. ap (λ (ps : List Point). value ps time) (first.queues e link p) ∙ first_value _ time);
    description_stands = record {
      outflows_end = λ e link p. first_stands (curves.outflows e) _ _ (first.outflows e link p) (first_label link.head (good.heads e link p))
          (not_negative link.head (good.heads e link p));
      queues_end = λ e link p. first_stands (curves.queues e) _ _ (first.queues e link p) (first_label link.tail (good.tails e link p)) (not_negative link.tail (good.tails e link p));
    };
  }

module _ (net : Network) (good : IsNetwork net) (horizon time time' : ℚ) (labels labels' : List ℚ) (curves curves' : Curves) (phase : IsPhase net horizon (time, labels) (time', labels'))
    (grown : Grown net time labels curves)
    (go : CurvesGoOn net curves.inflows curves.labels time phase.length (number_at phase.flows) (number_at phase.slopes) curves'.inflows curves'.labels)
    (describe : DescriptionCurvesGoOn net (at curves.labels) (at curves'.labels) curves.outflows curves.queues time phase.length (number_at phase.flows)
    (number_at phase.slopes) curves'.outflows curves'.queues) where
  some : 0ℚ <ℚ phase.length
  some = IsPhaseLength-some net (slacks_of (hops net) labels) phase.slopes time horizon phase.length phase.before phase.is_length

  lasts : Lasts net (slacks_of (hops net) labels) phase.slopes time phase.length
  lasts = Lasts-phase net (slacks_of (hops net) labels) phase.slopes time horizon phase.length phase.before phase.is_length

  rate_nn : 0ℚ ≤ℚ rate_at net time
  rate_nn = rate_from-not_negative net.pieces time good.pieces

  out_of : (e : ℕ) (link : Link) → IsLink net e link → number_at phase.slopes link.tail ≡ 0ℚ → number_at phase.flows e ≡ 0ℚ
  out_of = leaves_none net labels (rate_at net time) phase.flows phase.slopes good rate_nn phase.thin

  into : (e : ℕ) (link : Link) → IsLink net e link → number_at phase.slopes link.head ≡ 0ℚ → number_at phase.flows e ≡ 0ℚ
  into = comes_none net labels (rate_at net time) phase.flows phase.slopes good rate_nn phase.thin

  goes : GoesOn net (at curves.inflows) (at curves.labels) time phase.length (number_at phase.flows) (number_at phase.slopes) (at curves'.inflows) (at curves'.labels)
  goes =
      GoesOn-curves net curves.inflows curves.labels time phase.length (number_at phase.flows)
      (number_at phase.slopes) curves'.inflows curves'.labels good some phase.thin.no_negative_slope out_of grown.curves_stand go

  stands : Stands net time' labels' (at curves'.inflows) (at curves'.labels)
  stands = stands_after net horizon time time' labels labels' (at curves.inflows) (at curves.labels) (at curves'.inflows) (at curves'.labels) phase good grown.stands goes

  holds_after : HoldsUpTo net (at curves'.inflows) (at curves'.labels) (time +ℚ phase.length)
  holds_after = subst (λ (z : ℚ). HoldsUpTo net (at curves'.inflows) (at curves'.labels) z) phase.time stands.holds

  describes_on : DescriptionGoesOn net (at curves.labels) time phase.length (number_at phase.flows) (number_at phase.slopes) (at curves'.labels)
      (at curves.outflows) (at curves.queues) (at curves'.outflows) (at curves'.queues)
  describes_on =
      DescriptionGoesOn-curves net (at curves.inflows) (at curves.labels) (at curves'.inflows) (at curves'.labels) time phase.length (number_at phase.flows)
      (number_at phase.slopes)
      curves.outflows curves.queues curves'.outflows curves'.queues good some phase.thin.no_negative_slope into grown.stands.holds holds_after goes
      grown.describes grown.description_stands describe

  pub Grown-after : Grown net time' labels' curves'
  Grown-after = record {
    stands = stands;
    curves_stand = subst (λ (z : ℚ). CurvesStand net curves'.inflows curves'.labels z) (sym phase.time)
        (CurvesStand-after net curves.inflows curves.labels time phase.length (number_at phase.flows)
        (number_at phase.slopes) curves'.inflows curves'.labels good some phase.thin.no_negative_slope out_of grown.curves_stand go);
    describes = subst (λ (z : ℚ). DescribesLinks net (at curves'.inflows) (at curves'.labels) (at curves'.outflows) (at curves'.queues) z) (sym phase.time)
        (DescribesLinks-lasts net (at curves.inflows) (at curves.labels) (at curves'.inflows) (at curves'.labels) time phase.length labels phase.flows phase.slopes
        (at curves.outflows) (at curves.queues) (at curves'.outflows) (at curves'.queues) good grown.stands.holds grown.stands.same phase.thin lasts goes grown.describes describes_on);
    description_stands = subst (λ (z : ℚ). DescriptionStands net (at curves'.labels) curves'.outflows curves'.queues z) (sym phase.time)
        (DescriptionStands-after net (at curves.inflows) (at curves.labels) (at curves'.inflows) (at curves'.labels) time phase.length (number_at phase.flows) (number_at phase.slopes)
        curves.outflows curves.queues curves'.outflows curves'.queues good some phase.thin.no_negative_slope into grown.stands.holds holds_after goes
        grown.describes grown.description_stands describe);
  }

pub grown_by : (net : Network) (until : ℚ) (labels : List ℚ) (curves : Curves) → IsNetwork net → GrowByPhases net until labels curves → Grown net until labels curves
grown_by net until labels curves good (begin _ _ least first) = Grown-first net good labels curves least first
grown_by net until labels curves good (grow horizon time _ before _ curves_0 _ phase earlier go describe) =
    Grown-after net good horizon time until before labels curves_0 curves phase (grown_by net time before curves_0 good earlier) go describe

pub Equilibrium-grown : (net : Network) (labels : List ℚ) (flow : Flow) → IsNetwork net → Grown net flow.reached labels (curves_of flow)
    → HasShape net flow → HasSlopes flow.inflows → HasSlopes flow.outflows → Equilibrium net flow
Equilibrium-grown net labels flow good g shape inflow_rates outflow_rates = record {
  reached = g.stands.holds.begun;
  shape = shape;
  nash = IsNashFlow-from_HoldsUpTo net _ _ flow.reached good g.stands.holds;
  inflow_rates = inflow_rates;
  outflow_rates = outflow_rates;
  outflows = IsOutflow-described net _ _ _ _ flow.reached good g.stands.holds g.describes;
  queues = IsQueue-described net _ _ _ _ flow.reached good g.stands.holds g.describes;
}

pub Equilibrium-phases : (net : Network) (labels : List ℚ) (flow : Flow) → IsNetwork net → GrowByPhases net flow.reached labels (curves_of flow)
    → HasShape net flow → HasSlopes flow.inflows → HasSlopes flow.outflows → Equilibrium net flow
Equilibrium-phases net labels flow good run = Equilibrium-grown net labels flow good (grown_by net flow.reached labels (curves_of flow) good run)
