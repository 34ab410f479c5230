-- The cut flow of an equilibrium is an equilibrium with the same values, and a run can continue it.
use Rattle.std.proofs.Common.{◌≡◌, ℕ, ◌<◌, List, ⊎_elim, sym, ap, subst, ◌∙◌, Ok}
use Rattle.nf_resume_laws.proofs.Common.{length-map, ℚ, 0ℚ, ◌≤ℚ◌, ◌<ℚ◌, ≤ℚ_of_lt, ≤ℚ_of_same, lt_or_le_ℚ, Passing, Point, Within, value, NeverFalls, Link}
use Rattle.nf_resume_laws.proofs.Common.{Network, IsNetwork, IsLink, Flow, Trace, label, inflow, outflow, queue, HasShape, Equilibrium, HoldsUpTo}
use Rattle.nf_resume_laws.proofs.Common.{IsShortFlow, EndsAtItsLabels, cut_flow, ≤ℚ_refl, ≤ℚ_trans, InflowsRise, DescribesLinks, link_within}
use Rattle.nf_resume_laws.proofs.Common.{IsNashFlow-from_HoldsUpTo, GoesOnFrom, label-nn, rises-link}
use Rattle.nf_phase_laws.proofs.Description.{IsOutflow-described, IsQueue-described}
use Rattle.nf_phase_laws.proofs.Points.{end-append}
use Rattle.nf_thin_def.specs.Ends.{time_of_last}
use Rattle.nf_phase_equilibrium_laws.proofs.Invariant.{HoldsUpTo-equilibrium, DescribesLinks-equilibrium}
use Rattle.nf_resume_laws.proofs.Same.{AgreeUpTo, HoldsUpTo-same, DescribesLinks-same}
use Rattle.nf_resume_laws.proofs.CutShort.{IsShortCut}
use Rattle.nf_resume_laws.proofs.CutFlow.{IsCutFlow, cut_flow-is}

-- A cut curve never falls if the curve never falls.
rises-cut : (points short : List Point) (last : ℚ) → 0ℚ ≤ℚ last → IsShortCut points last short → NeverFalls (value points) → NeverFalls (value short)
rises-cut points short last nn c rises s t h k = ⊎_elim
    (λ (l : last <ℚ t). ⊎_elim
    (λ (m : last <ℚ s). ≤ℚ_of_same _ _ (c.after s (≤ℚ_of_lt _ _ m) ∙ sym (c.after t (≤ℚ_of_lt _ _ l))))
    (λ (m : s ≤ℚ last). subst (λ (y : ℚ). value short s ≤ℚ y) (sym (c.after t (≤ℚ_of_lt _ _ l))) (subst (λ (x : ℚ). x ≤ℚ value points last) (sym (c.values s (h, m))) (rises s last h m)))
    (lt_or_le_ℚ last s))
    (λ (l : t ≤ℚ last). subst (λ (y : ℚ). value short s ≤ℚ y) (sym (c.values t (≤ℚ_trans _ _ _ h k, l)))
    (subst (λ (x : ℚ). x ≤ℚ value points t) (sym (c.values s (h, ≤ℚ_trans _ _ _ k l))) (rises s t h k)))
    (lt_or_le_ℚ last t)

module _ (net : Network) (old new : Flow) (good : IsNetwork net) (is : Equilibrium net old) (cut : IsCutFlow net old new) where
  now : Within 0ℚ old.reached old.reached
  now = (is.reached, ≤ℚ_refl old.reached)

  end_nn : (v : ℕ) → v < net.nodes → 0ℚ ≤ℚ label old v old.reached
  end_nn v h = label-nn net old good is v old.reached h now

  agree : AgreeUpTo net (inflow old) (label old) (inflow new) (label new) old.reached
  agree = record { labels = λ v departure h w. (cut.labels v h).values departure w; amounts = λ e link time p w. (cut.inflows e link p).values time w }

  rises : InflowsRise net (inflow new)
  rises e h =
      let l : (link : Link) × IsLink net e link = link_within net e h in
      rises-cut _ _ (label old l.0.tail old.reached) (end_nn l.0.tail (good.tails e l.0 l.1)) (cut.inflows e l.0 l.1) (rises-link net old good is e l.0 l.1)

  pub HoldsUpTo-cut : HoldsUpTo net (inflow new) (label new) old.reached
  HoldsUpTo-cut = HoldsUpTo-same net (inflow old) (label old) (inflow new) (label new) old.reached good (HoldsUpTo-equilibrium net old good is) agree rises

  pub DescribesLinks-cut : DescribesLinks net (inflow new) (label new) (outflow new) (queue new) old.reached
  DescribesLinks-cut = DescribesLinks-same net (inflow old) (label old) (inflow new) (label new) old.reached good (HoldsUpTo-equilibrium net old good is) agree rises
      (outflow old) (queue old) (outflow new) (queue new) (DescribesLinks-equilibrium net old good is)
      (λ e link time p w. (cut.outflows e link p).values time w) (λ e link time p w. (cut.queues e link p).values time w)

  pub HasShape-cut : HasShape net new
  HasShape-cut = record {
    labels = record { count = cut.label_count; each = λ v h. (cut.labels v h).curve };
    inflows = record { count = length-map new.inflows (λ (t : Trace). t.points) ∙ cut.inflow_count; each = λ e h. (let l = link_within net e h in (cut.inflows e l.0 l.1).curve) };
    outflows = record { count = length-map new.outflows (λ (t : Trace). t.points) ∙ cut.outflow_count; each = λ e h. (let l = link_within net e h in (cut.outflows e l.0 l.1).curve) };
    queues = record { count = cut.queue_count; each = λ e h. (let l = link_within net e h in (cut.queues e l.0 l.1).curve) };
  }

  -- the cut flow is an equilibrium
  pub Equilibrium-cut : Equilibrium net new
  Equilibrium-cut =
      let holds : HoldsUpTo net (inflow new) (label new) new.reached = subst (λ (t : ℚ). HoldsUpTo net (inflow new) (label new) t) (sym cut.reached) HoldsUpTo-cut in
      let describes : DescribesLinks net (inflow new) (label new) (outflow new) (queue new) new.reached =
      subst (λ (t : ℚ). DescribesLinks net (inflow new) (label new) (outflow new) (queue new) t) (sym cut.reached) DescribesLinks-cut in
      record {
        reached = holds.begun;
        shape = HasShape-cut;
        nash = IsNashFlow-from_HoldsUpTo net (inflow new) (label new) new.reached good holds;
        inflow_rates = cut.inflow_rates;
        outflow_rates = cut.outflow_rates;
        outflows = IsOutflow-described net (inflow new) (label new) (outflow new) (queue new) new.reached good holds describes;
        queues = IsQueue-described net (inflow new) (label new) (outflow new) (queue new) new.reached good holds describes;
      }

  -- with the same values
  pub GoesOnFrom-cut : GoesOnFrom net old new
  GoesOnFrom-cut = record {
    reached = ≤ℚ_of_same _ _ (sym cut.reached);
    labels = λ v departure h w. (cut.labels v h).values departure w;
    inflows = λ e link time p w. (cut.inflows e link p).values time w;
    outflows = λ e link time p w. (cut.outflows e link p).values time w;
    queues = λ e link time p w. (cut.queues e link p).values time w;
  }

  pub IsShortFlow-cut : IsShortFlow net new
  IsShortFlow-cut = record {
    labels = λ v h. (cut.labels v h).form;
    inflows = λ e h. (let l = link_within net e h in (cut.inflows e l.0 l.1).form);
    outflows = λ e h. (let l = link_within net e h in (cut.outflows e l.0 l.1).form);
    queues = λ e h. (let l = link_within net e h in (cut.queues e l.0 l.1).form);
  }

  -- ---- a run can continue it
  label-same : (v : ℕ) → v < net.nodes → label new v new.reached ≡ label old v old.reached
  label-same v h = ap (label new v) cut.reached ∙ (cut.labels v h).values old.reached now

  end_of_cut : (points short : List Point) (last : ℚ) → IsShortCut points last short → time_of_last short ≡ last
  end_of_cut points short last c = ap time_of_last c.ends.same ∙ end-append c.ends.front (last, value short last)

  pub EndsAtItsLabels-cut : EndsAtItsLabels net new
  EndsAtItsLabels-cut = record {
    labels = λ v h. end_of_cut _ _ old.reached (cut.labels v h) ∙ sym cut.reached;
    inflows = λ e link p. end_of_cut _ _ (label old link.tail old.reached) (cut.inflows e link p) ∙ sym (label-same link.tail (good.tails e link p));
    outflows = λ e link p. end_of_cut _ _ (label old link.head old.reached) (cut.outflows e link p) ∙ sym (label-same link.head (good.heads e link p));
    queues = λ e link p. end_of_cut _ _ (label old link.tail old.reached) (cut.queues e link p) ∙ sym (label-same link.tail (good.tails e link p));
  }

pub Equilibrium-cut_flow : (passes : Passing) (net : Network) (old new : Flow) → IsNetwork net → Equilibrium net old → cut_flow passes net old ≡ Ok new → Equilibrium net new
Equilibrium-cut_flow passes net old new good is e = Equilibrium-cut net old new good is (cut_flow-is passes net old new good is e)

pub GoesOnFrom-cut_flow : (passes : Passing) (net : Network) (old new : Flow) → IsNetwork net → Equilibrium net old → cut_flow passes net old ≡ Ok new → GoesOnFrom net old new
GoesOnFrom-cut_flow passes net old new good is e = GoesOnFrom-cut net old new good is (cut_flow-is passes net old new good is e)

pub IsShortFlow-cut_flow : (passes : Passing) (net : Network) (old new : Flow) → IsNetwork net → Equilibrium net old → cut_flow passes net old ≡ Ok new → IsShortFlow net new
IsShortFlow-cut_flow passes net old new good is e = IsShortFlow-cut net old new good is (cut_flow-is passes net old new good is e)

pub EndsAtItsLabels-cut_flow : (passes : Passing) (net : Network) (old new : Flow) → IsNetwork net → Equilibrium net old → cut_flow passes net old ≡ Ok new → EndsAtItsLabels net new
EndsAtItsLabels-cut_flow passes net old new good is e = EndsAtItsLabels-cut net old new good is (cut_flow-is passes net old new good is e)
