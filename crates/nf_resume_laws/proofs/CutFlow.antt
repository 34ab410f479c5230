-- The flow of a report, cut at the departure that it reached and put into short form, curve by curve.
use Rattle.std.proofs.Common.{◌≡◌, ℕ, zero, suc, ◌<◌, List, [], ◌∷◌, length, Some, slice_get, map, sym, ap, subst, refl, ◌∙◌, arith, Ok}
use Rattle.nf_resume_laws.proofs.Common.{slice_get_within, same_Some, length-map, ℚ, 0ℚ, ◌≤ℚ◌, Passing, Point, value, IsCurve, AreSlopes, Link, Network}
use Rattle.nf_resume_laws.proofs.Common.{IsNetwork, IsLink, Trace, Flow, points_at, points_of, label, HasSlopes, Equilibrium, then_ok, value_at_end}
use Rattle.nf_resume_laws.proofs.Common.{≤ℚ_refl, same_Ok, entry, slice_get-image, each, checked_slopes, SlopesFrom, slopes-are, points_is, OfLink, CutLink}
use Rattle.nf_resume_laws.proofs.Common.{links_with, cut_short, cut_trace, cut_link, cut_flow_of, label-nn}
use Rattle.nf_frac_def.proofs.Each.{each_at, each_length}
use Rattle.nf_resume_def.specs.Resuming.{cut_flow}
use Rattle.nf_phase_equilibrium_laws.proofs.Restored.{value_at_end-is}
use Rattle.nf_resume_laws.proofs.CutShort.{IsShortCut, cut_short-is}

-- ---- lists, entry by entry
pub points_of-is : (traces : List Trace) (e : ℕ) (trace : Trace) → slice_get traces e ≡ Some trace → points_at (points_of traces) e ≡ trace.points
points_of-is traces e trace h = points_is (points_of traces) e trace.points (slice_get-image (λ (t : Trace). t.points) traces e trace h)

abbrev pub of_link : Link → Trace → Trace → List Point → OfLink
of_link link inflow outflow queue = record { link = link; inflow = inflow.points; outflow = outflow.points; queue = queue }

pub links_with-at : (links : List Link) (inflows outflows : List Trace) (queues : List (List Point)) (e : ℕ) (link : Link) (i o : Trace) (q : List Point)
    → slice_get links e ≡ Some link → slice_get inflows e ≡ Some i
    → slice_get outflows e ≡ Some o → slice_get queues e ≡ Some q → slice_get (links_with links inflows outflows queues) e ≡ Some (of_link link i o q)
links_with-at [] inflows outflows queues e link i o q h j k l = absurd (cc)
links_with-at (x ∷ links) [] outflows queues e link i o q h j k l = absurd (cc)
links_with-at (x ∷ links) (a ∷ inflows) [] queues e link i o q h j k l = absurd (cc)
links_with-at (x ∷ links) (a ∷ inflows) (b ∷ outflows) [] e link i o q h j k l = absurd (cc)
links_with-at (x ∷ links) (a ∷ inflows) (b ∷ outflows) (c ∷ queues) zero link i o q h j k l = cc
links_with-at (x ∷ links) (a ∷ inflows) (b ∷ outflows) (c ∷ queues) (suc e) link i o q h j k l = links_with-at links inflows outflows queues e link i o q h j k l

pub links_with-length : (links : List Link) (inflows outflows : List Trace) (queues : List (List Point)) → length inflows ≡ length links
    → length outflows ≡ length links → length queues ≡ length links
    → length (links_with links inflows outflows queues) ≡ length links
links_with-length [] inflows outflows queues h j k = refl
links_with-length (x ∷ links) [] outflows queues h j k = absurd (omega arith)
links_with-length (x ∷ links) (a ∷ inflows) [] queues h j k = absurd (omega arith)
links_with-length (x ∷ links) (a ∷ inflows) (b ∷ outflows) [] h j k = absurd (omega arith)
links_with-length (x ∷ links) (a ∷ inflows) (b ∷ outflows) (c ∷ queues) h j k = ap suc (links_with-length links inflows outflows queues (omega arith) (omega arith) (omega arith))

-- ---- the rates of a curve
slopes-from : (p : Point) (rest : List Point) (rates : List ℚ) → SlopesFrom p rest rates → AreSlopes (p ∷ rest) rates
slopes-from p [] rates w = subst (λ (l : List ℚ). AreSlopes (p ∷ []) l) (sym w) tt
slopes-from p (q ∷ rest) rates w = subst (λ (l : List ℚ). AreSlopes (p ∷ q ∷ rest) l) (sym w.1) (refl, slopes-from q rest w.0 w.2)

-- the flow new is the flow old up to the departure reached
pub record IsCutFlow (net : Network) (old new : Flow) : Type 0 where
  pub reached : new.reached ≡ old.reached
  pub label_count : length new.labels ≡ net.nodes
  pub inflow_count : length new.inflows ≡ length net.links
  pub outflow_count : length new.outflows ≡ length net.links
  pub queue_count : length new.queues ≡ length net.links
  pub labels : (v : ℕ) → v < net.nodes → IsShortCut (points_at old.labels v) old.reached (points_at new.labels v)
  pub inflows : (e : ℕ) (link : Link) → IsLink net e link → IsShortCut (points_at (points_of old.inflows) e) (label old link.tail old.reached) (points_at (points_of new.inflows) e)
  pub outflows : (e : ℕ) (link : Link) → IsLink net e link → IsShortCut (points_at (points_of old.outflows) e) (label old link.head old.reached) (points_at (points_of new.outflows) e)
  pub queues : (e : ℕ) (link : Link) → IsLink net e link → IsShortCut (points_at old.queues e) (label old link.tail old.reached) (points_at new.queues e)
  pub inflow_rates : HasSlopes new.inflows
  pub outflow_rates : HasSlopes new.outflows

module _ (passes : Passing) (net : Network) (old : Flow) (good : IsNetwork net) (is : Equilibrium net old) (labels : List (List Point))
    (by_labels : each (cut_short passes old.reached) old.labels ≡ Ok labels) where
  at_end : (v : ℕ) → v < net.nodes → IsShortCut (points_at old.labels v) old.reached (points_at labels v)
  at_end v h =
      let x : (x : List Point) × (slice_get old.labels v ≡ Some x) = entry old.labels v (let c = is.shape.labels.count in omega arith) in
      let y = each_at (cut_short passes old.reached) old.labels labels v x.0 by_labels x.1 in
      let same : points_at old.labels v ≡ x.0 = points_is old.labels v x.0 x.1 in
      subst (λ (l : List Point). IsShortCut (points_at old.labels v) old.reached l) (sym (points_is labels v y.0 y.1))
      (cut_short-is passes (points_at old.labels v) old.reached y.0 (is.shape.labels.each v h) is.reached (ap (cut_short passes old.reached) same ∙ y.2))

  end-is : (v : ℕ) → v < net.nodes → value_at_end (points_at labels v) ≡ label old v old.reached
  end-is v h =
      value_at_end-is (points_at labels v) (old.reached, value (points_at labels v) old.reached) (at_end v h).ends
      ∙ (at_end v h).values old.reached (is.reached, ≤ℚ_refl old.reached)

  ends-nn : (v : ℕ) → v < net.nodes → 0ℚ ≤ℚ label old v old.reached
  ends-nn v h = label-nn net old good is v old.reached h (is.reached, ≤ℚ_refl old.reached)

  pub inflow_count : length old.inflows ≡ length net.links
  inflow_count = sym (length-map old.inflows (λ (t : Trace). t.points)) ∙ is.shape.inflows.count

  pub outflow_count : length old.outflows ≡ length net.links
  outflow_count = sym (length-map old.outflows (λ (t : Trace). t.points)) ∙ is.shape.outflows.count

  -- the label of a node at the departure reached
  pub end-nn : (v : ℕ) → v < net.nodes → 0ℚ ≤ℚ value_at_end (points_at labels v)
  end-nn v h = subst (λ (z : ℚ). 0ℚ ≤ℚ z) (sym (end-is v h)) (ends-nn v h)

  module _ (cuts : List CutLink) (by_links : each (cut_link passes labels) (links_with net.links old.inflows old.outflows old.queues) ≡ Ok cuts) where
    abbrev new : Flow
    new = cut_flow_of passes old.reached labels cuts

    cut_count : length cuts ≡ length net.links
    cut_count = each_length (cut_link passes labels) (links_with net.links old.inflows old.outflows old.queues) cuts by_links
        ∙ links_with-length net.links old.inflows old.outflows old.queues inflow_count outflow_count is.shape.queues.count

    -- the curves of a link
    record At (e : ℕ) (link : Link) : Type 0 where
      pub inflow : Trace
      pub outflow : Trace
      pub queue : List Point
      pub is_inflow : slice_get old.inflows e ≡ Some inflow
      pub is_outflow : slice_get old.outflows e ≡ Some outflow
      pub is_queue : slice_get old.queues e ≡ Some queue
      pub cut : CutLink
      pub is_cut : slice_get cuts e ≡ Some cut
      pub by_list : cut_link passes labels (of_link link inflow outflow queue) ≡ Ok cut

    at_link : (e : ℕ) (link : Link) → IsLink net e link → At e link
    at_link e link p =
        let h : e < length net.links = slice_get_within net.links e link p in
        let i = entry old.inflows e (let c = inflow_count in omega arith) in
        let o = entry old.outflows e (let c = outflow_count in omega arith) in
        let q = entry old.queues e (let c = is.shape.queues.count in omega arith) in
        let y = each_at (cut_link passes labels) (links_with net.links old.inflows old.outflows old.queues) cuts e (of_link link i.0 o.0 q.0) by_links
        (links_with-at net.links old.inflows old.outflows old.queues e link i.0 o.0 q.0 p i.1 o.1 q.1) in
        record { inflow = i.0; outflow = o.0; queue = q.0; is_inflow = i.1; is_outflow = o.1; is_queue = q.1; cut = y.0; is_cut = y.1; by_list = y.2 }

    -- the three cuts of a link
    record Cuts (link : Link) (inflow outflow queue : List Point) (cut : CutLink) : Type 0 where
      pub inflow_is : cut_trace passes (value_at_end (points_at labels link.tail)) inflow ≡ Ok cut.inflow
      pub outflow_is : cut_trace passes (value_at_end (points_at labels link.head)) outflow ≡ Ok cut.outflow
      pub queue_is : cut_short passes (value_at_end (points_at labels link.tail)) queue ≡ Ok cut.queue

    cuts_of : (l : OfLink) (cut : CutLink) → cut_link passes labels l ≡ Ok cut → Cuts l.link l.inflow l.outflow l.queue cut
    cuts_of l cut e =
        let a = then_ok (cut_trace passes (value_at_end (points_at labels l.link.tail)) l.inflow) _ cut e in
        let b = then_ok (cut_trace passes (value_at_end (points_at labels l.link.head)) l.outflow) _ cut a.next in
        let c = then_ok (cut_short passes (value_at_end (points_at labels l.link.tail)) l.queue) _ cut b.next in
        subst (λ (x : CutLink). Cuts l.link l.inflow l.outflow l.queue x) (same_Ok _ _ c.next) (record { inflow_is = a.first; outflow_is = b.first; queue_is = c.first })

    record TraceCut (last : ℚ) (points : List Point) (trace : Trace) : Type 0 where
      pub short : cut_short passes last points ≡ Ok trace.points
      pub rates : checked_slopes passes trace.points ≡ Ok trace.rates

    trace_cut : (last : ℚ) (points : List Point) (trace : Trace) → cut_trace passes last points ≡ Ok trace → TraceCut last points trace
    trace_cut last points trace e =
        let a = then_ok (cut_short passes last points) _ trace e in
        let b = then_ok (checked_slopes passes a.between) _ trace a.next in
        subst (λ (t : Trace). TraceCut last points t) (same_Ok _ _ b.next) (record { short = a.first; rates = b.first })

    rates_are : (points : List Point) (rates : List ℚ) → IsCurve points → checked_slopes passes points ≡ Ok rates → AreSlopes points rates
    rates_are [] rates c e = absurd c
    rates_are (p ∷ rest) rates c e = slopes-from p rest rates (slopes-are passes p rest rates e)

    cuts_at : (e : ℕ) (link : Link) (p : IsLink net e link) → Cuts link (at_link e link p).inflow.points (at_link e link p).outflow.points (at_link e link p).queue (at_link e link p).cut
    cuts_at e link p = let a : At e link = at_link e link p in cuts_of (of_link link a.inflow a.outflow a.queue) a.cut a.by_list

    of_trace : (e : ℕ) (link : Link) (v : ℕ) (traces : List Trace) (old_trace trace : Trace) → v < net.nodes → slice_get traces e ≡ Some old_trace
        → IsCurve (points_at (points_of traces) e)
        → cut_trace passes (value_at_end (points_at labels v)) old_trace.points ≡ Ok trace
        → IsShortCut (points_at (points_of traces) e) (label old v old.reached) trace.points × AreSlopes trace.points trace.rates
    of_trace e link v traces old_trace trace h at c f =
        let same : points_at (points_of traces) e ≡ old_trace.points = points_of-is traces e old_trace at in
        let t : TraceCut (value_at_end (points_at labels v)) old_trace.points trace = trace_cut _ _ trace f in
        let s : IsShortCut (points_at (points_of traces) e) (label old v old.reached) trace.points =
        cut_short-is passes (points_at (points_of traces) e) (label old v old.reached) trace.points c (ends-nn v h)
        (ap (λ (l : List Point). cut_short passes (label old v old.reached) l) same ∙ ap (λ (z : ℚ). cut_short passes z old_trace.points) (sym (end-is v h)) ∙ t.short) in
        (s, rates_are trace.points trace.rates s.curve t.rates)

    inflow_at : (e : ℕ) (link : Link) (p : IsLink net e link)
        → IsShortCut (points_at (points_of old.inflows) e) (label old link.tail old.reached) (at_link e link p).cut.inflow.points
        × AreSlopes (at_link e link p).cut.inflow.points (at_link e link p).cut.inflow.rates
    inflow_at e link p = of_trace e link link.tail old.inflows (at_link e link p).inflow (at_link e link p).cut.inflow (good.tails e link p) (at_link e link p).is_inflow
        (is.shape.inflows.each e (slice_get_within net.links e link p)) (cuts_at e link p).inflow_is

    outflow_at : (e : ℕ) (link : Link) (p : IsLink net e link)
        → IsShortCut (points_at (points_of old.outflows) e) (label old link.head old.reached) (at_link e link p).cut.outflow.points
        × AreSlopes (at_link e link p).cut.outflow.points (at_link e link p).cut.outflow.rates
    outflow_at e link p = of_trace e link link.head old.outflows (at_link e link p).outflow (at_link e link p).cut.outflow (good.heads e link p) (at_link e link p).is_outflow
        (is.shape.outflows.each e (slice_get_within net.links e link p)) (cuts_at e link p).outflow_is

    queue_at : (e : ℕ) (link : Link) (p : IsLink net e link) → IsShortCut (points_at old.queues e) (label old link.tail old.reached) (at_link e link p).cut.queue
    queue_at e link p =
        let a : At e link = at_link e link p in
        cut_short-is passes (points_at old.queues e) (label old link.tail old.reached) a.cut.queue
        (is.shape.queues.each e (slice_get_within net.links e link p)) (ends-nn link.tail (good.tails e link p))
        (ap (λ (l : List Point). cut_short passes (label old link.tail old.reached) l) (points_is old.queues e a.queue a.is_queue)
        ∙ ap (λ (z : ℚ). cut_short passes z a.queue) (sym (end-is link.tail (good.tails e link p))) ∙ (cuts_at e link p).queue_is)

    -- ---- the rates of a trace
    all_slopes : (f : CutLink → Trace) → ((e : ℕ) (link : Link) (p : IsLink net e link)
        → AreSlopes (f (at_link e link p).cut).points (f (at_link e link p).cut).rates) → HasSlopes (map f cuts)
    all_slopes f each_link e trace h =
        let within : e < length (map f cuts) = slice_get_within (map f cuts) e trace h in
        let link : (link : Link) × IsLink net e link = entry net.links e (let c = cut_count in let d = length-map cuts f in omega arith) in
        let a : At e link.0 = at_link e link.0 link.1 in
        let same : f a.cut ≡ trace = same_Some (f a.cut) trace (sym (slice_get-image f cuts e a.cut a.is_cut) ∙ h) in
        subst (λ (t : Trace). AreSlopes t.points t.rates) same (each_link e link.0 link.1)

    pub IsCutFlow-each : IsCutFlow net old new
    IsCutFlow-each = record {
      reached = refl;
      label_count = each_length (cut_short passes old.reached) old.labels labels by_labels ∙ is.shape.labels.count;
      inflow_count = length-map cuts (λ (c : CutLink). c.inflow) ∙ cut_count;
      outflow_count = length-map cuts (λ (c : CutLink). c.outflow) ∙ cut_count;
      queue_count = length-map cuts (λ (c : CutLink). c.queue) ∙ cut_count;
      labels = at_end;
      inflows = λ e link p. subst (λ (l : List Point). IsShortCut (points_at (points_of old.inflows) e) (label old link.tail old.reached) l)
          (sym (points_of-is new.inflows e (at_link e link p).cut.inflow (slice_get-image (λ (c : CutLink). c.inflow) cuts e (at_link e link p).cut
          (at_link e link p).is_cut))) (inflow_at e link p).0;
      outflows = λ e link p. subst (λ (l : List Point). IsShortCut (points_at (points_of old.outflows) e) (label old link.head old.reached) l)
          (sym (points_of-is new.outflows e (at_link e link p).cut.outflow (slice_get-image (λ (c : CutLink). c.outflow) cuts e (at_link e link p).cut
          (at_link e link p).is_cut))) (outflow_at e link p).0;
      queues = λ e link p. subst (λ (l : List Point). IsShortCut (points_at old.queues e) (label old link.tail old.reached) l)
          (sym (points_is new.queues e (at_link e link p).cut.queue (slice_get-image (λ (c : CutLink). c.queue) cuts e (at_link e link p).cut
          (at_link e link p).is_cut))) (queue_at e link p);
      inflow_rates = all_slopes (λ c. c.inflow) (λ e link p. (inflow_at e link p).1);
      outflow_rates = all_slopes (λ c. c.outflow) (λ e link p. (outflow_at e link p).1);
    }

pub cut_flow-is : (passes : Passing) (net : Network) (old new : Flow) → IsNetwork net → Equilibrium net old → cut_flow passes net old ≡ Ok new → IsCutFlow net old new
unfolding cut_flow
cut_flow-is passes net old new good is e =
    let a = then_ok (each (cut_short passes old.reached) old.labels) _ new e in
    let b = then_ok (each (cut_link passes a.between) (links_with net.links old.inflows old.outflows old.queues)) _ new a.next in
    subst (λ (f : Flow). IsCutFlow net old f) (same_Ok _ _ b.next) (IsCutFlow-each passes net old good is a.between a.first b.between b.first)
