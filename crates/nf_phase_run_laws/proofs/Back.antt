-- Restoring a run from its report gives the run's state.
use Rattle.std.proofs.Common.{◌≡◌, ℕ, suc, ◌<◌, List, [], ◌∷◌, ◌++◌, length, Option, Some, None, slice_get, map, sym, ap, subst, refl, ◌∙◌, arith, Result}
use Rattle.std.proofs.Common.{Ok}
use Rattle.nf_phase_run_laws.proofs.Common.{slice_get_within, same_Some, ℚ, Passing, each, Point, slope, IsShort, Link, Network, IsNetwork, IsLink, Flow}
use Rattle.nf_phase_run_laws.proofs.Common.{points_at, label, GrowingCurve, LinkCurves, Standing, flow_of, checked_slope, then_ok, checked_slope-is}
use Rattle.nf_phase_run_laws.proofs.Common.{LastPoint, WellRun, number_is, label_points, inflow_points, outflow_points, queue_points, slice_get-image}
use Rattle.nf_phase_run_laws.proofs.Common.{entry, same_Ok, with_made, same_entries, curves_of, Grown, ShortRun, value_at_end, link_curves_of, standing_of}
use Rattle.nf_phase_run_laws.proofs.Common.{last_slope, growing, OfLink, CutLink, links_with, cut_short, cut_trace, cut_link, cut_flow_of}
use Rattle.std.proofs.lemmas.List.{length-map}
use Rattle.nf_frac_def.proofs.Each.{each_at, each_length}
use Rattle.nf_phase_laws.proofs.Points.{EndsWithSlope, LastSlope}
use Rattle.nf_phase_laws.proofs.Short.{HasOnePoint}
use Rattle.nf_phase_def.specs.Restoring.{restore_list}
use Rattle.nf_resume_def.specs.Resuming.{cut_flow}
use Rattle.nf_resume_laws.proofs.CutShort.{rest_of}
use Rattle.nf_phase_equilibrium_laws.proofs.Restored.{value_at_end-is}
use Rattle.nf_resume_laws.proofs.CutFlow.{of_link, links_with-at, links_with-length}
use Rattle.nf_phase_run_laws.proofs.Kept.{cut_short-same, cut_trace-same}

-- ---- lists
-- A list each of whose entries maps to itself.
each_same : {A E : Type 0} (f : A → Result A E) (xs ys : List A) → ((i : ℕ) (x y : A) → slice_get xs i ≡ Some x → f x ≡ Ok y → y ≡ x) → each f xs ≡ Ok ys → ys ≡ xs
each_same f [] ys same e = sym (same_Ok _ _ e)
each_same {A = A} f (x ∷ xs) ys same e =
    let k = then_ok (f x) _ ys e in
    let l = then_ok (each f xs) _ ys k.next in
    sym (same_Ok _ _ l.next) ∙ ap (λ (y : A). y ∷ l.between) (same 0 x k.between refl k.first)
    ∙ ap (λ (rest : List A). x ∷ rest) (each_same f xs l.between (λ i w z at f. same (suc i) w z at f) l.first)

-- A list whose entries map to those of another list.
each_are : {A B E : Type 0} (f : A → Result B E) (xs : List A) (ys zs : List B) → length xs ≡ length zs
    → ((i : ℕ) (x : A) (y z : B) → slice_get xs i ≡ Some x → slice_get zs i ≡ Some z → f x ≡ Ok y → y ≡ z) → each f xs ≡ Ok ys → ys ≡ zs
each_are f [] ys [] n same e = sym (same_Ok _ _ e)
each_are f [] ys (z ∷ zs) n same e = absurd (omega arith)
each_are f (x ∷ xs) ys [] n same e = absurd (omega arith)
each_are {B = B} f (x ∷ xs) ys (z ∷ zs) n same e =
    let k = then_ok (f x) _ ys e in
    let l = then_ok (each f xs) _ ys k.next in
    sym (same_Ok _ _ l.next) ∙ ap (λ (y : B). y ∷ l.between) (same 0 x k.between z refl refl k.first)
    ∙ ap (λ (rest : List B). z ∷ rest) (each_are f xs l.between zs (omega arith) (λ i w y c at there f. same (suc i) w y c at there f) l.first)

-- ---- the slope of the last piece, if it is known
two_last : (front : List Point) (before last p q : Point) → p ∷ q ∷ [] ≡ front ++ before ∷ last ∷ [] → slope before last ≡ slope p q
two_last [] before last p q e = let a : p ≡ before = cc in let b : q ≡ last = cc in ap (λ (x : Point). slope x last) (sym a) ∙ ap (slope p) (sym b)
two_last (x ∷ []) before last p q e = absurd (cc)
two_last (x ∷ y ∷ []) before last p q e = absurd (cc)
two_last (x ∷ y ∷ z ∷ front) before last p q e = absurd (cc)

fewer : (front : List Point) (before last p : Point) → p ∷ [] ≡ front ++ before ∷ last ∷ [] → ⊥
fewer [] before last p e = cc
fewer (x ∷ []) before last p e = cc
fewer (x ∷ y ∷ front) before last p e = cc

none_at_all : (front : List Point) (before last : Point) → [] ≡ front ++ before ∷ last ∷ [] → ⊥
none_at_all [] before last e = cc
none_at_all (x ∷ front) before last e = cc

without_first : (p q s : Point) (rest : List Point) (r : ℚ) → EndsWithSlope (p ∷ q ∷ s ∷ rest) r → EndsWithSlope (q ∷ s ∷ rest) r
without_first p q s rest r w = by w.front w.same
  where
    by : (front : List Point) → p ∷ q ∷ s ∷ rest ≡ front ++ w.before ∷ w.last ∷ [] → EndsWithSlope (q ∷ s ∷ rest) r
    by [] e = absurd (cc)
    by (x ∷ front) e = record { front = front; before = w.before; last = w.last; same = ap rest_of e; slope_is = w.slope_is }

module _ (passes : Passing) where
  slope-known : (points : List Point) (found known : Option ℚ) → last_slope passes points ≡ Ok found → LastSlope points known → HasOnePoint points known → found ≡ known
  slope-known [] found None e l one = sym (same_Ok _ _ e)
  slope-known [] found (Some r) e l one = absurd (none_at_all l.front l.before l.last l.same)
  slope-known (p ∷ []) found None e l one = sym (same_Ok _ _ e)
  slope-known (p ∷ []) found (Some r) e l one = absurd (fewer l.front l.before l.last p l.same)
  slope-known (p ∷ q ∷ []) found None e l one = absurd (let same = one.1 in cc)
  slope-known (p ∷ q ∷ []) found (Some r) e l one =
      let k = then_ok (checked_slope passes p q) _ found e in
      sym (same_Ok _ _ k.next) ∙ ap (λ (x : ℚ). Some x) (checked_slope-is passes p q k.between k.first ∙ sym (two_last l.front l.before l.last p q l.same) ∙ l.slope_is)
  slope-known (p ∷ q ∷ s ∷ rest) found None e l one = absurd (let same = one.1 in cc)
  slope-known (p ∷ q ∷ s ∷ rest) found (Some r) e l one = slope-known (q ∷ s ∷ rest) found (Some r) e (without_first p q s rest r l) tt

  growing-back : (curve found : GrowingCurve) → LastSlope curve.points curve.slope → HasOnePoint curve.points curve.slope → growing passes curve.points ≡ Ok found → found ≡ curve
  growing-back curve found l one e =
      let k = then_ok (last_slope passes curve.points) _ found e in
      let same : k.between ≡ curve.slope = slope-known curve.points k.between curve.slope k.first l one in
      sym (same_Ok _ _ k.next) ∙ (λ i. record { points = curve.points; slope = same i })

-- ---- the flow of a run state
module _ (passes : Passing) (net : Network) (good : IsNetwork net) (s : Standing) (well : WellRun net s) (short : ShortRun s) where
  grown : Grown net s.time s.labels (curves_of (flow_of s))
  grown = well.grow

  abbrev label_now : ℕ → ℚ
  label_now v = label (flow_of s) v s.time

  label_curve : (v : ℕ) → v < net.nodes → (c : GrowingCurve) × (slice_get s.label_curves v ≡ Some c)
  label_curve v h = entry s.label_curves v (let n = well.label_count in omega arith)

  link_curve : (e : ℕ) (link : Link) → IsLink net e link → (c : LinkCurves) × (slice_get s.link_curves e ≡ Some c)
  link_curve e link p = entry s.link_curves e (let n = well.link_count in let h = slice_get_within net.links e link p in omega arith)

  label_ends : (v : ℕ) (c : GrowingCurve) → v < net.nodes → slice_get s.label_curves v ≡ Some c → LastPoint c.points (s.time, label_now v)
  label_ends v c h at = subst (λ (l : List Point). LastPoint l (s.time, label_now v)) (label_points s v c at) (grown.curves_stand.labels_end v h)

  abbrev sent_now : ℕ → Link → ℚ
  sent_now e link = Rattle.nf_model.specs.Equilibrium.inflow (flow_of s) e (label_now link.tail)

  abbrev come_now : ℕ → Link → ℚ
  come_now e link = Rattle.nf_model.specs.Equilibrium.outflow (flow_of s) e (label_now link.head)

  abbrev waits_now : ℕ → Link → ℚ
  waits_now e link = Rattle.nf_model.specs.Equilibrium.queue (flow_of s) e (label_now link.tail)

  inflow_ends : (e : ℕ) (link : Link) (c : LinkCurves) → IsLink net e link → slice_get s.link_curves e ≡ Some c → LastPoint c.inflow.points (label_now link.tail, sent_now e link)
  inflow_ends e link c p at = subst (λ (l : List Point). LastPoint l (label_now link.tail, sent_now e link)) (inflow_points s e c at) (grown.curves_stand.inflows_end e link p)

  outflow_ends : (e : ℕ) (link : Link) (c : LinkCurves) → IsLink net e link → slice_get s.link_curves e ≡ Some c → LastPoint c.outflow.points (label_now link.head, come_now e link)
  outflow_ends e link c p at = subst (λ (l : List Point). LastPoint l (label_now link.head, come_now e link)) (outflow_points s e c at) (grown.description_stands.outflows_end e link p)

  queue_ends : (e : ℕ) (link : Link) (c : LinkCurves) → IsLink net e link → slice_get s.link_curves e ≡ Some c → LastPoint c.queue.points (label_now link.tail, waits_now e link)
  queue_ends e link c p at = subst (λ (l : List Point). LastPoint l (label_now link.tail, waits_now e link)) (queue_points s e c at) (grown.description_stands.queues_end e link p)

  -- ---- labels
  labels-same : (cuts : List (List Point)) → each (cut_short passes s.time) (flow_of s).labels ≡ Ok cuts → cuts ≡ (flow_of s).labels
  labels-same cuts e = each_same (cut_short passes s.time) (flow_of s).labels cuts (λ v points cut at f.
      let h : v < net.nodes = (let w = slice_get_within (flow_of s).labels v points at in let n = well.label_count in
      let m = length-map s.label_curves (λ (c : GrowingCurve). c.points) in omega arith) in
      let c : (c : GrowingCurve) × (slice_get s.label_curves v ≡ Some c) = label_curve v h in
      let is : points ≡ c.0.points = same_Some points c.0.points (sym at ∙ slice_get-image (λ (c : GrowingCurve). c.points) s.label_curves v c.0 c.1) in
      cut_short-same passes points cut (s.time, label_now v) (subst (λ (l : List Point). LastPoint l (s.time, label_now v)) (sym is) (label_ends v c.0 h c.1))
      (subst IsShort (sym is) (short.labels v c.0 c.1).short) f) e

  -- The end of a label.
  end-is : (v : ℕ) → v < net.nodes → value_at_end (points_at (flow_of s).labels v) ≡ label_now v
  end-is v h = value_at_end-is (points_at (flow_of s).labels v) (s.time, label_now v) (grown.curves_stand.labels_end v h)

  -- ---- links
  abbrev same_link : LinkCurves → CutLink
  same_link c = record { inflow = c.inflow; outflow = c.outflow; queue = c.queue.points }

  abbrev all_links : List OfLink
  all_links = links_with net.links (flow_of s).inflows (flow_of s).outflows (flow_of s).queues

  many : {B : Type 0} (f : LinkCurves → B) → length (map f s.link_curves) ≡ length net.links
  many f = length-map s.link_curves f ∙ well.link_count

  link-same : (e : ℕ) (link : Link) (c : LinkCurves) (cut : CutLink) → IsLink net e link → slice_get s.link_curves e ≡ Some c
      → cut_link passes (flow_of s).labels (of_link link c.inflow c.outflow c.queue.points) ≡ Ok cut → cut ≡ same_link c
  link-same e link c cut p at f =
      let i = then_ok (cut_trace passes (value_at_end (points_at (flow_of s).labels link.tail)) c.inflow.points) _ cut f in
      let o = then_ok (cut_trace passes (value_at_end (points_at (flow_of s).labels link.head)) c.outflow.points) _ cut i.next in
      let q = then_ok (cut_short passes (value_at_end (points_at (flow_of s).labels link.tail)) c.queue.points) _ cut o.next in
      let tail : value_at_end (points_at (flow_of s).labels link.tail) ≡ label_now link.tail = end-is link.tail (good.tails e link p) in
      let head : value_at_end (points_at (flow_of s).labels link.head) ≡ label_now link.head = end-is link.head (good.heads e link p) in
      let inflow : i.between ≡ c.inflow = cut_trace-same passes c.inflow i.between (label_now link.tail, sent_now e link) (inflow_ends e link c p at)
      (short.links e c at).inflow (well.inflow_rates e c at)
      (ap (λ (t : ℚ). cut_trace passes t c.inflow.points) (sym tail) ∙ i.first) in
      let outflow : o.between ≡ c.outflow = cut_trace-same passes c.outflow o.between (label_now link.head, come_now e link) (outflow_ends e link c p at)
      (short.links e c at).outflow (well.outflow_rates e c at)
      (ap (λ (t : ℚ). cut_trace passes t c.outflow.points) (sym head) ∙ o.first) in
      let queue : q.between ≡ c.queue.points = cut_short-same passes c.queue.points q.between (label_now link.tail, waits_now e link)
      (queue_ends e link c p at) (short.links e c at).queue.short
      (ap (λ (t : ℚ). cut_short passes t c.queue.points) (sym tail) ∙ q.first) in
      sym (same_Ok _ _ q.next) ∙ (λ j. record { inflow = inflow j; outflow = outflow j; queue = queue j })

  links-same : (cuts : List CutLink) → each (cut_link passes (flow_of s).labels) all_links ≡ Ok cuts → cuts ≡ map same_link s.link_curves
  links-same cuts e = same_entries (length net.links) cuts (map same_link s.link_curves)
      (each_length (cut_link passes (flow_of s).labels) all_links cuts e
      ∙ links_with-length net.links (flow_of s).inflows (flow_of s).outflows (flow_of s).queues (many (λ c. c.inflow)) (many (λ c. c.outflow)) (many (λ c. c.queue.points)))
      (many same_link)
      (λ n h.
      let link : (link : Link) × (slice_get net.links n ≡ Some link) = entry net.links n h in
      let c : (c : LinkCurves) × (slice_get s.link_curves n ≡ Some c) = link_curve n link.0 link.1 in
      let there : slice_get all_links n ≡ Some (of_link link.0 c.0.inflow c.0.outflow c.0.queue.points) =
      links_with-at net.links (flow_of s).inflows (flow_of s).outflows (flow_of s).queues n link.0 c.0.inflow c.0.outflow c.0.queue.points link.1
      (slice_get-image (λ (c : LinkCurves). c.inflow) s.link_curves n c.0 c.1) (slice_get-image (λ (c : LinkCurves). c.outflow) s.link_curves n c.0 c.1)
      (slice_get-image (λ (c : LinkCurves). c.queue.points) s.link_curves n c.0 c.1) in
      let y = each_at (cut_link passes (flow_of s).labels) all_links cuts n (of_link link.0 c.0.inflow c.0.outflow c.0.queue.points) e there in
      y.1 ∙ ap (λ (x : CutLink). Some x) (link-same n link.0 c.0 y.0 link.1 c.1 y.2) ∙ sym (slice_get-image same_link s.link_curves n c.0 c.1))

  map-map : {A B C : Type 0} (f : A → B) (g : B → C) (xs : List A) → map g (map f xs) ≡ map (λ x. g (f x)) xs
  map-map f g [] = refl
  map-map {C = C} f g (x ∷ xs) = ap (λ (l : List C). g (f x) ∷ l) (map-map f g xs)

  pub flow-back : (new : Flow) → cut_flow passes net (flow_of s) ≡ Ok new → new ≡ flow_of s
  unfolding cut_flow
  flow-back new e =
      let a = then_ok (each (cut_short passes s.time) (flow_of s).labels) _ new e in
      let b = then_ok (each (cut_link passes a.between) all_links) _ new a.next in
      let labels : a.between ≡ (flow_of s).labels = labels-same a.between a.first in
      let cuts : b.between ≡ map same_link s.link_curves = links-same b.between (ap (λ (l : List (List Point)). each (cut_link passes l) all_links) (sym labels) ∙ b.first) in
      sym (same_Ok _ _ b.next)
      ∙ ap (λ (l : List (List Point)). cut_flow_of passes s.time l b.between) labels
      ∙ ap (cut_flow_of passes s.time (flow_of s).labels) cuts
      ∙ (λ i. record {
        reached = s.time;
        labels = (flow_of s).labels;
        inflows = map-map same_link (λ (c : CutLink). c.inflow) s.link_curves i;
        outflows = map-map same_link (λ (c : CutLink). c.outflow) s.link_curves i;
        queues = map-map same_link (λ (c : CutLink). c.queue) s.link_curves i;
      })

  -- ---- the run state
  label_curves-back : (curves : List GrowingCurve) → each (growing passes) (flow_of s).labels ≡ Ok curves → curves ≡ s.label_curves
  label_curves-back curves e =
      each_are (growing passes) (flow_of s).labels curves s.label_curves (length-map s.label_curves (λ (c : GrowingCurve). c.points))
      (λ v points found c at there f.
      let is : points ≡ c.points = same_Some points c.points (sym at ∙ slice_get-image (λ (c : GrowingCurve). c.points) s.label_curves v c there) in
      growing-back passes c found (well.label_slopes v c there) (short.labels v c there).one (ap (growing passes) (sym is) ∙ f)) e

  abbrev queue_of : LinkCurves → GrowingCurve
  queue_of c = c.queue

  queues-back : (curves : List GrowingCurve) → each (growing passes) (flow_of s).queues ≡ Ok curves → curves ≡ map queue_of s.link_curves
  queues-back curves e =
      each_are (growing passes) (flow_of s).queues curves (map queue_of s.link_curves) (many (λ c. c.queue.points) ∙ sym (many queue_of))
      (λ n points found q at there f.
      let c : (c : LinkCurves) × (slice_get s.link_curves n ≡ Some c) = entry s.link_curves n
      (let w = slice_get_within (map queue_of s.link_curves) n q there in let m = many queue_of in let k = well.link_count in omega arith) in
      let queue : q ≡ c.0.queue = same_Some q c.0.queue (sym there ∙ slice_get-image queue_of s.link_curves n c.0 c.1) in
      let is : points ≡ c.0.queue.points = same_Some points c.0.queue.points (sym at ∙ slice_get-image (λ (c : LinkCurves). c.queue.points) s.link_curves n c.0 c.1) in
      growing-back passes c.0.queue found (well.queue_slopes n c.0 c.1) (short.links n c.0 c.1).queue.one (ap (growing passes) (sym is) ∙ f) ∙ sym queue) e

  link_curves-back : (curves : List LinkCurves) → link_curves_of (map (λ c. c.inflow) curves) (map (λ c. c.outflow) curves) (map queue_of curves) ≡ curves
  link_curves-back [] = refl
  link_curves-back (c ∷ curves) = ap (λ (l : List LinkCurves). c ∷ l) (link_curves-back curves)

  labels-back : map value_at_end (flow_of s).labels ≡ s.labels
  labels-back = same_entries net.nodes (map value_at_end (flow_of s).labels) s.labels
      (length-map (flow_of s).labels value_at_end ∙ length-map s.label_curves (λ (c : GrowingCurve). c.points) ∙ well.label_count) grown.stands.count
      (λ v h.
      let c : (c : GrowingCurve) × (slice_get s.label_curves v ≡ Some c) = label_curve v h in
      slice_get-image value_at_end (flow_of s).labels v c.0.points (slice_get-image (λ (c : GrowingCurve). c.points) s.label_curves v c.0 c.1)
      ∙ ap (λ (y : ℚ). Some y) (value_at_end-is c.0.points (s.time, label_now v) (label_ends v c.0 h c.1) ∙ grown.stands.same v h)
      ∙ sym (number_is s.labels v (let n = grown.stands.count in omega arith)))

  pub standing-back : (first : Standing) → restore_list passes (flow_of s) s.last ≡ Ok first → first ≡ with_made 0 s
  unfolding restore_list
  standing-back first e =
      let a = then_ok (each (growing passes) (flow_of s).labels) _ first e in
      let b = then_ok (each (growing passes) (flow_of s).queues) _ first a.next in
      let labels : a.between ≡ s.label_curves = label_curves-back a.between a.first in
      let queues : b.between ≡ map queue_of s.link_curves = queues-back b.between b.first in
      sym (same_Ok _ _ b.next)
      ∙ ap (λ (l : List GrowingCurve). standing_of (flow_of s) s.last l b.between) labels
      ∙ ap (standing_of (flow_of s) s.last s.label_curves) queues
      ∙ (λ i. record {
        time = s.time;
        labels = labels-back i;
        label_curves = s.label_curves;
        link_curves = link_curves-back s.link_curves i;
        made = 0;
        last = s.last;
      })
