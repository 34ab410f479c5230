-- A loaded link: the entries into it and the amounts sent on, its queue, exit and outflow by the law of the point queue, and its end.
use Rattle.std.proofs.Common.{◌≡◌, ℕ, zero, suc, List, [], ◌∷◌, ◌++◌, inl, inr, ⊎_elim, Some, slice_get, refl, sym, ap, subst, ◌∙◌, append_assoc, arith}
use Rattle.nf_routes_laws.proofs.Common.{slice_get_within, append-nil, ℚ, 0ℚ, ◌≤ℚ◌, Passing, Point, Within, NeverFalls, value, IsCurve, number_at, Link}
use Rattle.nf_routes_laws.proofs.Common.{Network, IsNetwork, IsLink, IsExit, IsPositive, IsPositive-link, IsExit-at_0, IsExit-after, IsExit-monotone}
use Rattle.nf_routes_laws.proofs.Common.{IsExit-same, last_value, Route, AreRoutes, PrecedesOnRoute, SoFar, Routed, link_loaded, exit_by, entry_at, sent_by}
use Rattle.nf_routes_laws.proofs.Common.{sent_by_routes, inflow_by, IsEnd, CanShare, IsSentOn, ≤ℚ_refl, ≤ℚ_trans, entry, EndsAtTime, IsLoaded}
use Rattle.nf_routes_laws.proofs.Common.{checked_loading-is, without_zero, first_of_sum}
use Rattle.nf_routes_laws.proofs.Arriving.{routes-le, routes-none}
use Rattle.nf_routes_laws.proofs.Ordering.{In, in-either, placed}
use Rattle.nf_routes_laws.proofs.Sharing.{shares-equal}
use Rattle.nf_routes_laws.proofs.Ends.{UpTo, upto-none, ends-upto, last-at_end, loading-ends}
use Rattle.nf_routes_laws.proofs.Entries.{IsEntry, entry-longer, rises-same, IsFirst, first-is, shared, next-is}
use Rattle.nf_routes_laws.proofs.Inflow.{Enters, IsSumWith, sum-is}
use Rattle.nf_routes_laws.proofs.Unrolled.{many, order, routed, LinkStep}

-- ---- a link that is loaded, of routes that are
pub record LinkIs (net : Network) (routes : List Route) (horizon : ℚ) (all : Routed) (e : ℕ) : Type 0 where
  pub link : Link
  pub is_link : IsLink net e link
  pub inflow : List Point
  pub loaded : IsLoaded link.transit link.capacity inflow (number_at all.ends e) (link_loaded all e)
  pub amounts : (t : ℚ) → 0ℚ ≤ℚ t → value inflow t ≡ inflow_by routes all e t
  pub is_end : IsEnd routes horizon all e (number_at all.ends e)
  pub last : last_value (link_loaded all e).exit ≡ exit_by all e (number_at all.ends e)
  pub exits_rise : (s t : ℚ) → 0ℚ ≤ℚ s → s ≤ℚ t → t ≤ℚ number_at all.ends e → exit_by all e s ≤ℚ exit_by all e t
  pub exits_after : (t : ℚ) → Within 0ℚ (number_at all.ends e) t → t ≤ℚ exit_by all e t
  -- the routes over it: what they send into it, and on
  pub entries : (r place : ℕ) (route : Route) → slice_get routes r ≡ Some route → slice_get route.links place ≡ Some e → IsEntry (entry_at all r place) (number_at all.ends e)
  pub nexts : (r place : ℕ) (route : Route) → slice_get routes r ≡ Some route → slice_get route.links place ≡ Some e
      → IsEntry (entry_at all r (suc place)) (exit_by all e (number_at all.ends e))
  pub shares : (r place : ℕ) (route : Route) → slice_get routes r ≡ Some route → slice_get route.links place ≡ Some e
      → IsSentOn (link_loaded all e).exit (entry_at all r place) (number_at all.ends e) (entry_at all r (suc place))
  pub firsts : (r : ℕ) (route : Route) → slice_get routes r ≡ Some route → slice_get route.links 0 ≡ Some e → IsFirst route.pieces horizon (entry_at all r 0)

module _ (passes : Passing) (net : Network) (routes : List Route) (horizon : ℚ) (final : SoFar) (travels : List (List Point)) (good : IsNetwork net)
    (are : AreRoutes net routes) (from_0 : 0ℚ ≤ℚ horizon) where
  abbrev all : Routed
  all = routed passes net routes horizon final travels

  abbrev Is : ℕ → Type 0
  Is e = LinkIs net routes horizon all e

  -- ---- the step of the link, if each link directly before it is loaded
  module _ (e : ℕ) (step : LinkStep passes net routes horizon final travels e) (before : (f : ℕ) → PrecedesOnRoute routes f e → Is f) where
    abbrev end : ℚ
    end = number_at all.ends e

    abbrev exit : List Point
    exit = (link_loaded all e).exit

    is_end : IsEnd routes horizon all e end
    is_end = record {
      horizon_by = step.ends.horizon_by;
      before = λ f b. subst (λ (x : ℚ). x ≤ℚ end) (before f b).last (step.ends.before f b);
      taken = ⊎_elim
          (λ (v : end ≡ horizon). inl v)
          (λ (v : (f : ℕ) × PrecedesOnRoute routes f e × (end ≡ last_value (link_loaded all f).exit)). inr (v.0, v.1, v.2 ∙ (before v.0 v.1).last))
          step.ends.taken;
    }

    end_nn : 0ℚ ≤ℚ end
    end_nn = ≤ℚ_trans _ _ _ from_0 is_end.horizon_by

    first : (r : ℕ) (route : Route) → slice_get routes r ≡ Some route → slice_get route.links 0 ≡ Some e → IsFirst route.pieces horizon (entry_at all r 0)
    first r route h k =
        let o = step.over r 0 route h k in
        let g = o.first refl in
        first-is passes route.pieces horizon g.0 (entry_at all r 0) (are.pieces r route h) from_0 g.1 g.2

    entered : (r place : ℕ) (route : Route) → slice_get routes r ≡ Some route → slice_get route.links place ≡ Some e → IsEntry (entry_at all r place) end
    entered r zero route h k = entry-longer (entry_at all r 0) horizon end is_end.horizon_by (first r route h k).entry
    entered r (suc place) route h k =
        let below = slice_get_within route.links (suc place) e k in
        let f : (f : ℕ) × (slice_get route.links place ≡ Some f) = entry route.links place (omega arith) in
        let b : PrecedesOnRoute routes f.0 e = record { number = r; place = place; route = route; is_route = h; here = f.1; next = k } in
        entry-longer (entry_at all r (suc place)) (exit_by all f.0 (number_at all.ends f.0)) end (is_end.before f.0 b) ((before f.0 b).nexts r place route h f.1)

    -- ---- its inflow
    enters : Enters e routes step.begun (λ r place t. sent_by all r place t)
    enters = record {
      count = step.begun_count;
      each = λ r place route h k.
          let o = step.over r place route h k in
          (o.entries, o.here, subst (λ (l : List Point). IsCurve l) (sym o.last) (entered r place route h k).curve, λ t. ap (λ (l : List Point). value l t) o.last);
      once = λ r place other route h k j. (step.over r place route h k).once other j;
    }

    sum : IsSumWith ((0ℚ, 0ℚ) ∷ []) (λ t. sent_by_routes (λ r place. sent_by all r place t) e routes) step.inflow
    sum = sum-is passes e ((0ℚ, 0ℚ) ∷ []) routes step.begun (λ r place t. sent_by all r place t) step.inflow (refl, tt) enters step.sums

    amounts : (t : ℚ) → 0ℚ ≤ℚ t → value step.inflow t ≡ inflow_by routes all e t
    amounts t h = without_zero _ _ (sum.values t h)

    by_rises : NeverFalls (inflow_by routes all e)
    by_rises s t h k = routes-le (λ r place. sent_by all r place s) (λ r place. sent_by all r place t) e routes (λ r place route i j. (entered r place route i j).rises s t h k)

    rises : NeverFalls (value step.inflow)
    rises = rises-same (inflow_by routes all e) (value step.inflow) amounts by_rises

    begins : value step.inflow 0ℚ ≡ 0ℚ
    begins = amounts 0ℚ (≤ℚ_refl 0ℚ) ∙ routes-none (λ r place. sent_by all r place 0ℚ) e routes (λ r place route i j. (entered r place route i j).begins)

    positive : IsPositive step.link.capacity
    positive = IsPositive-link net e step.link good step.is_link

    waits_0 : 0ℚ ≤ℚ step.link.transit
    waits_0 = good.transits e step.link step.is_link

    loaded : IsLoaded step.link.transit step.link.capacity step.inflow end (link_loaded all e)
    loaded = checked_loading-is passes step.link.transit step.link.capacity step.inflow end (link_loaded all e) sum.curve begins rises waits_0 positive end_nn step.loads

    ends_there : EndsAtTime end exit
    ends_there = loading-ends passes step.link.transit step.link.capacity step.inflow end (link_loaded all e) sum.curve rises waits_0 positive end_nn step.loads

    exit_up : UpTo exit end
    exit_up = ends-upto exit end loaded.exit_curve ends_there

    exit_is : (t : ℚ) → Within 0ℚ end t → IsExit step.link.transit step.link.capacity (inflow_by routes all e) t (value exit t)
    exit_is t w = IsExit-same step.link.transit step.link.capacity (value step.inflow) (inflow_by routes all e) t (value exit t) (λ u k. amounts u k.0) (loaded.exit_values t w)

    exits_rise : (s t : ℚ) → 0ℚ ≤ℚ s → s ≤ℚ t → t ≤ℚ end → value exit s ≤ℚ value exit t
    exits_rise s t h k l = IsExit-monotone step.link.transit step.link.capacity (inflow_by routes all e) s t (value exit s) (value exit t) positive by_rises k
        (exit_is s (h, ≤ℚ_trans _ _ _ k l)) (exit_is t (≤ℚ_trans _ _ _ h k, l))

    exits_after : (t : ℚ) → Within 0ℚ end t → t ≤ℚ value exit t
    exits_after t w = first_of_sum t step.link.transit (value exit t) waits_0
        (IsExit-after step.link.transit step.link.capacity (inflow_by routes all e) t (value exit t) positive (exit_is t w))

    -- ---- the routes share
    can : (r place : ℕ) (route : Route) → slice_get routes r ≡ Some route → slice_get route.links place ≡ Some e → CanShare exit (entry_at all r place) end
    can r place route i j =
        let w = entered r place route i j in
        record {
          entry_curve = w.curve;
          exit_curve = loaded.exit_curve;
          from_0 = end_nn;
          entry_ends = upto-none (entry_at all r place) end w.up_to;
          exit_ends = upto-none exit end exit_up;
          begins = w.begins;
          first_exit = subst (λ (x : ℚ). 0ℚ ≤ℚ x) (sym (IsExit-at_0 step.link.transit step.link.capacity (inflow_by routes all e) (value exit 0ℚ)
              (exit_is 0ℚ (≤ℚ_refl 0ℚ, end_nn)))) waits_0;
          exits_rise = exits_rise;
          shares = λ s t h k l same. shares-equal (λ r place u. sent_by all r place u) e routes step.link.transit step.link.capacity s t (value exit s) positive
              (λ r place route i j. (entered r place route i j).rises) h k (exit_is s (h, ≤ℚ_trans _ _ _ k l))
              (subst (λ (x : ℚ). IsExit step.link.transit step.link.capacity (inflow_by routes all e) t x) (sym same) (exit_is t (≤ℚ_trans _ _ _ h k, l))) r place route i j;
        }

    pub link-is : Is e
    link-is = record {
      link = step.link;
      is_link = step.is_link;
      inflow = step.inflow;
      loaded = loaded;
      amounts = amounts;
      is_end = is_end;
      last = last-at_end exit end loaded.exit_curve ends_there;
      exits_rise = exits_rise;
      exits_after = exits_after;
      entries = entered;
      nexts = λ r place route i j. next-is passes exit (entry_at all r place) (entry_at all r (suc place)) end (can r place route i j)
          (entered r place route i j) exit_up (step.over r place route i j).sends;
      shares = λ r place route i j. shared passes exit (entry_at all r place) (entry_at all r (suc place)) end (can r place route i j)
          (entered r place route i j) exit_up (step.over r place route i j).sends;
      firsts = first;
    }

  -- ---- all links, in their order
  module _ (steps : (e : ℕ) → In e (order passes net routes horizon) → LinkStep passes net routes horizon final travels e) where
    along : (back front : List ℕ) → order passes net routes horizon ≡ front ++ back → ((f : ℕ) → In f front → Is f) → (f : ℕ) → In f (order passes net routes horizon) → Is f
    along [] front same done f w = done f (subst (λ (l : List ℕ). In f l) (same ∙ append-nil front) w)
    along (e ∷ back) front same done f w =
        along back (front ++ e ∷ []) (same ∙ sym (append_assoc front (e ∷ []) back))
        (λ g v. ⊎_elim (λ (u : In g front). done g u) (λ (u : In g (e ∷ [])). last g u) (in-either g front (e ∷ []) v)) f w
      where
        here : Is e
        here =
            let p = placed routes (many passes net routes horizon) (many passes net routes horizon) [] front e back same in
            link-is e (steps e (subst (λ (l : List ℕ). In e l) (sym same) (there front))) (λ f b. done f (subst (λ (l : List ℕ). In f l) (append-nil front) (p.1 f b)))
          where
            there : (front : List ℕ) → In e (front ++ e ∷ back)
            there [] = inl refl
            there (x ∷ front) = inr (there front)

        last : (g : ℕ) → In g (e ∷ []) → Is g
        last g (inl k) = subst (λ (x : ℕ). Is x) (sym k) here
        last g (inr k) = absurd k

    pub links-are : (e : ℕ) → In e (order passes net routes horizon) → Is e
    links-are e w = along (order passes net routes horizon) [] refl (λ f v. absurd v) e w
