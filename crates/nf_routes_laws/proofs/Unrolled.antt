-- The steps of the links in the loading order, read off the result.
use Rattle.std.proofs.Common.{◌≡◌, ◌≢◌, ℕ, zero, suc, ◌<◌, List, [], ◌∷◌, ◌++◌, length, ◌⊎◌, inl, inr, ⊎_elim, Bool, true, false, eqb, Option, Some, None}
use Rattle.std.proofs.Common.{slice_get, unwrap_or, set, length-set, refl, sym, ap, subst, ◌∙◌, append_assoc, arith, Ok, map, if◌then◌else◌}
use Rattle.nf_routes_laws.proofs.Common.{range_with_len, eqb_tells, length-map, append-nil, same_Some, slice_get_within, ℚ, 0ℚ, ◌≤ℚ◌, ◌<ℚ◌, max_ℚ, ≤ℚ_of_lt}
use Rattle.nf_routes_laws.proofs.Common.{≤ℚ_of_same, Passing, Point, number_at, Link, Network, IsLink, Loaded, checked_loading, last_value, Route}
use Rattle.nf_routes_laws.proofs.Common.{all_pairs, PrecedesOnRoute, first_free, with_next, order_from, LoadedLink, SoFar, Routed, exit_end, end_by}
use Rattle.nf_routes_laws.proofs.Common.{begins_at, goes_over, last_entry, but_last, begin_if, begin_all, sum_from, next_if, next_all, next_entry}
use Rattle.nf_routes_laws.proofs.Common.{load_here, load_all, end_or, loaded_or, link_loaded, stages_at, arrival_at, entry_at, then_ok, ≤ℚ_refl, ≤ℚ_trans}
use Rattle.nf_routes_laws.proofs.Common.{entry, slice_get-image, same_Ok, not_both, max_ℚ_cases, set_same}
use Rattle.nf_routes_laws.proofs.Ordering.{In, in-front, in-back, range-below, free-some, before-pair, before-of, placed}
use Rattle.nf_routes_laws.proofs.Stages.{get-next, set-other, get-last, at-stage, exit_end-is, begun-count, begun-at, next-count, next-at, over-at}
use Rattle.nf_routes_laws.proofs.Stages.{over-place}
use Rattle.nf_routes_laws.proofs.Steps.{Stands, stage, stands-none, place-is, stands-over, stands-past, IsEntryOf, Over, over-is, past-is}
use Rattle.nf_net_laws.proofs.WalkFacts.{slice_get-left}

-- ---- the links of the order are links
pub order-below : (pairs : List (ℕ × ℕ)) (many more : ℕ) (taken : List ℕ) (e : ℕ) → In e (order_from more pairs many taken) → e < many
order-below pairs many zero taken e h = absurd h
order-below pairs many (suc more) taken e h = by (first_free pairs taken (range_with_len 0 many)) refl h (λ f k. order-below pairs many more (f ∷ taken) e k)
  where
    by : (o : Option ℕ) → first_free pairs taken (range_with_len 0 many) ≡ o → In e (with_next o (λ f. order_from more pairs many (f ∷ taken)))
        → ((f : ℕ) → In e (order_from more pairs many (f ∷ taken)) → e < many) → e < many
    by None none k later = absurd k
    by (Some f) some (inl same) later =
        let below = range-below 0 many f (free-some pairs taken (range_with_len 0 many) f some).0 in
        subst (λ (x : ℕ). x < many) (sym same) (omega arith)
    by (Some f) some (inr k) later = later f k

-- ---- the end of a link: the greatest of the horizon and the end exits of its direct predecessors
pub record EndsBy (routes : List Route) (horizon : ℚ) (e : ℕ) (exits : ℕ → ℚ) (end : ℚ) : Type 0 where
  pub horizon_by : horizon ≤ℚ end
  pub before : (f : ℕ) → PrecedesOnRoute routes f e → exits f ≤ℚ end
  pub taken : (end ≡ horizon) ⊎ ((f : ℕ) × PrecedesOnRoute routes f e × (end ≡ exits f))

record EndsOver (pairs : List (ℕ × ℕ)) (horizon : ℚ) (e : ℕ) (exits : ℕ → ℚ) (end : ℚ) : Type 0 where
  pub horizon_by : horizon ≤ℚ end
  pub before : (p : ℕ × ℕ) → In p pairs → p.1 ≡ e → exits p.0 ≤ℚ end
  pub taken : (end ≡ horizon) ⊎ ((p : ℕ × ℕ) × In p pairs × (p.1 ≡ e) × (end ≡ exits p.0))

module _ (horizon : ℚ) (links : List (Option LoadedLink)) (e : ℕ) where
  abbrev Exits : ℕ → ℚ
  Exits f = exit_end (slice_get links f)

  one_over : (b : Bool) (p : ℕ × ℕ) (pairs : List (ℕ × ℕ)) (end : ℚ) → (b ≡ true → p.1 ≡ e) → (b ≡ false → p.1 ≢ e) → EndsOver pairs horizon e Exits end
      → EndsOver (p ∷ pairs) horizon e Exits (if b then max_ℚ (Exits p.0) end else end)
  one_over false p pairs end leads other w = record {
    horizon_by = w.horizon_by;
    before = λ q k s. ⊎_elim (λ (v : q ≡ p). absurd (other refl (ap (λ (x : ℕ × ℕ). x.1) (sym v) ∙ s))) (λ (v : In q pairs). w.before q v s) k;
    taken = ⊎_elim (λ (v : end ≡ horizon). inl v) (λ (v : (q : ℕ × ℕ) × In q pairs × (q.1 ≡ e) × (end ≡ Exits q.0)). inr (v.0, inr v.1, v.2, v.3)) w.taken;
  }
  one_over true p pairs end leads other w = ⊎_elim
      (λ (v : (max_ℚ (Exits p.0) end ≡ end) × (Exits p.0 ≤ℚ end)).
      subst (λ (x : ℚ). EndsOver (p ∷ pairs) horizon e Exits x) (sym v.0) (record {
        horizon_by = w.horizon_by;
        before = λ q k s. ⊎_elim (λ (u : q ≡ p). subst (λ (x : ℕ × ℕ). Exits x.0 ≤ℚ end) (sym u) v.1) (λ (u : In q pairs). w.before q u s) k;
        taken = ⊎_elim (λ (u : end ≡ horizon). inl u) (λ (u : (q : ℕ × ℕ) × In q pairs × (q.1 ≡ e) × (end ≡ Exits q.0)). inr (u.0, inr u.1, u.2, u.3)) w.taken;
      }))
      (λ (v : (max_ℚ (Exits p.0) end ≡ Exits p.0) × (end <ℚ Exits p.0)).
      subst (λ (x : ℚ). EndsOver (p ∷ pairs) horizon e Exits x) (sym v.0) (record {
        horizon_by = ≤ℚ_trans _ _ _ w.horizon_by (≤ℚ_of_lt _ _ v.1);
        before = λ q k s. ⊎_elim (λ (u : q ≡ p). ≤ℚ_of_same _ _ (ap (λ (x : ℕ × ℕ). Exits x.0) u)) (λ (u : In q pairs). ≤ℚ_trans _ _ _ (w.before q u s) (≤ℚ_of_lt _ _ v.1)) k;
        taken = inr (p, inl refl, leads refl, refl);
      }))
      (max_ℚ_cases (Exits p.0) end)

  over_pairs : (pairs : List (ℕ × ℕ)) → EndsOver pairs horizon e Exits (end_by horizon pairs links e)
  over_pairs [] = record { horizon_by = ≤ℚ_refl horizon; before = λ p k s. absurd k; taken = inl refl }
  over_pairs (p ∷ pairs) = one_over (eqb p.1 e) p pairs (end_by horizon pairs links e) leads other (over_pairs pairs)
    where
      leads : eqb p.1 e ≡ true → p.1 ≡ e
      leads t = ⊎_elim (λ (w : (eqb p.1 e ≡ true) × (p.1 ≡ e)). w.1) (λ (w : (eqb p.1 e ≡ false) × (p.1 ≢ e)). absurd (not_both (eqb p.1 e) t w.0)) (eqb_tells p.1 e)

      other : eqb p.1 e ≡ false → p.1 ≢ e
      other f = ⊎_elim (λ (w : (eqb p.1 e ≡ true) × (p.1 ≡ e)). absurd (not_both (eqb p.1 e) w.0 f)) (λ (w : (eqb p.1 e ≡ false) × (p.1 ≢ e)). w.1) (eqb_tells p.1 e)

  pub end_by-is : (routes : List Route) (exits : ℕ → ℚ) → ((f : ℕ) → PrecedesOnRoute routes f e → exit_end (slice_get links f) ≡ exits f)
      → EndsBy routes horizon e exits (end_by horizon (all_pairs routes) links e)
  end_by-is routes exits same =
      let w : EndsOver (all_pairs routes) horizon e Exits (end_by horizon (all_pairs routes) links e) = over_pairs (all_pairs routes) in
      record {
        horizon_by = w.horizon_by;
        before = λ f b. subst (λ (x : ℚ). x ≤ℚ end_by horizon (all_pairs routes) links e) (same f b) (w.before (f, e) (before-pair routes f e b) refl);
        taken = ⊎_elim
            (λ (v : end_by horizon (all_pairs routes) links e ≡ horizon). inl v)
            (λ (v : (p : ℕ × ℕ) × In p (all_pairs routes) × (p.1 ≡ e) × (end_by horizon (all_pairs routes) links e ≡ Exits p.0)).
            let b : PrecedesOnRoute routes v.0.0 e = subst (λ (x : ℕ). PrecedesOnRoute routes v.0.0 x) v.2 (before-of routes v.0 v.1) in
            inr (v.0.0, b, v.3 ∙ same v.0.0 b))
            w.taken;
      }

-- ---- one link of the order
module _ (passes : Passing) (net : Network) (routes : List Route) (horizon : ℚ) where
  abbrev pub many : ℕ
  many = length net.links

  abbrev pub order : List ℕ
  order = order_from many (all_pairs routes) many []

  -- a route with its entries so far
  pub record RouteStands (front : List ℕ) (s : SoFar) (r : ℕ) (route : Route) : Type 0 where
    pub n : ℕ
    pub entries : List (List Point)
    pub stands : Stands front route.links n
    pub here : slice_get s.entries r ≡ Some entries
    pub count : length entries ≡ stage n

  pub record RoutesStanding (front : List ℕ) (s : SoFar) : Type 0 where
    pub link_count : length s.links ≡ many
    pub entry_count : length s.entries ≡ length routes
    pub at : (r : ℕ) (route : Route) → slice_get routes r ≡ Some route → RouteStands front s r route

  -- the values that the step of a link computes
  pub record LinkDone (s : SoFar) (e : ℕ) (link : Link) (next : SoFar) : Type 0 where
    pub begun : List (List (List Point))
    pub inflow : List Point
    pub loaded : Loaded
    pub begins : begin_all passes horizon e routes s.entries ≡ Ok begun
    pub sums : sum_from passes e ((0ℚ, 0ℚ) ∷ []) routes begun ≡ Ok inflow
    pub loads : checked_loading passes link.transit link.capacity inflow (end_by horizon (all_pairs routes) s.links e) ≡ Ok loaded
    pub sends : next_all passes e loaded.exit routes begun ≡ Ok next.entries
    pub links_are : next.links ≡ set s.links e (Some (record { end = end_by horizon (all_pairs routes) s.links e; loaded = loaded }))

  link-done : (s : SoFar) (e : ℕ) (link : Link) (next : SoFar) → load_here passes horizon routes s e (Some link) ≡ Ok next → LinkDone s e link next
  link-done s e link next h =
      let begun = then_ok (begin_all passes horizon e routes s.entries) _ next h in
      let inflow = then_ok (sum_from passes e ((0ℚ, 0ℚ) ∷ []) routes begun.between) _ next begun.next in
      let loaded = then_ok (checked_loading passes link.transit link.capacity inflow.between (end_by horizon (all_pairs routes) s.links e)) _ next inflow.next in
      let entries = then_ok (next_all passes e loaded.between.exit routes begun.between) _ next loaded.next in
      subst (λ (x : SoFar). LinkDone s e link x) (same_Ok _ _ entries.next) (record {
        begun = begun.between;
        inflow = inflow.between;
        loaded = loaded.between;
        begins = begun.first;
        sums = inflow.first;
        loads = loaded.first;
        sends = entries.first;
        links_are = refl;
      })

  -- a route over the link has one entry more, and any other route is unchanged
  record RouteDone (front : List ℕ) (s : SoFar) (e : ℕ) (link : Link) (next : SoFar) (d : LinkDone s e link next) (r : ℕ) (route : Route) : Type 0 where
    pub was : RouteStands front s r route
    pub begun : List (List Point)
    pub after : List (List Point)
    pub begun_here : slice_get d.begun r ≡ Some begun
    pub after_here : slice_get next.entries r ≡ Some after
    pub case : Over passes e horizon route was.entries begun d.loaded.exit was.n after ⊎ (((place : ℕ) → slice_get route.links place ≡ Some e → ⊥) × (after ≡ was.entries))

  module _ (front : List ℕ) (s : SoFar) (e : ℕ) (link : Link) (next : SoFar) (d : LinkDone s e link next) (standing : RoutesStanding front s)
      (new : In e front → ⊥) (led : (f : ℕ) → PrecedesOnRoute routes f e → In f front) where
    route-done : (r : ℕ) (route : Route) → slice_get routes r ≡ Some route → RouteDone front s e link next d r route
    route-done r route here =
        let was : RouteStands front s r route = standing.at r route here in
        let b = begun-at passes horizon e routes s.entries d.begun r route was.entries d.begins here was.here in
        let a = next-at passes e d.loaded.exit routes d.begun next.entries r route b.0 d.sends here b.1 in
        record {
          was = was;
          begun = b.0;
          after = a.0;
          begun_here = b.1;
          after_here = a.1;
          case = by was b.0 a.0 b.2 a.2 (goes_over route.links e) refl;
        }
      where
        by : (was : RouteStands front s r route) (begun after : List (List Point))
            → begin_if passes (begins_at route.links e) horizon route was.entries ≡ Ok begun
            → next_if passes (goes_over route.links e) d.loaded.exit begun ≡ Ok after
            → (b : Bool) → goes_over route.links e ≡ b
            → Over passes e horizon route was.entries begun d.loaded.exit was.n after ⊎ (((place : ℕ) → slice_get route.links place ≡ Some e → ⊥) × (after ≡ was.entries))
        by was begun after h k true t =
            let p = over-place route.links e t in
            let only = place-is routes front e new led r route here was.n was.stands in
            inl (over-is passes e horizon route was.entries begun d.loaded.exit was.n after (subst (λ (n : ℕ). slice_get route.links n ≡ Some e) (only p.0 p.1) p.1) only was.count h k)
        by was begun after h k false t = inr (
          (λ place at. not_both (goes_over route.links e) (over-at route.links place e at) t),
          past-is passes e horizon route was.entries begun d.loaded.exit after t h k,
        )

    route-stands : (r : ℕ) (route : Route) → slice_get routes r ≡ Some route → RouteStands (front ++ e ∷ []) next r route
    route-stands r route here = by (route-done r route here)
      where
        one_longer : (xs : List (List Point)) (x : List Point) (n : ℕ) → length xs ≡ suc n → length (xs ++ x ∷ []) ≡ suc (suc n)
        one_longer [] x n h = absurd (omega arith)
        one_longer (y ∷ []) x n h = let m : 0 ≡ n = omega arith in ap (λ (k : ℕ). suc (suc k)) m
        one_longer (y ∷ z ∷ rest) x zero h = absurd (omega arith)
        one_longer (y ∷ z ∷ rest) x (suc n) h = ap suc (one_longer (z ∷ rest) x n (omega arith))

        by : RouteDone front s e link next d r route → RouteStands (front ++ e ∷ []) next r route
        by rd = ⊎_elim
            (λ (o : Over passes e horizon route rd.was.entries rd.begun d.loaded.exit rd.was.n rd.after). record {
              n = suc rd.was.n;
              entries = rd.after;
              stands = stands-over routes front e new led r route here rd.was.n rd.was.stands o.at;
              here = rd.after_here;
              count = ap length o.after_is ∙ one_longer rd.begun o.next rd.was.n o.begins.count;
            })
            (λ (p : ((place : ℕ) → slice_get route.links place ≡ Some e → ⊥) × (rd.after ≡ rd.was.entries)). record {
              n = rd.was.n;
              entries = rd.after;
              stands = stands-past routes front e new led r route here rd.was.n rd.was.stands p.0;
              here = rd.after_here;
              count = ap length p.1 ∙ rd.was.count;
            })
            rd.case

    step-standing : RoutesStanding (front ++ e ∷ []) next
    step-standing = record {
      link_count = ap length d.links_are ∙ length-set s.links e (Some (record { end = end_by horizon (all_pairs routes) s.links e; loaded = d.loaded })) ∙ standing.link_count;
      entry_count = next-count passes e d.loaded.exit routes d.begun next.entries d.sends (begun-count passes horizon e routes s.entries d.begun d.begins standing.entry_count);
      at = route-stands;
    }

    -- entries are added at the end of those that are there
    step-grows : (r : ℕ) (xs : List (List Point)) → slice_get s.entries r ≡ Some xs
        → (ys : List (List Point)) × (more : List (List Point)) × (slice_get next.entries r ≡ Some ys) × (ys ≡ xs ++ more)
    step-grows r xs h =
        let below : r < length routes = (let b = slice_get_within s.entries r xs h in let c = standing.entry_count in omega arith) in
        let route : (route : Route) × (slice_get routes r ≡ Some route) = entry routes r below in
        by route.0 (route-done r route.0 route.1)
      where
        by : (route : Route) → RouteDone front s e link next d r route → (ys : List (List Point)) × (more : List (List Point)) × (slice_get next.entries r ≡ Some ys) × (ys ≡ xs ++ more)
        by route rd =
            let same : rd.was.entries ≡ xs = same_Some _ _ (sym rd.was.here ∙ h) in
            subst (λ (l : List (List Point)). (ys : List (List Point)) × (more : List (List Point)) × (slice_get next.entries r ≡ Some ys) × (ys ≡ l ++ more)) same
            (⊎_elim
            (λ (o : Over passes e horizon route rd.was.entries rd.begun d.loaded.exit rd.was.n rd.after). (
              rd.after,
              o.begins.more ++ o.next ∷ [],
              rd.after_here,
              o.after_is ∙ ap (λ (l : List (List Point)). l ++ o.next ∷ []) o.begins.grown
                  ∙ append_assoc rd.was.entries o.begins.more (o.next ∷ []),
            ))
            (λ (p : ((place : ℕ) → slice_get route.links place ≡ Some e → ⊥) × (rd.after ≡ rd.was.entries)). (rd.after, [], rd.after_here, p.1 ∙ sym (append-nil rd.was.entries)))
            rd.case)

  -- ---- the result agrees with the values known at each step
  module _ (final : SoFar) (travels : List (List Point)) where
    abbrev pub routed : Routed
    routed = record {
      ends = map (end_or passes) final.links;
      links = map (loaded_or passes) final.links;
      entries =
          map (but_last passes) final.entries;
      arrivals = map last_entry final.entries;
      travels = travels;
    }

    pub record Grows (front : List ℕ) (s : SoFar) : Type 0 where
      pub links : (f : ℕ) → In f front → slice_get final.links f ≡ slice_get s.links f
      pub entries : (r : ℕ) (xs : List (List Point)) → slice_get s.entries r ≡ Some xs
          → (ys : List (List Point)) × (more : List (List Point)) × (slice_get final.entries r ≡ Some ys) × (ys ≡ xs ++ more)

    loaded-is : (e : ℕ) (l : LoadedLink) → slice_get final.links e ≡ Some (Some l) → link_loaded routed e ≡ l.loaded
    loaded-is e l h = ap (λ (o : Option Loaded). unwrap_or o (record { queue = []; outflow = []; exit = [] })) (slice_get-image (loaded_or passes) final.links e (Some l) h)

    end-is : (e : ℕ) (l : LoadedLink) → slice_get final.links e ≡ Some (Some l) → number_at routed.ends e ≡ l.end
    end-is e l h = ap (λ (o : Option ℚ). unwrap_or o 0ℚ) (slice_get-image (end_or passes) final.links e (Some l) h)

    pub stages-are : (r : ℕ) (ys : List (List Point)) → slice_get final.entries r ≡ Some ys → stages_at routed r ≡ but_last passes ys
    stages-are r ys h = ap (λ (o : Option (List (List Point))). unwrap_or o []) (slice_get-image (but_last passes) final.entries r ys h)

    pub entry-is : (r place : ℕ) (ys : List (List Point)) (x : List Point) → slice_get final.entries r ≡ Some ys → slice_get ys place ≡ Some x → entry_at routed r place ≡ x
    entry-is r place ys x h k =
        ap (λ (l : List (List Point)). unwrap_or (slice_get l place) (arrival_at routed r)) (stages-are r ys h)
        ∙ ap (λ (y : List Point). unwrap_or (slice_get (but_last passes ys) place) y) (ap (λ (o : Option (List Point)). unwrap_or o []) (slice_get-image last_entry final.entries r ys h))
        ∙ at-stage passes ys place x k

    -- a route over a link, with the entry that the sequence adds for it, at the only position of the link
    pub record RouteOver (e r place : ℕ) (route : Route) (begun : List (List (List Point))) : Type 0 where
      pub entries : List (List Point)
      pub here : slice_get begun r ≡ Some entries
      pub last : last_entry entries ≡ entry_at routed r place
      pub once : (other : ℕ) → slice_get route.links other ≡ Some e → other ≡ place
      pub sends : next_entry passes (link_loaded routed e).exit (entry_at routed r place) ≡ Ok (entry_at routed r (suc place))
      pub first : place ≡ 0 → IsEntryOf passes route.pieces horizon (entry_at routed r place)

    pub record LinkStep (e : ℕ) : Type 0 where
      pub link : Link
      pub is_link : IsLink net e link
      pub begun : List (List (List Point))
      pub inflow : List Point
      pub begun_count : length begun ≡ length routes
      pub sums : sum_from passes e ((0ℚ, 0ℚ) ∷ []) routes begun ≡ Ok inflow
      pub loads : checked_loading passes link.transit link.capacity inflow (number_at routed.ends e) ≡ Ok (link_loaded routed e)
      pub ends : EndsBy routes horizon e (λ f. last_value (link_loaded routed f).exit) (number_at routed.ends e)
      pub over : (r place : ℕ) (route : Route) → slice_get routes r ≡ Some route → slice_get route.links place ≡ Some e → RouteOver e r place route begun

    module _ (front : List ℕ) (s : SoFar) (e : ℕ) (link : Link) (next : SoFar) (d : LinkDone s e link next) (standing : RoutesStanding front s)
        (new : In e front → ⊥) (led : (f : ℕ) → PrecedesOnRoute routes f e → In f front)
        (is_link : IsLink net e link) (grows : Grows (front ++ e ∷ []) next) where
      below : e < length s.links
      below = let b = slice_get_within net.links e link is_link in let c = standing.link_count in omega arith

      final_here : slice_get final.links e ≡ Some (Some (record { end = end_by horizon (all_pairs routes) s.links e; loaded = d.loaded }))
      final_here = grows.links e (in-back e front (e ∷ []) (inl refl)) ∙ ap (λ (l : List (Option LoadedLink)). slice_get l e) d.links_are ∙ set_same s.links e _ below

      before_same : (f : ℕ) → In f front → slice_get final.links f ≡ slice_get s.links f
      before_same f w = grows.links f (in-front f front (e ∷ []) w) ∙ ap (λ (l : List (Option LoadedLink)). slice_get l f) d.links_are
          ∙ set-other s.links e f _ (λ k. new (subst (λ (x : ℕ). In x front) (sym k) w))

      step-final : Grows front s
      step-final = record {
        links = before_same;
        entries = λ r xs h.
            let a = step-grows front s e link next d standing new led r xs h in
            let b = grows.entries r a.0 a.2 in
            (b.0, a.1 ++ b.1, b.2, b.3 ∙ ap (λ (l : List (List Point)). l ++ b.1) a.3 ∙ append_assoc xs a.1 b.1);
      }

      loaded_same : link_loaded routed e ≡ d.loaded
      loaded_same = loaded-is e _ final_here

      end_same : number_at routed.ends e ≡ end_by horizon (all_pairs routes) s.links e
      end_same = end-is e _ final_here

      over : (r place : ℕ) (route : Route) → slice_get routes r ≡ Some route → slice_get route.links place ≡ Some e → RouteOver e r place route d.begun
      over r place route h k = by (route-done front s e link next d standing new led r route h)
        where
          over_case : (rd : RouteDone front s e link next d r route) → place ≡ rd.was.n
              → Over passes e horizon route rd.was.entries rd.begun d.loaded.exit rd.was.n rd.after → RouteOver e r place route d.begun
          over_case rd at o =
              let g = grows.entries r rd.after rd.after_here in
              let whole : g.0 ≡ (rd.begun ++ o.next ∷ []) ++ g.1 = g.3 ∙ ap (λ (l : List (List Point)). l ++ g.1) o.after_is in
              let at_n : slice_get g.0 rd.was.n ≡ Some (last_entry rd.begun) = ap (λ (l : List (List Point)). slice_get l rd.was.n) whole
              ∙ slice_get-left (rd.begun ++ o.next ∷ []) g.1 rd.was.n _ (slice_get-left rd.begun (o.next ∷ []) rd.was.n _ (get-last rd.begun rd.was.n o.begins.count)) in
              let at_next : slice_get g.0 (suc rd.was.n) ≡ Some o.next = ap (λ (l : List (List Point)). slice_get l (suc rd.was.n)) whole
              ∙ slice_get-left (rd.begun ++ o.next ∷ []) g.1 (suc rd.was.n) _ (get-next rd.begun o.next [] (suc rd.was.n) o.begins.count) in
              let entry_n : entry_at routed r rd.was.n ≡ last_entry rd.begun = entry-is r rd.was.n g.0 _ g.2 at_n in
              let entry_next : entry_at routed r (suc rd.was.n) ≡ o.next = entry-is r (suc rd.was.n) g.0 _ g.2 at_next in
              subst (λ (p : ℕ). RouteOver e r p route d.begun) (sym at) (record {
                entries = rd.begun;
                here = rd.begun_here;
                last = sym entry_n;
                once = place-is routes front e new led r route h rd.was.n rd.was.stands;
                sends = sent_same (link_loaded routed e).exit d.loaded.exit _ _ _ _ (ap (λ (l : Loaded). l.exit) loaded_same) entry_n entry_next o.sends;
                first = λ z. subst (λ (l : List Point). IsEntryOf passes route.pieces horizon l) (sym entry_n) (o.begins.first z);
              })
            where
              sent_same : (exit exit' entry entry' after after' : List Point) → exit ≡ exit' → entry ≡ entry' → after ≡ after'
                  → next_entry passes exit' entry' ≡ Ok after' → next_entry passes exit entry ≡ Ok after
              sent_same exit exit' entry entry' after after' a b c h = cc

          by : RouteDone front s e link next d r route → RouteOver e r place route d.begun
          by rd = ⊎_elim
              (λ (o : Over passes e horizon route rd.was.entries rd.begun d.loaded.exit rd.was.n rd.after). over_case rd
              (place-is routes front e new led r route h rd.was.n rd.was.stands place k) o)
              (λ (p : ((place : ℕ) → slice_get route.links place ≡ Some e → ⊥) × (rd.after ≡ rd.was.entries)). absurd (p.0 place k))
              rd.case

      link-step : LinkStep e
      link-step = record {
        link = link;
        is_link = is_link;
        begun = d.begun;
        inflow = d.inflow;
        begun_count = begun-count passes horizon e routes s.entries d.begun d.begins standing.entry_count;
        sums = d.sums;
        loads = subst (λ (x : ℚ). checked_loading passes link.transit link.capacity d.inflow x ≡ Ok (link_loaded routed e)) (sym end_same)
            (subst (λ (l : Loaded). checked_loading passes link.transit link.capacity d.inflow (end_by horizon (all_pairs routes) s.links e) ≡ Ok l) (sym loaded_same) d.loads);
        ends = subst (λ (x : ℚ). EndsBy routes horizon e (λ f. last_value (link_loaded routed f).exit) x) (sym end_same)
            (end_by-is horizon s.links e routes (λ f. last_value (link_loaded routed f).exit) (λ f b. ap exit_end (sym (before_same f (led f b))) ∙ exit_end-is passes final.links f));
        over = over;
      }

    -- ---- all of them
    pub record Unrolled (front : List ℕ) (s : SoFar) (back : List ℕ) : Type 0 where
      pub grows : Grows front s
      pub stands : RoutesStanding order final
      pub steps : (e : ℕ) → In e back → LinkStep e

    pub unroll : (back front : List ℕ) (s : SoFar) → order ≡ front ++ back → RoutesStanding front s → load_all passes net routes horizon back s ≡ Ok final → Unrolled front s back
    unroll [] front s same standing h =
        let done : s ≡ final = same_Ok _ _ h in
        record {
          grows = record {
            links = λ f w. ap (λ (z : SoFar). slice_get z.links f) (sym done);
            entries =
                λ r xs k. (xs, [], ap (λ (z : SoFar). slice_get z.entries r) (sym done) ∙ k, sym (append-nil xs));
          };
          stands = subst (λ (l : List ℕ). RoutesStanding l final) (sym (same ∙ append-nil front)) (subst (λ (z : SoFar). RoutesStanding front z) done standing);
          steps = λ e w. absurd w;
        }
    unroll (e ∷ back) front s same standing h =
        let step = then_ok (load_here passes horizon routes s e (slice_get net.links e)) _ final h in
        let below : e < many = order-below (all_pairs routes) many many [] e (subst (λ (l : List ℕ). In e l) (sym same) (in-back e front (e ∷ back) (inl refl))) in
        let l : (link : Link) × (slice_get net.links e ≡ Some link) = entry net.links e below in
        let d : LinkDone s e l.0 step.between = link-done s e l.0 step.between (ap (λ (o : Option Link). load_here passes horizon routes s e o) (sym l.1) ∙ step.first) in
        let p = placed routes many many [] front e back same in
        let new : In e front → ⊥ = λ w. p.0 (subst (λ (l : List ℕ). In e l) (sym (append-nil front)) w) in
        let led : (f : ℕ) → PrecedesOnRoute routes f e → In f front = λ f b. subst (λ (l : List ℕ). In f l) (append-nil front) (p.1 f b) in
        let rest : Unrolled (front ++ e ∷ []) step.between back = unroll back (front ++ e ∷ []) step.between (same ∙ sym (append_assoc front (e ∷ []) back))
        (step-standing front s e l.0 step.between d standing new led) step.next in
        record {
          grows = step-final front s e l.0 step.between d standing new led l.1 rest.grows;
          stands = rest.stands;
          steps = λ f w. ⊎_elim
              (λ (v : f ≡ e). subst (λ (x : ℕ). LinkStep x) (sym v) (link-step front s e l.0 step.between d standing new led l.1 rest.grows))
              (λ (v : In f back). rest.steps f v)
              w;
        }

    -- from the start
    pub unrolled : load_all passes net routes horizon order (record { links = map (λ _. None) net.links; entries = map (λ _. []) routes }) ≡ Ok final
        → Unrolled [] (record { links = map (λ _. None) net.links; entries = map (λ _. []) routes }) order
    unrolled h = unroll order [] (record { links = map (λ _. None) net.links; entries = map (λ _. []) routes }) refl (record {
      link_count = length-map net.links (λ _. None);
      entry_count = length-map routes (λ _. []);
      at = λ r route k. record { n = 0; entries = []; stands = stands-none route.links; here = slice_get-image (λ _. []) routes r route k; count = refl };
    }) h
