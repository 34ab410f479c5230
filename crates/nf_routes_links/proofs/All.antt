-- The loading of all links, one after the other, as the list has it.
use Rattle.std.proofs.Common.{◌≡◌, ℕ, zero, suc, ◌+◌, ◌≤◌, List, [], ◌∷◌, ◌++◌, length, take, drop, sym, ap, subst, ◌∙◌, arith, Option, Some, Ok, Err}
use Rattle.std.proofs.Common.{slice_get}
use Rattle.nf_routes_links.proofs.Common.{drop_next, drop_all, take_all, take-append-drop, ℚ, 0ℚ, ◌≤ℚ◌, Halt, Load, PassedAt, Passing, Checked, Stops}
use Rattle.nf_routes_links.proofs.Common.{at_part, ◌>>=◌, Link, Network, IsLink, IsNetwork, after_err, was_ok, stops_on, err_before, ok_before, SoFar}
use Rattle.nf_routes_links.proofs.Common.{load_here, IsPlaced, order_placed, nothing_loaded, nothing_sent, all_loaded, MayLoad, IsFullyLoaded, kept_after}
use Rattle.nf_routes_links.proofs.Common.{load_kept, all_kept, Kept, Route, AreRoutes, HoldCircle, all_pairs}
use Rattle.nf_routes_def.specs.Routes.{loading_order}
use Rattle.nf_routes_laws.proofs.Ordering.{takes_all-straight}
use Rattle.nf_routes_links.proofs.Alone.{stands_kept, all_kept-is}
use Rattle.nf_routes_links.proofs.Stands.{Stands, stands_first, may_load, steps_of, stands_next, stands_last, all_taken}

-- ---- a link of the order, when those before it are taken
take_on : (xs : List ℕ) (i e : ℕ) → slice_get xs i ≡ Some e → take i xs ++ e ∷ [] ≡ take (suc i) xs
take_on [] i e h = absurd (cc)
take_on (y ∷ xs) zero e h = let same : y ≡ e = cc in ap (λ (z : ℕ). z ∷ []) (sym same)
take_on (y ∷ xs) (suc i) e h = ap (λ (l : List ℕ). y ∷ l) (take_on xs i e h)

module _ (net : Network) (routes : List Route) (order : List ℕ) (is_order : order ≡ loading_order (length net.links) routes) where
  module _ (i e : ℕ) (at : slice_get order i ≡ Some e) where
    take_at : take i order ++ e ∷ [] ≡ take (i + 1) order
    take_at = take_on order i e at ∙ ap (λ (k : ℕ). take k order) (let same : suc i ≡ i + 1 = omega arith in same)

    pub placed_at : IsPlaced (all_pairs routes) (length net.links) (take i order) e
    unfolding loading_order
    placed_at = order_placed (all_pairs routes) (length net.links) (length net.links) (take i order) e (drop (i + 1) order)
        (sym is_order ∙ sym (take-append-drop i order) ∙ ap (λ (l : List ℕ). take i order ++ l) (drop_next order i e at))

    pub may_load_at : (so_far : SoFar) → Stands net routes (take i order) so_far → MayLoad net routes e so_far
    may_load_at so_far stands = may_load net routes (take i order) e so_far stands placed_at

    pub stands_go : (passes : Passing) (horizon : ℚ) (link : Link) (so_far next : SoFar) → IsLink net e link → 0ℚ ≤ℚ horizon → IsNetwork net → Stands net routes (take i order) so_far
        → load_here passes horizon routes so_far e (slice_get net.links e) ≡ Ok next → Stands net routes (take (i + 1) order) next
    stands_go passes horizon link so_far next is from_0 good stands was = subst (λ (l : List ℕ). Stands net routes l next) take_at
        (stands_next passes net routes horizon (take i order) e link so_far next from_0 good is stands placed_at
        (steps_of passes horizon routes so_far e link next (ap (λ (o : Option Link). load_here passes horizon routes so_far e o) (sym is) ∙ was)))

  pub stands_complete : (are : AreRoutes net routes) (so_far : SoFar) (i : ℕ) → Stands net routes (take i order) so_far → length order ≤ i → IsNetwork net
      → (HoldCircle routes → ⊥) → IsFullyLoaded net routes so_far
  stands_complete are so_far i stands h good straight =
      stands_last net routes order so_far good are (all_taken (length net.links) routes order is_order (takes_all-straight net routes are straight))
      (subst (λ (l : List ℕ). Stands net routes l so_far) (take_all i order h) stands)

-- ---- the loading of the links
pub record Loads (passes : Passing) (kept : Kept) (net : Network) (routes : List Route) (horizon : ℚ) (order : List ℕ) (so_far : SoFar) (i : ℕ) : Type 0 where
  pub same : load_kept passes kept net routes horizon (drop i order) so_far ≡ all_kept passes kept net routes horizon
  pub stands : Stands net routes (take i order) so_far

module _ (passes : Passing) (kept : Kept) (net : Network) (routes : List Route) (horizon : ℚ) (order : List ℕ) (is_order : order ≡ loading_order (length net.links) routes) where
  pub loads_first : (are : AreRoutes net routes) (so_far : SoFar) → so_far.links ≡ nothing_loaded net.links → so_far.entries ≡ nothing_sent routes
      → Loads passes kept net routes horizon order so_far 0
  loads_first are so_far h k = record {
    same = ap (λ (l : List ℕ). load_kept passes kept net routes horizon l so_far) is_order
        ∙ ap (λ (l : List _). load_kept passes kept net routes horizon (loading_order (length net.links) routes) (record { links = l; entries = so_far.entries })) h
        ∙ ap (λ (l : List _). load_kept passes kept net routes horizon (loading_order (length net.links) routes) (record { links = nothing_loaded net.links; entries = l })) k;
    stands = stands_first net routes so_far are h k;
  }

  module _ (so_far : SoFar) (i : ℕ) (loads : Loads passes kept net routes horizon order so_far i) where
    pub loads_last : length order ≤ i → at_part Load (all_kept passes kept net routes horizon) ≡ Ok so_far
    loads_last h = ap (at_part Load) (sym loads.same ∙ ap (λ (l : List ℕ). load_kept passes kept net routes horizon l so_far) (drop_all i order h))

    module _ (e : ℕ) (at : slice_get order i ≡ Some e) where
      here : (load_here passes horizon routes so_far e (slice_get net.links e) >>= λ next. load_kept passes kept net routes horizon (drop (i + 1) order)
          (kept_after kept next)) ≡ all_kept passes kept net routes horizon
      here = sym (ap (λ (l : List ℕ). load_kept passes kept net routes horizon l so_far) (drop_next order i e at)) ∙ loads.same

      pub loads_stop : (h : Halt ℚ) → Stops (λ (q : ℚ). q) h (at_part Load (load_here passes horizon routes so_far e (slice_get net.links e)))
          → Stops (λ (q : ℚ). q) h (at_part Load (all_kept passes kept net routes horizon))
      loads_stop h s = stops_on h (at_part Load (load_here passes horizon routes so_far e (slice_get net.links e))) (at_part Load (all_kept passes kept net routes horizon))
          (λ p k. ap (at_part Load) (sym here)
          ∙ after_err Load (load_here passes horizon routes so_far e (slice_get net.links e))
          (λ next. load_kept passes kept net routes horizon (drop (i + 1) order) (kept_after kept next)) p k) s

      pub loads_go : (link : Link) (next : SoFar) → IsLink net e link → 0ℚ ≤ℚ horizon → IsNetwork net
          → at_part Load (load_here passes horizon routes so_far e (slice_get net.links e)) ≡ Ok next
          → Loads passes kept net routes horizon order (kept_after kept next) (i + 1)
      loads_go link next is from_0 good k =
          let was = was_ok Load (load_here passes horizon routes so_far e (slice_get net.links e)) next k in
          record {
            same = ap (λ (r : Checked SoFar). r >>= λ n. load_kept passes kept net routes horizon (drop (i + 1) order) (kept_after kept n)) (sym was) ∙ here;
            stands = stands_kept net routes (take (i + 1) order) kept next (stands_go net routes order is_order i e at passes horizon link so_far next is from_0 good loads.stands was);
          }

-- ---- the same as with all entries
pub record Whole (passes : Passing) (kept : Kept) (net : Network) (routes : List Route) (horizon : ℚ) (so_far : SoFar) : Type 0 where
  pub all : SoFar
  pub loaded : at_part Load (all_loaded passes net routes horizon) ≡ Ok all
  pub same : kept_after kept all ≡ so_far

module _ (passes : Passing) (kept : Kept) (net : Network) (routes : List Route) (horizon : ℚ) where
  pub kept_stops : (p : PassedAt ℚ) → at_part Load (all_kept passes kept net routes horizon) ≡ Err p → at_part Load (all_loaded passes net routes horizon) ≡ Err p
  kept_stops p h = err_before Load (all_loaded passes net routes horizon) (kept_after kept) p (ap (at_part Load) (sym (all_kept-is passes kept net routes horizon)) ∙ h)

  pub whole_of : (so_far : SoFar) → at_part Load (all_kept passes kept net routes horizon) ≡ Ok so_far → Whole passes kept net routes horizon so_far
  whole_of so_far h =
      let w = ok_before Load (all_loaded passes net routes horizon) (kept_after kept) so_far (ap (at_part Load) (sym (all_kept-is passes kept net routes horizon)) ∙ h) in
      record { all = w.0; loaded = ap (at_part Load) w.1; same = w.2 }
