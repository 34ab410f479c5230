-- Travels over loaded links: by what is loaded, and that no time of them is negative.
use Rattle.std.proofs.Common.{◌≡◌, ℕ, zero, suc, ◌+◌, ◌≤◌, List, [], ◌∷◌, length, drop, ⊎_elim, Bool, true, false, refl, sym, ap, subst, ◌∙◌, arith, Option}
use Rattle.std.proofs.Common.{Some, None, Ok, Err, map, slice_get, unwrap_or, if◌then◌else◌}
use Rattle.nf_routes_links.proofs.Common.{drop_next, drop_all, length-map, slice_get_within, ℚ, 0ℚ, ◌≤ℚ◌, ≤ℚ_refl, ≤ℚ_trans, Halt, Load, Passing, Checked}
use Rattle.nf_routes_links.proofs.Common.{Stops, at_part, each, ◌>>=◌, Point, Within, value, IsCurve, Network, NeverFalls-value, value-first, is_zero}
use Rattle.nf_routes_links.proofs.Common.{is_same_cases, Loaded, loaded_at, departures, after_err, was_ok, stops_on, Route, AreRoutes, LoadedLink, SoFar}
use Rattle.nf_routes_links.proofs.Common.{exit_of, loaded_or, travel_on, AreExits, IsFullyLoaded, HaveExits, GoOverAll, travel_along, ValuesRise}
use Rattle.nf_routes_links.proofs.Common.{IsComposedOf}
use Rattle.nf_curve_def.specs.Composed.{checked_composed}
use Rattle.nf_curve.proofs.Points.{positive}
use Rattle.nf_routes_laws.proofs.Arriving.{walk-links}

-- ---- the exits by what is loaded
exit_same : (passes : Passing) (links : List (Option LoadedLink)) (e : ℕ) → exit_of passes links e ≡ (loaded_at (map (loaded_or passes) links) e).exit
exit_same passes [] e = refl
exit_same passes (None ∷ links) zero = refl
exit_same passes (Some l ∷ links) zero = refl
exit_same passes (o ∷ links) (suc e) = exit_same passes links e

pub travel_on-is : (passes : Passing) (horizon : ℚ) (links : List (Option LoadedLink)) (route : List ℕ) (travel : List Point)
    → travel_on passes horizon links route travel ≡ travel_along passes horizon (map (loaded_or passes) links) route travel
travel_on-is passes horizon links [] travel = refl
travel_on-is passes horizon links (e ∷ rest) travel =
    ap (λ (x : List Point). checked_composed passes x travel horizon >>= λ next. travel_on passes horizon links rest next) (exit_same passes links e)
    ∙ later (checked_composed passes (loaded_at (map (loaded_or passes) links) e).exit travel horizon) (λ next. travel_on-is passes horizon links rest next)
  where
    later : (r : Checked (List Point)) → ((next : List Point) → travel_on passes horizon links rest next ≡ travel_along passes horizon (map (loaded_or passes) links) rest next)
        → (r >>= λ next. travel_on passes horizon links rest next) ≡ (r >>= λ next. travel_along passes horizon (map (loaded_or passes) links) rest next)
    later (Ok next) same = same next
    later (Err p) same = refl

pub each_same : {A B : Type 0} (f g : A → Checked B) → ((x : A) → f x ≡ g x) → (xs : List A) → each f xs ≡ each g xs
each_same f g same [] = refl
each_same {A} {B} f g same (x ∷ xs) =
    ap (λ (r : Checked B). r >>= λ y. each f xs >>= λ ys. Ok (y ∷ ys)) (same x)
    ∙ ap (λ (r : Checked (List B)). g x >>= λ y. r >>= λ ys. Ok (y ∷ ys)) (each_same f g same xs)

-- ---- what is complete has exits, and routes go over its links
pub complete_exits : (passes : Passing) (net : Network) (routes : List Route) (so_far : SoFar) → IsFullyLoaded net routes so_far → HaveExits (map (loaded_or passes) so_far.links)
complete_exits passes net routes so_far c = record { each = λ e link h. at so_far.links e link h (c.links.each e) (c.exits e) }
  where
    at : (links : List (Option LoadedLink)) (e : ℕ) (link : Loaded) → slice_get (map (loaded_or passes) links) e ≡ Some link → (slice_get links e ≡ Some None → ⊥)
        → ((l : LoadedLink) → slice_get links e ≡ Some (Some l) → AreExits l.loaded.exit) → AreExits link.exit
    at [] e link h none some = absurd (cc)
    at (None ∷ links) zero link h none some = absurd (none refl)
    at (Some l ∷ links) zero link h none some = let same : l.loaded ≡ link = cc in subst (λ (x : Loaded). AreExits x.exit) same (some l refl)
    at (o ∷ links) (suc e) link h none some = at links e link h none some

pub complete_over : (passes : Passing) (net : Network) (routes : List Route) (so_far : SoFar) → IsFullyLoaded net routes so_far → AreRoutes net routes
    → GoOverAll (map (loaded_or passes) so_far.links) routes
complete_over passes net routes so_far c are = record {
  each = λ r route h. record {
    each = λ place e k.
        let l = walk-links net route.links net.source net.sink place e (are.walks r route h) k in
        let i = slice_get_within net.links e l.0 l.1 in
        let n = length-map so_far.links (loaded_or passes) in
        let m = c.count in omega arith;
  };
}

-- ---- no time of a travel is negative
pub record NoneNegative (horizon : ℚ) (travel : List Point) : Type 0 where
  pub values : (time : ℚ) → Within 0ℚ horizon time → 0ℚ ≤ℚ value travel time

never_below : (line : List Point) → IsCurve line → ValuesRise line → value line 0ℚ ≡ 0ℚ → (time : ℚ) → 0ℚ ≤ℚ time → 0ℚ ≤ℚ value line time
never_below line curve rise begins time h = subst (λ (x : ℚ). x ≤ℚ value line time) begins (NeverFalls-value line curve rise 0ℚ time (≤ℚ_refl 0ℚ) h)

-- the departures are one point, or two
departures_are : (P : List Point → Type 0) (horizon : ℚ) → P ((0ℚ, 0ℚ) ∷ []) → ((horizon ≡ 0ℚ → ⊥) → P ((0ℚ, 0ℚ) ∷ (horizon, horizon) ∷ [])) → P (departures horizon)
departures_are P horizon one two = ⊎_elim
    (λ (w : (is_zero horizon ≡ true) × (horizon ≡ 0ℚ)). subst (λ (b : Bool). P (if b then (0ℚ, 0ℚ) ∷ [] else (0ℚ, 0ℚ) ∷ (horizon, horizon) ∷ [])) (sym w.0) one)
    (λ (w : (is_zero horizon ≡ false) × (horizon ≡ 0ℚ → ⊥)). subst (λ (b : Bool). P (if b then (0ℚ, 0ℚ) ∷ [] else (0ℚ, 0ℚ) ∷ (horizon, horizon) ∷ [])) (sym w.0) (two w.1))
    (is_same_cases horizon 0ℚ)

abbrev first_value : List Point → ℚ
first_value [] = 0ℚ
first_value (p ∷ rest) = p.1

value-begins : (l : List Point) → IsCurve l → first_value l ≡ 0ℚ → value l 0ℚ ≡ 0ℚ
value-begins [] c h = absurd c
value-begins (p ∷ rest) c h = ap (value (p ∷ rest)) (sym c.0) ∙ value-first p rest c.1 ∙ h

departures_nn : (horizon : ℚ) → 0ℚ ≤ℚ horizon → NoneNegative horizon (departures horizon)
departures_nn horizon from_0 = record {
  values = λ time w.
      let curve : IsCurve (departures horizon) = departures_are IsCurve horizon (refl, tt) (λ n. (refl, (positive horizon from_0 n, tt))) in
      let rise : ValuesRise (departures horizon) = departures_are ValuesRise horizon tt (λ n. (from_0, tt)) in
      let begins : first_value (departures horizon) ≡ 0ℚ = departures_are (λ (l : List Point). first_value l ≡ 0ℚ) horizon refl (λ n. refl) in
      never_below (departures horizon) curve rise (value-begins (departures horizon) curve begins) time w.0;
}

pub composed_nn : (horizon : ℚ) (exit travel next : List Point) → AreExits exit → NoneNegative horizon travel → IsComposedOf exit travel horizon next → NoneNegative horizon next
composed_nn horizon exit travel next exits n is = record {
  values = λ time w. subst (λ (x : ℚ). 0ℚ ≤ℚ x) (sym (is.values time w)) (≤ℚ_trans _ _ _ exits.first (exits.rises 0ℚ (value travel time) (≤ℚ_refl 0ℚ) (n.values time w)));
}

-- ---- a travel, link by link
pub record Travels (passes : Passing) (horizon : ℚ) (loaded : List Loaded) (links : List ℕ) (travel : List Point) (i : ℕ) : Type 0 where
  pub same : travel_along passes horizon loaded (drop i links) travel ≡ travel_along passes horizon loaded links (departures horizon)
  pub positive : NoneNegative horizon travel

module _ (passes : Passing) (horizon : ℚ) (loaded : List Loaded) (links : List ℕ) where
  pub travels_first : (line : List Point) → 0ℚ ≤ℚ horizon → line ≡ departures horizon → Travels passes horizon loaded links line 0
  travels_first line from_0 e =
      record {
        same = ap (λ (t : List Point). travel_along passes horizon loaded links t) e;
        positive =
            subst (λ (l : List Point). NoneNegative horizon l) (sym e) (departures_nn horizon from_0);
      }

  module _ (travel : List Point) (i : ℕ) (so_far : Travels passes horizon loaded links travel i) where
    pub travels_last : length links ≤ i → travel_along passes horizon loaded [] travel ≡ travel_along passes horizon loaded links (departures horizon)
    travels_last h = sym (ap (λ (l : List ℕ). travel_along passes horizon loaded l travel) (drop_all i links h)) ∙ so_far.same

    module _ (e : ℕ) (link : Loaded) (at : slice_get links i ≡ Some e) (is : slice_get loaded e ≡ Some link) where
      exit_is : (loaded_at loaded e).exit ≡ link.exit
      exit_is = ap (λ (o : Option Loaded). (unwrap_or o (record { queue = []; outflow = []; exit = [] })).exit) is

      here : (checked_composed passes link.exit travel horizon >>= λ next. travel_along passes horizon loaded (drop (i + 1) links) next)
          ≡ travel_along passes horizon loaded links (departures horizon)
      here = ap (λ (x : List Point). checked_composed passes x travel horizon >>= λ next. travel_along passes horizon loaded (drop (i + 1) links) next) (sym exit_is)
          ∙ sym (ap (λ (l : List ℕ). travel_along passes horizon loaded l travel) (drop_next links i e at)) ∙ so_far.same

      pub travels_stop : (h : Halt ℚ) → Stops (λ (q : ℚ). q) h (at_part Load (checked_composed passes link.exit travel horizon))
          → Stops (λ (q : ℚ). q) h (at_part Load (travel_along passes horizon loaded links (departures horizon)))
      travels_stop h s = stops_on h (at_part Load (checked_composed passes link.exit travel horizon)) (at_part Load (travel_along passes horizon loaded links (departures horizon)))
          (λ p k. ap (at_part Load) (sym here) ∙ after_err Load (checked_composed passes link.exit travel horizon)
          (λ next. travel_along passes horizon loaded (drop (i + 1) links) next) p k) s

      pub travels_go : (next : List Point) → AreExits link.exit → at_part Load (checked_composed passes link.exit travel horizon) ≡ Ok next
          → IsComposedOf link.exit travel horizon next → Travels passes horizon loaded links next (i + 1)
      travels_go next exits k w = record {
        same = ap (λ (r : Checked (List Point)). r >>= λ t. travel_along passes horizon loaded (drop (i + 1) links) t)
            (sym (was_ok Load (checked_composed passes link.exit travel horizon) next k)) ∙ here;
        positive = composed_nn horizon link.exit travel next exits so_far.positive w;
      }
