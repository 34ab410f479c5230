-- The end of a link, worked out pair by pair.
use Rattle.std.proofs.Common.{◌≡◌, ℕ, zero, suc, ◌+◌, ◌-◌, ◌<◌, ◌≤◌, List, [], ◌∷◌, ◌++◌, length, drop, Bool, true, false, eqb, refl, sym, ap, ◌∙◌, arith}
use Rattle.std.proofs.Common.{Option, Some, if◌then◌else◌, slice_get}
use Rattle.nf_routes_links.proofs.Common.{none-some, same_Some, ℚ, ◌≤ℚ◌, max_ℚ, ≤ℚ_antisymm, ≤ℚ_refl, ≤ℚ_trans, Point, last_value, pairs_of, all_pairs}
use Rattle.nf_routes_links.proofs.Common.{NamedRoute, routes_of, LoadedLink, exit_end, end_by, pairs_at, pairs_none, all_pairs_at}
use Rattle.nf_rational_laws.proofs.Extremes.{max_left, max_right, max_keeps}

max_least : (x y z : ℚ) → x ≤ℚ z → y ≤ℚ z → max_ℚ x y ≤ℚ z
max_least x y z h k = max_keeps (λ (a : ℚ). a ≤ℚ z) x y h k

max_below : (x y z : ℚ) → max_ℚ x (max_ℚ y z) ≤ℚ max_ℚ y (max_ℚ x z)
max_below x y z = max_least x (max_ℚ y z) (max_ℚ y (max_ℚ x z)) (≤ℚ_trans _ _ _ (max_left x z) (max_right y (max_ℚ x z)))
    (max_least y z (max_ℚ y (max_ℚ x z)) (max_left y (max_ℚ x z)) (≤ℚ_trans _ _ _ (max_right x z) (max_right y (max_ℚ x z))))

max_swap : (x y z : ℚ) → max_ℚ x (max_ℚ y z) ≡ max_ℚ y (max_ℚ x z)
max_swap x y z = ≤ℚ_antisymm _ _ (max_below x y z) (max_below y x z)

max_comm : (x y : ℚ) → max_ℚ x y ≡ max_ℚ y x
max_comm x y = ≤ℚ_antisymm _ _ (max_least x y (max_ℚ y x) (max_right y x) (max_left y x)) (max_least y x (max_ℚ x y) (max_right x y) (max_left x y))

-- what is greater first is greater in the end
end-max : (x least : ℚ) (pairs : List (ℕ × ℕ)) (links : List (Option LoadedLink)) (e : ℕ) → end_by (max_ℚ x least) pairs links e ≡ max_ℚ x (end_by least pairs links e)
end-max x least [] links e = refl
end-max x least (p ∷ pairs) links e = by (eqb p.1 e) (end-max x least pairs links e)
  where
    by : (b : Bool) → end_by (max_ℚ x least) pairs links e ≡ max_ℚ x (end_by least pairs links e)
        → (if b then max_ℚ (exit_end (slice_get links p.0)) (end_by (max_ℚ x least) pairs links e) else end_by (max_ℚ x least) pairs links e)
        ≡ max_ℚ x (if b then max_ℚ (exit_end (slice_get links p.0)) (end_by least pairs links e) else end_by least pairs links e)
    by true h = ap (max_ℚ (exit_end (slice_get links p.0))) h ∙ max_swap (exit_end (slice_get links p.0)) x (end_by least pairs links e)
    by false h = h

-- a pair of the link, and one of another
pub end-here : (least : ℚ) (p : ℕ × ℕ) (pairs : List (ℕ × ℕ)) (links : List (Option LoadedLink)) (e : ℕ) → eqb p.1 e ≡ true
    → end_by (max_ℚ least (exit_end (slice_get links p.0))) pairs links e ≡ end_by least (p ∷ pairs) links e
end-here least p pairs links e t =
    ap (λ (x : ℚ). end_by x pairs links e) (max_comm least (exit_end (slice_get links p.0)))
    ∙ end-max (exit_end (slice_get links p.0)) least pairs links e
    ∙ sym (ap (λ (b : Bool). if b then max_ℚ (exit_end (slice_get links p.0)) (end_by least pairs links e) else end_by least pairs links e) t)

pub end-other : (least : ℚ) (p : ℕ × ℕ) (pairs : List (ℕ × ℕ)) (links : List (Option LoadedLink)) (e : ℕ) → eqb p.1 e ≡ false
    → end_by least pairs links e ≡ end_by least (p ∷ pairs) links e
end-other least p pairs links e t = sym (ap (λ (b : Bool). if b then max_ℚ (exit_end (slice_get links p.0)) (end_by least pairs links e) else end_by least pairs links e) t)

-- some pairs and then others
pub end-append : (least : ℚ) (pairs more : List (ℕ × ℕ)) (links : List (Option LoadedLink)) (e : ℕ)
    → end_by (end_by least pairs links e) more links e ≡ end_by least (pairs ++ more) links e
end-append least [] more links e = refl
end-append least (p ∷ pairs) more links e = by (eqb p.1 e) refl (end-append least pairs more links e)
  where
    by : (b : Bool) → eqb p.1 e ≡ b → end_by (end_by least pairs links e) more links e ≡ end_by least (pairs ++ more) links e
        → end_by (if b then max_ℚ (exit_end (slice_get links p.0)) (end_by least pairs links e) else end_by least pairs links e) more links e
        ≡ (if b then max_ℚ (exit_end (slice_get links p.0)) (end_by least (pairs ++ more) links e) else end_by least (pairs ++ more) links e)
    by true t h = end-max (exit_end (slice_get links p.0)) (end_by least pairs links e) more links e ∙ ap (max_ℚ (exit_end (slice_get links p.0))) h
    by false t h = h

-- it isn't before the least time
pub end-least : (least : ℚ) (pairs : List (ℕ × ℕ)) (links : List (Option LoadedLink)) (e : ℕ) → least ≤ℚ end_by least pairs links e
end-least least [] links e = ≤ℚ_refl least
end-least least (p ∷ pairs) links e = by (eqb p.1 e) (end-least least pairs links e)
  where
    by : (b : Bool) → least ≤ℚ end_by least pairs links e → least ≤ℚ (if b then max_ℚ (exit_end (slice_get links p.0)) (end_by least pairs links e) else end_by least pairs links e)
    by true h = ≤ℚ_trans _ _ _ h (max_right (exit_end (slice_get links p.0)) (end_by least pairs links e))
    by false h = h

-- ---- along one route, from a place on
module _ (along : List ℕ) (links : List (Option LoadedLink)) (link i : ℕ) (end all : ℚ) (some : 0 < i) (so_far : end_by end (pairs_of (drop (i - 1) along)) links link ≡ all) where
  pub along_end : length along ≤ i → end ≡ all
  along_end h = sym (ap (λ (ps : List (ℕ × ℕ)). end_by end ps links link) (pairs_none along (i - 1) (omega arith))) ∙ so_far

  module _ (e f : ℕ) (before : slice_get along (i - 1) ≡ Some e) (here : slice_get along i ≡ Some f) where
    first : end_by end ((e, f) ∷ pairs_of (drop i along)) links link ≡ all
    first =
        let n : suc (i - 1) ≡ i = omega arith in
        sym (ap (λ (ps : List (ℕ × ℕ)). end_by end ps links link) (pairs_at along (i - 1) e f before (ap (slice_get along) n ∙ here)
        ∙ ap (λ (k : ℕ). (e, f) ∷ pairs_of (drop k along)) n)) ∙ so_far

    later : (least : ℚ) → end_by least (pairs_of (drop (i + 1 - 1) along)) links link ≡ end_by least (pairs_of (drop i along)) links link
    later least = ap (λ (k : ℕ). end_by least (pairs_of (drop k along)) links link) (let n : i + 1 - 1 ≡ i = omega arith in n)

    pub along_here : eqb f link ≡ true → end_by (max_ℚ end (exit_end (slice_get links e))) (pairs_of (drop (i + 1 - 1) along)) links link ≡ all
    along_here t = later (max_ℚ end (exit_end (slice_get links e))) ∙ end-here end (e, f) (pairs_of (drop i along)) links link t ∙ first

    pub along_other : eqb f link ≡ false → end_by end (pairs_of (drop (i + 1 - 1) along)) links link ≡ all
    along_other t = later end ∙ end-other end (e, f) (pairs_of (drop i along)) links link t ∙ first

-- over one more route
pub end_route : (routes : List NamedRoute) (links : List (Option LoadedLink)) (link i : ℕ) (end next all : ℚ) (route : NamedRoute) → slice_get routes i ≡ Some route
    → end_by end (all_pairs (routes_of (drop i routes))) links link ≡ all → next ≡ end_by end (pairs_of route.route.links) links link
    → end_by next (all_pairs (routes_of (drop (i + 1) routes))) links link ≡ all
end_route routes links link i end next all route at so_far is =
    ap (λ (z : ℚ). end_by z (all_pairs (routes_of (drop (i + 1) routes))) links link) is
    ∙ end-append end (pairs_of route.route.links) (all_pairs (routes_of (drop (i + 1) routes))) links link
    ∙ ap (λ (k : ℕ). end_by end (pairs_of route.route.links ++ all_pairs (routes_of (drop k routes))) links link) (let n : i + 1 ≡ suc i = omega arith in n)
    ∙ sym (ap (λ (ps : List (ℕ × ℕ)). end_by end ps links link) (all_pairs_at routes i route at)) ∙ so_far

-- the value of the last point
pub last_value-at : (points : List Point) (k : ℕ) (p : Point) → slice_get points k ≡ Some p → length points ≡ k + 1 → last_value points ≡ p.1
last_value-at [] k p h e = absurd (none-some p h)
last_value-at (x ∷ []) zero p h e = ap (λ (q : Point). q.1) (same_Some x p h)
last_value-at (x ∷ []) (suc k) p h e = absurd (none-some p h)
last_value-at (x ∷ y ∷ rest) zero p h e = absurd (omega arith)
last_value-at (x ∷ y ∷ rest) (suc k) p h e = last_value-at (y ∷ rest) k p h (omega arith)
