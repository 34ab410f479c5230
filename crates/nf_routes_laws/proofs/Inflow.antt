-- The inflow of a link as the operation sequence adds it: the sum of the routes' entries at every time. Each route enters the link at most
-- at one position.
use Rattle.std.proofs.Common.{◌≡◌, ◌≢◌, ℕ, zero, suc, List, [], ◌∷◌, length, ⊎_elim, Bool, true, false, eqb, Some, slice_get, refl, sym, ap, subst, ◌∙◌}
use Rattle.std.proofs.Common.{arith, Ok, if◌then◌else◌}
use Rattle.nf_routes_laws.proofs.Common.{plus_zero, second_is_zero, eqb_tells, same_Some, ℚ, 0ℚ, ◌+ℚ◌, ◌≤ℚ◌, reading_of, eq, linear_eq, Passing, Point}
use Rattle.nf_routes_laws.proofs.Common.{value, IsCurve, IsSumOf, then_ok, Route, goes_over, last_entry, add_if, sum_from, sent_along, sent_by_routes}
use Rattle.nf_routes_laws.proofs.Common.{same_Ok, not_both}
use Rattle.nf_curve_laws.proofs.Sums.{checked_sum-is}
use Rattle.nf_routes_laws.proofs.Arriving.{along-none}
use Rattle.nf_routes_laws.proofs.Stages.{over-at, over-place}

-- ---- a sum with one term
with_first : (b : Bool) (x s : ℚ) → b ≡ true → s ≡ 0ℚ → (if b then x +ℚ s else s) ≡ x
with_first true x s e f = linear_eq (x ∷ s ∷ []) (eq f ∷ []) (search reading_of) tt tt
with_first false x s e f = absurd (cc)

without_first : (b : Bool) (x s : ℚ) → b ≡ false → (if b then x +ℚ s else s) ≡ s
without_first true x s e = absurd (cc)
without_first false x s e = refl

pub along-once : (f : ℕ → ℚ) (e : ℕ) (links : List ℕ) (place : ℕ) → slice_get links place ≡ Some e
    → ((other : ℕ) → slice_get links other ≡ Some e → other ≡ place) → sent_along f e links ≡ f place
along-once f e [] place h once = absurd (cc)
along-once f e (l ∷ links) zero h once = ⊎_elim
    (λ (w : (eqb l e ≡ true) × (l ≡ e)). with_first (eqb l e) (f 0) _ w.0 (along-none (λ p. f (suc p)) e links (λ p k. absurd (no p (once (suc p) k)))))
    (λ (w : (eqb l e ≡ false) × (l ≢ e)). absurd (w.1 (same_Some l e h)))
    (eqb_tells l e)
  where
    no : (p : ℕ) → suc p ≡ 0 → ⊥
    no p e = omega arith
along-once f e (l ∷ links) (suc place) h once = ⊎_elim
    (λ (w : (eqb l e ≡ true) × (l ≡ e)). absurd (no (once 0 (ap (λ (x : ℕ). Some x) w.1))))
    (λ (w : (eqb l e ≡ false) × (l ≢ e)). without_first (eqb l e) (f 0) _ w.0 ∙ along-once (λ p. f (suc p)) e links place h (λ p k. less p (once (suc p) k)))
    (eqb_tells l e)
  where
    no : 0 ≡ suc place → ⊥
    no e = omega arith

    less : (p : ℕ) → suc p ≡ suc place → p ≡ place
    less p e = omega arith

-- ---- the sum over the routes
-- the entry that the sequence adds for each route over the link is the amount entered, by route and position; each route contains the link
-- at most once
pub record Enters (e : ℕ) (routes : List Route) (entries : List (List (List Point))) (entered : ℕ → ℕ → ℚ → ℚ) : Type 0 where
  pub count : length entries ≡ length routes
  pub each : (r place : ℕ) (route : Route) → slice_get routes r ≡ Some route → slice_get route.links place ≡ Some e
      → (xs : List (List Point)) × (slice_get entries r ≡ Some xs) × IsCurve (last_entry xs) × ((t : ℚ) → value (last_entry xs) t ≡ entered r place t)
  pub once : (r place other : ℕ) (route : Route) → slice_get routes r ≡ Some route → slice_get route.links place ≡ Some e → slice_get route.links other ≡ Some e → other ≡ place

pub record IsSumWith (total : List Point) (added : ℚ → ℚ) (sum : List Point) : Type 0 where
  pub curve : IsCurve sum
  pub values : (t : ℚ) → 0ℚ ≤ℚ t → value sum t ≡ value total t +ℚ added t

two_sums : (s n t a b : ℚ) → s ≡ n +ℚ b → n ≡ t +ℚ a → s ≡ t +ℚ (a +ℚ b)
two_sums s n t a b e f = linear_eq (s ∷ n ∷ t ∷ a ∷ b ∷ []) (eq e ∷ eq f ∷ []) (search reading_of) tt tt

module _ (passes : Passing) (e : ℕ) where
  add-is : (b : Bool) (total entry sum : List Point) (added : ℚ → ℚ) → IsCurve total
      → (b ≡ true → IsCurve entry × ((t : ℚ) → 0ℚ ≤ℚ t → value entry t ≡ added t)) → (b ≡ false → (t : ℚ) → added t ≡ 0ℚ)
      → add_if passes b total entry ≡ Ok sum → IsSumWith total added sum
  add-is true total entry sum added c goes past h =
      let y = goes refl in
      let s : IsSumOf total entry sum = checked_sum-is passes total entry c y.0 sum h in
      record { curve = s.curve; values = λ t k. s.values t k ∙ ap (λ (z : ℚ). value total t +ℚ z) (y.1 t k) }
  add-is false total entry sum added c goes past h =
      subst (λ (l : List Point). IsSumWith total added l) (same_Ok _ _ h) (record { curve = c; values = λ t k. sym (second_is_zero (value total t) (added t) (past refl t)) })

  pub sum-is : (total : List Point) (routes : List Route) (entries : List (List (List Point))) (entered : ℕ → ℕ → ℚ → ℚ) (inflow : List Point)
      → IsCurve total → Enters e routes entries entered
      → sum_from passes e total routes entries ≡ Ok inflow → IsSumWith total (λ t. sent_by_routes (λ r place. entered r place t) e routes) inflow
  sum-is total [] entries entered inflow c w h =
      subst (λ (l : List Point). IsSumWith total (λ t. 0ℚ) l) (same_Ok _ _ h) (record { curve = c; values = λ t k. plus_zero (value total t) })
  sum-is total (x ∷ routes) [] entered inflow c w h = absurd (none (w.count))
    where
      none : 0 ≡ length (x ∷ routes) → ⊥
      none e = omega arith
  sum-is total (x ∷ routes) (y ∷ entries) entered inflow c w h =
      let n = then_ok (add_if passes (goes_over x.links e) total (last_entry y)) _ inflow h in
      let a : IsSumWith total (λ t. sent_along (λ p. entered 0 p t) e x.links) n.between =
      add-is (goes_over x.links e) total (last_entry y) n.between (λ t. sent_along (λ p. entered 0 p t) e x.links) c here none n.first in
      let rest : IsSumWith n.between (λ t. sent_by_routes (λ r place. entered (suc r) place t) e routes) inflow =
      sum-is n.between routes entries (λ r. entered (suc r)) inflow a.curve later n.next in
      record { curve = rest.curve; values = λ t k. two_sums _ _ _ _ _ (rest.values t k) (a.values t k) }
    where
      here : goes_over x.links e ≡ true → IsCurve (last_entry y) × ((t : ℚ) → 0ℚ ≤ℚ t → value (last_entry y) t ≡ sent_along (λ p. entered 0 p t) e x.links)
      here over =
          let p = over-place x.links e over in
          let g = w.each 0 p.0 x refl p.1 in
          let same : g.0 ≡ y = sym (same_Some y g.0 g.1) in (
            subst (λ (l : List (List Point)). IsCurve (last_entry l)) same g.2,
            λ t k.
                ap (λ (l : List (List Point)). value (last_entry l) t) (sym same) ∙ g.3 t ∙ sym (along-once (λ q. entered 0 q t) e x.links p.0 p.1 (λ q j. w.once 0 p.0 q x refl p.1 j)),
          )

      none : goes_over x.links e ≡ false → (t : ℚ) → sent_along (λ p. entered 0 p t) e x.links ≡ 0ℚ
      none past t = along-none (λ p. entered 0 p t) e x.links (λ p k. absurd (not_both (goes_over x.links e) (over-at x.links p e k) past))

      later : Enters e routes entries (λ r. entered (suc r))
      later = record {
        count = let k = w.count in less k;
        each = λ r place route i j. w.each (suc r) place route i j;
        once =
            λ r place other route i j k. w.once (suc r) place other route i j k;
      }
        where
          less : length (y ∷ entries) ≡ length (x ∷ routes) → length entries ≡ length routes
          less e = omega arith
