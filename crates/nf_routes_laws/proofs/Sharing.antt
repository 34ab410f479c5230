-- First in, first out by route: where two exits of a link are equal, no route has sent anything between their entries.
use Rattle.std.proofs.Common.{◌≡◌, ℕ, zero, suc, List, [], ◌∷◌, Bool, true, false, eqb, Option, Some, slice_get, refl, ap, subst, ◌∙◌, if◌then◌else◌}
use Rattle.nf_routes_laws.proofs.Common.{eqb-true, eq-eqb, same_Some, ℚ, 0ℚ, ◌+ℚ◌, ◌≤ℚ◌, reading_of, ≤ℚ_antisymm, le, linear_le, NeverFalls, IsExit}
use Rattle.nf_routes_laws.proofs.Common.{IsPositive, IsOutflow-at_exit, IsOutflow-unique, Route, sent_along, sent_by_routes, ≤ℚ_refl, ≤ℚ_trans}
use Rattle.nf_routes_laws.proofs.Arriving.{along-le, routes-le}
use Rattle.nf_model_laws.proofs.Potential.{first_le, rest_le}

-- ---- two sums that are equal, of which no term of the one exceeds that of the other
if_first : (b : Bool) (x y s t : ℚ) → b ≡ true → s ≤ℚ t → (if b then y +ℚ t else t) ≤ℚ (if b then x +ℚ s else s) → y ≤ℚ x
if_first true x y s t e h k = linear_le (x ∷ y ∷ s ∷ t ∷ []) (le h ∷ le k ∷ []) (search reading_of) tt
if_first false x y s t e h k = absurd (cc)

if_rest : (b : Bool) (x y s t : ℚ) → (b ≡ true → x ≤ℚ y) → (if b then y +ℚ t else t) ≤ℚ (if b then x +ℚ s else s) → t ≤ℚ s
if_rest true x y s t e k = let h = e refl in linear_le (x ∷ y ∷ s ∷ t ∷ []) (le h ∷ le k ∷ []) (search reading_of) tt
if_rest false x y s t e k = k

along-each : (f g : ℕ → ℚ) (e : ℕ) (links : List ℕ) → ((place : ℕ) → slice_get links place ≡ Some e → f place ≤ℚ g place) → sent_along g e links ≤ℚ sent_along f e links
    → (place : ℕ) → slice_get links place ≡ Some e → g place ≤ℚ f place
along-each f g e [] h k place at = absurd (cc)
along-each f g e (l ∷ links) h k zero at = if_first (eqb l e) (f 0) (g 0) _ _ (eq-eqb l e (same_Some l e at)) (along-le (λ p. f (suc p)) (λ p. g (suc p)) e links (λ p j. h (suc p) j)) k
along-each f g e (l ∷ links) h k (suc place) at =
    along-each (λ p. f (suc p)) (λ p. g (suc p)) e links (λ p j. h (suc p) j) (if_rest (eqb l e) (f 0) (g 0) _ _ (λ t. h 0 (ap (λ (x : ℕ). Some x) (eqb-true l e t))) k) place at

abbrev Each : List Route → ℕ → (ℕ → ℕ → Type 0) → Type 0
Each routes e P = (r place : ℕ) (route : Route) → slice_get routes r ≡ Some route → slice_get route.links place ≡ Some e → P r place

routes-each : (f g : ℕ → ℕ → ℚ) (e : ℕ) (routes : List Route) → Each routes e (λ r place. f r place ≤ℚ g r place) → sent_by_routes g e routes ≤ℚ sent_by_routes f e routes
    → Each routes e (λ r place. g r place ≤ℚ f r place)
routes-each f g e [] h k r place route i j = absurd (cc)
routes-each f g e (x ∷ routes) h k zero place route i j =
    along-each (f 0) (g 0) e x.links (λ p l. h 0 p x refl l) (first_le _ _ _ _ (routes-le (λ r. f (suc r)) (λ r. g (suc r)) e routes (λ r p y l m. h (suc r) p y l m)) k) place
    (ap (λ (y : Route). slice_get y.links place) (same_Some x route i) ∙ j)
routes-each f g e (x ∷ routes) h k (suc r) place route i j =
    routes-each (λ r. f (suc r)) (λ r. g (suc r)) e routes (λ r p y l m. h (suc r) p y l m) (rest_le _ _ _ _ (along-le (f 0) (g 0) e x.links (λ p l. h 0 p x refl l)) k) r place route i j

-- ---- equal exits, equal entries
pub shares-equal : (sent : ℕ → ℕ → ℚ → ℚ) (e : ℕ) (routes : List Route) (transit : ℚ) (capacity : Option ℚ) (s t x : ℚ) → IsPositive capacity
    → Each routes e (λ r place. NeverFalls (sent r place)) → 0ℚ ≤ℚ s → s ≤ℚ t
    → IsExit transit capacity (λ u. sent_by_routes (λ r place. sent r place u) e routes) s x → IsExit transit capacity (λ u. sent_by_routes (λ r place. sent r place u) e routes) t x
    → Each routes e (λ r place. sent r place s ≡ sent r place t)
shares-equal sent e routes transit capacity s t x positive rises h k p q r place route i j = ≤ℚ_antisymm _ _ (rises r place route i j s t h k)
    (routes-each (λ r place. sent r place s) (λ r place. sent r place t) e routes (λ r place route i j. rises r place route i j s t h k)
    (subst (λ (y : ℚ). sent_by_routes (λ r place. sent r place t) e routes ≤ℚ y) same (≤ℚ_refl _)) r place route i j)
  where
    all : NeverFalls (λ u. sent_by_routes (λ r place. sent r place u) e routes)
    all a b m n = routes-le (λ r place. sent r place a) (λ r place. sent r place b) e routes (λ r place route i j. rises r place route i j a b m n)

    same : sent_by_routes (λ r place. sent r place t) e routes ≡ sent_by_routes (λ r place. sent r place s) e routes
    same = IsOutflow-unique transit capacity (λ u. sent_by_routes (λ r place. sent r place u) e routes) x _ _
        (IsOutflow-at_exit transit capacity (λ u. sent_by_routes (λ r place. sent r place u) e routes) t x positive all (≤ℚ_trans _ _ _ h k) q)
        (IsOutflow-at_exit transit capacity (λ u. sent_by_routes (λ r place. sent r place u) e routes) s x positive all h p)
