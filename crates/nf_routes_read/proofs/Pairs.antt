-- Pairs of consecutive links, from an index of a route on and from a route on.
use Rattle.std.proofs.Common.{◌≡◌, ℕ, zero, suc, ◌+◌, ◌-◌, ◌<◌, ◌≤◌, not, ◌||◌, eqb, List, [], ◌∷◌, ◌++◌, length, drop, Bool, true, false, ◌&&◌, refl, sym}
use Rattle.std.proofs.Common.{ap, ◌∙◌, arith, Some, slice_get}
use Rattle.nf_routes_read.proofs.Common.{list_all, pairs_of, all_pairs, is_taken, NamedRoute, routes_of, or_right}
use Rattle.nf_rational_laws.proofs.Results.{not_or}

pub pairs_at : (links : List ℕ) (i : ℕ) (e f : ℕ) → slice_get links i ≡ Some e → slice_get links (suc i) ≡ Some f → pairs_of (drop i links) ≡ (e, f) ∷ pairs_of (drop (suc i) links)
pairs_at [] i e f h k = absurd (cc)
pairs_at (x ∷ []) zero e f h k = absurd (cc)
pairs_at (x ∷ y ∷ rest) zero e f h k =
    let a : x ≡ e = cc in
    let b : y ≡ f = cc in
    ap (λ (z : ℕ). (z, y) ∷ pairs_of (y ∷ rest)) a ∙ ap (λ (z : ℕ). (e, z) ∷ pairs_of (y ∷ rest)) b
pairs_at (x ∷ rest) (suc i) e f h k = pairs_at rest i e f h k

pub pairs_none : (links : List ℕ) (i : ℕ) → length links ≤ suc i → pairs_of (drop i links) ≡ []
pairs_none [] zero h = refl
pairs_none [] (suc i) h = refl
pairs_none (x ∷ []) zero h = refl
pairs_none (x ∷ y ∷ rest) zero h = absurd (omega arith)
pairs_none (x ∷ rest) (suc i) h = pairs_none rest i (omega arith)

pub all_pairs_at : (routes : List NamedRoute) (i : ℕ) (r : NamedRoute) → slice_get routes i ≡ Some r
    → all_pairs (routes_of (drop i routes)) ≡ pairs_of r.route.links ++ all_pairs (routes_of (drop (suc i) routes))
all_pairs_at [] i r h = absurd (cc)
all_pairs_at (x ∷ rest) zero r h = let same : x ≡ r = cc in ap (λ (n : NamedRoute). pairs_of n.route.links ++ all_pairs (routes_of rest)) same
all_pairs_at (x ∷ rest) (suc i) r h = all_pairs_at rest i r h

-- ---- along one route

abbrev pub test : List ℕ → ℕ → ℕ × ℕ → Bool
test taken link p = not (eqb p.1 link) || is_taken taken p.0

module _ (links taken : List ℕ) (link i : ℕ) (some : 0 < i) (so_far : list_all (test taken link) (pairs_of (drop (i - 1) links)) ≡ list_all (test taken link) (pairs_of links)) where
  pub pairs_end : length links ≤ i → true ≡ list_all (test taken link) (pairs_of links)
  pairs_end h = sym (ap (list_all (test taken link)) (pairs_none links (i - 1) (omega arith))) ∙ so_far

  module _ (e f : ℕ) (before : slice_get links (i - 1) ≡ Some e) (here : slice_get links i ≡ Some f) where
    first : list_all (test taken link) ((e, f) ∷ pairs_of (drop i links)) ≡ list_all (test taken link) (pairs_of links)
    first =
        let n : suc (i - 1) ≡ i = omega arith in
        sym (ap (list_all (test taken link)) (pairs_at links (i - 1) e f before (ap (slice_get links) n ∙ here) ∙ ap (λ (k : ℕ). (e, f) ∷ pairs_of (drop k links)) n)) ∙ so_far

    goes_on : test taken link (e, f) ≡ true → list_all (test taken link) (pairs_of (drop (i + 1 - 1) links)) ≡ list_all (test taken link) (pairs_of links)
    goes_on t =
        ap (λ (k : ℕ). list_all (test taken link) (pairs_of (drop k links))) (let n : i + 1 - 1 ≡ i = omega arith in n)
        ∙ sym (ap (λ (b : Bool). b && list_all (test taken link) (pairs_of (drop i links))) t) ∙ first

    pub pairs_taken : is_taken taken e ≡ true → list_all (test taken link) (pairs_of (drop (i + 1 - 1) links)) ≡ list_all (test taken link) (pairs_of links)
    pairs_taken t = goes_on (or_right (not (eqb f link)) (is_taken taken e) t)

    pub pairs_other : eqb f link ≡ false → list_all (test taken link) (pairs_of (drop (i + 1 - 1) links)) ≡ list_all (test taken link) (pairs_of links)
    pairs_other t = goes_on (not_or (eqb f link) (is_taken taken e) t)
