-- Travels of routes over the same links: each is that of the first of them.
use Rattle.std.proofs.Common.{◌≡◌, ◌⊎◌, inl, inr, ⊎_elim, ℕ, zero, suc, ◌+◌, ◌≤◌, List, [], ◌∷◌, ◌++◌, length, drop, refl, sym, ap, subst, ◌∙◌, Some, Ok}
use Rattle.std.proofs.Common.{slice_get}
use Rattle.nf_routes_links.proofs.Common.{drop_next, drop_all, length_push, ℚ, Halt, Load, passes_Q, Checked, Stops, each, at_part, with_front, Point}
use Rattle.nf_routes_links.proofs.Common.{Loaded, departures, each_goes, each_stops, each_ends, front_none, stops_on, was_ok, Route, NamedRoute, routes_of}
use Rattle.nf_routes_links.proofs.Common.{links_of, links_at, travel_along, AreTravels}

-- ---- the same links, one by one
pub links_step : (left right : List ℕ) (i e f : ℕ) → slice_get left i ≡ Some e → slice_get right i ≡ Some f → e ≡ f → (drop i left ≡ drop i right → left ≡ right)
    → drop (i + 1) left ≡ drop (i + 1) right → left ≡ right
links_step left right i e f h k same so_far rest =
    so_far (drop_next left i e h ∙ ap (λ (n : ℕ). n ∷ drop (i + 1) left) same ∙ ap (λ (l : List ℕ). f ∷ l) rest ∙ sym (drop_next right i f k))

pub links_end : (left right : List ℕ) (i : ℕ) → length left ≤ i → length right ≤ i → (drop i left ≡ drop i right → left ≡ right) → left ≡ right
links_end left right i h k so_far = so_far (drop_all i left h ∙ sym (drop_all i right k))

-- ---- one entry more

at_more : (xs : List (List Point)) (x : List Point) (i : ℕ) (y : List Point) → slice_get (xs ++ x ∷ []) i ≡ Some y → (slice_get xs i ≡ Some y) ⊎ ((i ≡ length xs) × (x ≡ y))
at_more [] x zero y h = inr (refl, let same : x ≡ y = cc in same)
at_more [] x (suc i) y h = absurd (cc)
at_more (z ∷ xs) x zero y h = inl h
at_more (z ∷ xs) x (suc i) y h = ⊎_elim
    (λ (w : slice_get xs i ≡ Some y). inl w)
    (λ (w : (i ≡ length xs) × (x ≡ y)). inr (ap suc w.0, w.1))
    (at_more xs x i y h)

-- ---- the travels of the routes, one after the other
module _ (horizon : ℚ) (loaded : List Loaded) (routes : List NamedRoute) where
  abbrev travel_of : Route → Checked (List Point)
  travel_of route = travel_along passes_Q horizon loaded route.links (departures horizon)

  pub record AllTravels (travels : List (List Point)) (i : ℕ) : Type 0 where
    pub same : with_front travels (each travel_of (routes_of (drop i routes))) ≡ each travel_of (routes_of routes)
    pub are : AreTravels horizon loaded routes travels
    pub count : length travels ≡ i

  pub travels_none : AllTravels [] 0
  travels_none = record { same = front_none (each travel_of (routes_of routes)); are = record { each = λ r travel h. absurd (cc) }; count = refl }

  module _ (travels : List (List Point)) (i : ℕ) (all : AllTravels travels i) where
    pub travels_all : length routes ≤ i → at_part Load (each travel_of (routes_of routes)) ≡ Ok travels
    travels_all h = each_ends travel_of travels (each travel_of (routes_of routes)) Load
        (ap (λ (l : List NamedRoute). with_front travels (each travel_of (routes_of l))) (sym (drop_all i routes h)) ∙ all.same)

    module _ (named : NamedRoute) (at : slice_get routes i ≡ Some named) where
      rest : with_front travels (each travel_of (named.route ∷ routes_of (drop (i + 1) routes))) ≡ each travel_of (routes_of routes)
      rest = sym (ap (λ (l : List NamedRoute). with_front travels (each travel_of (routes_of l))) (drop_next routes i named at)) ∙ all.same

      here : travel_along passes_Q horizon loaded (links_at routes i) (departures horizon) ≡ travel_of named.route
      here = ap (λ o. travel_along passes_Q horizon loaded (links_of o) (departures horizon)) at

      pub travels_stopped : (h : Halt ℚ) (k : ℕ) → k ≡ i → Stops (λ (q : ℚ). q) h (at_part Load (travel_along passes_Q horizon loaded (links_at routes k) (departures horizon)))
          → Stops (λ (q : ℚ). q) h (at_part Load (each travel_of (routes_of routes)))
      travels_stopped h k e s = stops_on h (at_part Load (travel_of named.route)) (at_part Load (each travel_of (routes_of routes)))
          (each_stops Load travel_of travels (each travel_of (routes_of routes)) named.route (routes_of (drop (i + 1) routes)) rest)
          (subst (λ (r : Checked (List Point)). Stops (λ (q : ℚ). q) h (at_part Load r)) here
          (subst (λ (n : ℕ). Stops (λ (q : ℚ). q) h (at_part Load (travel_along passes_Q horizon loaded (links_at routes n) (departures horizon)))) e s))

      pub travels_next : (one : List Point) → at_part Load (travel_along passes_Q horizon loaded (links_at routes i) (departures horizon)) ≡ Ok one
          → (more : List (List Point)) → more ≡ travels ++ one ∷ [] → AllTravels more (i + 1)
      travels_next one w more m =
          let was = was_ok Load (travel_along passes_Q horizon loaded (links_at routes i) (departures horizon)) one w in
          subst (λ (l : List (List Point)). AllTravels l (i + 1)) (sym m) (record {
            same = each_goes Load travel_of travels (each travel_of (routes_of routes)) named.route (routes_of (drop (i + 1) routes)) rest one (ap (at_part Load) (sym here) ∙ w);
            are = record {
              each = λ r travel h. ⊎_elim
                  (λ (v : slice_get travels r ≡ Some travel). all.are.each r travel v)
                  (λ (v : (r ≡ length travels) × (one ≡ travel)).
                  ap (λ (n : ℕ). travel_along passes_Q horizon loaded (links_at routes n) (departures horizon)) (v.0 ∙ all.count) ∙ was ∙ ap Ok v.1)
                  (at_more travels one r travel h);
            };
            count = length_push travels one ∙ ap (λ (n : ℕ). n + 1) all.count;
          })
