-- The operation sequence of loading by route. Links are loaded in loading order, then the travels are computed.
use Rattle.std.specs.Prelude.{ℕ, Bool, true, false, ◌==◌, if◌then◌else◌, List, [], ◌∷◌, ◌++◌, length, map, set, Option, Some, None, slice_get, Ok}
use Rattle.std.specs.List.{list_any}
use Rattle.nf_rational.specs.Rational.{ℚ}
use Rattle.nf_rational.specs.Operations.{0ℚ}
use Rattle.nf_rational.specs.Order.{max_ℚ}
use Rattle.nf_frac_def.specs.Passing.{Passing}
use Rattle.nf_frac_def.specs.Checked.{Checked, each, ◌>>=◌}
use Rattle.nf_model.specs.Curve.{Point}
use Rattle.nf_model.specs.Network.{Link, Network}
use Rattle.nf_rational.specs.Signs.{is_same}
use Rattle.nf_curve_def.specs.Lines.{Sides}
use Rattle.nf_curve_def.specs.Times.{both_times}
use Rattle.nf_curve_def.specs.Sums.{sides_at, checked_sum}
use Rattle.nf_curve_def.specs.Composed.{checked_composed}
use Rattle.nf_curve_def.specs.Short.{checked_short}
use Rattle.nf_load_def.specs.Cumulative.{checked_cumulative}
use Rattle.nf_load_def.specs.Loading.{Loaded, checked_loading}
use Rattle.nf_check_def.specs.Curves.{last_value, departures}
use Rattle.nf_routes_def.specs.Routes.{Route, all_pairs, loading_order}

-- the end and the loading of a loaded link
pub record LoadedLink : Type 0 where
  pub end : ℚ
  pub loaded : Loaded

-- progress: the loading of each loaded link, and the entries of each route so far, with the arrival last
pub record SoFar : Type 0 where
  pub links : List (Option LoadedLink)
  pub entries : List (List (List Point))

-- the result of loading by route
pub record Routed : Type 0 where
  pub ends : List ℚ
  pub links : List Loaded
  pub entries : List (List (List Point))
  pub arrivals : List (List Point)
  pub travels : List (List Point)

-- the exit of a link at its own end, or 0 if the link is not loaded
abbrev pub exit_end : Option (Option LoadedLink) → ℚ
exit_end (Some (Some l)) = last_value l.loaded.exit
exit_end other = 0ℚ

-- the greatest of the horizon and the end exits of the links directly before
abbrev pub end_by : ℚ → List (ℕ × ℕ) → List (Option LoadedLink) → ℕ → ℚ
end_by horizon [] links e = horizon
end_by horizon (p ∷ pairs) links e =
    if p.1 == e then max_ℚ (exit_end (slice_get links p.0)) (end_by horizon pairs links e) else end_by horizon pairs links e

abbrev pub begins_at : List ℕ → ℕ → Bool
begins_at [] e = false
begins_at (f ∷ rest) e = f == e

abbrev pub goes_over : List ℕ → ℕ → Bool
goes_over links e = list_any (λ f. f == e) links

-- the last of a route's entries so far
abbrev pub last_entry : List (List Point) → List Point
last_entry [] = []
last_entry (entry ∷ []) = entry
last_entry (entry ∷ rest) = last_entry rest

-- the points of the amount sent on: a point for each exit that differs from the one before
abbrev pub next_from : ℚ → List Sides → List Point
next_from last [] = []
next_from last (sides ∷ rest) = elim (is_same last sides.right) [
  | true ↦ next_from last rest
  | false ↦ (sides.right, sides.left) ∷ next_from sides.right rest
]

module _ (passes : Passing) where
  -- the amount that a route sends into its next link: by each exit, the amount entered by its entry
  unfoldable pub next_entry : List Point → List Point → Checked (List Point)
  next_entry exit entry = do
    sides ← each (sides_at passes entry exit) (both_times entry exit)
    checked_short passes ((0ℚ, 0ℚ) ∷ next_from 0ℚ sides)

  -- ---- the operations at one link e: the routes in order, each with its entries so far
  abbrev pub begin_if : Bool → ℚ → Route → List (List Point) → Checked (List (List Point))
  begin_if false horizon route entries = Ok entries
  begin_if true horizon route entries = do
    amounts ← checked_cumulative passes route.pieces horizon
    entry ← checked_short passes amounts
    Ok (entry ∷ [])

  abbrev pub begin_all : ℚ → ℕ → List Route → List (List (List Point)) → Checked (List (List (List Point)))
  begin_all horizon e (route ∷ routes) (entries ∷ rest) = do
    here ← begin_if (begins_at route.links e) horizon route entries
    later ← begin_all horizon e routes rest
    Ok (here ∷ later)
  begin_all horizon e routes entries = Ok []

  abbrev pub add_if : Bool → List Point → List Point → Checked (List Point)
  add_if false total entry = Ok total
  add_if true total entry = checked_sum passes total entry

  -- the sum of the entries into the link
  abbrev pub sum_from : ℕ → List Point → List Route → List (List (List Point)) → Checked (List Point)
  sum_from e total (route ∷ routes) (entries ∷ rest) = do
    next ← add_if (goes_over route.links e) total (last_entry entries)
    sum_from e next routes rest
  sum_from e total routes entries = Ok total

  abbrev pub next_if : Bool → List Point → List (List Point) → Checked (List (List Point))
  next_if false exit entries = Ok entries
  next_if true exit entries = do
    next ← next_entry exit (last_entry entries)
    Ok (entries ++ next ∷ [])

  abbrev pub next_all : ℕ → List Point → List Route → List (List (List Point)) → Checked (List (List (List Point)))
  next_all e exit (route ∷ routes) (entries ∷ rest) = do
    here ← next_if (goes_over route.links e) exit entries
    later ← next_all e exit routes rest
    Ok (here ∷ later)
  next_all e exit routes entries = Ok []

  abbrev pub load_here : ℚ → List Route → SoFar → ℕ → Option Link → Checked SoFar
  load_here horizon routes so_far e None = Ok so_far
  load_here horizon routes so_far e (Some link) = do
    begun ← begin_all horizon e routes so_far.entries
    inflow ← sum_from e ((0ℚ, 0ℚ) ∷ []) routes begun
    loaded ← checked_loading passes link.transit link.capacity inflow (end_by horizon (all_pairs routes) so_far.links e)
    entries ← next_all e loaded.exit routes begun
    Ok (record {
      links = set so_far.links e (Some (record { end = end_by horizon (all_pairs routes) so_far.links e; loaded = loaded }));
      entries = entries;
    })

  -- ---- the travels
  abbrev pub exit_of : List (Option LoadedLink) → ℕ → List Point
  exit_of links e = loaded_exit (slice_get links e)
    where
      loaded_exit : Option (Option LoadedLink) → List Point
      loaded_exit (Some (Some l)) = l.loaded.exit
      loaded_exit other = []

  abbrev pub travel_on : ℚ → List (Option LoadedLink) → List ℕ → List Point → Checked (List Point)
  travel_on horizon links [] travel = checked_short passes travel
  travel_on horizon links (e ∷ rest) travel = do
    next ← checked_composed passes (exit_of links e) travel horizon
    travel_on horizon links rest next

  -- ---- the whole loading
  abbrev pub load_all : Network → List Route → ℚ → List ℕ → SoFar → Checked SoFar
  load_all net routes horizon [] so_far = Ok so_far
  load_all net routes horizon (e ∷ order) so_far = do
    next ← load_here horizon routes so_far e (slice_get net.links e)
    load_all net routes horizon order next

  abbrev pub end_or : Option LoadedLink → ℚ
  end_or None = 0ℚ
  end_or (Some l) = l.end

  abbrev pub loaded_or : Option LoadedLink → Loaded
  loaded_or None = record { queue = []; outflow = []; exit = [] }
  loaded_or (Some l) = l.loaded

  -- all entries but the last, which is the arrival
  abbrev pub but_last : List (List Point) → List (List Point)
  but_last [] = []
  but_last (entry ∷ []) = []
  but_last (entry ∷ rest) = entry ∷ but_last rest

  unfoldable pub routes_list : Network → List Route → ℚ → Checked Routed
  routes_list net routes horizon = do
    all ← load_all net routes horizon (loading_order (length net.links) routes)
        (record { links = map (λ _. None) net.links; entries = map (λ _. []) routes })
    travels ← each (λ route. travel_on horizon all.links route.links (departures horizon)) routes
    Ok (record {
      ends = map end_or all.links;
      links = map loaded_or all.links;
      entries = map but_last all.entries;
      arrivals = map last_entry all.entries;
      travels = travels;
    })
