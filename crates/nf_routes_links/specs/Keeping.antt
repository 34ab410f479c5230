-- What is kept of the entries after each link, and the operation sequence of the loading that keeps it.
use Rattle.std.specs.Prelude.{ℕ, List, [], ◌∷◌, length, map, slice_get, Ok}
use Rattle.nf_rational.specs.Rational.{ℚ}
use Rattle.nf_frac_def.specs.Passing.{Passing}
use Rattle.nf_frac_def.specs.Checked.{Checked, ◌>>=◌}
use Rattle.nf_model.specs.Curve.{Point}
use Rattle.nf_model.specs.Network.{Network}
use Rattle.nf_routes_def.specs.Routes.{Route, loading_order}
use Rattle.nf_routes_def.specs.RoutesList.{SoFar, last_entry, load_here}
use Rattle.nf_routes_links.specs.Beginning.{nothing_loaded, nothing_sent}
use Rattle.nf_routes_links.specs.declared.keeping.Kept.{Kept}
use Rattle.nf_routes_links.specs.declared.keeping.Kept.TheVariants.{Every, Last}

-- of a route's entries so far, the last alone
abbrev pub last_alone : List (List Point) → List (List Point)
last_alone [] = []
last_alone (entry ∷ rest) = last_entry (entry ∷ rest) ∷ []

-- the same progress, with the last entry of each route alone
abbrev pub keeping_last : SoFar → SoFar
keeping_last s = record { links = s.links; entries = map last_alone s.entries }

-- the progress with the entries that are kept
abbrev pub kept_after : Kept → SoFar → SoFar
kept_after Every s = s
kept_after Last s = keeping_last s

module _ (passes : Passing) where
  -- the links in order, with what is kept after each
  abbrev pub load_kept : Kept → Network → List Route → ℚ → List ℕ → SoFar → Checked SoFar
  load_kept kept net routes horizon [] so_far = Ok so_far
  load_kept kept net routes horizon (e ∷ order) so_far = do
    next ← load_here passes horizon routes so_far e (slice_get net.links e)
    load_kept kept net routes horizon order (kept_after kept next)

  -- the operation sequence that loads all links, in the order of loading
  abbrev pub all_kept : Kept → Network → List Route → ℚ → Checked SoFar
  all_kept kept net routes horizon =
      load_kept kept net routes horizon (loading_order (length net.links) routes)
      (record { links = nothing_loaded net.links; entries = nothing_sent routes })
