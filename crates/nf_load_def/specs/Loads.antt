-- The operation sequence of `load`: it loads each link with its pieces.
use Rattle.std.specs.Prelude.{List, zip}
use Rattle.nf_rational.specs.Rational.{ℚ}
use Rattle.nf_frac_def.specs.Passing.{Passing}
use Rattle.nf_frac_def.specs.Checked.{Checked, each, ◌>>=◌}
use Rattle.nf_model.specs.Network.{Link, Piece}
use Rattle.nf_load_def.specs.Cumulative.{checked_cumulative}
use Rattle.nf_load_def.specs.Loading.{Loaded, checked_loading}

module _ (passes : Passing) where
  -- loads a link with its pieces up to the horizon
  unfoldable pub load_link_list : ℚ → Link × List Piece → Checked Loaded
  load_link_list horizon loaded = do
    inflow ← checked_cumulative passes loaded.1 horizon
    checked_loading passes loaded.0.transit loaded.0.capacity inflow horizon

  -- loads the links in order; there are as many lists of pieces as links
  unfoldable pub load_list : List Link → List (List Piece) → ℚ → Checked (List Loaded)
  load_list links pieces horizon = each (load_link_list horizon) (zip links pieces)
