-- Curves that the checker compares.
use Rattle.std.specs.Prelude.{ℕ, ◌==◌, if◌then◌else◌, List, [], ◌∷◌, Option, Some, None, slice_get, unwrap_or, Ok}
use Rattle.std.specs.List.{enumerate_from}
use Rattle.nf_rational.specs.Rational.{ℚ}
use Rattle.nf_rational.specs.Operations.{0ℚ}
use Rattle.nf_rational.specs.Order.{max_ℚ}
use Rattle.nf_frac_def.specs.Passing.{Passing}
use Rattle.nf_frac_def.specs.Checked.{Checked, fold_checked, ◌>>=◌}
use Rattle.nf_model.specs.Curve.{Point}
use Rattle.nf_model.specs.Network.{Link}
use Rattle.nf_model.specs.Equilibrium.{points_at}
use Rattle.nf_rational.specs.Signs.{is_zero}
use Rattle.nf_curve_def.specs.Sums.{checked_sum}
use Rattle.nf_curve_def.specs.Least.{checked_least}
use Rattle.nf_curve_def.specs.Composed.{checked_composed}
use Rattle.nf_load_def.specs.Loading.{Loaded}

-- the greatest of 0 and the values of the points
abbrev pub greatest_value : List Point → ℚ
greatest_value [] = 0ℚ
greatest_value (p ∷ rest) = max_ℚ p.1 (greatest_value rest)

-- the value of the last point
abbrev pub last_value : List Point → ℚ
last_value [] = 0ℚ
last_value (p ∷ []) = p.1
last_value (p ∷ q ∷ rest) = last_value (q ∷ rest)

-- the identity on times up to `last`: each departure at itself
abbrev pub departures : ℚ → List Point
departures last = if is_zero last then (0ℚ, 0ℚ) ∷ [] else (0ℚ, 0ℚ) ∷ (last, last) ∷ []

abbrev pub no_amount : List Point
no_amount = (0ℚ, 0ℚ) ∷ []

-- the loading of the link of this number
abbrev pub loaded_at : List Loaded → ℕ → Loaded
loaded_at loaded e = unwrap_or (slice_get loaded e) (record { queue = []; outflow = []; exit = [] })

module _ (passes : Passing) where
  -- the lesser of the curve and the curve so far, or the curve if there is none so far
  abbrev pub least_so_far : Option (List Point) → List Point → Checked (Option (List Point))
  least_so_far None curve = Ok (Some curve)
  least_so_far (Some so_far) curve = do
    least ← checked_least passes so_far curve
    Ok (Some least)

  -- the least exit so far, with the exit of the link by departure: a departure enters the link at its tail's label
  abbrev pub with_exit : List (List Point) → List Loaded → ℚ → ℕ → Option (List Point) → ℕ × Link → Checked (Option (List Point))
  with_exit labels loaded last v so_far (e, link) = if link.head == v then (do
    exit ← checked_composed passes (loaded_at loaded e).exit (points_at labels link.tail) last
    least_so_far so_far exit) else Ok so_far

  -- the least exit of the links into a node, or none without such a link
  unfoldable pub least_exits : List (List Point) → List Loaded → ℚ → List Link → ℕ → Checked (Option (List Point))
  least_exits labels loaded last links v = fold_checked (with_exit labels loaded last v) None (enumerate_from 0 links)

  -- the sum of the outflows of the links into a node
  abbrev pub with_outflow : List Loaded → ℕ → List Point → ℕ × Link → Checked (List Point)
  with_outflow loaded v so_far (e, link) = if link.head == v then checked_sum passes so_far (loaded_at loaded e).outflow else Ok so_far

  unfoldable pub total_in : List Loaded → List Link → ℕ → Checked (List Point)
  total_in loaded links v = fold_checked (with_outflow loaded v) no_amount (enumerate_from 0 links)

  -- the sum of the inflows of the links out of a node
  abbrev pub with_inflow : List (List Point) → ℕ → List Point → ℕ × Link → Checked (List Point)
  with_inflow inflows v so_far (e, link) = if link.tail == v then checked_sum passes so_far (points_at inflows e) else Ok so_far

  unfoldable pub total_out : List (List Point) → List Link → ℕ → Checked (List Point)
  total_out inflows links v = fold_checked (with_inflow inflows v) no_amount (enumerate_from 0 links)
