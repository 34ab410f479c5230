-- The test for interior links.
use Rattle.std.specs.Prelude.{ℕ, ◌&&◌, Bool, false, not, List, length, map, Option, Some, None, slice_get, unwrap_or}
use Rattle.std.specs.List.{range_with_len}
use Rattle.nf_rational.specs.Rational.{ℚ}
use Rattle.nf_rational.specs.Operations.{0ℚ}
use Rattle.nf_rational.specs.Order.{lt_ℚ}
use Rattle.nf_model.specs.Entries.{number_at}
use Rattle.nf_model.specs.ThinFlow.{Sets}

-- the flow is above 0 and below the flow that fills the link
abbrev pub is_inside : Option ℚ → ℚ → Bool
is_inside None flow = lt_ℚ 0ℚ flow
is_inside (Some full) flow = lt_ℚ 0ℚ flow && lt_ℚ flow full

-- the link is active, not resetting, and neither empty nor full
abbrev pub interior_test : Sets → List (Option ℚ) → List ℚ → ℕ → Bool
interior_test sets fulls flows e =
    unwrap_or (slice_get sets.active e) false
    && (not (unwrap_or (slice_get sets.resetting e) false) && is_inside (unwrap_or (slice_get fulls e) None) (number_at flows e))

-- for each link, whether it is interior
abbrev pub interior_flags : Sets → List (Option ℚ) → List ℚ → List Bool
interior_flags sets fulls flows = map (interior_test sets fulls flows) (range_with_len 0 (length flows))
