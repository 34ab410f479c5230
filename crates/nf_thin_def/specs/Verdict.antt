-- The verdict operations: the greatest flow that a Tight link may carry, in link order.
use Rattle.std.specs.Prelude.{ℕ, List, Option, Some, None, slice_get, unwrap_or, Ok}
use Rattle.std.specs.List.{enumerate_from}
use Rattle.nf_rational.specs.Rational.{ℚ}
use Rattle.nf_frac_def.specs.Passing.{Passing}
use Rattle.nf_frac_def.specs.Checked.{Checked, checked, each, ◌>>=◌}
use Rattle.nf_frac_def.specs.declared.Op.TheVariants.{Product}
use Rattle.nf_model.specs.declared.State.{State}
use Rattle.nf_model.specs.declared.State.TheVariants.{Tight}
use Rattle.nf_model.specs.Entries.{number_at}
use Rattle.nf_model.specs.Network.{Link, Network}
use Rattle.nf_model.specs.Pattern.{Pattern}

module _ (passes : Passing) where
  -- On a Tight link with a capacity, the capacity times the slope of the head.
  abbrev pub bound_on : Option State → Option ℚ → ℚ → Checked (Option ℚ)
  bound_on (Some Tight) (Some capacity) head_slope = do
    bound ← checked passes Product capacity head_slope
    Ok (Some bound)
  bound_on state capacity head_slope = Ok None

  abbrev pub bound_of : Pattern → List ℚ → ℕ × Link → Checked (Option ℚ)
  bound_of pattern slopes (e, link) = bound_on (unwrap_or (slice_get pattern e) None) link.capacity (number_at slopes link.head)

  unfoldable pub verdict_list : Network → Pattern → List ℚ → Checked (List (Option ℚ))
  verdict_list net pattern slopes = each (bound_of pattern slopes) (enumerate_from 0 net.links)
