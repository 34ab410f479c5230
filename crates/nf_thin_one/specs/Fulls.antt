-- The flow that fills a link.
use Rattle.std.specs.Prelude.{Option, Some, None}
use Rattle.std.specs.Result.{result_ok}
use Rattle.nf_rational.specs.Rational.{ℚ}
use Rattle.nf_frac_def.specs.declared.Op.TheVariants.{Product}
use Rattle.nf_frac_def.specs.Passing.{Passing}
use Rattle.nf_frac_def.specs.Checked.{checked}

-- the flow that fills a link, by the slope of its head; none where it is unbounded or the product passes
abbrev pub full_of : Passing → Option ℚ → ℚ → Option ℚ
full_of passes (Some capacity) head_slope = result_ok (checked passes Product capacity head_slope)
full_of passes None head_slope = None
