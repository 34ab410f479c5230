-- A push along a walk, and the time that the pushed walks need for an amount.
use Rattle.std.specs.Prelude.{List, set, Ok}
use Rattle.nf_rational.specs.Rational.{ℚ}
use Rattle.nf_frac_def.specs.declared.Op.TheVariants.{Sum, Product, Quotient}
use Rattle.nf_frac_def.specs.Passing.{Passing}
use Rattle.nf_frac_def.specs.Checked.{Checked, checked, fold_checked, ◌>>=◌}
use Rattle.nf_model.specs.Entries.{number_at}
use Rattle.nf_quick_def.specs.Steps.{Step}
use Rattle.nf_quick_def.specs.Rounds.{op_of}

-- The totals of the pushed walks: the sum of their rates, the sum of rate times length, and the time that they need.
pub record Times : Type 0 where
  pub rate : ℚ
  pub cost : ℚ
  pub time : ℚ

module _ (passes : Passing) where
  abbrev pub push_step : ℚ → List ℚ → Step → Checked (List ℚ)
  push_step amount flows step = do
    flow ← checked passes (op_of step.forward) (number_at flows step.link) amount
    Ok (set flows step.link flow)

  -- The flow after pushing the amount along each step in turn.
  unfoldable pub push_list : List Step → ℚ → List ℚ → Checked (List ℚ)
  push_list steps amount flows = fold_checked (push_step amount) flows steps

  -- The totals after one more walk of this rate and length.
  unfoldable pub time_list : ℚ → ℚ → ℚ → ℚ → ℚ → Checked Times
  time_list amount rate_so_far cost_so_far rate length = do
    p ← checked passes Product rate length
    cost ← checked passes Sum cost_so_far p
    all ← checked passes Sum rate_so_far rate
    total ← checked passes Sum amount cost
    time ← checked passes Quotient total all
    Ok (record { rate = all; cost = cost; time = time })
