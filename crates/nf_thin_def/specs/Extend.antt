-- The extend operations: how long a phase may last. They give, for each link in order, the time until its slack becomes 0, and last the
-- time until the next change of the supply.
use Rattle.std.specs.Prelude.{ℕ, Bool, true, false, List, Option, Some, None, Ok}
use Rattle.std.specs.List.{enumerate_from}
use Rattle.nf_rational.specs.Rational.{ℚ}
use Rattle.nf_rational.specs.Operations.{0ℚ}
use Rattle.nf_rational.specs.Order.{min_ℚ}
use Rattle.nf_frac_def.specs.Passing.{Passing}
use Rattle.nf_frac_def.specs.Checked.{Checked, checked, fold_checked, ◌>>=◌}
use Rattle.nf_frac_def.specs.declared.Op.TheVariants.{Difference, Quotient}
use Rattle.nf_model.specs.Entries.{number_at}
use Rattle.nf_model.specs.Network.{Link, Network, next_change}
use Rattle.nf_rational.specs.Signs.{is_zero, are_opposite}

-- The lesser of the least length so far and this length, or this length if there is none so far.
abbrev pub lesser : Option ℚ → ℚ → Option ℚ
lesser None length = Some length
lesser (Some least) length = Some (min_ℚ least length)

module _ (passes : Passing) where
  -- The least length, with the time until a slack that changes by `change` per unit of time becomes 0, if it moves towards 0.
  abbrev pub to_zero : Bool → Option ℚ → ℚ → ℚ → Checked (Option ℚ)
  to_zero false least slack change = Ok least
  to_zero true least slack change = do
    m ← checked passes Difference 0ℚ slack
    length ← checked passes Quotient m change
    Ok (lesser least length)

  -- The least length after a link. A link whose slack is 0 does not change it.
  abbrev pub after_link : Bool → Option ℚ → ℚ → ℚ → ℚ → Checked (Option ℚ)
  after_link true least slack tail_slope head_slope = Ok least
  after_link false least slack tail_slope head_slope = do
    change ← checked passes Difference head_slope tail_slope
    to_zero (are_opposite slack change) least slack change

  abbrev pub least_after : List ℚ → List ℚ → Option ℚ → ℕ × Link → Checked (Option ℚ)
  least_after slacks slopes least (e, link) =
      after_link (is_zero (number_at slacks e)) least (number_at slacks e) (number_at slopes link.tail) (number_at slopes link.head)

  abbrev pub until_change : Option ℚ → ℚ → Option ℚ → Checked (Option ℚ)
  until_change least time None = Ok least
  until_change least time (Some change) = do
    length ← checked passes Difference change time
    Ok (lesser least length)

  -- The extension length, or none if the phase may last for any length.
  unfoldable pub extend_list : Network → List ℚ → List ℚ → ℚ → Checked (Option ℚ)
  extend_list net slacks slopes time = do
    least ← fold_checked (least_after slacks slopes) None (enumerate_from 0 net.links)
    until_change least time (next_change net time)
