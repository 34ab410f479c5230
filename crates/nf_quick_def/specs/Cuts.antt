-- The cut over time of a static flow and a time. The time of a node is the least of three numbers: the flow's time, the node's distance
-- from the source, and that time plus its distance from the sink. A distance that doesn't exist is left out.
use Rattle.std.specs.Prelude.{ℕ, Bool, true, false, List, Option, Some, None, slice_get, unwrap_or, Ok}
use Rattle.std.specs.List.{enumerate_from}
use Rattle.nf_rational.specs.Rational.{ℚ}
use Rattle.nf_rational.specs.Operations.{0ℚ}
use Rattle.nf_rational.specs.Order.{min_ℚ, lt_ℚ}
use Rattle.nf_frac_def.specs.declared.Op.TheVariants.{Sum, Difference, Product}
use Rattle.nf_frac_def.specs.Passing.{Passing}
use Rattle.nf_frac_def.specs.Checked.{Checked, checked, each, fold_checked, ◌>>=◌}
use Rattle.nf_model.specs.Entries.{number_at}
use Rattle.nf_model.specs.Network.{Link}

abbrev pub at_most : Option ℚ → ℚ → ℚ
at_most None time = time
at_most (Some distance) time = min_ℚ distance time

module _ (passes : Passing) where
  abbrev pub node_time : ℚ → Option ℚ → Option ℚ → Checked ℚ
  node_time time from_source None = Ok (at_most from_source time)
  node_time time from_source (Some distance) = do
    back ← checked passes Sum time distance
    Ok (min_ℚ (at_most from_source time) back)

  abbrev pub node_time_at : ℚ → List (Option ℚ) → ℕ × Option ℚ → Checked ℚ
  node_time_at time from_sink (v, from_source) = node_time time from_source (unwrap_or (slice_get from_sink v) None)

  -- The cut times of all nodes.
  unfoldable pub node_times_list : ℚ → List (Option ℚ) → List (Option ℚ) → Checked (List ℚ)
  node_times_list time from_source from_sink = each (node_time_at time from_sink) (enumerate_from 0 from_source)

  -- ---- the value of a cut
  abbrev pub let_by : Bool → ℚ → ℚ → ℚ → Checked ℚ
  let_by false so_far capacity over = Ok so_far
  let_by true so_far capacity over = do
    p ← checked passes Product capacity over
    checked passes Sum so_far p

  abbrev pub value_along : Option ℚ → ℚ → ℚ → ℚ → ℚ → Checked ℚ
  value_along None transit tail head so_far = Ok so_far
  value_along (Some capacity) transit tail head so_far = do
    a ← checked passes Difference head transit
    over ← checked passes Difference a tail
    let_by (lt_ℚ 0ℚ over) so_far capacity over

  abbrev pub value_after : List ℚ → ℚ → Link → Checked ℚ
  value_after cut so_far link = value_along link.capacity link.transit (number_at cut link.tail) (number_at cut link.head) so_far

  unfoldable pub value_list : List Link → List ℚ → Checked ℚ
  value_list links cut = fold_checked (value_after cut) 0ℚ links
