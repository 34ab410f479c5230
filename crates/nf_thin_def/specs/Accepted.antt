-- Accepted patterns: the equations have one solution, which meets the inequalities, and no operation passes on the way to it.
use Rattle.std.specs.Prelude.{List, Option, Some, None, Result, Ok, IsOk}
use Rattle.nf_rational.specs.Rational.{ℚ}
use Rattle.nf_frac_def.specs.Passing.{Passing}
use Rattle.nf_frac_def.specs.Checked.{at_part, ◌>>=◌}
use Rattle.nf_frac_def.specs.declared.Part.TheVariants.{Table, Verdict}
use Rattle.nf_frac_def.specs.declared.PassedAt.{PassedAt}
use Rattle.nf_model.specs.Network.{Network}
use Rattle.nf_model.specs.ThinFlow.{Sets}
use Rattle.nf_model.specs.Pattern.{Pattern, IsSolvable}
use Rattle.nf_linear_def.specs.Table.{table_list}
use Rattle.nf_thin_def.specs.Equations.{equations, slopes_in, link_flows_in}
use Rattle.nf_thin_def.specs.Verdict.{verdict_list}

-- The only solution of a pattern's equations, with the bounds on the flows of its Tight links.
pub record Solved : Type 0 where
  pub flows : List ℚ
  pub slopes : List ℚ
  pub bounds : List (Option ℚ)

module _ (passes : Passing) (net : Network) (sets : Sets) (rate : ℚ) where
  -- The verdict operations follow the table if it has exactly one solution; otherwise there are none.
  abbrev pub after_table : Pattern → Option (List ℚ) → Result (Option Solved) (PassedAt ℚ)
  after_table pattern None = Ok None
  after_table pattern (Some values) = do
    bounds ← at_part Verdict (verdict_list passes net pattern (slopes_in net.nodes values))
    Ok (Some (record { flows = link_flows_in net.nodes sets.active values; slopes = slopes_in net.nodes values; bounds = bounds }))

  -- The table operations, and then the verdict operations.
  unfoldable pub pattern_lists : Pattern → Result (Option Solved) (PassedAt ℚ)
  pattern_lists pattern = do
    values ← at_part Table (table_list passes (equations net sets rate pattern))
    after_table pattern values

  pub record IsAccepted (pattern : Pattern) : Type 0 where
    pub solvable : IsSolvable net sets rate pattern
    pub none_passes : IsOk (pattern_lists pattern)
