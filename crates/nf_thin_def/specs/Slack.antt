-- The slack operations: the slack of each link, in link order.
use Rattle.std.specs.Prelude.{List}
use Rattle.nf_rational.specs.Rational.{ℚ}
use Rattle.nf_frac_def.specs.Passing.{Passing}
use Rattle.nf_frac_def.specs.Checked.{Checked, checked, each, ◌>>=◌}
use Rattle.nf_frac_def.specs.declared.Op.TheVariants.{Sum, Difference}
use Rattle.nf_model.specs.Entries.{number_at}
use Rattle.nf_model.specs.Walk.{Hop}

module _ (passes : Passing) where
  -- The head's label less the tail's label and the transit time.
  unfoldable pub slack_of : List ℚ → Hop → Checked ℚ
  slack_of labels hop = do
    a ← checked passes Sum (number_at labels hop.tail) hop.transit
    checked passes Difference (number_at labels hop.head) a

  unfoldable pub slack_list : List Hop → List ℚ → Checked (List ℚ)
  slack_list hops labels = each (slack_of labels) hops
