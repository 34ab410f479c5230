-- The advance operations: the length of a phase, and the label of each node at its end, in node order.
use Rattle.std.specs.Prelude.{ℕ, List, Option, Some, None, Ok}
use Rattle.std.specs.List.{enumerate_from}
use Rattle.nf_rational.specs.Rational.{ℚ}
use Rattle.nf_rational.specs.Order.{min_ℚ}
use Rattle.nf_frac_def.specs.Passing.{Passing}
use Rattle.nf_frac_def.specs.Checked.{Checked, checked, each, ◌>>=◌}
use Rattle.nf_frac_def.specs.declared.Op.TheVariants.{Sum, Difference, Product}
use Rattle.nf_model.specs.Entries.{number_at}

-- The extension length, if there is one, cut at the remaining time to the horizon.
abbrev pub cut_at : ℚ → Option ℚ → ℚ
cut_at left None = left
cut_at left (Some extension) = min_ℚ left extension

-- The length of a phase, and the labels at its end.
pub record Advanced : Type 0 where
  pub length : ℚ
  pub labels : List ℚ

module _ (passes : Passing) where
  -- The label at the phase's end, of the node with this number.
  abbrev pub label_after : ℚ → List ℚ → ℕ × ℚ → Checked ℚ
  label_after length slopes (v, label) = do
    p ← checked passes Product length (number_at slopes v)
    checked passes Sum label p

  unfoldable pub labels_after : ℚ → List ℚ → List ℚ → Checked (List ℚ)
  labels_after length labels slopes = each (label_after length slopes) (enumerate_from 0 labels)

  unfoldable pub advance_list : ℚ → ℚ → Option ℚ → List ℚ → List ℚ → Checked Advanced
  advance_list horizon time extension labels slopes = do
    left ← checked passes Difference horizon time
    new_labels ← labels_after (cut_at left extension) labels slopes
    Ok (record { length = cut_at left extension; labels = new_labels })
