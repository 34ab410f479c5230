-- Tests for flow off the shortest routes.
use Rattle.std.specs.Prelude.{Bool, true, false, List, [], ◌∷◌, Option, Some, None, pos, Ok}
use Rattle.nf_rational.specs.Rational.{ℚ}
use Rattle.nf_rational.specs.Operations.{whole}
use Rattle.nf_rational.specs.Order.{lt_ℚ}
use Rattle.nf_frac_def.specs.Passing.{Passing}
use Rattle.nf_frac_def.specs.Checked.{Checked, checked, ◌>>=◌}
use Rattle.nf_frac_def.specs.declared.Op.TheVariants.{Sum, Quotient}
use Rattle.nf_model.specs.Curve.{Point}
use Rattle.nf_curve_def.specs.Lines.{Sides}
use Rattle.nf_curve_def.specs.Values.{checked_value}
use Rattle.nf_curve_def.specs.Times.{merged, times_of}
use Rattle.nf_curve_def.specs.Sums.{sides_at}
use Rattle.nf_curve_def.specs.Differences.{do_differ}
use Rattle.nf_curve_def.specs.Short.{checked_short}
use Rattle.nf_curve_def.specs.Composed.{checked_composed}

-- the times of the points of three curves, in rising order
abbrev pub three_times : List Point → List Point → List Point → List ℚ
three_times taken exits labels = merged (merged (times_of taken) (times_of exits)) (times_of labels)

module _ (passes : Passing) where
  unfoldable pub checked_middle : ℚ → ℚ → Checked ℚ
  checked_middle first next = do
    a ← checked passes Sum first next
    checked passes Quotient a (whole (pos 2))

  abbrev pub at_middle : Bool → List Point → List Point → ℚ → ℚ → Checked (Option Sides)
  at_middle false exits labels first next = Ok None
  at_middle true exits labels first next = do
    time ← checked_middle first next
    sides ← sides_at passes exits labels time
    Ok (Some sides)

  abbrev pub at_end : Bool → Sides → List Point → List Point → ℚ → ℚ → Checked (Option Sides)
  at_end true sides exits labels first next = Ok (Some sides)
  at_end false sides exits labels first next = do
    end ← sides_at passes exits labels next
    at_middle (do_differ end) exits labels first next

  -- an interval on which flow enters the link, if the first argument is true
  abbrev pub on_rising : Bool → List Point → List Point → ℚ → ℚ → Checked (Option Sides)
  on_rising false exits labels first next = Ok None
  on_rising true exits labels first next = do
    sides ← sides_at passes exits labels first
    at_end (do_differ sides) sides exits labels first next

  abbrev pub on_stretch : List Point → List Point → List Point → ℚ → ℚ → Checked (Option Sides)
  on_stretch taken exits labels first next = do
    before ← checked_value passes taken first
    after ← checked_value passes taken next
    on_rising (lt_ℚ before after) exits labels first next

  abbrev pub or_later : Option Sides → Checked (Option Sides) → Checked (Option Sides)
  or_later None later = later
  or_later (Some sides) later = Ok (Some sides)

  abbrev pub stretches_from : List Point → List Point → List Point → ℚ → List ℚ → Checked (Option Sides)
  stretches_from taken exits labels first [] = Ok None
  stretches_from taken exits labels first (next ∷ times) = do
    here ← on_stretch taken exits labels first next
    or_later here (stretches_from taken exits labels next times)

  abbrev pub all_stretches : List Point → List Point → List Point → List ℚ → Checked (Option Sides)
  all_stretches taken exits labels [] = Ok None
  all_stretches taken exits labels (first ∷ times) = stretches_from taken exits labels first times

  -- the test of a link up to the departure `last`, from its inflow, its exits and the labels of its ends
  unfoldable pub detour_list : List Point → List Point → List Point → List Point → ℚ → Checked (Option Sides)
  detour_list inflow exit tail_label head_label last = do
    taken ← checked_composed passes inflow tail_label last
    exits ← checked_composed passes exit tail_label last
    short_taken ← checked_short passes taken
    short_exits ← checked_short passes exits
    short_labels ← checked_short passes head_label
    all_stretches short_taken short_exits short_labels (three_times short_taken short_exits short_labels)
