-- Operation sequences in which one operation passes, by computation. All fractions have 127 bits.
use Rattle.std.specs.Prelude.{◌≡◌, [], ◌∷◌, Option, Some, None, Result, Ok, Err, pos, refl}
use Rattle.nf_rational.specs.Gcd.{gcd}
use Rattle.nf_rational.specs.Rational.{ℚ, ratio}
use Rattle.nf_rational.specs.Operations.{whole, neg_ℚ, inv_ℚ, ◌+ℚ◌, ◌-ℚ◌, ◌*ℚ◌, ◌/ℚ◌}
use Rattle.nf_rational.specs.Order.{le_ℚ, lt_ℚ, min_ℚ}
use Rattle.nf_frac_def.specs.Passing.{beyond}
use Rattle.nf_frac_def.specs.Checked.{at_part, checked}
use Rattle.nf_frac_def.specs.declared.Op.{Op}
use Rattle.nf_frac_def.specs.declared.Op.TheVariants.{Sum, Difference, Product}
use Rattle.nf_frac_def.specs.declared.Part.{Part}
use Rattle.nf_frac_def.specs.declared.Part.TheVariants.{Slack, Extend, Advance, Curve}
use Rattle.nf_frac_def.specs.declared.PassedAt.{PassedAt}
use Rattle.nf_model.specs.declared.State.TheVariants.{Tight}
use Rattle.nf_model.specs.Network.{Network}
use Rattle.nf_thin_def.specs.Slack.{slack_of, slack_list}
use Rattle.nf_linear_def.specs.Table.{table_list}
use Rattle.nf_thin_def.specs.Equations.{equations}
use Rattle.nf_thin_def.specs.Verdict.{verdict_list}
use Rattle.nf_thin_def.specs.Extend.{extend_list}
use Rattle.nf_thin_def.specs.Advance.{labels_after, advance_list}
use Rattle.nf_thin_def.specs.CurveList.{curve_list}
use Rattle.nf_thin_def.specs.Accepted.{pattern_lists}
use Rattle.nf_thin_def.specs.PhaseRun.{phase_lists}
use Rattle.nf_frac_def.proofs.Examples.{n, in_127_bits, Parts, parts_of}
use Rattle.nf_thin_def.proofs.Examples.{L, link}
use Rattle.nf_thin_def.proofs.Runs.{first_standing, phases_by}

-- the operation that passes
abbrev passing : {A : Type 0} → Result A (PassedAt ℚ) → Option (Part × Op × Parts × Parts)
passing (Ok x) = None
passing (Err p) = Some (p.part, p.op, parts_of p.left, parts_of p.right)

-- ---- slack: a transit time to which the tail's label 1/3 cannot be added
slack_passes : passing (at_part Slack (slack_list in_127_bits (record { tail = 0; head = 1; transit = n L } ∷ []) (ratio (pos 1) 3 ∷ n 0 ∷ [])))
    ≡ Some (Slack, Sum, (pos 1, 3), (pos L, 1))
unfolding slack_of slack_list checked beyond whole ratio gcd neg_ℚ ◌+ℚ◌ ◌-ℚ◌ ◌*ℚ◌
slack_passes = refl

-- ---- extend, in the second phase: from 1/3 to a next change at the greatest number
abbrev far_change : Network
far_change = record {
  nodes = 2;
  source = 0;
  sink = 1;
  links = link 0 1 (n 1) (Some (n 1)) ∷ [];
  pieces = record { start = n 0; rate = n 1 } ∷ record { start = ratio (pos 1) 3; rate = n 1 } ∷ record { start = n L; rate = n 1 } ∷ [];
}

extend_passes : passing (phases_by far_change (n 1) (first_standing far_change (n 0 ∷ n 1 ∷ [])) ((Some Tight ∷ []) ∷ (Some Tight ∷ []) ∷ []))
    ≡ Some (Extend, Difference, (pos L, 1), (pos 1, 3))
unfolding pattern_lists table_list equations verdict_list phase_lists extend_list advance_list labels_after curve_list checked beyond whole ratio gcd neg_ℚ
    inv_ℚ ◌+ℚ◌ ◌-ℚ◌ ◌*ℚ◌ ◌/ℚ◌ le_ℚ lt_ℚ min_ℚ
extend_passes = refl

-- ---- advance: a label at the greatest number cannot grow by 1
abbrev long : Network
long = record { nodes = 2; source = 0; sink = 1; links = link 0 1 (n L) (Some (n 1)) ∷ []; pieces = record { start = n 0; rate = n 1 } ∷ [] }

advance_passes : passing (phases_by long (n 1) (first_standing long (n 0 ∷ n L ∷ [])) ((Some Tight ∷ []) ∷ [])) ≡ Some (Advance, Sum, (pos L, 1), (pos 1, 1))
unfolding pattern_lists table_list equations verdict_list phase_lists extend_list advance_list labels_after curve_list checked beyond whole ratio gcd neg_ℚ
    inv_ℚ ◌+ℚ◌ ◌-ℚ◌ ◌*ℚ◌ ◌/ℚ◌ le_ℚ lt_ℚ min_ℚ
advance_passes = refl

-- ---- curve: a flow of the greatest rate for a phase of length 2
abbrev strong : Network
strong = record { nodes = 2; source = 0; sink = 1; links = link 0 1 (n 1) (Some (n L)) ∷ []; pieces = record { start = n 0; rate = n L } ∷ [] }

curve_passes : passing (phases_by strong (n 2) (first_standing strong (n 0 ∷ n 1 ∷ [])) ((Some Tight ∷ []) ∷ [])) ≡ Some (Curve, Product, (pos 2, 1), (pos L, 1))
unfolding pattern_lists table_list equations verdict_list phase_lists extend_list advance_list labels_after curve_list checked beyond whole ratio gcd neg_ℚ
    inv_ℚ ◌+ℚ◌ ◌-ℚ◌ ◌*ℚ◌ ◌/ℚ◌ le_ℚ lt_ℚ min_ℚ
curve_passes = refl
