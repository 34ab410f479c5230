-- Patterns by computation: their equations, their solution, and which of their operations passes.
use Rattle.std.specs.Prelude.{◌≡◌, true, false, List, [], ◌∷◌, Option, Some, None, Result, Ok, Err, map, pos, negsuc, refl}
use Rattle.nf_rational.specs.Gcd.{gcd}
use Rattle.nf_rational.specs.Rational.{ℚ, ratio}
use Rattle.nf_rational.specs.Operations.{whole, neg_ℚ, inv_ℚ, ◌+ℚ◌, ◌-ℚ◌, ◌*ℚ◌, ◌/ℚ◌}
use Rattle.nf_rational.specs.Order.{le_ℚ}
use Rattle.nf_frac_def.specs.Passing.{beyond}
use Rattle.nf_frac_def.specs.Checked.{checked}
use Rattle.nf_frac_def.specs.declared.Op.{Op}
use Rattle.nf_frac_def.specs.declared.Op.TheVariants.{Product, Quotient}
use Rattle.nf_frac_def.specs.declared.Part.{Part}
use Rattle.nf_frac_def.specs.declared.Part.TheVariants.{Table, Verdict}
use Rattle.nf_frac_def.specs.declared.PassedAt.{PassedAt}
use Rattle.nf_model.specs.declared.State.TheVariants.{Tight, Full}
use Rattle.nf_model.specs.Network.{Network}
use Rattle.nf_model.specs.Pattern.{Pattern}
use Rattle.nf_frac_def.proofs.Examples.{n, in_127_bits, Parts, parts_of}
use Rattle.nf_thin_def.proofs.Examples.{L, link}
use Rattle.nf_linear_def.specs.Table.{table_list}
use Rattle.nf_thin_def.specs.Equations.{equations}
use Rattle.nf_thin_def.specs.Verdict.{verdict_list}
use Rattle.nf_thin_def.specs.Accepted.{Solved, pattern_lists}

abbrev parts : Result (Option Solved) (PassedAt ℚ) → Result (Option (List Parts × List Parts)) (Part × Op × Parts × Parts)
parts (Ok None) = Ok None
parts (Ok (Some solved)) = Ok (Some (map parts_of solved.flows, map parts_of solved.slopes))
parts (Err at) = Err (at.part, at.op, parts_of at.left, parts_of at.right)

-- ---- one link whose capacity is one over the greatest number, supplied at rate 2: its second pattern
abbrev narrow : Network
narrow = record { nodes = 2; source = 0; sink = 1; links = link 0 1 (n 1) (Some (ratio (pos 1) L)) ∷ []; pieces = record { start = n 0; rate = n 2 } ∷ [] }

abbrev on_narrow : Pattern → Result (Option (List Parts × List Parts)) (Part × Op × Parts × Parts)
on_narrow pattern = parts (pattern_lists in_127_bits narrow (record { active = true ∷ []; resetting = false ∷ [] }) (n 2) pattern)

narrow_tight : on_narrow (Some Tight ∷ []) ≡ Ok (Some ((pos 2, 1) ∷ [], (pos 1, 1) ∷ (pos 1, 1) ∷ []))
unfolding pattern_lists table_list equations verdict_list checked beyond whole ratio gcd neg_ℚ inv_ℚ ◌+ℚ◌ ◌-ℚ◌ ◌*ℚ◌ ◌/ℚ◌ le_ℚ
narrow_tight = refl

narrow_full : on_narrow (Some Full ∷ []) ≡ Err (Table, Quotient, (negsuc 1, 1), (negsuc 0, L))
unfolding pattern_lists table_list equations verdict_list checked beyond whole ratio gcd neg_ℚ inv_ℚ ◌+ℚ◌ ◌-ℚ◌ ◌*ℚ◌ ◌/ℚ◌ le_ℚ
narrow_full = refl

-- ---- a link of capacity 1, and behind it one of the greatest capacity: their third pattern
abbrev wide : Network
wide = record { nodes = 3; source = 0; sink = 1; links = link 0 2 (n 1) (Some (n 1)) ∷ link 2 1 (n 1) (Some (n L)) ∷ []; pieces = record { start = n 0; rate = n 2 } ∷ [] }

abbrev on_wide : Pattern → Result (Option (List Parts × List Parts)) (Part × Op × Parts × Parts)
on_wide pattern = parts (pattern_lists in_127_bits wide (record { active = true ∷ true ∷ []; resetting = false ∷ false ∷ [] }) (n 2) pattern)

wide_full_tight : on_wide (Some Full ∷ Some Tight ∷ []) ≡ Err (Verdict, Product, (pos L, 1), (pos 2, 1))
unfolding pattern_lists table_list equations verdict_list checked beyond whole ratio gcd neg_ℚ inv_ℚ ◌+ℚ◌ ◌-ℚ◌ ◌*ℚ◌ ◌/ℚ◌ le_ℚ
wide_full_tight = refl
