-- Linear systems by computation: elimination of small tables.
use Rattle.std.specs.Prelude.{◌≡◌, List, [], ◌∷◌, Option, Some, None, Result, Ok, Err, map, pos, negsuc, refl}
use Rattle.nf_rational.specs.Gcd.{gcd}
use Rattle.nf_rational.specs.Rational.{ℚ, ratio}
use Rattle.nf_rational.specs.Operations.{whole, neg_ℚ, inv_ℚ, ◌+ℚ◌, ◌-ℚ◌, ◌*ℚ◌, ◌/ℚ◌}
use Rattle.nf_rational.specs.Order.{le_ℚ}
use Rattle.nf_frac_def.specs.Passing.{beyond, bound_of}
use Rattle.nf_frac_def.specs.Checked.{Checked, checked}
use Rattle.nf_frac_def.specs.declared.Op.{Op}
use Rattle.nf_frac_def.specs.declared.Op.TheVariants.{Quotient}
use Rattle.nf_frac_def.proofs.Examples.{n, in_127_bits, Parts, parts_of}
use Rattle.nf_linear_def.specs.Table.{Row, table_list}

abbrev parts_in : Option (List ℚ) → Option (List Parts)
parts_in None = None
parts_in (Some xs) = Some (map parts_of xs)

abbrev parts : Checked (Option (List ℚ)) → Result (Option (List Parts)) (Op × Parts × Parts)
parts (Ok xs) = Ok (parts_in xs)
parts (Err p) = Err (p.op, parts_of p.left, parts_of p.right)

-- x + y = 3 and x - y = 1
abbrev sum_and_difference : List Row
sum_and_difference = (n 1 ∷ n 1 ∷ n 3 ∷ []) ∷ (n 1 ∷ whole (negsuc 0) ∷ n 1 ∷ []) ∷ []

two_and_one : parts (table_list in_127_bits sum_and_difference) ≡ Ok (Some ((pos 2, 1) ∷ (pos 1, 1) ∷ []))
unfolding table_list checked beyond whole ratio gcd neg_ℚ inv_ℚ ◌+ℚ◌ ◌-ℚ◌ ◌*ℚ◌ ◌/ℚ◌ le_ℚ
two_and_one = refl

-- x + y = 1 and 2x + 2y = 2
abbrev twice_the_same : List Row
twice_the_same = (n 1 ∷ n 1 ∷ n 1 ∷ []) ∷ (n 2 ∷ n 2 ∷ n 2 ∷ []) ∷ []

not_one : parts (table_list in_127_bits twice_the_same) ≡ Ok None
unfolding table_list checked beyond whole ratio gcd neg_ℚ inv_ℚ ◌+ℚ◌ ◌-ℚ◌ ◌*ℚ◌ ◌/ℚ◌ le_ℚ
not_one = refl

-- x / 181 = 191 in fractions of 15 bits: 191 times 181 is beyond them
abbrev small_entry : List Row
small_entry = (ratio (pos 1) 181 ∷ n 191 ∷ []) ∷ []

passing : parts (table_list (beyond (bound_of 15)) small_entry) ≡ Err (Quotient, (pos 191, 1), (pos 1, 181))
unfolding table_list checked beyond whole ratio gcd neg_ℚ inv_ℚ ◌+ℚ◌ ◌-ℚ◌ ◌*ℚ◌ ◌/ℚ◌ le_ℚ
passing = refl
