-- An example of settling, by computation: two parallel links from source to sink, each of capacity 2, carry half of a rate of 1.
use Rattle.std.specs.Prelude.{◌≡◌, true, false, List, [], ◌∷◌, Option, Some, None, Result, Ok, Err, map, pos, refl}
use Rattle.nf_rational.specs.Gcd.{gcd}
use Rattle.nf_rational.specs.Rational.{ℚ, ratio}
use Rattle.nf_rational.specs.Operations.{whole, neg_ℚ, inv_ℚ, ◌+ℚ◌, ◌-ℚ◌, ◌*ℚ◌, ◌/ℚ◌}
use Rattle.nf_rational.specs.Order.{le_ℚ, lt_ℚ, min_ℚ}
use Rattle.nf_frac_def.specs.Passing.{beyond}
use Rattle.nf_frac_def.specs.Checked.{checked, Checked}
use Rattle.nf_frac_def.specs.declared.Op.{Op}
use Rattle.nf_frac_def.specs.declared.Op.TheVariants.{Difference}
use Rattle.nf_model.specs.Network.{Network}
use Rattle.nf_model.specs.ThinFlow.{Sets}
use Rattle.nf_frac_def.proofs.Examples.{n, in_127_bits, Parts, parts_of}
use Rattle.nf_thin_def.proofs.Examples.{L, link, i}
use Rattle.nf_complete_def.specs.Cancelling.{fulls_list, cancel_list}
use Rattle.nf_complete_def.specs.ThinList.{Sums, thin_list}

abbrev half : ℚ
half = ratio (pos 1) 2

abbrev pub two_links : Network
two_links = record { nodes = 2; source = 0; sink = 1; links = link 0 1 (n 1) (Some (n 2)) ∷ link 0 1 (n 1) (Some (n 2)) ∷ []; pieces = record { start = n 0; rate = n 1 } ∷ [] }

abbrev both_active : Sets
both_active = record { active = true ∷ true ∷ []; resetting = false ∷ false ∷ [] }

abbrev flows_of : Checked (List ℚ) → Result (List Parts) (Op × Parts × Parts)
flows_of (Ok xs) = Ok (map parts_of xs)
flows_of (Err p) = Err (p.op, parts_of p.left, parts_of p.right)

-- the first link grows by 1/2, and the second link becomes empty
cancelled : flows_of (cancel_list in_127_bits ((0, true) ∷ (1, false) ∷ []) (Some (n 2) ∷ Some (n 2) ∷ []) (half ∷ half ∷ [])) ≡ Ok (i 1 ∷ i 0 ∷ [])
unfolding cancel_list checked beyond whole ratio gcd neg_ℚ inv_ℚ ◌+ℚ◌ ◌-ℚ◌ ◌*ℚ◌ ◌/ℚ◌ le_ℚ lt_ℚ min_ℚ
cancelled = refl

-- the product that fills a link may pass
too_full : flows_of (cancel_list in_127_bits ((0, true) ∷ (1, false) ∷ []) (Some (n 2) ∷ Some (n 2) ∷ []) (ratio (pos 1) L ∷ half ∷ [])) ≡ Err (Difference, i 2, (pos 1, L))
unfolding cancel_list checked beyond whole ratio gcd neg_ℚ inv_ℚ ◌+ℚ◌ ◌-ℚ◌ ◌*ℚ◌ ◌/ℚ◌ le_ℚ lt_ℚ min_ℚ
too_full = refl

abbrev sums_of : Checked (List Sums × List (Option ℚ)) → Option (List (Parts × Parts))
sums_of (Ok r) = Some (map (λ s. (parts_of s.in_sum, parts_of s.out_sum)) r.0)
sums_of (Err p) = None

-- the inflow and outflow of the source are 0 and 1; the inflow of the sink is 1, and its outflow is the rate
summed : sums_of (thin_list in_127_bits two_links both_active (n 1) (half ∷ half ∷ []) (n 1 ∷ n 1 ∷ [])) ≡ Some ((i 0, i 1) ∷ (i 1, i 1) ∷ [])
unfolding thin_list fulls_list checked beyond whole ratio gcd neg_ℚ inv_ℚ ◌+ℚ◌ ◌-ℚ◌ ◌*ℚ◌ ◌/ℚ◌ le_ℚ
summed = refl
