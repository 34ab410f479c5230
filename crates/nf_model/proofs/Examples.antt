-- The definitions computed: the supply of a network, a curve between its points, least times and a cut.
use Rattle.std.specs.Prelude.{◌≡◌, ℕ, List, [], ◌∷◌, Some, None, pos, refl}
use Rattle.nf_rational.specs.Gcd.{gcd}
use Rattle.nf_rational.specs.Rational.{ℚ, ratio, same_parts}
use Rattle.nf_rational.specs.Operations.{whole, neg_ℚ, inv_ℚ, ◌+ℚ◌, ◌-ℚ◌, ◌*ℚ◌, ◌/ℚ◌}
use Rattle.nf_rational.specs.Order.{le_ℚ, lt_ℚ, min_ℚ, max_ℚ}
use Rattle.nf_model.specs.Curve.{value}
use Rattle.nf_model.specs.Network.{Network, supply, rate_at, next_change}
use Rattle.nf_model.specs.Quickest.{cut_value, entered_by, left_by}
use Rattle.nf_model.specs.Network.{hops}

abbrev n : ℕ → ℚ
n k = whole (pos k)

-- one link of transit time 1 and capacity 1, supplied at rate 2 from time 0 to 2
abbrev one_link : Network
one_link = record {
  nodes = 2;
  source = 0;
  sink = 1;
  links = record { tail = 0; head = 1; transit = n 1; capacity = Some (n 1) } ∷ [];
  pieces = record { start = n 0; rate = n 2 } ∷ record { start = n 2; rate = n 0 } ∷ [];
}

supply_0 : supply one_link (n 0) ≡ n 0
unfolding whole ratio gcd neg_ℚ ◌+ℚ◌ ◌-ℚ◌ ◌*ℚ◌ le_ℚ min_ℚ max_ℚ
supply_0 = same_parts _ _ refl refl

supply_1 : supply one_link (n 1) ≡ n 2
unfolding whole ratio gcd neg_ℚ ◌+ℚ◌ ◌-ℚ◌ ◌*ℚ◌ le_ℚ min_ℚ max_ℚ
supply_1 = same_parts _ _ refl refl

supply_2 : supply one_link (n 2) ≡ n 4
unfolding whole ratio gcd neg_ℚ ◌+ℚ◌ ◌-ℚ◌ ◌*ℚ◌ le_ℚ min_ℚ max_ℚ
supply_2 = same_parts _ _ refl refl

supply_7 : supply one_link (n 7) ≡ n 4
unfolding whole ratio gcd neg_ℚ ◌+ℚ◌ ◌-ℚ◌ ◌*ℚ◌ le_ℚ min_ℚ max_ℚ
supply_7 = same_parts _ _ refl refl

rate_1 : rate_at one_link (n 1) ≡ n 2
unfolding whole ratio gcd le_ℚ
rate_1 = refl

rate_2 : rate_at one_link (n 2) ≡ n 0
unfolding whole ratio gcd le_ℚ
rate_2 = refl

change_0 : next_change one_link (n 0) ≡ Some (n 2)
unfolding whole ratio gcd le_ℚ lt_ℚ
change_0 = refl

change_2 : next_change one_link (n 2) ≡ None
unfolding whole ratio gcd le_ℚ lt_ℚ
change_2 = refl

-- the curve with the points (0, 1) and (2, 5), at 3/2 and at 3
abbrev points : List (ℚ × ℚ)
points = (n 0, n 1) ∷ (n 2, n 5) ∷ []

value_between : value points (ratio (pos 3) 2) ≡ n 4
unfolding whole ratio gcd neg_ℚ inv_ℚ ◌+ℚ◌ ◌-ℚ◌ ◌*ℚ◌ ◌/ℚ◌ le_ℚ lt_ℚ
value_between = same_parts _ _ refl refl

value_beyond : value points (n 3) ≡ n 5
unfolding whole ratio gcd le_ℚ lt_ℚ
value_beyond = refl

-- the cut with times 0 and 5 lets 4 pass
cut_5 : cut_value one_link (n 0 ∷ n 5 ∷ []) ≡ n 4
unfolding whole ratio gcd neg_ℚ ◌+ℚ◌ ◌-ℚ◌ ◌*ℚ◌ le_ℚ max_ℚ
cut_5 = same_parts _ _ refl refl

-- the link fed at rate 1 until time 5 has let 4 in and out by then, and let 2 out by time 3
entered_5 : entered_by (hops one_link) (record { rate = n 1; walk = 0 ∷ [] } ∷ []) (n 5) 0 (n 5) ≡ n 4
unfolding whole ratio gcd neg_ℚ ◌+ℚ◌ ◌-ℚ◌ ◌*ℚ◌ le_ℚ min_ℚ max_ℚ
entered_5 = same_parts _ _ refl refl

left_5 : left_by (hops one_link) (record { rate = n 1; walk = 0 ∷ [] } ∷ []) (n 5) 0 (n 5) ≡ n 4
unfolding whole ratio gcd neg_ℚ ◌+ℚ◌ ◌-ℚ◌ ◌*ℚ◌ le_ℚ min_ℚ max_ℚ
left_5 = same_parts _ _ refl refl

left_3 : left_by (hops one_link) (record { rate = n 1; walk = 0 ∷ [] } ∷ []) (n 5) 0 (n 3) ≡ n 2
unfolding whole ratio gcd neg_ℚ ◌+ℚ◌ ◌-ℚ◌ ◌*ℚ◌ le_ℚ min_ℚ max_ℚ
left_3 = same_parts _ _ refl refl
