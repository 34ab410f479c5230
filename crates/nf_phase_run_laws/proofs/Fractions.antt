-- Which numbers are fractions of a file: 0 and 1, the results of operations that don't pass, and the numbers of a network.
use Rattle.std.proofs.Common.{◌≡◌, ℕ, ◌*◌, ◌/◌, ◌≤◌, ◌||◌, Bool, true, false, if◌then◌else◌, List, [], ◌∷◌, nat_lt, nat_abs, ℤ, pos, ◌+ℤ◌, ◌*ℤ◌, neg_ℤ}
use Rattle.std.proofs.Common.{refl, sym, subst, arith, Option, Some, None, unwrap_or, lit≤}
use Rattle.nf_phase_run_laws.proofs.Common.{AllByRecursion, Op, Sum, Difference, Product, Quotient, number_at, Hop, Link, Piece, Network, hop_of, hops}
use Rattle.nf_phase_run_laws.proofs.Common.{rate_from, rate_at, first_start, next_change, IsFraction, IsFractionPiece, IsFractionOrNone, le-ltb, ltb-false}
use Rattle.nf_phase_run_laws.proofs.Common.{or_parts, or_from, ℚ, 0ℚ, 1ℚ, le_ℚ, lt_ℚ, passes_Q, result_of, sum_is_wide, one_if}
use Rattle.nf_rational.specs.Gcd.{gcd}
use Rattle.nf_rational.specs.Rational.{ratio}
use Rattle.nf_rational.specs.Operations.{whole, neg_ℚ, ◌+ℚ◌, ◌-ℚ◌}
use Rattle.nf_rational.specs.Order.{min_ℚ}
use Rattle.nf_rational_laws.proofs.Lowest.{plus_over_lcm}
use Rattle.nf_rational_laws.proofs.Ints.{abs-neg}
use Rattle.nf_frac_def.specs.Passing.{beyond}
use Rattle.nf_net_def.specs.Numbers.{greatest}
use Rattle.nf_net_laws.proofs.LinesBack.{within}
use Rattle.nf_net_laws.proofs.NumbersKept.{lowest_num, lowest_den}
use Rattle.nf_phase_run_laws.proofs.Lists.{entry_or, all_image}

abbrev pub AreFractions : List ℚ → Type 0
AreFractions xs = AllByRecursion IsFraction xs

-- one of two
pub either : {A : Type 0} (P : A → Type 0) (b : Bool) (x y : A) → P x → P y → P (if b then x else y)
either P true x y h k = h
either P false x y h k = k

-- ---- in lowest terms parts don't grow
ratio_fraction : (n : ℤ) (d : ℕ) → nat_abs n ≤ greatest → d ≤ greatest → IsFraction (ratio n d)
ratio_fraction n d h k =
    let small : nat_abs (ratio n d).num ≤ nat_abs n = lowest_num n d in
    or_from (nat_lt greatest (nat_abs (ratio n d).num)) (nat_lt greatest (ratio n d).den)
    (le-ltb greatest (nat_abs (ratio n d).num) (omega (arith, small, h))) (le-ltb greatest (ratio n d).den (lowest_den n d greatest (lit≤ tt) k))

-- ---- the results of operations
sum_fraction : (x y : ℚ) → sum_is_wide greatest x y ≡ false → IsFraction (x +ℚ y)
sum_fraction x y e =
    let left : ℤ = x.num *ℤ pos (y.den / gcd x.den y.den) in
    let right : ℤ = y.num *ℤ pos (x.den / gcd x.den y.den) in
    let den : ℕ = x.den * (y.den / gcd x.den y.den) in
    let h = or_parts (nat_lt greatest den) (nat_lt greatest (nat_abs left) || (nat_lt greatest (nat_abs right) || nat_lt greatest (nat_abs (left +ℤ right)))) e in
    let i = or_parts (nat_lt greatest (nat_abs left)) (nat_lt greatest (nat_abs right) || nat_lt greatest (nat_abs (left +ℤ right))) h.1 in
    let j = or_parts (nat_lt greatest (nat_abs right)) (nat_lt greatest (nat_abs (left +ℤ right))) i.1 in
    subst IsFraction (plus_over_lcm x y) (ratio_fraction (left +ℤ right) den (ltb-false greatest (nat_abs (left +ℤ right)) j.1) (ltb-false greatest den h.0))

pub result_fraction : (op : Op) (x y : ℚ) → passes_Q op x y ≡ false → IsFraction (result_of op x y)
unfolding beyond ◌-ℚ◌
result_fraction Sum x y e = sum_fraction x y e
result_fraction Difference x y e = sum_fraction x (neg_ℚ y) e
result_fraction Product x y e = e
result_fraction Quotient x y e = e

-- ---- without an operation
pub opposite_fraction : (x : ℚ) → IsFraction x → IsFraction (neg_ℚ x)
unfolding neg_ℚ
opposite_fraction x h = let parts = within x h in ratio_fraction (neg_ℤ x.num) x.den (subst (λ (k : ℕ). k ≤ greatest) (sym (abs-neg x.num)) parts.0) parts.1

pub least_fraction : (x y : ℚ) → IsFraction x → IsFraction y → IsFraction (min_ℚ x y)
unfolding min_ℚ
least_fraction x y h k = either IsFraction (le_ℚ x y) x y h k

pub zero_fraction : IsFraction 0ℚ
unfolding whole ratio gcd
zero_fraction = refl

pub one_fraction : IsFraction 1ℚ
unfolding whole ratio gcd
one_fraction = refl

pub flag_fraction : (b : Bool) → IsFraction (one_if b)
flag_fraction b = either IsFraction b 1ℚ 0ℚ one_fraction zero_fraction

pub gap_fraction : (a b : Bool) → IsFraction (one_if a -ℚ one_if b)
unfolding whole ratio gcd ◌-ℚ◌ ◌+ℚ◌ neg_ℚ
gap_fraction true true = refl
gap_fraction true false = refl
gap_fraction false true = refl
gap_fraction false false = refl

pub number_fraction : (xs : List ℚ) (i : ℕ) → AreFractions xs → IsFraction (number_at xs i)
number_fraction xs i all = entry_or IsFraction 0ℚ xs i all zero_fraction

-- ---- the numbers of a network
abbrev pub IsFractionLink : Link → Type 0
IsFractionLink link = IsFraction link.transit × IsFractionOrNone link.capacity

pub record HasFractions (net : Network) : Type 0 where
  pub links : AllByRecursion IsFractionLink net.links
  pub pieces : AllByRecursion IsFractionPiece net.pieces

pub capacity_fraction : (capacity : Option ℚ) → IsFractionOrNone capacity → IsFraction (unwrap_or capacity 0ℚ)
capacity_fraction None h = zero_fraction
capacity_fraction (Some x) h = h

rate_fraction_from : (before : ℚ) (pieces : List Piece) (time : ℚ) → IsFraction before → AllByRecursion IsFractionPiece pieces → IsFraction (rate_from before pieces time)
rate_fraction_from before [] time h all = h
rate_fraction_from before (piece ∷ later) time h all =
    either IsFraction (le_ℚ piece.start time) (rate_from piece.rate later time) before (rate_fraction_from piece.rate later time all.0.rate all.1) h

start_fraction_from : (pieces : List Piece) (time : ℚ) → AllByRecursion IsFractionPiece pieces → IsFractionOrNone (first_start pieces time)
start_fraction_from [] time all = tt
start_fraction_from (piece ∷ later) time all =
    either IsFractionOrNone (lt_ℚ time piece.start) (Some piece.start) (first_start later time) all.0.start (start_fraction_from later time all.1)

module _ (net : Network) (has : HasFractions net) where
  pub rate_fraction : (time : ℚ) → IsFraction (rate_at net time)
  rate_fraction time = rate_fraction_from 0ℚ net.pieces time zero_fraction has.pieces

  pub change_fraction : (time : ℚ) → IsFractionOrNone (next_change net time)
  change_fraction time = start_fraction_from net.pieces time has.pieces

  pub hop_fractions : AllByRecursion (λ hop. IsFraction hop.transit) (hops net)
  hop_fractions = all_image (λ (hop : Hop). IsFraction hop.transit) IsFractionLink hop_of (λ link h. h.0) net.links has.links
