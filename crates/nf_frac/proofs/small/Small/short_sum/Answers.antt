use Rattle.std.proofs.Common.{◌≡◌, ◌≤◌, ◌∙◌, ℕ, ℤ, nat_abs, sym, ap, subst}
use Rattle.nf_frac.proofs.Common.{le_refl, le_trans, gcd, ratio, short}
use native.Mathlib.Nat.{div-le_self}
use Rattle.nf_frac.proofs.Form.{stops}
use Rattle.nf_frac.proofs.SmallParts.{bits_64, plain_64}
use Rattle.nf_frac.proofs.Sums.{no_denominator, no_left, no_right, no_total, fits, value, den_positive, factor, n_plain, n_small}
use Rattle.nf_frac.proofs.small.Small.short_sum.Goals as goal

pub divided_short-left_factor-requires : goal.divided_short-left_factor-requires
divided_short-left_factor-requires c = c.common_factor-common.ensures.positive c.denom-right_den.ensures.positive

pub divided_short-right_factor-requires : goal.divided_short-right_factor-requires
divided_short-right_factor-requires c = c.common_factor-common.ensures.positive c.denom-right_den.ensures.positive

pub scaled-requires : goal.scaled-requires
scaled-requires c = le_trans (subst (λ (k : ℕ). k ≤ c.denom-right_den.result) (sym c.divided_short-left_factor.ensures) (div-le_self _ _)) c.denom-right_den.ensures.small

pub scaled-requires-2 : goal.scaled-requires-2
scaled-requires-2 c = le_trans (subst (λ (k : ℕ). k ≤ c.denom-den.result) (sym c.divided_short-right_factor.ensures) (div-le_self _ _)) c.denom-den.ensures.small

pub over-requires-clause-some : goal.over-requires-clause-some
over-requires-clause-some c = c.common_factor-common.ensures.positive c.denom-right_den.ensures.positive

pub over-requires-clause-bounded : goal.over-requires-clause-bounded
over-requires-clause-bounded c = le_trans (c.common_factor-common.ensures.small c.denom-right_den.ensures.positive) c.denom-right_den.ensures.small

pub over-requires-clause-small : goal.over-requires-clause-small
over-requires-clause-small c =
    let e = n_plain bits_64 short plain_64 c.args.self c.args.right _ _ _ _ _ short (le_refl short) (sym c.denom-den.ensures.value) (sym c.denom-right_den.ensures.value)
    c.common_factor-common.ensures.value c.divided_short-left_factor.ensures c.divided_short-right_factor.ensures
    _ _ c.in_ok-left_part.ensures c.in_ok-right_part.ensures c.in_ok-low.low c.in_ok-num.num c.in_ok-low.ensures c.in_ok-num.ensures in
    let h = n_small bits_64 short plain_64 c.args.self c.args.right _ _ _ _ _ short (le_refl short) (sym c.denom-den.ensures.value) (sym c.denom-right_den.ensures.value)
    c.common_factor-common.ensures.value c.divided_short-left_factor.ensures c.divided_short-right_factor.ensures
    _ _ c.in_ok-left_part.ensures c.in_ok-right_part.ensures c.in_ok-low.low c.in_ok-num.num c.in_ok-low.ensures c.in_ok-num.ensures in
    subst (λ (z : ℤ). nat_abs z ≤ short) (sym e) h

pub over-requires-clause-small_den : goal.over-requires-clause-small_den
over-requires-clause-small_den c = subst (λ (k : ℕ). k ≤ short) (sym c.in_ok-low.ensures.1) c.in_ok-low.ensures.0

pub returns-in_err-low : goal.returns-in_err-low
returns-in_err-low c =
    stops _ _ _ c.from_residual.ensures
    (no_denominator bits_64 short plain_64 c.args.self c.args.right _ _ _ _ _ short (le_refl short) (sym c.denom-den.ensures.value) (sym c.denom-right_den.ensures.value)
    c.common_factor-common.ensures.value c.divided_short-left_factor.ensures c.divided_short-right_factor.ensures c.in_err-low.ensures)

pub returns-in_err-left_part : goal.returns-in_err-left_part
returns-in_err-left_part c =
    stops _ _ _ c.from_residual-in_err-left_part.ensures
    (no_left bits_64 short plain_64 c.args.self c.args.right _ _ _ _ _ short (le_refl short) (sym c.denom-den.ensures.value) (sym c.denom-right_den.ensures.value)
    c.common_factor-common.ensures.value c.divided_short-left_factor.ensures c.divided_short-right_factor.ensures c.in_err-left_part.ensures)

pub returns-in_err-right_part : goal.returns-in_err-right_part
returns-in_err-right_part c =
    stops _ _ _ c.from_residual-in_err-right_part.ensures
    (no_right bits_64 short plain_64 c.args.self c.args.right _ _ _ _ _ short (le_refl short) (sym c.denom-den.ensures.value) (sym c.denom-right_den.ensures.value)
    c.common_factor-common.ensures.value c.divided_short-left_factor.ensures c.divided_short-right_factor.ensures c.in_err-right_part.ensures)

pub returns-in_err-num : goal.returns-in_err-num
returns-in_err-num c =
    stops _ _ _ c.from_residual-in_err-num.ensures
    (no_total bits_64 short plain_64 c.args.self c.args.right _ _ _ _ _ short (le_refl short) (sym c.denom-den.ensures.value) (sym c.denom-right_den.ensures.value)
    c.common_factor-common.ensures.value c.divided_short-left_factor.ensures c.divided_short-right_factor.ensures
    _ _ c.in_ok-left_part.ensures c.in_ok-right_part.ensures c.in_err-num.ensures)

pub over-requires-clause-positive : goal.over-requires-clause-positive
over-requires-clause-positive c =
    den_positive bits_64 short plain_64 c.args.self c.args.right _ _ _ _ _ short (le_refl short) (sym c.denom-den.ensures.value) (sym c.denom-right_den.ensures.value)
    c.common_factor-common.ensures.value c.divided_short-left_factor.ensures c.divided_short-right_factor.ensures
    _ _ c.in_ok-left_part.ensures c.in_ok-right_part.ensures c.in_ok-low.low c.in_ok-num.num c.in_ok-low.ensures c.in_ok-num.ensures

pub over-requires-clause-factor : goal.over-requires-clause-factor
over-requires-clause-factor c =
    let f = factor bits_64 short plain_64 c.args.self c.args.right _ _ _ _ _ short (le_refl short) (sym c.denom-den.ensures.value) (sym c.denom-right_den.ensures.value)
    c.common_factor-common.ensures.value c.divided_short-left_factor.ensures c.divided_short-right_factor.ensures
    _ _ c.in_ok-left_part.ensures c.in_ok-right_part.ensures c.in_ok-low.low c.in_ok-num.num c.in_ok-low.ensures c.in_ok-num.ensures in
    let e = n_plain bits_64 short plain_64 c.args.self c.args.right _ _ _ _ _ short (le_refl short) (sym c.denom-den.ensures.value) (sym c.denom-right_den.ensures.value)
    c.common_factor-common.ensures.value c.divided_short-left_factor.ensures c.divided_short-right_factor.ensures
    _ _ c.in_ok-left_part.ensures c.in_ok-right_part.ensures c.in_ok-low.low c.in_ok-num.num c.in_ok-low.ensures c.in_ok-num.ensures in
    subst (λ (z : ℤ). gcd (nat_abs z) c.common_factor-common.result ≡ gcd (nat_abs z) c.in_ok-low.low) (sym e) f

pub returns : goal.returns
returns c =
    let w = fits bits_64 short plain_64 c.args.self c.args.right _ _ _ _ _ short (le_refl short) (sym c.denom-den.ensures.value) (sym c.denom-right_den.ensures.value)
    c.common_factor-common.ensures.value c.divided_short-left_factor.ensures c.divided_short-right_factor.ensures
    _ _ c.in_ok-left_part.ensures c.in_ok-right_part.ensures c.in_ok-low.low c.in_ok-num.num c.in_ok-low.ensures c.in_ok-num.ensures in
    let v = value bits_64 short plain_64 c.args.self c.args.right _ _ _ _ _ short (le_refl short) (sym c.denom-den.ensures.value) (sym c.denom-right_den.ensures.value)
    c.common_factor-common.ensures.value c.divided_short-left_factor.ensures c.divided_short-right_factor.ensures
    _ _ c.in_ok-left_part.ensures c.in_ok-right_part.ensures c.in_ok-low.low c.in_ok-num.num c.in_ok-low.ensures c.in_ok-num.ensures in
    let e = n_plain bits_64 short plain_64 c.args.self c.args.right _ _ _ _ _ short (le_refl short) (sym c.denom-den.ensures.value) (sym c.denom-right_den.ensures.value)
    c.common_factor-common.ensures.value c.divided_short-left_factor.ensures c.divided_short-right_factor.ensures
    _ _ c.in_ok-left_part.ensures c.in_ok-right_part.ensures c.in_ok-low.low c.in_ok-num.num c.in_ok-low.ensures c.in_ok-num.ensures in
    (w, c.over.ensures ∙ ap (λ (z : ℤ). ratio z c.in_ok-low.low) e ∙ v)
