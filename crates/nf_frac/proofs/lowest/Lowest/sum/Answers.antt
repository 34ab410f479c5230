use Rattle.std.proofs.Common.{◌≡◌, ◌≤◌, ◌∙◌, ℕ, ℤ, nat_abs, sym, ap, subst}
use Rattle.nf_frac.proofs.Common.{le_trans, gcd, ratio, greatest}
use native.Mathlib.Nat.{div-le_self}
use Rattle.nf_frac.proofs.Bits.{bits_of, plain}
use Rattle.nf_frac.proofs.Form.{parts_of, stops}
use Rattle.nf_frac.proofs.Sums.{no_denominator, no_left, no_right, no_total, fits, value, den_positive, factor, n_plain, n_small}
use Rattle.nf_frac.proofs.lowest.Lowest.sum.Goals as goal

pub divided-left_factor-requires : goal.divided-left_factor-requires
divided-left_factor-requires c = c.gcd_of-common.ensures.positive c.right.invariant.positive

pub divided-right_factor-requires : goal.divided-right_factor-requires
divided-right_factor-requires c = c.gcd_of-common.ensures.positive c.right.invariant.positive

pub scaled-requires-clause-bounded : goal.scaled-requires-clause-bounded
scaled-requires-clause-bounded c =
    le_trans (subst (λ (k : ℕ). k ≤ c.right.inside.den) (sym c.divided-left_factor.ensures) (div-le_self _ _)) c.right.invariant.small_den

pub scaled-requires-clause-narrow : goal.scaled-requires-clause-narrow
scaled-requires-clause-narrow c = c.requires

pub scaled-requires-2-clause-bounded : goal.scaled-requires-2-clause-bounded
scaled-requires-2-clause-bounded c =
    le_trans (subst (λ (k : ℕ). k ≤ c.self.inside.den) (sym c.divided-right_factor.ensures) (div-le_self _ _)) c.self.invariant.small_den

pub scaled-requires-2-clause-narrow : goal.scaled-requires-2-clause-narrow
scaled-requires-2-clause-narrow c = c.requires

pub added-requires : goal.added-requires
added-requires c = c.requires

pub over-requires-clause-some : goal.over-requires-clause-some
over-requires-clause-some c = c.gcd_of-common.ensures.positive c.right.invariant.positive

pub over-requires-clause-bounded : goal.over-requires-clause-bounded
over-requires-clause-bounded c = le_trans (c.gcd_of-common.ensures.small c.right.invariant.positive) c.right.invariant.small_den

pub over-requires-clause-small : goal.over-requires-clause-small
over-requires-clause-small c =
    let p = parts_of c.self.invariant c.self.view_is in
    let q = parts_of c.right.invariant c.right.view_is in
    let e = n_plain bits_of greatest plain c.args.self c.args.right _ _ _ _ _ _ c.requires p.den q.den c.gcd_of-common.ensures.value
    c.divided-left_factor.ensures c.divided-right_factor.ensures
    _ _ c.in_ok-left_part.ensures c.in_ok-right_part.ensures c.in_ok-den.den c.in_ok-num.num c.in_ok-den.ensures c.in_ok-num.ensures in
    let h = n_small bits_of greatest plain c.args.self c.args.right _ _ _ _ _ _ c.requires p.den q.den c.gcd_of-common.ensures.value
    c.divided-left_factor.ensures c.divided-right_factor.ensures
    _ _ c.in_ok-left_part.ensures c.in_ok-right_part.ensures c.in_ok-den.den c.in_ok-num.num c.in_ok-den.ensures c.in_ok-num.ensures in
    subst (λ (z : ℤ). nat_abs z ≤ greatest) (sym e) (le_trans h c.requires)

pub over-requires-clause-small_den : goal.over-requires-clause-small_den
over-requires-clause-small_den c = le_trans (subst (λ (k : ℕ). k ≤ c.args.limit) (sym c.in_ok-den.ensures.1) c.in_ok-den.ensures.0) c.requires

pub returns-in_err-den : goal.returns-in_err-den
returns-in_err-den c =
    let p = parts_of c.self.invariant c.self.view_is in
    let q = parts_of c.right.invariant c.right.view_is in
    stops _ _ _ c.from_residual.ensures
    (no_denominator bits_of greatest plain c.args.self c.args.right _ _ _ _ _ _ c.requires p.den q.den c.gcd_of-common.ensures.value
    c.divided-left_factor.ensures c.divided-right_factor.ensures c.in_err-den.ensures)

pub returns-in_err-left_part : goal.returns-in_err-left_part
returns-in_err-left_part c =
    let p = parts_of c.self.invariant c.self.view_is in
    let q = parts_of c.right.invariant c.right.view_is in
    stops _ _ _ c.from_residual-in_err-left_part.ensures
    (no_left bits_of greatest plain c.args.self c.args.right _ _ _ _ _ _ c.requires p.den q.den c.gcd_of-common.ensures.value c.divided-left_factor.ensures
    c.divided-right_factor.ensures c.in_err-left_part.ensures)

pub returns-in_err-right_part : goal.returns-in_err-right_part
returns-in_err-right_part c =
    let p = parts_of c.self.invariant c.self.view_is in
    let q = parts_of c.right.invariant c.right.view_is in
    stops _ _ _ c.from_residual-in_err-right_part.ensures
    (no_right bits_of greatest plain c.args.self c.args.right _ _ _ _ _ _ c.requires p.den q.den c.gcd_of-common.ensures.value c.divided-left_factor.ensures
    c.divided-right_factor.ensures c.in_err-right_part.ensures)

pub returns-in_err-num : goal.returns-in_err-num
returns-in_err-num c =
    let p = parts_of c.self.invariant c.self.view_is in
    let q = parts_of c.right.invariant c.right.view_is in
    stops _ _ _ c.from_residual-in_err-num.ensures
    (no_total bits_of greatest plain c.args.self c.args.right _ _ _ _ _ _ c.requires p.den q.den c.gcd_of-common.ensures.value c.divided-left_factor.ensures
    c.divided-right_factor.ensures
    _ _ c.in_ok-left_part.ensures c.in_ok-right_part.ensures c.in_err-num.ensures)

pub over-requires-clause-positive : goal.over-requires-clause-positive
over-requires-clause-positive c =
    let p = parts_of c.self.invariant c.self.view_is in
    let q = parts_of c.right.invariant c.right.view_is in
    den_positive bits_of greatest plain c.args.self c.args.right _ _ _ _ _ _ c.requires p.den q.den c.gcd_of-common.ensures.value
    c.divided-left_factor.ensures c.divided-right_factor.ensures
    _ _ c.in_ok-left_part.ensures c.in_ok-right_part.ensures _ _ c.in_ok-den.ensures c.in_ok-num.ensures

pub over-requires-clause-factor : goal.over-requires-clause-factor
over-requires-clause-factor c =
    let p = parts_of c.self.invariant c.self.view_is in
    let q = parts_of c.right.invariant c.right.view_is in
    let f = factor bits_of greatest plain c.args.self c.args.right _ _ _ _ _ _ c.requires p.den q.den c.gcd_of-common.ensures.value
    c.divided-left_factor.ensures c.divided-right_factor.ensures
    _ _ c.in_ok-left_part.ensures c.in_ok-right_part.ensures c.in_ok-den.den c.in_ok-num.num c.in_ok-den.ensures c.in_ok-num.ensures in
    let e = n_plain bits_of greatest plain c.args.self c.args.right _ _ _ _ _ _ c.requires p.den q.den c.gcd_of-common.ensures.value
    c.divided-left_factor.ensures c.divided-right_factor.ensures
    _ _ c.in_ok-left_part.ensures c.in_ok-right_part.ensures c.in_ok-den.den c.in_ok-num.num c.in_ok-den.ensures c.in_ok-num.ensures in
    subst (λ (z : ℤ). gcd (nat_abs z) c.gcd_of-common.result ≡ gcd (nat_abs z) c.in_ok-den.den) (sym e) f

pub returns : goal.returns
returns c =
    let p = parts_of c.self.invariant c.self.view_is in
    let q = parts_of c.right.invariant c.right.view_is in
    let w = fits bits_of greatest plain c.args.self c.args.right _ _ _ _ _ _ c.requires p.den q.den c.gcd_of-common.ensures.value
    c.divided-left_factor.ensures c.divided-right_factor.ensures
    _ _ c.in_ok-left_part.ensures c.in_ok-right_part.ensures c.in_ok-den.den c.in_ok-num.num c.in_ok-den.ensures c.in_ok-num.ensures in
    let v = value bits_of greatest plain c.args.self c.args.right _ _ _ _ _ _ c.requires p.den q.den c.gcd_of-common.ensures.value
    c.divided-left_factor.ensures c.divided-right_factor.ensures
    _ _ c.in_ok-left_part.ensures c.in_ok-right_part.ensures c.in_ok-den.den c.in_ok-num.num c.in_ok-den.ensures c.in_ok-num.ensures in
    let e = n_plain bits_of greatest plain c.args.self c.args.right _ _ _ _ _ _ c.requires p.den q.den c.gcd_of-common.ensures.value
    c.divided-left_factor.ensures c.divided-right_factor.ensures
    _ _ c.in_ok-left_part.ensures c.in_ok-right_part.ensures c.in_ok-den.den c.in_ok-num.num c.in_ok-den.ensures c.in_ok-num.ensures in
    (w, c.over.ensures ∙ ap (λ (z : ℤ). ratio z c.in_ok-den.den) e ∙ v)
