use Rattle.std.proofs.Common.{sym, refl, ◌∙◌, ◌/◌, ℕ}
use Rattle.nf_frac.proofs.Common.{le_trans}
use mathlib.Core.Path.{ap₂}
use Rattle.nf_frac.proofs.Form.{parts_of, num_plain, stops, form_of, value_of, within_more, own_within}
use Rattle.nf_frac.proofs.Products.{factor_is, part_plain, no_num, no_den, num_of_product, den_of_product, product_within}
use Rattle.nf_frac.proofs.lowest.Lowest.product.Goals as goal

pub shortened-requires-clause-positive : goal.shortened-requires-clause-positive
shortened-requires-clause-positive c = c.gcd_of-left.ensures.positive c.right.invariant.positive

pub shortened-requires-clause-bounded : goal.shortened-requires-clause-bounded
shortened-requires-clause-bounded c = le_trans (c.gcd_of-left.ensures.small c.right.invariant.positive) c.right.invariant.small_den

pub shortened-requires-2-clause-positive : goal.shortened-requires-2-clause-positive
shortened-requires-2-clause-positive c = c.gcd_of-other.ensures.positive c.self.invariant.positive

pub shortened-requires-2-clause-bounded : goal.shortened-requires-2-clause-bounded
shortened-requires-2-clause-bounded c = le_trans (c.gcd_of-other.ensures.small c.self.invariant.positive) c.self.invariant.small_den

pub multiplied-requires : goal.multiplied-requires
multiplied-requires c = c.requires

pub divided-requires : goal.divided-requires
divided-requires c = c.gcd_of-other.ensures.positive c.self.invariant.positive

pub divided-requires-2 : goal.divided-requires-2
divided-requires-2 c = c.gcd_of-left.ensures.positive c.right.invariant.positive

pub returns-in_err-num : goal.returns-in_err-num
returns-in_err-num c =
    let x = c.args.self in
    let y = c.args.right in
    let xn = num_plain c.self.invariant c.self.view_is in
    let yn = num_plain c.right.invariant c.right.view_is in
    let xd = (parts_of c.self.invariant c.self.view_is).den in
    let yd = (parts_of c.right.invariant c.right.view_is).den in
    let q = part_plain x y _ _ _ _ _ xn (own_within c.self.invariant c.self.view_is).small yd c.unsigned_abs.ensures.value c.gcd_of-left.ensures.value c.shortened.ensures in
    let r = part_plain y x _ _ _ _ _ yn (own_within c.right.invariant c.right.view_is).small xd c.unsigned_abs-2.ensures.value c.gcd_of-other.ensures.value c.shortened-2.ensures in
    let g = factor_is x y _ _ _ _ _ xn (own_within c.self.invariant c.self.view_is).small yd c.unsigned_abs.ensures.value c.gcd_of-left.ensures.value c.shortened.ensures in
    let h = factor_is y x _ _ _ _ _ yn (own_within c.right.invariant c.right.view_is).small xd c.unsigned_abs-2.ensures.value c.gcd_of-other.ensures.value c.shortened-2.ensures in
    stops _ _ _ c.from_residual.ensures (no_num x y _ _ _ _ c.args.limit q r refl refl c.in_err-num.ensures)

pub returns-in_err-den : goal.returns-in_err-den
returns-in_err-den c =
    let x = c.args.self in
    let y = c.args.right in
    let xn = num_plain c.self.invariant c.self.view_is in
    let yn = num_plain c.right.invariant c.right.view_is in
    let xd = (parts_of c.self.invariant c.self.view_is).den in
    let yd = (parts_of c.right.invariant c.right.view_is).den in
    let q = part_plain x y _ _ _ _ _ xn (own_within c.self.invariant c.self.view_is).small yd c.unsigned_abs.ensures.value c.gcd_of-left.ensures.value c.shortened.ensures in
    let r = part_plain y x _ _ _ _ _ yn (own_within c.right.invariant c.right.view_is).small xd c.unsigned_abs-2.ensures.value c.gcd_of-other.ensures.value c.shortened-2.ensures in
    let g = factor_is x y _ _ _ _ _ xn (own_within c.self.invariant c.self.view_is).small yd c.unsigned_abs.ensures.value c.gcd_of-left.ensures.value c.shortened.ensures in
    let h = factor_is y x _ _ _ _ _ yn (own_within c.right.invariant c.right.view_is).small xd c.unsigned_abs-2.ensures.value c.gcd_of-other.ensures.value c.shortened-2.ensures in
    let u = c.divided.ensures ∙ ap₂ (λ (a b : ℕ). a / b) (sym xd) h in
    let v = c.divided-2.ensures ∙ ap₂ (λ (a b : ℕ). a / b) (sym yd) g in
    stops _ _ _ c.from_residual-in_err-den.ensures (no_den x y _ _ _ _ c.args.limit q r u v c.in_err-den.ensures)

pub invariant_of-result : goal.invariant_of-result
invariant_of-result c =
    let x = c.args.self in
    let y = c.args.right in
    let xn = num_plain c.self.invariant c.self.view_is in
    let yn = num_plain c.right.invariant c.right.view_is in
    let xd = (parts_of c.self.invariant c.self.view_is).den in
    let yd = (parts_of c.right.invariant c.right.view_is).den in
    let q = part_plain x y _ _ _ _ _ xn (own_within c.self.invariant c.self.view_is).small yd c.unsigned_abs.ensures.value c.gcd_of-left.ensures.value c.shortened.ensures in
    let r = part_plain y x _ _ _ _ _ yn (own_within c.right.invariant c.right.view_is).small xd c.unsigned_abs-2.ensures.value c.gcd_of-other.ensures.value c.shortened-2.ensures in
    let g = factor_is x y _ _ _ _ _ xn (own_within c.self.invariant c.self.view_is).small yd c.unsigned_abs.ensures.value c.gcd_of-left.ensures.value c.shortened.ensures in
    let h = factor_is y x _ _ _ _ _ yn (own_within c.right.invariant c.right.view_is).small xd c.unsigned_abs-2.ensures.value c.gcd_of-other.ensures.value c.shortened-2.ensures in
    let u = c.divided.ensures ∙ ap₂ (λ (a b : ℕ). a / b) (sym xd) h in
    let v = c.divided-2.ensures ∙ ap₂ (λ (a b : ℕ). a / b) (sym yd) g in
    let n = num_of_product x y _ _ _ _ c.args.limit q r u v c.in_ok-num.num c.in_ok-den.den c.in_ok-num.ensures c.in_ok-den.ensures in
    let d = den_of_product x y _ _ _ _ c.args.limit q r u v c.in_ok-num.num c.in_ok-den.den c.in_ok-num.ensures c.in_ok-den.ensures in
    let w = product_within x y _ _ _ _ c.args.limit q r u v c.in_ok-num.num c.in_ok-den.den c.in_ok-num.ensures c.in_ok-den.ensures in
    form_of _ _ _ n d (within_more c.requires w)

pub returns : goal.returns
returns c =
    let x = c.args.self in
    let y = c.args.right in
    let xn = num_plain c.self.invariant c.self.view_is in
    let yn = num_plain c.right.invariant c.right.view_is in
    let xd = (parts_of c.self.invariant c.self.view_is).den in
    let yd = (parts_of c.right.invariant c.right.view_is).den in
    let q = part_plain x y _ _ _ _ _ xn (own_within c.self.invariant c.self.view_is).small yd c.unsigned_abs.ensures.value c.gcd_of-left.ensures.value c.shortened.ensures in
    let r = part_plain y x _ _ _ _ _ yn (own_within c.right.invariant c.right.view_is).small xd c.unsigned_abs-2.ensures.value c.gcd_of-other.ensures.value c.shortened-2.ensures in
    let g = factor_is x y _ _ _ _ _ xn (own_within c.self.invariant c.self.view_is).small yd c.unsigned_abs.ensures.value c.gcd_of-left.ensures.value c.shortened.ensures in
    let h = factor_is y x _ _ _ _ _ yn (own_within c.right.invariant c.right.view_is).small xd c.unsigned_abs-2.ensures.value c.gcd_of-other.ensures.value c.shortened-2.ensures in
    let u = c.divided.ensures ∙ ap₂ (λ (a b : ℕ). a / b) (sym xd) h in
    let v = c.divided-2.ensures ∙ ap₂ (λ (a b : ℕ). a / b) (sym yd) g in
    let n = num_of_product x y _ _ _ _ c.args.limit q r u v c.in_ok-num.num c.in_ok-den.den c.in_ok-num.ensures c.in_ok-den.ensures in
    let d = den_of_product x y _ _ _ _ c.args.limit q r u v c.in_ok-num.num c.in_ok-den.den c.in_ok-num.ensures c.in_ok-den.ensures in
    let w = product_within x y _ _ _ _ c.args.limit q r u v c.in_ok-num.num c.in_ok-den.den c.in_ok-num.ensures c.in_ok-den.ensures in
    (w, value_of _ _ _ n d (within_more c.requires w))
