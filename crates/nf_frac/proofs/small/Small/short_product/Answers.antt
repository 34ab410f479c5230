use Rattle.std.proofs.Common.{refl, ◌∙◌}
use Rattle.nf_frac.proofs.Common.{short}
use Rattle.nf_frac.proofs.Form.{stops}
use Rattle.nf_frac.proofs.Products.{no_num, no_den, num_of_product, den_of_product, product_within}
use Rattle.nf_frac.proofs.ShortProducts.{left_num, left_den}
use Rattle.nf_frac.proofs.SmallParts.{short_form, short_value}
use Rattle.nf_frac.proofs.small.Small.short_product.Goals as goal

pub returns-in_err-num : goal.returns-in_err-num
returns-in_err-num c =
    let x = c.args.self in
    let y = c.args.right in
    let q = left_num x y _ _ _ c.numer.ensures.value c.numer.ensures.small c.common_with-left.ensures.value c.part_of.ensures in
    let r = left_num y x _ _ _ c.numer-2.ensures.value c.numer-2.ensures.small c.common_with-other.ensures.value c.part_of-2.ensures in
    stops _ _ _ c.from_residual.ensures (no_num x y _ _ _ _ short q r refl refl c.in_err-num.ensures)

pub returns-in_err-den : goal.returns-in_err-den
returns-in_err-den c =
    let x = c.args.self in
    let y = c.args.right in
    let q = left_num x y _ _ _ c.numer.ensures.value c.numer.ensures.small c.common_with-left.ensures.value c.part_of.ensures in
    let r = left_num y x _ _ _ c.numer-2.ensures.value c.numer-2.ensures.small c.common_with-other.ensures.value c.part_of-2.ensures in
    let u = left_den x y _ _ _ c.denom-2.ensures.value c.common_with-other.ensures.value c.divided_short.ensures in
    let v = left_den y x _ _ _ c.denom-3.ensures.value c.common_with-left.ensures.value c.divided_short-2.ensures in
    stops _ _ _ c.from_residual-in_err-den.ensures (no_den x y _ _ _ _ short q r u v c.in_err-den.ensures)

pub of-requires : goal.of-requires
of-requires c =
    let x = c.args.self in
    let y = c.args.right in
    let q = left_num x y _ _ _ c.numer.ensures.value c.numer.ensures.small c.common_with-left.ensures.value c.part_of.ensures in
    let r = left_num y x _ _ _ c.numer-2.ensures.value c.numer-2.ensures.small c.common_with-other.ensures.value c.part_of-2.ensures in
    let u = left_den x y _ _ _ c.denom-2.ensures.value c.common_with-other.ensures.value c.divided_short.ensures in
    let v = left_den y x _ _ _ c.denom-3.ensures.value c.common_with-left.ensures.value c.divided_short-2.ensures in
    let n = num_of_product x y _ _ _ _ short q r u v c.in_ok-num.num c.in_ok-den.den c.in_ok-num.ensures c.in_ok-den.ensures in
    let d = den_of_product x y _ _ _ _ short q r u v c.in_ok-num.num c.in_ok-den.den c.in_ok-num.ensures c.in_ok-den.ensures in
    let w = product_within x y _ _ _ _ short q r u v c.in_ok-num.num c.in_ok-den.den c.in_ok-num.ensures c.in_ok-den.ensures in
    short_form _ _ _ n d w

pub returns : goal.returns
returns c =
    let x = c.args.self in
    let y = c.args.right in
    let q = left_num x y _ _ _ c.numer.ensures.value c.numer.ensures.small c.common_with-left.ensures.value c.part_of.ensures in
    let r = left_num y x _ _ _ c.numer-2.ensures.value c.numer-2.ensures.small c.common_with-other.ensures.value c.part_of-2.ensures in
    let u = left_den x y _ _ _ c.denom-2.ensures.value c.common_with-other.ensures.value c.divided_short.ensures in
    let v = left_den y x _ _ _ c.denom-3.ensures.value c.common_with-left.ensures.value c.divided_short-2.ensures in
    let n = num_of_product x y _ _ _ _ short q r u v c.in_ok-num.num c.in_ok-den.den c.in_ok-num.ensures c.in_ok-den.ensures in
    let d = den_of_product x y _ _ _ _ short q r u v c.in_ok-num.num c.in_ok-den.den c.in_ok-num.ensures c.in_ok-den.ensures in
    let w = product_within x y _ _ _ _ short q r u v c.in_ok-num.num c.in_ok-den.den c.in_ok-num.ensures c.in_ok-den.ensures in
    (w, c.of.ensures.value ∙ short_value _ _ _ n d w)
