use Rattle.std.proofs.Common.{refl, ◌∙◌, arith}
use Rattle.nf_frac.proofs.Common.{short}
use Rattle.nf_frac.proofs.Form.{stops}
use Rattle.nf_frac.proofs.Products.{no_num, num_of_product, den_of_product, product_within}
use Rattle.nf_frac.proofs.ShortProducts.{whole_num, whole_den}
use Rattle.nf_frac.proofs.SmallParts.{short_form, short_value}
use Rattle.nf_frac.proofs.small.Small.whole_product.Goals as goal

pub returns-in_err-num : goal.returns-in_err-num
returns-in_err-num c =
    let x = c.args.self in
    let y = c.args.right in
    let q = whole_num x y _ c.numer.ensures.value c.numer.ensures.small c.requires.right in
    let r = whole_num y x _ c.numer-2.ensures.value c.numer-2.ensures.small c.requires.left in
    stops _ _ _ c.from_residual.ensures (no_num x y _ _ _ _ short q r refl refl c.in_err-num.ensures)

pub of-requires : goal.of-requires
of-requires c =
    let x = c.args.self in
    let y = c.args.right in
    let q = whole_num x y _ c.numer.ensures.value c.numer.ensures.small c.requires.right in
    let r = whole_num y x _ c.numer-2.ensures.value c.numer-2.ensures.small c.requires.left in
    let u = whole_den x y c.requires.left in
    let v = whole_den y x c.requires.right in
    let n = num_of_product x y _ _ _ _ short q r u v c.in_ok-num.num 1 c.in_ok-num.ensures (omega arith, refl) in
    let d = den_of_product x y _ _ _ _ short q r u v c.in_ok-num.num 1 c.in_ok-num.ensures (omega arith, refl) in
    let w = product_within x y _ _ _ _ short q r u v c.in_ok-num.num 1 c.in_ok-num.ensures (omega arith, refl) in
    short_form _ _ _ n d w

pub returns : goal.returns
returns c =
    let x = c.args.self in
    let y = c.args.right in
    let q = whole_num x y _ c.numer.ensures.value c.numer.ensures.small c.requires.right in
    let r = whole_num y x _ c.numer-2.ensures.value c.numer-2.ensures.small c.requires.left in
    let u = whole_den x y c.requires.left in
    let v = whole_den y x c.requires.right in
    let n = num_of_product x y _ _ _ _ short q r u v c.in_ok-num.num 1 c.in_ok-num.ensures (omega arith, refl) in
    let d = den_of_product x y _ _ _ _ short q r u v c.in_ok-num.num 1 c.in_ok-num.ensures (omega arith, refl) in
    let w = product_within x y _ _ _ _ short q r u v c.in_ok-num.num 1 c.in_ok-num.ensures (omega arith, refl) in
    (w, c.of.ensures.value ∙ short_value _ _ _ n d w)
