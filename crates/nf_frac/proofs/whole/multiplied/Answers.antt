use Rattle.nf_frac.proofs.Common.{le_trans}
use Rattle.nf_frac.proofs.Bits.{short_product, short_times, size_of, size_along, size_beyond, product_bits_fit}
use Rattle.nf_frac.proofs.whole.multiplied.Goals as goal

pub returns-then-unsigned_abs-limit : goal.returns-then-unsigned_abs-limit
returns-then-unsigned_abs-limit c =
    let a = size_of c.args.a _ _ c.ranges.a c.unsigned_abs.ensures.value c.if-unsigned_abs-le-SHORT.true in
    let b = size_of c.args.b _ _ c.ranges.b c.unsigned_abs-then-unsigned_abs-le-SHORT.ensures.value c.if-unsigned_abs-le-SHORT-2.true in
    let same = short_times c.args.a c.args.b c.ranges.a c.ranges.b a b in
    (size_along _ _ _ _ same c.unsigned_abs-then-unsigned_abs-le-SHORT-2.ensures.value c.if-unsigned_abs-limit.true, same)

pub overflow_mul-product : goal.overflow_mul-product
overflow_mul-product c =
    let a = size_of c.args.a _ _ c.ranges.a c.unsigned_abs.ensures.value c.if-unsigned_abs-le-SHORT.true in
    let b = size_of c.args.b _ _ c.ranges.b c.unsigned_abs-then-unsigned_abs-le-SHORT.ensures.value c.if-unsigned_abs-le-SHORT-2.true in
    product_bits_fit c.args.a c.args.b c.ranges.a c.ranges.b (short_product c.args.a c.args.b a b)

pub returns-else-unsigned_abs-limit : goal.returns-else-unsigned_abs-limit
returns-else-unsigned_abs-limit c =
    let a = size_of c.args.a _ _ c.ranges.a c.unsigned_abs.ensures.value c.if-unsigned_abs-le-SHORT.true in
    let b = size_of c.args.b _ _ c.ranges.b c.unsigned_abs-then-unsigned_abs-le-SHORT.ensures.value c.if-unsigned_abs-le-SHORT-2.true in
    let same = short_times c.args.a c.args.b c.ranges.a c.ranges.b a b in
    size_beyond _ _ _ _ same c.unsigned_abs-then-unsigned_abs-le-SHORT-2.ensures.value c.if-unsigned_abs-limit.false

pub returns-in_default-2 : goal.returns-in_default-2
returns-in_default-2 c h = c.in_default.ensures {u = tt} (product_bits_fit c.args.a c.args.b c.ranges.a c.ranges.b (le_trans h c.requires))
